use Rattle.ti_base.proofs.FormLaws.{is_point_decides, is_rect_decides}
use Rattle.ti_base.proofs.laws.forms_are_told.Goals as goal

pub returns-clause-points : goal.returns-clause-points
returns-clause-points c = is_point_decides

pub returns-clause-rects : goal.returns-clause-rects
returns-clause-rects c = is_rect_decides
