use Rattle.ti_rect.proofs.RectLaws.{point_in}
use Rattle.ti_rect.proofs.laws.points_are_canonical.Goals as goal

pub returns : goal.returns
returns c = point_in
