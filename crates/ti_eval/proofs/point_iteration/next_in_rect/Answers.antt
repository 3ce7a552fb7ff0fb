use Rattle.ti_eval.proofs.Nexts.{list_of_rect, next_listed, next_formed}
use Rattle.ti_eval.proofs.point_iteration.next_in_rect.Goals as goal

pub returns-clause-list : goal.returns-clause-list
returns-clause-list c = list_of_rect c.args.rect.now c.requires.rect

pub returns-clause-form : goal.returns-clause-form
returns-clause-form c = next_formed c.args.rect.now c.requires.rect _ _ c.rect_next_after.ensures

pub returns-clause-next : goal.returns-clause-next
returns-clause-next c = next_listed c.args.rect.now c.requires.rect _ _ c.rect_next_after.ensures
