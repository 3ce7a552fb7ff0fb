use Rattle.ti_rect.proofs.NextLaws.{first_of_all}
use Rattle.ti_rect.proofs.RectLaws.{full}
use Rattle.ti_rect.proofs.ReadBack.{clash}
use Rattle.ti_rect.proofs.next.least_point.Goals as goal

pub returns-else-is_empty : goal.returns-else-is_empty
returns-else-is_empty c = first_of_all c.args.rect.now (full c.args.rect.now c.requires (λ e. clash c.is_empty.result (c.is_empty.ensures.1 e) c.if-is_empty.false))
