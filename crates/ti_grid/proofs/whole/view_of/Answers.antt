use Rattle.std.proofs.Common.{length, sym, subst}
use Rattle.ti_base.specs.declared.point.Rect.{Rect}
use Rattle.ti_base.specs.Rects.{points_of}
use Rattle.ti_grid.specs.Views.{NumbersBelow}
use Rattle.ti_grid.proofs.WholeLaws.{whole_below}
use Rattle.ti_grid.proofs.whole.view_of.Goals as goal

pub returns-clause-below : goal.returns-clause-below
returns-clause-below c =
    subst (NumbersBelow (length (points_of c.args.dom.now))) (sym c.view_from_layout.ensures)
    (subst (λ (r : Rect). NumbersBelow (length (points_of r)) c.row_major_layout.result) c.row_major_layout.ensures.dom (whole_below c.row_major_layout.result c.row_major_layout.ensures.numbers))
