use Rattle.std.proofs.Common.{◌≤◌, length, subst}
use Rattle.ti_base.specs.Rects.{points_of}
use Rattle.ti_grid.specs.declared.layout.Layout.{Layout}
use Rattle.ti_grid.specs.Views.{DifferInCells}
use Rattle.ti_grid.proofs.SeenLaws.{few, differ}
use Rattle.ti_grid.proofs.view.View.domain.Goals as goal

pub returns-clause-few : goal.returns-clause-few
returns-clause-few c = subst (λ (v : Layout). length (points_of v.dom) ≤ 1048576) c.self.view_is (few c.self.inside.layout c.self.invariant)

pub returns-clause-differ : goal.returns-clause-differ
returns-clause-differ c = subst DifferInCells c.self.view_is (differ c.self.inside.layout c.self.invariant)
