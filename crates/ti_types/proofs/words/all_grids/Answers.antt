use Rattle.std.proofs.Common.{sym, ap, ◌∙◌, arith}
use Rattle.ti_syntax.specs.Trees.Views.{grid_of}
use Rattle.ti_rules.specs.Mirrors.First.{earlier_of, earliest}
use Rattle.ti_rules.specs.Broken.Words.{grid_refusals}
use Rattle.ti_types.proofs.Loops.{none_sooner, seen_step, seen_end}
use Rattle.ti_types.proofs.words.all_grids.Goals as goal

pub loop-grid-init : goal.loop-grid-init
loop-grid-init c = none_sooner _

pub loop-grid-preserved : goal.loop-grid-preserved
loop-grid-preserved c = c.loop-grid.invariant ∙ seen_step grid_of grid_refusals c.args.grids.now c.loop-grid.grid-index c.grid-item.result
    c.loop-grid.found c.earlier_of-found.result (omega arith) (c.earlier_of-found.ensures
    ∙ ap (earlier_of c.loop-grid.found) (c.one_grid.ensures ∙ ap (λ g. earliest (grid_refusals (grid_of g))) c.grid-item.is))

pub returns : goal.returns
returns c = sym (c.loop-grid.invariant ∙ seen_end grid_of grid_refusals c.args.grids.now c.loop-grid.grid-index c.loop-grid.found (omega arith))
