use Rattle.std.proofs.Common.{◌≡◌, drop, flat_map, map}
use Rattle.ti_syntax.specs.Trees.Views.{grid_of}
use Rattle.ti_rules.specs.Mirrors.First.{earlier_of, earliest}
use Rattle.ti_rules.specs.Broken.Words.{grid_refusals}
use Rattle.ti_types.proofs.words.all_grids.Given as goal

abbrev pub invariant-loop-grid : goal.invariant-loop-grid
invariant-loop-grid l = earliest (flat_map grid_refusals (map grid_of l.grids)) ≡ earlier_of l.found (earliest (flat_map grid_refusals (map grid_of (drop l.grid-index l.grids))))
