use Rattle.std.proofs.Common.{◌≡◌, map, drop, length, ◌≤◌}
use Rattle.ti_syntax.specs.Trees.Views.{grid_of}
use Rattle.ti_lang.specs.Program.Views.{value_type_of}
use Rattle.ti_lang.specs.Scopes.{grid_type}
use Rattle.ti_names.proofs.context.NameContext.grid_type.Given as goal

abbrev pub invariant-loop-left : goal.invariant-loop-left
invariant-loop-left l = (l.left ≤ length l.grids) × (value_type_of l.ty ≡ grid_type (value_type_of l.fn.element) (map grid_of (drop l.left l.grids)))

abbrev pub decreases-loop-left : goal.decreases-loop-left
decreases-loop-left l = l.left
