use Rattle.std.proofs.Common.{◌≡◌, ◌++◌, map, flat_map, drop}
use Rattle.ti_syntax.specs.Trees.Text.{tree_of}
use Rattle.ti_single.specs.Contexts.{program_at, scope_at}
use Rattle.ti_lang.specs.Program.Expressions.{numbered_ranges}
use Rattle.ti_lang.specs.Program.Views.{bound_of}
use Rattle.ti_explain.specs.TypeReasons.{typed_ranges}
use Rattle.ti_explain.proofs.type_reasons.push_typed_ranges.Given as goal

abbrev pub invariant-loop-range : goal.invariant-loop-range
invariant-loop-range l =
    l.found.items ++ typed_ranges (tree_of l.tree) (program_at l.site) (scope_at l.site) (numbered_ranges (map bound_of (drop l.range-index l.ranges)))
    ≡ l.initial.found.items ++ typed_ranges (tree_of l.tree) (program_at l.site) (scope_at l.site) (numbered_ranges (map bound_of l.ranges))
