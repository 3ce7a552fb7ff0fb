use Rattle.std.proofs.Common.{◌≡◌, ◌++◌, map, flat_map, drop}
use Rattle.ti_syntax.specs.Trees.Text.{tree_of}
use Rattle.ti_single.specs.Contexts.{program_at, scope_at}
use Rattle.ti_lang.specs.Program.Expressions.{numbered_exps}
use Rattle.ti_lang.specs.Program.Views.{expression_of}
use Rattle.ti_explain.specs.TypeReasons.{typed_all}
use Rattle.ti_explain.proofs.type_reasons.push_typed_all.Given as goal

abbrev pub invariant-loop-x : goal.invariant-loop-x
invariant-loop-x l =
    l.found.items ++ typed_all (tree_of l.tree) (program_at l.site) (scope_at l.site) (numbered_exps (map expression_of (drop l.x-index l.exprs)))
    ≡ l.initial.found.items ++ typed_all (tree_of l.tree) (program_at l.site) (scope_at l.site) (numbered_exps (map expression_of l.exprs))
