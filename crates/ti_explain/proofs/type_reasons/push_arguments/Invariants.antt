use Rattle.std.proofs.Common.{◌≡◌, ◌++◌}
use Rattle.ti_syntax.specs.Trees.Text.{tree_of}
use Rattle.ti_single.specs.Contexts.{program_at, scope_at}
use Rattle.ti_explain.specs.Mirrors.Arguments.{told_from}
use Rattle.ti_explain.proofs.type_reasons.push_arguments.Given as goal

abbrev pub invariant-loop-i : goal.invariant-loop-i
invariant-loop-i l =
    l.found.items ++ told_from (tree_of l.tree) (program_at l.site) (scope_at l.site) l.place l.args l.params l.i
    ≡ l.initial.found.items ++ told_from (tree_of l.tree) (program_at l.site) (scope_at l.site) l.place l.args l.params 0
