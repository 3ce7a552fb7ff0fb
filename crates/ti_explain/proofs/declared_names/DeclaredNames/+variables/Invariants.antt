use Rattle.std.proofs.Common.{◌≡◌, ◌++◌, map, drop}
use Rattle.ti_syntax.specs.Trees.Statements.{stms}
use Rattle.ti_syntax.specs.Trees.Views.{stm_of}
use Rattle.ti_explain.specs.DeclaredNames.{variables_among}
use Rattle.ti_explain.specs.Mirrors.Names.{name_at_of}
use Rattle.ti_explain.proofs.declared_names.DeclaredNames.+variables.Given as goal

abbrev pub invariant-body-loop-stmt : goal.invariant-body-loop-stmt
invariant-body-loop-stmt l =
    map name_at_of l.self.found.items ++ variables_among (stms (map stm_of (drop l.stmt-index l.stmts)))
    ≡ map name_at_of l.initial.self.found.items ++ variables_among (stms (map stm_of l.stmts))
