use Rattle.std.proofs.Common.{◌≡◌, ◌++◌, map, drop}
use Rattle.ti_syntax.specs.Trees.Statements.{stms}
use Rattle.ti_syntax.specs.Trees.Views.{stm_of}
use Rattle.ti_lang.specs.Scopes.{literals_in}
use Rattle.ti_names.proofs.literals.Literals.+literals.Given as goal

abbrev pub invariant-body-loop-stmt : goal.invariant-body-loop-stmt
invariant-body-loop-stmt l = l.self.texts.items ++ literals_in (stms (map stm_of (drop l.stmt-index l.stmts))) ≡ l.initial.self.texts.items ++ literals_in (stms (map stm_of l.stmts))
