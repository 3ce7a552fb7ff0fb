use Rattle.std.proofs.Common.{◌≡◌, map, drop}
use Rattle.ti_syntax.specs.Trees.Statements.{stms}
use Rattle.ti_syntax.specs.Trees.Views.{stm_of}
use Rattle.ti_explain.specs.NameUses.{use_in_all}
use Rattle.ti_explain.proofs.name_uses.+use_in_stmt.Given as goal

abbrev pub invariant-use_in_all-loop-x : goal.invariant-use_in_all-loop-x
invariant-use_in_all-loop-x l = use_in_all l.place (stms (map stm_of l.stmts)) ≡ use_in_all l.place (stms (map stm_of (drop l.x-index l.stmts)))
