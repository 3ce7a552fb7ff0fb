use Rattle.std.proofs.Common.{◌≡◌, ◌++◌, map, drop}
use Rattle.ti_lang.specs.Program.Statements.{numbered_stms}
use Rattle.ti_lang.specs.Program.Views.{statement_of}
use Rattle.ti_infer.specs.Mirrors.StmtSites.{all_around}
use Rattle.ti_infer.proofs.constraints.walk.+walk.Given as goal

abbrev pub invariant-statements-loop-x : goal.invariant-statements-loop-x
invariant-statements-loop-x l =
    l.out.items ++ all_around l.context l.at l.jump (numbered_stms (map statement_of (drop l.x-index l.stmts))) ≡ l.fn.out.items ++ all_around l.context l.index l.jump (numbered_stms (map statement_of l.stmts))
