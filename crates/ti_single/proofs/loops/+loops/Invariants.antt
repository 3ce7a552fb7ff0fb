use Rattle.std.proofs.Common.{◌≡◌, map, drop}
use Rattle.ti_lang.specs.Program.Statements.{numbered_stms}
use Rattle.ti_lang.specs.Program.Views.{statement_of}
use Rattle.ti_single.specs.Mirrors.Loops.{loop_in_all}
use Rattle.ti_single.proofs.loops.+loops.Given as goal

abbrev pub invariant-loop_in_all-loop-x : goal.invariant-loop_in_all-loop-x
invariant-loop_in_all-loop-x l = loop_in_all l.loop_place (numbered_stms (map statement_of l.stmts)) ≡ loop_in_all l.loop_place (numbered_stms (map statement_of (drop l.x-index l.stmts)))
