use Rattle.std.proofs.Common.{◌≡◌, map, drop}
use Rattle.ti_lang.specs.Program.Statements.{numbered_stms}
use Rattle.ti_lang.specs.Program.Views.{statement_of}
use Rattle.ti_explain.specs.Declarations.{declared_among}
use Rattle.ti_explain.proofs.declarations.+declared.Given as goal

abbrev pub invariant-declared_among-loop-x : goal.invariant-declared_among-loop-x
invariant-declared_among-loop-x l =
    declared_among l.number (numbered_stms (map statement_of l.stmts)) ≡ declared_among l.number (numbered_stms (map statement_of (drop l.x-index l.stmts)))
