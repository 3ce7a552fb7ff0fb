use Rattle.std.proofs.Common.{◌≡◌, map}
use Rattle.ti_lang.specs.Program.Statements.{numbered_stms}
use Rattle.ti_lang.specs.Program.Views.{program_of, statement_of}
use Rattle.ti_lang.specs.Typing.Effects.{together, doings_of_all}
use Rattle.ti_single.specs.Effects.{effects_of}
use Rattle.ti_single.proofs.Together.{doings_from}
use Rattle.ti_single.proofs.statements.+doings.Given as goal

abbrev pub invariant-stmts_effects-loop-x : goal.invariant-stmts_effects-loop-x
invariant-stmts_effects-loop-x l =
    doings_of_all (program_of l.program.parts) l.this (numbered_stms (map statement_of l.stmts)) ≡ together (effects_of l.found) (doings_from (program_of l.program.parts) l.this l.stmts l.x-index)
