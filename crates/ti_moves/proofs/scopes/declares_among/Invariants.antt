use Rattle.std.proofs.Common.{◌≡◌, map, drop}
use Rattle.ti_lang.specs.Program.Statements.{numbered_stms}
use Rattle.ti_lang.specs.Program.Views.{statement_of, variable_of}
use Rattle.ti_lang.specs.Meaning.Performing.{declared_among}
use Rattle.ti_moves.specs.Scopes.{is_among}
use Rattle.ti_moves.proofs.scopes.declares_among.Given as goal

abbrev pub invariant-loop-s : goal.invariant-loop-s
invariant-loop-s l =
    is_among (declared_among (numbered_stms (map statement_of l.initial.body))) (variable_of l.variable)
    ≡ is_among (declared_among (numbered_stms (map statement_of (drop l.s-index l.body)))) (variable_of l.variable)
