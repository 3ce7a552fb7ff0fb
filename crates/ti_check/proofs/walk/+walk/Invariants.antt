use Rattle.std.proofs.Common.{◌≡◌, map}
use Rattle.ti_lang.specs.Program.Scope.{this_of}
use Rattle.ti_lang.specs.Program.Statements.{numbered_stms}
use Rattle.ti_lang.specs.Program.Views.{statement_of}
use Rattle.ti_lang.specs.Typing.Effects.{together, doings_of_all}
use Rattle.ti_single.specs.Effects.{effects_of}
use Rattle.ti_single.proofs.Lemmas.{doings_from}
use Rattle.ti_check.specs.Mirrors.Contexts.{program_at, around_where, around_of}
use Rattle.ti_check.proofs.Where.{LeftWhere}
use Rattle.ti_check.proofs.walk.+walk.Given as goal

abbrev pub invariant-statements-loop-x : goal.invariant-statements-loop-x
invariant-statements-loop-x l =
    let p = program_at l.site in
    let this = this_of (around_of l.site).method in
    LeftWhere p (around_where l.site) l.stmts l.found l.x-index
    × (doings_of_all p this (numbered_stms (map statement_of l.stmts)) ≡ together (effects_of l.found.doings) (doings_from p this l.stmts l.x-index))
