use Rattle.std.proofs.Common.{sym, ap, ◌∙◌}
use Rattle.ti_lang.specs.Program.Scope.{this_of}
use Rattle.ti_lang.specs.Program.Views.{statement_of, numbered_method_of}
use Rattle.ti_lang.specs.Typing.Effects.{Doings, doings, doings_of_maybe}
use Rattle.ti_single.specs.Mirrors.Maybe.{maybe_in}
use Rattle.ti_single.specs.Contexts.{program_at}
use Rattle.ti_single.proofs.context.SingleContext.update_jumps.Goals as goal

pub returns-in-Some : goal.returns-in-Some
returns-in-Some c =
    let p = program_at c.args.self in
    let this = this_of (numbered_method_of c.args.self.method.now) in
    ap (λ (d : Doings). d.jumps) (c.stmt_effects.ensures ∙ ap
    (λ t. doings p t (statement_of c.deref_stmt.result.now)) c.this.ensures
    ∙ ap (λ z. doings p this (statement_of z)) c.deref_stmt.ensures)
    ∙ sym (ap (λ o. (doings_of_maybe p this (maybe_in o)).jumps) c.in-Some.is)
