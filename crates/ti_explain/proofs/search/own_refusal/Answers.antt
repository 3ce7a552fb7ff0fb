use Rattle.std.proofs.Common.{ap, ◌∙◌}
use Rattle.ti_lang.specs.Program.Views.{statement_of}
use Rattle.ti_lang.specs.Typing.Effects.{doings}
use Rattle.ti_single.specs.Contexts.{program_at}
use Rattle.ti_explain.proofs.search.own_refusal.Goals as goal

pub refusal-requires-clause-own : goal.refusal-requires-clause-own
refusal-requires-clause-own c =
    c.stmt_effects-own.ensures ∙ ap (λ this. doings (program_at c.args.site) this (statement_of c.args.stmt.now)) c.this_of.ensures
