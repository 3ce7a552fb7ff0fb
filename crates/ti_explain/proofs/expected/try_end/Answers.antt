use Rattle.std.proofs.Common.{take, ◌∙◌}
use Rattle.ti_syntax.specs.declared.token.TokenKind.TheVariants.{End}
use Rattle.ti_explain.proofs.TrialLaws.{trial_ends, ended_then}
use Rattle.ti_explain.proofs.expected.try_end.Goals as goal

pub begins_text-requires : goal.begins_text-requires
begins_text-requires c =
    trial_ends (take c.args.index c.args.trials.tokens.items) (record { kind = End; place = c.args.place }) c.deref.result.now
    (c.deref.ensures.value ∙ c.in_ok-tokens.ensures)

pub returns : goal.returns
returns c =
    ended_then (take c.args.index c.args.trials.tokens.items) c.args.place c.deref.result.now c.in_ok-begins.begins c.args.trials.reasons.items c.add_end_if.result
    c.requires.front c.requires.place (c.deref.ensures.value ∙ c.in_ok-tokens.ensures) c.in_ok-begins.ensures c.add_end_if.ensures
