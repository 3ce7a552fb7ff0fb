use Rattle.std.proofs.Common.{Some, None, take, ◌∙◌, subst}
use Rattle.ti_explain.specs.Mirrors.Trials.{IsKindOf}
use Rattle.ti_explain.proofs.TrialLaws.{trial_ends, tried_then, no_token}
use Rattle.ti_explain.proofs.expected.try_text.Goals as goal

pub begins_text-requires : goal.begins_text-requires
begins_text-requires c =
    trial_ends (take c.args.index c.args.trials.tokens.items) (record { kind = c.in-Some.kind; place = c.args.place }) c.deref.result.now
    (c.deref.ensures.value ∙ c.in_ok-tokens-in-Some.ensures)

pub returns-in_ok-reasons-in-Some-clause-tried : goal.returns-in_ok-reasons-in-Some-clause-tried
returns-in_ok-reasons-in-Some-clause-tried c =
    tried_then c.one_reading.ensures.one_list (take c.args.index c.args.trials.tokens.items) c.args.place c.args.text.now c.in-Some.kind c.deref.result.now
    c.in_ok-begins-in-Some.begins c.args.trials.reasons.items c.in_ok-reasons-in-Some.reasons.items c.requires.front c.requires.place
    (subst (λ text. IsKindOf text (Some c.in-Some.kind)) c.as_bytes.ensures.value (subst (IsKindOf c.as_bytes.result.now) c.in-Some.is c.in_ok-kind.ensures))
    (c.deref.ensures.value ∙ c.in_ok-tokens-in-Some.ensures) c.in_ok-begins-in-Some.ensures c.in_ok-reasons-in-Some.ensures

pub returns-in-None-clause-tried : goal.returns-in-None-clause-tried
returns-in-None-clause-tried c =
    no_token (take c.args.index c.args.trials.tokens.items) c.args.place c.args.text.now c.args.trials.reasons.items
    (subst (λ text. IsKindOf text None) c.as_bytes.ensures.value (subst (IsKindOf c.as_bytes.result.now) c.in-None.is c.in_ok-kind.ensures))
