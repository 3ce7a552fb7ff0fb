use Rattle.std.proofs.Common.{List, Some, None, IfOk, take, refl, sym, ◌∙◌, subst}
use Rattle.ti_syntax.specs.declared.token.Token.{Token}
use Rattle.ti_syntax.specs.Spelling.{Unexpected}
use Rattle.ti_explain.specs.Mirrors.Trials.{IsFirstAt, IsFront, TriesEnd}
use Rattle.ti_explain.proofs.TrialLaws.{refused_there, not_nothing, known_before, tried_then_all}
use Rattle.ti_explain.proofs.expected.expected_tokens.Goals as goal

pub unreachable-requires : goal.unreachable-requires
unreachable-requires c =
    not_nothing Unexpected c.args.tokens.items c.args.place (refused_there Unexpected c.args.tokens.items c.args.place c.requires.misfit)
    (subst (λ (tokens : List Token). IsFirstAt tokens c.args.place None) c.deref.ensures.value
    (subst (IsFirstAt c.deref.result.now c.args.place) c.in_default.is c.first_at.ensures))

pub try_all-requires-clause-within : goal.try_all-requires-clause-within
try_all-requires-clause-within c =
    let known = known_before Unexpected c.args.tokens.items c.args.place c.in-Some.index c.requires.tokens c.tokens_in_order.ensures.placed c.tokens_in_order.ensures.rises c.requires.misfit
    (subst (λ (tokens : List Token). IsFirstAt tokens c.args.place (Some c.in-Some.index)) c.deref.ensures.value
    (subst (IsFirstAt c.deref.result.now c.args.place) c.in-Some.is c.first_at.ensures)) in
    known.1.within

pub try_all-requires-clause-front : goal.try_all-requires-clause-front
try_all-requires-clause-front c =
    let known = known_before Unexpected c.args.tokens.items c.args.place c.in-Some.index c.requires.tokens c.tokens_in_order.ensures.placed c.tokens_in_order.ensures.rises c.requires.misfit
    (subst (λ (tokens : List Token). IsFirstAt tokens c.args.place (Some c.in-Some.index)) c.deref.ensures.value
    (subst (IsFirstAt c.deref.result.now c.args.place) c.in-Some.is c.first_at.ensures)) in
    known.1.is_front

pub try_all-requires-clause-place : goal.try_all-requires-clause-place
try_all-requires-clause-place c =
    let known = known_before Unexpected c.args.tokens.items c.args.place c.in-Some.index c.requires.tokens c.tokens_in_order.ensures.placed c.tokens_in_order.ensures.rises c.requires.misfit
    (subst (λ (tokens : List Token). IsFirstAt tokens c.args.place (Some c.in-Some.index)) c.deref.ensures.value
    (subst (IsFirstAt c.deref.result.now c.args.place) c.in-Some.is c.first_at.ensures)) in
    known.1.placed

pub try_end-requires-clause-front : goal.try_end-requires-clause-front
try_end-requires-clause-front c =
    let known = known_before Unexpected c.args.tokens.items c.args.place c.in-Some.index c.requires.tokens c.tokens_in_order.ensures.placed c.tokens_in_order.ensures.rises c.requires.misfit
    (subst (λ (tokens : List Token). IsFirstAt tokens c.args.place (Some c.in-Some.index)) c.deref.ensures.value
    (subst (IsFirstAt c.deref.result.now c.args.place) c.in-Some.is c.first_at.ensures)) in
    subst IsFront (sym c.in_ok-trials.ensures.front) known.1.is_front

pub try_end-requires-clause-place : goal.try_end-requires-clause-place
try_end-requires-clause-place c =
    let known = known_before Unexpected c.args.tokens.items c.args.place c.in-Some.index c.requires.tokens c.tokens_in_order.ensures.placed c.tokens_in_order.ensures.rises c.requires.misfit
    (subst (λ (tokens : List Token). IsFirstAt tokens c.args.place (Some c.in-Some.index)) c.deref.ensures.value
    (subst (IsFirstAt c.deref.result.now c.args.place) c.in-Some.is c.first_at.ensures)) in
    known.1.placed

pub returns : goal.returns
returns c =
    let known = known_before Unexpected c.args.tokens.items c.args.place c.in-Some.index c.requires.tokens c.tokens_in_order.ensures.placed c.tokens_in_order.ensures.rises c.requires.misfit
    (subst (λ (tokens : List Token). IsFirstAt tokens c.args.place (Some c.in-Some.index)) c.deref.ensures.value
    (subst (IsFirstAt c.deref.result.now c.args.place) c.in-Some.is c.first_at.ensures)) in
    tried_then_all c.args.tokens.items c.args.place c.in-Some.index _ c.in_ok-trials.trials.reasons.items c.try_end.result known.0 known.1 refl c.in_ok-trials.ensures.tried
    (subst (λ front. IfOk c.try_end.result (λ v. TriesEnd front c.args.place c.in_ok-trials.trials.reasons.items v.items)) c.in_ok-trials.ensures.front c.try_end.ensures)
