use Rattle.std.proofs.Common.{List, Some, None, subst}
use Rattle.ti_syntax.specs.declared.token.Token.{Token}
use Rattle.ti_syntax.specs.Spelling.{TooDeep}
use Rattle.ti_explain.specs.Mirrors.Trials.{IsFirstAt}
use Rattle.ti_explain.proofs.TrialLaws.{refused_there, not_nothing, known_before, depth_then}
use Rattle.ti_explain.proofs.depth.too_deep_reasons.Goals as goal

pub unreachable-requires : goal.unreachable-requires
unreachable-requires c =
    not_nothing TooDeep c.args.tokens.now c.args.place (refused_there TooDeep c.args.tokens.now c.args.place c.requires.misfit)
    (subst (IsFirstAt c.args.tokens.now c.args.place) c.in_default.is c.first_at.ensures)

pub returns : goal.returns
returns c =
    let known = known_before TooDeep c.args.tokens.now c.args.place c.in-Some.index c.requires.tokens c.tokens_in_order.ensures.placed c.tokens_in_order.ensures.rises c.requires.misfit
    (subst (IsFirstAt c.args.tokens.now c.args.place) c.in-Some.is c.first_at.ensures) in
    depth_then c.args.tokens.now c.args.place c.in-Some.index c.in-Some-get.here.now _ c.depth_reasons.result known.0 known.1 c.in-Some-get.ensures.lookup.1 c.depth_reasons.ensures
