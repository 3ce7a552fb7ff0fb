use Rattle.std.proofs.Common.{List, Ok, Err, inl, subst}
use Rattle.ti_syntax.specs.declared.token.Token.{Token}
use Rattle.ti_syntax.specs.Trees.Text.{tree_of}
use Rattle.ti_parse.specs.Answer.{Parsed}
use Rattle.ti_parse_expr.specs.declared.error.ParseErr.{ParseErr}
use Rattle.ti_parse_expr.specs.declared.error.ParseErr.TheVariants.{Refused}
use Rattle.ti_explain.specs.DepthReasons.{AreTooDeepReasons}
use Rattle.ti_explain.specs.Explanations.{of_unexpected, of_depth}
use Rattle.ti_explain.proofs.Explained.{tree_then, depth_here}
use Rattle.ti_explain.proofs.phases.explain_tokens.Goals as goal

pub returns-in-Ok : goal.returns-in-Ok
returns-in-Ok c =
    let parsed = subst (λ (tokens : List Token). Parsed tokens (Ok c.in-Ok.tree)) c.deref.ensures.value c.in-Ok.ensures.answer in
    tree_then c.args.tokens.items (tree_of c.in-Ok.tree) c.explain_tree.result (record { spells = parsed.0; shallow = parsed.1 }) c.explain_tree.ensures

pub returns-in_ok-reasons-in-G1 : goal.returns-in_ok-reasons-in-G1
returns-in_ok-reasons-in-G1 c = inl (of_unexpected c.in-G1.is c.in_ok-reasons-in-G1.ensures)

pub returns-in_ok-reasons-in_default : goal.returns-in_ok-reasons-in_default
returns-in_ok-reasons-in_default c =
    let deep = depth_here c.args.tokens.items c.in-Err-Refused.refusal
    (subst (λ (tokens : List Token). Parsed tokens (Err (Refused c.in-Err-Refused.refusal))) c.deref.ensures.value
    (subst (λ (e : ParseErr). Parsed c.deref.result.now (Err e)) c.in-Err-Refused.field-0-is c.in-Err-Refused.ensures.answer)) c.in_default.not-G1 in
    inl (of_depth deep.0 (subst (λ (tokens : List Token). AreTooDeepReasons tokens c.in-Err-Refused.refusal.place c.in_ok-reasons-in_default.reasons.items)
    c.deref-in_default.ensures.value c.in_ok-reasons-in_default.ensures))
