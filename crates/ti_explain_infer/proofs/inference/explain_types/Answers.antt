use Rattle.std.proofs.Common.{Option, Ok, sym, ◌∙◌, subst}
use Rattle.ti_rules.proofs.Lemmas.{OneReading}
use Rattle.ti_explain.specs.declared.reason.Explanation.{Explanation}
use Rattle.ti_explain.specs.Explanations.{Explains}
use Rattle.ti_explain_infer.proofs.Inferring.{one_of_both, shared, unshared, another}
use Rattle.ti_explain_infer.proofs.inference.explain_types.Goals as goal

pub returns-then-is_same : goal.returns-then-is_same
returns-then-is_same c =
    shared c.args.text.now c.args.refusal c.in-Some.explanation
    (subst (λ (o : Option Explanation). Explains c.args.text.now (Ok o)) c.in-Some.is c.in_ok-explanation.ensures)
    (one_of_both c.in-Some.explanation.refusal c.args.refusal (sym c.is_same.ensures ∙ c.if-is_same.true))

pub returns-else-is_same : goal.returns-else-is_same
returns-else-is_same c =
    let known : OneReading = record {
      one_list = c.one_reading.ensures.one_list;
      one_flaw = c.one_reading.ensures.one_refusal;
      not_both = c.one_reading.ensures.never_both;
      one_tree = c.one_text.ensures.one_tree;
      one_misfit = c.one_text.ensures.only;
      one_numbered = c.one_program.ensures.only;
    } in
    unshared c.args.text.now c.args.refusal c.without_reasons.result c.requires
    (another known c.args.text.now c.args.refusal c.in-Some.explanation
    (subst (λ (o : Option Explanation). Explains c.args.text.now (Ok o)) c.in-Some.is c.in_ok-explanation.ensures)
    (sym c.is_same.ensures ∙ c.if-is_same.false))
    c.without_reasons.ensures.refusal c.without_reasons.ensures.reasons c.without_reasons.ensures.lengths

pub returns-in-None : goal.returns-in-None
returns-in-None c =
    let none = subst (λ (o : Option Explanation). Explains c.args.text.now (Ok o)) c.in-None.is c.in_ok-explanation.ensures in
    unshared c.args.text.now c.args.refusal c.without_reasons-in-None.result c.requires (none c.args.refusal)
    c.without_reasons-in-None.ensures.refusal c.without_reasons-in-None.ensures.reasons c.without_reasons-in-None.ensures.lengths
