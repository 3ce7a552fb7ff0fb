use Rattle.std.proofs.Common.{ℕ, Option, Ok, IfSome, Vec, Global, length, ap, sym, ◌∙◌, subst, rules, arith}
use Rattle.ti_lsp.specs.declared.diagnostic.Related.{Related}
use Rattle.ti_diagnostics.specs.Rejections.{IsRelatedTo, IsUnrelated}
use Rattle.ti_diagnostics.proofs.RelatedPlaces.{one_related, one_unrelated}
use Rattle.ti_diagnostics.proofs.related.places_of.Goals.{in-Some+in_ok-push, in_default}
use Rattle.ti_diagnostics.proofs.related.places_of.Goals as goal

pub loop-reason-preserved : goal.loop-reason-preserved
loop-reason-preserved c =
    let text = c.args.text.now in
    let refusal = c.args.explanation.now.refusal in
    let reason = c.reason-item.result in
    elim c.match-branch-2.branch [
      | in-Some+in_ok-push w ↦ one_related text refusal c.args.reasons.now c.loop-reason.reason-index reason c.loop-reason.places.items
          c.match-branch-2.places.items w.in-Some.place (omega arith) c.reason-item.is c.loop-reason.invariant
          (subst (λ (o : Option Related). IfSome o (IsRelatedTo text reason)) w.in-Some.is c.in_ok-place.ensures.some) (search rules)
      | in_default w ↦ one_unrelated text refusal c.args.reasons.now c.loop-reason.reason-index reason c.match-branch-2.places.items
          (omega arith) c.reason-item.is (search rules)
          (subst (λ (n : ℕ). IsUnrelated text refusal n reason)
          ((omega (arith, c.len.ensures, c.loop-reason.places.ok)) ∙ ap (λ (places : Vec Related Global). length places.items) (sym w.places-is))
          (c.place_of_reason.ensures.none (c.in_ok-place.was ∙ ap Ok w.in_default.is)))
    ]
