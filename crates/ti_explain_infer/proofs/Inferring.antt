-- From the answers of the phases to the explanation of a text in mode infer.
use Rattle.std.proofs.Common.{◌≡◌, ◌⊎◌, inl, inr, ⊎_elim, ℕ, Bool, true, false, not, ◌&&◌, List, [], map, IfOk, Contains, Option, Some, None, Result, Ok, Err, refl, sym, ap, ◌∙◌, subst, arith}
use Rattle.std.proofs.lemmas.Bool.Decides.{nat_tests}
use Rattle.ti_base.specs.declared.memory.Memory.{Memory}
use Rattle.ti_base.specs.declared.place.Place.{Place}
use Rattle.ti_lang.specs.Program.Classes.{ProgramView}
use Rattle.ti_rules.specs.declared.rule.Rule.{Rule}
use Rattle.ti_rules.specs.declared.refusal.Refusal.{Refusal}
use Rattle.ti_rules.specs.Refusals.{counts_before, IsFirstRefusal}
use Rattle.ti_rules.specs.TypeRules.{type_refusals}
use Rattle.ti_rules.specs.RefusalOf.{IsRefusal}
use Rattle.ti_rules.proofs.Lemmas.{OneReading, one_refusal, first_only}
use Rattle.ti_check.specs.Answer.{GivesTyped}
use Rattle.ti_check.specs.declared.error.CheckErr.TheVariants as checker
use Rattle.ti_infer.specs.Stripped.{stripped}
use Rattle.ti_infer.specs.OfTexts.{IsUnmarkedRefusal}
use Rattle.ti_infer.specs.OfTexts as unmarked
use Rattle.ti_explain.specs.declared.reason.Explanation.{Explanation}
use Rattle.ti_explain.specs.Explanations.{AreReasons, Explains}
use Rattle.ti_explain.specs.ReasonSpans.{without_len, HasLengths}
use Rattle.ti_explain_infer.specs.InferenceReasons.{IsResolved, IsTypeRefusal, AreInferenceReasons, of_check, of_types, of_chain, IsInferenceExplained, ExplainsInference}
use Rattle.ti_explain_infer.specs.Mirrors.Phases.{neither_before, IsExplainedAs, IsChainExplained, GivesChainExplained}

-- ---- one refusal

not_itself : (r : Refusal) → counts_before r r ≡ false
not_itself r = grind (arith, nat_tests)

neither_first : (r s : Refusal) → counts_before s r ≡ false → IsFirstRefusal (λ x. (x ≡ r) ⊎ (x ≡ s)) r
neither_first r s later = record {
  is_broken = inl refl;
  none_before = λ x is. ⊎_elim
      (λ e. subst (λ y. counts_before y r ≡ false) (sym e) (not_itself r))
      (λ e. subst (λ y. counts_before y r ≡ false) (sym e) later)
      is;
}

neither_second : (r s : Refusal) → counts_before r s ≡ false → IsFirstRefusal (λ x. (x ≡ r) ⊎ (x ≡ s)) s
neither_second r s sooner = record {
  is_broken = inr refl;
  none_before = λ x is. ⊎_elim
      (λ e. subst (λ y. counts_before y s ≡ false) (sym e) sooner)
      (λ e. subst (λ y. counts_before y s ≡ false) (sym e) (not_itself s))
      is;
}

no_left : (a b : Bool) → (not a && not b) ≡ true → a ≡ false
no_left true b e = absurd (let x = e in cc)
no_left false b e = refl

no_right : (a b : Bool) → (not a && not b) ≡ true → b ≡ false
no_right true b e = absurd (let x = e in cc)
no_right false true e = absurd (let x = e in cc)
no_right false false e = refl

-- refusals of which neither counts before the other are one
pub one_of_both : (r s : Refusal) → neither_before r s ≡ true → r ≡ s
one_of_both r s is =
    first_only (λ x. (x ≡ r) ⊎ (x ≡ s)) r s
    (neither_first r s (no_right (counts_before r s) (counts_before s r) is))
    (neither_second r s (no_left (counts_before r s) (counts_before s r) is))

neither_itself : (r : Refusal) → neither_before r r ≡ true
neither_itself r = ap (λ b. not b && not b) (not_itself r)

pub two_refusals : (r s : Refusal) → neither_before r s ≡ false → r ≡ s → ⊥
two_refusals r s is same = no (sym is ∙ subst (λ x. neither_before r x ≡ true) same (neither_itself r))
  where
    no : false ≡ true → ⊥
    no e = cc

-- ---- a refusal by a rule of types

-- mode check refuses the text alike
pub shared : (text : List ℕ) (r : Refusal) (e : Explanation) → Explains text (Ok (Some e)) → e.refusal ≡ r → IsExplainedAs text r e
shared text r e is same = record {
  same = same;
  reasons = of_check (subst (IsRefusal text) same is.0) (subst (λ x. AreReasons text x (map without_len e.reasons.items)) same is.1);
  lengths = is.2;
}

-- it doesn't
pub unshared : (text : List ℕ) (r : Refusal) (o : Result Explanation Memory) → IsTypeRefusal text r → (IsRefusal text r → ⊥)
    → IfOk o (λ e. e.refusal ≡ r) → IfOk o (λ e. map without_len e.reasons.items ≡ []) → IfOk o (HasLengths text) → IfOk o (IsExplainedAs text r)
unshared text r (Ok e) is never same none lengths = record {
  same = same;
  reasons = subst (AreInferenceReasons text r) (sym none) (of_types is never);
  lengths = lengths;
}
unshared text r (Err memory) is never same none lengths = tt

-- it has another refusal
pub another : OneReading → (text : List ℕ) (r : Refusal) (e : Explanation) → Explains text (Ok (Some e)) → neither_before e.refusal r ≡ false → IsRefusal text r → ⊥
another known text r e is differ other = two_refusals e.refusal r differ (one_refusal known text e.refusal r is.0 other)

-- ---- a text with a program

pub type_refusal : (text : List ℕ) (p plain : ProgramView) (r : Refusal) → IsResolved text p → plain ≡ stripped p
    → GivesTyped {T = Unit {0}} plain (Err (checker.Refused r)) → IsTypeRefusal text r
type_refusal text p plain r read same first = record {
  program = p;
  resolved = read;
  first = subst (λ q. IsFirstRefusal (Contains (type_refusals q)) r) same first;
}

pub untyped : (text : List ℕ) (r : Refusal) (e : Explanation) → IsTypeRefusal text r → IsExplainedAs text r e → IsInferenceExplained text e
untyped text r e is explained = record {
  refused = subst (IsUnmarkedRefusal text) (sym explained.same)
      (unmarked.of_tree is.resolved.has_tree (unmarked.of_types is.resolved.named is.resolved.numbers is.first));
  reasons = subst (λ x. AreInferenceReasons text x (map without_len e.reasons.items)) (sym explained.same) explained.reasons;
  lengths = explained.lengths;
}

refusal_by : Rule → Place → Refusal
refusal_by rule place = record { rule = rule; place = place }

unaligned : (text : List ℕ) (p : ProgramView) (e : Explanation) → IsResolved text p → type_refusals (stripped p) ≡ [] → IsChainExplained text (stripped p) e
    → IsInferenceExplained text e
unfolding refusal_by
unaligned text p e read typed explained = record {
  refused = subst (IsUnmarkedRefusal text) (ap (λ x. refusal_by x e.refusal.place) (sym explained.rule))
      (unmarked.of_tree read.has_tree (unmarked.of_marks read.named read.numbers typed explained.first));
  reasons = subst (AreInferenceReasons text e.refusal) (sym explained.reasons)
      (of_chain p explained.steps explained.rule (record { resolved = read; chain = explained.chain }));
  lengths = explained.lengths;
}

typed_then : (text : List ℕ) (p : ProgramView) (o : Result (Option Explanation) Memory) → IsResolved text p → type_refusals (stripped p) ≡ []
    → GivesChainExplained text (stripped p) o → ExplainsInference text o
typed_then text p (Ok None) read typed (marks, greatest) = (
  marks,
  record {
    tree = read.tree;
    has_tree = read.has_tree;
    named = read.named;
    program = p;
    numbers = read.numbers;
    typed = typed;
    greatest = greatest;
  },
)
typed_then text p (Ok (Some e)) read typed explained = unaligned text p e read typed explained
typed_then text p (Err memory) read typed explained = tt

pub typed : (text : List ℕ) (p plain : ProgramView) (o : Result (Option Explanation) Memory) → IsResolved text p → plain ≡ stripped p → type_refusals plain ≡ []
    → GivesChainExplained text plain o → ExplainsInference text o
typed text p plain o read same none is =
    typed_then text p o read (subst (λ q. type_refusals q ≡ []) same none) (subst (λ q. GivesChainExplained text q o) same is)
