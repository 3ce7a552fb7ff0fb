-- Lemmas on the lengths of reasons.
use Rattle.std.proofs.Common.{◌≡◌, ℕ, ◌+◌, ◌-◌, ◌<◌, ◌≤◌, ◌++◌, ◌∷◌, [], List, All, length, map, slice_index_or, refl, sym, ap, ap₂, ◌∙◌, subst, arith}
use Rattle.std.proofs.lemmas.List.{map-append}
use Rattle.std.proofs.lemmas.List.Elements.{All-append}
use Rattle.ti_explain.specs.declared.reason.RefusalReason.{RefusalReason}
use Rattle.ti_explain.specs.declared.reason.RefusalReasons.{RefusalReasons}
use Rattle.ti_explain.specs.declared.reason.ReasonSpan.{ReasonSpan}
use Rattle.ti_explain.specs.declared.reason.Explanation.{Explanation}
use Rattle.ti_rules.specs.declared.refusal.Refusal.{Refusal}
use Rattle.ti_rules.specs.RefusalOf.{IsRefusal}
use Rattle.ti_base.specs.declared.place.Place.{Place}
use Rattle.ti_base.specs.Places.{place_of}
use Rattle.ti_rules.specs.LexicalRefusals.{most_bytes}
use Rattle.ti_lex.specs.TokenSpans.{IsNoPosition, EndsToken}
use Rattle.ti_explain.specs.ReasonSpans.{IsLengthAt, of_token, of_nothing, without_len}
use Rattle.ti_explain.specs.Explanations.{AreReasons}

pub nothing_left : {X : Type 0} (l : List X) → length l ≡ 0 → l ≡ []
nothing_left [] h = refl
nothing_left (x ∷ xs) h = absurd (omega arith)

pub one_span : (spans : List ReasonSpan) (s : ReasonSpan) (reasons : List RefusalReason) (r : RefusalReason) → map without_len spans ≡ reasons → without_len s ≡ r
    → map without_len (spans ++ s ∷ []) ≡ reasons ++ r ∷ []
one_span spans s reasons r same is = map-append without_len spans (s ∷ []) ∙ ap₂ (λ (l : List RefusalReason) (x : RefusalReason). l ++ x ∷ []) same is

only : (P : ReasonSpan → Type 0) (s : ReasonSpan) → P s → All P (s ∷ [])
only P s is k d below =
    let first : 0 ≡ k = omega arith in
    subst (λ (n : ℕ). P (slice_index_or (s ∷ []) n d)) first is

pub one_length : (text : List ℕ) (spans : List ReasonSpan) (s : ReasonSpan) → All (λ (x : ReasonSpan). IsLengthAt text x.place x.len) spans → IsLengthAt text s.place s.len
    → All (λ (x : ReasonSpan). IsLengthAt text x.place x.len) (spans ++ s ∷ [])
one_length text spans s are is =
    All-append (λ (x : ReasonSpan). IsLengthAt text x.place x.len) spans (s ∷ []) are (only (λ x. IsLengthAt text x.place x.len) s is)

-- from the position to the end of the token
pub length_there : (text : List ℕ) (place : Place) (start end : ℕ) → place_of text start ≡ place → EndsToken text start end → start ≤ end
    → IsLengthAt text place (end - start)
length_there text place start end is ends le =
    let same : end ≡ start + (end - start) = omega arith in
    of_token start is (subst (EndsToken text start) same ends)

pub no_length : (text : List ℕ) (place : Place) → (length text ≤ most_bytes → IsNoPosition text place) → IsLengthAt text place 0
no_length text place never = of_nothing never

-- the same refusal and reasons
pub spans_explain : (text : List ℕ) (found : RefusalReasons) (e : Explanation) → e.refusal ≡ found.refusal → map without_len e.reasons.items ≡ found.reasons.items
    → IsRefusal text found.refusal × AreReasons text found.refusal found.reasons.items
    → IsRefusal text e.refusal × AreReasons text e.refusal (map without_len e.reasons.items)
spans_explain text found e refusal reasons (is, are) =
    (subst (IsRefusal text) (sym refusal) is, subst (λ (r : Refusal). AreReasons text r (map without_len e.reasons.items)) (sym refusal) (subst (AreReasons text found.refusal) (sym reasons) are))
