-- The reasons for an error as related places, one after the other.
use Rattle.std.proofs.Common.{◌≡◌, ◌≤◌, ◌<◌, ◌+◌, ℕ, List, [], ◌∷◌, ◌++◌, length, take, get_or, ap, sym, ◌∙◌, subst, inl, inr}
use Rattle.std.proofs.lemmas.List.{take_more}
use Rattle.ti_base.specs.Places.{place_of}
use Rattle.ti_rules.specs.declared.refusal.Refusal.{Refusal}
use Rattle.ti_rules.specs.LexicalRefusals.{most_bytes}
use Rattle.ti_lex.specs.TokenSpans.{EndsToken, IsNoPosition}
use Rattle.ti_explain.specs.declared.reason.ReasonSpan.{ReasonSpan}
use Rattle.ti_lsp.specs.declared.diagnostic.Related.{Related}
use Rattle.ti_diagnostics.specs.Rejections.{AreRelated, IsRelatedTo, IsUnrelated, most_related}
use Rattle.ti_diagnostics.specs.Rejections.AreRelated.{no_reason, shown, not_shown}

pub related_to : (text : List ℕ) (reason : ReasonSpan) (related : Related) → place_of text related.start ≡ reason.place
    → EndsToken text related.start related.end → related.end ≤ length text → IsRelatedTo text reason related
related_to text reason related start range within = record { start = start; range = range; within = within }

pub too_many : (text : List ℕ) (refusal : Refusal) (count : ℕ) (reason : ReasonSpan) → most_related ≤ count → IsUnrelated text refusal count reason
too_many text refusal count reason many = inl many

pub at_error : (text : List ℕ) (refusal : Refusal) (count : ℕ) (reason : ReasonSpan) → reason.place ≡ refusal.place
    → IsUnrelated text refusal count reason
at_error text refusal count reason same = inr (inl same)

pub nowhere : (text : List ℕ) (refusal : Refusal) (count : ℕ) (reason : ReasonSpan) → (length text ≤ most_bytes → IsNoPosition text reason.place)
    → IsUnrelated text refusal count reason
nowhere text refusal count reason none = inr (inr none)

pub none_yet : (text : List ℕ) (refusal : Refusal) → AreRelated text refusal [] []
none_yet text refusal = no_reason

next : (reasons : List ReasonSpan) (i : ℕ) (reason : ReasonSpan) → i < length reasons → reason ≡ get_or reasons i reason
    → take i reasons ++ reason ∷ [] ≡ take (i + 1) reasons
next reasons i reason below is = ap (λ (r : ReasonSpan). take i reasons ++ r ∷ []) is ∙ sym (take_more reasons i reason below)

pub one_related : (text : List ℕ) (refusal : Refusal) (reasons : List ReasonSpan) (i : ℕ) (reason : ReasonSpan) (places longer : List Related) (related : Related)
    → i < length reasons → reason ≡ get_or reasons i reason → AreRelated text refusal (take i reasons) places → IsRelatedTo text reason related
    → longer ≡ places ++ related ∷ [] → AreRelated text refusal (take (i + 1) reasons) longer
one_related text refusal reasons i reason places longer related below is before to long =
    subst (λ (l : List Related). AreRelated text refusal (take (i + 1) reasons) l) (sym long)
    (subst (λ (l : List ReasonSpan). AreRelated text refusal l (places ++ related ∷ [])) (next reasons i reason below is) (shown reason before to))

pub one_unrelated : (text : List ℕ) (refusal : Refusal) (reasons : List ReasonSpan) (i : ℕ) (reason : ReasonSpan) (places : List Related)
    → i < length reasons → reason ≡ get_or reasons i reason → AreRelated text refusal (take i reasons) places
    → IsUnrelated text refusal (length places) reason → AreRelated text refusal (take (i + 1) reasons) places
one_unrelated text refusal reasons i reason places below is before not =
    subst (λ (l : List ReasonSpan). AreRelated text refusal l places) (next reasons i reason below is) (not_shown reason before not)
