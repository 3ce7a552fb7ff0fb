-- Diagnostics of rejected sources.
use Rattle.std.specs.Prelude.{◌≡◌, ◌⊎◌, ℕ, ◌≤◌, ◌<◌, List, [], ◌∷◌, ◌++◌, length, Ok, Some}
use Rattle.ti_base.specs.declared.place.Place.{Place}
use Rattle.ti_base.specs.Places.{place_of}
use Rattle.ti_rules.specs.declared.refusal.Refusal.{Refusal}
use Rattle.ti_rules.specs.Rules.{code_of, text_of}
use Rattle.ti_rules.specs.LexicalRefusals.{most_bytes}
use Rattle.ti_lex.specs.TokenSpans.{EndsToken, IsNoPosition}
use Rattle.ti_explain.specs.declared.reason.Explanation.{Explanation}
use Rattle.ti_explain.specs.declared.reason.ReasonSpan.{ReasonSpan}
use Rattle.ti_explain.specs.Explanations.{Explains}
use Rattle.ti_lsp.specs.declared.diagnostic.Diagnostic.{Diagnostic}
use Rattle.ti_lsp.specs.declared.diagnostic.Related.{Related}

-- the position is that of a byte of the text, or of its end
abbrev pub IsPosition : List ℕ → Place → Type 0
IsPosition text place = (k : ℕ) × (k ≤ length text) × (place_of text k ≡ place)

-- ---- related places

-- the largest number of related places of an error
abbrev pub most_related : ℕ
most_related = 16

-- the place is that of a reason: it begins at the reason's position, and ends with the token there
pub record IsRelatedTo (text : List ℕ) (reason : ReasonSpan) (related : Related) : Type 0 where
  pub start : place_of text related.start ≡ reason.place
  pub range : EndsToken text related.start related.end
  pub within : related.end ≤ length text

-- a reason after this many related places isn't shown: there are as many as there may be, or it is at the error's position, or at none of the text
abbrev pub IsUnrelated : List ℕ → Refusal → ℕ → ReasonSpan → Type 0
IsUnrelated text refusal count reason =
    (most_related ≤ count) ⊎ ((reason.place ≡ refusal.place) ⊎ (length text ≤ most_bytes → IsNoPosition text reason.place))

-- these are the related places of an error with these reasons, in the same order
pub data AreRelated (text : List ℕ) (refusal : Refusal) : List ReasonSpan → List Related → Type 0 where
  no_reason : AreRelated text refusal [] []
  shown : {reasons : List ReasonSpan} (reason : ReasonSpan) {places : List Related} {related : Related} → AreRelated text refusal reasons places
      → IsRelatedTo text reason related → AreRelated text refusal (reasons ++ reason ∷ []) (places ++ related ∷ [])
  not_shown : {reasons : List ReasonSpan} (reason : ReasonSpan) {places : List Related} → AreRelated text refusal reasons places
      → IsUnrelated text refusal (length places) reason → AreRelated text refusal (reasons ++ reason ∷ []) places

-- ---- diagnostics

-- the diagnostic begins at the error's position and ends with the token there; it covers at least one byte unless it begins at the end; it has
-- the code and the message of the rule, and the reasons as related places
pub record IsDiagnosticOf (text : List ℕ) (explanation : Explanation) (d : Diagnostic) : Type 0 where
  pub start : place_of text d.start ≡ explanation.refusal.place
  pub range : EndsToken text d.start d.end
  pub within : d.end ≤ length text
  pub nonempty : d.start < length text → d.start < d.end
  pub code : d.code.now ≡ code_of explanation.refusal.rule
  pub message : d.message.now ≡ text_of explanation.refusal.rule
  pub related : AreRelated text explanation.refusal explanation.reasons.items d.related.items

-- the text is rejected, and this is the diagnostic of its error with all the reasons for it
pub record Rejects (text : List ℕ) (d : Diagnostic) : Type 0 where
  pub explanation : Explanation
  pub explains : Explains text (Ok (Some explanation))
  pub is_diagnostic : IsDiagnosticOf text explanation d
