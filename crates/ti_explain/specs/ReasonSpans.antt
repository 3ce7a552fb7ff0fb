-- The lengths of reasons: each covers the token at its position.
use Rattle.std.specs.Prelude.{◌≡◌, ℕ, ◌+◌, ◌≤◌, List, length, All}
use Rattle.ti_base.specs.declared.place.Place.{Place}
use Rattle.ti_base.specs.Places.{place_of}
use Rattle.ti_rules.specs.LexicalRefusals.{most_bytes}
use Rattle.ti_lex.specs.TokenSpans.{IsNoPosition, EndsToken}
use Rattle.ti_explain.specs.declared.reason.RefusalReason.{RefusalReason}
use Rattle.ti_explain.specs.declared.reason.ReasonSpan.{ReasonSpan}
use Rattle.ti_explain.specs.declared.reason.Explanation.{Explanation}

-- the length of the token at this position of the text; 0 if it isn't one of the text, or if that is longer than a source may be
pub data IsLengthAt (text : List ℕ) (place : Place) : ℕ → Type 0 where
  of_token : {len : ℕ} (start : ℕ) → place_of text start ≡ place → EndsToken text start (start + len) → IsLengthAt text place len
  of_nothing : (length text ≤ most_bytes → IsNoPosition text place) → IsLengthAt text place 0

-- the reason, without the length
abbrev pub without_len : ReasonSpan → RefusalReason
without_len s = record { place = s.place; kind = s.kind }

-- the refusal and each reason have the length of the token at their position
pub record HasLengths (text : List ℕ) (e : Explanation) : Type 0 where
  pub refusal : IsLengthAt text e.refusal.place e.len
  pub reasons : All (λ (s : ReasonSpan). IsLengthAt text s.place s.len) e.reasons.items
