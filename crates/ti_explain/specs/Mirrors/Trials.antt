-- For proofs only: what putting a token in place of another one finds.
use Rattle.std.specs.Prelude.{◌≡◌, ◌⊎◌, ℕ, ◌<◌, Bool, true, false, List, [], ◌∷◌, ◌++◌, slice_get, Option, Some, None}
use Rattle.ti_base.specs.declared.place.Place.{Place}
use Rattle.ti_base.specs.Places.{same_place, place_before}
use Rattle.ti_rules.specs.declared.rule.Rule.{Rule}
use Rattle.ti_rules.specs.declared.rule.Rule.TheVariants.{G1}
use Rattle.ti_rules.specs.RefusalOf.{HasTokens}
use Rattle.ti_syntax.specs.declared.token.Token.{Token}
use Rattle.ti_syntax.specs.declared.token.TokenKind.{TokenKind}
use Rattle.ti_syntax.specs.Spelling.{BeginsText, IsShallow}
use Rattle.ti_explain.specs.declared.reason.RefusalReason.{RefusalReason}
use Rattle.ti_explain.specs.Expected.{IsTokenOf, CanFollow, expected_reason, IsEndExpected}

-- no token of a text is here
abbrev pub zero_place : Place
zero_place = record { line = 0; col = 0 }

-- the kind of the first of two tokens
abbrev pub IsOnly : List Token → Option TokenKind → Type 0
IsOnly tokens None = (t end : Token) → tokens ≡ t ∷ end ∷ [] → ⊥
IsOnly tokens (Some kind) = (t : Token) × (end : Token) × (tokens ≡ t ∷ end ∷ []) × (t.kind ≡ kind)

-- the kind of the token that the text is
abbrev pub IsKindOf : List ℕ → Option TokenKind → Type 0
IsKindOf text None = (t : Token) → IsTokenOf text t → ⊥
IsKindOf text (Some kind) = (t : Token) × IsTokenOf text t × (t.kind ≡ kind)

-- the tokens before one that doesn't fit: none is too deep, and none is nowhere
pub record IsFront (front : List Token) : Type 0 where
  pub shallow : IsShallow front
  pub somewhere : (k : ℕ) (t : Token) → slice_get front k ≡ Some t → t.place ≡ zero_place → ⊥

-- the tokens are these, then this one, then one that is nowhere
pub record IsTrial (front : List Token) (t : Token) (tokens : List Token) : Type 0 where
  pub is_front : IsFront front
  pub placed : t.place ≡ zero_place → ⊥
  pub end : Token
  pub at_end : end.place ≡ zero_place
  pub is : tokens ≡ front ++ (t ∷ end ∷ [])

-- the parser refuses at the end of a trial, or for its depth
abbrev pub moves_on : Rule → Place → Bool
moves_on G1 at = same_place at zero_place
moves_on rule at = true

-- all but the last begin some program if and only if the test holds
abbrev pub BeginsIf : List Token → Bool → Type 0
BeginsIf tokens true = (front : List Token) (t : Token) → IsTrial front t tokens → BeginsText (front ++ t ∷ [])
BeginsIf tokens false = (front : List Token) (t : Token) → IsTrial front t tokens → BeginsText (front ++ t ∷ []) → ⊥

-- after one text more, there is its reason if its token can follow, else there isn't
abbrev pub Tries : List Token → Place → List ℕ → List RefusalReason → List RefusalReason → Type 0
Tries front at text before after =
    (CanFollow front at text × (after ≡ before ++ expected_reason at text ∷ [])) ⊎ ((CanFollow front at text → ⊥) × (after ≡ before))

-- after the end, there is its reason if the source could end, else there isn't
abbrev pub TriesEnd : List Token → Place → List RefusalReason → List RefusalReason → Type 0
TriesEnd front at before after = (end : List RefusalReason) × IsEndExpected front at end × (after ≡ before ++ end)

-- ---- the place of a token

-- these are the tokens of some text
abbrev pub AreTokens : List Token → Type 0
AreTokens tokens = (text : List ℕ) × HasTokens text tokens

-- the positions of the tokens strictly increase, and no token is nowhere
pub record AreInOrder (tokens : List Token) : Type 0 where
  pub rise : (i j : ℕ) (t u : Token) → i < j → slice_get tokens i ≡ Some t → slice_get tokens j ≡ Some u
      → place_before t.place u.place ≡ true
  pub somewhere : (i : ℕ) (t : Token) → slice_get tokens i ≡ Some t → t.place ≡ zero_place → ⊥

-- the token of this number is at the position; without a number, none is
abbrev pub IsFirstAt : List Token → Place → Option ℕ → Type 0
IsFirstAt tokens at None = (k : ℕ) (t : Token) → slice_get tokens k ≡ Some t → t.place ≡ at → ⊥
IsFirstAt tokens at (Some index) = (t : Token) × (slice_get tokens index ≡ Some t) × (t.place ≡ at)
