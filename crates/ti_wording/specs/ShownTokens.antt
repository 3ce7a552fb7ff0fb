-- Which bytes of a source are shown as a token.
use Rattle.std.specs.Prelude.{◌≡◌, ℕ, ◌≤◌, List, [], length, take, drop}
use Rattle.ti_base.specs.declared.place.Place.{Place}
use Rattle.ti_base.specs.Places.{place_of}
use Rattle.ti_rules.specs.LexicalRefusals.{most_bytes}
use Rattle.ti_lex.specs.TokenSpans.{IsNoPosition}

-- the bytes of the source from this position on, `len` at most; none if it isn't a position of the source
pub data IsShownAt (text : List ℕ) (place : Place) (len : ℕ) : List ℕ → Type 0 where
  here : (start : ℕ) → place_of text start ≡ place → IsShownAt text place len (take len (drop start text))
  nowhere : (length text ≤ most_bytes → IsNoPosition text place) → IsShownAt text place len []
