-- The bytes at a position.
use Rattle.std.proofs.Common.{◌≡◌, ℕ, ◌-◌, ◌≤◌, List, [], length, take, drop, sym, ap, ◌∙◌, subst, arith, length-drop}
use Rattle.std.proofs.lemmas.List.{take_all}
use Rattle.ti_base.specs.declared.place.Place.{Place}
use Rattle.ti_base.specs.Places.{place_of}
use Rattle.ti_rules.specs.LexicalRefusals.{most_bytes}
use Rattle.ti_lex.specs.TokenSpans.{IsNoPosition}
use Rattle.ti_wording.specs.ShownTokens.{IsShownAt, here, nowhere}

-- the bytes from an offset to the end
rest_whole : (text : List ℕ) (start : ℕ) → take (length text - start) (drop start text) ≡ drop start text
rest_whole text start = take_all (length text - start) (drop start text) (omega (arith, length-drop start text))

pub shown_here : (text : List ℕ) (place : Place) (len start : ℕ) (bytes : List ℕ) → place_of text start ≡ place
    → bytes ≡ take len (take (length text - start) (drop start text)) → IsShownAt text place len bytes
shown_here text place len start bytes is same =
    subst (IsShownAt text place len) (sym (same ∙ ap (take len) (rest_whole text start))) (here start is)

pub shown_nowhere : (text : List ℕ) (place : Place) (len : ℕ) (bytes : List ℕ) → bytes ≡ [] → (length text ≤ most_bytes → IsNoPosition text place)
    → IsShownAt text place len bytes
shown_nowhere text place len bytes none never = subst (IsShownAt text place len) (sym none) (nowhere never)
