-- From a position to the bytes of the token there.
use Rattle.std.specs.Prelude.{◌≡◌, ℕ, ◌+◌, ◌≤◌, ◌&&◌, nat_le, nat_lt, Bool, List, [], ◌∷◌, length, drop, take_while}
use Rattle.ti_base.specs.declared.place.Place.{Place}
use Rattle.ti_base.specs.Places.{place_of}
use Rattle.ti_syntax.specs.Tokenizing.{Piece, IsLongest, BeginsNoPiece}
use Rattle.ti_rules.specs.LexicalRefusals.{most_bytes}

-- no byte of the text is at the position, and its end isn't either
abbrev pub IsNoPosition : List ℕ → Place → Type 0
IsNoPosition text place = (k : ℕ) → k ≤ length text → place_of text k ≡ place → ⊥

-- whether the byte continues a character of several bytes
abbrev pub continues : ℕ → Bool
continues b = nat_le 128 b && nat_lt b 192

-- the length of the first character in bytes
abbrev pub character_len : List ℕ → ℕ
character_len [] = 0
character_len (b ∷ bs) = length (take_while continues bs) + 1

-- the end of the longest lexical element that begins at an offset, or of the character there if none does, in a text that isn't too long
pub record EndsToken (text : List ℕ) (start end : ℕ) : Type 0 where
  pub token : (size : ℕ) (piece : Piece) → length text ≤ most_bytes → IsLongest (drop start text) size piece → end ≡ start + size
  pub no_token : length text ≤ most_bytes → BeginsNoPiece (drop start text) → end ≡ start + character_len (drop start text)
