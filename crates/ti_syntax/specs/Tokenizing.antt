-- Lexical syntax: which source bytes are which tokens. As in Java, lexing is by longest match, from the first byte on.
use Rattle.std.specs.Prelude.{◌≡◌, ◌≢◌, ℕ, ◌+◌, ◌≤◌, ◌==◌, nat_le, Bool, true, false, not, ◌&&◌, ◌||◌, if◌then◌else◌, Option, Some, None, List, [], ◌∷◌, ◌++◌, length, take, drop, codes, pos}
use Rattle.std.specs.List.{list_all}
use Rattle.std.specs.Int.{is_in_range}
use Rattle.std.specs.Char.{is_ascii_alphabetic, is_ascii_digit}
use Rattle.std.specs.Str.Parse.{digits_value}
use Rattle.ti_base.specs.Places.{place_of, end_place}
use Rattle.ti_syntax.specs.declared.token.TokenKind.{TokenKind}
use Rattle.ti_syntax.specs.declared.token.TokenKind.TheVariants as k
use Rattle.ti_syntax.specs.declared.token.Token.{Token}
use Rattle.ti_syntax.specs.Tokens.{word_of, sign_of}

-- whitespace: a space, a tab, a line feed, a carriage return or a form feed
abbrev pub is_blank : ℕ → Bool
is_blank b = b == 32 || b == 9 || b == 10 || b == 13 || b == 12

-- a byte that can start a name: an ASCII letter, an underscore or a dollar sign
abbrev pub begins_name : ℕ → Bool
begins_name b = is_ascii_alphabetic b || b == 95 || b == 36

-- a byte that can continue a name
abbrev pub is_name_byte : ℕ → Bool
is_name_byte b = begins_name b || is_ascii_digit b

-- the suffix of a long literal: `L` or `l`
abbrev pub is_long_letter : ℕ → Bool
is_long_letter b = b == 76 || b == 108

-- a byte that can continue a number literal: a digit or the suffix of a long literal
abbrev pub goes_on_number : ℕ → Bool
goes_on_number b = is_ascii_digit b || is_long_letter b

-- whether the list is nonempty and its first byte passes the test
abbrev pub first_passes : (ℕ → Bool) → List ℕ → Bool
first_passes p [] = false
first_passes p (b ∷ l) = p b

-- a byte that represents itself in a string: no control byte but the tab, and neither the quote nor the backslash
abbrev pub is_unescaped : ℕ → Bool
is_unescaped b = b == 9 || is_in_range 32 126 b && not (b == 34) && not (b == 92) || nat_le 128 b

-- the value of a byte after a backslash; None if it is no escape
abbrev pub escaped : ℕ → Option ℕ
escaped b =
    if b == 110 then Some 10
    else (if b == 116 then Some 9
    else (if b == 34 then Some 34
    else (if b == 92 then Some 92
    else None)))

-- these bytes are one item of a string literal, with this byte as its value
pub data IsItem : List ℕ → ℕ → Type 0 where
  plain : (b : ℕ) → is_unescaped b ≡ true → IsItem (b ∷ []) b
  -- an escape: a backslash and a byte
  escape : (b : ℕ) {byte : ℕ} → escaped b ≡ Some byte → IsItem (92 ∷ b ∷ []) byte

-- these bytes are items of a string literal, with those bytes as their value
pub data AreItems : List ℕ → List ℕ → Type 0 where
  no_items : AreItems [] []
  more_items : {item items bytes : List ℕ} {byte : ℕ} → IsItem item byte → AreItems items bytes
      → AreItems (item ++ items) (byte ∷ bytes)

-- the list begins with `/*`
abbrev pub OpensComment : List ℕ → Type 0
OpensComment l = (back : List ℕ) × (l ≡ codes "/*" ++ back)

-- the list ends directly after its first `*/`
abbrev pub ClosesAtEnd : List ℕ → Type 0
ClosesAtEnd l = (front back : List ℕ) → l ≡ front ++ (codes "*/" ++ back) → back ≡ []

-- a lexical element: whitespace or a comment (Space), or the lexeme of a token
pub data Piece : Type 0 where
  Space : Piece
  Lexeme : (kind : TokenKind) → Piece

-- these bytes, followed by this rest of the source, are a lexical element
pub data IsPiece : List ℕ → List ℕ → Piece → Type 0 where
  blank : (b : ℕ) {rest : List ℕ} → is_blank b ≡ true → IsPiece (b ∷ []) rest Space
  -- a line comment, up to a line end or the end of the source: longest match takes all bytes that may belong to it
  line_comment : (inner : List ℕ) {rest : List ℕ} → list_all (λ b. not (b == 10)) inner ≡ true
      → IsPiece (codes "//" ++ inner) rest Space
  block_comment : (inner : List ℕ) {rest : List ℕ} → ClosesAtEnd (inner ++ codes "*/")
      → IsPiece (codes "/*" ++ (inner ++ codes "*/")) rest Space
  -- a name: an identifier that is no reserved word
  name : (b : ℕ) (more : List ℕ) {rest : List ℕ} → begins_name b ≡ true → list_all is_name_byte more ≡ true
      → ((kind : TokenKind) → word_of kind ≢ Some (b ∷ more))
      → IsPiece (b ∷ more) rest (Lexeme (k.Name (b ∷ more)))
  reserved : (kind : TokenKind) {word rest : List ℕ} → word_of kind ≡ Some word → IsPiece word rest (Lexeme kind)
  -- a dimension: a digit from 1 to 3 and a `d`, not followed by a byte that could continue a name
  dimension : (n : ℕ) {rest : List ℕ} → 1 ≤ n → n ≤ 3 → first_passes is_name_byte rest ≡ false
      → IsPiece ((n + 48) ∷ 100 ∷ []) rest (Lexeme (k.Dim n))
  -- an int literal: a maximal run of digits without a leading 0, not followed by the suffix of a long literal
  number : (digit : ℕ) (more : List ℕ) {rest : List ℕ} → list_all is_ascii_digit (digit ∷ more) ≡ true
      → first_passes goes_on_number rest ≡ false → (digit ≡ 48 → more ≡ [])
      → digits_value 10 (digit ∷ more) ≤ 2147483647
      → IsPiece (digit ∷ more) rest (Lexeme (k.Int (pos (digits_value 10 (digit ∷ more)))))
  -- a long literal: such a run, and the suffix
  long_number : (digit : ℕ) (more : List ℕ) (letter : ℕ) {rest : List ℕ} → list_all is_ascii_digit (digit ∷ more) ≡ true
      → is_long_letter letter ≡ true → (digit ≡ 48 → more ≡ [])
      → digits_value 10 (digit ∷ more) ≤ 9223372036854775807
      → IsPiece ((digit ∷ more) ++ letter ∷ []) rest (Lexeme (k.LongInt (pos (digits_value 10 (digit ∷ more)))))
  -- a string literal: items between two quotes
  string : {items bytes rest : List ℕ} → AreItems items bytes
      → IsPiece (34 ∷ (items ++ 34 ∷ [])) rest (Lexeme (k.Str bytes))
  -- an operator or a punctuation mark; not at `/*`, where only a complete comment is a lexical element
  sign : (kind : TokenKind) {sign rest : List ℕ} → sign_of kind ≡ Some sign → (OpensComment (sign ++ rest) → ⊥)
      → IsPiece sign rest (Lexeme kind)

-- the first `size` bytes of the list are its longest lexical element
pub record IsLongest (list : List ℕ) (size : ℕ) (piece : Piece) : Type 0 where
  pub within : size ≤ length list
  pub is_piece : IsPiece (take size list) (drop size list) piece
  pub longest : (other : ℕ) (another : Piece) → other ≤ length list
      → IsPiece (take other list) (drop other list) another → other ≤ size

-- bytes i to j of the source split into longest lexical elements, whose tokens are these
pub data Pieces (text : List ℕ) : ℕ → List Token → ℕ → Type 0 where
  no_piece : {i : ℕ} → Pieces text i [] i
  space_and : {i size j : ℕ} {tokens : List Token} → IsLongest (drop i text) size Space
      → Pieces text (i + size) tokens j → Pieces text i tokens j
  token_and : {i size j : ℕ} {kind : TokenKind} {tokens : List Token} → IsLongest (drop i text) size (Lexeme kind)
      → Pieces text (i + size) tokens j
      → Pieces text i (record { kind = kind; place = place_of text i } ∷ tokens) j

-- the source lexes to these tokens; the last is End, at the position just after the last byte
pub record IsTokenized (text : List ℕ) (tokens : List Token) : Type 0 where
  pub spelled : List Token
  pub pieces : Pieces text 0 spelled (length text)
  pub ended : tokens ≡ spelled ++ record { kind = k.End; place = end_place text } ∷ []

-- no lexical element begins the list
abbrev pub BeginsNoPiece : List ℕ → Type 0
BeginsNoPiece l =
    (size : ℕ) (piece : Piece) → size ≤ length l → IsPiece (take size l) (drop size l) piece → ⊥

-- the lexical errors
pub data Flaw : Type 0 where
  StrayByte : Flaw
  OpenComment : Flaw
  OpenString : Flaw
  WrongNumber : Flaw

-- a string literal is unterminated here: at a line feed, at a carriage return or at the end of the source
abbrev pub breaks_string : List ℕ → Bool
breaks_string [] = true
breaks_string (b ∷ l) = b == 10 || b == 13

-- neither an item of a string nor a quote begins the list
abbrev pub BeginsNoItem : List ℕ → Type 0
BeginsNoItem l =
    (first_passes (λ b. b == 34) l ≡ false) × ((item back : List ℕ) (byte : ℕ) → IsItem item byte → l ≢ item ++ back)

-- the error at the start of a list that no lexical element begins, and the offset in the list of the byte that is reported
pub data HasFlaw : List ℕ → Flaw → ℕ → Type 0 where
  open_comment : (rest : List ℕ) → HasFlaw (codes "/*" ++ rest) OpenComment 0
  -- the first byte after the quote that is neither an item nor a quote decides between these two
  open_string : {items bytes : List ℕ} (rest : List ℕ) → AreItems items bytes → breaks_string rest ≡ true
      → HasFlaw (34 ∷ (items ++ rest)) OpenString 0
  stray_in_string : {items bytes : List ℕ} (rest : List ℕ) → AreItems items bytes → breaks_string rest ≡ false
      → BeginsNoItem rest → HasFlaw (34 ∷ (items ++ rest)) StrayByte (1 + length items)
  wrong_number : (digit : ℕ) (rest : List ℕ) → is_ascii_digit digit ≡ true → HasFlaw (digit ∷ rest) WrongNumber 0
  -- any other byte
  stray_byte : (b : ℕ) (rest : List ℕ) → (OpensComment (b ∷ rest) → ⊥) → b ≢ 34 → is_ascii_digit b ≡ false
      → HasFlaw (b ∷ rest) StrayByte 0

-- lexing fails: after some lexical elements none can follow, and the error is reported at byte `at`
pub record IsFlawed (text : List ℕ) (flaw : Flaw) (at : ℕ) : Type 0 where
  pub spelled : List Token
  pub end : ℕ
  pub pieces : Pieces text 0 spelled end
  pub stuck : BeginsNoPiece (drop end text)
  pub before : ℕ
  pub flawed : HasFlaw (drop end text) flaw before
  pub place : at ≡ end + before
