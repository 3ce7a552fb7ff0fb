-- For proofs only: a model of the lexer, as functions that read one lexical element at the start of a list; `at` is its offset in the
-- source.
use Rattle.std.specs.Prelude.{ℕ, ◌+◌, ◌-◌, ◌*◌, ◌==◌, min, nat_le, Bool, true, false, not, ◌&&◌, ◌||◌, if◌then◌else◌, Option, Some, None, is_some, unwrap_or, List, [], ◌∷◌, ◌++◌, take, drop, codes, pos}
use Rattle.std.specs.List.{prefix_len}
use Rattle.std.specs.Option.{option_map_or}
use Rattle.std.specs.Int.{is_in_range}
use Rattle.std.specs.Char.{is_ascii_digit}
use Rattle.std.specs.Str.{bytes_eq}
use Rattle.std.specs.Map.{lookup}
use Rattle.ti_syntax.specs.declared.token.TokenKind.{TokenKind}
use Rattle.ti_syntax.specs.declared.token.TokenKind.TheVariants as k
use Rattle.ti_syntax.specs.Tokenizing.{Piece, Space, Lexeme, Flaw, StrayByte, OpenComment, OpenString, WrongNumber, is_blank, begins_name, is_name_byte, is_long_letter, first_passes, is_unescaped, escaped}
use Rattle.ti_lex.specs.declared.byte_class.ByteClass.{ByteClass}
use Rattle.ti_lex.specs.declared.byte_class.ByteClass.TheVariants as c

-- a lexical element and the offset of its end, or a lexical error and the offset of the byte that is reported
pub data Reading : Type 0 where
  Matches : (piece : Piece) (end : ℕ) → Reading
  Rejects : (flaw : Flaw) (fault : ℕ) → Reading

-- the class of a byte: which lexical elements it can begin
abbrev pub class_of_byte : ℕ → ByteClass
class_of_byte b =
    if is_blank b then c.Blank
    else (if begins_name b then c.Letter
    else (if is_ascii_digit b then c.Digit
    else (if b == 34 then c.Quote
    else (if b == 47 then c.Slash
    else c.Other))))

-- the reserved words
unfoldable pub reserved_words : List (List ℕ × TokenKind)
reserved_words =
    (codes "boolean", k.KeywordBoolean) ∷
    (codes "break", k.KeywordBreak) ∷
    (codes "broadcast", k.KeywordBroadcast) ∷
    (codes "class", k.KeywordClass) ∷
    (codes "continue", k.KeywordContinue) ∷
    (codes "Domain", k.KeywordDomain) ∷
    (codes "else", k.KeywordElse) ∷
    (codes "false", k.KeywordFalse) ∷
    (codes "final", k.KeywordFinal) ∷
    (codes "for", k.KeywordFor) ∷
    (codes "foreach", k.KeywordForeach) ∷
    (codes "if", k.KeywordIf) ∷
    (codes "int", k.KeywordInt) ∷
    (codes "local", k.KeywordLocal) ∷
    (codes "long", k.KeywordLong) ∷
    (codes "new", k.KeywordNew) ∷
    (codes "null", k.KeywordNull) ∷
    (codes "Point", k.KeywordPoint) ∷
    (codes "println", k.KeywordPrintln) ∷
    (codes "private", k.KeywordPrivate) ∷
    (codes "protected", k.KeywordProtected) ∷
    (codes "public", k.KeywordPublic) ∷
    (codes "RectDomain", k.KeywordRectDomain) ∷
    (codes "return", k.KeywordReturn) ∷
    (codes "SharedRegion", k.KeywordSharedRegion) ∷
    (codes "single", k.KeywordSingle) ∷
    (codes "static", k.KeywordStatic) ∷
    (codes "String", k.KeywordString) ∷
    (codes "System", k.KeywordSystem) ∷
    (codes "this", k.KeywordThis) ∷
    (codes "Ti", k.KeywordTi) ∷
    (codes "true", k.KeywordTrue) ∷
    (codes "void", k.KeywordVoid) ∷
    (codes "while", k.KeywordWhile) ∷
    []

-- the token kind of an identifier: a reserved word, or a name
abbrev pub kind_of_word : List ℕ → TokenKind
kind_of_word word = unwrap_or (lookup (bytes_eq word) reserved_words) (k.Name word)

-- the name or reserved word: all bytes that can continue it
abbrev pub word : ℕ → List ℕ → Reading
word at l =
    let size = prefix_len is_name_byte l in Matches (Lexeme (kind_of_word (take size l))) (at + size)

-- the number of dimensions, if a dimension begins the list
abbrev pub dimension : List ℕ → Option ℕ
dimension [] = None
dimension (b ∷ l) =
    if is_in_range 49 51 b && first_passes (λ d. d == 100) l && not (first_passes is_name_byte (drop 1 l)) then Some (b - 48)
    else None

-- one more than the largest long literal
abbrev pub too_large : ℕ
too_large = 9223372036854775808

-- the value of the digits at the start, after digits of value `value`; `too_large` if it is larger
abbrev pub value_from : ℕ → List ℕ → ℕ
value_from value [] = value
value_from value (b ∷ l) =
    if is_ascii_digit b then value_from (min (value * 10 + (b - 48)) too_large) l else value

-- the largest value of an int literal (false) or a long literal (true)
abbrev pub most_of : Bool → ℕ
most_of false = 2147483647
most_of true = 9223372036854775807

-- the token kind of an int literal (false) or a long literal (true)
abbrev pub kind_of_number : Bool → ℕ → TokenKind
kind_of_number false value = k.Int (pos value)
kind_of_number true value = k.LongInt (pos value)

-- the length of the suffix
abbrev pub letters : Bool → ℕ
letters false = 0
letters true = 1

-- a valid literal has no leading 0 and isn't too large
abbrev pub is_number : Bool → ℕ → ℕ → ℕ → Bool
is_number leads_with_zero size most value = not (leads_with_zero && not (size == 1)) && nat_le value most

-- the literal with these digits, and a suffix if `long`; an error if it isn't valid
abbrev pub number_reading : ℕ → Bool → ℕ → ℕ → Bool → Reading
number_reading at leads_with_zero size value long =
    if is_number leads_with_zero size (most_of long) value then Matches (Lexeme (kind_of_number long value)) (at + size + letters long)
    else Rejects WrongNumber at

-- the digits at the start, with their suffix
abbrev pub digits : ℕ → List ℕ → Reading
digits at l =
    let size = prefix_len is_ascii_digit l in number_reading at (first_passes (λ b. b == 48) l) size (value_from 0 l)
    (first_passes is_long_letter (drop size l))

-- the dimension or the number literal at the start
abbrev pub number_lexeme : ℕ → List ℕ → Reading
number_lexeme at l = option_map_or (λ n. Matches (Lexeme (k.Dim n)) (at + 2)) (dimension l) (digits at l)

-- the next part of a string: an item with its value, the closing quote, or an error
pub data Item : Type 0 where
  Gives : (byte : ℕ) (size : ℕ) → Item
  Closes : Item
  Breaks : Item
  Strays : Item

-- the item that a backslash and this list begin
abbrev pub escape : List ℕ → Item
escape [] = Strays
escape (b ∷ l) = option_map_or (λ byte. Gives byte 2) (escaped b) Strays

-- the next part of a string, by its first byte
abbrev pub item : List ℕ → Item
item [] = Breaks
item (b ∷ l) =
    if b == 34 then Closes
    else (if b == 92 then escape l
    else (if is_unescaped b then Gives b 1
    else (if b == 10 || b == 13 then Breaks
    else Strays)))

-- the rest of a string that begins at `quote`, after items with value `bytes`
abbrev mutual
  pub string_from : ℕ → List ℕ → ℕ → List ℕ → Reading
  string_from quote bytes at [] = Rejects OpenString quote
  string_from quote bytes at (b ∷ l) =
      if b == 34 then Matches (Lexeme (k.Str bytes)) (at + 1)
      else (if b == 92 then escape_from quote bytes at l
      else (if is_unescaped b then string_from quote (bytes ++ b ∷ []) (at + 1) l
      else (if b == 10 || b == 13 then Rejects OpenString quote
      else Rejects StrayByte at)))

  pub escape_from : ℕ → List ℕ → ℕ → List ℕ → Reading
  escape_from quote bytes at [] = Rejects StrayByte at
  escape_from quote bytes at (b ∷ l) =
      if is_some (escaped b) then string_from quote (bytes ++ unwrap_or (escaped b) 0 ∷ []) (at + 2) l
      else Rejects StrayByte at

-- the rest of a comment that begins at `slash`; `star` says whether the byte before it is a `*` of the comment
abbrev pub comment_from : ℕ → Bool → ℕ → List ℕ → Reading
comment_from slash star at [] = Rejects OpenComment slash
comment_from slash star at (b ∷ l) =
    if star && b == 47 then Matches Space (at + 1) else comment_from slash (b == 42) (at + 1) l

-- the operators and punctuation marks of one byte
abbrev pub first_signs : List (ℕ × TokenKind)
first_signs =
    (43, k.Plus) ∷
    (45, k.Minus) ∷
    (42, k.Star) ∷
    (47, k.Slash) ∷
    (37, k.Percent) ∷
    (60, k.Less) ∷
    (62, k.Greater) ∷
    (38, k.Ampersand) ∷
    (124, k.Bar) ∷
    (94, k.Caret) ∷
    (126, k.Tilde) ∷
    (33, k.Exclamation) ∷
    (61, k.Assign) ∷
    (40, k.LeftParen) ∷
    (41, k.RightParen) ∷
    (91, k.LeftBracket) ∷
    (93, k.RightBracket) ∷
    (123, k.LeftBrace) ∷
    (125, k.RightBrace) ∷
    (59, k.Semicolon) ∷
    (44, k.Comma) ∷
    (46, k.Dot) ∷
    (58, k.Colon) ∷
    []

-- the operator or punctuation mark of one byte
abbrev pub first_sign : ℕ → Option TokenKind
first_sign b = lookup (λ sign. b == sign) first_signs

-- the operator that extends an operator by one byte
abbrev pub longer_sign : TokenKind → ℕ → Option TokenKind
longer_sign k.Plus b = if b == 61 then Some k.PlusAssign else (if b == 43 then Some k.PlusPlus else None)
longer_sign k.Minus b = if b == 61 then Some k.MinusAssign else (if b == 45 then Some k.MinusMinus else None)
longer_sign k.Star b = if b == 61 then Some k.StarAssign else None
longer_sign k.Slash b = if b == 61 then Some k.SlashAssign else None
longer_sign k.Percent b = if b == 61 then Some k.PercentAssign else None
longer_sign k.ShiftLeft b = if b == 61 then Some k.ShiftLeftAssign else None
longer_sign k.ShiftRight b = if b == 62 then Some k.UnsignedShiftRight else (if b == 61 then Some k.ShiftRightAssign else None)
longer_sign k.UnsignedShiftRight b = if b == 61 then Some k.UnsignedShiftRightAssign else None
longer_sign k.Less b = if b == 60 then Some k.ShiftLeft else (if b == 61 then Some k.LessEqual else None)
longer_sign k.Greater b = if b == 62 then Some k.ShiftRight else (if b == 61 then Some k.GreaterEqual else None)
longer_sign k.Ampersand b = if b == 38 then Some k.AndAnd else (if b == 61 then Some k.AmpersandAssign else None)
longer_sign k.Bar b = if b == 124 then Some k.OrOr else (if b == 61 then Some k.BarAssign else None)
longer_sign k.Caret b = if b == 61 then Some k.CaretAssign else None
longer_sign k.Exclamation b = if b == 61 then Some k.NotEqual else None
longer_sign k.Assign b = if b == 61 then Some k.Equal else None
longer_sign _ b = None

-- the longest operator that extends this one
abbrev pub sign_from : TokenKind → ℕ → List ℕ → Reading
sign_from kind at [] = Matches (Lexeme kind) at
sign_from kind at (b ∷ l) =
    if is_some (longer_sign kind b) then sign_from (unwrap_or (longer_sign kind b) kind) (at + 1) l
    else Matches (Lexeme kind) at

-- the operator or punctuation mark at the start
abbrev pub sign : ℕ → List ℕ → Reading
sign at [] = Rejects StrayByte at
sign at (b ∷ l) = option_map_or (λ kind. sign_from kind (at + 1) l) (first_sign b) (Rejects StrayByte at)

-- the number of bytes left in the line
abbrev pub line_left : List ℕ → ℕ
line_left l = prefix_len (λ b. not (b == 10)) l

-- a comment or an operator that begins with a slash
abbrev pub slash : ℕ → List ℕ → Reading
slash at l =
    if first_passes (λ b. b == 47) (drop 1 l) then Matches Space (at + line_left l)
    else (if first_passes (λ b. b == 42) (drop 1 l) then comment_from at false (at + 2) (drop 1 (drop 1 l))
    else sign at l)

-- the lexical element at the start, by the class of its first byte
abbrev pub first_by : ByteClass → ℕ → List ℕ → Reading
first_by c.Blank at l = Matches Space (at + 1)
first_by c.Letter at l = word at l
first_by c.Digit at l = number_lexeme at l
first_by c.Quote at l = string_from at [] (at + 1) (drop 1 l)
first_by c.Slash at l = slash at l
first_by c.Other at l = sign at l

-- the lexical element at the start
unfoldable pub first_lexeme : ℕ → List ℕ → Reading
first_lexeme at [] = Rejects StrayByte at
first_lexeme at (b ∷ l) = first_by (class_of_byte b) at (b ∷ l)
