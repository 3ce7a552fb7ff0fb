-- The lexical element that the model reads at the start of a list is proved to be the longest one there.
use Rattle.std.proofs.Common.{◌≡◌, ℕ, ◌+◌, ◌≤◌, ◌<◌, ◌==◌, true, false, ◌&&◌, ◌||◌, Option, Some, None, List, [], ◌∷◌, ◌++◌, length, take, drop, codes, pos, inl, inr, refl, sym, ap, ◌∙◌, subst, arith, take-append-drop, length-append, length-take}
use Rattle.std.proofs.Math.Seq.{take-append_seam, drop-append_seam}
use Rattle.std.proofs.lemmas.Bool.{cond_both, and_parts, eqb-true}
use Rattle.std.proofs.lemmas.Bool.Decides.{nat_tests}
use Rattle.std.specs.Char.{is_ascii_digit}
use Rattle.std.specs.List.{list_all}
use Rattle.std.specs.Str.Parse.{digits_value}
use Rattle.ti_syntax.specs.declared.token.TokenKind.{TokenKind}
use Rattle.ti_syntax.specs.declared.token.TokenKind.TheVariants as k
use Rattle.ti_syntax.specs.Tokens.{word_of, sign_of}
use Rattle.ti_syntax.specs.Tokenizing.{Piece, Space, Lexeme, StrayByte, IsPiece, IsLongest, OpensComment, BeginsNoPiece, HasFlaw, begins_name, is_name_byte, first_passes}
use Rattle.ti_syntax.specs.Tokenizing as pieces
use Rattle.ti_lex.specs.declared.byte_class.ByteClass.{ByteClass}
use Rattle.ti_lex.specs.declared.byte_class.ByteClass.TheVariants as c
use Rattle.ti_lex.specs.Mirrors.Reading.{Reading, Matches, Rejects, class_of_byte, comment_from, line_left, word, slash, sign, first_by, first_lexeme}
use Rattle.ti_lex.proofs.Bytes.{class_of_byte-blank, class_of_byte-letter, class_of_byte-digit, IsOfClass, class_of_is}
use Rattle.ti_lex.proofs.Comments.{line_beats, line_sound, comment_taken, comment_sound}
use Rattle.ti_lex.proofs.Fronts.{Beats, IsSound}
use Rattle.ti_lex.proofs.Numbers.{dimension_beats, number_beats, long_beats, number_sound}
use Rattle.ti_lex.proofs.Signs.{sign_beats, sign_sound}
use Rattle.ti_lex.proofs.StringPieces.{string_beats, string_sound}
use Rattle.ti_lex.proofs.Words.{reserved_found, name_found, word_beats, word_sound}

line_longer : (at : ℕ) (l : List ℕ) → first_passes (λ b. b == 47) l ≡ true → Beats at 1 (Lexeme k.Slash) (Matches Space (at + line_left (47 ∷ l)))
line_longer at [] h = cc
line_longer at (b ∷ l) h =
    subst (λ d. Beats at 1 (Lexeme k.Slash) (Matches Space (at + line_left (47 ∷ d ∷ l)))) (sym (eqb-true b 47 h)) (inl (omega arith))

pub opens : (l : List ℕ) → first_passes (λ b. b == 42) l ≡ true → OpensComment (47 ∷ l)
opens [] h = cc
opens (b ∷ l) h = (l, ap (λ d. 47 ∷ d ∷ l) (eqb-true b 42 h))

-- a slash is read as an operator, where no comment begins with it
slash_beats : (at : ℕ) (rest : List ℕ) → (OpensComment (47 ∷ rest) → ⊥) → Beats at 1 (Lexeme k.Slash) (sign at (47 ∷ rest)) → Beats at 1 (Lexeme k.Slash) (slash at (47 ∷ rest))
slash_beats at rest no_comment h =
    let P : Reading → Type 0 = Beats at 1 (Lexeme k.Slash) in
    cond_both (first_passes (λ b. b == 47) rest) _ _ P (line_longer at rest) (λ _. cond_both (first_passes (λ b. b == 42) rest) _ _ P (λ star. absurd (no_comment (opens rest star))) (λ _. h))

-- an operator that the front is read as is the piece that is read
abbrev IsFront : TokenKind → Option (List ℕ) → Type 0
IsFront kind None = Unit {0}
IsFront kind (Some spelling) =
    (at : ℕ) (rest : List ℕ) → (OpensComment (spelling ++ rest) → ⊥) → Beats at (length spelling) (Lexeme kind) (sign at (spelling ++ rest))
    → Beats at (length spelling) (Lexeme kind) (first_lexeme at (spelling ++ rest))

all_fronts : (kind : TokenKind) → IsFront kind (sign_of kind)
unfolding first_lexeme
all_fronts k.Plus = λ at rest no_comment h. h
all_fronts k.Minus = λ at rest no_comment h. h
all_fronts k.Star = λ at rest no_comment h. h
all_fronts k.Slash = λ at rest no_comment h. slash_beats at rest no_comment h
all_fronts k.Percent = λ at rest no_comment h. h
all_fronts k.ShiftLeft = λ at rest no_comment h. h
all_fronts k.ShiftRight = λ at rest no_comment h. h
all_fronts k.UnsignedShiftRight = λ at rest no_comment h. h
all_fronts k.Less = λ at rest no_comment h. h
all_fronts k.LessEqual = λ at rest no_comment h. h
all_fronts k.Greater = λ at rest no_comment h. h
all_fronts k.GreaterEqual = λ at rest no_comment h. h
all_fronts k.Equal = λ at rest no_comment h. h
all_fronts k.NotEqual = λ at rest no_comment h. h
all_fronts k.Ampersand = λ at rest no_comment h. h
all_fronts k.Bar = λ at rest no_comment h. h
all_fronts k.Caret = λ at rest no_comment h. h
all_fronts k.Tilde = λ at rest no_comment h. h
all_fronts k.Exclamation = λ at rest no_comment h. h
all_fronts k.AndAnd = λ at rest no_comment h. h
all_fronts k.OrOr = λ at rest no_comment h. h
all_fronts k.Assign = λ at rest no_comment h. h
all_fronts k.PlusAssign = λ at rest no_comment h. h
all_fronts k.MinusAssign = λ at rest no_comment h. h
all_fronts k.StarAssign = λ at rest no_comment h. h
all_fronts k.SlashAssign = λ at rest no_comment h. h
all_fronts k.PercentAssign = λ at rest no_comment h. h
all_fronts k.AmpersandAssign = λ at rest no_comment h. h
all_fronts k.BarAssign = λ at rest no_comment h. h
all_fronts k.CaretAssign = λ at rest no_comment h. h
all_fronts k.ShiftLeftAssign = λ at rest no_comment h. h
all_fronts k.ShiftRightAssign = λ at rest no_comment h. h
all_fronts k.UnsignedShiftRightAssign = λ at rest no_comment h. h
all_fronts k.PlusPlus = λ at rest no_comment h. h
all_fronts k.MinusMinus = λ at rest no_comment h. h
all_fronts k.LeftParen = λ at rest no_comment h. h
all_fronts k.RightParen = λ at rest no_comment h. h
all_fronts k.LeftBracket = λ at rest no_comment h. h
all_fronts k.RightBracket = λ at rest no_comment h. h
all_fronts k.LeftBrace = λ at rest no_comment h. h
all_fronts k.RightBrace = λ at rest no_comment h. h
all_fronts k.Semicolon = λ at rest no_comment h. h
all_fronts k.Comma = λ at rest no_comment h. h
all_fronts k.Dot = λ at rest no_comment h. h
all_fronts k.Colon = λ at rest no_comment h. h
all_fronts _ = tt

reserved_beats : (at : ℕ) (kind : TokenKind) (word rest : List ℕ) → word_of kind ≡ Some word → Beats at (length word) (Lexeme kind) (first_lexeme at (word ++ rest))
unfolding first_lexeme
reserved_beats at kind [] rest h = let (letter, all, found) = reserved_found kind [] h in cc
reserved_beats at kind (b ∷ more) rest h =
    let (letter, all, found) = reserved_found kind (b ∷ more) h in
    subst (λ q. Beats at (length (b ∷ more)) (Lexeme kind) (first_by q at (b ∷ (more ++ rest)))) (sym (class_of_byte-letter b letter)) (word_beats at (b ∷ more) rest kind all found)

digit_of : (n : ℕ) → n ≤ 3 → is_ascii_digit (n + 48) ≡ true
digit_of n h = grind (arith, nat_tests)

-- where a piece stands at the front, that piece or a longer one is read
first_beats : {front rest : List ℕ} {piece : Piece} → IsPiece front rest piece → (at : ℕ) → Beats at (length front) piece (first_lexeme at (front ++ rest))
unfolding first_lexeme
first_beats (pieces.blank b {rest = rest} h) at =
    subst (λ q. Beats at 1 Space (first_by q at (b ∷ rest))) (sym (class_of_byte-blank b h)) (inr (refl, refl))
first_beats (pieces.line_comment inner {rest = rest} h) at = line_beats at inner rest h
first_beats (pieces.block_comment inner {rest = rest} closes) at =
    subst (Beats at (length (codes "/*" ++ (inner ++ codes "*/"))) Space) (sym (comment_taken at inner rest false (at + 2) closes)) (inr (omega (arith, length-append inner (codes "*/")), refl))
first_beats (pieces.name b more {rest = rest} letter all none) at =
    subst (λ q. Beats at (length (b ∷ more)) (Lexeme (k.Name (b ∷ more))) (first_by q at (b ∷ (more ++ rest))))
    (sym (class_of_byte-letter b letter)) (word_beats at (b ∷ more) rest (k.Name (b ∷ more))
    (ap (λ t. (t || is_ascii_digit b) && list_all is_name_byte more) letter ∙ all) (name_found (b ∷ more) none))
first_beats (pieces.reserved kind {word = word} {rest = rest} h) at =
    reserved_beats at kind word rest h
first_beats (pieces.dimension n {rest = rest} low high stop) at =
    subst (λ q. Beats at 2 (Lexeme (k.Dim n)) (first_by q at ((n + 48) ∷ 100 ∷ rest))) (sym (class_of_byte-digit (n + 48) (digit_of n high))) (dimension_beats at n rest low high stop)
first_beats (pieces.number digit more {rest = rest} all stop no_zero fits) at =
    subst (λ q. Beats at (length (digit ∷ more)) (Lexeme (k.Int (pos (digits_value 10 (digit ∷ more)))))
    (first_by q at (digit ∷ (more ++ rest)))) (sym (class_of_byte-digit digit
    (and_parts (is_ascii_digit digit) (list_all is_ascii_digit more) all).0))
    (number_beats at digit more rest all no_zero stop fits)
first_beats (pieces.long_number digit more letter {rest = rest} all is no_zero fits) at =
    subst (λ q. Beats at (length ((digit ∷ more) ++ letter ∷ [])) (Lexeme (k.LongInt (pos (digits_value 10 (digit ∷ more)))))
    (first_by q at (((digit ∷ more) ++ letter ∷ []) ++ rest))) (sym
    (class_of_byte-digit digit (and_parts (is_ascii_digit digit) (list_all is_ascii_digit more) all).0))
    (long_beats at digit more rest all no_zero letter is fits)
first_beats (pieces.string {items = items} {bytes = bytes} {rest = rest} are) at =
    string_beats at items bytes rest are
first_beats (pieces.sign kind {sign = spelling} {rest = rest} h no_comment) at =
    subst (IsFront kind) h (all_fronts kind) at rest no_comment (sign_beats at kind spelling rest h)

abbrev head_of : List ℕ → ℕ
head_of [] = 0
head_of (b ∷ l) = b

abbrev tail_of : List ℕ → List ℕ
tail_of [] = []
tail_of (b ∷ l) = l

star_behind : (l : List ℕ) → first_passes (λ b. b == 42) l ≡ false → OpensComment (47 ∷ l) → ⊥
star_behind l h (back, is) =
    let both : true ≡ false = sym (ap (λ t. first_passes (λ b. b == 42) (tail_of t)) is) ∙ h in cc

slash_sound : (at : ℕ) (l : List ℕ) → IsSound at (47 ∷ l) (slash at (47 ∷ l))
slash_sound at l =
    let P : Reading → Type 0 = IsSound at (47 ∷ l) in
    cond_both (first_passes (λ b. b == 47) l) _ _ P (line l) (λ _. cond_both (first_passes (λ b. b == 42) l) _ _ P (comment l) (λ plain. sign_sound at 47 l (star_behind l plain) (λ none. cc)))
  where
    line : (l : List ℕ) → first_passes (λ b. b == 47) l ≡ true → IsSound at (47 ∷ l) (Matches Space (at + line_left (47 ∷ l)))
    line [] h = cc
    line (b ∷ l) h =
        subst (λ d. IsSound at (47 ∷ d ∷ l) (Matches Space (at + line_left (47 ∷ d ∷ l)))) (sym (eqb-true b 47 h)) (line_sound at l)

    comment : (l : List ℕ) → first_passes (λ b. b == 42) l ≡ true → IsSound at (47 ∷ l) (comment_from at false (at + 2) (drop 1 l))
    comment [] h = cc
    comment (b ∷ l) h =
        subst (λ d. IsSound at (47 ∷ d ∷ l) (comment_from at false (at + 2) l)) (sym (eqb-true b 42 h)) (comment_sound at l)

-- what is read at the front stands there
first_sound : (at b : ℕ) (l : List ℕ) → IsSound at (b ∷ l) (first_lexeme at (b ∷ l))
unfolding first_lexeme
first_sound at b l = by (class_of_byte b) (class_of_is b)
  where
    by : (q : ByteClass) → IsOfClass b q → IsSound at (b ∷ l) (first_by q at (b ∷ l))
    by c.Blank h = (b ∷ [], l, refl, omega arith, refl, pieces.blank b h)
    by c.Letter h = word_sound at b l h
    by c.Digit h = number_sound at b l h
    by c.Quote h =
        subst (λ d. IsSound at (d ∷ l) (first_by c.Quote at (d ∷ l))) (sym h) (string_sound at l)
    by c.Slash h = subst (λ d. IsSound at (d ∷ l) (slash at (d ∷ l))) (sym h) (slash_sound at l)
    by c.Other (digit, quote, slash) =
        let no_comment : OpensComment (b ∷ l) → ⊥ = λ (back, is). slash (ap head_of is) in
        sign_sound at b l no_comment (λ none. (0, omega arith, pieces.stray_byte b l no_comment quote digit))

-- a piece at the front by its size, and the same or a longer one that is read
sized_beats : (at : ℕ) (l : List ℕ) (size : ℕ) (piece : Piece) → size ≤ length l → IsPiece (take size l) (drop size l) piece → Beats at size piece (first_lexeme at l)
sized_beats at l size piece within is =
    let long : length (take size l) ≡ size = omega (arith, length-take size l) in
    subst (λ n. Beats at n piece (first_lexeme at l)) long (subst (λ t. Beats at (length (take size l)) piece (first_lexeme at t)) (take-append-drop size l) (first_beats is at))

-- nothing is read of the empty list
pub none_empty : BeginsNoPiece []
unfolding first_lexeme
none_empty size piece within is = sized_beats 0 [] size piece within is

-- a reading of a list says that its piece is the longest, or what is wrong where there is none
abbrev pub Tells : ℕ → List ℕ → Reading → Type 0
Tells at l (Matches piece end) = (size : ℕ) × (end ≡ at + size) × (0 < size) × IsLongest l size piece
Tells at l (Rejects flaw fault) =
    BeginsNoPiece l × ((before : ℕ) × (fault ≡ at + before) × HasFlaw l flaw before)

pub first_tells : (at : ℕ) (l : List ℕ) → 0 < length l → Tells at l (first_lexeme at l)
first_tells at [] some = absurd (omega arith)
first_tells at (b ∷ l) some = by (first_lexeme at (b ∷ l)) (first_sound at b l) refl
  where
    by : (r : Reading) → IsSound at (b ∷ l) r → first_lexeme at (b ∷ l) ≡ r → Tells at (b ∷ l) r
    by (Matches piece end) (front, rest, is, some, to, stands) h =
        let taken : take (length front) (b ∷ l) ≡ front = ap (take (length front)) is ∙ take-append_seam front rest in
        let left : drop (length front) (b ∷ l) ≡ rest = ap (drop (length front)) is ∙ drop-append_seam front rest in
        let long : length (b ∷ l) ≡ length front + length rest = ap length is ∙ length-append front rest in (
          length front,
          to,
          some,
          record {
            within = omega arith;
            is_piece = subst (λ t. IsPiece t (drop (length front) (b ∷ l)) piece) (sym taken) (subst (λ t. IsPiece front t piece) (sym left) stands);
            longest = λ other another within other_is. longest other another within other_is;
          },
        )
      where
        longest : (other : ℕ) (another : Piece) → other ≤ length (b ∷ l) → IsPiece (take other (b ∷ l)) (drop other (b ∷ l)) another → other ≤ length front
        longest other another within other_is =
            let beats : Beats at other another (Matches piece end) = subst (Beats at other another) h (sized_beats at (b ∷ l) other another within other_is) in
            elim beats [ inl longer ↦ omega arith | inr same ↦ omega (arith, same.0) ]
    by (Rejects flaw fault) flawed h =
        (λ size piece within is. subst (Beats at size piece) h (sized_beats at (b ∷ l) size piece within is), flawed)

longest_some : (l : List ℕ) (size : ℕ) (piece : Piece) → IsLongest l size piece → 0 < length l
longest_some [] size piece longest = absurd (none_empty size piece longest.within longest.is_piece)
longest_some (b ∷ l) size piece longest = omega arith

-- the longest piece at the front is read
pub longest_read : (at : ℕ) (l : List ℕ) (size : ℕ) (piece : Piece) → IsLongest l size piece → first_lexeme at l ≡ Matches piece (at + size)
longest_read at l size piece longest =
    by (first_lexeme at l) refl (sized_beats at l size piece longest.within longest.is_piece)
  where
    by : (r : Reading) → first_lexeme at l ≡ r → Beats at size piece r → r ≡ Matches piece (at + size)
    by (Matches other end) h (inl longer) =
        let (n, to, some, told) = subst (Tells at l) h (first_tells at l (longest_some l size piece longest)) in
        let le : n ≤ size = longest.longest n other told.within told.is_piece in
        absurd (omega arith)
    by (Matches other end) h (inr (to, same)) = ap (λ q. Matches q end) same ∙ ap (Matches piece) to
    by (Rejects flaw fault) h beats = absurd beats
