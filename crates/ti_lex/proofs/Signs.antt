-- The model's reading of operators and punctuation marks is proved correct for the lexical syntax.
use Rattle.std.proofs.Common.{◌≡◌, ℕ, ◌+◌, ◌==◌, Bool, true, false, cond, if◌then◌else◌, Option, Some, None, is_some, unwrap_or, List, [], ◌∷◌, ◌++◌, length, codes, inl, inr, refl, sym, ap, ◌∙◌, subst, arith, append_assoc}
use Rattle.std.proofs.lemmas.Bool.{eqb-true, cond_both}
use Rattle.std.proofs.lemmas.List.{append-nil}
use Rattle.std.specs.Map.{lookup}
use Rattle.std.specs.Option.{option_map_or}
use Rattle.ti_syntax.specs.declared.token.TokenKind.{TokenKind}
use Rattle.ti_syntax.specs.declared.token.TokenKind.TheVariants as k
use Rattle.ti_syntax.specs.Tokens.{sign_of}
use Rattle.ti_syntax.specs.Tokenizing.{Piece, Lexeme, IsPiece, OpensComment}
use Rattle.ti_syntax.specs.Tokenizing as pieces
use Rattle.ti_lex.specs.Mirrors.Reading.{Reading, Matches, Rejects, first_signs, first_sign, longer_sign, sign_from, sign}
use Rattle.ti_lex.proofs.Fronts.{Beats, IsSound, IsRefusal}

-- an operator or a longer one is read behind it
from_by : (at size : ℕ) (kind : TokenKind) (rest : List ℕ) (b : ℕ)
    → ((p : ℕ) (longer : TokenKind) → p ≡ at + size + 1 → Beats (at + 1) size (Lexeme longer) (sign_from longer p rest))
    → (longer : Option TokenKind) → Beats at size (Lexeme kind) (if is_some longer then sign_from (unwrap_or longer kind)
    (at + size + 1) rest else Matches (Lexeme kind) (at + size))
from_by at size kind rest b more (Some longer) =
    further (sign_from longer (at + size + 1) rest) (more (at + size + 1) longer refl)
  where
    further : (r : Reading) → Beats (at + 1) size (Lexeme longer) r → Beats at size (Lexeme kind) r
    further (Matches piece end) (inl far) = inl (omega arith)
    further (Matches piece end) (inr (near, same)) = inl (omega arith)
    further (Rejects flaw fault) h = absurd h
from_by at size kind rest b more None = inr (refl, refl)

from_beats : (rest : List ℕ) (at size : ℕ) (kind : TokenKind) (p : ℕ) → p ≡ at + size → Beats at size (Lexeme kind) (sign_from kind p rest)
from_beats [] at size kind p h = inr (h, refl)
from_beats (b ∷ rest) at size kind p h =
    subst (λ q. Beats at size (Lexeme kind) (if is_some (longer_sign kind b) then sign_from (unwrap_or (longer_sign kind b) kind)
    (q + 1) rest else Matches (Lexeme kind) q)) (sym h) (from_by at size kind rest b
    (λ q longer e. from_beats rest (at + 1) size longer q (e ∙ omega arith)) (longer_sign kind b))

-- a sign is read byte by byte, from `at` on
abbrev IsRead : TokenKind → Option (List ℕ) → Type 0
IsRead kind None = Unit {0}
IsRead kind (Some spelling) =
    (at : ℕ) (rest : List ℕ) → (end : ℕ) × (end ≡ at + length spelling) × (sign at (spelling ++ rest) ≡ sign_from kind end rest)

all_read : (kind : TokenKind) → IsRead kind (sign_of kind)
all_read k.Plus = λ at rest. (at + 1, omega arith, refl)
all_read k.Minus = λ at rest. (at + 1, omega arith, refl)
all_read k.Star = λ at rest. (at + 1, omega arith, refl)
all_read k.Slash = λ at rest. (at + 1, omega arith, refl)
all_read k.Percent = λ at rest. (at + 1, omega arith, refl)
all_read k.ShiftLeft = λ at rest. (at + 1 + 1, omega arith, refl)
all_read k.ShiftRight = λ at rest. (at + 1 + 1, omega arith, refl)
all_read k.UnsignedShiftRight = λ at rest. (at + 1 + 1 + 1, omega arith, refl)
all_read k.Less = λ at rest. (at + 1, omega arith, refl)
all_read k.LessEqual = λ at rest. (at + 1 + 1, omega arith, refl)
all_read k.Greater = λ at rest. (at + 1, omega arith, refl)
all_read k.GreaterEqual = λ at rest. (at + 1 + 1, omega arith, refl)
all_read k.Equal = λ at rest. (at + 1 + 1, omega arith, refl)
all_read k.NotEqual = λ at rest. (at + 1 + 1, omega arith, refl)
all_read k.Ampersand = λ at rest. (at + 1, omega arith, refl)
all_read k.Bar = λ at rest. (at + 1, omega arith, refl)
all_read k.Caret = λ at rest. (at + 1, omega arith, refl)
all_read k.Tilde = λ at rest. (at + 1, omega arith, refl)
all_read k.Exclamation = λ at rest. (at + 1, omega arith, refl)
all_read k.AndAnd = λ at rest. (at + 1 + 1, omega arith, refl)
all_read k.OrOr = λ at rest. (at + 1 + 1, omega arith, refl)
all_read k.Assign = λ at rest. (at + 1, omega arith, refl)
all_read k.PlusAssign = λ at rest. (at + 1 + 1, omega arith, refl)
all_read k.MinusAssign = λ at rest. (at + 1 + 1, omega arith, refl)
all_read k.StarAssign = λ at rest. (at + 1 + 1, omega arith, refl)
all_read k.SlashAssign = λ at rest. (at + 1 + 1, omega arith, refl)
all_read k.PercentAssign = λ at rest. (at + 1 + 1, omega arith, refl)
all_read k.AmpersandAssign = λ at rest. (at + 1 + 1, omega arith, refl)
all_read k.BarAssign = λ at rest. (at + 1 + 1, omega arith, refl)
all_read k.CaretAssign = λ at rest. (at + 1 + 1, omega arith, refl)
all_read k.ShiftLeftAssign = λ at rest. (at + 1 + 1 + 1, omega arith, refl)
all_read k.ShiftRightAssign = λ at rest. (at + 1 + 1 + 1, omega arith, refl)
all_read k.UnsignedShiftRightAssign = λ at rest. (at + 1 + 1 + 1 + 1, omega arith, refl)
all_read k.PlusPlus = λ at rest. (at + 1 + 1, omega arith, refl)
all_read k.MinusMinus = λ at rest. (at + 1 + 1, omega arith, refl)
all_read k.LeftParen = λ at rest. (at + 1, omega arith, refl)
all_read k.RightParen = λ at rest. (at + 1, omega arith, refl)
all_read k.LeftBracket = λ at rest. (at + 1, omega arith, refl)
all_read k.RightBracket = λ at rest. (at + 1, omega arith, refl)
all_read k.LeftBrace = λ at rest. (at + 1, omega arith, refl)
all_read k.RightBrace = λ at rest. (at + 1, omega arith, refl)
all_read k.Semicolon = λ at rest. (at + 1, omega arith, refl)
all_read k.Comma = λ at rest. (at + 1, omega arith, refl)
all_read k.Dot = λ at rest. (at + 1, omega arith, refl)
all_read k.Colon = λ at rest. (at + 1, omega arith, refl)
all_read _ = tt

-- where a list begins with a sign, that sign or a longer one is read
pub sign_beats : (at : ℕ) (kind : TokenKind) (spelling rest : List ℕ) → sign_of kind ≡ Some spelling → Beats at (length spelling) (Lexeme kind) (sign at (spelling ++ rest))
sign_beats at kind spelling rest h =
    let (end, to, same) = subst (IsRead kind) h (all_read kind) at rest in
    subst (Beats at (length spelling) (Lexeme kind)) (sym same) (from_beats rest at (length spelling) kind end to)

-- a byte behind a sign makes the sign that both spell
abbrev IsLonger : TokenKind → ℕ → Option TokenKind → Type 0
IsLonger kind b None = Unit {0}
IsLonger kind b (Some longer) =
    (spelling : List ℕ) → sign_of kind ≡ Some spelling → sign_of longer ≡ Some (spelling ++ b ∷ [])

added : (kind longer : TokenKind) (before : List ℕ) (b n : ℕ) → sign_of kind ≡ Some before → sign_of longer ≡ Some (before ++ n ∷ []) → (b == n) ≡ true → IsLonger kind b (Some longer)
added kind longer before b n this that same spelling is =
    let spelled : before ≡ spelling = ap (λ o. unwrap_or o []) (sym this ∙ is) in
    that ∙ ap (λ d. Some (before ++ d ∷ [])) (sym (eqb-true b n same)) ∙ ap (λ t. Some (t ++ b ∷ [])) spelled

all_longer : (kind : TokenKind) (b : ℕ) → IsLonger kind b (longer_sign kind b)
all_longer k.Plus b = cond_both (b == 61) (Some k.PlusAssign) _ (IsLonger k.Plus b)
    (λ h. added k.Plus k.PlusAssign (codes "+") b 61 refl refl h) (λ _.
    (cond_both (b == 43) (Some k.PlusPlus) _ (IsLonger k.Plus b) (λ h. added k.Plus k.PlusPlus (codes "+") b 43 refl refl h) (λ _. tt)))
all_longer k.Minus b = cond_both (b == 61) (Some k.MinusAssign) _ (IsLonger k.Minus b)
    (λ h. added k.Minus k.MinusAssign (codes "-") b 61 refl refl h)
    (λ _. (cond_both (b == 45) (Some k.MinusMinus) _ (IsLonger k.Minus b) (λ h. added k.Minus k.MinusMinus (codes "-") b 45 refl refl h)
    (λ _. tt)))
all_longer k.Star b = cond_both (b == 61) (Some k.StarAssign) _ (IsLonger k.Star b) (λ h. added k.Star k.StarAssign (codes "*") b 61 refl refl h) (λ _. tt)
all_longer k.Slash b = cond_both (b == 61) (Some k.SlashAssign) _ (IsLonger k.Slash b) (λ h. added k.Slash k.SlashAssign (codes "/") b 61 refl refl h) (λ _. tt)
all_longer k.Percent b = cond_both (b == 61) (Some k.PercentAssign) _ (IsLonger k.Percent b) (λ h. added k.Percent k.PercentAssign (codes "%") b 61 refl refl h) (λ _. tt)
all_longer k.ShiftLeft b = cond_both (b == 61) (Some k.ShiftLeftAssign) _ (IsLonger k.ShiftLeft b) (λ h. added k.ShiftLeft k.ShiftLeftAssign (codes "<<") b 61 refl refl h) (λ _. tt)
all_longer k.ShiftRight b = cond_both (b == 62) (Some k.UnsignedShiftRight) _ (IsLonger k.ShiftRight b)
    (λ h. added k.ShiftRight k.UnsignedShiftRight (codes ">>") b 62 refl refl h)
    (λ _. (cond_both (b == 61) (Some k.ShiftRightAssign) _ (IsLonger k.ShiftRight b)
    (λ h. added k.ShiftRight k.ShiftRightAssign (codes ">>") b 61 refl refl h) (λ _. tt)))
all_longer k.UnsignedShiftRight b = cond_both (b == 61) (Some k.UnsignedShiftRightAssign) _ (IsLonger k.UnsignedShiftRight b)
    (λ h. added k.UnsignedShiftRight k.UnsignedShiftRightAssign (codes ">>>") b 61 refl refl h) (λ _. tt)
all_longer k.Less b = cond_both (b == 60) (Some k.ShiftLeft) _ (IsLonger k.Less b)
    (λ h. added k.Less k.ShiftLeft (codes "<") b 60 refl refl h) (λ _.
    (cond_both (b == 61) (Some k.LessEqual) _ (IsLonger k.Less b) (λ h. added k.Less k.LessEqual (codes "<") b 61 refl refl h) (λ _. tt)))
all_longer k.Greater b = cond_both (b == 62) (Some k.ShiftRight) _ (IsLonger k.Greater b)
    (λ h. added k.Greater k.ShiftRight (codes ">") b 62 refl refl h)
    (λ _. (cond_both (b == 61) (Some k.GreaterEqual) _ (IsLonger k.Greater b)
    (λ h. added k.Greater k.GreaterEqual (codes ">") b 61 refl refl h) (λ _. tt)))
all_longer k.Ampersand b = cond_both (b == 38) (Some k.AndAnd) _ (IsLonger k.Ampersand b)
    (λ h. added k.Ampersand k.AndAnd (codes "&") b 38 refl refl h)
    (λ _. (cond_both (b == 61) (Some k.AmpersandAssign) _ (IsLonger k.Ampersand b)
    (λ h. added k.Ampersand k.AmpersandAssign (codes "&") b 61 refl refl h) (λ _. tt)))
all_longer k.Bar b = cond_both (b == 124) (Some k.OrOr) _ (IsLonger k.Bar b) (λ h. added k.Bar k.OrOr (codes "|") b 124 refl refl h)
    (λ _. (cond_both (b == 61) (Some k.BarAssign) _ (IsLonger k.Bar b) (λ h. added k.Bar k.BarAssign (codes "|") b 61 refl refl h)
    (λ _. tt)))
all_longer k.Caret b = cond_both (b == 61) (Some k.CaretAssign) _ (IsLonger k.Caret b) (λ h. added k.Caret k.CaretAssign (codes "^") b 61 refl refl h) (λ _. tt)
all_longer k.Exclamation b = cond_both (b == 61) (Some k.NotEqual) _ (IsLonger k.Exclamation b) (λ h. added k.Exclamation k.NotEqual (codes "!") b 61 refl refl h) (λ _. tt)
all_longer k.Assign b = cond_both (b == 61) (Some k.Equal) _ (IsLonger k.Assign b) (λ h. added k.Assign k.Equal (codes "=") b 61 refl refl h) (λ _. tt)
all_longer _ b = tt

-- each sign of one byte is spelled by that byte
abbrev AreSpelled : List (ℕ × TokenKind) → Type 0
AreSpelled [] = Unit {0}
AreSpelled (row ∷ rows) = (sign_of row.1 ≡ Some (row.0 ∷ [])) × AreSpelled rows

all_spelled : AreSpelled first_signs
all_spelled = (refl, (refl, (refl, (refl, (refl, (refl, (refl, (refl, (refl, (refl, (refl, (refl, (refl, (refl, (refl, (refl, (refl, (refl, (refl, (refl, (refl, (refl, (refl, tt)))))))))))))))))))))))

abbrev IsFirst : ℕ → Option TokenKind → Type 0
IsFirst b None = Unit {0}
IsFirst b (Some kind) = sign_of kind ≡ Some (b ∷ [])

first_by : (b : ℕ) (row : ℕ × TokenKind) (others : Option TokenKind) → sign_of row.1 ≡ Some (row.0 ∷ []) → IsFirst b others → (t : Bool) → (b == row.0) ≡ t → IsFirst b (cond t (Some row.1) others)
first_by b row others this rest true h = this ∙ ap (λ d. Some (d ∷ [])) (sym (eqb-true b row.0 h))
first_by b row others this rest false h = rest

first_of : (b : ℕ) (rows : List (ℕ × TokenKind)) → AreSpelled rows → IsFirst b (lookup (λ sign. b == sign) rows)
first_of b [] h = tt
first_of b (row ∷ rows) (this, others) =
    first_by b row (lookup (λ sign. b == sign) rows) this (first_of b rows others) (b == row.0) refl

-- what is read behind a sign spells one with it
abbrev IsRest : ℕ → List ℕ → List ℕ → Reading → Type 0
IsRest p spelling l (Matches piece end) =
    (kind : TokenKind) × (whole : List ℕ) × (more : List ℕ) × (rest : List ℕ) × (piece ≡ Lexeme kind) × (sign_of kind ≡ Some whole)
    × (whole ≡ spelling ++ more) × (l ≡ more ++ rest) × (end ≡ p + length more)
IsRest p spelling l (Rejects flaw fault) = ⊥

rest_by : (p b : ℕ) (spelling l : List ℕ) (kind : TokenKind) → sign_of kind ≡ Some spelling
    → ((longer : TokenKind) → sign_of longer ≡ Some (spelling ++ b ∷ [])
    → IsRest (p + 1) (spelling ++ b ∷ []) l (sign_from longer (p + 1) l)) → (longer : Option TokenKind) → IsLonger kind b longer
    → IsRest p spelling (b ∷ l) (if is_some longer then sign_from (unwrap_or longer kind) (p + 1) l else Matches (Lexeme kind) p)
rest_by p b spelling l kind this more (Some longer) is =
    further (sign_from longer (p + 1) l) (more longer (is spelling this))
  where
    further : (r : Reading) → IsRest (p + 1) (spelling ++ b ∷ []) l r → IsRest p spelling (b ∷ l) r
    further (Matches piece end) (kind, whole, others, rest, piece_is, spelled, whole_is, l_is, to) =
        (kind, whole, b ∷ others, rest, piece_is, spelled, whole_is ∙ append_assoc spelling (b ∷ []) others, ap (λ t. b ∷ t) l_is, omega arith)
    further (Rejects flaw fault) h = absurd h
rest_by p b spelling l kind this more None is =
    (kind, spelling, [], b ∷ l, refl, this, sym (append-nil spelling), refl, omega arith)

rest_of : (l : List ℕ) (p : ℕ) (spelling : List ℕ) (kind : TokenKind) → sign_of kind ≡ Some spelling → IsRest p spelling l (sign_from kind p l)
rest_of [] p spelling kind this = (kind, spelling, [], [], refl, this, sym (append-nil spelling), refl, omega arith)
rest_of (b ∷ l) p spelling kind this =
    rest_by p b spelling l kind this (λ longer h. rest_of l (p + 1) (spelling ++ b ∷ []) longer h) (longer_sign kind b) (all_longer kind b)

-- a sign that is read stands at the front, and where none is read there is a stray byte
pub sign_sound : (at b : ℕ) (l : List ℕ) → (OpensComment (b ∷ l) → ⊥) → ((first_sign b ≡ None) → IsSound at (b ∷ l) (Rejects pieces.StrayByte at)) → IsSound at (b ∷ l) (sign at (b ∷ l))
sign_sound at b l no_comment stray = by (first_sign b) refl (first_of b first_signs all_spelled)
  where
    whole : (r : Reading) → IsRest (at + 1) (b ∷ []) l r → IsSound at (b ∷ l) r
    whole (Matches piece end) (kind, spelling, more, rest, piece_is, spelled, spelling_is, l_is, to) =
        let all : b ∷ l ≡ spelling ++ rest = ap (λ t. b ∷ t) l_is ∙ ap (λ t. t ++ rest) (sym spelling_is) in
        let long : length spelling ≡ 1 + length more = ap length spelling_is ∙ omega arith in
        (spelling, rest, all, omega arith, omega arith, subst (IsPiece spelling rest) (sym piece_is) (pieces.sign kind spelled (λ opens. no_comment (subst OpensComment (sym all) opens))))
    whole (Rejects flaw fault) h = absurd h

    by : (first : Option TokenKind) → first_sign b ≡ first → IsFirst b first → IsSound at (b ∷ l) (option_map_or (λ kind. sign_from kind (at + 1) l) first (Rejects pieces.StrayByte at))
    by (Some kind) h is = whole (sign_from kind (at + 1) l) (rest_of l (at + 1) (b ∷ []) kind is)
    by None h is = stray h

-- an operator or mark is refused at its first byte alone
pub sign_refusal : (at b : ℕ) (l : List ℕ) → IsRefusal pieces.StrayByte at (sign at (b ∷ l))
sign_refusal at b l = by (first_sign b)
  where
    taken : (kind : TokenKind) (r : Reading) → Beats at 1 (Lexeme kind) r → IsRefusal pieces.StrayByte at r
    taken kind (Matches piece end) h = tt
    taken kind (Rejects flaw fault) h = absurd h

    by : (found : Option TokenKind) → IsRefusal pieces.StrayByte at (option_map_or (λ kind. sign_from kind (at + 1) l) found (Rejects pieces.StrayByte at))
    by (Some kind) = taken kind (sign_from kind (at + 1) l) (from_beats l at 1 kind (at + 1) refl)
    by None = (refl, refl)
