-- The length of the lexical element at the start of some bytes.
use Rattle.std.proofs.Common.{◌≡◌, ◌<◌, ◌+◌, ℕ, List, [], ◌∷◌, length, Ok, Err, refl, sym, ap, ◌∙◌, subst, arith}
use Rattle.ti_syntax.specs.Tokenizing.{Piece, IsLongest, BeginsNoPiece}
use Rattle.ti_rules.specs.declared.refusal.Refusal.{Refusal}
use Rattle.ti_lex.specs.declared.error.LexErr.TheVariants.{Refused}
use Rattle.ti_lex.specs.declared.input_element.InputElement.{InputElement}
use Rattle.ti_lex.specs.Answer.{BeginsElement}
use Rattle.ti_lex.specs.Mirrors.Answers.{Scans}
use Rattle.ti_lex.specs.Mirrors.Cursor.{CursorView}
use Rattle.ti_lex.specs.Mirrors.Reading.{Reading, Matches, Rejects, first_lexeme}
use Rattle.ti_lex.proofs.Longest.{Tells, first_tells, none_empty}

pub scanned_none : (bytes : List ℕ) (old new : CursorView) (refusal : Refusal) → Scans (first_lexeme 0 bytes) old new (Err (Refused refusal)) → 0 < length bytes
    → BeginsNoPiece bytes
scanned_none bytes old new refusal scans some = by (first_lexeme 0 bytes) refl (first_tells 0 bytes some) scans
  where
    by : (r : Reading) → first_lexeme 0 bytes ≡ r → Tells 0 bytes (first_lexeme 0 bytes) → Scans r old new (Err (Refused refusal)) → BeginsNoPiece bytes
    by (Matches piece end) h tells scans = absurd scans
    by (Rejects flaw fault) h tells scans = (subst (Tells 0 bytes) h tells).0

pub no_bytes : (bytes : List ℕ) → bytes ≡ [] → BeginsNoPiece bytes
no_bytes bytes none = subst BeginsNoPiece (sym none) none_empty

pub scanned_some : (bytes : List ℕ) (old new : CursorView) (found : InputElement) → Scans (first_lexeme 0 bytes) old new (Ok found) → 0 < length bytes
    → BeginsElement bytes new.at
scanned_some bytes old new found scans some = by (first_lexeme 0 bytes) refl (first_tells 0 bytes some) scans
  where
    by : (r : Reading) → first_lexeme 0 bytes ≡ r → Tells 0 bytes (first_lexeme 0 bytes) → Scans r old new (Ok found) → BeginsElement bytes new.at
    by (Matches piece end) h tells scans =
        let (size, to, more, longest) = subst (Tells 0 bytes) h tells in
        let here : size ≡ new.at = omega (arith, to, ap (λ (v : CursorView). v.at) scans.1) in
        record { nonempty = omega arith; piece = piece; longest = subst (λ (n : ℕ). IsLongest bytes n piece) here longest }
    by (Rejects flaw fault) h tells scans = absurd scans
