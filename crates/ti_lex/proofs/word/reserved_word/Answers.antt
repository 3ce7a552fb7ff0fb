use Rattle.std.proofs.Common.{◌≡◌, ◌<◌, ℕ, List, [], ◌∷◌, length, Option, None, refl, sym, ◌∙◌, arith}
use Rattle.std.specs.Map.{lookup}
use Rattle.std.specs.Str.{bytes_eq}
use Rattle.ti_syntax.specs.declared.token.TokenKind.{TokenKind}
use Rattle.ti_lex.specs.Mirrors.Reading.{reserved_words}
use Rattle.ti_lex.proofs.Tables.{found, passed}
use Rattle.ti_lex.proofs.word.reserved_word.Goals as goal

no_bytes : (l : List ℕ) → length l < 1 → ◌≡◌ {A = Option TokenKind} None (lookup (bytes_eq l) reserved_words)
unfolding reserved_words
no_bytes [] h = refl
no_bytes (b ∷ l) h = absurd (omega arith)

pub returns-in_default : goal.returns-in_default
returns-in_default c = no_bytes c.args.word.now c.in_default.len_below

pub returns-then-eq : goal.returns-then-eq
returns-then-eq c =
    let row : List ℕ × TokenKind = (c.reserved_at-kind.result.0.now, c.reserved_at-kind.result.1) in
    sym (found (bytes_eq c.args.word.now) reserved_words c.loop-number.number row c.reserved_at-kind.ensures (sym c.eq.ensures ∙ c.if-eq.true)) ∙ c.loop-number.invariant

pub loop-number-preserved : goal.loop-number-preserved
loop-number-preserved c =
    let row : List ℕ × TokenKind = (c.reserved_at-kind.result.0.now, c.reserved_at-kind.result.1) in
    passed (bytes_eq c.args.word.now) reserved_words c.loop-number.number row c.reserved_at-kind.ensures (sym c.eq.ensures ∙ c.if-eq.false) ∙ c.loop-number.invariant
