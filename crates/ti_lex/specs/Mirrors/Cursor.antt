-- For proofs only: the model of the lexer's cursor.
use Rattle.std.specs.Prelude.{ℕ, ◌+◌, List, drop}

-- a source, and the offset of its next byte
pub record CursorView : Type 0 where
  pub text : List ℕ
  pub at : ℕ

-- the bytes that aren't read yet
abbrev pub unread_bytes : CursorView → List ℕ
unread_bytes spot = drop spot.at spot.text

-- the cursor n bytes further on
abbrev pub skip_bytes : ℕ → CursorView → CursorView
skip_bytes n spot = record spot { at = spot.at + n }
