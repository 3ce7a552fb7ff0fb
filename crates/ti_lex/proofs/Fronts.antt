-- Definitions and lemmas on what a reading says of the start of a list: soundness, and that no lexical element there is longer.
use Rattle.std.proofs.Common.{◌≡◌, ◌⊎◌, inl, inr, ℕ, ◌+◌, ◌<◌, ◌≤◌, List, ◌++◌, length, refl, arith}
use Rattle.std.proofs.lemmas.Bool.{cases_lt}
use Rattle.ti_syntax.specs.Tokenizing.{Piece, IsPiece, Flaw, HasFlaw}
use Rattle.ti_lex.specs.Mirrors.Reading.{Reading, Matches, Rejects}

-- the reading takes more than a piece of this size, or it takes that piece
abbrev pub Beats : ℕ → ℕ → Piece → Reading → Type 0
Beats at size piece (Matches other end) = (at + size < end) ⊎ ((end ≡ at + size) × (other ≡ piece))
Beats at size piece (Rejects flaw fault) = ⊥

-- a piece that the reading takes stands at the front, and so does a flaw that it refuses
abbrev pub IsSound : ℕ → List ℕ → Reading → Type 0
IsSound at l (Matches piece end) =
    (front : List ℕ) × (rest : List ℕ) × (l ≡ front ++ rest) × (0 < length front) × (end ≡ at + length front) × IsPiece front rest piece
IsSound at l (Rejects flaw fault) = (before : ℕ) × (fault ≡ at + before) × HasFlaw l flaw before

-- the same piece, as long or longer
pub beats_same : (at size end : ℕ) (piece : Piece) → at + size ≤ end → Beats at size piece (Matches piece end)
beats_same at size end piece le =
    elim (cases_lt (at + size) end) [ inl longer ↦ inl longer | inr short ↦ inr (omega arith, refl) ]

-- the reading refuses nothing but this
abbrev pub IsRefusal : Flaw → ℕ → Reading → Type 0
IsRefusal flaw fault (Matches piece end) = Unit {0}
IsRefusal flaw fault (Rejects other at) = (other ≡ flaw) × (at ≡ fault)
