-- What `lex` returns, as its public contract states it.
use Rattle.std.specs.Prelude.{◌≡◌, ◌⊎◌, ℕ, ◌≤◌, ◌<◌, List, length, Result, Ok, Err}
use Rattle.std.specs.declared.vec.Vec.{Vec}
use Rattle.std.specs.declared.alloc.Global.{Global}
use Rattle.ti_syntax.specs.declared.token.Token.{Token}
use Rattle.ti_syntax.specs.Tokenizing.{IsLongest, IsTokenized, Piece}
use Rattle.ti_rules.specs.declared.refusal.Refusal.{Refusal}
use Rattle.ti_rules.specs.LexicalRefusals.{most_bytes, IsLexicalRefusal}
use Rattle.ti_lex.specs.declared.error.LexErr.{LexErr}
use Rattle.ti_lex.specs.declared.error.LexErr.TheVariants.{Refused, Memory}

-- the tokens are those of the source, a refusal is one that the source has; out of memory is always possible
abbrev pub Lexes : List ℕ → Result (Vec Token Global) LexErr → Type 0
Lexes text (Ok tokens) = (length text ≤ most_bytes) × IsTokenized text tokens.items
Lexes text (Err (Refused refusal)) = IsLexicalRefusal text refusal
Lexes text (Err Memory) = Unit {0}

-- the result is these tokens or out of memory
abbrev pub GivesOnly : Result (Vec Token Global) LexErr → List Token → Type 0
GivesOnly (Ok found) tokens = found.items ≡ tokens
GivesOnly (Err error) tokens = error ≡ Memory

-- the result is this refusal or out of memory
abbrev pub RefusesOnly : Result (Vec Token Global) LexErr → Refusal → Type 0
RefusesOnly (Ok found) refusal = ⊥
RefusesOnly (Err error) refusal = (error ≡ Refused refusal) ⊎ (error ≡ Memory)

-- a lexical element of this length begins these bytes
pub record BeginsElement (bytes : List ℕ) (size : ℕ) : Type 0 where
  pub nonempty : 0 < size
  pub piece : Piece
  pub longest : IsLongest bytes size piece
