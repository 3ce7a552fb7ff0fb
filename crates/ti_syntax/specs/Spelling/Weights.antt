-- The weight of an expression's tokens: a count that bounds how deeply the expression can nest.
use Rattle.std.specs.Prelude.{ℕ, zero, suc, ◌+◌, Bool, true, false, if◌then◌else◌, List, [], ◌∷◌}
use Rattle.ti_syntax.specs.declared.token.Token.{Token}
use Rattle.ti_syntax.specs.declared.token.TokenKind.{TokenKind}
use Rattle.ti_syntax.specs.declared.token.TokenKind.TheVariants as k

-- the tokens that are counted: `(`, `[`, `.` and the unary and binary operators
abbrev pub counts : TokenKind → Bool
counts k.LeftParen = true
counts k.LeftBracket = true
counts k.Dot = true
counts k.Exclamation = true
counts k.Tilde = true
counts k.OrOr = true
counts k.AndAnd = true
counts k.Bar = true
counts k.Caret = true
counts k.Ampersand = true
counts k.Equal = true
counts k.NotEqual = true
counts k.Less = true
counts k.LessEqual = true
counts k.Greater = true
counts k.GreaterEqual = true
counts k.ShiftLeft = true
counts k.ShiftRight = true
counts k.UnsignedShiftRight = true
counts k.Plus = true
counts k.Minus = true
counts k.Star = true
counts k.Slash = true
counts k.Percent = true
counts _ = false

-- The number of tokens after this one that are an arity: the three after `Point` or `RectDomain`, whose `<` and `>` aren't operators.
abbrev pub arity_behind : TokenKind → ℕ
arity_behind k.KeywordPoint = 3
arity_behind k.KeywordRectDomain = 3
arity_behind _ = 0

-- the number of counted tokens in the list, whose first n tokens belong to an arity
abbrev pub weigh_behind : ℕ → List Token → ℕ
weigh_behind n [] = 0
weigh_behind (suc n) (t ∷ l) = weigh_behind n l
weigh_behind zero (t ∷ l) = (if counts t.kind then 1 else 0) + weigh_behind (arity_behind t.kind) l

-- The number of counted tokens in a prefix of an expression: the weight of its last token. Weights never decrease along an
-- expression, and a token's weight doesn't depend on what follows it.
abbrev pub weigh : List Token → ℕ
weigh l = weigh_behind 0 l
