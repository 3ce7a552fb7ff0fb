-- For proofs only: the model of the shortcut for operands of one token, by the tokens that often follow an operand and never
-- continue it.
use Rattle.std.specs.Prelude.{Bool, true, false, List, [], ◌∷◌}
use Rattle.ti_syntax.specs.declared.token.Token.{Token}
use Rattle.ti_syntax.specs.declared.token.TokenKind.{TokenKind}
use Rattle.ti_syntax.specs.declared.token.TokenKind.TheVariants as k

abbrev pub ends_operand : TokenKind → Bool
ends_operand k.Semicolon = true
ends_operand k.RightParen = true
ends_operand k.RightBracket = true
ends_operand k.Comma = true
ends_operand k.Assign = true
ends_operand k.PlusAssign = true
ends_operand k.PlusPlus = true
ends_operand _ = false

-- a name, followed by a token that ends the expression
abbrev pub is_name_before_end : TokenKind → TokenKind → Bool
is_name_before_end (k.Name name) q = ends_operand q
is_name_before_end _ q = false

abbrev pub is_lone_name : List Token → Bool
is_lone_name [] = false
is_lone_name (t ∷ []) = false
is_lone_name (t ∷ u ∷ l) = is_name_before_end t.kind u.kind
