-- For proofs only: how much of a token list is parsed: up to the first token that is above the weight limit or can't be in an expression.
use Rattle.std.specs.Prelude.{◌≡◌, ◌⊎◌, ℕ, zero, suc, ◌+◌, ◌<◌, Bool, true, false, if◌then◌else◌, List, [], ◌∷◌, ◌++◌, Option, Some, None}
use Rattle.ti_syntax.specs.declared.token.Token.{Token}
use Rattle.ti_syntax.specs.declared.token.TokenKind.{TokenKind}
use Rattle.ti_syntax.specs.declared.token.TokenKind.TheVariants as k
use Rattle.ti_syntax.specs.Spelling.Weights.{counts, arity_behind, weigh}
use Rattle.ti_parse_expr.specs.Answers.{IsLight}
use Rattle.ti_syntax.specs.Spelling.{most_weight}

-- tokens that can't be in an expression
abbrev pub ends_expression : TokenKind → Bool
ends_expression k.Semicolon = true
ends_expression k.LeftBrace = true
ends_expression k.RightBrace = true
ends_expression k.End = true
ends_expression _ = false

-- The state after a token that isn't part of an arity: the number of arity tokens that follow, and the weight still available; None
-- if the token is above the limit.
abbrev pub state_after : Bool → ℕ → ℕ → Option (ℕ × ℕ)
state_after true arity zero = None
state_after true arity (suc left) = Some (arity, left)
state_after false arity left = Some (arity, left)

abbrev pub onward : TokenKind → ℕ → ℕ → Option (ℕ × ℕ)
onward kind (suc n) left = Some (n, left)
onward kind zero left = state_after (counts kind) (arity_behind kind) left

-- the number of tokens to read, by the state after the next token
abbrev pub reach_by : (ℕ → ℕ → ℕ) → Option (ℕ × ℕ) → ℕ
reach_by more None = 0
reach_by more (Some p) = more p.0 p.1

unfoldable pub reach : ℕ → ℕ → List Token → ℕ
reach arity left [] = 0
reach arity left (t ∷ l) = suc (if ends_expression t.kind then 0 else reach_by (λ a w. reach a w l) (onward t.kind arity left))

-- The prefix that is read: its last token is the first one that is above the weight limit, where weights are counted from `weight` on,
-- or can't be in an expression.
pub record IsCut (weight : ℕ) (list cut : List Token) : Type 0 where
  pub front : List Token
  pub last : Token
  pub rest : List Token
  pub is : list ≡ front ++ last ∷ rest
  pub made : cut ≡ front ++ last ∷ []
  pub light : IsLight weight front
  pub stops : (ends_expression last.kind ≡ true) ⊎ (most_weight < weight + weigh (front ++ last ∷ []))
