-- For proofs only: the model of parsing a full expression with a weight limit. It is the parser without a limit, except that it fails
-- with Over at the first token that is above the limit.
use Rattle.std.specs.Prelude.{ℕ, suc, ◌+◌, ◌-◌, Bool, false, ◌&&◌, nat_lt, if◌then◌else◌, List, [], ◌∷◌, length, take, drop, Ok, Err}
use Rattle.ti_base.specs.declared.place.Place.{Place}
use Rattle.ti_syntax.specs.declared.token.Token.{Token}
use Rattle.ti_syntax.specs.Trees.Expressions.{Exp}
use Rattle.ti_syntax.specs.Spelling.Loads.{Load, Free, Level, Weight, weights_behind}
use Rattle.ti_syntax.specs.Spelling.Weights.{weigh}
use Rattle.ti_parse_expr.specs.declared.parse.Form.{Form}
use Rattle.ti_parse_expr.specs.Mirrors.Input.{At, Over, OutOfFuel, ParseOutcome, Parser, after_next}
use Rattle.ti_parse_expr.specs.Mirrors.Reach.{reach}
use Rattle.ti_parse_expr.specs.Mirrors.Exprs.{Operand, operand, expr, phrase, behind_name, behind_bracket}
use Rattle.ti_syntax.specs.Spelling.{most_levels, most_weight}

-- limits on nesting levels and weights
pub record Limits : Type 0 where
  pub level : ℕ
  pub weight : ℕ

-- the language's limits
abbrev pub language_limits : Limits
language_limits = record { level = most_levels; weight = most_weight }

-- whether a load is above its limit
abbrev pub above : Limits → Load → Bool
above limits Free = false
above limits (Level n) = nat_lt limits.level n
above limits (Weight n) = nat_lt limits.weight n

abbrev pub is_above : Load → Bool
is_above = above language_limits

-- the outcome with limits, for tokens with these loads at the start of the list: Over at the first one above its limit, else `out`
abbrev pub limited_to : {A : Type 0} → Limits → List Load → List Token → ParseOutcome A → ParseOutcome A
limited_to limits [] l out = out
limited_to limits (x ∷ loads) l out = if above limits x then Err (Over l) else limited_to limits loads (after_next l) out

abbrev pub limit_outcome : {A : Type 0} → List Load → List Token → ParseOutcome A → ParseOutcome A
limit_outcome loads l out = limited_to language_limits loads l out

-- the tokens that an outcome leaves unread
abbrev pub unread_of : {A : Type 0} → ParseOutcome A → List Token
unread_of (Ok p) = p.1
unread_of (Err (At r)) = r
unread_of (Err (Over r)) = r
unread_of (Err OutOfFuel) = []

-- the tokens that were consumed
abbrev pub consumed_tokens : {A : Type 0} → List Token → ParseOutcome A → List Token
consumed_tokens l out = take (length l - length (unread_of out)) l

-- a parser with a weight limit, where weights are counted from `weight` on
abbrev pub light : {A : Type 0} → Limits → ℕ → Parser A → Parser A
light limits weight p l = limited_to limits (weights_behind 0 weight (consumed_tokens l (p l))) l (p l)

-- ---- full expressions: a phrase; a Postfix; a Postfix after its first name, and after its first name and `[`

abbrev pub full_to : Limits → Form → Parser Exp
full_to limits form l = light limits 0 (phrase (suc (length l)) form) l

abbrev pub operand_to : Limits → Parser Operand
operand_to limits l = light limits 0 (operand (suc (length l)) (expr (suc (length l)))) l

abbrev pub behind_name_to : Limits → Place → List ℕ → Parser Operand
behind_name_to limits at name l = light limits 0 (behind_name (suc (suc (length l))) at name) l

abbrev pub behind_bracket_to : Limits → Place → Place → List ℕ → Parser Operand
behind_bracket_to limits bracket_at at name l = light limits 1 (behind_bracket (suc (suc (length l))) bracket_at at name) l

-- the parsers above, with the language's limits

abbrev pub full : Form → Parser Exp
full = full_to language_limits

abbrev pub full_operand : Parser Operand
full_operand = operand_to language_limits

abbrev pub full_behind_name : Place → List ℕ → Parser Operand
full_behind_name = behind_name_to language_limits

abbrev pub full_behind_bracket : Place → Place → List ℕ → Parser Operand
full_behind_bracket = behind_bracket_to language_limits

-- ---- the code's way: parsing a prefix

-- the prefix that ends with the first token that is above the weight limit or can't be in an expression
abbrev pub front_of : ℕ → List Token → List Token
front_of weight l = take (reach 0 (most_weight - weight) l) l

-- whether none of the prefix is left and its last token is above the weight limit; `left` is the number of its tokens that are left
abbrev pub exceeds_weight : ℕ → List Token → ℕ → Bool
exceeds_weight weight front left = nat_lt left 1 && nat_lt most_weight (weight + weigh front)

-- the outcome for the list, given that for a prefix of it
abbrev pub widen_outcome : {A : Type 0} → ℕ → List Token → List Token → ParseOutcome A → ParseOutcome A
widen_outcome weight l front (Ok p) =
    if exceeds_weight weight front (length p.1) then Err (Over (drop (length front - 1) l)) else Ok (p.0, drop (length front - length p.1) l)
widen_outcome weight l front (Err (At r)) =
    if exceeds_weight weight front (length r) then Err (Over (drop (length front - 1) l)) else Err (At (drop (length front - length r) l))
widen_outcome weight l front (Err (Over r)) =
    if exceeds_weight weight front (length r) then Err (Over (drop (length front - 1) l)) else Err (Over (drop (length front - length r) l))
widen_outcome weight l front (Err OutOfFuel) = Err OutOfFuel

-- a parser that reads only the prefix, with fuel of one more than the prefix has tokens
abbrev pub with_weight_limit : {A : Type 0} → ℕ → (ℕ → Parser A) → Parser A
with_weight_limit weight p l = let front = front_of weight l in widen_outcome weight l front (p (suc (length front)) front)
