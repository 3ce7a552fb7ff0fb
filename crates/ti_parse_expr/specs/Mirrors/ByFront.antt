-- For proofs only: how the result of a parser (a function value) for a prefix of the token list determines the result for the list.
use Rattle.std.specs.Prelude.{◌≡◌, ℕ, suc, ◌-◌, Bool, true, false, List, length, drop, Result, Ok, Err}
use denote.Ref.{MutBor}
use Rattle.ti_syntax.specs.declared.token.Token.{Token}
use Rattle.ti_parse_expr.specs.declared.parse_stop.ParseStop.{ParseStop}
use Rattle.ti_parse_expr.specs.declared.parse_stop.ParseStop.TheVariants as stop
use Rattle.ti_parse_expr.specs.Mirrors.Full.{front_of, exceeds_weight}

-- a result that says nothing about the tokens: out of memory or out of fuel
abbrev pub is_final : {T : Type 0} → Result T ParseStop → Bool
is_final (Ok x) = false
is_final (Err stop.Memory) = true
is_final (Err stop.OutOfFuel) = true
is_final (Err stop.Refused) = false
is_final (Err stop.TooDeep) = false

-- The result for the list, given that for a prefix of it: the same, with as many tokens consumed; except that if all of the prefix
-- was consumed and its last token is above the weight limit, the result is TooDeep at that token.
pub data Widens {T : Type 0} (weight : ℕ) (list front : List Token) (answer : Result T ParseStop) (left : List Token) : Result T ParseStop → List Token → Type 0 where
  final : {new : List Token} → is_final answer ≡ true → Widens weight list front answer left answer new
  passes : {new : List Token} → is_final answer ≡ false → exceeds_weight weight front (length left) ≡ true → new ≡ drop (length front - 1) list
      → Widens weight list front answer left (Err stop.TooDeep) new
  moves : {new : List Token} → is_final answer ≡ false → exceeds_weight weight front (length left) ≡ false → new
      ≡ drop (length front - length left) list → Widens weight list front answer left answer new

-- the result for the list follows from one of the function value for the prefix, with fuel of one more than the prefix has tokens
pub record ByFront {T : Type 0} (weight : ℕ) (post : MutBor (List Token) → ℕ → Result T ParseStop → MutBor (List Token) → Type 0) (list : List Token) (result : Result T ParseStop) (new : List Token) : Type 0 where
  pub before : MutBor (List Token)
  pub fuel : ℕ
  pub answer : Result T ParseStop
  pub after : MutBor (List Token)
  pub answers : post before fuel answer after
  pub is_front : before.now ≡ front_of weight list
  pub enough : fuel ≡ suc (length before.now)
  pub widens : Widens weight list before.now answer after.now result new
