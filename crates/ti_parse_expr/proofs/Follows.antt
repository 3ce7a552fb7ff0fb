-- Lemmas on parsing steps that are known to continue, and on what follows a phrase that ends.
use Rattle.std.proofs.Common.{◌≡◌, ℕ, ◌<◌, ◌≤◌, List, [], ◌∷◌, ◌++◌, Some, Ok, Err, refl, ap, ◌∙◌, arith, true, false, Bool, if◌then◌else◌}
use Rattle.ti_syntax.specs.declared.token.Token.{Token}
use Rattle.ti_syntax.specs.declared.token.TokenKind.{TokenKind}
use Rattle.ti_syntax.specs.declared.token.TokenKind.TheVariants as k
use Rattle.ti_syntax.specs.declared.tree.exprs.BinaryOperator.{BinaryOperator}
use Rattle.ti_syntax.specs.Tokens.{same_kind}
use Rattle.ti_syntax.specs.Spelling.Operators.{infix_of}
use Rattle.ti_parse_expr.specs.Mirrors.Input.{At, ParseOutcome, Parser, and_then, kind, next_is, expect, take_token}
use Rattle.ti_parse_expr.proofs.Phrases.{binds}

pub then_ok : {A B : Type 0} {out : ParseOutcome A} {x : A} {r : List Token} (k : A → Parser B) → out ≡ Ok (x, r) → and_then out k ≡ k x r
then_ok k h = ap (λ o. and_then o k) h

pub and_then_assoc : {A B C : Type 0} (out : ParseOutcome A) (f : A → Parser B) (g : B → Parser C) → and_then (and_then out f) g ≡ and_then out (λ x i. and_then (f x i) g)
and_then_assoc (Ok p) f g = refl
and_then_assoc (Err e) f g = refl

-- what was read first, where the whole was read
pub first_of_two : {A B : Type 0} (out : ParseOutcome A) (k : A → Parser B) (y : B) (s : List Token) → and_then out k ≡ Ok (y, s) → (x : A) × (r : List Token) × (out ≡ Ok (x, r)) × (k x r ≡ Ok (y, s))
first_of_two (Ok p) k y s h = (p.0, p.1, refl, h)
first_of_two (Err e) k y s h = cc

pub test_reads : {A : Type 0} (b c : Bool) (p q : Parser A) (l : List Token) → b ≡ c → if◌then◌else◌ {A = Parser A} b p q l ≡ if◌then◌else◌ {A = Parser A} c p q l
test_reads b c p q l h = ap (λ z. if◌then◌else◌ {A = Parser _} z p q l) h

pub expect_reads : (q : TokenKind) (c : Token) (r : List Token) → same_kind q q ≡ true → c.kind ≡ q → expect q (c ∷ r) ≡ Ok (tt, r)
expect_reads q c r same h =
    ap (λ a. if same_kind a q then Ok (tt, r) else Err (At (c ∷ r))) h ∙ ap (λ b. if b then Ok (tt, r) else Err (At (c ∷ r))) same

-- ---- what follows a phrase

-- what goes on with any operand
abbrev pub goes : TokenKind → Bool
goes k.Dot = true
goes k.LeftBracket = true
goes _ = false

abbrev pub is_name : TokenKind → Bool
is_name (k.Name name) = true
is_name _ = false

-- the kind of the last token
abbrev pub last_kind : List Token → TokenKind
last_kind [] = k.End
last_kind (t ∷ []) = t.kind
last_kind (t ∷ u ∷ l) = last_kind (u ∷ l)

pub last_append : (a : List Token) (t : Token) (l : List Token) → last_kind (a ++ t ∷ l) ≡ last_kind (t ∷ l)
last_append [] t l = refl
last_append (x ∷ []) t l = refl
last_append (x ∷ y ∷ a) t l = last_append (y ∷ a) t l

-- a name at the end isn't called
abbrev pub NoCall : List Token → List Token → Type 0
NoCall l r = is_name (last_kind l) ≡ true → next_is k.LeftParen r ≡ false

-- an expression of a level can end before this list
pub record Stops (n : ℕ) (l r : List Token) : Type 0 where
  pub operand : goes (kind r) ≡ false
  pub call : NoCall l r
  pub operators : binds (kind r) < n

-- a token that can't go on with an expression
pub record IsCloser (q : TokenKind) : Type 0 where
  pub operand : goes q ≡ false
  pub call : same_kind q k.LeftParen ≡ false
  pub operators : binds q ≡ 0

pub closer_stops : (q : TokenKind) (c : Token) (r : List Token) (n : ℕ) (l : List Token) → IsCloser q → 1 ≤ n → c.kind ≡ q → Stops n l (c ∷ r)
closer_stops q c r n l s one h = record {
  operand = ap goes h ∙ s.operand;
  call = λ _. ap (λ z. same_kind z k.LeftParen) h ∙ s.call;
  operators = let e : binds c.kind ≡ 0 = ap binds h ∙ s.operators in omega arith;
}

pub paren_closes : IsCloser k.RightParen
paren_closes = record { operand = refl; call = refl; operators = refl }

pub bracket_closes : IsCloser k.RightBracket
bracket_closes = record { operand = refl; call = refl; operators = refl }

pub comma_closes : IsCloser k.Comma
comma_closes = record { operand = refl; call = refl; operators = refl }

pub colon_closes : IsCloser k.Colon
colon_closes = record { operand = refl; call = refl; operators = refl }

pub end_closes : IsCloser k.End
end_closes = record { operand = refl; call = refl; operators = refl }

-- an operator of two operands goes on with no operand
pub operator_ends : (q : TokenKind) (op : BinaryOperator) → infix_of q ≡ Some op → (goes q ≡ false) × (same_kind q k.LeftParen ≡ false)
operator_ends k.Dot op h = cc
operator_ends k.LeftBracket op h = cc
operator_ends k.LeftParen op h = cc
operator_ends _ op h = (refl, refl)
