-- The expression parser without a weight limit is proved never to fail with TooDeep.
use Rattle.std.proofs.Common.{◌≡◌, ℕ, zero, suc, List, Ok, Err, refl, arith}
use Rattle.ti_syntax.specs.declared.token.Token.{Token}
use Rattle.ti_parse_expr.specs.declared.parse.Form.{Form}
use Rattle.ti_parse_expr.specs.declared.parse.Form.TheVariants as form
use Rattle.ti_parse_expr.specs.Mirrors.Input.{At, Over, OutOfFuel, ParseOutcome, Parser, and_then, kind, place, take_token}
use Rattle.ti_parse_expr.specs.Mirrors.Exprs.{operand, expr, phrase}
use Rattle.ti_parse_expr.proofs.Related.{Readers, readers_related}

-- this outcome isn't that a token is too deep
abbrev pub IsShallow : {A : Type 0} → ParseOutcome A → Type 0
IsShallow (Ok p) = Unit {0}
IsShallow (Err (At r)) = Unit {0}
IsShallow (Err (Over r)) = ⊥
IsShallow (Err OutOfFuel) = Unit {0}

pub record Shallow {A : Type 0} (p q : Parser A) : Type 0 where
  pub is : (l : List Token) → IsShallow (p l)

then_shallow : {A B : Type 0} (o : ParseOutcome A) (f : A → Parser B) → IsShallow o → ((x : A) (r : List Token) → IsShallow (f x r)) → IsShallow (and_then o f)
then_shallow (Ok p) f h more = more p.0 p.1
then_shallow (Err (At r)) f h more = tt
then_shallow (Err (Over r)) f h more = absurd h
then_shallow (Err OutOfFuel) f h more = tt

both : {A B : Type 0} (p q : Parser A) (f g : A → Parser B) → Shallow p q → ((x : A) → Shallow (f x) (g x)) → Shallow (λ i. and_then (p i) f) (λ i. and_then (q i) g)
both p q f g first next = record { is = λ l. then_shallow (p l) f (first.is l) (λ x r. (next x).is r) }

by : {A X : Type 0} (look : List Token → X) (f g : X → Parser A) → ((x : X) → Shallow (f x) (g x)) → Shallow (λ i. f (look i) i) (λ i. g (look i) i)
by look f g each = record { is = λ l. (each (look l)).is l }

none_more : (m : ℕ) → ◌≡◌ {A = ℕ} (suc m) zero → ⊥
none_more m h = omega (arith, h)

one_less : (m m2 : ℕ) → ◌≡◌ {A = ℕ} (suc m) (suc m2) → m ≡ m2
one_less m m2 h = omega (arith, h)

readers_shallow : (fuel : ℕ) → Readers (λ A p q. Shallow {A = A} p q) fuel fuel
readers_shallow fuel =
    readers_related (λ A p q. Shallow {A = A} p q) (λ n m. n ≡ m) (λ A x. record { is = λ l. tt }) (λ A. record { is = λ l. tt })
    (record { is = λ l. tt }) (λ A B p q f g first next. both p q f g first next)
    (λ A f g each. by kind f g each) (λ A f g each. by place f g each) (λ A q m h is. record { is = λ l. tt }) none_more one_less fuel fuel refl refl

pub phrase_shallow : (f : Form) (fuel : ℕ) (l : List Token) → IsShallow (phrase fuel f l)
phrase_shallow form.Whole fuel l = ((readers_shallow fuel).expr 1).is l
phrase_shallow form.Mul fuel l = ((readers_shallow fuel).expr 10).is l
phrase_shallow form.Postfix fuel l = then_shallow (operand fuel (expr fuel) l) (λ y j. Ok (y.0, j)) ((readers_shallow fuel).operand.is l) (λ x r. tt)
