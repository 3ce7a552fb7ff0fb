-- Once the fuel suffices, more fuel is proved not to change the parser's result.
use Rattle.std.proofs.Common.{◌≡◌, ℕ, suc, zero, ◌≤◌, List, Ok, Err, refl, ap, ◌∙◌, arith}
use Rattle.ti_syntax.specs.declared.token.Token.{Token}
use Rattle.ti_parse_expr.specs.Mirrors.Input.{At, Over, OutOfFuel, ParseOutcome, Parser, and_then, kind, place, take_token}
use Rattle.ti_parse_expr.proofs.Related.{Readers, readers_related}

-- there were enough turns
abbrev pub Ended : {A : Type 0} → ParseOutcome A → Type 0
Ended (Ok p) = Unit {0}
Ended (Err (At r)) = Unit {0}
Ended (Err (Over r)) = Unit {0}
Ended (Err OutOfFuel) = ⊥

pub record Enough {A : Type 0} (p q : Parser A) : Type 0 where
  pub same : (l : List Token) → Ended (p l) → q l ≡ p l

pub enough_pure : {A : Type 0} (x : A) → Enough (λ i. Ok (x, i)) (λ i. Ok (x, i))
enough_pure x = record { same = λ l ended. refl }

same_then : {A B : Type 0} (o o2 : ParseOutcome A) (f g : A → Parser B) → (Ended o → o2 ≡ o)
    → ((x : A) (l : List Token) → Ended (f x l) → g x l ≡ f x l) → Ended (and_then o f) → and_then o2 g ≡ and_then o f
same_then (Ok p) o2 f g first next ended = ap (λ z. and_then z g) (first tt) ∙ next p.0 p.1 ended
same_then (Err (At r)) o2 f g first next ended = ap (λ z. and_then z g) (first tt)
same_then (Err (Over r)) o2 f g first next ended = ap (λ z. and_then z g) (first tt)
same_then (Err OutOfFuel) o2 f g first next ended = absurd ended

pub enough_then : {A B : Type 0} {p q : Parser A} {f g : A → Parser B} → Enough p q → ((x : A) → Enough (f x) (g x)) → Enough (λ i. and_then (p i) f) (λ i. and_then (q i) g)
enough_then {p = p} {q = q} {f = f} {g = g} first next = record { same = λ l. same_then (p l) (q l) f g (first.same l) (λ x r. (next x).same r) }

by : {A X : Type 0} (look : List Token → X) (f g : X → Parser A) → ((x : X) → Enough (f x) (g x)) → Enough (λ i. f (look i) i) (λ i. g (look i) i)
by look f g each = record { same = λ l. (each (look l)).same l }

no_fewer : (m : ℕ) → suc m ≤ zero → ⊥
no_fewer m h = omega (arith, h)

one_less : (m m2 : ℕ) → suc m ≤ suc m2 → m ≤ m2
one_less m m2 h = omega (arith, h)

pub readers_enough : (fuel more : ℕ) → fuel ≤ more → Readers (λ A p q. Enough {A = A} p q) fuel more
readers_enough fuel more le =
    readers_related (λ A p q. Enough {A = A} p q) (λ n m. n ≤ m) (λ A x. enough_pure x) (λ A. record { same = λ l ended. refl })
    (record { same = λ l ended. refl }) (λ A B p q f g first next. enough_then first next)
    (λ A f g each. by kind f g each) (λ A f g each. by place f g each) (λ A q m h is. record { same = λ l ended. absurd ended }) no_fewer one_less fuel more le (omega (arith, le))
