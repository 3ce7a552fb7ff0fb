-- Parsing with limits is proved to stop at the first token whose load is above its limit.
use Rattle.std.proofs.Common.{◌≡◌, ℕ, zero, suc, ◌<◌, ◌≤◌, Bool, true, false, if◌then◌else◌, List, [], ◌∷◌, ◌++◌, length, Some, Ok, Err, refl, ap, arith, length-append, slice_get}
use borrow.Author.Tests.{ltb-true, ltb-false}
use Rattle.ti_syntax.specs.declared.token.Token.{Token}
use Rattle.ti_syntax.specs.Spelling.Loads.{Load, Free, Level, Weight}
use Rattle.ti_syntax.specs.Spelling.{IsAboveLimit, most_levels, most_weight}
use Rattle.ti_parse_expr.specs.Mirrors.Input.{At, Over, ParseOutcome, after_next}
use Rattle.ti_parse_expr.specs.Mirrors.Full.{is_above, limit_outcome, unread_of}

above_is : (x : Load) → is_above x ≡ true → IsAboveLimit (Some x)
above_is Free h = cc
above_is (Level n) h = ltb-true most_levels n h
above_is (Weight n) h = ltb-true most_weight n h

not_above : (x : Load) → is_above x ≡ false → IsAboveLimit (Some x) → ⊥
not_above Free h a = a
not_above (Level n) h a = let low : n ≤ most_levels = ltb-false most_levels n h in omega (arith, low, a)
not_above (Weight n) h a = let low : n ≤ most_weight = ltb-false most_weight n h in omega (arith, low, a)

end_free : (i : ℕ) → IsAboveLimit (slice_get (Free ∷ []) i) → ⊥
end_free zero a = a
end_free (suc i) a = a

-- ---- where a load is above

-- a front of the list holds the token at which reading stopped
pub record StopsIn {A : Type 0} (f g : List Token) (out : ParseOutcome A) : Type 0 where
  pub front : List Token
  pub heavy : Token
  pub rest : List Token
  pub is : f ≡ front ++ heavy ∷ rest
  pub over : out ≡ Err (Over (heavy ∷ (rest ++ g)))

stops_if : {A : Type 0} (x : Load) (loads : List Load) (t : Token) (f g : List Token) (out : ParseOutcome A)
    → ((i : ℕ) → IsAboveLimit (slice_get (loads ++ Free ∷ []) i) → i < length f → StopsIn f g (limit_outcome loads (f ++ g) out))
    → (i : ℕ) → IsAboveLimit (slice_get (x ∷ (loads ++ Free ∷ [])) i) → i < suc (length f) → (b : Bool) → is_above x ≡ b
    → StopsIn (t ∷ f) g (if b then Err (Over (t ∷ (f ++ g))) else limit_outcome loads (f ++ g) out)
stops_if x loads t f g out more i a lt true h = record { front = []; heavy = t; rest = f; is = refl; over = refl }
stops_if x loads t f g out more zero a lt false h = absurd (not_above x h a)
stops_if x loads t f g out more (suc i) a lt false h =
    let s = more i a (omega (arith, lt)) in record { front = t ∷ s.front; heavy = s.heavy; rest = s.rest; is = ap (λ z. t ∷ z) s.is; over = s.over }

-- reading stops there or before
pub stops_in : {A : Type 0} (loads : List Load) (f g : List Token) (out : ParseOutcome A) (i : ℕ) → IsAboveLimit (slice_get (loads ++ Free ∷ []) i) → i < length f → StopsIn f g (limit_outcome loads (f ++ g) out)
stops_in [] f g out i a lt = absurd (end_free i a)
stops_in (x ∷ loads) [] g out i a lt = absurd (omega (arith, lt))
stops_in (x ∷ loads) (t ∷ f) g out i a lt = stops_if x loads t f g out (stops_in loads f g out) i a (omega (arith, lt)) (is_above x) refl

-- ---- where reading stopped

next_short : (l : List Token) → length (after_next l) ≤ length l
next_short [] = omega arith
next_short (t ∷ l) = omega arith

left_if : {A : Type 0} (loads : List Load) (l r : List Token) (p : A × List Token) → (limit_outcome loads (after_next l) (Ok p) ≡ Err (Over r) → length r ≤ length (after_next l)) → (b : Bool)
    → (if b then Err (Over l) else limit_outcome loads (after_next l) (Ok p)) ≡ Err (Over r) → length r ≤ length l
left_if loads l r p more true h = omega (arith, ap (λ o. length (unread_of o)) h)
left_if loads l r p more false h = omega (arith, more h, next_short l)

left_short : {A : Type 0} (loads : List Load) (l r : List Token) (p : A × List Token) → limit_outcome loads l (Ok p) ≡ Err (Over r) → length r ≤ length l
left_short [] l r p h = cc
left_short (x ∷ loads) l r p h = left_if loads l r p (left_short loads (after_next l) r p) (is_above x) h

above_now : {A : Type 0} (x : Load) (loads : List Load) (t : Token) (l : List Token) (p : A × List Token) (b : Bool) → is_above x ≡ b
    → (if b then Err (Over (t ∷ l)) else limit_outcome loads l (Ok p)) ≡ Err (Over (t ∷ l)) → IsAboveLimit (Some x)
above_now x loads t l p true is h = above_is x is
above_now x loads t l p false is h = absurd (omega (arith, left_short loads l (t ∷ l) p h))

above_later : {A : Type 0} (loads : List Load) (u : Token) (f : List Token) (t : Token) (l : List Token) (p : A × List Token) (b : Bool)
    → (limit_outcome loads (f ++ t ∷ l) (Ok p) ≡ Err (Over (t ∷ l)) → IsAboveLimit (slice_get (loads ++ Free ∷ []) (length f)))
    → (if b then Err (Over (u ∷ (f ++ t ∷ l))) else limit_outcome loads (f ++ t ∷ l) (Ok p)) ≡ Err (Over (t ∷ l)) → IsAboveLimit (slice_get (loads ++ Free ∷ []) (length f))
above_later loads u f t l p true more h = absurd (omega (arith, ap (λ o. length (unread_of o)) h, length-append f (t ∷ l)))
above_later loads u f t l p false more h = more h

-- the load of that token is above
pub above_there : {A : Type 0} (loads : List Load) (f : List Token) (t : Token) (l : List Token) (p : A × List Token)
    → limit_outcome loads (f ++ t ∷ l) (Ok p) ≡ Err (Over (t ∷ l)) → IsAboveLimit (slice_get (loads ++ Free ∷ []) (length f))
above_there [] f t l p h = cc
above_there (x ∷ loads) [] t l p h = above_now x loads t l p (is_above x) refl h
above_there (x ∷ loads) (u ∷ f) t l p h = above_later loads u f t l p (is_above x) (above_there loads f t l p) h

never_if : {A : Type 0} (loads : List Load) (l r : List Token) (p : A × List Token) → (limit_outcome loads (after_next l) (Ok p) ≡ Err (At r) → ⊥)
    → (b : Bool) → (if b then Err (Over l) else limit_outcome loads (after_next l) (Ok p)) ≡ Err (At r) → ⊥
never_if loads l r p more true h = cc
never_if loads l r p more false h = more h

-- no token is refused
pub never_refused : {A : Type 0} (loads : List Load) (l r : List Token) (p : A × List Token) → limit_outcome loads l (Ok p) ≡ Err (At r) → ⊥
never_refused [] l r p h = cc
never_refused (x ∷ loads) l r p h = never_if loads l r p (never_refused loads (after_next l) r p) (is_above x) h
