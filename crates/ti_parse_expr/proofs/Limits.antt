-- Lemmas on the outcome of parsing with limits, which the first token above its limit decides.
use Rattle.std.proofs.Common.{◌≡◌, ℕ, zero, suc, ◌+◌, ◌<◌, ◌≤◌, List, [], ◌∷◌, ◌++◌, length, Ok, Err, refl, ap, ◌∙◌, arith, true, false, Bool, nat_lt, if◌then◌else◌}
use borrow.Author.Tests.{ltb-true, ltb-false}
use Rattle.std.proofs.lemmas.Bool.{le-ltb, lt-ltb}
use Rattle.ti_syntax.specs.declared.token.Token.{Token}
use Rattle.ti_syntax.specs.Spelling.Loads.{Load, Weight, weights_behind, weights}
use Rattle.ti_syntax.specs.Spelling.Weights.{counts, arity_behind, weigh_behind}
use Rattle.ti_syntax.specs.Spelling.{most_weight}
use Rattle.ti_parse_expr.specs.Mirrors.Input.{Halt, Over, ParseOutcome, Parser, and_then, after_next}
use Rattle.ti_parse_expr.specs.Mirrors.Full.{Limits, language_limits, above, is_above, limited_to, limit_outcome, unread_of}

pub weights_behind_long : (n w : ℕ) (l : List Token) → length (weights_behind n w l) ≡ length l
weights_behind_long n w [] = refl
weights_behind_long (suc n) w (t ∷ l) = ap suc (weights_behind_long n w l)
weights_behind_long zero w (t ∷ l) = ap suc (weights_behind_long (arity_behind t.kind) ((if counts t.kind then 1 else 0) + w) l)

pub weights_long : (l : List Token) → length (weights l) ≡ length l
weights_long l = weights_behind_long 0 0 l

-- the weights of a list are those of its front and more
pub weights_front : (n w : ℕ) (a b : List Token) → (more : List Load) × (weights_behind n w (a ++ b) ≡ weights_behind n w a ++ more)
weights_front n w [] b = (weights_behind n w b, refl)
weights_front (suc n) w (t ∷ a) b = let (more, e) = weights_front n w a b in (more, ap (λ z. Weight w ∷ z) e)
weights_front zero w (t ∷ a) b =
    let v : ℕ = (if counts t.kind then 1 else 0) + w in
    let (more, e) = weights_front (arity_behind t.kind) v a b in
    (more, ap (λ z. Weight v ∷ z) e)

-- ---- what the limit makes of an outcome

-- first the loads of a front, and then those behind it
pub limited_fits : {A : Type 0} (limits : Limits) (loads more : List Load) (a b : List Token) (out : ParseOutcome A) → length loads ≡ length a
    → limited_to limits (loads ++ more) (a ++ b) out ≡ limited_to limits loads (a ++ b) (limited_to limits more b out)
limited_fits limits [] more [] b out e = refl
limited_fits limits [] more (t ∷ a) b out e = absurd (omega (arith, e))
limited_fits limits (x ∷ loads) more [] b out e = absurd (omega (arith, e))
limited_fits limits (x ∷ loads) more (t ∷ a) b out e = ap (λ z. if above limits x then Err (Over (t ∷ (a ++ b))) else z) (limited_fits limits loads more a b out (omega (arith, e)))

then_if : {A B : Type 0} (c : Bool) (h : Halt) (o : ParseOutcome A) (f : A → Parser B) → and_then (if c then Err h else o) f ≡ (if c then Err h else and_then o f)
then_if true h o f = refl
then_if false h o f = refl

-- a step behind what is limited is limited
pub limited_then : {A B : Type 0} (limits : Limits) (loads : List Load) (l : List Token) (x : A) (r : List Token) (f : A → Parser B)
    → and_then (limited_to limits loads l (Ok (x, r))) f ≡ limited_to limits loads l (f x r)
limited_then limits [] l x r f = refl
limited_then limits (y ∷ loads) l x r f =
    then_if (above limits y) (Over l) (limited_to limits loads (after_next l) (Ok (x, r))) f ∙ ap (λ z. if above limits y then Err (Over l) else z) (limited_then limits loads (after_next l) x r f)

-- a token that doesn't weigh too much
pub below : {A : Type 0} (limits : Limits) (v : ℕ) (loads : List Load) (l : List Token) (out : ParseOutcome A) → v ≤ limits.weight
    → limited_to limits (Weight v ∷ loads) l out ≡ limited_to limits loads (after_next l) out
below limits v loads l out small = ap (λ c. if c then Err (Over l) else limited_to limits loads (after_next l) out) (le-ltb limits.weight v small)

-- tokens that don't weigh too much
pub limited_light : {A : Type 0} (n w : ℕ) (f r : List Token) (out : ParseOutcome A) → w + weigh_behind n f ≤ most_weight → limit_outcome (weights_behind n w f) (f ++ r) out ≡ out
limited_light n w [] r out small = refl
limited_light (suc n) w (t ∷ f) r out small = below language_limits w (weights_behind n w f) (t ∷ (f ++ r)) out (omega (arith, small)) ∙ limited_light n w f r out small
limited_light zero w (t ∷ f) r out small =
    let v : ℕ = (if counts t.kind then 1 else 0) + w in
    below language_limits v (weights_behind (arity_behind t.kind) v f) (t ∷ (f ++ r)) out (omega (arith, small)) ∙ limited_light (arity_behind t.kind) v f r out (omega (arith, small))

-- the first that does
pub limited_heavy : {A : Type 0} (n w : ℕ) (f : List Token) (t : Token) (h r : List Token) (out : ParseOutcome A) → w + weigh_behind n f ≤ most_weight → most_weight < w + weigh_behind n (f ++ t ∷ [])
    → limit_outcome (weights_behind n w (f ++ t ∷ h)) ((f ++ t ∷ h) ++ r) out ≡ Err (Over (t ∷ (h ++ r)))
limited_heavy (suc n) w [] t h r out small above = absurd (omega (arith, small, above))
limited_heavy zero w [] t h r out small above =
    let v : ℕ = (if counts t.kind then 1 else 0) + w in
    ap (λ c. if c then Err (Over (t ∷ (h ++ r))) else limit_outcome (weights_behind (arity_behind t.kind) v h) (h ++ r) out) (lt-ltb most_weight v (omega (arith, above)))
limited_heavy (suc n) w (x ∷ f) t h r out small above =
    below language_limits w (weights_behind n w (f ++ t ∷ h)) (x ∷ ((f ++ t ∷ h) ++ r)) out (omega (arith, small)) ∙ limited_heavy n w f t h r out small above
limited_heavy zero w (x ∷ f) t h r out small above =
    let v : ℕ = (if counts x.kind then 1 else 0) + w in
    below language_limits v (weights_behind (arity_behind x.kind) v (f ++ t ∷ h)) (x ∷ ((f ++ t ∷ h) ++ r)) out (omega (arith, small))
    ∙ limited_heavy (arity_behind x.kind) v f t h r out (omega (arith, small)) (omega (arith, above))

next_short : (l : List Token) → length (after_next l) ≤ length l
next_short [] = omega arith
next_short (t ∷ l) = omega arith

-- what is left is no longer than the list, or than what was left
pub limited_short : {A : Type 0} (loads : List Load) (l : List Token) (out : ParseOutcome A) (most : ℕ) → length l ≤ most → length (unread_of out) ≤ most → length (unread_of (limit_outcome loads l out)) ≤ most
limited_short [] l out most long short = short
limited_short (x ∷ loads) l out most long short = short_if (is_above x) (limited_short loads (after_next l) out most (omega (arith, next_short l, long)) short)
  where
    short_if : (c : Bool) → length (unread_of (limit_outcome loads (after_next l) out)) ≤ most → length (unread_of (if c then Err (Over l) else limit_outcome loads (after_next l) out)) ≤ most
    short_if true h = long
    short_if false h = h

-- ---- whether some token weighs too much

pub data Loaded (n w : ℕ) (f : List Token) : Type 0 where
  all_light : w + weigh_behind n f ≤ most_weight → Loaded n w f
  heavy : (g : List Token) (t : Token) (h : List Token) → f ≡ g ++ t ∷ h → w + weigh_behind n g ≤ most_weight → most_weight < w + weigh_behind n (g ++ t ∷ []) → Loaded n w f

one_further : (n w n2 w2 : ℕ) (t : Token) (f : List Token) → ((g : List Token) → w + weigh_behind n (t ∷ g) ≡ w2 + weigh_behind n2 g) → Loaded n2 w2 f → Loaded n w (t ∷ f)
one_further n w n2 w2 t f weighs (all_light small) = all_light (omega (arith, weighs f, small))
one_further n w n2 w2 t f weighs (heavy g u h is small above) = heavy (t ∷ g) u h (ap (λ z. t ∷ z) is) (omega (arith, weighs g, small)) (omega (arith, weighs (g ++ u ∷ []), above))

loaded_if : (w : ℕ) (t : Token) (f : List Token) → w ≤ most_weight → ((n v : ℕ) → v ≤ most_weight → Loaded n v f) → (c : Bool)
    → nat_lt most_weight ((if counts t.kind then 1 else 0) + w) ≡ c → Loaded 0 w (t ∷ f)
loaded_if w t f small rec true h = heavy [] t f refl (omega (arith, small)) (omega (arith, ltb-true most_weight ((if counts t.kind then 1 else 0) + w) h))
loaded_if w t f small rec false h =
    let v : ℕ = (if counts t.kind then 1 else 0) + w in
    one_further 0 w (arity_behind t.kind) v t f (λ g. omega arith) (rec (arity_behind t.kind) v (ltb-false most_weight v h))

pub loaded : (n w : ℕ) (f : List Token) → w ≤ most_weight → Loaded n w f
loaded n w [] small = all_light (omega (arith, small))
loaded (suc n) w (t ∷ f) small = one_further (suc n) w n w t f (λ g. refl) (loaded n w f small)
loaded zero w (t ∷ f) small = loaded_if w t f small (λ n v h. loaded n v f h) (nat_lt most_weight ((if counts t.kind then 1 else 0) + w)) refl
