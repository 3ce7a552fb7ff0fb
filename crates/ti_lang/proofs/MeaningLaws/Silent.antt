-- Computations that ask for no action: they come to the same on all answers, and use none of them.
use Rattle.std.proofs.Common.{◌≡◌, ◌⊎◌, inl, inr, ℕ, Bool, true, false, List, [], Option, Some, None, refl, ap, sym, ◌∙◌}
use Rattle.std.specs.Prelude.{ℤ}
use Rattle.std.specs.Int.{Width}
use Rattle.ti_base.specs.declared.place.Place.{Place}
use Rattle.ti_base.specs.declared.point.Point.{Point}
use Rattle.ti_base.specs.PointSets.{meet, minus, union}
use Rattle.ti_base.specs.declared.fault.FaultKind.{FaultKind}
use Rattle.ti_base.specs.declared.value.Value.TheVariants as v
use Rattle.ti_base.specs.declared.fault.FaultKind.TheVariants.{NullRef}
use Rattle.ti_base.specs.declared.entry.Answer.{Answer}
use Rattle.ti_syntax.specs.declared.tree.exprs.BinaryOperator.{BinaryOperator}
use Rattle.ti_syntax.specs.declared.tree.exprs.BinaryOperator.TheVariants as op
use Rattle.ti_lang.specs.Program.Types.{ValueType}
use Rattle.ti_lang.specs.Program.Types as t
use Rattle.ti_lang.specs.Meaning.Held.{Held, Plain, referent_of}
use Rattle.ti_lang.specs.Meaning.Comp.{Request, CompResult, Gives, Asks, Fails, Comp, ◌>>=◌, bind_result, gives, guard, found_or, needed}
use Rattle.ti_lang.specs.Meaning.Conversions.{to_domain, of_domains, converted}
use Rattle.ti_lang.specs.Meaning.Operands.{Operands, Wholes, Truths, Points, Rects, Domains, Things, Regions, Others, operands}
use Rattle.ti_lang.specs.Meaning.Operators.{add_values, subtract_values, multiply_values, divide_values, equal, apply_binary}
use Rattle.ti_lang.specs.Meaning.Evaluation.{kept_local}

-- ---- what a computation comes to is one thing

pub gives_same : {A : Type 0} (a b : A) (rs ss : List Answer) → ◌≡◌ {A = CompResult A} (Gives a rs) (Gives b ss) → a ≡ b
gives_same a b rs ss e = cc

pub rest_same : {A : Type 0} (a b : A) (rs ss : List Answer) → ◌≡◌ {A = CompResult A} (Gives a rs) (Gives b ss) → rs ≡ ss
rest_same a b rs ss e = cc

pub fails_gives : {A : Type 0} (a : A) (rs : List Answer) (kind : FaultKind) (at : Place) → ◌≡◌ {A = CompResult A} (Fails kind at) (Gives a rs) → ⊥
fails_gives a rs kind at e = cc

pub asks_gives : {A : Type 0} (a : A) (rs : List Answer) (q : Request) → ◌≡◌ {A = CompResult A} (Asks q) (Gives a rs) → ⊥
asks_gives a rs q e = cc

pub asks_fails : {A : Type 0} (kind : FaultKind) (at : Place) (q : Request) → ◌≡◌ {A = CompResult A} (Asks q) (Fails kind at) → ⊥
asks_fails kind at q e = cc

-- ---- computations that ask for nothing

-- the same value or the same fault, whatever answers there are; a value leaves all of them
abbrev pub Silent : {A : Type 0} → Comp A → Type 0
Silent {A} m = ((a : A) × ((rs : List Answer) → m rs ≡ Gives a rs)) ⊎ ((kind : FaultKind) × (at : Place) × ((rs : List Answer) → m rs ≡ Fails kind at))

pub silent_value : {A : Type 0} (a : A) → Silent (gives a)
silent_value a = inl (a, λ rs. refl)

pub silent_guarded : {A : Type 0} (test : Bool) (kind : FaultKind) (at : Place) (a : A) → Silent (guard test kind at a)
silent_guarded true kind at a = inl (a, λ rs. refl)
silent_guarded false kind at a = inr (kind, at, λ rs. refl)

pub silent_then : {A B : Type 0} (m : Comp A) (k : A → Comp B) → Silent m → ((a : A) → Silent (k a)) → Silent (m >>= k)
silent_then {A} {B} m k (inl x) f = by (f x.0)
  where
    by : Silent (k x.0) → Silent (m >>= k)
    by (inl y) = inl (y.0, λ rs. ap (λ g. bind_result g k) (x.1 rs) ∙ y.1 rs)
    by (inr y) = inr (y.0, y.1, λ rs. ap (λ g. bind_result g k) (x.1 rs) ∙ y.2 rs)
silent_then m k (inr x) f = inr (x.0, x.1, λ rs. ap (λ g. bind_result g k) (x.2 rs))

-- it leaves all answers
pub silent_leaves : {A : Type 0} (m : Comp A) (rs : List Answer) (a : A) (rest : List Answer) → Silent m → m rs ≡ Gives a rest → rs ≡ rest
silent_leaves m rs a rest (inl x) e = rest_same x.0 a rs rest (sym (x.1 rs) ∙ e)
silent_leaves m rs a rest (inr x) e = absurd (fails_gives a rest x.0 x.1 (sym (x.2 rs) ∙ e))

-- on no answers none are left
pub silent_rest : {A : Type 0} (m : Comp A) (a : A) (rest : List Answer) → Silent m → m [] ≡ Gives a rest → m [] ≡ Gives a []
silent_rest m a rest s e = e ∙ ap (Gives a) (sym (silent_leaves m [] a rest s e))

pub silent_found : {A : Type 0} (kind : FaultKind) (at : Place) (o : Option A) → Silent (found_or kind at o)
silent_found kind at None = inr (kind, at, λ rs. refl)
silent_found kind at (Some a) = silent_value a

pub silent_needed : (at : Place) (type : ValueType) (h : Held) → Silent (needed at type h)
silent_needed at type h = silent_then (found_or NullRef at (referent_of h)) (λ id. gives (record { thing = id; type = type })) (silent_found NullRef at (referent_of h)) (λ id. silent_value _)

-- ---- conversions

pub to_domain_silent : (at : Place) (h : Held) → Silent (to_domain at h)
to_domain_silent at (Plain (v.Rc r)) = silent_guarded _ _ at _
to_domain_silent at h = silent_value h

of_domains_silent : (both : List Point → List Point → List Point) (at : Place) (x y : Held) → Silent (of_domains both at x y)
of_domains_silent both at x y = silent_then (to_domain at x) _ (to_domain_silent at x) (λ d. silent_then (to_domain at y) _ (to_domain_silent at y) (λ e. silent_guarded _ _ at _))

pub converted_silent : (at : Place) (type : ValueType) (h : Held) → Silent (converted at type h)
converted_silent at (t.Dm dim) h = to_domain_silent at h
converted_silent at type h = silent_value _

pub kept_silent : (number : ℕ) (at : Place) (type : ValueType) (h : Held) → Silent (kept_local number at type h)
kept_silent number at type h = silent_guarded _ _ at h

-- ---- operators

added_silent : (at : Place) (x y : Held) (o : Operands) → Silent (add_values at x y o)
added_silent at x y (Wholes w a b) = silent_value _
added_silent at x y (Points p q) = silent_value _
added_silent at x y (Rects r s) = of_domains_silent union at x y
added_silent at x y Domains = of_domains_silent union at x y
added_silent at x y _ = silent_value _

subtracted_silent : (at : Place) (x y : Held) (o : Operands) → Silent (subtract_values at x y o)
subtracted_silent at x y (Wholes w a b) = silent_value _
subtracted_silent at x y (Points p q) = silent_value _
subtracted_silent at x y (Rects r s) = of_domains_silent minus at x y
subtracted_silent at x y Domains = of_domains_silent minus at x y
subtracted_silent at x y _ = silent_value _

multiplied_silent : (at : Place) (x y : Held) (o : Operands) → Silent (multiply_values at x y o)
multiplied_silent at x y (Wholes w a b) = silent_value _
multiplied_silent at x y (Rects r s) = silent_value _
multiplied_silent at x y Domains = of_domains_silent meet at x y
multiplied_silent at x y _ = silent_value _

divided_silent : (f : Width → ℤ → ℤ → ℤ) (at : Place) (o : Operands) → Silent (divide_values f at o)
divided_silent f at (Wholes w a b) = silent_guarded _ _ at _
divided_silent f at _ = silent_value _

equal_silent : (at : Place) (x y : Held) (o : Operands) → Silent (equal at x y o)
equal_silent at x y (Wholes w a b) = silent_value _
equal_silent at x y (Truths a b) = silent_value _
equal_silent at x y (Points p q) = silent_value _
equal_silent at x y (Rects r s) = silent_value _
equal_silent at x y Domains = silent_then (to_domain at x) _ (to_domain_silent at x) (λ d. silent_then (to_domain at y) _ (to_domain_silent at y) (λ e. silent_value _))
equal_silent at x y (Things a b) = silent_value _
equal_silent at x y (Regions a b) = silent_value _
equal_silent at x y Others = silent_value _

pub operated_silent : (at : Place) (o : BinaryOperator) (x y : Held) → Silent (apply_binary at o x y)
operated_silent at op.Equal x y = silent_then (equal at x y (operands x y)) _ (equal_silent at x y (operands x y)) (λ b. silent_value _)
operated_silent at op.NotEqual x y = silent_then (equal at x y (operands x y)) _ (equal_silent at x y (operands x y)) (λ b. silent_value _)
operated_silent at op.Add x y = added_silent at x y (operands x y)
operated_silent at op.Subtract x y = subtracted_silent at x y (operands x y)
operated_silent at op.Multiply x y = multiplied_silent at x y (operands x y)
operated_silent at op.Divide x y = divided_silent _ at (operands x y)
operated_silent at op.Remainder x y = divided_silent _ at (operands x y)
operated_silent at o x y = silent_value _
