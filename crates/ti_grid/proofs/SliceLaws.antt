-- Array slices: whether there is a point with the fixed coordinate, and which map remains for the other coordinates.
use Rattle.std.proofs.Common.{◌≡◌, ◌⊎◌, inl, inr, ⊎_elim, ℕ, ◌+◌, ◌-◌, ◌*◌, ◌<◌, ◌≤◌, ◌==◌, leb, ℤ, pos, ◌≤ℤ◌, ◌<ℤ◌, Bool, true, false, not, ◌&&◌, ◌||◌, if◌then◌else◌, [], ◌∷◌, slice_index, Some, None, refl, sym, ap, subst, subst₂, ◌∙◌, arith}
use Rattle.std.specs.Int.RustNames.{int_le}
use Rattle.std.proofs.lemmas.Int.{ints}
use Rattle.std.proofs.lemmas.Bool.{lt-ltb, eqb-true, eqb-false, eq-eqb, ne_eqb, le-leb, and_parts, and_from, or_left, or_right, not-true, not_from_false, cases_lt}
use Rattle.ti_base.specs.declared.point.Point.{Point}
use Rattle.ti_base.specs.declared.point.Rect.{Rect}
use Rattle.ti_base.specs.declared.action.ViewHow.TheVariants.{Slice}
use Rattle.ti_base.specs.declared.fault.FaultKind.TheVariants.{Bounds}
use Rattle.ti_base.specs.PointSets.{same_number}
use Rattle.ti_base.specs.Ranges.{Range, IsOn, IsRange, is_on, is_empty_range, unused_range}
use Rattle.ti_base.specs.Rects.{IsRect, HasPoints, IsIn, is_empty, empty_rect, of_ranges, first_range, second_range, third_range}
use Rattle.ti_base.specs.Cells.{has_coordinate, view_domain, seen_point, with_coordinate}
use Rattle.ti_rect.proofs.Lemmas.{on_from, on_to, first_step, second_step, third_step, low_on, none_in, none_on, full, full_of, point_in, tidy_first, tidy_second, tidy_third, unused_third}
use Rattle.ti_rect.proofs.Lemmas.{any_of, view_inside}
use Rattle.ti_grid.specs.declared.layout.Layout.{Layout}
use Rattle.ti_grid.specs.Mirrors.Numbers.{steps_to, cell_index}
use Rattle.ti_grid.specs.Mirrors.Slices.{IsSplit}
use Rattle.ti_grid.specs.Views.{SomeHas, IsLaid, IsSeen}
use Rattle.ti_grid.proofs.SeenLaws.{is_laid, is_seen, first_below, second_below, third_below}

-- ---- tests on numbers

number_self : (x : ℤ) → same_number x x ≡ true
number_self x = let e : int_le x x ≡ true = grind (arith, ints) in ap (λ (t : Bool). t && int_le x x) e ∙ e

number_from : (x y : ℤ) → same_number x y ≡ true → x ≡ y
number_from x y e =
    let b = and_parts (int_le x y) (int_le y x) e in
    let f : x ≤ℤ y = let t = b.0 in grind (arith, ints) in
    let g : y ≤ℤ x = let t = b.1 in grind (arith, ints) in
    omega (arith, ints)

number_to : (x y : ℤ) → x ≡ y → same_number x y ≡ true
number_to x y e = subst (λ (z : ℤ). same_number x z ≡ true) e (number_self x)

-- ---- the test on a coordinate

-- the coordinate k is used, and j is on its range
abbrev pub IsOnSome : Rect → ℤ → ℤ → Type 0
IsOnSome r k j =
    ((k ≡ pos 1) × IsOn (first_range r) j)
    ⊎ (((k ≡ pos 2) × (2 ≤ r.dim) × IsOn (second_range r) j) ⊎ ((k ≡ pos 3) × (3 ≤ r.dim) × IsOn (third_range r) j))

range_has : (a : Range) (x : ℤ) → IsOn a x → is_empty_range a ≡ true → ⊥
range_has a x o e = let h : a.high <ℤ a.low = grind (arith, ints) in omega (arith, ints, o.reached, o.within)

module _ (r : Rect) (is : IsRect r) where
  -- a range of a coordinate that is used has no number where the rectangle is empty
  filled_first : (j : ℤ) → IsOn (first_range r) j → HasPoints r
  filled_first j o = full r is (λ e. none_on (first_range (empty_rect r.dim)) j (omega (arith, ints)) (subst (λ (q : Rect). IsOn (first_range q) j) e o))

  filled_second : (j : ℤ) → 2 ≤ r.dim → IsOn (second_range r) j → HasPoints r
  filled_second j two o = full r is (λ e.
      let low : (if leb 2 r.dim then pos 1 else pos 0) ≡ pos 1 = ap (λ (t : Bool). if t then pos 1 else pos 0) (le-leb 2 r.dim two) in
      none_on (second_range (empty_rect r.dim)) j (omega (arith, ints)) (subst (λ (q : Rect). IsOn (second_range q) j) e o))

  filled_third : (j : ℤ) → 3 ≤ r.dim → IsOn (third_range r) j → HasPoints r
  filled_third j three o = full r is (λ e.
      let low : (if leb 3 r.dim then pos 1 else pos 0) ≡ pos 1 = ap (λ (t : Bool). if t then pos 1 else pos 0) (le-leb 3 r.dim three) in
      none_on (third_range (empty_rect r.dim)) j (omega (arith, ints)) (subst (λ (q : Rect). IsOn (third_range q) j) e o))

  filled : (k j : ℤ) → IsOnSome r k j → HasPoints r
  filled k j (inl f) = filled_first j f.1
  filled k j (inr (inl f)) = filled_second j f.1 f.2
  filled k j (inr (inr f)) = filled_third j f.1 f.2

  not_empty : HasPoints r → not (is_empty r) ≡ true
  not_empty h = not_from_false (is_empty r) (full_of r.dim (first_range r) (second_range r) (third_range r) (rise (first_range r) h.first)
      (rise (second_range r) h.second) (rise (third_range r) h.third))
    where
      rise : (s : Range) → IsRange s → s.low ≤ℤ s.high
      rise s k = omega (arith, ints, k.reached)

  pub coordinate_from : (k j : ℤ) → has_coordinate r k j ≡ true → IsOnSome r k j
  coordinate_from k j e =
      let a = and_parts (not (is_empty r)) _ e in
      ⊎_elim
      (λ f. let b = and_parts (same_number k (pos 1)) (is_on (first_range r) j) f in
      inl (number_from k (pos 1) b.0, on_from (first_range r) j (first_step r is) b.1))
      (⊎_elim
      (λ f. let b = and_parts (same_number k (pos 2) && not (r.dim == 1)) (is_on (second_range r) j) f in
      let c = and_parts (same_number k (pos 2)) (not (r.dim == 1)) b.0 in
      inr (inl (number_from k (pos 2) c.0, two (not-true (r.dim == 1) c.1), on_from (second_range r) j (second_step r is) b.1)))
      (λ f. let b = and_parts (same_number k (pos 3) && r.dim == 3) (is_on (third_range r) j) f in
      let c = and_parts (same_number k (pos 3)) (r.dim == 3) b.0 in
      inr (inr (number_from k (pos 3) c.0, three (eqb-true r.dim 3 c.1), on_from (third_range r) j (third_step r is) b.1))))
      (any_of (same_number k (pos 1) && is_on (first_range r) j) (same_number k (pos 2) && not (r.dim == 1) && is_on (second_range r) j)
      (same_number k (pos 3) && r.dim == 3 && is_on (third_range r) j) a.1)
    where
      two : (r.dim == 1) ≡ false → 2 ≤ r.dim
      two f = let d = is.0 in ⊎_elim (λ (l : r.dim < 2). absurd (eqb-false r.dim 1 f (omega arith))) (λ l. l) (cases_lt r.dim 2)

      three : r.dim ≡ 3 → 3 ≤ r.dim
      three f = omega arith

  pub coordinate_to : (k j : ℤ) → IsOnSome r k j → has_coordinate r k j ≡ true
  coordinate_to k j h = and_from (not (is_empty r)) _ (not_empty (filled k j h)) (by h)
    where
      by : IsOnSome r k j → (same_number k (pos 1) && is_on (first_range r) j || same_number k (pos 2) && not (r.dim == 1) && is_on (second_range r) j
          || same_number k (pos 3) && r.dim == 3 && is_on (third_range r) j) ≡ true
      by (inl f) =
          or_left (same_number k (pos 1) && is_on (first_range r) j || same_number k (pos 2) && not (r.dim == 1) && is_on (second_range r) j) _
          (or_left (same_number k (pos 1) && is_on (first_range r) j) _
          (and_from (same_number k (pos 1)) (is_on (first_range r) j) (number_to k (pos 1) f.0)
          (on_to (first_range r) j (first_step r is) f.1)))
      by (inr (inl f)) =
          or_left (same_number k (pos 1) && is_on (first_range r) j || same_number k (pos 2) && not (r.dim == 1) && is_on (second_range r) j) _
          (or_right (same_number k (pos 1) && is_on (first_range r) j) (same_number k (pos 2) && not (r.dim == 1) && is_on (second_range r) j)
          (and_from (same_number k (pos 2) && not (r.dim == 1)) (is_on (second_range r) j)
          (and_from (same_number k (pos 2)) (not (r.dim == 1)) (number_to k (pos 2) f.0) (not_from_false (r.dim == 1) (ne_eqb r.dim 1 (λ e. let l = f.1 in absurd (omega arith)))))
          (on_to (second_range r) j (second_step r is) f.2)))
      by (inr (inr f)) =
          or_right (same_number k (pos 1) && is_on (first_range r) j || same_number k (pos 2) && not (r.dim == 1) && is_on (second_range r) j)
          (same_number k (pos 3) && r.dim == 3 && is_on (third_range r) j)
          (and_from (same_number k (pos 3) && r.dim == 3) (is_on (third_range r) j)
          (and_from (same_number k (pos 3)) (r.dim == 3) (number_to k (pos 3) f.0) (eq-eqb r.dim 3 (let l = f.1 in let d = is.0 in omega arith)))
          (on_to (third_range r) j (third_step r is) f.2))

  -- j is on the range of a coordinate exactly where some point has it there
  pub some_from : (k j : ℤ) → IsOnSome r k j → SomeHas r k j
  some_from k j (inl f) =
      let h = filled_first j f.1 in
      (record r.lo { x1 = j }, record { one_dim = h.low_dim; first = f.1; second = low_on (second_range r) h.second; third = low_on (third_range r) h.third }, inl (f.0, refl))
  some_from k j (inr (inl f)) =
      let h = filled_second j f.1 f.2 in (
        record r.lo { x2 = j },
        record { one_dim = h.low_dim; first = low_on (first_range r) h.first; second = f.2; third = low_on (third_range r) h.third },
        inr (inl (f.0, subst (λ (d : ℕ). 2 ≤ d) (sym h.low_dim) f.1, refl)),
      )
  some_from k j (inr (inr f)) =
      let h = filled_third j f.1 f.2 in (
        record r.lo { x3 = j },
        record { one_dim = h.low_dim; first = low_on (first_range r) h.first; second = low_on (second_range r) h.second; third = f.2 },
        inr (inr (f.0, subst (λ (d : ℕ). 3 ≤ d) (sym h.low_dim) f.1, refl)),
      )

  pub some_to : (k j : ℤ) → SomeHas r k j → IsOnSome r k j
  some_to k j (p, w, inl f) = inl (f.0, subst (IsOn (first_range r)) f.1 w.first)
  some_to k j (p, w, inr (inl f)) = inr (inl (f.0, subst (λ (d : ℕ). 2 ≤ d) w.one_dim f.1, subst (IsOn (second_range r)) f.2 w.second))
  some_to k j (p, w, inr (inr f)) = inr (inr (f.0, subst (λ (d : ℕ). 3 ≤ d) w.one_dim f.1, subst (IsOn (third_range r)) f.2 w.third))

-- ---- the ranges of the rectangle of three ranges, where it has points

pub ranges_kept : (d : ℕ) (a b : Range) (p : Point) → IsIn (of_ranges d a b unused_range) p → (first_range (of_ranges d a b unused_range) ≡ a) × (second_range (of_ranges d a b unused_range) ≡ b)
ranges_kept d a b p = by (is_empty_range a || is_empty_range b || is_empty_range unused_range)
  where
    whole : Rect
    whole = record {
      dim = d;
      lo = record { dim = d; x1 = a.low; x2 = b.low; x3 = pos 0 };
      hi = record { dim = d; x1 = a.high; x2 = b.high; x3 = pos 0 };
      step = a.step ∷ b.step ∷ 1 ∷ [];
    }

    by : (t : Bool) → IsIn (if t then empty_rect d else whole) p → (first_range (if t then empty_rect d else whole) ≡ a) × (second_range (if t then empty_rect d else whole) ≡ b)
    by true w = absurd (none_in (empty_rect d) refl p w)
    by false w = (refl, refl)

-- points of at most two dimensions that agree in two coordinates are one
pub same_flat : (r : Rect) (p q : Point) → IsRect r → r.dim < 3 → IsIn r p → IsIn r q → p.x1 ≡ q.x1 → p.x2 ≡ q.x2 → p ≡ q
same_flat r p q is flat w x e f =
    let a = point_in r p is w in
    let b = point_in r q is x in
    let third : p.x3 ≡ q.x3 = a.third (subst (λ (d : ℕ). d < 3) (sym w.one_dim) flat) ∙ sym (b.third (subst (λ (d : ℕ). d < 3) (sym x.one_dim) flat)) in
    let dim : p.dim ≡ q.dim = w.one_dim ∙ sym x.one_dim in
    λ i. record { dim = dim i; x1 = e i; x2 = f i; x3 = third i }

ranges_dim : (d : ℕ) (a b c : Range) → (of_ranges d a b c).dim ≡ d
ranges_dim d a b c = by (is_empty_range a || is_empty_range b || is_empty_range c)
  where
    whole : Rect
    whole = record {
      dim = d;
      lo = record { dim = d; x1 = a.low; x2 = b.low; x3 = c.low };
      hi = record { dim = d; x1 = a.high; x2 = b.high; x3 = c.high };
      step = a.step ∷ b.step ∷ c.step ∷ [];
    }

    by : (t : Bool) → (if t then empty_rect d else whole).dim ≡ d
    by true = refl
    by false = refl

-- ---- the answer of the test

same_test : (a b : Bool) → (a ≡ true → b ≡ true) → (b ≡ true → a ≡ true) → a ≡ b
same_test true b f g = sym (f refl)
same_test false true f g = g refl
same_test false false f g = refl

pub no_test : (r : Rect) → IsRect r → (k j : ℤ) → (IsOnSome r k j → ⊥) → false ≡ has_coordinate r k j
no_test r is k j out = same_test false (has_coordinate r k j) (λ t. cc) (λ t. absurd (out (coordinate_from r is k j t)))

-- ---- the coordinate that is left out

-- a coordinate that is used is one of the dimension
pub in_dimension : (r : Rect) → 2 ≤ r.dim → (k j : ℤ) → IsOnSome r k j → (pos 1 ≤ℤ k) × (k ≤ℤ pos r.dim)
in_dimension r two k j (inl f) = let n = f.0 in (omega (arith, ints), omega (arith, ints))
in_dimension r two k j (inr (inl f)) = let n = f.0 in (omega (arith, ints), omega (arith, ints))
in_dimension r two k j (inr (inr f)) = let n = f.0 in let d = f.1 in (omega (arith, ints), omega (arith, ints))

-- the range of the coordinate that is used
on_used : (r : Rect) (k j : ℤ) → IsOnSome r k j
    → ((k ≡ pos 1) → IsOn (first_range r) j) × ((k ≡ pos 2) → IsOn (second_range r) j) × ((k ≡ pos 3) → IsOn (third_range r) j)
on_used r k j (inl f) = let n = f.0 in (λ _. f.1, λ e. absurd (omega (arith, ints)), λ e. absurd (omega (arith, ints)))
on_used r k j (inr (inl f)) = let n = f.0 in (λ e. absurd (omega (arith, ints)), λ _. f.2, λ e. absurd (omega (arith, ints)))
on_used r k j (inr (inr f)) = let n = f.0 in (λ e. absurd (omega (arith, ints)), λ e. absurd (omega (arith, ints)), λ _. f.2)

module _ (l : Layout) (laid : IsLaid l) where
  pub split_first : IsSplit l (pos 1) (first_range l.dom) (second_range l.dom) (third_range l.dom) (slice_index l.steps 0) (slice_index l.steps 1) (slice_index l.steps 2)
  split_first = record {
    forward = first_step l.dom laid.form;
    form = tidy_first l.dom laid.form;
    first = tidy_second l.dom laid.form;
    second = tidy_third l.dom laid.form;
    unused_second = unused_third l.dom laid.form;
    has = λ j. (λ t. (on_used l.dom (pos 1) j (coordinate_from l.dom laid.form (pos 1) j t)).0 refl, λ o. coordinate_to l.dom laid.form (pos 1) j (inl (refl, o)));
    below = λ j o. first_below l laid l.dom (filled_first l.dom laid.form j o) (λ p w. w) j o;
    domain = refl;
    number = λ j p. omega arith;
    apart = λ j p q e. (ap (λ (y : Point). y.x2) e, ap (λ (y : Point). y.x3) e);
  }

  pub split_second : 2 ≤ l.dom.dim
      → IsSplit l (pos 2) (second_range l.dom) (first_range l.dom) (third_range l.dom) (slice_index l.steps 1) (slice_index l.steps 0) (slice_index l.steps 2)
  split_second two = record {
    forward = second_step l.dom laid.form;
    form = tidy_second l.dom laid.form;
    first = tidy_first l.dom laid.form;
    second = tidy_third l.dom laid.form;
    unused_second = unused_third l.dom laid.form;
    has = λ j. (λ t. (on_used l.dom (pos 2) j (coordinate_from l.dom laid.form (pos 2) j t)).1 refl, λ o. coordinate_to l.dom laid.form (pos 2) j (inr (inl (refl, two, o))));
    below = λ j o. second_below l laid l.dom (filled_second l.dom laid.form j two o) (λ p w. w) j o;
    domain = refl;
    number = λ j p. omega arith;
    apart = λ j p q e. (ap (λ (y : Point). y.x1) e, ap (λ (y : Point). y.x3) e);
  }

  pub split_third : 3 ≤ l.dom.dim
      → IsSplit l (pos 3) (third_range l.dom) (first_range l.dom) (second_range l.dom) (slice_index l.steps 2) (slice_index l.steps 0) (slice_index l.steps 1)
  split_third three = record {
    forward = third_step l.dom laid.form;
    form = tidy_third l.dom laid.form;
    first = tidy_first l.dom laid.form;
    second = tidy_second l.dom laid.form;
    unused_second = λ flat. absurd (omega arith);
    has = λ j. (λ t. (on_used l.dom (pos 3) j (coordinate_from l.dom laid.form (pos 3) j t)).2 refl, λ o. coordinate_to l.dom laid.form (pos 3) j (inr (inr (refl, three, o))));
    below = λ j o. third_below l laid l.dom (filled_third l.dom laid.form j three o) (λ p w. w) j o;
    domain = refl;
    number = λ j p. omega arith;
    apart = λ j p q e. (ap (λ (y : Point). y.x1) e, ap (λ (y : Point). y.x2) e);
  }

pub split_along : (l : Layout) (k k' : ℤ) (out out' a a' b b' : Range) (s t u : ℕ) → k ≡ k' → out ≡ out' → a ≡ a' → b ≡ b'
    → IsSplit l k out a b s t u → IsSplit l k' out' a' b' s t u
split_along l k k' out out' a a' b b' s t u e f g h is =
    subst₂ (λ (x y : Range). IsSplit l k' out' x y s t u) g h (subst₂ (λ (n : ℤ) (x : Range). IsSplit l n x a b s t u) e f is)

-- ---- slices

module _ (l : Layout) (laid : IsLaid l) (two : 2 ≤ l.dom.dim) (k : ℤ) (out a b : Range) (s t u : ℕ) (is : IsSplit l k out a b s t u)
    (j : ℤ) (on : IsOn out j) (d : Rect) (n : ℕ) (domain : d ≡ of_ranges (l.dom.dim - 1) a b unused_range) (base : n ≡ steps_to out j * s) where
  abbrev pub sliced : Layout
  sliced = record { block = l.block; dom = d; base = l.base + n; steps = t ∷ u ∷ 0 ∷ [] }

  viewed : IsRect (view_domain (Slice k j) l.dom) × ((p : Point) → IsIn (view_domain (Slice k j) l.dom) p → IsIn l.dom (seen_point (Slice k j) p))
  viewed = view_inside (Slice k j) l.dom laid.form tt (lt-ltb 1 l.dom.dim two) (ap (λ (t : Bool). if t then None else Some Bounds) ((is.has j).1 on))

  -- the number of a cell in the coordinates that are left
  numbers : (p : Point) → IsIn (view_domain (Slice k j) l.dom) p → cell_index sliced p ≡ cell_index l (with_coordinate k j p)
  numbers p w =
      let kept = ranges_kept (l.dom.dim - 1) a b p (subst (λ (r : Rect). IsIn r p) is.domain w) in
      let f : first_range d ≡ a = ap (λ (r : Rect). first_range r) domain ∙ kept.0 in
      let g : second_range d ≡ b = ap (λ (r : Rect). second_range r) domain ∙ kept.1 in
      (λ i. l.base + base i + steps_to (f i) p.x1 * t + steps_to (g i) p.x2 * u + steps_to (third_range d) p.x3 * 0) ∙ omega arith ∙ sym (is.number j p)

  flat : (view_domain (Slice k j) l.dom).dim < 3
  flat = let d = laid.form.0 in omega (arith, ap (λ (r : Rect). r.dim) is.domain, ranges_dim (l.dom.dim - 1) a b unused_range)

  pub sliced_laid : IsLaid sliced
  sliced_laid = is_laid (Slice k j) l sliced laid refl (domain ∙ sym is.domain) viewed.0 viewed.1 numbers
      (λ p q w x same. let e = is.apart j p q same in same_flat (view_domain (Slice k j) l.dom) p q viewed.0 flat w x e.0 e.1)

  pub sliced_seen : IsSeen (Slice k j) l sliced
  sliced_seen = is_seen (Slice k j) l sliced laid refl (domain ∙ sym is.domain) viewed.0 viewed.1 numbers
