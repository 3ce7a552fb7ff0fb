-- Views of views satisfy the invariant of views.
use Rattle.std.proofs.Common.{◌≡◌, ℕ, ◌+◌, ◌*◌, ◌<◌, ◌≤◌, ℤ, ◌+ℤ◌, ◌-ℤ◌, ◌≤ℤ◌, Bool, true, false, if◌then◌else◌, [], ◌∷◌, length, slice_index, Option, Some, None, IfSome, refl, sym, ap, subst, subst₂, ◌∙◌, arith}
use Rattle.std.proofs.lemmas.Int.{ints}
use Rattle.std.proofs.lemmas.List.{length-map}
use Rattle.ti_base.specs.declared.point.Point.{Point}
use Rattle.ti_base.specs.declared.point.Rect.{Rect}
use Rattle.ti_base.specs.declared.action.ViewHow.{ViewHow}
use Rattle.ti_base.specs.Points.{moved_back}
use Rattle.ti_base.specs.Ranges.{Range, IsOn, IsRange, IsTidy, shift_range}
use Rattle.ti_base.specs.Rects.{IsRect, HasPoints, IsIn, is_in, points_of, empty_rect, translate_rect, first_range, second_range, third_range}
use Rattle.ti_base.specs.Cells.{view_domain, seen_point}
use Rattle.ti_rect.proofs.Lemmas.{points_listed, forward, low_on, full_of, tidy_first, tidy_second, tidy_third, shifted_form}
use Rattle.ti_rect.proofs.Lemmas.{translated_full, in_tests}
use Rattle.ti_grid.specs.declared.layout.Layout.{Layout}
use Rattle.ti_grid.specs.Mirrors.Numbers.{steps_to, cell_index}
use Rattle.ti_grid.specs.Mirrors.Parts.{IsSubrange, IsStretched}
use Rattle.ti_grid.specs.Views.{IsLaid, IsSeen, cell_number, seen_number, DifferInCells, NumbersBelow}
use Rattle.ti_grid.proofs.ListLaws.{few_points}
use Rattle.ti_grid.proofs.StepLaws.{moved_steps}

-- ---- what the number of a cell says

-- a point with a cell is in the domain, and the cell has the number of the point
pub cell_of : (v : Layout) (p : Point) (i : ℕ) → IsRect v.dom → cell_number v p ≡ Some i → IsIn v.dom p × (cell_index v p ≡ i)
cell_of v p i is e = by (is_in v.dom p) refl e
  where
    by : (t : Bool) → is_in v.dom p ≡ t → (if t then Some (cell_index v p) else None) ≡ Some i → IsIn v.dom p × (cell_index v p ≡ i)
    by true f g = ((in_tests v.dom p is).0 f, let h : cell_index v p ≡ i = cc in h)
    by false f g = cc

pub cell_at : (v : Layout) (p : Point) → IsRect v.dom → IsIn v.dom p → cell_number v p ≡ Some (cell_index v p)
cell_at v p is w = ap (λ (t : Bool). if t then Some (cell_index v p) else None) ((in_tests v.dom p is).1 w)

pub no_cell : (v : Layout) (p : Point) → IsRect v.dom → (IsIn v.dom p → ⊥) → cell_number v p ≡ None
no_cell v p is out = by (is_in v.dom p) refl
  where
    by : (t : Bool) → is_in v.dom p ≡ t → (if t then Some (cell_index v p) else None) ≡ None
    by true f = absurd (out ((in_tests v.dom p is).0 f))
    by false f = refl

pub differ : (v : Layout) → IsLaid v → DifferInCells v
differ v l p q i e f =
    let a = cell_of v p i l.form e in
    let b = cell_of v q i l.form f in
    l.apart p q a.0 b.0 (a.1 ∙ sym b.1)

pub few : (v : Layout) → IsLaid v → length (points_of v.dom) ≤ 1048576
few v l =
    let s = points_listed v.dom l.form in
    let n = few_points (cell_index v) 1048576 (points_of v.dom) s.rises (λ p q a b e. l.apart p q ((s.has p).0 a) ((s.has q).0 b) e) (λ p a. l.below p ((s.has p).0 a)) in
    subst (λ (k : ℕ). k ≤ 1048576) (length-map (points_of v.dom) (cell_index v)) n

-- ---- a view of a view

module _ (how : ViewHow) (old new : Layout) (laid : IsLaid old) (block : new.block ≡ old.block) (domain : new.dom ≡ view_domain how old.dom)
    (form : IsRect (view_domain how old.dom)) (inside : (p : Point) → IsIn (view_domain how old.dom) p → IsIn old.dom (seen_point how p))
    (numbers : (p : Point) → IsIn (view_domain how old.dom) p → cell_index new p ≡ cell_index old (seen_point how p)) where
  has_form : IsRect new.dom
  has_form = subst IsRect (sym domain) form

  there : (p : Point) → IsIn new.dom p → IsIn (view_domain how old.dom) p
  there p w = subst (λ (r : Rect). IsIn r p) domain w

  same_cells : (p : Point) → cell_number new p ≡ seen_number how old p
  same_cells p = ap (λ (r : Rect). if is_in r p then Some (cell_index new p) else None) domain ∙ by (is_in (view_domain how old.dom) p) refl
    where
      by : (t : Bool) → is_in (view_domain how old.dom) p ≡ t
          → (if t then Some (cell_index new p) else None) ≡ (if t then cell_number old (seen_point how p) else None)
      by true e =
          let w = (in_tests (view_domain how old.dom) p form).0 e in
          ap Some (numbers p w) ∙ sym (cell_at old (seen_point how p) laid.form (inside p w))
      by false e = refl

  same_below : (n : ℕ) → NumbersBelow n old → NumbersBelow n new
  same_below n h p = subst (λ (o : Option ℕ). IfSome o (λ i. i < n)) (sym (same_cells p)) (by (is_in (view_domain how old.dom) p))
    where
      by : (t : Bool) → IfSome (if t then cell_number old (seen_point how p) else None) (λ i. i < n)
      by true = h (seen_point how p)
      by false = tt

  pub is_seen : IsSeen how old new
  is_seen = record { block = block; domain = domain; cells = same_cells; below = same_below }

  pub is_laid : ((p q : Point) → IsIn (view_domain how old.dom) p → IsIn (view_domain how old.dom) q → seen_point how p ≡ seen_point how q → p ≡ q) → IsLaid new
  is_laid one = record {
    form = has_form;
    below = λ p w. subst (λ (k : ℕ). k < 1048576) (sym (numbers p (there p w))) (laid.below (seen_point how p) (inside p (there p w)));
    apart = λ p q w x e. one p q (there p w) (there q x)
        (laid.apart (seen_point how p) (seen_point how q) (inside p (there p w)) (inside q (there q x)) (sym (numbers p (there p w)) ∙ e ∙ numbers q (there q x)));
  }

-- ---- the coordinates of a part of the domain

module _ (v : Layout) (laid : IsLaid v) (r : Rect) (h : HasPoints r) (inside : (p : Point) → IsIn r p → IsIn v.dom p) where
  first_point : (x : ℤ) → IsOn (first_range r) x → IsIn r (record r.lo { x1 = x })
  first_point x o = record { one_dim = h.low_dim; first = o; second = low_on (second_range r) h.second; third = low_on (third_range r) h.third }

  second_point : (x : ℤ) → IsOn (second_range r) x → IsIn r (record r.lo { x2 = x })
  second_point x o = record { one_dim = h.low_dim; first = low_on (first_range r) h.first; second = o; third = low_on (third_range r) h.third }

  third_point : (x : ℤ) → IsOn (third_range r) x → IsIn r (record r.lo { x3 = x })
  third_point x o = record { one_dim = h.low_dim; first = low_on (first_range r) h.first; second = low_on (second_range r) h.second; third = o }

  -- the cell of a point of the part is below the most, so what one coordinate adds is too
  pub first_below : (x : ℤ) → IsOn (first_range r) x → v.base + steps_to (first_range v.dom) x * slice_index v.steps 0 < 1048576
  first_below x o = let b = laid.below (record r.lo { x1 = x }) (inside (record r.lo { x1 = x }) (first_point x o)) in omega arith

  pub second_below : (x : ℤ) → IsOn (second_range r) x → v.base + steps_to (second_range v.dom) x * slice_index v.steps 1 < 1048576
  second_below x o = let b = laid.below (record r.lo { x2 = x }) (inside (record r.lo { x2 = x }) (second_point x o)) in omega arith

  pub third_below : (x : ℤ) → IsOn (third_range r) x → v.base + steps_to (third_range v.dom) x * slice_index v.steps 2 < 1048576
  third_below x o = let b = laid.below (record r.lo { x3 = x }) (inside (record r.lo { x3 = x }) (third_point x o)) in omega arith

  -- what holds of each number of a part of a range holds of the part
  part_of : (a part : Range) (k : ℕ) → IsTidy a → IsRange part → ((x : ℤ) → IsOn part x → IsOn a x × (v.base + steps_to a x * k < 1048576)) → IsSubrange a part k
  part_of a part k tidy form at =
      let low = (at part.low (low_on part form)).0 in
      record { whole = forward a tidy (omega (arith, ints, low.reached, low.within)); form = form; inside = λ x o. (at x o).0; below = λ x o. omega (arith, (at x o).1) }

  pub first_part : IsSubrange (first_range v.dom) (first_range r) (slice_index v.steps 0)
  first_part = part_of (first_range v.dom) (first_range r) (slice_index v.steps 0) (tidy_first v.dom laid.form) h.first
      (λ x o. ((inside (record r.lo { x1 = x }) (first_point x o)).first, first_below x o))

  pub second_part : IsSubrange (second_range v.dom) (second_range r) (slice_index v.steps 1)
  second_part = part_of (second_range v.dom) (second_range r) (slice_index v.steps 1) (tidy_second v.dom laid.form) h.second
      (λ x o. ((inside (record r.lo { x2 = x }) (second_point x o)).second, second_below x o))

  pub third_part : IsSubrange (third_range v.dom) (third_range r) (slice_index v.steps 2)
  third_part = part_of (third_range v.dom) (third_range r) (slice_index v.steps 2) (tidy_third v.dom laid.form) h.third
      (λ x o. ((inside (record r.lo { x3 = x }) (third_point x o)).third, third_below x o))

-- along equal ranges and numbers
pub along : (r r' : Range) (x x' : ℤ) (s : ℕ) → r ≡ r' → x ≡ x' → steps_to r x * s ≡ steps_to r' x' * s
along r r' x x' s e f = λ i. steps_to (e i) (f i) * s

pub part_along : (a a' part part' : Range) (s : ℕ) → a ≡ a' → part ≡ part' → IsSubrange a part s → IsSubrange a' part' s
part_along a a' part part' s e f h = subst₂ (λ (x y : Range). IsSubrange x y s) e f h

pub stretch_along : (a a' part part' : Range) (s k : ℕ) → a ≡ a' → part ≡ part' → IsStretched a part s k → IsStretched a' part' s k
stretch_along a a' part part' s k e f h = subst₂ (λ (x y : Range). IsStretched x y s k) e f h

-- ---- moved views

rises : (r : Range) → IsRange r → r.low ≤ℤ r.high
rises r is = omega (arith, ints, is.reached)

-- a moved rectangle has the moved ranges
moved_whole : (r : Rect) (by : Point) → Rect
moved_whole r by = record {
  dim = r.dim;
  lo = record { dim = r.dim; x1 = r.lo.x1 +ℤ by.x1; x2 = r.lo.x2 +ℤ by.x2; x3 = r.lo.x3 +ℤ by.x3 };
  hi = record { dim = r.dim; x1 = r.hi.x1 +ℤ by.x1; x2 = r.hi.x2 +ℤ by.x2; x3 = r.hi.x3 +ℤ by.x3 };
  step = slice_index r.step 0 ∷ slice_index r.step 1 ∷ slice_index r.step 2 ∷ [];
}

moved_is : (r : Rect) (by : Point) → HasPoints r → translate_rect r by ≡ moved_whole r by
unfolding moved_whole
moved_is r by h =
    let a = shift_range by.x1 (first_range r) in
    let b = shift_range by.x2 (second_range r) in
    let c = shift_range by.x3 (third_range r) in
    let f = shifted_form (first_range r) a by.x1 h.first refl in
    let g = shifted_form (second_range r) b by.x2 h.second refl in
    let k = shifted_form (third_range r) c by.x3 h.third refl in
    sym (translated_full r by a b c h refl refl refl)
    ∙ ap (λ (t : Bool). if t then empty_rect r.dim else moved_whole r by) (full_of r.dim a b c (rises a f) (rises b g) (rises c k))

pub moved_number : (l : Layout) (d : Rect) (by q : Point) → HasPoints l.dom → d ≡ translate_rect l.dom by
    → cell_index (record l { dom = d }) q ≡ cell_index l (moved_back q by)
unfolding moved_whole
moved_number l d by q h e =
    ap (λ (r : Rect). cell_index (record l { dom = r }) q) (e ∙ moved_is l.dom by h)
    ∙ (λ i. l.base + moved_steps (first_range l.dom) by.x1 q.x1 i * slice_index l.steps 0 + moved_steps (second_range l.dom) by.x2 q.x2 i * slice_index l.steps 1
    + moved_steps (third_range l.dom) by.x3 q.x3 i * slice_index l.steps 2)

less_same : (x y z : ℤ) → x -ℤ z ≡ y -ℤ z → x ≡ y
less_same x y z e = omega (arith, ints)

pub moved_apart : (p q by : Point) → moved_back p by ≡ moved_back q by → p ≡ q
moved_apart p q by e =
    let d : p.dim ≡ q.dim = ap (λ (x : Point). x.dim) e in
    let a : p.x1 ≡ q.x1 = less_same p.x1 q.x1 by.x1 (ap (λ (x : Point). x.x1) e) in
    let b : p.x2 ≡ q.x2 = less_same p.x2 q.x2 by.x2 (ap (λ (x : Point). x.x2) e) in
    let c : p.x3 ≡ q.x3 = less_same p.x3 q.x3 by.x3 (ap (λ (x : Point). x.x3) e) in
    λ i. record { dim = d i; x1 = a i; x2 = b i; x3 = c i }
