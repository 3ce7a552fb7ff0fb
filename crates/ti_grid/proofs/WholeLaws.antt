-- The view of a whole block assigns each point its index in the sorted list of points.
use Rattle.std.proofs.Common.{◌≡◌, ℕ, ◌+◌, ◌*◌, ◌<◌, ◌≤◌, Bool, true, false, if◌then◌else◌, ℤ, List, map, length, slice_index, Option, Some, None, IfSome, refl, sym, ap, subst, ◌∙◌, arith}
use Rattle.std.specs.Option.{option_map}
use Rattle.std.specs.List.{slice_get, flat_map}
use Rattle.std.proofs.lemmas.Int.{ints}
use Rattle.std.proofs.lemmas.Nat.{le-div, mul-add-lt, mul-le}
use Rattle.std.proofs.lemmas.List.{length-map}
use Rattle.std.proofs.lemmas.Option.{slice_get-map, slice_get_within, same_Some}
use Rattle.ti_base.specs.declared.point.Point.{Point}
use Rattle.ti_base.specs.declared.point.Rect.{Rect}
use Rattle.ti_base.specs.Ranges.{Range, IsOn, IsRange, count_on, numbers_on}
use Rattle.ti_base.specs.Rects.{IsRect, HasPoints, IsIn, is_in, points_of, first_range, second_range, third_range}
use Rattle.ti_base.proofs.Lemmas.{length_points}
use Rattle.ti_rect.proofs.Lemmas.{count_some, low_on, span_between, in_tests, points_listed, first_step, second_step, third_step}
use Rattle.std.proofs.lemmas.Bool.{true≢false}
use Rattle.ti_grid.specs.declared.layout.Layout.{Layout}
use Rattle.ti_grid.specs.Mirrors.Numbers.{steps_to, cell_index}
use Rattle.ti_grid.specs.Views.{IsLaid, IsWhole, NumbersBelow, place_in}
use Rattle.ti_grid.proofs.ListLaws.{get_flat, get_number, length_numbers, length_flat, place_found, place_missing, place_below}
use Rattle.ti_grid.proofs.StepLaws.{on_steps}

-- ---- numbers of a range

count_above : (r : Range) (x : ℤ) → 0 < r.step → (o : IsOn r x) → o.steps < count_on r
count_above r x positive o =
    let s = span_between r.low r.high (omega (arith, ints, o.reached, o.within)) in
    let e = s.1 in
    let room : o.steps * r.step ≤ s.0 = omega (arith, ints, o.reached, o.within) in
    let c = count_some r s.0 positive s.1 in
    omega (arith, le-div o.steps s.0 r.step positive room)

steps_below : (r : Range) (x : ℤ) → 0 < r.step → IsOn r x → steps_to r x < count_on r
steps_below r x positive o = subst (λ (k : ℕ). k < count_on r) (sym (on_steps r x positive o)) (count_above r x positive o)

get_on : (r : Range) (x : ℤ) → 0 < r.step → IsOn r x → slice_get (numbers_on r) (steps_to r x) ≡ Some x
get_on r x positive o =
    ap (slice_get (numbers_on r)) (on_steps r x positive o) ∙ get_number r.low r.step (count_on r) o.steps (count_above r x positive o) ∙ ap Some (sym o.reached)

-- ---- points of a rectangle

abbrev row : ℕ → List ℤ → ℤ → ℤ → List Point
row d zs x y = map (λ z. record { dim = d; x1 = x; x2 = y; x3 = z }) zs

abbrev plane : ℕ → List ℤ → List ℤ → ℤ → List Point
plane d ys zs x = flat_map (λ y. map (λ z. record { dim = d; x1 = x; x2 = y; x3 = z }) zs) ys

module _ (r : Rect) (is : IsRect r) where
  row_length : (x y : ℤ) → length (row r.dim (numbers_on (third_range r)) x y) ≡ count_on (third_range r)
  row_length x y = length-map (numbers_on (third_range r)) _ ∙ length_numbers (third_range r).low (third_range r).step (count_on (third_range r))

  plane_length : (x : ℤ) → length (plane r.dim (numbers_on (second_range r)) (numbers_on (third_range r)) x) ≡ count_on (second_range r) * count_on (third_range r)
  plane_length x =
      length_flat (row r.dim (numbers_on (third_range r)) x) (count_on (third_range r)) (row_length x) (numbers_on (second_range r))
      ∙ ap (λ (n : ℕ). n * count_on (third_range r)) (length_numbers (second_range r).low (second_range r).step (count_on (second_range r)))

  -- the place of a point in the list, row by row
  pub place_of : (p : Point) → IsIn r p
      → slice_get (points_of r) (steps_to (first_range r) p.x1 * (count_on (second_range r) * count_on (third_range r))
      + (steps_to (second_range r) p.x2 * count_on (third_range r) + steps_to (third_range r) p.x3)) ≡ Some p
  place_of p w =
      let zs = numbers_on (third_range r) in
      let ys = numbers_on (second_range r) in
      let i = steps_to (first_range r) p.x1 in
      let j = steps_to (second_range r) p.x2 in
      let k = steps_to (third_range r) p.x3 in
      let in_row : k < count_on (third_range r) = steps_below (third_range r) p.x3 (third_step r is) w.third in
      let in_plane : j * count_on (third_range r) + k < count_on (third_range r) * count_on (second_range r) =
      mul-add-lt j (count_on (third_range r)) k (count_on (second_range r)) (steps_below (second_range r) p.x2 (second_step r is) w.second) in_row in
      let same : record { dim = r.dim; x1 = p.x1; x2 = p.x2; x3 = p.x3 } ≡ p = let e = sym w.one_dim in λ t. record { dim = e t; x1 = p.x1; x2 = p.x2; x3 = p.x3 } in
      get_flat (plane r.dim ys zs) (count_on (second_range r) * count_on (third_range r)) plane_length (numbers_on (first_range r)) i (j * count_on (third_range r) + k) p.x1
      (get_on (first_range r) p.x1 (first_step r is) w.first) (omega arith)
      ∙ get_flat (row r.dim zs p.x1) (count_on (third_range r)) (row_length p.x1) ys j k p.x2 (get_on (second_range r) p.x2 (second_step r is) w.second) in_row
      ∙ slice_get-map (λ (z : ℤ). record { dim = r.dim; x1 = p.x1; x2 = p.x2; x3 = z }) zs k
      ∙ ap (option_map (λ (z : ℤ). record { dim = r.dim; x1 = p.x1; x2 = p.x2; x3 = z })) (get_on (third_range r) p.x3 (third_step r is) w.third)
      ∙ ap Some same

-- a plane of a rectangle with points has no more points than the rectangle
pub plane_few : (r : Rect) → HasPoints r → count_on (second_range r) * count_on (third_range r) ≤ length (points_of r)
plane_few r h =
    let one : 0 < count_on (first_range r) = steps_some (first_range r) h.first in
    let a = count_on (second_range r) * count_on (third_range r) in
    let m = mul-le 1 a (count_on (first_range r)) a one (omega arith) in
    omega (arith, length_points r)
  where
    steps_some : (s : Range) → IsRange s → 0 < count_on s
    steps_some s k = let b = count_above s s.low k.forward (low_on s k) in omega arith

-- the number of a cell is that place, with these steps
pub whole_place : (v : Layout) → IsRect v.dom → v.base ≡ 0 → slice_index v.steps 0 ≡ count_on (second_range v.dom) * count_on (third_range v.dom)
    → slice_index v.steps 1 ≡ count_on (third_range v.dom) → slice_index v.steps 2 ≡ 1
    → (p : Point) → IsIn v.dom p → slice_get (points_of v.dom) (cell_index v p) ≡ Some p
whole_place v is b e f g p w =
    let i = steps_to (first_range v.dom) p.x1 in
    let j = steps_to (second_range v.dom) p.x2 in
    let k = steps_to (third_range v.dom) p.x3 in
    let m = count_on (second_range v.dom) in
    let n = count_on (third_range v.dom) in
    let same : cell_index v p ≡ 0 + i * (m * n) + j * n + k * 1 = λ t. b t + i * e t + j * f t + k * g t in
    let placed : 0 + i * (m * n) + j * n + k * 1 ≡ i * (m * n) + (j * n + k) = omega arith in
    ap (slice_get (points_of v.dom)) (same ∙ placed) ∙ place_of v.dom is p w

-- ---- a view that numbers the points so

module _ (v : Layout) (is : IsRect v.dom) (few : length (points_of v.dom) ≤ 1048576)
    (places : (p : Point) → IsIn v.dom p → slice_get (points_of v.dom) (cell_index v p) ≡ Some p) where
  pub whole_laid : IsLaid v
  whole_laid = record {
    form = is;
    below = λ p w. omega (arith, slice_get_within (points_of v.dom) (cell_index v p) p (places p w));
    apart = λ p q w x e. same_Some p q (sym (places p w) ∙ ap (slice_get (points_of v.dom)) e ∙ places q x);
  }

  pub whole_numbers : IsWhole v
  whole_numbers p = by (is_in v.dom p) refl
    where
      by : (t : Bool) → is_in v.dom p ≡ t → (if t then Some (cell_index v p) else None) ≡ place_in (points_of v.dom) p
      by true e = sym (place_found (points_of v.dom) (cell_index v p) p (points_listed v.dom is).rises (places p ((in_tests v.dom p is).0 e)))
      by false e = sym (place_missing (points_of v.dom) p (λ m. true≢false (sym ((in_tests v.dom p is).1 (((points_listed v.dom is).has p).0 m)) ∙ e)))

-- the numbers of a whole block are below the count of its points
pub whole_below : (v : Layout) → IsWhole v → NumbersBelow (length (points_of v.dom)) v
whole_below v h p = subst (λ (o : Option ℕ). IfSome o (λ i. i < length (points_of v.dom))) (sym (h p)) (place_below (points_of v.dom) p)
