-- Values in the forms of their types: numbers within their ranges, points, rectangular domains, lists of points.
use Rattle.std.proofs.Common.{lit<, ◌≡◌, inl, inr, ⊎_elim, ℕ, zero, suc, ◌-◌, ◌*◌, ◌%◌, ◌^◌, ◌<◌, ◌≤◌, nat_le, ◌==◌, ℤ, pos, negsuc, neg_ℤ}
use Rattle.std.proofs.Common.{◌+ℤ◌, ◌-ℤ◌, ◌≤ℤ◌, ◌<ℤ◌, unsigned_abs, Bool, true, false, not, ◌&&◌, ◌||◌, if◌then◌else◌, length, take, filter}
use Rattle.std.proofs.Common.{slice_get, slice_index_or, Option, Some, None, List, [], ◌∷◌, ◌++◌, refl, ap, ap₂, sym, ◌∙◌, subst, arith}
use Rattle.std.proofs.Common.{eq-eqb}
use Rattle.std.specs.Int.{Width, w32, w64, int_wrap}
use Rattle.std.specs.Int.RustNames.{int_lt, int_le}
use Rattle.std.specs.List.{list_all}
use Rattle.std.proofs.lemmas.Bool.{lt-leb, leb-true, lt-ltb}
use Rattle.std.proofs.lemmas.Int.{ints}
use Rattle.std.proofs.Math.Nat.{mod-le, div-le_self}
use Rattle.ti_base.specs.declared.point.Point.{Point}
use Rattle.ti_base.specs.declared.point.Rect.{Rect}
use Rattle.ti_base.specs.declared.fault.FaultKind.TheVariants as fault
use Rattle.ti_base.specs.declared.action.ViewHow.{ViewHow}
use Rattle.ti_base.specs.declared.action.ViewHow.TheVariants.{Restrict, Translate, Slice}
use Rattle.ti_base.specs.WholeNumbers.{Fits, wrap, sum, difference, remainder, rounded_down}
use Rattle.ti_base.specs.Points.{IsDim, IsPoint, HasCoordinates, pt_sum, pt_difference, translate_point}
use Rattle.ti_base.specs.PointSets.{AllOf, IsAmong, Rises, meet, minus, union}
use Rattle.ti_base.specs.Ranges.{Range, IsOn, is_on, IsTidy, natural, numbers_from, numbers_on, last_of, range_of, tidy, unused_range, meet_ranges, shift_range, is_empty_range}
use Rattle.ti_base.specs.Rects.{IsRect, HasPoints, IsIn, first_range, second_range, third_range, points_of, empty_rect, is_empty, of_ranges, used_range, spanned_rect, translate_rect, without}
use Rattle.ti_base.specs.Rects as rects
use Rattle.ti_base.specs.Cells.{is_coordinate, are_coordinates, leaves, suits, view_fault, view_domain}
use Rattle.ti_base.proofs.Lemmas.{wraps_some, meet_lists, minus_lists, union_lists}
use Rattle.ti_rect.specs.Views.{IsView}
use Rattle.ti_rect.proofs.Lemmas.{InList, on_listed, both_true, first_step, second_step, third_step, points_listed, point_in, of_points}
use Rattle.ti_rect.proofs.Lemmas.{meet_points, view_inside}
use Rattle.ti_lang.specs.Meaning.Held.{zero_point}
use Rattle.ti_lang.specs.Meaning.Literals.{coordinates_of, point_of_numbers, Bounds, is_even, rect_of_bounds}
use Rattle.ti_lang.specs.Meaning.Answers.{IsPointOf, IsRectOf}
use Rattle.ti_lang.proofs.Lemmas.{dim_is}
use Rattle.ti_align.specs.HeapTyping.{ArePoints}
use Rattle.ti_align.specs.Existing.{SuitsView, dims_viewed}
use Rattle.ti_align.proofs.Runs.Vars.{true_false, and_left, and_right}

-- ---- numbers

pub wraps_fit : (w : Width) (n : ℤ) → Fits w (wrap w n)
wraps_fit w n = (wraps_some w n).fits

-- within less is within more
wider : (a b : ℕ) (n : ℤ) → a < b → (neg_ℤ (pos a) ≤ℤ n) × (n <ℤ pos a) → (neg_ℤ (pos b) ≤ℤ n) × (n <ℤ pos b)
wider a b n h f = let x = f.0 in let y = f.1 in (omega (arith, ints), omega (arith, ints))

pub widens : (n : ℤ) → Fits w32 n → Fits w64 n
widens n f = wider (2 ^ 31) (2 ^ 63) n (lit< tt) f

zero_within : (h : ℕ) → 0 < h → (neg_ℤ (pos h) ≤ℤ pos 0) × (pos 0 <ℤ pos h)
zero_within h k = (omega (arith, ints), omega (arith, ints))

pub zero_fits : Fits w32 (pos 0)
zero_fits = zero_within (2 ^ 31) (lit< tt)

pub long_zero : Fits w64 (pos 0)
long_zero = zero_within (2 ^ 63) (lit< tt)

natural_within : (n h : ℕ) → n < h → (neg_ℤ (pos h) ≤ℤ pos n) × (pos n <ℤ pos h)
natural_within n h k = (omega (arith, ints), omega (arith, ints))

pub natural_fits : (n : ℕ) → n < 2 ^ 31 → Fits w32 (pos n)
natural_fits n h = natural_within n (2 ^ 31) h

pub natural_from : (n : ℕ) → Fits w32 (pos n) → n < 2 ^ 31
natural_from n f = below n (2 ^ 31) f.1
  where
    below : (n h : ℕ) → pos n <ℤ pos h → n < h
    below n h l = omega (arith, ints)

pub one_fits : Fits w32 (pos 1)
one_fits = natural_fits 1 (lit< tt)

remainder_within : (h : ℕ) (a b : ℤ) → (neg_ℤ (pos h) ≤ℤ a) × (a <ℤ pos h) → (neg_ℤ (pos h) ≤ℤ remainder a b) × (remainder a b <ℤ pos h)
remainder_within h (pos a) b f = let m = mod-le a (unsigned_abs b) in let y = f.1 in (omega (arith, ints), omega (arith, ints))
remainder_within h (negsuc a) b f = negated (suc a % unsigned_abs b) (mod-le (suc a) (unsigned_abs b))
  where
    negated : (r : ℕ) → r ≤ suc a → (neg_ℤ (pos h) ≤ℤ neg_ℤ (pos r)) × (neg_ℤ (pos r) <ℤ pos h)
    negated r m = let x = f.0 in (omega (arith, ints), omega (arith, ints))

pub remainder_fits : (w : Width) (a b : ℤ) → Fits w a → Fits w (remainder a b)
remainder_fits w a b f = remainder_within _ a b f

rounded_within : (h : ℕ) (a : ℤ) (d : ℕ) → (neg_ℤ (pos h) ≤ℤ a) × (a <ℤ pos h) → (neg_ℤ (pos h) ≤ℤ rounded_down a d) × (rounded_down a d <ℤ pos h)
rounded_within h (pos a) d f = let m = div-le_self a d in let y = f.1 in (omega (arith, ints), omega (arith, ints))
rounded_within h (negsuc a) d f = let m = div-le_self a d in let x = f.0 in (omega (arith, ints), omega (arith, ints))

pub rounded_fits : (w : Width) (a : ℤ) (d : ℕ) → Fits w a → Fits w (rounded_down a d)
rounded_fits w a d f = rounded_within _ a d f

complement_within : (h : ℕ) (n : ℤ) → (neg_ℤ (pos h) ≤ℤ n) × (n <ℤ pos h) → (neg_ℤ (pos h) ≤ℤ (neg_ℤ n -ℤ pos 1)) × ((neg_ℤ n -ℤ pos 1) <ℤ pos h)
complement_within h n f = let x = f.0 in let y = f.1 in (omega (arith, ints), omega (arith, ints))

pub complement_fits : (w : Width) (n : ℤ) → Fits w n → Fits w (neg_ℤ n -ℤ pos 1)
complement_fits w n f = complement_within _ n f

-- ---- lists of numbers

-- each is of 32 bits
abbrev pub AllFit : List ℤ → Type 0
AllFit [] = Unit {0}
AllFit (x ∷ xs) = Fits w32 x × AllFit xs

pub both_fit : (xs ys : List ℤ) → AllFit xs → AllFit ys → AllFit (xs ++ ys)
both_fit [] ys f g = g
both_fit (x ∷ xs) ys f g = (f.0, both_fit xs ys f.1 g)

take_fit : (n : ℕ) (xs : List ℤ) → AllFit xs → AllFit (take n xs)
take_fit zero xs f = tt
take_fit (suc n) [] f = tt
take_fit (suc n) (x ∷ xs) f = (f.0, take_fit n xs f.1)

filter_fit : (test : ℤ → Bool) (xs : List ℤ) → AllFit xs → AllFit (filter test xs)
filter_fit test [] f = tt
filter_fit test (x ∷ xs) f = by (test x) (filter_fit test xs f.1)
  where
    by : (b : Bool) → AllFit (filter test xs) → AllFit (if b then x ∷ filter test xs else filter test xs)
    by true h = (f.0, h)
    by false h = h

pub get_fits : (xs : List ℤ) (k : ℕ) (z : ℤ) → AllFit xs → slice_get xs k ≡ Some z → Fits w32 z
get_fits [] k z f h = absurd (none z h)
  where
    none : (z : ℤ) → ◌≡◌ {A = Option ℤ} None (Some z) → ⊥
    none z h = cc
get_fits (x ∷ xs) zero z f h = subst (Fits w32) (same x z h) f.0
  where
    same : (x z : ℤ) → Some x ≡ Some z → x ≡ z
    same x z h = cc
get_fits (x ∷ xs) (suc k) z f h = get_fits xs k z f.1 h

pub index_fits : (xs : List ℤ) (k : ℕ) → AllFit xs → Fits w32 (slice_index_or xs k (pos 0))
index_fits [] k f = zero_fits
index_fits (x ∷ xs) zero f = f.0
index_fits (x ∷ xs) (suc k) f = index_fits xs k f.1

pub listed_fit : (xs : List ℤ) → ((x : ℤ) → InList x xs → Fits w32 x) → AllFit xs
listed_fit [] h = tt
listed_fit (x ∷ xs) h = (h x (inl refl), listed_fit xs (λ y m. h y (inr m)))

-- ---- points

pub coordinates_fit : (p : Point) → HasCoordinates p → AllFit (coordinates_of p)
coordinates_fit p f = take_fit p.dim (p.x1 ∷ p.x2 ∷ p.x3 ∷ []) (f.0, (f.1, (f.2, tt)))

index_behind : (xs : List ℤ) (k : ℕ) → length xs ≤ k → slice_index_or xs k (pos 0) ≡ pos 0
index_behind [] k h = refl
index_behind (x ∷ xs) zero h = absurd (omega (arith, h))
index_behind (x ∷ xs) (suc k) h = index_behind xs k (omega (arith, h))

pub numbers_point : (zs : List ℤ) (n : ℕ) → length zs ≡ n → IsDim n → AllFit zs → IsPointOf n (point_of_numbers zs)
numbers_point zs n h d f =
    subst (λ b. IsPointOf n (if b then record {
      dim = length zs;
      x1 = slice_index_or zs 0 (pos 0);
      x2 = slice_index_or zs 1 (pos 0);
      x3 = slice_index_or zs 2 (pos 0);
    } else zero_point 1)) (sym (dim_is (length zs) (subst IsDim (sym h) d))) (record {
      form = record { dim = subst IsDim (sym h) d; second = λ l. index_behind zs 1 (omega (arith, l)); third = λ l. index_behind zs 2 (omega (arith, l)) };
      dim_is = h;
      coordinates = (index_fits zs 0 f, index_fits zs 1 f, index_fits zs 2 f);
    })

pub origin_point : (n : ℕ) → IsDim n → IsPointOf n (zero_point n)
origin_point n d = record { form = record { dim = d; second = λ l. refl; third = λ l. refl }; dim_is = refl; coordinates = (zero_fits, zero_fits, zero_fits) }

zero_wraps : wrap w32 (pos 0) ≡ pos 0
unfolding int_wrap
zero_wraps = refl

zero_sum : (x y : ℤ) → x ≡ pos 0 → y ≡ pos 0 → sum w32 x y ≡ pos 0
zero_sum x y a b = ap₂ (sum w32) a b ∙ zero_wraps

zero_difference : (x y : ℤ) → x ≡ pos 0 → y ≡ pos 0 → difference w32 x y ≡ pos 0
zero_difference x y a b = ap₂ (difference w32) a b ∙ zero_wraps

pub sum_point : (n : ℕ) (p q : Point) → IsPointOf n p → IsPointOf n q → IsPointOf n (pt_sum p q)
sum_point n p q a b = record {
  form = record {
    dim = a.form.dim;
    second = λ l. zero_sum p.x2 q.x2 (a.form.second l) (b.form.second (subst (λ d. d < 2) (a.dim_is ∙ sym b.dim_is) l));
    third = λ l. zero_sum p.x3 q.x3 (a.form.third l) (b.form.third (subst (λ d. d < 3) (a.dim_is ∙ sym b.dim_is) l));
  };
  dim_is = a.dim_is;
  coordinates = (wraps_fit w32 _, wraps_fit w32 _, wraps_fit w32 _);
}

pub difference_point : (n : ℕ) (p q : Point) → IsPointOf n p → IsPointOf n q → IsPointOf n (pt_difference p q)
difference_point n p q a b = record {
  form = record {
    dim = a.form.dim;
    second = λ l. zero_difference p.x2 q.x2 (a.form.second l) (b.form.second (subst (λ d. d < 2) (a.dim_is ∙ sym b.dim_is) l));
    third = λ l. zero_difference p.x3 q.x3 (a.form.third l) (b.form.third (subst (λ d. d < 3) (a.dim_is ∙ sym b.dim_is) l));
  };
  dim_is = a.dim_is;
  coordinates = (wraps_fit w32 _, wraps_fit w32 _, wraps_fit w32 _);
}

-- ---- lists of points

pub are_from : (n : ℕ) (ps : List Point) → ((p : Point) → IsAmong ps p → IsPointOf n p) → ArePoints n ps
are_from n [] h = tt
are_from n (p ∷ ps) h = (h p (inl refl), are_from n ps (λ q m. h q (inr m)))

pub are_among : (n : ℕ) (ps : List Point) (p : Point) → ArePoints n ps → IsAmong ps p → IsPointOf n p
are_among n [] p a m = absurd m
are_among n (q ∷ qs) p a (inl e) = subst (IsPointOf n) (sym e) a.0
are_among n (q ∷ qs) p a (inr m) = are_among n qs p a.1 m

pub all_of : (n : ℕ) (ps : List Point) → ArePoints n ps → AllOf n ps
all_of n [] a = tt
all_of n (p ∷ ps) a = (a.0.dim_is, all_of n ps a.1)

-- the points of a list that rises
abbrev pub ArePlaced : ℕ → List Point → Type 0
ArePlaced n ps = ArePoints n ps × Rises ps

-- an operation on domains
abbrev pub KeepsPoints : (List Point → List Point → List Point) → Type 0
KeepsPoints f = (n : ℕ) (ps qs : List Point) → ArePlaced n ps → ArePlaced n qs → ArePlaced n (f ps qs)

pub meet_points_kept : KeepsPoints meet
meet_points_kept n ps qs a b = let l = meet_lists ps qs a.1 in (are_from n (meet ps qs) (λ p m. are_among n ps p a.0 ((l.has p).0 m).0), l.rises)

pub minus_points_kept : KeepsPoints minus
minus_points_kept n ps qs a b = let l = minus_lists ps qs a.1 in (are_from n (minus ps qs) (λ p m. are_among n ps p a.0 ((l.has p).0 m).0), l.rises)

pub union_points_kept : KeepsPoints union
union_points_kept n ps qs a b =
    let l = union_lists n ps qs (all_of n ps a.0) (all_of n qs b.0) a.1 in
    (are_from n (union ps qs) (λ p m. ⊎_elim (λ x. are_among n ps p a.0 x) (λ y. are_among n qs p b.0 y) ((l.has p).0 m)), l.rises)

-- ---- ranges

-- both ends are of 32 bits
abbrev pub EndsFit : Range → Type 0
EndsFit r = Fits w32 r.low × Fits w32 r.high

between : (h : ℕ) (low high x : ℤ) (n : ℕ) → (neg_ℤ (pos h) ≤ℤ low) × (low <ℤ pos h) → (neg_ℤ (pos h) ≤ℤ high) × (high <ℤ pos h) → x ≡ low +ℤ pos n → x ≤ℤ high → (neg_ℤ (pos h) ≤ℤ x) × (x <ℤ pos h)
between h low high x n f g e l = let a = f.0 in let b = g.1 in (omega (arith, ints), omega (arith, ints))

pub on_fits : (r : Range) (x : ℤ) → EndsFit r → IsOn r x → Fits w32 x
on_fits r x f o = between _ r.low r.high x (o.steps * r.step) f.0 f.1 o.reached o.within

numbers_fit : (r : Range) → 0 < r.step → EndsFit r → AllFit (numbers_on r)
numbers_fit r k f = listed_fit (numbers_on r) (λ x m. on_fits r x f (on_listed r x k m))

last_fits : (x : ℤ) (xs : List ℤ) → Fits w32 x → AllFit xs → Fits w32 (last_of x xs)
last_fits x [] f g = f
last_fits x (y ∷ ys) f g = last_fits y ys g.0 g.1

range_fits : (xs : List ℤ) → AllFit xs → EndsFit (range_of xs)
range_fits [] f = (one_fits, zero_fits)
range_fits (x ∷ []) f = (f.0, f.0)
range_fits (x ∷ y ∷ rest) f = (f.0, last_fits y rest f.1.0 f.1.1)

both_ends : (r s : Range) → 0 < r.step → EndsFit r → EndsFit (meet_ranges r s)
both_ends r s k f = range_fits (filter (is_on s) (numbers_on r)) (filter_fit (is_on s) (numbers_on r) (numbers_fit r k f))

tidy_ends : (r : Range) → 0 < r.step → EndsFit r → EndsFit (tidy r)
tidy_ends r k f = range_fits (numbers_on r) (numbers_fit r k f)

unused_ends : EndsFit unused_range
unused_ends = (zero_fits, zero_fits)

last_numbers : (x : ℤ) (step n : ℕ) → last_of x (numbers_from (x +ℤ pos step) step n) ≡ x +ℤ pos (n * step)
last_numbers x step zero = omega (arith, ints)
last_numbers x step (suc n) = last_numbers (x +ℤ pos step) step n ∙ omega (arith, ints)

natural_step : (x : ℤ) (n : ℕ) → natural ((x +ℤ pos n) -ℤ x) ≡ n
natural_step x n = let e : (x +ℤ pos n) -ℤ x ≡ pos n = omega (arith, ints) in ap natural e

-- a range of numbers that rise by steps is in its one form
from_tidy : (low : ℤ) (step n : ℕ) → 0 < step → IsTidy (range_of (numbers_from low step n))
from_tidy low step zero k = inl (omega (arith, ints))
from_tidy low step (suc zero) k = inr (record { steps = 0; reached = omega (arith, ints); forward = omega arith; single = λ z. refl })
from_tidy low step (suc (suc n)) k =
    inr (record {
      steps = suc n;
      reached = last_numbers (low +ℤ pos step) step n ∙ ends ∙ ap (λ s. low +ℤ pos (suc n * s)) (sym (natural_step low step));
      forward = subst (λ s. 0 < s) (sym (natural_step low step)) k;
      single = λ z. absurd (never z);
    })
  where
    ends : (low +ℤ pos step) +ℤ pos (n * step) ≡ low +ℤ pos (suc n * step)
    ends = omega (arith, ints)

    never : suc n ≡ 0 → ⊥
    never z = cc

tidy_tidy : (r : Range) → 0 < r.step → IsTidy (tidy r)
tidy_tidy r k = from_tidy r.low r.step _ k

-- ---- rectangular domains

-- it and its ends are of so many dimensions
abbrev pub HasDims : ℕ → Rect → Type 0
HasDims n r = (r.dim ≡ n) × (r.lo.dim ≡ n) × (r.hi.dim ≡ n)

pub rect_dims : (n : ℕ) (r : Rect) → IsRectOf n r → HasDims n r
rect_dims n r k = (k.dim_is, k.low.dim_is, k.high.dim_is)

pub ranges_dims : (n : ℕ) (a b c : Range) → HasDims n (of_ranges n a b c)
ranges_dims n a b c = by (is_empty_range a || is_empty_range b || is_empty_range c)
  where
    by : (e : Bool) → HasDims n (if e then empty_rect n else record {
      dim = n;
      lo = record { dim = n; x1 = a.low; x2 = b.low; x3 = c.low };
      hi = record { dim = n; x1 = a.high; x2 = b.high; x3 = c.high };
      step = a.step ∷ b.step ∷ c.step ∷ [];
    })
    by true = (refl, refl, refl)
    by false = (refl, refl, refl)

-- the coordinates of both ends are of 32 bits
abbrev EndsHave : Rect → Type 0
EndsHave r = HasCoordinates r.lo × HasCoordinates r.hi

empty_ends : (n : ℕ) → EndsHave (empty_rect n)
empty_ends n = ((one_fits, by (nat_le 2 n), by (nat_le 3 n)), (zero_fits, zero_fits, zero_fits))
  where
    by : (b : Bool) → Fits w32 (if b then pos 1 else pos 0)
    by true = one_fits
    by false = zero_fits

ranges_ends : (n : ℕ) (a b c : Range) → EndsFit a → EndsFit b → EndsFit c → EndsHave (of_ranges n a b c)
ranges_ends n a b c f g h = by (is_empty_range a || is_empty_range b || is_empty_range c)
  where
    by : (e : Bool) → EndsHave (if e then empty_rect n else record {
      dim = n;
      lo = record { dim = n; x1 = a.low; x2 = b.low; x3 = c.low };
      hi = record { dim = n; x1 = a.high; x2 = b.high; x3 = c.high };
      step = a.step ∷ b.step ∷ c.step ∷ [];
    })
    by true = empty_ends n
    by false = ((f.0, g.0, h.0), (f.1, g.1, h.1))

empty_low : (n : ℕ) → IsDim n → IsPoint (empty_rect n).lo
empty_low n d = record { dim = d; second = λ l. ap (λ b. if b then pos 1 else pos 0) (lt-leb 2 n l); third = λ l. ap (λ b. if b then pos 1 else pos 0) (lt-leb 3 n l) }

empty_high : (n : ℕ) → IsDim n → IsPoint (empty_rect n).hi
empty_high n d = record { dim = d; second = λ l. refl; third = λ l. refl }

ends_form : (r : Rect) → IsRect r → IsPoint r.lo × IsPoint r.hi
ends_form r (d, inl e) = (subst (λ (q : Rect). IsPoint q.lo) (sym e) (empty_low r.dim d), subst (λ (q : Rect). IsPoint q.hi) (sym e) (empty_high r.dim d))
ends_form r (d, inr h) = (h.low, h.high)

rect_from : (n : ℕ) (r : Rect) → IsRect r → HasDims n r → EndsHave r → IsRectOf n r
rect_from n r is d c =
    let e = ends_form r is in
    record { form = is; dim_is = d.0; low = record { form = e.0; dim_is = d.1; coordinates = c.0 }; high = record { form = e.1; dim_is = d.2; coordinates = c.1 } }

pub empty_form : (n : ℕ) → IsDim n → IsRectOf n (empty_rect n)
empty_form n d = rect_from n (empty_rect n) (d, inl refl) (refl, refl, refl) (empty_ends n)

first_ends : (n : ℕ) (r : Rect) → IsRectOf n r → EndsFit (first_range r)
first_ends n r k = (k.low.coordinates.0, k.high.coordinates.0)

second_ends : (n : ℕ) (r : Rect) → IsRectOf n r → EndsFit (second_range r)
second_ends n r k = (k.low.coordinates.1, k.high.coordinates.1)

third_ends : (n : ℕ) (r : Rect) → IsRectOf n r → EndsFit (third_range r)
third_ends n r k = (k.low.coordinates.2, k.high.coordinates.2)

-- its points
pub in_point : (n : ℕ) (r : Rect) (p : Point) → IsRectOf n r → IsIn r p → IsPointOf n p
in_point n r p k i = record {
  form = point_in r p k.form i;
  dim_is = i.one_dim ∙ k.dim_is;
  coordinates = (on_fits (first_range r) p.x1 (first_ends n r k) i.first, on_fits (second_range r) p.x2 (second_ends n r k) i.second, on_fits (third_range r) p.x3 (third_ends n r k) i.third);
}

pub points_placed : (n : ℕ) (r : Rect) → IsRectOf n r → ArePlaced n (points_of r)
points_placed n r k = let l = points_listed r k.form in (are_from n (points_of r) (λ p m. in_point n r p k ((l.has p).0 m)), l.rises)

-- meets
meet_dims : (n : ℕ) (r s : Rect) → HasDims n r → HasDims n (rects.meet r s)
meet_dims n r s h = subst (λ k. HasDims k (rects.meet r s)) h.0
    (ranges_dims r.dim (meet_ranges (first_range r) (first_range s)) (meet_ranges (second_range r) (second_range s))
    (meet_ranges (third_range r) (third_range s)))

pub meet_form : (n : ℕ) (r s : Rect) → IsRectOf n r → IsRectOf n s → IsRectOf n (rects.meet r s)
meet_form n r s a b =
    rect_from n (rects.meet r s) (meet_points r s a.form b.form (b.dim_is ∙ sym a.dim_is)).0 (meet_dims n r s (rect_dims n r a))
    (ranges_ends r.dim (meet_ranges (first_range r) (first_range s)) (meet_ranges (second_range r) (second_range s)) (meet_ranges (third_range r) (third_range s))
    (both_ends (first_range r) (first_range s) (first_step r a.form) (first_ends n r a)) (both_ends (second_range r) (second_range s) (second_step r a.form) (second_ends n r a))
    (both_ends (third_range r) (third_range s) (third_step r a.form) (third_ends n r a)))

-- ---- rectangular domains from points

positive_step : (z : ℤ) → pos 1 ≤ℤ z → 0 < natural z
positive_step (pos n) h = omega (arith, ints)
positive_step (negsuc n) h = absurd (omega (arith, ints))

-- the steps that are used
record Steps (n : ℕ) (step : Point) : Type 0 where
  first : 0 < natural step.x1
  second : 2 ≤ n → 0 < natural step.x2
  third : 3 ≤ n → 0 < natural step.x3

-- the range of a coordinate that may not be used
record IsUsed (n k : ℕ) (r : Range) : Type 0 where
  form : IsTidy r
  none : n < k → r ≡ unused_range
  ends : EndsFit r

used_form : (n k : ℕ) (r : Range) → (k ≤ n → 0 < r.step) → EndsFit r → IsUsed n k (used_range n k r)
used_form n k r s f = by (nat_le k n) refl
  where
    by : (b : Bool) → nat_le k n ≡ b → IsUsed n k (if b then tidy r else unused_range)
    by true z = let h = leb-true k n z in record { form = tidy_tidy r (s h); none = λ l. absurd (omega (arith, h, l)); ends = tidy_ends r (s h) f }
    by false z = record { form = inr (record { steps = 0; reached = refl; forward = omega arith; single = λ z. refl }); none = λ l. refl; ends = unused_ends }

made_form : (n : ℕ) (lo hi step : Point) → IsPointOf n lo → IsPointOf n hi → Steps n step → IsRectOf n (spanned_rect lo hi step)
made_form n lo hi step a b s =
    let x : Range = record { low = lo.x1; high = hi.x1; step = natural step.x1 } in
    let y : Range = record { low = lo.x2; high = hi.x2; step = natural step.x2 } in
    let z : Range = record { low = lo.x3; high = hi.x3; step = natural step.x3 } in
    let second = used_form lo.dim 2 y (λ l. s.second (subst (λ d. 2 ≤ d) a.dim_is l)) (a.coordinates.1, b.coordinates.1) in
    let third = used_form lo.dim 3 z (λ l. s.third (subst (λ d. 3 ≤ d) a.dim_is l)) (a.coordinates.2, b.coordinates.2) in
    let ends = ranges_ends lo.dim (tidy x) (used_range lo.dim 2 y) (used_range lo.dim 3 z) (tidy_ends x s.first (a.coordinates.0, b.coordinates.0)) second.ends third.ends in
    rect_from n (spanned_rect lo hi step) (of_points lo.dim (tidy x) (used_range lo.dim 2 y) (used_range lo.dim 3 z) a.form.dim (tidy_tidy x s.first) second.form third.form second.none third.none).0
    (subst (λ d. HasDims d (spanned_rect lo hi step)) a.dim_is (ranges_dims lo.dim (tidy x) (used_range lo.dim 2 y) (used_range lo.dim 3 z))) ends

from_one : (x : ℤ) → int_le (pos 1) x ≡ true → pos 1 ≤ℤ x
from_one x h = grind (arith, ints)

each_positive : (xs : List ℤ) (k : ℕ) → list_all (int_le (pos 1)) xs ≡ true → k < length xs → 0 < natural (slice_index_or xs k (pos 0))
each_positive [] k h l = absurd (omega (arith, l))
each_positive (x ∷ xs) zero h l = positive_step x (from_one x (and_left (int_le (pos 1) x) (list_all (int_le (pos 1)) xs) h))
each_positive (x ∷ xs) (suc k) h l = each_positive xs k (and_right (int_le (pos 1) x) (list_all (int_le (pos 1)) xs) h) (omega (arith, l))

steps_of : (n : ℕ) (zs : List ℤ) → length zs ≡ n → IsDim n → list_all (int_le (pos 1)) zs ≡ true → Steps n (point_of_numbers zs)
steps_of n zs h d p = subst (λ b. Steps n (if b then record {
  dim = length zs;
  x1 = slice_index_or zs 0 (pos 0);
  x2 = slice_index_or zs 1 (pos 0);
  x3 = slice_index_or zs 2 (pos 0);
} else zero_point 1))
    (sym (dim_is (length zs) (subst IsDim (sym h) d))) (record {
      first = each_positive zs 0 p (let a = d.0 in omega (arith, a, h));
      second = λ l. each_positive zs 1 p (omega (arith, l, h));
      third = λ l. each_positive zs 2 p (omega (arith, l, h));
    })

-- bounds and steps of so many coordinates, of 32 bits
pub record AreOf (n : ℕ) (b : Bounds) : Type 0 where
  pub low : length b.low ≡ n
  pub high : length b.high ≡ n
  pub step : length b.step ≡ n
  pub lows : AllFit b.low
  pub highs : AllFit b.high

pub bounds_form : (n : ℕ) (b : Bounds) → AreOf n b → IsDim n → list_all (int_le (pos 1)) b.step ≡ true → IsRectOf n (rect_of_bounds b)
bounds_form n b h d p =
    let even : is_even b ≡ true = ap₂ (λ x y. x && y) (ap₂ (λ x y. x && y) (dim_is (length b.low) (subst IsDim (sym h.low) d))
    (eq-eqb (length b.high) (length b.low) (h.high ∙ sym h.low))) (eq-eqb (length b.step) (length b.low) (h.step ∙ sym h.low)) in
    subst (λ z. IsRectOf n (if z then spanned_rect (point_of_numbers b.low) (point_of_numbers b.high) (point_of_numbers b.step) else empty_rect 1)) (sym even)
    (made_form n (point_of_numbers b.low) (point_of_numbers b.high) (point_of_numbers b.step) (numbers_point b.low n h.low d h.lows)
    (numbers_point b.high n h.high d h.highs) (steps_of n b.step h.step d p))

-- ---- views

pub suits_is : (how : ViewHow) (n : ℕ) (r : Rect) → SuitsView how n → HasDims n r → suits how r ≡ true
suits_is (Restrict s) n r k d = eq-eqb s.dim r.dim (k.dim_is ∙ sym d.0)
suits_is (Translate by) n r k d = eq-eqb by.dim r.dim (k.dim_is ∙ sym d.0)
suits_is (Slice c j) n r k d = lt-ltb 1 r.dim (subst (λ m. 1 < m) (sym d.0) k.0)

pub is_view : (how : ViewHow) (n : ℕ) → SuitsView how n → IsView how
is_view (Restrict s) n k = k.form
is_view (Translate by) n k = k.form
is_view (Slice c j) n k = tt

view_dims : (how : ViewHow) (n : ℕ) (r : Rect) → HasDims n r → HasDims (dims_viewed how n) (view_domain how r)
view_dims (Restrict s) n r d = meet_dims n r s d
view_dims (Translate by) n r d = moved_dims (is_empty r)
  where
    moved_dims : (b : Bool) → HasDims n (if b then r else of_ranges r.dim (shift_range by.x1 (first_range r)) (shift_range by.x2 (second_range r)) (shift_range by.x3 (third_range r)))
    moved_dims true = d
    moved_dims false = subst (λ k. HasDims k (of_ranges r.dim (shift_range by.x1 (first_range r)) (shift_range by.x2 (second_range r))
        (shift_range by.x3 (third_range r)))) d.0 (ranges_dims r.dim (shift_range by.x1 (first_range r)) (shift_range by.x2 (second_range r))
        (shift_range by.x3 (third_range r)))
view_dims (Slice c j) n r d = subst (λ k. HasDims (k - 1) (without (natural c) r)) d.0 (by (natural c == 1) (natural c == 2))
  where
    by : (a b : Bool) → HasDims (r.dim - 1)
        (if a then of_ranges (r.dim - 1) (second_range r) (third_range r) unused_range else if b then of_ranges (r.dim - 1) (first_range r)
        (third_range r) unused_range else of_ranges (r.dim - 1) (first_range r) (second_range r) unused_range)
    by true b = ranges_dims (r.dim - 1) (second_range r) (third_range r) unused_range
    by false true = ranges_dims (r.dim - 1) (first_range r) (third_range r) unused_range
    by false false = ranges_dims (r.dim - 1) (first_range r) (second_range r) unused_range

coordinate_from : (x : ℤ) → is_coordinate x ≡ true → Fits w32 x
coordinate_from x e =
    let b = both_true (int_le (neg_ℤ (pos (2 ^ 31))) x) (int_lt x (pos (2 ^ 31))) e in
    let f : neg_ℤ (pos (2 ^ 31)) ≤ℤ x = let t = b.0 in grind (arith, ints) in
    let g : x <ℤ pos (2 ^ 31) = let t = b.1 in grind (arith, ints) in
    (f, g)

have_coordinates : (p : Point) → are_coordinates p ≡ true → HasCoordinates p
have_coordinates p e =
    let a = both_true (is_coordinate p.x1 && is_coordinate p.x2) (is_coordinate p.x3) e in
    let b = both_true (is_coordinate p.x1) (is_coordinate p.x2) a.0 in
    (coordinate_from p.x1 b.0, coordinate_from p.x2 b.1, coordinate_from p.x3 a.1)

moved_ends : (r : Rect) (by : Point) → EndsHave r → view_fault (Translate by) r ≡ None → EndsHave (translate_rect r by)
moved_ends r by k z = go (is_empty r) refl
  where
    stays : (b : Bool) → (if b then Some fault.Range else None) ≡ None → b ≡ false
    stays true h = cc
    stays false h = refl

    not_true : (b : Bool) → not b ≡ false → b ≡ true
    not_true true h = refl
    not_true false h = absurd (true_false h)

    go : (e : Bool) → is_empty r ≡ e → EndsHave (if e then r else of_ranges r.dim (shift_range by.x1 (first_range r)) (shift_range by.x2 (second_range r)) (shift_range by.x3 (third_range r)))
    go true h = k
    go false h =
        let l : leaves r by ≡ false = stays (leaves r by) z in
        let meet_ranges : (are_coordinates (translate_point r.lo by) && are_coordinates (translate_point r.hi by)) ≡ true =
        not_true _ (sym (ap (λ b. not b && not (are_coordinates (translate_point r.lo by) && are_coordinates (translate_point r.hi by))) h) ∙ l) in
        let low = have_coordinates (translate_point r.lo by) (and_left (are_coordinates (translate_point r.lo by)) (are_coordinates (translate_point r.hi by)) meet_ranges) in
        let high = have_coordinates (translate_point r.hi by) (and_right (are_coordinates (translate_point r.lo by)) (are_coordinates (translate_point r.hi by)) meet_ranges) in
        ranges_ends r.dim (shift_range by.x1 (first_range r)) (shift_range by.x2 (second_range r)) (shift_range by.x3 (third_range r)) (low.0, high.0) (low.1, high.1) (low.2, high.2)

sliced_ends : (n : ℕ) (r : Rect) (k : ℕ) → IsRectOf n r → EndsHave (without k r)
sliced_ends n r k f = by (k == 1) (k == 2)
  where
    by : (a b : Bool) → EndsHave (if a then of_ranges (r.dim - 1) (second_range r) (third_range r) unused_range else if b then of_ranges
        (r.dim - 1) (first_range r) (third_range r) unused_range else of_ranges (r.dim - 1) (first_range r) (second_range r) unused_range)
    by true b = ranges_ends (r.dim - 1) (second_range r) (third_range r) unused_range (second_ends n r f) (third_ends n r f) unused_ends
    by false true = ranges_ends (r.dim - 1) (first_range r) (third_range r) unused_range (first_ends n r f) (third_ends n r f) unused_ends
    by false false = ranges_ends (r.dim - 1) (first_range r) (second_range r) unused_range (first_ends n r f) (second_ends n r f) unused_ends

view_ends : (how : ViewHow) (n : ℕ) (r : Rect) → IsRectOf n r → SuitsView how n → view_fault how r ≡ None → EndsHave (view_domain how r)
view_ends (Restrict s) n r f k z = let m = meet_form n r s f k in (m.low.coordinates, m.high.coordinates)
view_ends (Translate by) n r f k z = moved_ends r by (f.low.coordinates, f.high.coordinates) z
view_ends (Slice c j) n r f k z = sliced_ends n r (natural c) f

-- the domain of a view that there is
pub view_form : (how : ViewHow) (n : ℕ) (r : Rect) → IsRectOf n r → SuitsView how n → view_fault how r ≡ None → IsRectOf (dims_viewed how n) (view_domain how r)
view_form how n r f k z =
    rect_from (dims_viewed how n) (view_domain how r) (view_inside how r f.form (is_view how n k)
    (suits_is how n r k (rect_dims n r f)) z).0 (view_dims how n r (rect_dims n r f)) (view_ends how n r f k z)
