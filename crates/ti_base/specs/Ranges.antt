-- Strided ranges of integers.
use Rattle.std.specs.Prelude.{◌≡◌, ◌⊎◌, ℕ, zero, suc, ◌*◌, ◌/◌, ◌<◌, Bool, ◌&&◌, ◌==◌, ℤ, pos, negsuc, ◌+ℤ◌, ◌-ℤ◌, ◌≤ℤ◌, ◌<ℤ◌, int_lt, int_le, List, [], ◌∷◌, filter}
use Rattle.ti_base.specs.WholeNumbers.{modulo}

pub record Range : Type 0 where
  pub low : ℤ
  pub high : ℤ
  pub step : ℕ

-- x is on the range: it is the low end plus a multiple of the step, and at most the high end
pub record IsOn (r : Range) (x : ℤ) : Type 0 where
  pub steps : ℕ
  pub reached : x ≡ r.low +ℤ pos (steps * r.step)
  pub within : x ≤ℤ r.high

-- the decidable test of IsOn, for a step of at least 1
abbrev pub is_on : Range → ℤ → Bool
is_on r x = int_le r.low x && int_le x r.high && modulo (x -ℤ r.low) r.step == 0

-- the number, or 0 if it is negative
abbrev pub natural : ℤ → ℕ
natural (pos n) = n
natural (negsuc n) = 0

-- the number of integers on the range, for a step of at least 1
abbrev pub count_on : Range → ℕ
count_on r = natural ((r.high -ℤ r.low) +ℤ pos r.step) / r.step

-- n integers from `low` on, by steps
abbrev pub numbers_from : ℤ → ℕ → ℕ → List ℤ
numbers_from low step zero = []
numbers_from low step (suc n) = low ∷ numbers_from (low +ℤ pos step) step n

-- the integers on the range, in increasing order
abbrev pub numbers_on : Range → List ℤ
numbers_on r = numbers_from r.low r.step (count_on r)

-- ---- canonical ranges

-- a canonical range: its high end is on it, and its step is 1 if it has only one integer
pub record IsRange (r : Range) : Type 0 where
  pub steps : ℕ
  pub reached : r.high ≡ r.low +ℤ pos (steps * r.step)
  pub forward : 0 < r.step
  pub single : steps ≡ 0 → r.step ≡ 1

-- the empty range
abbrev pub no_range : Range
no_range = record { low = pos 1; high = pos 0; step = 1 }

-- the range of a coordinate that isn't used: just 0
abbrev pub unused_range : Range
unused_range = record { low = pos 0; high = pos 0; step = 1 }

abbrev pub last_of : ℤ → List ℤ → ℤ
last_of x [] = x
last_of x (y ∷ rest) = last_of y rest

-- the canonical range of integers that increase by equal steps
abbrev pub range_of : List ℤ → Range
range_of [] = no_range
range_of (x ∷ []) = record { low = x; high = x; step = 1 }
range_of (x ∷ y ∷ rest) = record { low = x; high = last_of y rest; step = natural (y -ℤ x) }

abbrev pub is_empty_range : Range → Bool
is_empty_range r = int_lt r.high r.low

-- the canonical range of the same integers
abbrev pub tidy : Range → Range
tidy r = range_of (numbers_on r)

-- the intersection of two ranges
abbrev pub meet_ranges : Range → Range → Range
meet_ranges r s = range_of (filter (is_on s) (numbers_on r))

-- the range shifted by x
abbrev pub shift_range : ℤ → Range → Range
shift_range x r = record r { low = r.low +ℤ x; high = r.high +ℤ x }

-- a range that is canonical or empty
abbrev pub IsTidy : Range → Type 0
IsTidy r = (r.high <ℤ r.low) ⊎ IsRange r

-- y is the least integer of the range above x
pub record IsNextOn (r : Range) (x y : ℤ) : Type 0 where
  pub on : IsOn r y
  pub above : x <ℤ y
  pub first : (z : ℤ) → IsOn r z → x <ℤ z → y ≤ℤ z
