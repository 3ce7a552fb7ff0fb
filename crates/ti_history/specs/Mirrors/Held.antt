-- What the columns hold, and whether they have capacity for one more entry.
use Rattle.std.specs.Prelude.{◌≡◌, ℕ, ◌+◌, ◌≤◌, Bool, ◌&&◌, nat_le, vec_len, vec_capacity, Vec}
use Rattle.ti_history.specs.declared.columns.Columns.{Columns}
use Rattle.ti_history.specs.declared.reading.Rest.{Rest}
use Rattle.ti_history.specs.Mirrors.Packing.{Lists}
use Rattle.ti_history.specs.Mirrors.Reading.{IsPacked}

abbrev pub lists_left : Rest → Lists
lists_left r = record {
  things = r.things.now;
  fields = r.fields.now;
  integers = r.integers.now;
  longs = r.longs.now;
  values = r.values.now;
  whole = r.whole.now;
}

abbrev pub lists_in : Columns → Lists
lists_in c = record {
  things = c.things.items;
  fields = c.fields.items;
  integers = c.integers.items;
  longs = c.longs.items;
  values = c.values.items;
  whole = c.whole.items;
}

-- a vector has capacity for n more elements
abbrev pub Fits : {X Z : Type 0} → Vec X Z → ℕ → Type 0
Fits v n = vec_len v + n ≤ vec_capacity v

abbrev pub has_room : {X Z : Type 0} → Vec X Z → ℕ → Bool
has_room v n = nat_le (vec_len v + n) (vec_capacity v)

-- the columns have capacity for one more value
pub record FitsValue (c : Columns) : Type 0 where
  pub things : Fits c.things 1
  pub integers : Fits c.integers 1
  pub longs : Fits c.longs 1
  pub values : Fits c.values 1

-- the columns have capacity for one more entry of any kind
pub record FitsEntry (c : Columns) : Type 0 where
  pub things : Fits c.things 2
  pub fields : Fits c.fields 1
  pub integers : Fits c.integers 4
  pub longs : Fits c.longs 1
  pub values : Fits c.values 2
  pub whole : Fits c.whole 1

-- the same as a truth value
abbrev pub fits_entry : Columns → Bool
fits_entry c =
    has_room c.things 2 && (has_room c.fields 1 && (has_room c.integers 4 && (has_room c.longs 1 && (has_room c.values 2 && has_room c.whole 1))))
