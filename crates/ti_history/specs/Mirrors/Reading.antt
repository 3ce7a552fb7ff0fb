-- How the entries are read back from their heads and the columns.
use Rattle.std.specs.Prelude.{◌≡◌, ℕ, ◌+◌, ◌-◌, true, false, ℤ, pos, List, [], ◌∷◌, map, length, take, drop, slice_index_or, Some, None}
use Rattle.ti_base.specs.declared.action.Action.{Action}
use Rattle.ti_base.specs.declared.action.Action.TheVariants as a
use Rattle.ti_base.specs.declared.entry.Answer.{Answer}
use Rattle.ti_base.specs.declared.entry.Answer.TheVariants.{Done, Val}
use Rattle.ti_base.specs.declared.entry.Entry.{Entry}
use Rattle.ti_base.specs.declared.point.Point.{Point}
use Rattle.ti_base.specs.declared.value.Id.{Id}
use Rattle.ti_base.specs.declared.value.Value.{Value}
use Rattle.ti_base.specs.declared.value.Value.TheVariants as v
use Rattle.ti_history.specs.declared.counts.Counts.{Counts}
use Rattle.ti_history.specs.declared.head.Form.{Form}
use Rattle.ti_history.specs.declared.head.Form.TheVariants as f
use Rattle.ti_history.specs.declared.head.PointForm.{PointForm}
use Rattle.ti_history.specs.declared.head.PointForm.TheVariants as p
use Rattle.ti_history.specs.declared.head.ValueForm.{ValueForm}
use Rattle.ti_history.specs.declared.head.ValueForm.TheVariants as w
use Rattle.ti_history.specs.declared.head.Head.{Head}
use Rattle.ti_history.specs.Mirrors.Packing.{Lists, head_of, all_lists}

-- ---- one entry

-- what stands where a column has too little, which the invariant rules out
abbrev pub no_id : Id
no_id = record { maker = 0; serial = 0; owner = 0; region = 0 }

abbrev pub no_value : Value
no_value = v.Int (pos 0)

-- the value at the beginning of the columns
abbrev pub value_from : ValueForm → Lists → Value
value_from w.Absent c = no_value
value_from w.Int c = v.Int (slice_index_or c.integers 0 (pos 0))
value_from w.Long c = v.Long (slice_index_or c.longs 0 (pos 0))
value_from w.False c = v.Bool false
value_from w.True c = v.Bool true
value_from w.NullObject c = v.Obj None
value_from w.Object c = v.Obj (Some (slice_index_or c.things 0 no_id))
value_from w.NullGrid c = v.Grid None
value_from w.Grid c = v.Grid (Some (slice_index_or c.things 0 no_id))
value_from w.Other c = slice_index_or c.values 0 no_value

abbrev pub no_point : Point
no_point = record { dim = 0; x1 = pos 0; x2 = pos 0; x3 = pos 0 }

abbrev pub point_in_value : Value → Point
point_in_value (v.Pt at) = at
point_in_value value = no_point

abbrev pub coordinate : List ℤ → ℕ → ℤ
coordinate integers i = slice_index_or integers i (pos 0)

abbrev pub point_from : PointForm → List ℤ → List Value → Point
point_from p.Absent integers values = no_point
point_from p.One integers values = record { dim = 1; x1 = coordinate integers 0; x2 = pos 0; x3 = pos 0 }
point_from p.Two integers values = record { dim = 2; x1 = coordinate integers 0; x2 = coordinate integers 1; x3 = pos 0 }
point_from p.Three integers values =
    record { dim = 3; x1 = coordinate integers 0; x2 = coordinate integers 1; x3 = coordinate integers 2 }
point_from p.Other integers values = point_in_value (slice_index_or values 0 no_value)

abbrev pub coordinates : PointForm → ℕ
coordinates p.Absent = 0
coordinates p.One = 1
coordinates p.Two = 2
coordinates p.Three = 3
coordinates p.Other = 0

abbrev pub point_values : PointForm → ℕ
point_values p.Absent = 0
point_values p.One = 0
point_values p.Two = 0
point_values p.Three = 0
point_values p.Other = 1

-- ---- how much it added

abbrev pub no_counts : Counts
no_counts = record { things = 0; fields = 0; integers = 0; longs = 0; values = 0; whole = 0 }

abbrev pub value_counts : ValueForm → Counts
value_counts w.Absent = no_counts
value_counts w.Int = record no_counts { integers = 1 }
value_counts w.Long = record no_counts { longs = 1 }
value_counts w.False = no_counts
value_counts w.True = no_counts
value_counts w.NullObject = no_counts
value_counts w.Object = record no_counts { things = 1 }
value_counts w.NullGrid = no_counts
value_counts w.Grid = record no_counts { things = 1 }
value_counts w.Other = record no_counts { values = 1 }

abbrev pub cell_counts : Form → PointForm → Counts
cell_counts f.Whole point = record no_counts { whole = 1 }
cell_counts f.GetField point = record no_counts { things = 1; fields = 1 }
cell_counts f.PutField point = record no_counts { things = 1; fields = 1 }
cell_counts f.GetElem point = record no_counts { things = 1; integers = coordinates point; values = point_values point }
cell_counts f.PutElem point = record no_counts { things = 1; integers = coordinates point; values = point_values point }

abbrev pub less : Counts → Counts → Counts
less a b = record {
  things = a.things - b.things;
  fields = a.fields - b.fields;
  integers = a.integers - b.integers;
  longs = a.longs - b.longs;
  values = a.values - b.values;
  whole = a.whole - b.whole;
}

-- what is left of the counts without what the entry with this head added
abbrev pub without_entry : Counts → Head → Counts
without_entry counts h = less (less counts (cell_counts h.form h.point)) (value_counts h.value)

-- and without what the entries with these heads added
abbrev pub without_entries : Counts → List Head → Counts
without_entries counts [] = counts
without_entries counts (h ∷ heads) = without_entries (without_entry counts h) heads

abbrev pub lengths : Lists → Counts
lengths c = record {
  things = length c.things;
  fields = length c.fields;
  integers = length c.integers;
  longs = length c.longs;
  values = length c.values;
  whole = length c.whole;
}

abbrev pub without_first : Counts → Lists → Lists
without_first n c = record {
  things = drop n.things c.things;
  fields = drop n.fields c.fields;
  integers = drop n.integers c.integers;
  longs = drop n.longs c.longs;
  values = drop n.values c.values;
  whole = drop n.whole c.whole;
}

abbrev pub firsts : Counts → Lists → Lists
firsts n c = record {
  things = take n.things c.things;
  fields = take n.fields c.fields;
  integers = take n.integers c.integers;
  longs = take n.longs c.longs;
  values = take n.values c.values;
  whole = take n.whole c.whole;
}

-- ---- the entry at the beginning of the columns

abbrev pub event_of : Head → Action → Answer → Entry
event_of h act answer = record { proc = h.proc; place = h.place; act = act; answer = answer }

abbrev pub entry_by : Form → Head → Id → ℕ → Point → Value → Entry → Entry
entry_by f.Whole h thing field at value whole = whole
entry_by f.GetField h thing field at value whole = event_of h (a.GetField thing field) (Val value)
entry_by f.PutField h thing field at value whole = event_of h (a.PutField thing field value) Done
entry_by f.GetElem h thing field at value whole = event_of h (a.GetElem thing at) (Val value)
entry_by f.PutElem h thing field at value whole = event_of h (a.PutElem thing at value) Done

-- the entry with this head
abbrev pub entry_of : Head → Lists → Entry
entry_of h c =
    entry_by h.form h (slice_index_or c.things 0 no_id) (slice_index_or c.fields 0 0) (point_from h.point c.integers c.values)
    (value_from h.value (without_first (cell_counts h.form h.point) c)) (slice_index_or c.whole 0 (event_of h a.Depart Done))

-- what is left of the columns behind the entry with this head
abbrev pub behind : Head → Lists → Lists
behind h c = without_first (value_counts h.value) (without_first (cell_counts h.form h.point) c)

-- ---- all entries

-- the entries with these heads, one after the other from the columns
abbrev pub entries_in : List Head → Lists → List Entry
entries_in [] c = []
entries_in (h ∷ heads) c = entry_of h c ∷ entries_in heads (behind h c)

-- the heads and the columns are those of the entries that they show
pub record IsPacked (heads : List Head) (c : Lists) : Type 0 where
  pub heads_are : heads ≡ map head_of (entries_in heads c)
  pub lists_are : c ≡ all_lists (entries_in heads c)
