-- Entries that are no run, for which facts of runs fail.
use Rattle.std.specs.Prelude.{ℕ, ℤ, pos, List, [], ◌∷◌, ◌++◌, None, Some}
use Rattle.ti_base.specs.declared.fault.FaultKind.TheVariants.{Fuel}
use Rattle.ti_base.specs.declared.value.Value.TheVariants as v
use Rattle.ti_base.specs.declared.value.Zero.TheVariants as z
use Rattle.ti_base.specs.declared.action.Action.TheVariants as act
use Rattle.ti_base.specs.declared.action.CollKind.TheVariants as coll
use Rattle.ti_base.specs.declared.action.Deposit.TheVariants as deposit
use Rattle.ti_base.specs.declared.action.ViewHow.TheVariants.{Translate}
use Rattle.ti_base.specs.declared.entry.Answer.TheVariants.{Done, Val}
use Rattle.ti_base.specs.declared.entry.Entry.{Entry}
use Rattle.ti_rows.specs.Texts.{pl}
use Rattle.ti_rows.specs.Histories.{entry, thing}
use Rattle.ti_rows.specs.Refuted.Sets.{evens, on_line}

-- instead of arriving at a barrier, a process prints
abbrev pub no_arrival : List Entry
no_arrival = entry 0 (pl 1 65) (act.Print None None) Done ∷ []

-- the object that is made has a name of 33 bits
abbrev pub a_name_too_large : List Entry
a_name_too_large = entry 0 (pl 1 87) (act.NewObj 0 0) (Val (v.Obj (Some (thing 0 4294967296 0)))) ∷ []

-- the object that is made is in a region that nobody made
abbrev pub no_region : List Entry
no_region = entry 0 (pl 1 87) (act.NewObj 0 1) (Val (v.Obj (Some (thing 0 0 1)))) ∷ []

-- a field is written of an object that nobody made
abbrev pub no_object : List Entry
no_object = entry 0 (pl 1 100) (act.PutField (thing 0 0 0) 0 (v.Int (pos 1))) Done ∷ []

-- an object is made
abbrev pub an_object : List Entry
an_object = entry 0 (pl 1 87) (act.NewObj 0 0) (Val (v.Obj (Some (thing 0 0 0)))) ∷ []

-- a one-dimensional point is read that has a second coordinate
abbrev pub a_second_coordinate : List Entry
a_second_coordinate =
    entry 0 (pl 1 92) (act.NewObj 0 0) (Val (v.Obj (Some (thing 0 0 0)))) ∷
    entry 0 (pl 1 109) (act.GetField (thing 0 0 0) 0) (Val (v.Pt (record { dim = 1; x1 = pos 0; x2 = pos 3; x3 = pos 0 }))) ∷
    []

-- ---- of runs

-- a process ends instead of arriving at a barrier
abbrev pub an_end_too_early : List Entry
an_end_too_early = entry 0 (pl 1 75) act.End Done ∷ []

-- process 1 arrives before process 0, which could have arrived
abbrev pub the_second_first : List Entry
the_second_first = entry 1 (pl 1 65) (act.Arrive coll.Barrier None deposit.Nothing) Done ∷ []

-- a field is read with a value that nobody wrote
abbrev pub a_wrong_answer : List Entry
a_wrong_answer =
    entry 0 (pl 1 87) (act.NewObj 0 0) (Val (v.Obj (Some (thing 0 0 0)))) ∷
    entry 0 (pl 1 118) (act.GetField (thing 0 0 0) 0) (Val (v.Int (pos 1))) ∷
    []

-- one object is made twice
abbrev pub a_thing_made_twice : List Entry
a_thing_made_twice =
    entry 0 (pl 1 87) (act.NewObj 0 0) (Val (v.Obj (Some (thing 0 0 0)))) ∷
    entry 0 (pl 1 87) (act.NewObj 0 0) (Val (v.Obj (Some (thing 0 0 0)))) ∷
    []

-- process 0 leaves a barrier at which process 1 hasn't arrived
abbrev pub a_departure_too_early : List Entry
a_departure_too_early =
    entry 0 (pl 1 65) (act.Arrive coll.Barrier None deposit.Nothing) Done ∷
    entry 0 (pl 1 65) act.Depart Done ∷
    []

-- process 1 arrives after a fault
abbrev pub an_entry_behind_a_fault : List Entry
an_entry_behind_a_fault =
    entry 0 (pl 1 65) (act.Fault Fuel) Done ∷
    entry 1 (pl 1 65) (act.Arrive coll.Barrier None deposit.Nothing) Done ∷
    []

-- a process arrives at a barrier after it ended
abbrev pub an_arrival_behind_an_end : List Entry
an_arrival_behind_an_end =
    entry 0 (pl 1 75) act.End Done ∷
    entry 0 (pl 1 65) (act.Arrive coll.Barrier None deposit.Nothing) Done ∷
    []

-- process 0 arrives
abbrev pub an_arrival : List Entry
an_arrival = entry 0 (pl 1 65) (act.Arrive coll.Barrier None deposit.Nothing) Done ∷ []

-- ---- of heaps

-- an object is made, and a field of it is written
abbrev pub an_object_is_written : List Entry
an_object_is_written =
    entry 0 (pl 1 87) (act.NewObj 0 0) (Val (v.Obj (Some (thing 0 0 0)))) ∷
    entry 0 (pl 1 100) (act.PutField (thing 0 0 0) 0 (v.Int (pos 1))) Done ∷
    []

-- a grid is made
abbrev pub a_grid : List Entry
a_grid = entry 0 (pl 1 62) (act.NewGrid z.Int evens 0) (Val (v.Grid (Some (thing 0 0 0)))) ∷ []

-- ---- of races

-- a process reads the object's field
abbrev pub read_by : ℕ → Entry
read_by i = entry i (pl 1 118) (act.GetField (thing 0 0 0) 0) (Val (v.Int (pos 1)))

-- process 0 writes the field, and a process reads it
abbrev pub written_and_read_by : ℕ → List Entry
written_and_read_by i = an_object_is_written ++ read_by i ∷ []

-- two processes read the field, and nobody writes it
abbrev pub read_by_both : List Entry
read_by_both = an_object ++ read_by 0 ∷ read_by 1 ∷ []

-- process 0 writes the field, both processes pass a barrier, and process 1 reads it
abbrev pub read_after_a_barrier : List Entry
read_after_a_barrier =
    an_object_is_written ++ entry 0 (pl 1 110) (act.Arrive coll.Barrier None deposit.Nothing) Done ∷
    entry 1 (pl 1 110) (act.Arrive coll.Barrier None deposit.Nothing) Done ∷
    entry 0 (pl 1 110) act.Depart Done ∷
    entry 1 (pl 1 110) act.Depart Done ∷
    read_by 1 ∷
    []

-- process 0 writes the element at 2 of a grid, and process 1 one of a view of it, whose points are shifted by 1
abbrev pub written_through_a_view : ℤ → List Entry
written_through_a_view at =
    a_grid ++ entry 0 (pl 1 80) (act.MakeView (thing 0 0 0) (Translate (on_line (pos 1)))) (Val (v.Grid (Some (thing 0 1 0)))) ∷
    entry 0 (pl 1 100) (act.PutElem (thing 0 0 0) (on_line (pos 2)) (v.Int (pos 1))) Done ∷
    entry 1 (pl 1 120) (act.PutElem (thing 0 1 0) (on_line at) (v.Int (pos 1))) Done ∷
    []

-- process 0 writes a field of an object, which is then made again under the same name, and process 1 reads the field
abbrev pub read_of_another_making : List Entry
read_of_another_making = an_object_is_written ++ an_object ++ read_by 1 ∷ []

-- two processes write an element of a grid that nobody made
abbrev pub a_grid_of_nobody : List Entry
a_grid_of_nobody =
    entry 0 (pl 1 80) (act.PutElem (thing 0 0 0) (on_line (pos 2)) (v.Int (pos 1))) Done ∷
    entry 1 (pl 1 80) (act.PutElem (thing 0 0 0) (on_line (pos 2)) (v.Int (pos 1))) Done ∷
    []

-- two processes end without doing anything else
abbrev pub two_ends : List Entry
two_ends = entry 0 (pl 1 74) act.End Done ∷ entry 1 (pl 1 74) act.End Done ∷ []
