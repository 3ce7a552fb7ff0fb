-- The entries of two runs.
use Rattle.std.specs.Prelude.{ℕ, ℤ, pos, List, [], ◌∷◌, None, Some}
use Rattle.ti_base.specs.declared.place.Place.{Place}
use Rattle.ti_base.specs.declared.point.Point.{Point}
use Rattle.ti_base.specs.declared.point.Rect.{Rect}
use Rattle.ti_base.specs.declared.value.Id.{Id}
use Rattle.ti_base.specs.declared.value.Value.TheVariants as v
use Rattle.ti_base.specs.declared.value.Zero.TheVariants as z
use Rattle.ti_base.specs.declared.action.Action.{Action}
use Rattle.ti_base.specs.declared.action.Action.TheVariants as act
use Rattle.ti_base.specs.declared.action.CollKind.TheVariants as coll
use Rattle.ti_base.specs.declared.action.Deposit.TheVariants as deposit
use Rattle.ti_base.specs.declared.entry.Answer.{Answer}
use Rattle.ti_base.specs.declared.entry.Answer.TheVariants.{Done, Val}
use Rattle.ti_base.specs.declared.entry.Entry.{Entry}
use Rattle.ti_rows.specs.Texts.{pl}

-- an entry of a process
abbrev pub entry : ℕ → Place → Action → Answer → Entry
entry i at a r = record { proc = i; place = at; act = a; answer = r }

-- an object or grid in the memory of its maker, in a region
abbrev pub thing : ℕ → ℕ → ℕ → Id
thing i serial region = record { maker = i; serial = serial; owner = i; region = region }

-- a point of one coordinate
abbrev point_on_line : ℤ → Point
point_on_line x = record { dim = 1; x1 = x; x2 = pos 0; x3 = pos 0 }

-- the domain from 0 to a number
abbrev range_to : ℤ → Rect
range_to high = record { dim = 1; lo = point_on_line (pos 0); hi = point_on_line high; step = 1 ∷ 1 ∷ 1 ∷ [] }

-- the run of a program with grids, an exchange and a barrier, with two processes
abbrev pub grids_are_exchanged : List Entry
grids_are_exchanged =
    entry 0 (pl 5 27) (act.NewGrid z.Int (range_to (pos 7)) 0) (Val (v.Grid (Some (thing 0 0 0)))) ∷
    entry 0 (pl 6 24) (act.DomainOf (thing 0 0 0)) (Val (v.Rc (range_to (pos 7)))) ∷
    entry 0 (pl 7 15) (act.PutElem (thing 0 0 0) (point_on_line (pos 0)) (v.Int (pos 0))) Done ∷
    entry 0 (pl 7 15) (act.PutElem (thing 0 0 0) (point_on_line (pos 1)) (v.Int (pos 1))) Done ∷
    entry 0 (pl 7 15) (act.PutElem (thing 0 0 0) (point_on_line (pos 2)) (v.Int (pos 2))) Done ∷
    entry 0 (pl 7 15) (act.PutElem (thing 0 0 0) (point_on_line (pos 3)) (v.Int (pos 3))) Done ∷
    entry 0 (pl 7 15) (act.PutElem (thing 0 0 0) (point_on_line (pos 4)) (v.Int (pos 4))) Done ∷
    entry 0 (pl 7 15) (act.PutElem (thing 0 0 0) (point_on_line (pos 5)) (v.Int (pos 5))) Done ∷
    entry 0 (pl 7 15) (act.PutElem (thing 0 0 0) (point_on_line (pos 6)) (v.Int (pos 6))) Done ∷
    entry 0 (pl 7 15) (act.PutElem (thing 0 0 0) (point_on_line (pos 7)) (v.Int (pos 7))) Done ∷
    entry 0 (pl 9 25) (act.NewGrid z.Grid (range_to (pos 1)) 0) (Val (v.Grid (Some (thing 0 1 0)))) ∷
    entry 0 (pl 10 9) (act.DomainOf (thing 0 1 0)) (Val (v.Rc (range_to (pos 1)))) ∷
    entry 0 (pl 10 9) (act.Arrive coll.Exchange None (deposit.One (v.Grid (Some (thing 0 0 0))))) Done ∷
    entry 1 (pl 5 27) (act.NewGrid z.Int (range_to (pos 7)) 0) (Val (v.Grid (Some (thing 1 0 0)))) ∷
    entry 1 (pl 6 24) (act.DomainOf (thing 1 0 0)) (Val (v.Rc (range_to (pos 7)))) ∷
    entry 1 (pl 7 15) (act.PutElem (thing 1 0 0) (point_on_line (pos 0)) (v.Int (pos 8))) Done ∷
    entry 1 (pl 7 15) (act.PutElem (thing 1 0 0) (point_on_line (pos 1)) (v.Int (pos 9))) Done ∷
    entry 1 (pl 7 15) (act.PutElem (thing 1 0 0) (point_on_line (pos 2)) (v.Int (pos 10))) Done ∷
    entry 1 (pl 7 15) (act.PutElem (thing 1 0 0) (point_on_line (pos 3)) (v.Int (pos 11))) Done ∷
    entry 1 (pl 7 15) (act.PutElem (thing 1 0 0) (point_on_line (pos 4)) (v.Int (pos 12))) Done ∷
    entry 1 (pl 7 15) (act.PutElem (thing 1 0 0) (point_on_line (pos 5)) (v.Int (pos 13))) Done ∷
    entry 1 (pl 7 15) (act.PutElem (thing 1 0 0) (point_on_line (pos 6)) (v.Int (pos 14))) Done ∷
    entry 1 (pl 7 15) (act.PutElem (thing 1 0 0) (point_on_line (pos 7)) (v.Int (pos 15))) Done ∷
    entry 1 (pl 9 25) (act.NewGrid z.Grid (range_to (pos 1)) 0) (Val (v.Grid (Some (thing 1 1 0)))) ∷
    entry 1 (pl 10 9) (act.DomainOf (thing 1 1 0)) (Val (v.Rc (range_to (pos 1)))) ∷
    entry 1 (pl 10 9) (act.Arrive coll.Exchange None (deposit.One (v.Grid (Some (thing 1 0 0))))) Done ∷
    entry 0 (pl 10 9) (act.Depart) Done ∷
    entry 0 (pl 10 9) (act.Take 0) (Val (v.Grid (Some (thing 0 0 0)))) ∷
    entry 0 (pl 10 9) (act.PutElem (thing 0 1 0) (point_on_line (pos 0)) (v.Grid (Some (thing 0 0 0)))) Done ∷
    entry 0 (pl 10 9) (act.Take 1) (Val (v.Grid (Some (thing 1 0 0)))) ∷
    entry 0 (pl 10 9) (act.PutElem (thing 0 1 0) (point_on_line (pos 1)) (v.Grid (Some (thing 1 0 0)))) Done ∷
    entry 0 (pl 11 8) (act.Arrive coll.Barrier None deposit.Nothing) Done ∷
    entry 1 (pl 10 9) (act.Depart) Done ∷
    entry 1 (pl 10 9) (act.Take 0) (Val (v.Grid (Some (thing 0 0 0)))) ∷
    entry 1 (pl 10 9) (act.PutElem (thing 1 1 0) (point_on_line (pos 0)) (v.Grid (Some (thing 0 0 0)))) Done ∷
    entry 1 (pl 10 9) (act.Take 1) (Val (v.Grid (Some (thing 1 0 0)))) ∷
    entry 1 (pl 10 9) (act.PutElem (thing 1 1 0) (point_on_line (pos 1)) (v.Grid (Some (thing 1 0 0)))) Done ∷
    entry 1 (pl 11 8) (act.Arrive coll.Barrier None deposit.Nothing) Done ∷
    entry 0 (pl 11 8) (act.Depart) Done ∷
    entry 0 (pl 15 28) (act.GetElem (thing 0 1 0) (point_on_line (pos 0))) (Val (v.Grid (Some (thing 0 0 0)))) ∷
    entry 0 (pl 16 28) (act.DomainOf (thing 0 0 0)) (Val (v.Rc (range_to (pos 7)))) ∷
    entry 0 (pl 17 24) (act.GetElem (thing 0 0 0) (point_on_line (pos 0))) (Val (v.Int (pos 0))) ∷
    entry 0 (pl 17 24) (act.GetElem (thing 0 0 0) (point_on_line (pos 1))) (Val (v.Int (pos 1))) ∷
    entry 0 (pl 17 24) (act.GetElem (thing 0 0 0) (point_on_line (pos 2))) (Val (v.Int (pos 2))) ∷
    entry 0 (pl 17 24) (act.GetElem (thing 0 0 0) (point_on_line (pos 3))) (Val (v.Int (pos 3))) ∷
    entry 0 (pl 17 24) (act.GetElem (thing 0 0 0) (point_on_line (pos 4))) (Val (v.Int (pos 4))) ∷
    entry 0 (pl 17 24) (act.GetElem (thing 0 0 0) (point_on_line (pos 5))) (Val (v.Int (pos 5))) ∷
    entry 0 (pl 17 24) (act.GetElem (thing 0 0 0) (point_on_line (pos 6))) (Val (v.Int (pos 6))) ∷
    entry 0 (pl 17 24) (act.GetElem (thing 0 0 0) (point_on_line (pos 7))) (Val (v.Int (pos 7))) ∷
    entry 0 (pl 15 28) (act.GetElem (thing 0 1 0) (point_on_line (pos 1))) (Val (v.Grid (Some (thing 1 0 0)))) ∷
    entry 0 (pl 16 28) (act.DomainOf (thing 1 0 0)) (Val (v.Rc (range_to (pos 7)))) ∷
    entry 0 (pl 17 24) (act.GetElem (thing 1 0 0) (point_on_line (pos 0))) (Val (v.Int (pos 8))) ∷
    entry 0 (pl 17 24) (act.GetElem (thing 1 0 0) (point_on_line (pos 1))) (Val (v.Int (pos 9))) ∷
    entry 0 (pl 17 24) (act.GetElem (thing 1 0 0) (point_on_line (pos 2))) (Val (v.Int (pos 10))) ∷
    entry 0 (pl 17 24) (act.GetElem (thing 1 0 0) (point_on_line (pos 3))) (Val (v.Int (pos 11))) ∷
    entry 0 (pl 17 24) (act.GetElem (thing 1 0 0) (point_on_line (pos 4))) (Val (v.Int (pos 12))) ∷
    entry 0 (pl 17 24) (act.GetElem (thing 1 0 0) (point_on_line (pos 5))) (Val (v.Int (pos 13))) ∷
    entry 0 (pl 17 24) (act.GetElem (thing 1 0 0) (point_on_line (pos 6))) (Val (v.Int (pos 14))) ∷
    entry 0 (pl 17 24) (act.GetElem (thing 1 0 0) (point_on_line (pos 7))) (Val (v.Int (pos 15))) ∷
    entry 0 (pl 20 18) (act.Print (Some 0) (Some (v.Int (pos 120)))) Done ∷
    entry 0 (pl 22 3) (act.End) Done ∷
    entry 1 (pl 11 8) (act.Depart) Done ∷
    entry 1 (pl 22 3) (act.End) Done ∷
    []

-- the run of a program that makes a region, places an object in it, and deletes it, with two processes
abbrev pub a_region_is_deleted : List Entry
a_region_is_deleted =
    entry 0 (pl 1 105) (act.Arrive coll.MakeRegion None deposit.Nothing) Done ∷
    entry 1 (pl 1 105) (act.Arrive coll.MakeRegion None deposit.Nothing) Done ∷
    entry 0 (pl 1 105) (act.Depart) (Val (v.Region 1)) ∷
    entry 0 (pl 1 156) (act.NewObj 0 1) (Val (v.Obj (Some (thing 0 0 1)))) ∷
    entry 0 (pl 1 173) (act.PutField (thing 0 0 1) 0 (v.Int (pos 0))) Done ∷
    entry 0 (pl 1 200) (act.GetField (thing 0 0 1) 0) (Val (v.Int (pos 0))) ∷
    entry 0 (pl 1 190) (act.Print None (Some (v.Int (pos 0)))) Done ∷
    entry 0 (pl 1 208) (act.Arrive coll.DeleteRegion (Some 1) (deposit.Count 0)) Done ∷
    entry 1 (pl 1 105) (act.Depart) (Val (v.Region 1)) ∷
    entry 1 (pl 1 156) (act.NewObj 0 1) (Val (v.Obj (Some (thing 1 0 1)))) ∷
    entry 1 (pl 1 173) (act.PutField (thing 1 0 1) 0 (v.Int (pos 1))) Done ∷
    entry 1 (pl 1 200) (act.GetField (thing 1 0 1) 0) (Val (v.Int (pos 1))) ∷
    entry 1 (pl 1 190) (act.Print None (Some (v.Int (pos 1)))) Done ∷
    entry 1 (pl 1 208) (act.Arrive coll.DeleteRegion (Some 1) (deposit.Count 0)) Done ∷
    entry 0 (pl 1 208) (act.Depart) Done ∷
    entry 0 (pl 1 218) (act.Print None (Some (v.Int (pos 9)))) Done ∷
    entry 0 (pl 1 230) (act.End) Done ∷
    entry 1 (pl 1 208) (act.Depart) Done ∷
    entry 1 (pl 1 218) (act.Print None (Some (v.Int (pos 9)))) Done ∷
    entry 1 (pl 1 230) (act.End) Done ∷
    []
