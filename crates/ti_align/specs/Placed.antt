-- The regions that names and actions of a run refer to: each is none (0), or one that was made.
use Rattle.std.specs.Prelude.{◌≡◌, ◌<◌, ℕ, true, List, Option, Some, None}
use Rattle.ti_base.specs.declared.place.Place.{Place}
use Rattle.ti_base.specs.declared.value.Id.{Id}
use Rattle.ti_base.specs.declared.action.Action.{Action}
use Rattle.ti_base.specs.declared.action.Action.TheVariants as act
use Rattle.ti_base.specs.declared.entry.Entry.{Entry}
use Rattle.ti_base.specs.declared.entry.Next.TheVariants as next
use Rattle.ti_base.specs.Cells.{Grid}
use Rattle.ti_lang.specs.Meaning.Processes.{RunConfig, Process}
use Rattle.ti_lang.specs.Meaning.NextStep.{IsNext}
use Rattle.ti_lang.specs.Meaning.Histories.{history_of}
use Rattle.ti_lang.specs.Meaning.RegionsOf.{is_place}
use Rattle.ti_lang.specs.Meaning.HeapOf.{class_of_object, grid_of_id}
use Rattle.ti_lang.specs.Meaning.Runs.{ProcAfter}

-- the region in which an action makes an object or grid: a view is in the region of the viewed grid
abbrev pub region_of_making : Action → Option ℕ
region_of_making (act.NewObj class region) = Some region
region_of_making (act.NewGrid zero domain region) = Some region
region_of_making (act.MakeView grid how) = Some grid.region
region_of_making a = None

-- whatever exists, or is made next, is in no region or in one that was made
pub record ThingsPlaced (s : RunConfig) (es : List Entry) : Type 0 where
  -- objects are in none, or in a region that was made
  pub objects : (id : Id) (class : ℕ) → class_of_object id (history_of es) ≡ Some class → is_place id.region (history_of es) ≡ true
  -- so are grids, views included
  pub grids : (id : Id) (g : Grid) → grid_of_id id (history_of es) ≡ Some g → is_place id.region (history_of es) ≡ true
  -- so is what a process makes next
  pub makings : (i : ℕ) (p : Process) (at : Place) (a : Action) (r : ℕ) → i < s.procs → ProcAfter s es i p → IsNext p (next.Act at a)
      → region_of_making a ≡ Some r → is_place r (history_of es) ≡ true
