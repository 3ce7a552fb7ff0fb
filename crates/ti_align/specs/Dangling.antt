-- No dangling references: an action of a process never names an object or grid in a deleted region.
use Rattle.std.specs.Prelude.{◌≡◌, ℕ, ◌<◌, false, List, Option, Some, None}
use Rattle.ti_base.specs.declared.place.Place.{Place}
use Rattle.ti_base.specs.declared.value.Id.{Id}
use Rattle.ti_base.specs.declared.action.Action.{Action}
use Rattle.ti_base.specs.declared.action.Action.TheVariants as act
use Rattle.ti_base.specs.declared.action.Deposit.{Deposit}
use Rattle.ti_base.specs.declared.action.Deposit.TheVariants as deposit
use Rattle.ti_base.specs.declared.entry.Entry.{Entry}
use Rattle.ti_base.specs.declared.entry.Next.TheVariants as next
use Rattle.ti_base.specs.Cells.{named_by}
use Rattle.ti_lang.specs.Meaning.Processes.{RunConfig, Process}
use Rattle.ti_lang.specs.Meaning.NextStep.{IsNext}
use Rattle.ti_lang.specs.Meaning.Histories.{History, history_of}
use Rattle.ti_lang.specs.Meaning.RegionsOf.{is_gone}
use Rattle.ti_lang.specs.Meaning.Runs.{ProcAfter}

-- ---- the objects and grids that an action names

-- the object or grid whose cells an action reads or writes, of which it makes a view, or whose domain it reads
abbrev pub used_by : Action → Option Id
used_by (act.GetField obj field) = Some obj
used_by (act.PutField obj field value) = Some obj
used_by (act.GetElem grid at) = Some grid
used_by (act.PutElem grid at value) = Some grid
used_by (act.MakeView grid how) = Some grid
used_by (act.DomainOf grid) = Some grid
used_by a = None

-- the object or grid that is contributed to a collective, if one is
abbrev pub deposited_by : Deposit → Option Id
deposited_by (deposit.One value) = named_by value
deposited_by given = None

-- the object or grid that an action passes on as a value: one that is written to a cell or contributed to a collective
abbrev pub handed_by : Action → Option Id
handed_by (act.PutField obj field value) = named_by value
handed_by (act.PutElem grid at value) = named_by value
handed_by (act.Arrive kind arg given) = deposited_by given
handed_by a = None

-- ---- existence

-- the object or grid is in no deleted region
abbrev pub Lives : History → Id → Type 0
Lives h id = is_gone id.region h ≡ false

-- if the option names an object or grid, it is in no deleted region
abbrev pub IfNamedLives : History → Option Id → Type 0
IfNamedLives h None = Unit {0}
IfNamedLives h (Some id) = Lives h id

-- what an action uses and what it passes on is in no deleted region
pub record NamesLiving (h : History) (a : Action) : Type 0 where
  pub used : IfNamedLives h (used_by a)
  pub handed : IfNamedLives h (handed_by a)

-- Whatever a process of the run does next, all that the action names is in no deleted region; and 0, which means no region, isn't
-- deleted.
pub record NothingDangles (s : RunConfig) (es : List Entry) : Type 0 where
  pub actions : (i : ℕ) (p : Process) (at : Place) (a : Action) → i < s.procs → ProcAfter s es i p → IsNext p (next.Act at a)
      → NamesLiving (history_of es) a
  pub nowhere : is_gone 0 (history_of es) ≡ false
