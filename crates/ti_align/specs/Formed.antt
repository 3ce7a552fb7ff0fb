-- Actions whose values and domains are canonical.
use Rattle.std.specs.Prelude.{ℕ, ◌<◌, List}
use Rattle.ti_base.specs.declared.place.Place.{Place}
use Rattle.ti_base.specs.declared.value.Value.{Value}
use Rattle.ti_base.specs.declared.value.Value.TheVariants as v
use Rattle.ti_base.specs.declared.action.Action.{Action}
use Rattle.ti_base.specs.declared.action.Action.TheVariants as act
use Rattle.ti_base.specs.declared.action.Deposit.{Deposit}
use Rattle.ti_base.specs.declared.action.Deposit.TheVariants as deposit
use Rattle.ti_base.specs.declared.action.ViewHow.{ViewHow}
use Rattle.ti_base.specs.declared.action.ViewHow.TheVariants.{Restrict, Translate, Slice}
use Rattle.ti_base.specs.declared.entry.Entry.{Entry}
use Rattle.ti_base.specs.declared.entry.Next.TheVariants as next
use Rattle.ti_base.specs.Points.{IsPoint}
use Rattle.ti_base.specs.Rects.{IsRect}
use Rattle.ti_lang.specs.Meaning.Processes.{RunConfig, Process}
use Rattle.ti_lang.specs.Meaning.NextStep.{IsNext}
use Rattle.ti_lang.specs.Meaning.Runs.{ProcAfter}

-- a point or a rectangular domain is canonical; other values always are
abbrev pub IsFormed : Value → Type 0
IsFormed (v.Pt p) = IsPoint p
IsFormed (v.Rc r) = IsRect r
IsFormed value = Unit {0}

-- the contributed value is canonical
abbrev pub IsFormedDeposit : Deposit → Type 0
IsFormedDeposit (deposit.One value) = IsFormed value
IsFormedDeposit given = Unit {0}

-- the domain or point by which a view is made is canonical
abbrev pub IsFormedView : ViewHow → Type 0
IsFormedView (Restrict r) = IsRect r
IsFormedView (Translate by) = IsPoint by
IsFormedView (Slice k j) = Unit {0}

-- the values, points and domains of a heap action or an arrival are canonical
abbrev pub IsFormedAction : Action → Type 0
IsFormedAction (act.PutField obj field value) = IsFormed value
IsFormedAction (act.NewGrid zero domain region) = IsRect domain
IsFormedAction (act.GetElem grid at) = IsPoint at
IsFormedAction (act.PutElem grid at value) = IsPoint at × IsFormed value
IsFormedAction (act.MakeView grid how) = IsFormedView how
IsFormedAction (act.Arrive kind arg given) = IsFormedDeposit given
IsFormedAction a = Unit {0}

-- the next actions of all processes are canonical
abbrev pub ActionsFormed : RunConfig → List Entry → Type 0
ActionsFormed s es =
    (i : ℕ) (p : Process) (at : Place) (a : Action) → i < s.procs → ProcAfter s es i p → IsNext p (next.Act at a) → IsFormedAction a
