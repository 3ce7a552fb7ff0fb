-- What a process has next names what is there, of types that fit.
use Rattle.std.proofs.Common.{ℕ, ◌<◌, refl, List, Option}
use Rattle.ti_base.specs.declared.place.Place.{Place}
use Rattle.ti_base.specs.declared.action.Action.{Action}
use Rattle.ti_base.specs.declared.action.Action.TheVariants as act
use Rattle.ti_base.specs.declared.action.CollKind.{CollKind}
use Rattle.ti_base.specs.declared.action.Deposit.{Deposit}
use Rattle.ti_base.specs.declared.entry.Entry.{Entry}
use Rattle.ti_base.specs.declared.entry.Next.TheVariants as next
use Rattle.ti_lang.specs.Program.Types.{ValueType}
use Rattle.ti_lang.specs.Meaning.Comp.{Wanted}
use Rattle.ti_lang.specs.Meaning.Processes.{RunConfig, Process}
use Rattle.ti_lang.specs.Meaning.Steps.{step}
use Rattle.ti_lang.specs.Meaning.NextStep.{IsNext}
use Rattle.ti_lang.specs.Meaning.Histories.{history_of}
use Rattle.ti_lang.specs.Meaning.Runs.{ProcAfter}
use Rattle.ti_align.specs.Existing.{OperandsExist}
use Rattle.ti_align.specs.HeapTyping.{DepositFits}
use Rattle.ti_align.specs.Heap.{heap_typing_of}
use Rattle.ti_align.specs.Typed.{RunTyped}
use Rattle.ti_align.proofs.Runs.Ways.{asking}
use Rattle.ti_align.proofs.Runs.Running.{at_action}

module _ (s : RunConfig) (es : List Entry) (typed : RunTyped s es) (i : ℕ) (p : Process) (at : Place) where
  pub next_there : (a : Action) → i < s.procs → ProcAfter s es i p → IsNext p (next.Act at a) → (wanted : Wanted) × OperandsExist s.program (heap_typing_of i typed.fits.elements (history_of es)) a wanted
  next_there a b x n =
      let k = at_action (step n.0) at a n.1.stands in
      (k.0.1, (typed.there i p n.0 (asking at a k.0) k.1 b x n.1.reaches k.2).0)

  pub next_handed : (kind : CollKind) (arg : Option ℕ) (given : Deposit) → i < s.procs → ProcAfter s es i p → IsNext p (next.Act at (act.Arrive kind arg given))
      → (type : ValueType) × DepositFits (heap_typing_of i typed.fits.elements (history_of es)) type given
  next_handed kind arg given b x n =
      let k = at_action (step n.0) at (act.Arrive kind arg given) n.1.stands in
      let d = typed.handed i p n.0 (asking at (act.Arrive kind arg given) k.0) k.1 kind arg given b x n.1.reaches k.2 refl in
      (d.0, d.1)
