-- In every run what is taken is of the type at which it was handed in.
use Rattle.std.proofs.Common.{◌≡◌, ℕ, ◌<◌, ◌≤◌, Some, List, [], ◌∷◌, refl, ◌∙◌, subst}
use Rattle.ti_base.specs.declared.action.Action.{Action}
use Rattle.ti_base.specs.declared.action.Action.TheVariants as act
use Rattle.ti_base.specs.declared.action.CollKind.TheVariants as coll
use Rattle.ti_base.specs.declared.entry.Answer.{Answer}
use Rattle.ti_base.specs.declared.entry.Entry.{Entry}
use Rattle.ti_lang.specs.Program.Types.{ValueType}
use Rattle.ti_lang.specs.Program.Classes.{ProgramView}
use Rattle.ti_lang.specs.Typing.Kinds.{as_global}
use Rattle.ti_lang.specs.Meaning.Comp.{ValueOf, Request}
use Rattle.ti_lang.specs.Meaning.Processes.{RunConfig, Frame, Wait, Process}
use Rattle.ti_lang.specs.Meaning.Steps.{At, step}
use Rattle.ti_lang.specs.Meaning.NextStep.{Reaches}
use Rattle.ti_lang.specs.Meaning.Histories.{history_of}
use Rattle.ti_lang.specs.Meaning.Runs.{ProcAfter, IsRun}
use Rattle.ti_align.specs.Alignment.{most_procs}
use Rattle.ti_align.specs.HeapTyping.{HeapTyping}
use Rattle.ti_align.specs.Given.{IsOfRound}
use Rattle.ti_align.specs.Mirrors.ContItem.{WantsOf}
use Rattle.ti_align.specs.Heap.{heap_typing_of}
use Rattle.ti_align.specs.Mirrors.Processes.{ProgramFits, WaitFits, NextFits}
use Rattle.ti_align.specs.Typed.{GivesLast, RunFits, TakenAsGiven}
use Rattle.ti_align.proofs.RunTypes.Steps.{ActionFits}
use Rattle.ti_align.proofs.Alignment.Fitting.{FineMethods}
use Rattle.ti_align.proofs.RunTypes.Giving.{given_same}
use Rattle.ti_align.proofs.SliceAlone.Pacing.{wants}
use Rattle.ti_align.proofs.RunTypes.Holding.{reached, step_reached}

-- what a process that waits is given
wait_gives : (p : ProgramView) (G : ValueType → Type 0) (wait : Wait) (fs : List Frame) → WaitFits p G wait fs → (type : ValueType)
    × IsOfRound G wait.kind type × WantsOf wait.kind wait.wanted type
wait_gives p G wait [] k = absurd k
wait_gives p G wait (f ∷ fs) k = (k.0, k.2, k.3)

module _ (s : RunConfig) (fits : ProgramFits s.program) (fine : FineMethods s.program s.program.methods) (few : s.procs ≤ most_procs) (es : List Entry) (ran : IsRun s es) (fit : RunFits s es) where
  abbrev present : ℕ → HeapTyping
  present i = heap_typing_of i fit.elements (history_of es)

  broadcast_gives : (i : ℕ) (p q : Process) (wait : Wait) (request : Request) (go : Answer → Process) → i < s.procs → ProcAfter s es i p
      → Reaches p q → step q ≡ At request go → q.wait ≡ Some wait → wait.kind ≡ coll.Broadcast
      → (type : ValueType) × (request.wanted ≡ ValueOf type) × GivesLast s es i (as_global type)
  broadcast_gives i p q wait request go b x y z waits kind =
      let k = (reached s fits fine few es ran present (λ i. refl) fit.processes i p q b x y).0.1 in
      let g = wait_gives q.setting.program (GivesLast s es i) wait q.frames (subst (λ o. NextFits (present i) (GivesLast s es i) q o q.frames) waits k).0 in
      let given : GivesLast s es i g.0 = subst (λ c. IsOfRound (GivesLast s es i) c g.0) kind g.1 in
      let wanted = subst (λ c. WantsOf c wait.wanted g.0) kind g.2 in
      (wanted.0, wants q wait request go waits z ∙ wanted.1, subst (GivesLast s es i) wanted.2 given)

  exchange_gives : (i who : ℕ) (p q : Process) (request : Request) (go : Answer → Process) → i < s.procs → ProcAfter s es i p → Reaches p q → step q ≡ At request go → request.action ≡ act.Take who
      → (type : ValueType) × (request.wanted ≡ ValueOf type) × GivesLast s es i type
  exchange_gives i who p q request go b x y z a =
      let k = subst (λ (a : Action). ActionFits (present i) (GivesLast s es i) (GivesLast s es i) q request a go) a
      (step_reached s fits fine few es ran present (λ i. refl) fit.processes i p q request go b x y z).2 in
      (k.0, k.3, k.1)

  pub taken_as_given : TakenAsGiven s es
  taken_as_given = record { given = λ i j k a b x y. given_same s fine es ran i j k a b x y; broadcast = broadcast_gives; exchange = exchange_gives }
