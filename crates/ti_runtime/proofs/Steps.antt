-- What one step does to a process.
use Rattle.std.proofs.Common.{◌≡◌, ℕ, ◌<◌, Bool, true, false, if◌then◌else◌, Ok, Err, List, refl, sym, ap, ◌∙◌, subst}
use Rattle.ti_base.specs.declared.entry.Entry.{Entry}
use Rattle.ti_base.specs.declared.entry.Next.{Next}
use Rattle.ti_base.specs.declared.fault.FaultKind.{FaultKind}
use Rattle.ti_lang.specs.Meaning.Processes.{RunConfig}
use Rattle.ti_lang.specs.Meaning.Histories.{is_arrival}
use Rattle.ti_store.specs.declared.act_err.ActErr.TheVariants as err
use Rattle.ti_store.specs.Stores.{StoreState, config_of}
use Rattle.ti_code.specs.Programs.{Code}
use Rattle.ti_machine.specs.ProcView.{HasNext}
use Rattle.ti_pending.specs.declared.pending.PendingProc.{PendingProc}
use Rattle.ti_pending.specs.UpToDate.{with_awaits, IsUpToDate}
use Rattle.ti_pending.specs.Acting.{next_action, steps_left, Progresses, CodePremises, RefusalLeaves}
use Rattle.ti_pending.proofs.Lemmas.{seated_here, went_from, refused_from}
use Rattle.ti_runtime.specs.declared.solo.cursor.TurnOutcome.{TurnOutcome}
use Rattle.ti_runtime.specs.declared.solo.cursor.TurnOutcome.TheVariants as turn
use Rattle.ti_runtime.specs.declared.solo.step.RunStop.TheVariants as stop
use Rattle.ti_runtime.specs.Mirrors.Processes.{IsOpen, DoesNothing, TurnLeaves}

-- `here` is the process at its next action
module _ (code : Code) (st : StoreState) (i : ℕ) (old : PendingProc) (y : IsUpToDate code (config_of st) st.entries i old) (u : old.ended ≡ false) (asks : Bool) (here : PendingProc) (is : here ≡ with_awaits asks old) where
  abbrev s : RunConfig
  s = config_of st

  abbrev es : List Entry
  es = st.entries

  pub went : (n : Next) (all : List Entry) (new : PendingProc) → (g : Progresses here.process.code s es i here all new) × (g.takes.entry.act ≡ next_action n)
      → (t : TurnOutcome) → t ≡ (if is_arrival (next_action n) then turn.Arrived else turn.Progressed) → TurnLeaves code s es i old all new (Ok t)
  went n all new g t e = by (is_arrival (next_action n)) refl e
    where
      gone : Progresses code s es i old all new
      gone =
          let from = went_from code s es i old y asks here is all new g.0 in
          record { takes = g.0.takes; no_fault = g.0.no_fault; seated = from.seated; lighter = from.lighter }

      by : (b : Bool) → is_arrival (next_action n) ≡ b → t ≡ (if b then turn.Arrived else turn.Progressed) → TurnLeaves code s es i old all new (Ok t)
      by true a h = subst (λ x. TurnLeaves code s es i old all new (Ok x)) (sym h) (gone, ap is_arrival g.1 ∙ a)
      by false a h = subst (λ x. TurnLeaves code s es i old all new (Ok x)) (sym h) (gone, ap is_arrival g.1 ∙ a)

  module _ (all : List Entry) (new : PendingProc) (stays_here : new ≡ here) where
    kept : all ≡ es → DoesNothing code s es i old all new
    kept same = record {
      entries = same;
      seated = subst (IsUpToDate code s es i) (sym stays_here) (seated_here code s es i old y asks here is);
      as_many = ap (steps_left s) (stays_here ∙ is);
    }

    pub waited : RefusalLeaves here.process.code st i here all err.NotYet → TurnLeaves code s es i old all new (Ok turn.Blocked)
    waited r = (kept r.0, r.1)

    pub faulted : (kind : FaultKind) → RefusalLeaves here.process.code st i here all (err.Faulted kind) → TurnLeaves code s es i old all new (Err stop.Faulted)
    faulted kind r =
        let own = refused_from code s es i old y asks here is st all (err.Faulted kind) r in
        ((own.0, own.1), subst (λ x. IsUpToDate code s all i x) (sym stays_here) own.2)

    -- out of memory it is where it was
    pub stays : all ≡ es → TurnLeaves code s es i old all new (Err stop.Memory)
    stays same = ((same, y.ended ∙ u), subst (λ xs. IsUpToDate code s xs i new) (sym same) (kept same).seated)
