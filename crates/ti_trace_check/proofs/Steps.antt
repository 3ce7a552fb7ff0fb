-- What one step does to a replayed process.
use Rattle.std.proofs.Common.{◌≡◌, ℕ, ◌+◌, ◌<◌, Bool, true, false, ◌||◌, if◌then◌else◌, List, refl, sym, ap, ◌∙◌, subst, arith}
use Rattle.ti_base.specs.declared.entry.Entry.{Entry}
use Rattle.ti_base.specs.declared.fault.FaultKind.{FaultKind}
use Rattle.ti_lang.specs.Meaning.Processes.{RunConfig}
use Rattle.ti_lang.specs.Meaning.Histories.{is_fault, has_fault}
use Rattle.ti_align.proofs.Lemmas.{or_right}
use Rattle.ti_code.specs.Programs.{Code}
use Rattle.ti_store.specs.declared.act_err.ActErr.TheVariants as err
use Rattle.ti_store.specs.Stores.{StoreState, config_of}
use Rattle.ti_store.proofs.Lemmas.{fault_more}
use Rattle.ti_pending.specs.declared.pending.PendingProc.{PendingProc}
use Rattle.ti_pending.specs.UpToDate.{with_awaits, IsUpToDate}
use Rattle.ti_pending.specs.Acting.{steps_left, Progresses, RefusalLeaves}
use Rattle.ti_pending.proofs.Lemmas.{wait_takes_none}
use Rattle.ti_trace_check.specs.Mirrors.Replaying.{faults_left, TurnLeaves}

true_false : true ≡ false → ⊥
true_false e = cc

or_false : (a b : Bool) → a ≡ false → b ≡ false → (a || b) ≡ false
or_false a b x y = rw (x, y) refl

-- one that has ended can take none
pub at_end : (code : Code) (s : RunConfig) (es : List Entry) (i : ℕ) (old : PendingProc) → IsUpToDate code s es i old → old.ended ≡ true → TurnLeaves code s es i old es old false
at_end code s es i old y ended = (refl, λ e t. true_false (sym ended ∙ sym y.ended ∙ t.unended))

-- one that was answered took an entry that is no fault
pub went : (code : Code) (s : RunConfig) (es : List Entry) (i : ℕ) (old : PendingProc) (all : List Entry) (new : PendingProc) → Progresses code s es i old all new → TurnLeaves code s es i old all new true
went code s es i old all new g = record {
  takes = g.takes;
  seated = g.seated;
  lighter = more (steps_left s new) (steps_left s old) (faults_left all) (faults_left es) same g.lighter;
}
  where
    none : has_fault all ≡ has_fault es
    none = ap has_fault g.takes.after ∙ fault_more es g.takes.entry ∙ or_false (has_fault es) (is_fault g.takes.entry.act) g.takes.can.goes_on g.no_fault ∙ sym g.takes.can.goes_on

    same : faults_left all ≡ faults_left es
    same = ap {B = ℕ} (λ (b : Bool). if b then 0 else 1) none

    more : (a b c d : ℕ) → c ≡ d → a < b → a + c < b + d
    more a b c d h l = omega arith

-- `here` is the process at its next action
module _ (code : Code) (st : StoreState) (i : ℕ) (old here new : PendingProc) (asks : Bool) (is : here ≡ with_awaits asks old) (stays : new ≡ here) (all : List Entry) where
  abbrev s : RunConfig
  s = config_of st

  abbrev es : List Entry
  es = st.entries

  -- after a fault it is where it was
  pub faulted : (kind : FaultKind) → RefusalLeaves code st i here all (err.Faulted kind) → TurnLeaves code s es i old all new true
  faulted kind r = record {
    takes = r.0;
    seated = subst (IsUpToDate code s all i) (sym stays) r.2;
    lighter = last (steps_left s new) (steps_left s old) (faults_left all) (faults_left es) (ap (steps_left s) (stays ∙ is))
        (ap {B = ℕ} (λ (b : Bool). if b then 0 else 1) fault) (ap {B = ℕ} (λ (b : Bool). if b then 0 else 1) r.0.can.goes_on);
  }
    where
      fault : has_fault all ≡ true
      fault = ap has_fault r.0.after ∙ fault_more es r.0.entry ∙ or_right (has_fault es) (is_fault r.0.entry.act) r.1

      last : (a b c d : ℕ) → a ≡ b → c ≡ 0 → d ≡ 1 → a + c < b + d
      last a b c d h k l = omega arith

  -- one that has to wait, or behind a fault, can take none
  pub waits : RefusalLeaves code st i here all err.NotYet → TurnLeaves code s es i old all new false
  waits r = (r.0, λ e t. wait_takes_none s es i e r.1 t)

  pub stopped : st.halted ≡ false → RefusalLeaves code st i here all err.Halted → TurnLeaves code s es i old all new false
  stopped unhalted r = (r.0, λ e t. one_of_two st.halted (has_fault es) unhalted t.goes_on r.1)
    where
      one_of_two : (a b : Bool) → a ≡ false → b ≡ false → (a || b) ≡ true → ⊥
      one_of_two true b x z h = cc
      one_of_two false b x z h = cc
