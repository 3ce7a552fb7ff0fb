-- A process that was run to its next action: what that action asks for, and what it leaves of the process before.
use Rattle.std.proofs.Common.{◌≡◌, ℕ, ◌<◌, Bool, List, sym, ap, subst}
use Rattle.ti_base.specs.declared.entry.Entry.{Entry}
use Rattle.ti_base.specs.declared.entry.Next.{Next}
use Rattle.ti_lang.specs.Meaning.Processes.{RunConfig}
use Rattle.ti_store.specs.declared.act_err.ActErr.{ActErr}
use Rattle.ti_store.specs.Stores.{StoreState}
use Rattle.ti_code.specs.Programs.{Code}
use Rattle.ti_machine.specs.ProcView.{HasNext}
use Rattle.ti_pending.specs.declared.pending.PendingProc.{PendingProc}
use Rattle.ti_pending.specs.UpToDate.{with_awaits, IsUpToDate}
use Rattle.ti_pending.specs.Acting.{CodePremises, steps_left, Progresses, RefusalLeaves}
use Rattle.ti_pending.proofs.Acted.{seated_asking, code_of}

module _ (code : Code) (s : RunConfig) (es : List Entry) (i : ℕ) (old : PendingProc) (y : IsUpToDate code s es i old) (asks : Bool) (here : PendingProc) (is : here ≡ with_awaits asks old) where
  -- it is up to date still
  pub seated_here : IsUpToDate code s es i here
  seated_here = subst (IsUpToDate code s es i) (sym is) (seated_asking code s es i old y asks)

  same_code : code ≡ here.process.code
  same_code = code_of code s es i here seated_here

  -- ---- what the action asks for

  pub runs_own : CodePremises code s → CodePremises here.process.code s
  runs_own o = subst (λ c. CodePremises c s) same_code o

  pub seated_own : IsUpToDate here.process.code s es i here
  seated_own = subst (λ c. IsUpToDate c s es i here) same_code seated_here

  pub next_own : (n : Next) → HasNext old.process n → HasNext here.process n
  next_own n has = subst (λ (x : PendingProc). HasNext x.process n) (sym is) has

  -- ---- what it leaves

  pub went_from : (all : List Entry) (new : PendingProc) → Progresses here.process.code s es i here all new → Progresses code s es i old all new
  went_from all new g = record {
    takes = g.takes;
    no_fault = g.no_fault;
    seated = subst (λ c. IsUpToDate c s all i new) (sym same_code) g.seated;
    lighter = subst (λ k. steps_left s new < k) (ap (steps_left s) is) g.lighter;
  }

  pub refused_from : (st : StoreState) (all : List Entry) (why : ActErr) → RefusalLeaves here.process.code st i here all why → RefusalLeaves code st i here all why
  refused_from st all why r = subst (λ c. RefusalLeaves c st i here all why) (sym same_code) r
