-- The code has next what the program has next.
use Rattle.std.proofs.Common.{◌≡◌, ℕ, ◌<◌, false, List, [], sym, ap, subst}
use Rattle.ti_base.specs.declared.entry.Entry.{Entry}
use Rattle.ti_base.specs.declared.entry.Next.{Next}
use Rattle.ti_lang.specs.Meaning.Processes.{RunConfig, Process, begin}
use Rattle.ti_lang.specs.Meaning.NextStep.{IsNext, none}
use Rattle.ti_lang.specs.Meaning.Histories.{answers_of, has_end}
use Rattle.ti_lang.specs.Meaning.Runs.{ProcAfter}
use Rattle.ti_lang.proofs.Lemmas.{next_some}
use Rattle.ti_align.specs.Answering.{AnswersFit}
use Rattle.ti_code.specs.Programs.{Code}
use Rattle.ti_code.specs.Follows.{Follows}
use Rattle.ti_machine.specs.ProcView.{ProcView, HasNext, CanAdvance}
use Rattle.ti_store.specs.Conditions.{IsWithinRunLimits}
use Rattle.ti_store.proofs.Lemmas.{fitting, fits_none}
use Rattle.ti_pending.specs.declared.pending.PendingProc.{PendingProc}
use Rattle.ti_pending.specs.Views.{proc_view_after}
use Rattle.ti_pending.specs.UpToDate.{IsUpToDate}

-- ---- the code stands there too

-- a process of code has one thing next
abbrev pub OneNext : Type 0
OneNext = (t : ProcView) (m n : Next) → HasNext t m → HasNext t n → m ≡ n

module _ (code : Code) (s : RunConfig) (f : Follows code s.program) (w : IsWithinRunLimits s.procs s.fuel) (es : List Entry) (fit : AnswersFit s es) (i : ℕ) (l : i < s.procs) (q : Process) (x : ProcAfter s es i q) where
  code_next : (n : Next) → IsNext q n → HasNext (proc_view_after code s es i) n
  code_next n is = f s.procs s.fuel i w.some w.few w.fueled w.limited l (answers_of i es) q n (fitting s es i fit) x is

  pub code_goes_on : CanAdvance (proc_view_after code s es i)
  code_goes_on = let n = next_some q in (n.0, code_next n.0 n.1)

  -- a process that was told the answers of these entries
  pub seated : (pending : PendingProc) → record pending.process { asks = false } ≡ proc_view_after code s es i → has_end i es ≡ pending.ended → IsUpToDate code s es i pending
  seated pending answers ended =
      let n = next_some q in
      record {
        answers = answers;
        there = q;
        world = x;
        next = n.0;
        has_next = subst (λ t. HasNext t n.0) (sym answers) (code_next n.0 n.1);
        is_next = n.1;
        ended = ended;
      }

-- before the first entry
module _ (code : Code) (s : RunConfig) (f : Follows code s.program) (w : IsWithinRunLimits s.procs s.fuel) (i : ℕ) (l : i < s.procs) where
  pub begins_on : CanAdvance (proc_view_after code s [] i)
  begins_on = code_goes_on code s f w [] (fits_none s) i l (begin s i) none

  pub begins_seated : (pending : PendingProc) → pending ≡ record { process = proc_view_after code s [] i; ended = false } → IsUpToDate code s [] i pending
  begins_seated pending is =
      seated code s f w [] (fits_none s) i l (begin s i) none pending (ap (λ (x : PendingProc). record x.process { asks = false }) is) (sym (ap (λ (x : PendingProc). x.ended) is))
