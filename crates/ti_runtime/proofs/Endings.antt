-- How a run begins and ends.
use Rattle.std.proofs.Common.{◌≡◌, ℕ, ◌+◌, ◌<◌, ◌≤◌, ◌==◌, Bool, true, false, List, [], ◌∷◌, length, get_or, slice_set, Some, refl, sym, ◌∙◌, subst, arith, eqb-true, get_or-set_same, get_or-set_other}
use Rattle.std.specs.Prelude.{slice_get}
use Rattle.std.proofs.lemmas.Bool.{eqb-false}
use Rattle.std.proofs.lemmas.List.{get_or_default}
use Rattle.std.proofs.lemmas.Option.{get_or_from_slice_get, slice_get_within}
use Rattle.ti_base.specs.declared.entry.Entry.{Entry}
use Rattle.ti_lang.specs.Meaning.Processes.{RunConfig}
use Rattle.ti_lang.specs.Meaning.Histories.{has_end, has_fault}
use Rattle.ti_lang.specs.Meaning.Runs.{IsRun, IsSolo, AllEnded}
use Rattle.ti_lang.specs.Meaning.Runs as run
use Rattle.ti_align.specs.Alignment.{NoneStuck}
use Rattle.ti_code.specs.Programs.{Code}
use Rattle.ti_machine.specs.ProcView.{HasFinished}
use Rattle.ti_runtime.specs.declared.solo.cursor.SoloCursor.{SoloCursor}
use Rattle.ti_pending.specs.declared.pending.PendingProc.{PendingProc}
use Rattle.ti_runtime.specs.declared.solo.step.RunStop.TheVariants as stop
use Rattle.ti_runtime.specs.declared.runner.How.TheVariants as how
use Rattle.ti_runtime.specs.declared.runner.RunEnd.{RunEnd}
use Rattle.ti_pending.specs.Views.{proc_view_after}
use Rattle.ti_pending.specs.UpToDate.{IsBlocked, AllUpToDate}
use Rattle.ti_runtime.specs.Ran.{AreFinishedCounts, Ran}
use Rattle.ti_runtime.specs.Mirrors.Waiting.{IsBlockedOrEnded}
use Rattle.ti_runtime.specs.Mirrors.Processes.{IsSoloState, HasStopped, SoloOutcome}
use Rattle.ti_runtime.proofs.Waiting.{rest_takes_none}

true_false : true ≡ false → ⊥
true_false e = cc

-- ---- the beginning

pub none_below : (P : ℕ → Type 0) (i : ℕ) → i < 0 → P i
none_below P i l = absurd (omega arith)

no_more : (n : ℕ) → 0 ≤ n
no_more n = omega arith

-- a run that can go on is taken up with process 0
pub starts : (code : Code) (s : RunConfig) (es : List Entry) (processes : List PendingProc) → IsRun s es → has_fault es ≡ false → length processes ≡ s.procs
    → AllUpToDate code s es processes → IsSoloState code s es processes (record { next_proc = 0; blocked_below = 0 })
starts code s es processes so_far goes_on count seated = record {
  run = so_far;
  goes_on = goes_on;
  count = count;
  seated = seated;
  points = record {
    most = no_more s.procs;
    few = no_more s.procs;
    before = λ i l. none_below (IsBlockedOrEnded s es) i l;
    all_blocked = λ i l. none_below (λ k. IsBlocked s es k → (j : ℕ) → j < 0 → IsBlockedOrEnded s es j) i l;
  };
}

pub begins : (code : Code) (s : RunConfig) (processes : List PendingProc) → length processes ≡ s.procs → AllUpToDate code s [] processes → IsSoloState code s [] processes (record { next_proc = 0; blocked_below = 0 })
begins code s processes count seated = starts code s [] processes run.none refl count seated

-- ---- the end

pub faults : (code : Code) (s : RunConfig) (before es : List Entry) (processes : List PendingProc) → HasStopped code s before es processes stop.Faulted → SoloOutcome code s before es processes how.Faulted
faults code s before es processes x = record {
  run = x.run;
  solo = x.solo;
  ended = (λ e. cc, λ ended. absurd (x.unended ended));
  faulted = (λ e. x.fault.0 refl, λ h. refl);
  count = x.count;
  seated = x.seated;
}

pub out_of_memory : (code : Code) (s : RunConfig) (before es : List Entry) (processes : List PendingProc) → HasStopped code s before es processes stop.Memory → SoloOutcome code s before es processes how.Memory
out_of_memory code s before es processes x = record {
  run = x.run;
  solo = x.solo;
  ended = (λ e. cc, λ ended. absurd (x.unended ended));
  faulted = (λ e. cc, λ h. let none : stop.Memory ≡ stop.Faulted = x.fault.1 h in cc);
  count = x.count;
  seated = x.seated;
}

-- nobody is left to be tried, so nobody can go on, and all have their end
pub ends : (code : Code) (s : RunConfig) (before es : List Entry) (processes : List PendingProc) (c : SoloCursor) → (IsSolo s before → IsSolo s es)
    → IsSoloState code s es processes c → length processes ≤ c.next_proc → NoneStuck s es → SoloOutcome code s before es processes how.Ended
ends code s before es processes c solo x past unstuck =
    let all : AllEnded s es = unstuck x.goes_on (λ i e t. rest_takes_none s es i e (x.points.before i (tried i s.procs (length processes) c.next_proc t.within x.count past)) t) in
    record {
      run = x.run;
      solo = solo;
      ended = (λ e. all, λ ended. refl);
      faulted = (λ e. cc, λ h. absurd (true_false (sym h ∙ x.goes_on)));
      count = x.count;
      seated = x.seated;
    }
  where
    tried : (i p n m : ℕ) → i < p → n ≡ p → n ≤ m → i < m
    tried i p n m h e k = omega arith

-- ---- how a run ended

-- out of memory before the first entry
pub unbegun : (code : Code) (s : RunConfig) (workers : ℕ) (end : RunEnd) → 1 ≤ s.procs → end.how ≡ how.Memory → end.history.items ≡ [] → Ran code s workers end
unbegun code s workers end l m e = record {
  run = subst (IsRun s) (sym e) run.none;
  solo = λ _. subst (IsSolo s) (sym e) run.none;
  ended = (λ z. cc, λ ended. absurd (true_false (sym (subst (λ es. has_end 0 es ≡ true) e (ended 0 (some s.procs l))))));
  faulted = (λ z. cc, λ h. absurd (true_false (sym (subst (λ es. has_fault es ≡ true) e h))));
  done = λ z. absurd (z m);
}
  where
    some : (n : ℕ) → 1 ≤ n → 0 < n
    some n l = omega arith

-- one number more
pub finished_on : (processes : List PendingProc) (done : List ℕ) (n k : ℕ) (pending : PendingProc) → n < length processes → length done ≡ length processes → pending ≡ get_or processes n pending → HasFinished pending.process k
    → ((d : PendingProc) (i : ℕ) → i < n → HasFinished (get_or processes i d).process (get_or done i 0)) → (d : PendingProc) (i : ℕ) → i < n + 1
    → HasFinished (get_or processes i d).process (get_or (slice_set done n k) i 0)
finished_on processes done n k pending inside even is one before d i l = by (n == i) refl
  where
    by : (b : Bool) → (n == i) ≡ b → HasFinished (get_or processes i d).process (get_or (slice_set done n k) i 0)
    by true h =
        let here : get_or processes n d ≡ pending = get_or_default processes n d pending inside ∙ sym is in
        let there = subst (λ j. HasFinished pending.process j) (sym (get_or-set_same done n k 0 (omega arith))) one in
        subst (λ j. HasFinished (get_or processes j d).process (get_or (slice_set done n k) j 0)) (eqb-true n i h)
        (subst (λ (x : PendingProc). HasFinished x.process (get_or (slice_set done n k) n 0)) (sym here) there)
    by false h =
        let apart = eqb-false n i h in
        subst (λ j. HasFinished (get_or processes i d).process j) (sym (get_or-set_other done n i k 0 (λ e. apart (sym e)))) (before d i (omega (arith, apart)))

pub some_pending : (processes : List PendingProc) (i : ℕ) → i < length processes → PendingProc
some_pending [] i l = absurd (omega arith)
some_pending (x ∷ xs) i l = x

-- the numbers that the processes tell are those of the answers of the run
done_is : (code : Code) (s : RunConfig) (es : List Entry) (processes : List PendingProc) (done : List ℕ) → length processes ≡ s.procs → AllUpToDate code s es processes → length done ≡ length processes
    → ((d : PendingProc) (i : ℕ) → i < length processes → HasFinished (get_or processes i d).process (get_or done i 0)) → AreFinishedCounts code s es done
done_is code s es processes done count seated even each = record { count = even ∙ count; each = one }
  where
    one : (i n : ℕ) → slice_get done i ≡ Some n → HasFinished (proc_view_after code s es i) n
    one i n z =
        let inside : i < length processes = omega (arith, slice_get_within done i n z, even) in
        let d = some_pending processes i inside in
        subst (λ t. HasFinished t n) (seated d i inside).answers (subst (λ k. HasFinished (get_or processes i d).process k) (get_or_from_slice_get done i n 0 z) (each d i inside))

pub ran : (code : Code) (s : RunConfig) (workers : ℕ) (end : RunEnd) (before es : List Entry) (processes : List PendingProc) → end.history.items ≡ es
    → SoloOutcome code s before es processes end.how → (workers ≡ 1 → before ≡ []) → length end.done.items ≡ length processes
    → ((d : PendingProc) (i : ℕ) → i < length processes → HasFinished (get_or processes i d).process (get_or end.done.items i 0)) → Ran code s workers end
ran code s workers end before es processes is x first even each =
    let y = subst (λ xs. SoloOutcome code s before xs processes end.how) (sym is) x in
    record {
      run = y.run;
      solo = λ alone. y.solo (subst (IsSolo s) (sym (first alone)) run.none);
      ended = y.ended;
      faulted = y.faulted;
      done = λ z. done_is code s end.history.items processes end.done.items y.count y.seated even each;
    }
