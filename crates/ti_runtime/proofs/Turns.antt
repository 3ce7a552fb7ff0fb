-- What one step does to the scheduler.
use Rattle.std.proofs.Common.{◌≡◌, ℕ, ◌+◌, ◌-◌, ◌*◌, ◌<◌, ◌≤◌, max, nat_lt, ◌==◌, Bool, true, false, ◌||◌, inl, inr, Ok, List, length, get_or, slice_set, refl, sym, ap, ◌∙◌, subst, arith, eqb-true, ltb-true, length-set}
use Rattle.std.proofs.lemmas.Bool.{ltb-false}
use Rattle.ti_base.specs.declared.action.Action.{Action}
use Rattle.ti_base.specs.declared.action.Action.TheVariants as act
use Rattle.ti_base.specs.declared.entry.Entry.{Entry}
use Rattle.ti_lang.specs.Meaning.Processes.{RunConfig}
use Rattle.ti_lang.specs.Meaning.Histories.{is_end, is_fault, is_arrival, has_end, has_fault}
use Rattle.ti_lang.specs.Meaning.Runs.{IsRun, IsSolo, more}
use Rattle.ti_lang.proofs.Lemmas.{taker}
use Rattle.ti_align.specs.Alignment.{OfEveryRun}
use Rattle.ti_align.specs.Stopping.{RoundsBalance}
use Rattle.ti_align.proofs.Lemmas.{or_right}
use Rattle.ti_store.specs.Conditions.{IsWithinRunLimits}
use Rattle.ti_store.specs.Stores.{StoreState, config_of}
use Rattle.ti_store.proofs.Lemmas.{fault_more, end_more}
use Rattle.ti_code.specs.Programs.{Code}
use Rattle.ti_runtime.specs.declared.solo.cursor.SoloCursor.{SoloCursor}
use Rattle.ti_runtime.specs.declared.solo.cursor.TurnOutcome.{TurnOutcome}
use Rattle.ti_runtime.specs.declared.solo.cursor.TurnOutcome.TheVariants as turn
use Rattle.ti_pending.specs.declared.pending.PendingProc.{PendingProc}
use Rattle.ti_runtime.specs.declared.solo.step.RunStop.{RunStop}
use Rattle.ti_runtime.specs.declared.solo.step.RunStop.TheVariants as stop
use Rattle.ti_pending.specs.UpToDate.{IsBlocked, IsUpToDate}
use Rattle.ti_runtime.specs.Mirrors.Waiting.{IsBlockedOrEnded}
use Rattle.ti_pending.specs.Acting.{TakesEntry, steps_left, all_steps_left, Progresses}
use Rattle.ti_runtime.specs.Mirrors.Processes.{IsOpen, DoesNothing, StopsAt, TurnLeaves, cursor_after, Points, IsSoloState, SoloProgresses, HasStopped}
use Rattle.ti_pending.proofs.Lemmas.{seated_on, seated_kept, steps_set}
use Rattle.ti_runtime.proofs.Waiting.{rest_takes_none, rests_still, wait_together}
use Rattle.ti_runtime.proofs.Endings.{none_below}

true_false : true ≡ false → ⊥
true_false e = cc

-- what holds of every run of a program holds of this one
pub law_of : (fact : RunConfig → List Entry → Type 0) (s : RunConfig) (es : List Entry) → OfEveryRun fact s.program → IsWithinRunLimits s.procs s.fuel → IsRun s es → fact s es
law_of fact s es all w run = all s.procs s.fuel es w.some w.few w.fueled w.limited run

-- a store that grows is of the same setting
pub same_setting : (old new : StoreState) → new ≡ record old { entries = new.entries } → config_of new ≡ config_of old
same_setting old new is = ap config_of is

-- a store goes on being open as it grows
pub open_on : (code : Code) (old new : StoreState) → new ≡ record old { entries = new.entries } → has_fault new.entries ≡ false → IsOpen code old → IsOpen code new
open_on code old new is f o = subst (IsOpen code) (sym is) (record { goes_on = f; may = o.may })

-- ---- a run with one entry more

or_false : (a b : Bool) → a ≡ false → b ≡ false → (a || b) ≡ false
or_false a b x y = rw (x, y) refl

module _ (s : RunConfig) (es all : List Entry) (i : ℕ) (t : TakesEntry s es i all) where
  -- it is a run still
  pub run_on : IsRun s es → IsRun s all
  run_on run = more run t.can t.after

  -- and the solo run, where it was
  pub solo_on : IsSolo s es → ((j : ℕ) → j < i → IsBlockedOrEnded s es j) → IsSolo s all
  solo_on solo rest = more solo t.can (λ j d l. rest_takes_none s es j d (rest j l)) t.after

  pub no_fault_on : is_fault t.entry.act ≡ false → has_fault all ≡ false
  no_fault_on f = ap has_fault t.after ∙ fault_more es t.entry ∙ or_false (has_fault es) (is_fault t.entry.act) t.can.goes_on f

  pub fault_on : is_fault t.entry.act ≡ true → has_fault all ≡ true
  fault_on f = ap has_fault t.after ∙ fault_more es t.entry ∙ or_right (has_fault es) (is_fault t.entry.act) f

  -- its process has no end but by an end
  pub unended_on : is_end t.entry.act ≡ false → has_end i all ≡ false
  unended_on e = ap (has_end i) t.after ∙ end_more i es t.entry (taker s es i t.entry t.can) ∙ or_false (has_end i es) (is_end t.entry.act) t.can.unended e

  -- who rests does so still, unless it was an arrival
  pub rests_on : (j : ℕ) → (i == j) ≡ false → is_arrival t.entry.act ≡ false → IsBlockedOrEnded s es j → IsBlockedOrEnded s all j
  rests_on j h a r = rests_still s es all j t.entry t.after (ap (λ k. k == j) (taker s es i t.entry t.can) ∙ h) a r

-- ---- steps that are left

lighter_on : (s : RunConfig) (processes : List PendingProc) (i : ℕ) (old new : PendingProc) → i < length processes → old ≡ get_or processes i old → steps_left s new < steps_left s old
    → all_steps_left s (slice_set processes i new) < all_steps_left s processes
lighter_on s processes i old new inside is lighter =
    fewer (all_steps_left s (slice_set processes i new)) (steps_left s old) (all_steps_left s processes) (steps_left s new) (steps_set s processes i old new inside is) lighter
  where
    fewer : (a b c d : ℕ) → a + b ≡ c + d → d < b → a < c
    fewer a b c d h l = omega arith

as_many_on : (s : RunConfig) (processes : List PendingProc) (i : ℕ) (old new : PendingProc) → i < length processes → old ≡ get_or processes i old → steps_left s new ≡ steps_left s old
    → all_steps_left s (slice_set processes i new) ≡ all_steps_left s processes
as_many_on s processes i old new inside is as_many =
    equal (all_steps_left s (slice_set processes i new)) (steps_left s old) (all_steps_left s processes) (steps_left s new) (steps_set s processes i old new inside is) as_many
  where
    equal : (a b c d : ℕ) → a + b ≡ c + d → d ≡ b → a ≡ c
    equal a b c d h l = omega arith

-- ---- the cursor

below : (i j : ℕ) → j < i → (i == j) ≡ false
below i j l = by (i == j) refl
  where
    by : (b : Bool) → (i == j) ≡ b → (i == j) ≡ false
    by true h = absurd (omega (arith, eqb-true i j h))
    by false h = h

at_or_before : (P : ℕ → Type 0) (n : ℕ) → ((i : ℕ) → i < n → P i) → P n → (i : ℕ) → i < n + 1 → P i
at_or_before P n before here i l = by (nat_lt i n) refl
  where
    by : (b : Bool) → nat_lt i n ≡ b → P i
    by true h = before i (ltb-true i n h)
    by false h = subst P (same i n l (ltb-false i n h)) here
      where
        same : (i n : ℕ) → i < n + 1 → n ≤ i → n ≡ i
        same i n l h = omega arith

either_before : (P : ℕ → Type 0) (m n : ℕ) → ((i : ℕ) → i < m → P i) → ((i : ℕ) → i < n → P i) → (i : ℕ) → i < max m n → P i
either_before P m n f g i l = by (nat_lt i m) refl
  where
    by : (b : Bool) → nat_lt i m ≡ b → P i
    by true h = f i (ltb-true i m h)
    by false h = g i (other i m n l (ltb-false i m h))
      where
        other : (i m n : ℕ) → i < max m n → m ≤ i → i < n
        other i m n l h = omega arith

no_more : (n : ℕ) → 0 ≤ n
no_more n = omega arith

at_most : (m n p : ℕ) → m < p → n ≤ p → max (m + 1) n ≤ p
at_most m n p h k = omega arith

up_to : (m p : ℕ) → m < p → m + 1 ≤ p
up_to m p h = omega arith

less : (m p : ℕ) → m < p → m ≤ p
less m p h = omega arith

module _ (s : RunConfig) (es : List Entry) (c : SoloCursor) (p : Points s es c) (inside : c.next_proc < s.procs) where
  -- behind one that had its end
  pub points_ended : has_end c.next_proc es ≡ true → Points s es (cursor_after c turn.Finished)
  points_ended e = record {
    most = up_to c.next_proc s.procs inside;
    few = p.few;
    before = at_or_before (IsBlockedOrEnded s es) c.next_proc p.before (inl e);
    all_blocked = p.all_blocked;
  }

  -- behind one that waits
  pub points_waits : IsBlocked s es c.next_proc → Points s es (cursor_after c turn.Blocked)
  points_waits w = record {
    most = at_most c.next_proc c.blocked_below s.procs inside p.few;
    few = p.few;
    before = by (nat_lt c.next_proc c.blocked_below) refl;
    all_blocked = p.all_blocked;
  }
    where
      passed : (i : ℕ) → i < c.next_proc + 1 → IsBlockedOrEnded s es i
      passed = at_or_before (IsBlockedOrEnded s es) c.next_proc p.before (inr w)

      by : (b : Bool) → nat_lt c.next_proc c.blocked_below ≡ b → (i : ℕ) → i < max (c.next_proc + 1) c.blocked_below → IsBlockedOrEnded s es i
      by true h = either_before (IsBlockedOrEnded s es) (c.next_proc + 1) c.blocked_below passed (p.all_blocked c.next_proc (ltb-true c.next_proc c.blocked_below h) w)
      by false h = λ i l. passed i (first i c.next_proc c.blocked_below l (ltb-false c.next_proc c.blocked_below h))
        where
          first : (i m n : ℕ) → i < max (m + 1) n → n ≤ m → i < m + 1
          first i m n l h = omega arith

  -- behind one that went on
  pub points_went : (all : List Entry) → (t : TakesEntry s es c.next_proc all) → is_arrival t.entry.act ≡ false → Points s all (cursor_after c turn.Progressed)
  points_went all t a = record {
    most = p.most;
    few = no_more s.procs;
    before = λ i l. rests_on s es all c.next_proc t i (below c.next_proc i l) a (p.before i l);
    all_blocked = λ i l. none_below (λ i. IsBlocked s all i → (j : ℕ) → j < 0 → IsBlockedOrEnded s all j) i l;
  }

  -- behind one that arrived
  pub points_arrived : IsRun s es → RoundsBalance s es → (all : List Entry) → (t : TakesEntry s es c.next_proc all) → is_arrival t.entry.act ≡ true → Points s all (cursor_after c turn.Arrived)
  points_arrived run balance all t a = record {
    most = no_more s.procs;
    few = less c.next_proc s.procs inside;
    before = λ i l. none_below (IsBlockedOrEnded s all) i l;
    all_blocked = λ i l w j k. wait_together s es all c.next_proc t.entry run balance t.can t.after a p.before i l w j k;
  }

-- ---- turns

-- the fewer steps count for more than the turns that take no entry
falls : (a b p x y : ℕ) → a < b → a * (p + 1) + (p - x) < b * (p + 1) + (p - y)
falls a b p x y l =
    let rest : ℕ = b - (a + 1) in
    let whole : b ≡ (a + 1) + rest = omega arith in
    rw whole (onward a rest p x y)
  where
    onward : (a r p x y : ℕ) → a * (p + 1) + (p - x) < ((a + 1) + r) * (p + 1) + (p - y)
    onward a r p x y = omega arith

falls_same : (a p x y : ℕ) → y < x → y < p → a + (p - x) < a + (p - y)
falls_same a p x y h k = omega arith

further : (m n : ℕ) → m < max (m + 1) n
further m n = omega arith

one_further : (m : ℕ) → m < m + 1
one_further m = omega arith

module _ (code : Code) (s : RunConfig) (es : List Entry) (processes : List PendingProc) (c : SoloCursor) (x : IsSoloState code s es processes c) (inside : c.next_proc < s.procs) (old : PendingProc) (is : old ≡ get_or processes c.next_proc old) where
  within : c.next_proc < length processes
  within = subst (λ n. c.next_proc < n) (sym x.count) inside

  -- by an entry
  onward : (all : List Entry) (new : PendingProc) (d : SoloCursor) → Progresses code s es c.next_proc old all new → Points s all d → SoloProgresses code s es processes c all (slice_set processes c.next_proc new) d
  onward all new d g p = record {
    solo = λ solo. solo_on s es all c.next_proc g.takes solo x.points.before;
    stands = record {
      run = run_on s es all c.next_proc g.takes x.run;
      goes_on = no_fault_on s es all c.next_proc g.takes g.no_fault;
      count = length-set processes c.next_proc new ∙ x.count;
      seated = seated_on code s es all processes c.next_proc new g.seated within g.takes x.seated;
      points = p;
    };
    lighter = falls (all_steps_left s (slice_set processes c.next_proc new)) (all_steps_left s processes) s.procs d.next_proc c.next_proc (lighter_on s processes c.next_proc old new within is g.lighter);
  }

  -- by none
  rested : (all : List Entry) (new : PendingProc) (d : SoloCursor) → DoesNothing code s es c.next_proc old all new → Points s es d → c.next_proc < d.next_proc → SoloProgresses code s es processes c all (slice_set processes c.next_proc new) d
  rested all new d k p l = subst (λ xs. SoloProgresses code s es processes c xs (slice_set processes c.next_proc new) d) (sym k.entries) (record {
    solo = λ solo. solo;
    stands = record {
      run = x.run;
      goes_on = x.goes_on;
      count = length-set processes c.next_proc new ∙ x.count;
      seated = seated_kept code s es es processes c.next_proc new k.seated within refl x.seated;
      points = p;
    };
    lighter = subst (λ n. n * (s.procs + 1) + (s.procs - d.next_proc) < all_steps_left s processes * (s.procs + 1) + (s.procs - c.next_proc))
        (sym (as_many_on s processes c.next_proc old new within is k.as_many)) (falls_same (all_steps_left s processes * (s.procs + 1)) s.procs d.next_proc c.next_proc l inside);
  })

  pub turned : RoundsBalance s es → (all : List Entry) (new : PendingProc) (t : TurnOutcome) → TurnLeaves code s es c.next_proc old all new (Ok t)
      → SoloProgresses code s es processes c all (slice_set processes c.next_proc new) (cursor_after c t)
  turned balance all new turn.Arrived g = onward all new (cursor_after c turn.Arrived) g.0 (points_arrived s es c x.points inside x.run balance all g.0.takes g.1)
  turned balance all new turn.Progressed g = onward all new (cursor_after c turn.Progressed) g.0 (points_went s es c x.points inside all g.0.takes g.1)
  turned balance all new turn.Finished g = rested all new (cursor_after c turn.Finished) g.0 (points_ended s es c x.points inside g.1) (one_further c.next_proc)
  turned balance all new turn.Blocked g = rested all new (cursor_after c turn.Blocked) g.0 (points_waits s es c x.points inside g.1) (further c.next_proc c.blocked_below)

  -- a run that stops at this turn
  pub stopped : (all : List Entry) (new : PendingProc) (why : RunStop) → StopsAt s es c.next_proc all why → IsUpToDate code s all c.next_proc new → HasStopped code s es all (slice_set processes c.next_proc new) why
  stopped all new stop.Faulted t y = record {
    run = run_on s es all c.next_proc t.0 x.run;
    solo = λ solo. solo_on s es all c.next_proc t.0 solo x.points.before;
    fault = (λ e. fault_on s es all c.next_proc t.0 t.1, λ h. refl);
    unended = λ ended. true_false (sym (ended c.next_proc inside) ∙ unended_on s es all c.next_proc t.0 (fault_no_end t.0.entry.act t.1));
    count = length-set processes c.next_proc new ∙ x.count;
    seated = seated_on code s es all processes c.next_proc new y within t.0 x.seated;
  }
    where
      fault_no_end : (a : Action) → is_fault a ≡ true → is_end a ≡ false
      fault_no_end (act.Fault kind) f = refl
      fault_no_end _ f = absurd (true_false (sym f))
  stopped all new stop.Memory t y = record {
    run = subst (IsRun s) (sym t.0) x.run;
    solo = λ solo. subst (IsSolo s) (sym t.0) solo;
    fault = (λ e. cc, λ h. absurd (true_false (sym h ∙ ap has_fault t.0 ∙ x.goes_on)));
    unended = λ ended. true_false (sym (ended c.next_proc inside) ∙ ap (has_end c.next_proc) t.0 ∙ t.1);
    count = length-set processes c.next_proc new ∙ x.count;
    seated = seated_kept code s es all processes c.next_proc new y within t.0 x.seated;
  }
