-- How a run ends after what its workers did.
use Rattle.std.proofs.Common.{◌≡◌, ℕ, zero, suc, ◌-◌, ◌<◌, Bool, true, false, ◌||◌, ◌&&◌, List, [], ◌∷◌, ◌++◌, length, get_or, Option, Some, None, refl, sym, ap, ◌∙◌, subst, arith, length-append}
use Rattle.std.specs.Prelude.{slice_get}
use Rattle.std.specs.List.{list_all}
use Rattle.ti_base.specs.declared.action.Action.{Action}
use Rattle.ti_base.specs.declared.action.Action.TheVariants as act
use Rattle.ti_base.specs.declared.entry.Entry.{Entry}
use Rattle.ti_heap.proofs.Lemmas.{get_last}
use Rattle.ti_lang.specs.Meaning.Processes.{RunConfig}
use Rattle.ti_lang.specs.Meaning.Histories.{is_end, is_fault, has_end, has_fault}
use Rattle.ti_lang.specs.Meaning.Runs.{IsRun, none, more, AllEnded}
use Rattle.ti_lang.proofs.Lemmas.{taker}
use Rattle.ti_store.proofs.Lemmas.{fault_more, end_more}
use Rattle.ti_code.specs.Programs.{Code}
use Rattle.ti_runtime.specs.declared.solo.cursor.SoloCursor.{SoloCursor}
use Rattle.ti_pending.specs.declared.pending.PendingProc.{PendingProc}
use Rattle.ti_runtime.specs.declared.runner.How.TheVariants as how
use Rattle.ti_pending.specs.UpToDate.{AllUpToDate}
use Rattle.ti_runtime.specs.Mirrors.Processes.{IsSoloState, SoloOutcome}
use Rattle.ti_runtime.proofs.Endings.{some_pending, starts}

true_false : true ≡ false → ⊥
true_false e = cc

-- ---- a fault is the last entry

last_place : (es : List Entry) (e : Entry) → length (es ++ e ∷ []) - 1 ≡ length es
last_place es e = omega (arith, length-append es (e ∷ []))

last_entry : (es all : List Entry) (e : Entry) → all ≡ es ++ e ∷ [] → slice_get all (length all - 1) ≡ Some e
last_entry es all e after = ap (λ xs. slice_get xs (length xs - 1)) after ∙ ap (slice_get (es ++ e ∷ [])) (last_place es e) ∙ get_last es e

-- a run has one where its last entry is one
pub last_tells : (s : RunConfig) (es : List Entry) → IsRun s es → (e : Entry) → slice_get es (length es - 1) ≡ Some e → has_fault es ≡ is_fault e.act
last_tells s es none e h = absurd (nothing h)
  where
    nothing : ◌≡◌ {A = Option Entry} None (Some e) → ⊥
    nothing h = cc
last_tells s es (more {es = before} {e = d} run can after) e h =
    let same : d ≡ e = one d e (sym (last_entry before es d after) ∙ h) in
    ap has_fault after ∙ fault_more before d ∙ ap (λ b. b || is_fault d.act) can.goes_on ∙ ap (λ (x : Entry). is_fault x.act) same
  where
    one : (d e : Entry) → Some d ≡ Some e → d ≡ e
    one d e h = cc

pub none_tells : (s : RunConfig) (es : List Entry) → IsRun s es → ◌≡◌ {A = Option Entry} (slice_get es (length es - 1)) None → has_fault es ≡ false
none_tells s es none h = refl
none_tells s es (more {es = before} {e = d} run can after) h = absurd (nothing (sym (last_entry before es d after) ∙ h))
  where
    nothing : ◌≡◌ {A = Option Entry} (Some d) None → ⊥
    nothing h = cc

-- what is told of it
pub fault_told : (s : RunConfig) (es seen : List Entry) (b : Bool) → seen ≡ es → IsRun s es → ((t : RunConfig) → IsRun t seen → b ≡ has_fault seen) → has_fault es ≡ b
fault_told s es seen b same run h = ap has_fault (sym same) ∙ sym (h s (subst (IsRun s) (sym same) run))

fault_no_end : (a : Action) → is_fault a ≡ true → is_end a ≡ false
fault_no_end (act.Fault kind) f = refl
fault_no_end a f = absurd (true_false (sym f))

-- the process that has it has no end
pub fault_unended : (s : RunConfig) (es : List Entry) → IsRun s es → has_fault es ≡ true → AllEnded s es → ⊥
fault_unended s es none h ended = true_false (sym h)
fault_unended s es (more {es = before} {i = i} {e = e} run can after) h ended =
    let fault : is_fault e.act ≡ true = ap (λ b. b || is_fault e.act) (sym can.goes_on) ∙ sym (fault_more before e) ∙ ap has_fault (sym after) ∙ h in
    let still : has_end i es ≡ false = ap (has_end i) after ∙ end_more i before e (taker s before i e can) ∙ neither (has_end i before) (is_end e.act) can.unended (fault_no_end e.act fault) in
    true_false (sym (ended i can.within) ∙ still)
  where
    neither : (a b : Bool) → a ≡ false → b ≡ false → (a || b) ≡ false
    neither a b x y = rw (x, y) refl

-- ---- the ends of all processes

first_of : (a b : Bool) → (a && b) ≡ true → a ≡ true
first_of true b h = refl
first_of false b h = h

second_of : (a b : Bool) → (a && b) ≡ true → b ≡ true
second_of true b h = h
second_of false b h = absurd (true_false (sym h))

abbrev pub has_ended : PendingProc → Bool
has_ended pending = pending.ended

one_ended : (processes : List PendingProc) → list_all has_ended processes ≡ true → (d : PendingProc) (i : ℕ) → i < length processes → (get_or processes i d).ended ≡ true
one_ended [] h d i l = absurd (omega (arith, l))
one_ended (x ∷ xs) h d zero l = first_of x.ended (list_all has_ended xs) h
one_ended (x ∷ xs) h d (suc i) l = one_ended xs (second_of x.ended (list_all has_ended xs) h) d i (omega (arith, l))

-- ---- one worker

-- processes before the first entry
pub begun_seated : (code : Code) (s : RunConfig) (es : List Entry) (processes : List PendingProc) (c : SoloCursor) → es ≡ [] → IsSoloState code s [] processes c → AllUpToDate code s es processes
begun_seated code s es processes c is x = subst (λ xs. AllUpToDate code s xs processes) (sym is) x.seated

-- ---- what workers did

module _ (code : Code) (s : RunConfig) (es : List Entry) (processes : List PendingProc) (run : IsRun s es) (count : length processes ≡ s.procs) (seated : AllUpToDate code s es processes) where
  inside : (i : ℕ) → i < s.procs → i < length processes
  inside i l = subst (λ n. i < n) (sym count) l

  -- the processes tell whether all processes have their end
  all_have : list_all has_ended processes ≡ true → AllEnded s es
  all_have h i l = let d = some_pending processes i (inside i l) in (seated d i (inside i l)).ended ∙ one_ended processes h d i (inside i l)

  faultless : has_fault es ≡ false → has_fault es ≡ true → ⊥
  faultless f h = true_false (sym h ∙ f)

  pub came_faulted : has_fault es ≡ true → SoloOutcome code s es es processes how.Faulted
  came_faulted h = record {
    run = run;
    solo = λ solo. solo;
    ended = (λ e. cc, λ ended. absurd (fault_unended s es run h ended));
    faulted = (λ e. h, λ f. refl);
    count = count;
    seated = seated;
  }

  pub came_ended : has_fault es ≡ false → list_all has_ended processes ≡ true → SoloOutcome code s es es processes how.Ended
  came_ended f h = record {
    run = run;
    solo = λ solo. solo;
    ended = (λ e. all_have h, λ ended. refl);
    faulted = (λ e. cc, λ g. absurd (faultless f g));
    count = count;
    seated = seated;
  }

  -- they can be taken up where they stand
  pub taken_up : has_fault es ≡ false → IsSoloState code s es processes (record { next_proc = 0; blocked_below = 0 })
  taken_up f = starts code s es processes run f count seated
