-- Whether all processes of a run have their end, and its summary.
use Rattle.std.proofs.Common.{◌≡◌, inr, ℕ, zero, suc, ◌+◌, ◌<◌, Bool, true, false, ◌&&◌, if◌then◌else◌, List, [], arith, refl, ap, subst}
use Rattle.std.specs.List.{list_all, range_with_len}
use Rattle.ti_base.specs.declared.entry.Entry.{Entry}
use Rattle.ti_lang.specs.Meaning.Processes.{RunConfig}
use Rattle.ti_lang.specs.Meaning.Histories.{has_end}
use Rattle.ti_lang.specs.Meaning.Runs.{IsRun, AllEnded}
use Rattle.ti_top.specs.declared.exit.Exit.{Exit}
use Rattle.ti_top.specs.declared.exit.Exit.TheVariants.{Done, Refused, Faulted, NoCommand, CantRead, CantWrite, NoMemory, NoRun}
use Rattle.ti_top.specs.Summary.{summary_line, have_ended, summary_text}
use Rattle.ti_top.specs.Mirrors.RunEnds.{RunEnds}
use Rattle.ti_top.specs.Mirrors.JobView.{summary_after}
use Rattle.ti_top.proofs.FaultLast.{fault_is_there, not_all_ended}

-- ---- a test of each number

both : (x y : Bool) → x ≡ true → y ≡ true → (x && y) ≡ true
both true y first next = next
both false y first next = first

one : (x y : Bool) → (x && y) ≡ true → x ≡ true
one true y h = refl
one false y h = h

other : (x y : Bool) → (x && y) ≡ true → y ≡ true
other true y h = h
other false y h = cc

all_pass : (test : ℕ → Bool) (a n : ℕ) → ((i : ℕ) → i < a + n → test i ≡ true) → list_all test (range_with_len a n) ≡ true
all_pass test a zero each = refl
all_pass test a (suc n) each = both (test a) (list_all test (range_with_len (a + 1) n)) (each a (omega arith)) (all_pass test (a + 1) n (λ i below. each i (omega arith)))

each_passes : (test : ℕ → Bool) (a n i j : ℕ) → list_all test (range_with_len a n) ≡ true → i < n → a + i ≡ j → test j ≡ true
each_passes test a zero i j all below at = absurd (omega arith)
each_passes test a (suc n) zero j all below at = subst (λ k. test k ≡ true) (omega arith) (one (test a) (list_all test (range_with_len (a + 1) n)) all)
each_passes test a (suc n) (suc i) j all below at = each_passes test (a + 1) n i j (other (test a) (list_all test (range_with_len (a + 1) n)) all) (omega arith) (omega arith)

-- ---- all processes

all_have : (s : RunConfig) (es : List Entry) → AllEnded s es → have_ended s es ≡ true
all_have s es ended = all_pass (λ i. has_end i es) 0 s.procs (λ i below. ended i (omega arith))

some_has_not : (s : RunConfig) (es : List Entry) → (AllEnded s es → ⊥) → have_ended s es ≡ false
some_has_not s es unended = decided (have_ended s es) (λ all. unended (λ i below. each_passes (λ i. has_end i es) 0 s.procs i i all below (omega arith)))
  where
    decided : (b : Bool) → (b ≡ true → ⊥) → b ≡ false
    decided true never = absurd (never refl)
    decided false never = refl

-- ---- the summary

-- that of a run in which all processes have their end
there : (s : RunConfig) (es : List Entry) → AllEnded s es → summary_text s es ≡ summary_line es
there s es ended = ap (λ (b : Bool). if b then summary_line es else []) (all_have s es ended)

-- any other has none
pub no_summary : (s : RunConfig) (es : List Entry) → (AllEnded s es → ⊥) → summary_text s es ≡ []
no_summary s es unended = ap (λ (b : Bool). if b then summary_line es else []) (some_has_not s es unended)

-- that of a run that ended so
pub summary_is : (ended : Exit) (s : RunConfig) (es : List Entry) → IsRun s es → RunEnds s es ended → summary_text s es ≡ summary_after ended es
summary_is Done s es run ends = there s es ends.0
summary_is (Refused refusal) s es run ends = absurd ends
summary_is (Faulted fault) s es run ends = no_summary s es (not_all_ended s es run (fault_is_there es fault ends))
summary_is NoCommand s es run ends = absurd ends
summary_is CantRead s es run ends = absurd ends
summary_is CantWrite s es run ends = absurd ends
summary_is NoMemory s es run ends = no_summary s es (λ ended. ends (inr ended))
summary_is (NoRun line) s es run ends = absurd ends
