-- What the processes tell of a whole run, and the verdict behind the lines.
use Rattle.std.proofs.Common.{◌≡◌, inl, inr, ℕ, zero, suc, ◌+◌, ◌<◌, ◌≤◌, Bool, true, false, ◌&&◌, ◌||◌, List, [], ◌∷◌, ◌++◌, length, take, get_or, refl, ap, sym, ◌∙◌, subst, arith, append-nil}
use Rattle.std.specs.List.{list_all}
use Rattle.std.proofs.lemmas.List.{take_all, length-take-le}
use Rattle.ti_base.specs.declared.entry.Entry.{Entry}
use Rattle.ti_lang.specs.Meaning.Processes.{RunConfig}
use Rattle.ti_lang.specs.Meaning.Histories.{has_end, has_fault}
use Rattle.ti_lang.specs.Meaning.Runs.{IsRun, IsComplete, AllEnded}
use Rattle.ti_align.specs.Alignment.{OfEveryRun}
use Rattle.ti_align.specs.Answering.{AnswersFit}
use Rattle.ti_code.specs.Programs.{Code}
use Rattle.ti_code.specs.Follows.{Follows}
use Rattle.ti_store.specs.Conditions.{IsWithinRunLimits}
use Rattle.ti_store.specs.Stores.{StoreState, config_of}
use Rattle.ti_watch.specs.Reports.{trace_text}
use Rattle.ti_pending.specs.declared.pending.PendingProc.{PendingProc}
use Rattle.ti_pending.specs.Acting.{CodePremises}
use Rattle.ti_trace_check.specs.declared.replay.ReplayEnd.{ReplayEnd}
use Rattle.ti_trace_check.specs.declared.verdict.Verdict.{Verdict}
use Rattle.ti_trace_check.specs.declared.verdict.Verdict.TheVariants.{Run, NoRun}
use Rattle.ti_trace_check.specs.Mirrors.Replaying.{AcceptsActions, IsReplayState, ReplayOutcome, LeavesText, Gives}
use Rattle.ti_trace_check.specs.Verdicts.{IsWrong, Judges, HasRun}

true_false : true ≡ false → ⊥
true_false e = cc

-- ---- before the first line

-- a store of these terms that nothing halted yet
pub opens : (code : Code) (store : StoreState) (s : RunConfig) → config_of store ≡ s → store.halted ≡ false → IsWithinRunLimits s.procs s.fuel
    → Follows code s.program → OfEveryRun AnswersFit s.program → AcceptsActions code store
opens code store s same unhalted within follows fit = record {
  unhalted = unhalted;
  runs = subst (CodePremises code) (sym same) (record { within = within; follows = follows; fit = fit });
}

-- the processes stand there
pub stands_first : (code : Code) (s t : RunConfig) (es : List Entry) (processes : List PendingProc) → t ≡ s → es ≡ [] → IsReplayState code s [] processes → IsReplayState code t es processes
stands_first code s t es processes same none x = subst (λ es. IsReplayState code t es processes) (sym none) (subst (λ t. IsReplayState code t [] processes) (sym same) x)

-- ---- whether all had their end

abbrev pub all_have : List PendingProc → Bool
all_have processes = list_all (λ (pending : PendingProc). pending.ended) processes

-- the processes tell of the processes from number k on
abbrev Tells : List Entry → ℕ → List PendingProc → Type 0
Tells es k processes = (d : PendingProc) (i : ℕ) → i < length processes → has_end (k + i) es ≡ (get_or processes i d).ended

shift : (k i : ℕ) → k + 1 + i ≡ k + suc i
shift k i = omega arith

one_more : (i n : ℕ) → i < n → suc i < suc n
one_more i n l = omega arith

one_less : (i n : ℕ) → suc i < suc n → i < n
one_less i n l = omega arith

tells_rest : (es : List Entry) (k : ℕ) (x : PendingProc) (xs : List PendingProc) → Tells es k (x ∷ xs) → Tells es (k + 1) xs
tells_rest es k x xs t d i l = subst (λ n. has_end n es ≡ (get_or xs i d).ended) (sym (shift k i)) (t d (suc i) (one_more i (length xs) l))

first_of : (a b : Bool) → (a && b) ≡ true → a ≡ true
first_of true b h = refl
first_of false b h = cc

rest_of : (a b : Bool) → (a && b) ≡ true → b ≡ true
rest_of true b h = h
rest_of false b h = cc

all_ended : (es : List Entry) (k : ℕ) (processes : List PendingProc) → Tells es k processes → all_have processes ≡ true → (i : ℕ) → i < length processes → has_end (k + i) es ≡ true
all_ended es k [] t h i l = absurd (none i l)
  where
    none : (i : ℕ) → i < 0 → ⊥
    none i l = omega (arith, l)
all_ended es k (x ∷ xs) t h zero l = t x 0 l ∙ first_of x.ended (all_have xs) h
all_ended es k (x ∷ xs) t h (suc i) l =
    subst (λ n. has_end n es ≡ true) (shift k i) (all_ended es (k + 1) xs (tells_rest es k x xs t) (rest_of x.ended (all_have xs) h) i (one_less i (length xs) l))

not_all : (es : List Entry) (k : ℕ) (processes : List PendingProc) → Tells es k processes → all_have processes ≡ false → ((i : ℕ) → i < length processes → has_end (k + i) es ≡ true) → ⊥
not_all es k [] t h all = true_false h
not_all es k (x ∷ xs) t h all =
    not_all es (k + 1) xs (tells_rest es k x xs t) (by x.ended (sym (t x 0 (some (length xs))) ∙ all 0 (some (length xs))) h)
    (λ i l. subst (λ n. has_end n es ≡ true) (sym (shift k i)) (all (suc i) (one_more i (length xs) l)))
  where
    some : (n : ℕ) → 0 < suc n
    some n = omega arith

    by : (b : Bool) → b ≡ true → (b && all_have xs) ≡ false → all_have xs ≡ false
    by true e h = h
    by false e h = cc

module _ (code : Code) (s : RunConfig) (es : List Entry) (processes : List PendingProc) (x : IsReplayState code s es processes) where
  tells : Tells es 0 processes
  tells d i l = subst (λ n. has_end n es ≡ (get_or processes i d).ended) (plain i) (x.seated d i l).ended
    where
      plain : (i : ℕ) → i ≡ 0 + i
      plain i = omega arith

  ended : all_have processes ≡ true → AllEnded s es
  ended h i l = subst (λ n. has_end n es ≡ true) (plain i) (all_ended es 0 processes tells h i (subst (λ n. i < n) (sym x.count) l))
    where
      plain : (i : ℕ) → 0 + i ≡ i
      plain i = omega arith

  unended : all_have processes ≡ false → AllEnded s es → ⊥
  unended h all = not_all es 0 processes tells h (λ i l. subst (λ n. has_end n es ≡ true) (plain i) (all i (subst (λ n. i < n) x.count l)))
    where
      plain : (i : ℕ) → i ≡ 0 + i
      plain i = omega arith

  pub complete : (a b : Bool) → a ≡ all_have processes → b ≡ has_fault es → (a || b) ≡ true → IsComplete s es
  complete true b e f h = inr (ended (sym e))
  complete false b e f h = inl (sym f ∙ h)

  pub not_complete : (a b : Bool) → a ≡ all_have processes → b ≡ has_fault es → (a || b) ≡ false → IsComplete s es → ⊥
  not_complete true b e f h done = true_false h
  not_complete false b e f h (inl fault) = true_false (sym fault ∙ sym f ∙ h)
  not_complete false b e f h (inr all) = unended (sym e) all

-- ---- verdicts

module _ (code : Code) (s : RunConfig) (all : List Entry) (processes : List PendingProc) (end : ReplayEnd) (came : ReplayOutcome code s all processes end) (b : Bool) (yes : end.is_end ≡ true → b ≡ true → IsComplete s all) (no : end.is_end ≡ true → b ≡ false → IsComplete s all → ⊥) where
  whole : end.is_end ≡ true → take end.taken all ≡ all
  whole e = take_all end.taken all (least (length all) end.taken (came.whole e).0)
    where
      least : (n t : ℕ) → t ≡ n → n ≤ t
      least n t e = omega arith

  counted : length (take end.taken all) ≡ end.taken
  counted = length-take-le end.taken all came.within

  pub keeps : (v : Verdict) → Gives end b all v → HasRun s v
  keeps (Run es) g = (
    subst (IsRun s) (sym g.2) came.run,
    subst (IsComplete s) (sym (g.2 ∙ whole g.0)) (yes g.0 g.1),
  )
  keeps (NoRun line es) g = (subst (IsRun s) (sym g.2) came.run, g.1 ∙ ap (λ n. n + 1) (sym (ap length g.2 ∙ counted)))

  wrong : (text : List ℕ) → (x : LeavesText s text all end) → (end.is_end ≡ true → b ≡ false) → (f : Bool) → end.is_end ≡ f → IsWrong s (take end.taken all) x.left
  wrong text x h true e = inr (x.nothing e, λ c. no e (h e) (subst (IsComplete s) (whole e) c))
  wrong text x h false e = inl (x.wrong e)

  pub judges : (text : List ℕ) → LeavesText s text all end → (v : Verdict) → Gives end b all v → Judges s text v
  judges text x (Run es) g = record {
    run = subst (IsRun s) (sym g.2) came.run;
    complete = subst (IsComplete s) (sym (g.2 ∙ whole g.0)) (yes g.0 g.1);
    is = x.begins ∙ ap (λ l. trace_text (take end.taken all) ++ l) (x.nothing g.0) ∙ append-nil (trace_text (take end.taken all)) ∙ ap trace_text (sym g.2);
  }
  judges text x (NoRun line es) g = record {
    run = subst (IsRun s) (sym g.2) came.run;
    number = g.1 ∙ ap (λ n. n + 1) (sym (ap length g.2 ∙ counted));
    left = x.left;
    begins = x.begins ∙ ap (λ xs. trace_text xs ++ x.left) (sym g.2);
    wrong = subst (λ xs. IsWrong s xs x.left) (sym g.2) (wrong text x g.0 end.is_end refl);
  }
