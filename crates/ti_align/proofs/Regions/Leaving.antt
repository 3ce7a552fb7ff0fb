-- A region goes where the first process leaves its delete: by then all wait at it, and nothing names a thing in it.
use Rattle.std.proofs.Common.{◌≡◌, ◌⊎◌, inl, inr, ℕ, suc, ◌+◌, ◌<◌, ◌≤◌, ◌==◌, nat_lt, Bool, true, false, not, ◌&&◌, ◌||◌, length, Contains, Option, Some, None, List, [], ◌∷◌, ◌++◌, refl, ap, ap₂, sym, ◌∙◌, subst, arith, append-nil, eq-eqb, eqb-true, ltb-true}
use Rattle.std.proofs.lemmas.Bool.{ltb-false}
use Rattle.ti_base.specs.declared.value.Value.{Value}
use Rattle.ti_base.specs.declared.fault.FaultKind.TheVariants.{RegionInUse}
use Rattle.ti_base.specs.declared.action.Action.TheVariants as act
use Rattle.ti_base.specs.declared.action.CollKind.TheVariants as coll
use Rattle.ti_base.specs.declared.action.Deposit.TheVariants as deposit
use Rattle.ti_base.specs.declared.entry.Answer.{Answer}
use Rattle.ti_base.specs.declared.entry.Answer.TheVariants.{Done}
use Rattle.ti_base.specs.declared.entry.Entry.{Entry}
use Rattle.ti_base.specs.declared.entry.Next.TheVariants as next
use Rattle.ti_base.specs.Cells.{Cell}
use Rattle.ti_lang.specs.Program.Classes.{ProgramView}
use Rattle.ti_lang.specs.Meaning.Processes.{RunConfig, Wait, Process}
use Rattle.ti_lang.specs.Meaning.Steps.{named_in}
use Rattle.ti_lang.specs.Meaning.NextStep.{here}
use Rattle.ti_lang.specs.Meaning.Histories.{History, history_of, is_departure, arrivals, departures}
use Rattle.ti_lang.specs.Meaning.RoundsOf.{Arrival, round_of, arrival_at, last_arrival, value_in, was_left, deletes, is_delete_of, is_positive_count, counts_some, was_counted}
use Rattle.ti_lang.specs.Meaning.RegionsOf.{is_gone}
use Rattle.ti_lang.specs.Meaning.RegionUse.{names, is_outside, is_in_use}
use Rattle.ti_lang.specs.Meaning.HeapOf.{cells_of, cell_value}
use Rattle.ti_lang.specs.Meaning.HeapAnswers.{Answers, where_some, faults_if, departs, heap_answer, IsAnswered, more}
use Rattle.ti_lang.specs.Meaning.Runs.{ProcAfter, IsReady, CanTake, IsRun}
use Rattle.ti_lang.specs.Meaning.Runs as run
use Rattle.ti_lang.proofs.Lemmas.{taker, history_grows, run_answered}
use Rattle.ti_align.specs.Alignment.{ArrivalsAgree}
use Rattle.ti_align.proofs.Runs.Vars.{true_false, or_false, or_left, or_right, and_left, and_right, not_true}
use Rattle.ti_align.proofs.Runs.Ways.{last_from, answers_at_departures, waiting}
use Rattle.ti_align.proofs.RunTypes.Operating.{none_some, some_same}
use Rattle.ti_align.proofs.Runs.Entries.{departures_both, left_count}
use Rattle.ti_align.proofs.Runs.Balance.{balanced}
use Rattle.ti_align.proofs.Runs.Arrived.{back, Comes, before, now, comes, stays}
use Rattle.ti_align.proofs.Runs.Given.{AllFree, IsExchange}
use Rattle.ti_align.proofs.Runs.Given as given_facts
use Rattle.ti_align.proofs.Runs.Running.{on_way}
use Rattle.ti_align.proofs.Alignment.Aligning.{way_next}
use Rattle.ti_align.proofs.Alignment.Rounds.{told_now, acts_as, depart_answered, depart_is, has_come, leaves, left_now, none_left, arrival_is, alike}
use Rattle.ti_align.proofs.Runs.Acted.{said_by}
use Rattle.ti_align.proofs.Runs.Waiting.{run_waits}
use Rattle.ti_align.proofs.Owners.Counted.{each_fails}

-- ---- rounds that were left

one_longer : (xs : List Answer) (x : Answer) → length (xs ++ x ∷ []) ≡ suc (length xs)
one_longer [] x = refl
one_longer (y ∷ ys) x = ap suc (one_longer ys x)

-- a process has left its rounds in their order
rounds_left : (s : RunConfig) (es : List Entry) → IsRun s es → (j n : ℕ) → 0 < n → n ≤ length (answers_at_departures j es) → was_left n (history_of es) ≡ true
rounds_left s es run.none j n k l = absurd (none n k l)
  where
    none : (n : ℕ) → 0 < n → n ≤ 0 → ⊥
    none n k l = absurd (omega (arith, k, l))
rounds_left s all (run.more {es = es} {i = p} {e = e} w t z) j n k l =
    subst (λ x. was_left n x ≡ true) (sym (ap history_of z ∙ history_grows es e))
    (by (leaves j e) refl (subst (λ x. n ≤ length (answers_at_departures j x)) z l) (λ m. rounds_left s es w j n k m))
  where
    at_or_before : (n m : ℕ) → n ≤ suc m → (n ≤ m) ⊎ (n ≡ suc m)
    at_or_before n m h = go (nat_lt m n) refl
      where
        go : (b : Bool) → nat_lt m n ≡ b → (n ≤ m) ⊎ (n ≡ suc m)
        go true y = let x : m < n = ltb-true m n y in inr (omega (arith, h, x))
        go false y = inl (ltb-false m n y)

    last : leaves j e ≡ true → (n ≤ length (answers_at_departures j es) → was_left n (history_of es) ≡ true)
        → (n ≤ length (answers_at_departures j es)) ⊎ (n ≡ suc (length (answers_at_departures j es))) → was_left n (e ∷ history_of es)
        ≡ true
    last q ih (inl m) = or_right _ _ (ih m)
    last q ih (inr m) =
        let same : e.proc ≡ j = eqb-true e.proc j (and_left (e.proc == j) _ q) in
        let own : CanTake s es j e = subst (λ i. CanTake s es i e) (sym (taker s es p e t) ∙ same) t in
        let come : arrivals j es ≡ suc (length (answers_at_departures j es)) = has_come s es j e w own (and_right (e.proc == j) _ q) in
        or_left _ _ (ap₂ (λ x y. x && y) (and_right (e.proc == j) _ q) (eq-eqb (round_of e.proc (history_of es)) n (ap (λ i. arrivals i (history_of es)) same ∙ back j es ∙ come ∙ sym m)))

    by : (b : Bool) → leaves j e ≡ b → n ≤ length (answers_at_departures j (es ++ e ∷ []))
        → (n ≤ length (answers_at_departures j es) → was_left n (history_of es) ≡ true) → was_left n (e ∷ history_of es) ≡ true
    by false q l ih = or_right _ _ (ih (subst (λ xs. n ≤ length xs) (departures_both j es (e ∷ [])
        ∙ ap (λ xs. answers_at_departures j es ++ xs) (none_left j e q) ∙ append-nil (answers_at_departures j es)) l))
    by true q l ih =
        last q ih (at_or_before n (length (answers_at_departures j es))
        (subst (λ m. n ≤ m) (ap length (departures_both j es (e ∷ []) ∙ ap (λ xs. answers_at_departures j es ++ xs) (left_now j e q)) ∙ one_longer (answers_at_departures j es) e.answer) l))

-- where all that arrive at a round delete the region, it is gone once the round was left
left_gone : (p : ProgramView) (h : History) (r n : ℕ) → IsAnswered p h
    → ((j : ℕ) (a : Arrival) → arrival_at j n h ≡ Some a → is_delete_of r (Some a) ≡ true) → was_left n h ≡ true → is_gone r h ≡ true
left_gone p [] r n answered f z = absurd (true_false (sym z))
left_gone p (e ∷ h) r n (more answered said) f z = by (is_departure e.act && (round_of e.proc h == n)) refl z (λ y. left_gone p h r n answered (λ j a q. f j a (stays j n e h a q)) y)
  where
    at_last : is_departure e.act ≡ true → round_of e.proc h ≡ n → is_delete_of r (last_arrival e.proc h) ≡ true
    at_last d m =
        let told = told_now p h e.proc e.answer (sym (ap (heap_answer p h e.proc) (depart_is e.act d)) ∙ said) in
        ap (is_delete_of r) told.is ∙ f e.proc told.arrival (stays e.proc n e h told.arrival (subst (λ k. arrival_at e.proc k h ≡ Some told.arrival) m told.is))

    by : (b : Bool) → (is_departure e.act && (round_of e.proc h == n)) ≡ b → (b || was_left n h) ≡ true → (was_left n h ≡ true → is_gone r h ≡ true) → is_gone r (e ∷ h) ≡ true
    by true k y ih =
        let d = and_left (is_departure e.act) _ k in
        or_left _ _ (ap₂ (λ x y. x && y) d (at_last d (eqb-true (round_of e.proc h) n (and_right (is_departure e.act) _ k))))
    by false k y ih = or_right _ _ (ih y)

-- ---- counts

-- where no process arrived with a count above 0, each count is 0
uncounted : (h : History) (j n : ℕ) (a : Arrival) → arrival_at j n h ≡ Some a → was_counted n h ≡ false → is_positive_count a.deposit ≡ false
uncounted [] j n a z k = absurd (none_some a z)
uncounted (e ∷ h) j n a z k = by (comes j n e h a z) (λ y. uncounted h j n a y (or_false _ _ k).1)
  where
    not_both : (a b : Bool) → b ≡ true → (a && b) ≡ false → a ≡ false
    not_both true b x y = absurd (true_false (sym x ∙ y))
    not_both false b x y = refl

    by : Comes j n e h a → (arrival_at j n h ≡ Some a → is_positive_count a.deposit ≡ false) → is_positive_count a.deposit ≡ false
    by (before y) ih = ih y
    by (now o c y) ih =
        let same : e.proc ≡ j = eqb-true e.proc j (and_left (e.proc == j) _ o) in
        sym (ap counts_some (arrival_is e.act a y))
        ∙ not_both (counts_some e.act) (round_of e.proc (e ∷ h) == n) (eq-eqb (round_of e.proc (e ∷ h)) n (ap (λ i. arrivals i (e ∷ h)) same ∙ c)) (or_false _ _ k).0

no_count : (n : ℕ) → is_positive_count (deposit.Count n) ≡ false → n ≡ 0
no_count n z = let l = ltb-false 0 n z in omega (arith, l)

-- only processes of the run arrive
pub arrived_within : (s : RunConfig) (es : List Entry) → IsRun s es → (who n : ℕ) (a : Arrival) → arrival_at who n (history_of es) ≡ Some a → who < s.procs
arrived_within s es run.none who n a z = absurd (none_some a z)
arrived_within s all (run.more {es = es} {i = p} {e = e} w t y) who n a z =
    by (comes who n e (history_of es) a (sym (ap (arrival_at who n) (ap history_of y ∙ history_grows es e)) ∙ z)) (λ g. arrived_within s es w who n a g)
  where
    by : Comes who n e (history_of es) a → (arrival_at who n (history_of es) ≡ Some a → who < s.procs) → who < s.procs
    by (before g) ih = ih g
    by (now o c g) ih = subst (λ i. i < s.procs) (sym (taker s es p e t) ∙ eqb-true e.proc who (and_left (e.proc == who) _ o)) t.within

-- ---- the first departure

module _ (s : RunConfig) (es : List Entry) (e : Entry) (ran : IsRun s es) (agree : ArrivalsAgree s es) (t : CanTake s es e.proc e) (leaving : e.act ≡ act.Depart) where
  abbrev h : History
  h = history_of es

  abbrev i : ℕ
  i = e.proc

  -- the round that is left
  abbrev pub round : ℕ
  round = arrivals i h

  come : arrivals i es ≡ suc (departures i es)
  come = has_come s es i e ran t (ap is_departure leaving) ∙ ap suc (left_count i es)

  all_come : (j : ℕ) → j < s.procs → departures i es < arrivals j es
  all_come = subst (IsReady s es i) (acts_as s es i t.next e t.entry (depart_answered e (ap is_departure leaving)) ∙ ap (next.Act e.place) leaving) t.ready

  above : (n a d : ℕ) → n ≡ a → a ≡ suc d → 0 < n
  above n a d x y = omega (arith, x, y)

  must_wait : (n a d b k : ℕ) → n ≡ a → a ≡ suc d → d < b → k < n → b ≡ k + 0 → ⊥
  must_wait n a d b k x y z l m = absurd (omega (arith, x, y, z, l, m))

  here_too : (n a d b k c : ℕ) → n ≡ a → a ≡ suc d → d < b → k < n → b ≡ k + 1 → c ≡ b → c ≡ n
  here_too n a d b k c x y z l m q = omega (arith, x, y, z, l, m, q)

  -- until it was left all processes wait at it
  all_wait : was_left round h ≡ false → (j : ℕ) (p : Process) → j < s.procs → ProcAfter s es j p → (w : Wait) × (p.wait ≡ Some w) × (arrivals j h ≡ round)
  all_wait first j p l x = by p.wait refl
    where
      both : arrivals j es ≡ length (answers_at_departures j es) + waiting p.wait
      both = let k = way_next s es j p p ran x here in sym k.2 ∙ balanced s j p k.0 k.1 ∙ ap (λ xs. length xs + waiting p.wait) k.3

      late : length (answers_at_departures j es) < round
      late = go (nat_lt (length (answers_at_departures j es)) round) refl
        where
          go : (b : Bool) → nat_lt (length (answers_at_departures j es)) round ≡ b → length (answers_at_departures j es) < round
          go true z = ltb-true (length (answers_at_departures j es)) round z
          go false z =
              absurd (true_false (sym (rounds_left s es ran j round (above round (arrivals i es) (departures i es) (back i es) come)
              (ltb-false (length (answers_at_departures j es)) round z)) ∙ first))

      by : (o : Option Wait) → p.wait ≡ o → (w : Wait) × (p.wait ≡ Some w) × (arrivals j h ≡ round)
      by None z =
          absurd (must_wait round (arrivals i es) (departures i es) (arrivals j es) (length (answers_at_departures j es)) (back i es) come
          (all_come j l) late (both ∙ ap (λ o. length (answers_at_departures j es) + waiting o) z))
      by (Some w) z = (
        w,
        z,
        here_too round (arrivals i es) (departures i es) (arrivals j es) (length (answers_at_departures j es)) (arrivals j h)
            (back i es) come (all_come j l) late (both ∙ ap (λ o. length (answers_at_departures j es) + waiting o) z) (back j es),
      )

  -- where it deletes a region that isn't gone yet
  module _ (a : Arrival) (last : last_arrival i h ≡ Some a) (r : ℕ) (kind : a.kind ≡ coll.DeleteRegion) (arg : a.arg ≡ Some r) (there : is_gone r h ≡ false) where
    all_delete : (j : ℕ) (b : Arrival) → arrival_at j round h ≡ Some b → (b.kind ≡ coll.DeleteRegion) × (b.arg ≡ Some r)
    all_delete j b z =
        let n : round ≡ suc (departures i es) = back i es ∙ come in
        let k = alike s es ran agree j i (departures i es) b a (subst (λ m. arrival_at j m h ≡ Some b) n z) (subst (λ m. arrival_at i m h ≡ Some a) n last) in
        (k.0 ∙ kind, k.1 ∙ arg)

    first : was_left round h ≡ false
    first =
        not_true (was_left round h) (λ z. true_false (sym (left_gone s.program h r round (run_answered s es ran)
        (λ j b y. let d = all_delete j b y in ap₂ (deletes r) d.0 d.1 ∙ eq-eqb r r refl) z) ∙ there))

    unused : is_in_use s.program r round h ≡ false
    unused =
        sym (ap (λ b. not b && is_in_use s.program r round h) first)
        ∙ no_fault (not (was_left round h) && is_in_use s.program r round h)
        (sym (ap₂ (departs s.program h i) kind arg)
        ∙ sym (ap (λ o. where_some o (λ (a : Arrival). departs s.program h i a.kind a.arg)) last)
        ∙ sym (ap (heap_answer s.program h i) leaving) ∙ said_by s es e t ran)
      where
        no_fault : (b : Bool) → faults_if b RegionInUse (Answers Done) ≡ Answers e.answer → b ≡ false
        no_fault true z = cc
        no_fault false z = refl

    -- what a process has said at it
    said_there : (j : ℕ) (p : Process) → j < s.procs → ProcAfter s es j p
        → (w : Wait) × (b : Arrival) × (p.wait ≡ Some w) × (w.kind ≡ coll.DeleteRegion) × (arrival_at j round h ≡ Some b) × (b.deposit ≡ deposit.Count (named_in r p.frames))
    said_there j p l x =
        let w = all_wait first j p l x in
        let k = run_waits s es ran j p x w.0 w.1 in
        let at : arrival_at j round h ≡ Some k.0 = subst (λ m. arrival_at j m h ≡ Some k.0) w.2 k.1 in
        let d = all_delete j k.0 at in
        let c = k.3 d.0 in
        (w.0, k.0, w.1, sym k.2 ∙ d.0, at, c.2 ∙ ap (λ n. deposit.Count (named_in n p.frames)) (some_same c.0 r (sym c.1 ∙ d.1)))

    -- no frame names a thing in the region, and no work holds a value
    pub emptied : (j : ℕ) (p : Process) → j < s.procs → ProcAfter s es j p → (w : Wait) × (p.wait ≡ Some w) × (named_in r p.frames ≡ 0) × AllFree p.frames
    emptied j p l x =
        let k = said_there j p l x in
        (k.0, k.2, no_count (named_in r p.frames) (sym (ap is_positive_count k.5) ∙ uncounted h j round k.1 k.4 (or_false _ _ unused).1), free k.0 k.2 k.3)
      where
        other : coll.DeleteRegion ≡ coll.Exchange → ⊥
        other z = cc

        free : (w : Wait) → p.wait ≡ Some w → w.kind ≡ coll.DeleteRegion → AllFree p.frames
        free w z d =
            let y = way_next s es j p p ran x here in
            by (subst (λ o. given_facts.WaitFine s.procs (last_from None y.0) o p.frames) z (given_facts.stands s j p y.0 y.1).2).1
          where
            by : AllFree p.frames ⊎ IsExchange w → AllFree p.frames
            by (inl k) = k
            by (inr k) = absurd (other (sym d ∙ k.1))

    -- no value was given in the round
    pub none_given : (j : ℕ) (b : Arrival) (value : Value) → arrival_at j round h ≡ Some b → value_in b.deposit ≡ Some value → ⊥
    none_given j b value z k =
        let o = on_way s es ran j in
        let d = said_there j o.process (arrived_within s es ran j round b z) o.world in
        none_some value (sym (ap value_in d.5) ∙ ap (λ (a : Arrival). value_in a.deposit) (some_same d.1 b (sym d.4 ∙ z)) ∙ k)

    pub round_here : (j : ℕ) → j < s.procs → arrivals j h ≡ round
    round_here j l = let o = on_way s es ran j in (all_wait first j o.process l o.world).2

    -- no cell outside the region names a thing in it
    pub none_named : (c : Cell) → Contains (cells_of s.program h) c → is_outside r c h ≡ true → names r (cell_value s.program c h) ≡ false
    none_named c k o =
        sym (ap (λ b. b && names r (cell_value s.program c h)) o)
        ∙ each_fails (λ cell. is_outside r cell h && names r (cell_value s.program cell h)) (cells_of s.program h) c k (or_false _ _ unused).0
