-- Where no process can take an entry, none waits: all have their end, or some action is impossible.
use Rattle.std.proofs.Common.{◌≡◌, ℕ, zero, suc, ◌+◌, ◌<◌, ◌≤◌, nat_lt, Bool, true, false, if◌then◌else◌, ◌⊎◌, inl, inr, length, Some, List, refl, ap, sym, ◌∙◌, subst, arith, ltb-true}
use Rattle.std.proofs.lemmas.Bool.{ltb-false}
use Rattle.ti_base.specs.declared.place.Place.{Place}
use Rattle.ti_base.specs.declared.action.Action.{Action}
use Rattle.ti_base.specs.declared.action.Action.TheVariants as act
use Rattle.ti_base.specs.declared.entry.Entry.{Entry}
use Rattle.ti_base.specs.declared.entry.Next.{Next}
use Rattle.ti_base.specs.declared.entry.Next.TheVariants as next
use Rattle.ti_lang.specs.Meaning.Processes.{RunConfig, Process}
use Rattle.ti_lang.specs.Meaning.NextStep.{IsNext}
use Rattle.ti_base.specs.declared.entry.Answer.{Answer}
use Rattle.ti_lang.specs.Meaning.Steps.{At, step}
use Rattle.ti_lang.specs.Meaning.Histories.{history_of, is_departure, arrivals, departures, has_end, has_fault}
use Rattle.ti_lang.specs.Meaning.HeapAnswers.{Outcome, Answers, Faults, Impossible, heap_answer}
use Rattle.ti_lang.specs.Meaning.Runs.{AllEnded, ProcAfter, IsReady, CanTake, IsRun, entry_with, entry_of}
use Rattle.ti_lang.proofs.Lemmas.{next_some}
use Rattle.ti_align.specs.Alignment.{ArrivalsAgree, NoneAfterEnd}
use Rattle.ti_align.specs.Stopping.{is_delete_arrival, RoundsBalance}
use Rattle.ti_align.proofs.Runs.Ways.{Asked, asking, waiting}
use Rattle.ti_align.proofs.Runs.Entries.{left_count}
use Rattle.ti_align.proofs.Runs.Balance.{step_waits, balanced}
use Rattle.ti_align.proofs.Runs.Running.{on_way, at_action}
use Rattle.ti_align.proofs.Alignment.Aligning.{way_next}
use Rattle.ti_align.proofs.Alignment.Rounds.{left_one}
use Rattle.ti_align.proofs.Alignment.Possible.{ThingsThere, never}

-- ---- deletes

-- process i has come to the delete of a region that isn't there: there is neither an answer nor a fault
pub record DeletesNothing (s : RunConfig) (es : List Entry) (i : ℕ) : Type 0 where
  pub within : i < s.procs
  pub unended : has_end i es ≡ false
  pub process : Process
  pub world : ProcAfter s es i process
  pub place : Place
  pub action : Action
  pub is_next : IsNext process (next.Act place action)
  pub deletes : is_delete_arrival action ≡ true
  pub impossible : heap_answer s.program (history_of es) i action ≡ Impossible

-- a run stands still only by a fault: where there is none and no process can take an entry, all have their end, or some process has
-- come to the delete of a region that isn't there
abbrev pub NoneWaits : RunConfig → List Entry → Type 0
NoneWaits s es = has_fault es ≡ false → ((i : ℕ) (e : Entry) → CanTake s es i e → ⊥) → AllEnded s es ⊎ ((i : ℕ) × DeletesNothing s es i)

-- ---- fates

-- some process has come no further than this many arrivals
abbrev IsLate : RunConfig → List Entry → ℕ → Type 0
IsLate s es n = (j : ℕ) × (j < s.procs) × (arrivals j es ≤ n)

below : (j n : ℕ) → j < suc n → (j < n) ⊎ (j ≡ n)
below j n h = go (nat_lt j n) refl
  where
    go : (b : Bool) → nat_lt j n ≡ b → (j < n) ⊎ (j ≡ n)
    go true z = inl (ltb-true j n z)
    go false z = let k = ltb-false j n z in inr (omega arith)

-- all of the first processes have come further, or one has not
all_or_late : (s : RunConfig) (es : List Entry) (d n : ℕ) → n ≤ s.procs → ((j : ℕ) → j < n → d < arrivals j es) ⊎ IsLate s es d
all_or_late s es d zero l = inl (λ j h. absurd (none j h))
  where
    none : (j : ℕ) → j < 0 → ⊥
    none j h = absurd (omega arith)
all_or_late s es d (suc n) l = by (all_or_late s es d n (less n _ l)) (nat_lt d (arrivals n es)) refl
  where
    less : (a b : ℕ) → suc a ≤ b → a ≤ b
    less a b h = omega arith

    within : (a b : ℕ) → suc a ≤ b → a < b
    within a b h = omega arith

    by : ((j : ℕ) → j < n → d < arrivals j es) ⊎ IsLate s es d → (b : Bool) → nat_lt d (arrivals n es) ≡ b → ((j : ℕ) → j < suc n → d < arrivals j es) ⊎ IsLate s es d
    by (inr x) b z = inr x
    by (inl f) false z = inr (n, within n _ l, ltb-false d (arrivals n es) z)
    by (inl f) true z = inl (λ j h. each j (below j n h))
      where
        each : (j : ℕ) → (j < n) ⊎ (j ≡ n) → d < arrivals j es
        each j (inl k) = f j k
        each j (inr k) = subst (λ m. d < arrivals m es) (sym k) (ltb-true d (arrivals n es) z)

-- what becomes of a process
pub data Fate (s : RunConfig) (es : List Entry) (i : ℕ) : Type 0 where
  ended : has_end i es ≡ true → Fate s es i
  goes : (e : Entry) → CanTake s es i e → Fate s es i
  stuck : DeletesNothing s es i → Fate s es i
  waits : (j : ℕ) → j < s.procs → arrivals j es < arrivals i es → Fate s es i

-- an action that needs to wait for nobody
ready_fate : (s : RunConfig) (es : List Entry) (i : ℕ) → IsRun s es → ArrivalsAgree s es → ThingsThere s es → i < s.procs → has_fault es
    ≡ false → has_end i es ≡ false → (p : Process) → ProcAfter s es i p → (at : Place) (a : Action) → IsNext p (next.Act at a)
    → IsReady s es i (next.Act at a) → Fate s es i
ready_fate s es i run agree there l f u p w at a n r = by (heap_answer s.program (history_of es) i a) refl
  where
    entry : (o : Outcome) → heap_answer s.program (history_of es) i a ≡ o → entry_of s es i (next.Act at a) ≡ entry_with i at a o
    entry o z = ap (entry_with i at a) z

    taken : (e : Entry) → entry_of s es i (next.Act at a) ≡ Some e → Fate s es i
    taken e z = goes e (record { within = l; goes_on = f; unended = u; process = p; world = w; next = next.Act at a; is_next = n; ready = r; entry = z })

    by : (o : Outcome) → heap_answer s.program (history_of es) i a ≡ o → Fate s es i
    by (Answers x) z = taken _ (entry _ z)
    by (Faults k) z = taken _ (entry _ z)
    by Impossible z = named (is_delete_arrival a) refl
      where
        named : (b : Bool) → is_delete_arrival a ≡ b → Fate s es i
        named true k = stuck (record { within = l; unended = u; process = p; world = w; place = at; action = a; is_next = n; deletes = k; impossible = z })
        named false k = absurd (never s es run agree there i l p w at a n r k z)

earlier : (a d b : ℕ) → a ≡ suc d → b ≤ d → b < a
earlier a d b h k = omega arith

next_fate : (s : RunConfig) (es : List Entry) (i : ℕ) → IsRun s es → ArrivalsAgree s es → ThingsThere s es → i < s.procs → has_fault es
    ≡ false → has_end i es ≡ false → (p : Process) → ProcAfter s es i p → (n : Next) → IsNext p n → Fate s es i
next_fate s es i run agree there l f u p w (next.Act at act.Depart) n = by (all_or_late s es (departures i es) s.procs (same s.procs))
  where
    same : (k : ℕ) → k ≤ k
    same k = omega arith

    come : arrivals i es ≡ suc (departures i es)
    come =
        let a = at_action (step n.0) at act.Depart n.1.stands in
        let y = way_next s es i p n.0 run w n.1.reaches in
        left_one i n.0 a.0 a.1 (arrivals i es) (departures i es) at a.2
        (sym y.2 ∙ balanced s i n.0 y.0 y.1 ∙ ap (λ xs. length xs + waiting n.0.wait) y.3 ∙ ap (λ k. k + waiting n.0.wait) (left_count i es))

    by : ((j : ℕ) → j < s.procs → departures i es < arrivals j es) ⊎ IsLate s es (departures i es) → Fate s es i
    by (inl r) = ready_fate s es i run agree there l f u p w at act.Depart n r
    by (inr x) = waits x.0 x.1 (earlier _ _ _ come x.2)
next_fate s es i run agree there l f u p w (next.Act at a) n = ready_fate s es i run agree there l f u p w at a n tt
next_fate s es i run agree there l f u p w (next.End at) n =
    goes _ (record { within = l; goes_on = f; unended = u; process = p; world = w; next = next.End at; is_next = n; ready = tt; entry = refl })
next_fate s es i run agree there l f u p w (next.Fault k at) n =
    goes _ (record { within = l; goes_on = f; unended = u; process = p; world = w; next = next.Fault k at; is_next = n; ready = tt; entry = refl })

fate : (s : RunConfig) (es : List Entry) (i : ℕ) → IsRun s es → ArrivalsAgree s es → ThingsThere s es → i < s.procs → has_fault es ≡ false → Fate s es i
fate s es i run agree there l f = go (has_end i es) refl
  where
    go : (b : Bool) → has_end i es ≡ b → Fate s es i
    go true z = ended z
    go false z = let o = on_way s es run i in let n = next_some o.process in next_fate s es i run agree there l f z o.process o.world n.0 n.1

-- ---- all processes

module _ (s : RunConfig) (es : List Entry) (run : IsRun s es) (agree : ArrivalsAgree s es) (there : ThingsThere s es) (after : NoneAfterEnd s es) (f : has_fault es ≡ false) (none : (i : ℕ) (e : Entry) → CanTake s es i e → ⊥) where
  -- one that has come less than n times has its end, or something is impossible
  reaches : (n i : ℕ) → i < s.procs → arrivals i es < n → (has_end i es ≡ true) ⊎ ((i : ℕ) × DeletesNothing s es i)
  reaches zero i l h = absurd (no _ h)
    where
      no : (a : ℕ) → a < 0 → ⊥
      no a h = absurd (omega arith)
  reaches (suc n) i l h = by (fate s es i run agree there l f) (λ j m k. reaches n j m k)
    where
      lower : (a b n : ℕ) → a < b → b < suc n → a < n
      lower a b n x y = omega arith

      not_both : (a b : ℕ) → a < b → b ≤ a → ⊥
      not_both a b x y = absurd (omega arith)

      by : Fate s es i → ((j : ℕ) → j < s.procs → arrivals j es < n → (has_end j es ≡ true) ⊎ ((i : ℕ) × DeletesNothing s es i)) → (has_end i es ≡ true) ⊎ ((i : ℕ) × DeletesNothing s es i)
      by (ended z) ih = inl z
      by (goes e t) ih = absurd (none i e t)
      by (stuck x) ih = inr (i, x)
      by (waits j m k) ih = onward (ih j m (lower _ _ n k h))
        where
          onward : (has_end j es ≡ true) ⊎ ((i : ℕ) × DeletesNothing s es i) → (has_end i es ≡ true) ⊎ ((i : ℕ) × DeletesNothing s es i)
          onward (inl z) = absurd (not_both _ _ k (after j i m l z))
          onward (inr x) = inr x

  -- all of the first processes
  firsts : (n : ℕ) → n ≤ s.procs → ((i : ℕ) → i < n → has_end i es ≡ true) ⊎ ((i : ℕ) × DeletesNothing s es i)
  firsts zero l = inl (λ i h. absurd (no i h))
    where
      no : (a : ℕ) → a < 0 → ⊥
      no a h = absurd (omega arith)
  firsts (suc n) l = by (firsts n (less n _ l)) (reaches (suc (arrivals n es)) n (within n _ l) (own _))
    where
      less : (a b : ℕ) → suc a ≤ b → a ≤ b
      less a b h = omega arith

      within : (a b : ℕ) → suc a ≤ b → a < b
      within a b h = omega arith

      own : (a : ℕ) → a < suc a
      own a = omega arith

      by : ((i : ℕ) → i < n → has_end i es ≡ true) ⊎ ((i : ℕ) × DeletesNothing s es i) → (has_end n es ≡ true)
          ⊎ ((i : ℕ) × DeletesNothing s es i) → ((i : ℕ) → i < suc n → has_end i es ≡ true) ⊎ ((i : ℕ) × DeletesNothing s es i)
      by (inr x) y = inr x
      by (inl g) (inr x) = inr x
      by (inl g) (inl z) = inl (λ i h. each i (below i n h))
        where
          each : (i : ℕ) → (i < n) ⊎ (i ≡ n) → has_end i es ≡ true
          each i (inl k) = g i k
          each i (inr k) = subst (λ m. has_end m es ≡ true) (sym k) z

pub none_waits : (s : RunConfig) (es : List Entry) → IsRun s es → ArrivalsAgree s es → ThingsThere s es → NoneAfterEnd s es → NoneWaits s es
none_waits s es run agree there after f none = firsts s es run agree there after f none s.procs (same s.procs)
  where
    same : (k : ℕ) → k ≤ k
    same k = omega arith

-- ---- rounds

-- who waits leaves next, and nobody else does
waits_as : (q : Process) (at : Place) (a : Action) (v : Asked) (go : Answer → Process) → step q ≡ At (asking at a v) go → waiting q.wait ≡ (if is_departure a then 1 else 0)
waits_as q at act.Depart v go e = ap waiting (step_waits q (At (asking at act.Depart v) go) e).1
waits_as q at (act.Arrive kind arg given) v go e = ap waiting (step_waits q (At (asking at (act.Arrive kind arg given) v) go) e).0
waits_as q at (act.GetField obj field) v go e = ap waiting (step_waits q (At (asking at (act.GetField obj field) v) go) e).0
waits_as q at (act.PutField obj field value) v go e = ap waiting (step_waits q (At (asking at (act.PutField obj field value) v) go) e).0
waits_as q at (act.NewObj class region) v go e = ap waiting (step_waits q (At (asking at (act.NewObj class region) v) go) e).0
waits_as q at (act.NewGrid element domain region) v go e = ap waiting (step_waits q (At (asking at (act.NewGrid element domain region) v) go) e).0
waits_as q at (act.GetElem grid index) v go e = ap waiting (step_waits q (At (asking at (act.GetElem grid index) v) go) e).0
waits_as q at (act.PutElem grid index value) v go e = ap waiting (step_waits q (At (asking at (act.PutElem grid index value) v) go) e).0
waits_as q at (act.MakeView grid how) v go e = ap waiting (step_waits q (At (asking at (act.MakeView grid how) v) go) e).0
waits_as q at (act.DomainOf grid) v go e = ap waiting (step_waits q (At (asking at (act.DomainOf grid) v) go) e).0
waits_as q at (act.Print literal value) v go e = ap waiting (step_waits q (At (asking at (act.Print literal value) v) go) e).0
waits_as q at (act.Take who) v go e = ap waiting (step_waits q (At (asking at (act.Take who) v) go) e).0
waits_as q at (act.Fault kind) v go e = ap waiting (step_waits q (At (asking at (act.Fault kind) v) go) e).0
waits_as q at act.End v go e = ap waiting (step_waits q (At (asking at act.End v) go) e).0

pub rounds_balance : (s : RunConfig) (es : List Entry) → IsRun s es → RoundsBalance s es
rounds_balance s es run i p at a v n =
    let x = at_action (step n.0) at a n.1.stands in
    let y = way_next s es i p n.0 run v n.1.reaches in
    sym y.2 ∙ balanced s i n.0 y.0 y.1 ∙ ap (λ xs. length xs + waiting n.0.wait) y.3 ∙ ap (λ k. k + waiting n.0.wait) (left_count i es)
    ∙ ap (λ k. departures i es + k) (waits_as n.0 at a x.0 x.1 x.2)
