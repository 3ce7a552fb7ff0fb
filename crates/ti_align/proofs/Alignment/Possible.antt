-- What waits for nobody and names no thing is never impossible: each departure and each take has an answer or a fault.
use Rattle.std.proofs.Common.{◌≡◌, ℕ, zero, suc, ◌+◌, ◌<◌, ◌≤◌, ◌==◌, Bool, true, false, not, ◌&&◌, cond, count_by, if◌then◌else◌, length, option_map, Option, Some, None, List, [], ◌∷◌, ◌++◌, refl, ap, sym, ◌∙◌, subst, arith, eqb-true}
use Rattle.std.specs.Option.{option_and_then}
use Rattle.std.proofs.lemmas.List.{length-map}
use Rattle.std.proofs.lemmas.List.Elements.{filter-append}
use Rattle.std.proofs.lemmas.List.Sums.{length-filter, sum_by-append}
use Rattle.ti_base.specs.declared.place.Place.{Place}
use Rattle.ti_base.specs.declared.fault.FaultKind.{FaultKind}
use Rattle.ti_base.specs.declared.fault.FaultKind.TheVariants.{RegionInUse}
use Rattle.ti_base.specs.declared.action.Action.{Action}
use Rattle.ti_base.specs.declared.action.Action.TheVariants as act
use Rattle.ti_base.specs.declared.action.CollKind.{CollKind}
use Rattle.ti_base.specs.declared.action.CollKind.TheVariants as coll
use Rattle.ti_base.specs.declared.action.Deposit.{Deposit}
use Rattle.ti_base.specs.declared.entry.Answer.TheVariants.{Done}
use Rattle.ti_base.specs.declared.entry.Entry.{Entry}
use Rattle.ti_base.specs.declared.entry.Next.TheVariants as next
use Rattle.ti_lang.specs.Meaning.Processes.{RunConfig, Process}
use Rattle.ti_lang.specs.Meaning.Steps.{At, step}
use Rattle.ti_lang.specs.Meaning.NextStep.{IsNext}
use Rattle.ti_lang.specs.Meaning.Histories.{History, history_of, is_arrival, is_departure, entries_of, arrivals, departures}
use Rattle.ti_lang.specs.Meaning.RoundsOf.{Arrival, arrival_in, arrival_at, last_arrival, value_in, deposit_from, was_left}
use Rattle.ti_lang.specs.Meaning.RegionUse.{is_in_use}
use Rattle.ti_lang.specs.Meaning.HeapAnswers.{Answers, Faults, Impossible, where_some, answers_value, leaves_delete, departs, heap_answer}
use Rattle.ti_lang.specs.Meaning.Runs.{ProcAfter, IsReady, CanTake, IsRun}
use Rattle.ti_lang.specs.Meaning.Runs as run
use Rattle.ti_lang.proofs.Lemmas.{taker, history_grows}
use Rattle.ti_align.specs.Alignment.{ArrivalsAgree}
use Rattle.ti_align.specs.Stopping.{is_delete_arrival}
use Rattle.ti_align.specs.Heap.{is_of_heap}
use Rattle.ti_align.proofs.Runs.Ways.{asking, answers_at_departures, waiting, last_from}
use Rattle.ti_align.proofs.Runs.Vars.{true_false, and_left, and_right}
use Rattle.ti_align.proofs.Runs.Balance.{step_waits, balanced}
use Rattle.ti_align.proofs.Runs.Entries.{own, other, arrivals_both}
use Rattle.ti_align.proofs.Runs.Arrived.{more_own, back, Comes, before, now, comes, there, last_kind}
use Rattle.ti_align.proofs.Runs.Running.{at_action}
use Rattle.ti_align.proofs.Alignment.Aligning.{way_next}
use Rattle.ti_align.proofs.Alignment.Rounds.{acts_as, arrive_answered, arrival_is, left_one, alike, root_same, depart_answered}
use Rattle.ti_align.proofs.Runs.Given.{HasValue, ArrivalFine, step_fine, stands}
use Rattle.ti_align.proofs.RunTypes.Heaping.{answer_not}

-- ---- what processes have given

come_now : (s : RunConfig) (es : List Entry) (i : ℕ) (e : Entry) (a : Arrival) → IsRun s es → CanTake s es i e → is_arrival e.act ≡ true
    → arrival_in e.act ≡ Some a → ArrivalFine s.procs i a.kind a.arg a.deposit
come_now s es i e a w t l y =
    let q = t.is_next.0 in
    let n : t.next ≡ next.Act e.place (act.Arrive a.kind a.arg a.deposit) = acts_as s es i t.next e t.entry (arrive_answered e l) ∙ ap (next.Act e.place) (arrival_is e.act a y) in
    let z = at_action (step q) e.place (act.Arrive a.kind a.arg a.deposit) (t.is_next.1.stands ∙ ap Some n) in
    let k = way_next s es i t.process q w t.world t.is_next.1.reaches in
    (step_fine s i (last_from None k.0) q (At (asking e.place (act.Arrive a.kind a.arg a.deposit) z.0) z.1) (stands s i q k.0 k.1) z.2).0

none_arrival : (b : Arrival) → ◌≡◌ {A = Option Arrival} None (Some b) → ⊥
none_arrival b h = cc

pub come_fine : (s : RunConfig) (es : List Entry) → IsRun s es → (i n : ℕ) (a : Arrival) → arrival_at i n (history_of es) ≡ Some a → ArrivalFine s.procs i a.kind a.arg a.deposit
come_fine s es run.none i n a z = absurd (none_arrival a z)
come_fine s all (run.more {es = es} {i = p} {e = e} w t y) i n a z =
    by (comes i n e (history_of es) a (sym (ap (arrival_at i n) (ap history_of y ∙ history_grows es e)) ∙ z)) (λ g. come_fine s es w i n a g)
  where
    by : Comes i n e (history_of es) a → (arrival_at i n (history_of es) ≡ Some a → ArrivalFine s.procs i a.kind a.arg a.deposit) → ArrivalFine s.procs i a.kind a.arg a.deposit
    by (before g) ih = ih g
    by (now o c g) ih =
        let who : p ≡ i = sym (taker s es p e t) ∙ eqb-true e.proc i (and_left _ _ o) in
        come_now s es i e a w (subst (λ j. CanTake s es j e) who t) (and_right (e.proc == i) _ o) g

-- an arrival has a number
not_first : (i : ℕ) (h : History) (a : Arrival) → arrival_at i 0 h ≡ Some a → ⊥
not_first i [] a z = none_arrival a z
not_first i (e ∷ h) a z = by (comes i 0 e h a z) (λ g. not_first i h a g)
  where
    no : (n m : ℕ) → n ≡ 0 → n ≡ suc m → ⊥
    no n m x y = absurd (omega arith)

    by : Comes i 0 e h a → (arrival_at i 0 h ≡ Some a → ⊥) → ⊥
    by (before g) ih = ih g
    by (now o c g) ih = no _ _ c (more_own i e h o)

-- ---- who has left a round, all have come to it

left_both : (i : ℕ) (es ds : List Entry) → departures i (es ++ ds) ≡ departures i es + departures i ds
left_both i es ds =
    ap (count_by (λ (e : Entry). is_departure e.act)) (filter-append (λ (e : Entry). e.proc == i) es ds)
    ∙ sum_by-append (λ (e : Entry). cond (is_departure e.act) 1 0) (entries_of i es) (entries_of i ds)

none_left : (i : ℕ) (e : Entry) → ((e.proc == i) && is_departure e.act) ≡ false → departures i (e ∷ []) ≡ 0
none_left i e k = go (e.proc == i) refl
  where
    uncounted : is_departure e.act ≡ false → count_by (λ (e : Entry). is_departure e.act) (e ∷ []) ≡ 0
    uncounted h = rw h refl

    go : (b : Bool) → (e.proc == i) ≡ b → departures i (e ∷ []) ≡ 0
    go true h = ap (count_by (λ (e : Entry). is_departure e.act)) (own i e h) ∙ uncounted (sym (ap (λ b. b && is_departure e.act) h) ∙ k)
    go false h = ap (count_by (λ (e : Entry). is_departure e.act)) (other i e h)

one_left : (i : ℕ) (e : Entry) → ((e.proc == i) && is_departure e.act) ≡ true → departures i (e ∷ []) ≡ 1
one_left i e k = ap (count_by (λ (e : Entry). is_departure e.act)) (own i e (and_left _ _ k)) ∙ counted (and_right (e.proc == i) _ k)
  where
    counted : is_departure e.act ≡ true → count_by (λ (e : Entry). is_departure e.act) (e ∷ []) ≡ 1
    counted h = rw h refl

departs_is : (e : Entry) → is_departure e.act ≡ true → e.act ≡ act.Depart
departs_is e k = by e.act k
  where
    by : (a : Action) → is_departure a ≡ true → a ≡ act.Depart
    by act.Depart k = refl
    by _ k = absurd (true_false (sym k))

was_ready : (s : RunConfig) (es : List Entry) (i j : ℕ) (e : Entry) → CanTake s es i e → is_departure e.act ≡ true → j < s.procs → departures i es < arrivals j es
was_ready s es i j e t k l =
    let n : t.next ≡ next.Act e.place act.Depart = acts_as s es i t.next e t.entry (depart_answered e k) ∙ ap (next.Act e.place) (departs_is e k) in
    subst (IsReady s es i) n t.ready j l

pub all_came : (s : RunConfig) (es : List Entry) → IsRun s es → (i j : ℕ) → j < s.procs → departures i es ≤ arrivals j es
all_came s es run.none i j l = zero_least
  where
    zero_least : 0 ≤ 0
    zero_least = omega arith
all_came s all (run.more {es = es} {i = p} {e = e} w t y) i j l =
    subst (λ x. departures i x ≤ arrivals j x) (sym y) (go ((e.proc == i) && is_departure e.act) refl (all_came s es w i j l))
  where
    same : (d a d' a' d1 a1 : ℕ) → d' ≡ d + d1 → a' ≡ a + a1 → d1 ≡ 0 → d ≤ a → d' ≤ a'
    same d a d' a' d1 a1 x y z k = omega arith

    more : (d a d' a' d1 a1 : ℕ) → d' ≡ d + d1 → a' ≡ a + a1 → d1 ≡ 1 → d < a → d' ≤ a'
    more d a d' a' d1 a1 x y z k = omega arith

    go : (b : Bool) → ((e.proc == i) && is_departure e.act) ≡ b → departures i es ≤ arrivals j es → departures i (es ++ e ∷ []) ≤ arrivals j (es ++ e ∷ [])
    go false k ih = same _ _ _ _ _ _ (left_both i es (e ∷ [])) (arrivals_both j es (e ∷ [])) (none_left i e k) ih
    go true k ih =
        let who : p ≡ i = sym (taker s es p e t) ∙ eqb-true e.proc i (and_left _ _ k) in
        more _ _ _ _ _ _ (left_both i es (e ∷ [])) (arrivals_both j es (e ∷ [])) (one_left i e k)
        (was_ready s es i j e (subst (λ m. CanTake s es m e) who t) (and_right (e.proc == i) _ k) l)

-- ---- outcomes

faulted : (k : FaultKind) → Faults k ≡ Impossible → ⊥
faulted k e = cc

-- a value that was given
was_given : (h : History) (i who n : ℕ) (b : Arrival) → arrivals i h ≡ n → arrival_at who n h ≡ Some b → HasValue b.deposit → answers_value (deposit_from i who h) ≡ Impossible → ⊥
was_given h i who n b c z v k =
    answer_not _ (sym (ap answers_value (ap (λ (o : Option Arrival). option_and_then (λ (a : Arrival). value_in a.deposit) o) (ap (λ m. arrival_at who m h) c ∙ z) ∙ v.1)) ∙ k)

-- the root's own deposit
root_value : (procs root : ℕ) (kind : CollKind) (arg : Option ℕ) (d : Deposit) → kind ≡ coll.Broadcast → arg ≡ Some root → ArrivalFine procs root kind arg d → HasValue d
root_value procs root kind arg d k a f =
    let g = subst (λ c. ArrivalFine procs root c arg d) k f in
    g.3 (root_same arg root g.0 a g.1)

exchange_value : (procs i : ℕ) (kind : CollKind) (arg : Option ℕ) (d : Deposit) → kind ≡ coll.Exchange → ArrivalFine procs i kind arg d → HasValue d
exchange_value procs i kind arg d k f = subst (λ c. ArrivalFine procs i c arg d) k f

-- what actions of the heap name is there, so that they are possible
abbrev pub ThingsThere : RunConfig → List Entry → Type 0
ThingsThere s es = (i : ℕ) (p : Process) (at : Place) (a : Action) → i < s.procs → ProcAfter s es i p → IsNext p (next.Act at a) → is_of_heap a
    ≡ true → heap_answer s.program (history_of es) i a ≡ Impossible → ⊥

module _ (s : RunConfig) (es : List Entry) (w : IsRun s es) (agree : ArrivalsAgree s es) where
  come_to : (i n : ℕ) → arrivals i es ≡ suc n → (a : Arrival) × (arrival_at i (suc n) (history_of es) ≡ Some a)
  come_to i n c = there i n (history_of es) (less _ n (back i es ∙ c))
    where
      less : (a n : ℕ) → a ≡ suc n → n < a
      less a n h = omega arith

  departs_possible : (i d : ℕ) (kind : CollKind) (arg : Option ℕ) (a : Arrival) → arrival_at i (suc d) (history_of es) ≡ Some a → a.kind ≡ kind → a.arg ≡ arg → arrivals i es ≡ suc d
      → ((j : ℕ) → j < s.procs → d < arrivals j es) → ArrivalFine s.procs i kind arg a.deposit → departs s.program (history_of es) i kind arg ≡ Impossible → ⊥
  departs_possible i d coll.Barrier arg a z k l c r f o = answer_not _ o
  departs_possible i d coll.Exchange arg a z k l c r f o = answer_not _ o
  departs_possible i d coll.MakeRegion arg a z k l c r f o = answer_not _ o
  departs_possible i d coll.DeleteRegion arg a z k l c r f o =
      go (not (was_left (arrivals i (history_of es)) (history_of es)) && is_in_use s.program f.0 (arrivals i (history_of es)) (history_of es))
      (sym (ap (leaves_delete s.program (history_of es) (arrivals i (history_of es))) f.1) ∙ o)
    where
      go : (b : Bool) → (if b then Faults RegionInUse else Answers Done) ≡ Impossible → ⊥
      go true x = faulted _ x
      go false x = answer_not _ x
  departs_possible i d coll.Broadcast arg a z k l c r f o =
      let h = history_of es in
      let root = f.0 in
      let b = there root d h (subst (λ n. d < n) (sym (back root es)) (r root f.2)) in
      let x = alike s es w agree i root d a b.0 z b.1 in
      was_given h i root (suc d) b.0 (back i es ∙ c) b.1
      (root_value s.procs root b.0.kind b.0.arg b.0.deposit (sym x.0 ∙ k) (sym x.1 ∙ l ∙ f.1) (come_fine s es w root (suc d) b.0 b.1))
      (sym (ap (λ (o : Option ℕ). where_some o (λ n. answers_value (deposit_from i n h))) f.1) ∙ o)

  depart_possible : (i : ℕ) (p : Process) → ProcAfter s es i p → (at : Place) → IsNext p (next.Act at act.Depart)
      → ((j : ℕ) → j < s.procs → departures i es < arrivals j es) → heap_answer s.program (history_of es) i act.Depart ≡ Impossible → ⊥
  depart_possible i p v at n r o =
      let x = at_action (step n.0) at act.Depart n.1.stands in
      let y = way_next s es i p n.0 w v n.1.reaches in
      let count : length (answers_at_departures i es) ≡ departures i es = length-map _ (λ (e : Entry). e.answer) ∙ length-filter (λ (e : Entry). is_departure e.act) (entries_of i es) in
      let c : arrivals i es ≡ suc (departures i es) =
      left_one i n.0 x.0 x.1 (arrivals i es) (departures i es) at x.2
      (sym y.2 ∙ balanced s i n.0 y.0 y.1 ∙ ap (λ xs. length xs + waiting n.0.wait) y.3 ∙ ap (λ k. k + waiting n.0.wait) count) in
      let a = come_to i (departures i es) c in
      let last : last_arrival i (history_of es) ≡ Some a.0 = ap (λ m. arrival_at i m (history_of es)) (back i es ∙ c) ∙ a.1 in
      departs_possible i (departures i es) a.0.kind a.0.arg a.0 a.1 refl refl c r (come_fine s es w i (suc (departures i es)) a.0 a.1)
      (sym (ap (λ (z : Option Arrival). where_some z (λ (b : Arrival). departs s.program (history_of es) i b.kind b.arg)) last) ∙ o)

  -- the last arrival, by its kind
  pub by_kind : (i : ℕ) (kind : CollKind) → last_kind i (history_of es) ≡ Some kind → (n : ℕ) × (a : Arrival)
      × (arrivals i (history_of es) ≡ suc n) × (arrival_at i (suc n) (history_of es) ≡ Some a) × (a.kind ≡ kind)
  by_kind i kind z = by (last_arrival i (history_of es)) refl z
    where
      none_kind : (k : CollKind) → ◌≡◌ {A = Option CollKind} None (Some k) → ⊥
      none_kind k h = cc

      some_kind : (k l : CollKind) → Some k ≡ Some l → k ≡ l
      some_kind k l h = cc

      numbered : (m : ℕ) (a : Arrival) → arrivals i (history_of es) ≡ m → arrival_at i m (history_of es) ≡ Some a → a.kind ≡ kind → (n : ℕ)
          × (a : Arrival) × (arrivals i (history_of es) ≡ suc n) × (arrival_at i (suc n) (history_of es) ≡ Some a) × (a.kind ≡ kind)
      numbered zero a c y k = absurd (not_first i (history_of es) a y)
      numbered (suc n) a c y k = (n, a, c, y, k)

      by : (o : Option Arrival) → last_arrival i (history_of es) ≡ o → option_map (λ (a : Arrival). a.kind) o ≡ Some kind → (n : ℕ)
          × (a : Arrival) × (arrivals i (history_of es) ≡ suc n) × (arrival_at i (suc n) (history_of es) ≡ Some a) × (a.kind ≡ kind)
      by None y k = absurd (none_kind kind k)
      by (Some a) y k = numbered (arrivals i (history_of es)) a refl y (some_kind _ _ k)

  take_possible : (i who : ℕ) (p : Process) → ProcAfter s es i p → (at : Place) → IsNext p (next.Act at (act.Take who)) → heap_answer s.program (history_of es) i (act.Take who) ≡ Impossible → ⊥
  take_possible i who p v at n o =
      let h = history_of es in
      let x = at_action (step n.0) at (act.Take who) n.1.stands in
      let y = way_next s es i p n.0 w v n.1.reaches in
      let f = (step_fine s i (last_from None y.0) n.0 (At (asking at (act.Take who) x.0) x.1) (stands s i n.0 y.0 y.1) x.2).0 in
      let free = (step_waits n.0 (At (asking at (act.Take who) x.0) x.1) x.2).0 in
      let count : length (answers_at_departures i es) ≡ departures i es = length-map _ (λ (e : Entry). e.answer) ∙ length-filter (λ (e : Entry). is_departure e.act) (entries_of i es) in
      let c : arrivals i es ≡ departures i es + waiting n.0.wait = sym y.2 ∙ balanced s i n.0 y.0 y.1 ∙ ap (λ xs. length xs + waiting n.0.wait) y.3 ∙ ap (λ k. k + waiting n.0.wait) count in
      let k = by_kind i coll.Exchange (sym y.4 ∙ f.1) in
      let there_too = there who k.0 h (later _ _ _ _ _ _ k.0 (back who es) (back i es) c (ap waiting free) (all_came s es w i who f.0) k.2) in
      let z = alike s es w agree i who k.0 k.1 there_too.0 k.3 there_too.1 in
      was_given h i who (suc k.0) there_too.0 k.2 there_too.1
      (exchange_value s.procs who there_too.0.kind there_too.0.arg there_too.0.deposit (sym z.0 ∙ k.4) (come_fine s es w who (suc k.0) there_too.0 there_too.1)) o
    where
      later : (aw ah ai bi d x n : ℕ) → aw ≡ ah → ai ≡ bi → bi ≡ d + x → x ≡ 0 → d ≤ ah → ai ≡ suc n → n < aw
      later aw ah ai bi d x n p q r t u v = omega arith

  pub never : ThingsThere s es → (i : ℕ) → i < s.procs → (p : Process) → ProcAfter s es i p → (at : Place) (a : Action)
      → IsNext p (next.Act at a) → IsReady s es i (next.Act at a) → is_delete_arrival a ≡ false → heap_answer s.program (history_of es) i a
      ≡ Impossible → ⊥
  never there i l p v at act.Depart n r k o = depart_possible i p v at n r o
  never there i l p v at (act.Take who) n r k o = take_possible i who p v at n o
  never there i l p v at (act.Arrive coll.DeleteRegion arg d) n r k o = absurd (true_false k)
  never there i l p v at (act.GetField obj field) n r k o = there i p at (act.GetField obj field) l v n refl o
  never there i l p v at (act.PutField obj field value) n r k o = there i p at (act.PutField obj field value) l v n refl o
  never there i l p v at (act.NewObj class region) n r k o = there i p at (act.NewObj class region) l v n refl o
  never there i l p v at (act.NewGrid element domain region) n r k o = there i p at (act.NewGrid element domain region) l v n refl o
  never there i l p v at (act.GetElem grid index) n r k o = there i p at (act.GetElem grid index) l v n refl o
  never there i l p v at (act.PutElem grid index value) n r k o = there i p at (act.PutElem grid index value) l v n refl o
  never there i l p v at (act.MakeView grid how) n r k o = there i p at (act.MakeView grid how) l v n refl o
  never there i l p v at (act.DomainOf grid) n r k o = there i p at (act.DomainOf grid) l v n refl o
  never there i l p v at _ n r k o = answer_not _ o
