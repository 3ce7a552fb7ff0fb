-- The processes of a run, and their ways.
use Rattle.std.proofs.Common.{◌≡◌, ℕ, ◌+◌, ◌==◌, Bool, true, false, ◌&&◌, cond, map, filter, count_by, Option, Some, None, List, [], ◌∷◌, ◌++◌, refl, ap, ap₂, sym, ◌∙◌, subst, arith, eq-eqb, eqb-true, append-nil}
use Rattle.ti_base.specs.declared.place.Place.{Place}
use Rattle.ti_base.specs.declared.fault.FaultKind.{FaultKind}
use Rattle.ti_base.specs.declared.action.Action.{Action}
use Rattle.ti_base.specs.declared.action.Action.TheVariants as act
use Rattle.ti_base.specs.declared.action.CollKind.{CollKind}
use Rattle.ti_base.specs.declared.entry.Answer.{Answer}
use Rattle.ti_base.specs.declared.entry.Entry.{Entry}
use Rattle.ti_base.specs.declared.entry.Next.{Next}
use Rattle.ti_base.specs.declared.entry.Next.TheVariants as next
use Rattle.ti_lang.specs.Meaning.Processes.{RunConfig, Process, begin}
use Rattle.ti_lang.specs.Meaning.Steps.{Step, To, At, Ends, Faults, step}
use Rattle.ti_lang.specs.Meaning.NextStep.{Reaches, here, later, step_label, After, none, more}
use Rattle.ti_lang.specs.Meaning.Histories.{is_answered, is_arrival, is_departure, entries_of, answers_of, arrivals, history_of}
use Rattle.ti_lang.specs.Meaning.HeapAnswers.{Outcome, Answers, Impossible, heap_answer}
use Rattle.ti_lang.specs.Meaning.HeapAnswers as heap
use Rattle.ti_lang.specs.Meaning.Runs.{ProcAfter, entry_with, entry_of, CanTake, IsRun}
use Rattle.ti_lang.specs.Meaning.Runs as run
use Rattle.ti_lang.proofs.Lemmas.{after_same, none_some, some_same, taker, history_grows, some_entry}
use Rattle.ti_align.proofs.Runs.Ways.{Asked, asking, Meeting, Came, Left, Way, comings, answers_left, answers_at_departures, last_from}
use Rattle.ti_align.proofs.Runs.Ways as way
use Rattle.ti_align.proofs.Runs.Vars.{true_false}
use Rattle.ti_align.proofs.Runs.Entries.{got_both, departures_both, arrivals_both, own, other}
use Rattle.ti_align.proofs.Runs.Arrived.{is_own, last_kind, kind_after, last_other, last_own}

-- ---- ways

pub way_then : (p q r : Process) (ms ns : List Meeting) → Way p ms q → Way q ns r → Way p (ms ++ ns) r
way_then p q r ms ns way.stop y = y
way_then p q r ms ns (way.silent e x) y = way.silent e (way_then _ q r ms ns x y)
way_then p q r ms ns (way.alone e a b x) y = way.alone e a b (way_then _ q r ms ns x y)
way_then p q r (m ∷ ms) ns (way.came e x) y = way.came e (way_then _ q r ms ns x y)
way_then p q r (m ∷ ms) ns (way.left e x) y = way.left e (way_then _ q r ms ns x y)

pub reach_way : (p q r : Process) (ns : List Meeting) → Reaches p q → Way q ns r → Way p ns r
reach_way p q r ns here y = y
reach_way p q r ns (later e x) y = way.silent e (reach_way _ q r ns x y)

pub after_more : (p q u : Process) (rs : List Answer) (at : Place) (a : Action) (w : Asked) (go : Answer → Process) (r : Answer)
    → After p rs q → Reaches q u → step u ≡ At (asking at a w) go → After p (rs ++ r ∷ []) (go r)
after_more p q u [] at a w go r none y e = more y e none
after_more p q u (x ∷ xs) at a w go r (more z f k) y e = more z f (after_more _ q u xs at a w go r k y e)

comings_both : (ms ns : List Meeting) → comings (ms ++ ns) ≡ comings ms + comings ns
comings_both [] ns = omega arith
comings_both (Came at kind arg ∷ ms) ns = omega (arith, comings_both ms ns)
comings_both (Left r ∷ ms) ns = comings_both ms ns

pub left_both : (ms ns : List Meeting) → answers_left (ms ++ ns) ≡ answers_left ms ++ answers_left ns
left_both [] ns = refl
left_both (Came at kind arg ∷ ms) ns = left_both ms ns
left_both (Left r ∷ ms) ns = ap (λ x. r ∷ x) (left_both ms ns)

last_both : (b : Option CollKind) (ms ns : List Meeting) → last_from b (ms ++ ns) ≡ last_from (last_from b ms) ns
last_both b [] ns = refl
last_both b (Came at kind arg ∷ ms) ns = last_both (Some kind) ms ns
last_both b (Left r ∷ ms) ns = last_both b ms ns

-- ---- one entry more

plus_zero : (k : ℕ) → k + 0 ≡ k
plus_zero k = omega arith

-- nothing of it is seen
abbrev Unseen : ℕ → List Entry → List Entry → Type 0
Unseen j es all =
    (answers_of j all ≡ answers_of j es) × (arrivals j all ≡ arrivals j es) × (answers_at_departures j all ≡ answers_at_departures j es)
    × (last_kind j (history_of all) ≡ last_kind j (history_of es))

unseen : (j : ℕ) (es : List Entry) (e : Entry) → filter is_answered (entries_of j (e ∷ [])) ≡ [] → count_by (λ (e : Entry). is_arrival e.act) (entries_of j (e ∷ [])) ≡ 0
    → filter (λ (e : Entry). is_departure e.act) (entries_of j (e ∷ [])) ≡ [] → is_own j e ≡ false → Unseen j es (es ++ e ∷ [])
unseen j es e a b c d = (
  got_both j es (e ∷ []) ∙ ap (λ x. answers_of j es ++ map (λ (e : Entry). e.answer) x) a ∙ append-nil (answers_of j es),
  arrivals_both j es (e ∷ []) ∙ ap (λ x. arrivals j es + x) b ∙ plus_zero (arrivals j es),
  departures_both j es (e ∷ []) ∙ ap (λ x. answers_at_departures j es ++ map (λ (e : Entry). e.answer) x) c ∙ append-nil (answers_at_departures j es),
  ap (last_kind j) (history_grows es e) ∙ last_other j e (history_of es) d,
)

-- what an action with its answer is on a way
abbrev pub meeting : Place → Action → Answer → List Meeting
meeting at (act.Arrive kind arg given) r = Came at kind arg ∷ []
meeting at act.Depart r = Left r ∷ []
meeting at _ r = []

pub one_way : (p : Process) (at : Place) (a : Action) (w : Asked) (go : Answer → Process) (r : Answer) → step p ≡ At (asking at a w) go → Way p (meeting at a r) (go r)
one_way p at (act.Arrive kind arg given) w go r e = way.came e way.stop
one_way p at act.Depart w go r e = way.left e way.stop
one_way p at _ w go r e = way.alone e refl refl way.stop

count_one : (at : Place) (a : Action) (r : Answer) → comings (meeting at a r) ≡ cond (is_arrival a) 1 0
count_one at (act.Arrive kind arg given) r = refl
count_one at act.Depart r = refl
count_one at _ r = refl

pub left_one : (at : Place) (a : Action) (r : Answer) → answers_left (meeting at a r) ≡ cond (is_departure a) (r ∷ []) []
left_one at (act.Arrive kind arg given) r = refl
left_one at act.Depart r = refl
left_one at _ r = refl

last_one : (at : Place) (a : Action) (r : Answer) (b : Option CollKind) → last_from b (meeting at a r) ≡ kind_after a b
last_one at (act.Arrive kind arg given) r b = refl
last_one at act.Depart r b = refl
last_one at _ r b = refl

-- what a process has done after an entry more
pub data Grows (s : RunConfig) (es all : List Entry) (j : ℕ) : Type 0 where
  still : Unseen j es all → Grows s es all j
  acted : (p q : Process) (at : Place) (a : Action) (w : Asked) (go : Answer → Process) (r : Answer) → ProcAfter s es j p → Reaches p q → step q
      ≡ At (asking at a w) go → answers_of j all ≡ answers_of j es ++ r ∷ []
      → arrivals j all ≡ arrivals j es + comings (meeting at a r) → answers_at_departures j all ≡ answers_at_departures j es ++ answers_left (meeting at a r)
      → last_kind j (history_of all) ≡ kind_after a (last_kind j (history_of es)) → heap_answer s.program (history_of es) j a ≡ Answers r
      → all ≡ es ++ record { proc = j; place = at; act = a; answer = r } ∷ [] → Grows s es all j

-- where the process of a run is, with its way
pub record OnWay (s : RunConfig) (es : List Entry) (j : ℕ) : Type 0 where
  pub process : Process
  pub world : ProcAfter s es j process
  pub meetings : List Meeting
  pub goes : Way (begin s j) meetings process
  pub count : comings meetings ≡ arrivals j es
  pub told : answers_left meetings ≡ answers_at_departures j es
  pub last : last_from None meetings ≡ last_kind j (history_of es)

pub step_on : (s : RunConfig) (es all : List Entry) (j : ℕ) → Grows s es all j → OnWay s es j → OnWay s all j
step_on s es all j (still u) o = record {
  process = o.process;
  world = subst (λ rs. After (begin s j) rs o.process) (sym u.0) o.world;
  meetings = o.meetings;
  goes = o.goes;
  count = o.count ∙ sym u.1;
  told = o.told ∙ sym u.2;
  last = o.last ∙ sym u.3;
}
step_on s es all j (acted p q at a w go r x y e k l m n u v) o =
    let same : o.process ≡ p = after_same _ _ _ _ o.world x in
    let goes : Way (begin s j) o.meetings p = subst (λ z. Way (begin s j) o.meetings z) same o.goes in record {
      process = go r;
      world = subst (λ rs. After (begin s j) rs (go r)) (sym k) (after_more (begin s j) p q (answers_of j es) at a w go r x y e);
      meetings = o.meetings ++ meeting at a r;
      goes = way_then (begin s j) p (go r) o.meetings (meeting at a r) goes (reach_way p q (go r) (meeting at a r) y (one_way q at a w go r e));
      count = comings_both o.meetings (meeting at a r) ∙ ap (λ n. n + comings (meeting at a r)) o.count ∙ sym l;
      told = left_both o.meetings (meeting at a r) ∙ ap (λ n. n ++ answers_left (meeting at a r)) o.told ∙ sym m;
      last = last_both None o.meetings (meeting at a r) ∙ last_one at a r (last_from None o.meetings) ∙ ap (kind_after a) o.last ∙ sym n;
    }

-- ---- runs

pub none_entry : (e : Entry) → ◌≡◌ {A = Option Entry} None (Some e) → ⊥
none_entry e h = cc

act_same : (a b : Place) (c d : Action) → next.Act a c ≡ next.Act b d → (a ≡ b) × (c ≡ d)
act_same a b c d h = (cc, cc)

end_act : (a b : Place) (c : Action) → next.End a ≡ next.Act b c → ⊥
end_act a b c h = cc

fault_act : (k : FaultKind) (a b : Place) (c : Action) → next.Fault k a ≡ next.Act b c → ⊥
fault_act k a b c h = cc

-- where an action is next, the step stands at it
pub at_action : (st : Step) (at : Place) (a : Action) → step_label st ≡ Some (next.Act at a) → (w : Asked) × (go : Answer → Process) × (st ≡ At (asking at a w) go)
at_action (To p) at a h = absurd (none_some _ h)
at_action (At r go) at a h = let s = act_same r.place at r.action a (some_same _ _ h) in ((r.through, r.wanted), go, ap₂ (λ x y. At (asking x y (r.through, r.wanted)) go) s.0 s.1)
at_action (Ends place) at a h = absurd (end_act _ _ _ (some_same _ _ h))
at_action (Faults kind place) at a h = absurd (fault_act _ _ _ _ (some_same _ _ h))

-- an entry of another process
grows_other : (s : RunConfig) (es : List Entry) (j : ℕ) (e : Entry) → (e.proc == j) ≡ false → Grows s es (es ++ e ∷ []) j
grows_other s es j e h =
    still (unseen j es e (ap (filter is_answered) (other j e h)) (ap (count_by (λ (e : Entry). is_arrival e.act)) (other j e h))
    (ap (filter (λ (e : Entry). is_departure e.act)) (other j e h)) (ap (λ b. b && is_arrival e.act) h))

-- one that is no answer: an end or a fault
grows_last : (s : RunConfig) (es : List Entry) (j : ℕ) (e : Entry) → (e.proc == j) ≡ true → is_answered e ≡ false → is_arrival e.act ≡ false → is_departure e.act ≡ false → Grows s es (es ++ e ∷ []) j
grows_last s es j e h x y z = still (unseen j es e (ap (filter is_answered) (own j e h) ∙ out)
    (ap (count_by (λ (e : Entry). is_arrival e.act)) (own j e h) ∙ uncounted) (ap (filter (λ (e : Entry). is_departure e.act)) (own j e h)
    ∙ left_out) (ap₂ (λ a b. a && b) h y))
  where
    out : filter is_answered (e ∷ []) ≡ []
    out = rw x refl

    uncounted : count_by (λ (e : Entry). is_arrival e.act) (e ∷ []) ≡ 0
    uncounted = rw y refl

    left_out : filter (λ (e : Entry). is_departure e.act) (e ∷ []) ≡ []
    left_out = rw z refl

-- an answer
grows_act : (s : RunConfig) (es : List Entry) (j : ℕ) (p q : Process) (at : Place) (a : Action) (w : Asked) (go : Answer → Process)
    (r : Answer) → ProcAfter s es j p → Reaches p q → step q ≡ At (asking at a w) go
    → is_answered (record { proc = j; place = at; act = a; answer = r }) ≡ true → heap_answer s.program (history_of es) j a ≡ Answers r
    → Grows s es (es ++ record { proc = j; place = at; act = a; answer = r } ∷ []) j
grows_act s es j p q at a w go r x y z h c =
    let e : Entry = record { proc = j; place = at; act = a; answer = r } in
    let o = own j e (eq-eqb j j refl) in
    acted p q at a w go r x y z
    (got_both j es (e ∷ []) ∙ ap (λ k. answers_of j es ++ map (λ (e : Entry). e.answer) k) (ap (filter is_answered) o ∙ kept))
    (arrivals_both j es (e ∷ []) ∙ ap (λ k. arrivals j es + k) (ap (count_by (λ (e : Entry). is_arrival e.act)) o ∙ one (is_arrival a) refl ∙ sym (count_one at a r)))
    (departures_both j es (e ∷ []) ∙ ap (λ k. answers_at_departures j es ++ k)
    (ap (λ k. map (λ (e : Entry). e.answer) (filter (λ (e : Entry). is_departure e.act) k)) o ∙ by (is_departure a) refl
    ∙ sym (left_one at a r)))
    (ap (last_kind j) (history_grows es e) ∙ last_own j e (history_of es) (eq-eqb j j refl))
    c
    refl
  where
    kept : filter is_answered (record { proc = j; place = at; act = a; answer = r } ∷ []) ≡ record { proc = j; place = at; act = a; answer = r } ∷ []
    kept = rw h refl

    one : (b : Bool) → is_arrival a ≡ b → count_by (λ (e : Entry). is_arrival e.act) (record { proc = j; place = at; act = a; answer = r } ∷ []) ≡ cond (is_arrival a) 1 0
    one true k = rw k refl
    one false k = rw k refl

    by : (b : Bool) → is_departure a ≡ b → map (λ (e : Entry). e.answer)
        (filter (λ (e : Entry). is_departure e.act) (record { proc = j; place = at; act = a; answer = r } ∷ []))
        ≡ cond (is_departure a) (r ∷ []) []
    by true k = rw k refl
    by false k = rw k refl

grows_own : (s : RunConfig) (es : List Entry) (j : ℕ) (p q : Process) (n : Next) (e : Entry) → ProcAfter s es j p → Reaches p q → step_label (step q)
    ≡ Some n → entry_of s es j n ≡ Some e → Grows s es (es ++ e ∷ []) j
grows_own s es j p q (next.Act at a) e x y z h = by (heap_answer s.program (history_of es) j a) refl h
  where
    done : (r : Answer) → heap_answer s.program (history_of es) j a ≡ Answers r → record { proc = j; place = at; act = a; answer = r } ≡ e
        → (b : Bool) → is_answered (record { proc = j; place = at; act = a; answer = r }) ≡ b
        → Grows s es (es ++ record { proc = j; place = at; act = a; answer = r } ∷ []) j
    done r c i true k = let t = at_action (step q) at a z in grows_act s es j p q at a t.0 t.1 r x y t.2 k c
    done r c i false k = grows_last s es j _ (eq-eqb j j refl) k (quiet a k).0 (quiet a k).1
      where
        quiet : (a : Action) → is_answered (record { proc = j; place = at; act = a; answer = r }) ≡ false → (is_arrival a ≡ false) × (is_departure a ≡ false)
        quiet (act.Arrive kind arg given) k = absurd (true_false k)
        quiet act.Depart k = absurd (true_false k)
        quiet _ k = (refl, refl)

    by : (o : Outcome) → heap_answer s.program (history_of es) j a ≡ o → entry_with j at a o ≡ Some e → Grows s es (es ++ e ∷ []) j
    by (Answers r) c h = let i = some_entry _ e h in subst (λ d. Grows s es (es ++ d ∷ []) j) i (done r c i (is_answered (record { proc = j; place = at; act = a; answer = r })) refl)
    by (heap.Faults kind) c h = subst (λ d. Grows s es (es ++ d ∷ []) j) (some_entry _ e h) (grows_last s es j _ (eq-eqb j j refl) refl refl refl)
    by Impossible c h = absurd (none_entry e h)
grows_own s es j p q (next.End at) e x y z h = subst (λ d. Grows s es (es ++ d ∷ []) j) (some_entry _ e h) (grows_last s es j _ (eq-eqb j j refl) refl refl refl)
grows_own s es j p q (next.Fault kind at) e x y z h = subst (λ d. Grows s es (es ++ d ∷ []) j) (some_entry _ e h) (grows_last s es j _ (eq-eqb j j refl) refl refl refl)

pub grows : (s : RunConfig) (es all : List Entry) (i j : ℕ) (e : Entry) → CanTake s es i e → all ≡ es ++ e ∷ [] → Grows s es all j
grows s es all i j e t z = subst (λ x. Grows s es x j) (sym z) (go (i == j) refl)
  where
    go : (b : Bool) → (i == j) ≡ b → Grows s es (es ++ e ∷ []) j
    go true h = subst (λ x. Grows s es (es ++ e ∷ []) x) (eqb-true i j h) (grows_own s es i t.process t.is_next.0 t.next e t.world t.is_next.1.reaches t.is_next.1.stands t.entry)
    go false h = grows_other s es j e (subst (λ x. (x == j) ≡ false) (sym (taker s es i e t)) h)

-- in every run each process has its way
pub on_way : (s : RunConfig) (es : List Entry) → IsRun s es → (j : ℕ) → OnWay s es j
on_way s es run.none j = record { process = begin s j; world = none; meetings = []; goes = way.stop; count = refl; told = refl; last = refl }
on_way s all (run.more {es = es} {i = i} {e = e} w t z) j = step_on s es all j (grows s es all i j e t z) (on_way s es w j)
