-- The simulated entries are the canonical run, in which the lowest-numbered process that can take an entry does so.
use Rattle.std.proofs.Common.{◌≡◌, ◌⊎◌, inl, inr, ℕ, zero, suc, ◌+◌, ◌<◌, ◌≤◌, nat_lt, ◌==◌, Bool, true, false, not, ◌&&◌, ◌||◌, cond, if◌then◌else◌, Option, Some, None, List, [], ◌∷◌, ◌++◌, map, filter, refl, sym, ◌∙◌, ap, subst, arith, ltb-true, ltb-false, eq-eqb, eqb-true, append-nil}
use Rattle.std.specs.List.{list_any}
use Rattle.std.proofs.lemmas.Bool.{lt-ltb}
use Rattle.std.proofs.lemmas.List.{map-append}
use Rattle.std.proofs.lemmas.List.Elements.{filter-append}
use Rattle.std.proofs.lemmas.List.Folds.{list_any-append}
use Rattle.ti_base.specs.declared.place.Place.{Place}
use Rattle.ti_base.specs.declared.action.Action.{Action}
use Rattle.ti_base.specs.declared.action.Action.TheVariants as act
use Rattle.ti_base.specs.declared.entry.Answer.{Answer}
use Rattle.ti_base.specs.declared.entry.Answer.TheVariants.{Done}
use Rattle.ti_base.specs.declared.entry.Entry.{Entry}
use Rattle.ti_base.specs.declared.entry.Next.{Next}
use Rattle.ti_base.specs.declared.entry.Next.TheVariants as next
use Rattle.ti_lang.specs.Meaning.Comp.{Request}
use Rattle.ti_lang.specs.Meaning.Processes.{RunConfig, Process, begin}
use Rattle.ti_lang.specs.Meaning.Steps.{Step, To, At, Ends, Faults, step}
use Rattle.ti_lang.specs.Meaning.NextStep.{Reaches, here, later, step_label, IsNext, After, none, more}
use Rattle.ti_lang.specs.Meaning.Histories.{is_end, is_fault, is_answered, entries_of, answers_of, arrivals, departures, has_end, has_fault, history_of}
use Rattle.ti_lang.specs.Meaning.HeapAnswers.{Outcome, Answers, Impossible, heap_answer}
use Rattle.ti_lang.specs.Meaning.HeapAnswers as heap
use Rattle.ti_lang.specs.Meaning.Runs.{ProcAfter, IsReady, entry_with, entry_of, CanTake, IsSolo}
use Rattle.ti_lang.specs.Meaning.Runs as r
use Rattle.ti_lang.proofs.Lemmas.{no_end_asked, next_same, after_same}
use Rattle.ti_rows.specs.Simulation.{settle_by, settle, most_silent, Slot, slots, have_arrived, is_ready, Taking, Waits, Takes, Unknown, by_outcome, by_request, by_step, next_taking, SoloTurn, Taken, Untold, put_before, first_of, solo_turn, run_after, run_from, solo}
use Rattle.ti_rows.specs.Simulation as sim

-- ---- silent steps

settled_by : (n : ℕ) (p : Process) (s : Step) → ((q : Process) → settle n q ≡ s → (z : Process) × Reaches q z × (step z ≡ s))
    → (t : Step) → step p ≡ t → settle_by (settle n) t ≡ s → (z : Process) × Reaches p z × (step z ≡ s)
settled_by n p s go (To q) e k = let z = go q k in (z.0, later e z.1, z.2)
settled_by n p s go (At request goes) e k = (p, here, e ∙ k)
settled_by n p s go (Ends at) e k = (p, here, e ∙ k)
settled_by n p s go (Faults kind at) e k = (p, here, e ∙ k)

settled : (n : ℕ) (p : Process) (s : Step) → settle n p ≡ s → (z : Process) × Reaches p z × (step z ≡ s)
settled zero p s e = (p, here, e)
settled (suc n) p s e = settled_by n p s (λ q. settled n q s) (step p) refl e

after_more : {p q z : Process} {rs : List Answer} {request : Request} {go : Answer → Process} {a : Answer} → After p rs q → Reaches q z → step z ≡ At request go → After p (rs ++ a ∷ []) (go a)
after_more none w e = more w e none
after_more (more x y k) w e = more x y (after_more k w e)

-- ---- tests

both_true : (a b : Bool) → (a && b) ≡ true → (a ≡ true) × (b ≡ true)
both_true true b e = (refl, e)
both_true false b e = cc

true_both : (a b : Bool) → a ≡ true → b ≡ true → (a && b) ≡ true
true_both true b e f = f
true_both false b e f = cc

false_both : (a b : Bool) → a ≡ false → b ≡ false → (a || b) ≡ false
false_both true b e f = cc
false_both false b e f = f

neither : (a b : Bool) → (a || b) ≡ false → (a ≡ false) × (b ≡ false)
neither true b e = cc
neither false b e = (refl, e)

-- ---- readiness

arrived_all : (es : List Entry) (t j n d : ℕ) → have_arrived es t j n ≡ true → d < n → t < arrivals (j + d) es
arrived_all es t j zero d e l = absurd (omega arith)
arrived_all es t j (suc n) zero e l =
    let k = both_true (nat_lt t (arrivals j es)) (have_arrived es t (j + 1) n) e in
    let same : j ≡ j + 0 = omega arith in
    subst (λ i. t < arrivals i es) same (ltb-true t (arrivals j es) k.0)
arrived_all es t j (suc n) (suc d) e l =
    let k = both_true (nat_lt t (arrivals j es)) (have_arrived es t (j + 1) n) e in
    let same : j + 1 + d ≡ j + suc d = omega arith in
    subst (λ i. t < arrivals i es) same (arrived_all es t (j + 1) n d k.1 (omega arith))

all_arrived : (es : List Entry) (t j n : ℕ) → ((d : ℕ) → d < n → t < arrivals (j + d) es) → have_arrived es t j n ≡ true
all_arrived es t j zero f = refl
all_arrived es t j (suc n) f =
    let same : j + 0 ≡ j = omega arith in
    true_both (nat_lt t (arrivals j es)) (have_arrived es t (j + 1) n) (lt-ltb t (arrivals j es) (subst (λ i. t < arrivals i es) same (f 0 (omega arith))))
    (all_arrived es t (j + 1) n (λ d l.
    let same : j + suc d ≡ j + 1 + d = omega arith in
    subst (λ i. t < arrivals i es) same (f (suc d) (omega arith))))

ready : (s : RunConfig) (es : List Entry) (i : ℕ) (at : Place) (a : Action) → is_ready s es i a ≡ true → IsReady s es i (next.Act at a)
ready s es i at act.Depart e = λ j l.
    let same : 0 + j ≡ j = omega arith in
    subst (λ k. departures i es < arrivals k es) same (arrived_all es (departures i es) 0 s.procs j e l)
ready s es i at _ e = tt

is_ready_then : (s : RunConfig) (es : List Entry) (i : ℕ) (at : Place) (a : Action) → IsReady s es i (next.Act at a) → is_ready s es i a ≡ true
is_ready_then s es i at act.Depart f = all_arrived es (departures i es) 0 s.procs (λ d l.
    let same : d ≡ 0 + d = omega arith in
    subst (λ k. departures i es < arrivals k es) same (f d l))
is_ready_then s es i at _ f = refl

-- ---- one entry more

answers_more : (i : ℕ) (es : List Entry) (e : Entry) → answers_of i (es ++ e ∷ []) ≡ answers_of i es ++ answers_of i (e ∷ [])
answers_more i es e =
    ap (λ xs. map (λ (x : Entry). x.answer) (filter is_answered xs)) (filter-append (λ (x : Entry). x.proc == i) es (e ∷ []))
    ∙ ap (map (λ (x : Entry). x.answer)) (filter-append is_answered (entries_of i es) (entries_of i (e ∷ [])))
    ∙ map-append (λ (x : Entry). x.answer) (filter is_answered (entries_of i es)) (filter is_answered (entries_of i (e ∷ [])))

end_more : (i : ℕ) (es : List Entry) (e : Entry) → has_end i (es ++ e ∷ []) ≡ (has_end i es || has_end i (e ∷ []))
end_more i es e =
    ap (list_any (λ (x : Entry). is_end x.act)) (filter-append (λ (x : Entry). x.proc == i) es (e ∷ []))
    ∙ list_any-append (λ (x : Entry). is_end x.act) (entries_of i es) (entries_of i (e ∷ []))

fault_more : (es : List Entry) (e : Entry) → has_fault es ≡ false → is_fault e.act ≡ false → has_fault (es ++ e ∷ []) ≡ false
fault_more es e h k = list_any-append (λ (x : Entry). is_fault x.act) es (e ∷ []) ∙ false_both (has_fault es) (is_fault e.act || false) h (false_both (is_fault e.act) false k refl)

-- of another process
other_answers : (i : ℕ) (e : Entry) (t : Bool) → t ≡ false → map (λ (x : Entry). x.answer) (filter is_answered (cond t (e ∷ []) [])) ≡ []
other_answers i e true k = cc
other_answers i e false k = refl

other_end : (e : Entry) (t : Bool) → t ≡ false → list_any (λ (x : Entry). is_end x.act) (cond t (e ∷ []) []) ≡ false
other_end e true k = cc
other_end e false k = refl

answers_other : (i : ℕ) (es : List Entry) (e : Entry) → (e.proc == i) ≡ false → answers_of i (es ++ e ∷ []) ≡ answers_of i es
answers_other i es e k = answers_more i es e ∙ ap (λ rs. answers_of i es ++ rs) (other_answers i e (e.proc == i) k) ∙ append-nil (answers_of i es)

or_false : (a b : Bool) → b ≡ false → (a || b) ≡ a
or_false true b k = refl
or_false false b k = k

end_other : (i : ℕ) (es : List Entry) (e : Entry) → (e.proc == i) ≡ false → has_end i (es ++ e ∷ []) ≡ has_end i es
end_other i es e k = end_more i es e ∙ or_false (has_end i es) (has_end i (e ∷ [])) (other_end e (e.proc == i) k)

-- an end or a fault
abbrev is_last : Action → Bool
is_last a = is_end a || is_fault a

-- of the process itself
own_answer : (e : Entry) (t : Bool) → t ≡ true → (u : Bool) → u ≡ false → map (λ (x : Entry). x.answer) (cond t (cond (not u) (e ∷ []) []) []) ≡ e.answer ∷ []
own_answer e true k true l = cc
own_answer e true k false l = refl
own_answer e false k u l = cc

pick : (e : Entry) (t : Bool) → filter is_answered (cond t (e ∷ []) []) ≡ cond t (cond (is_answered e) (e ∷ []) []) []
pick e true = refl
pick e false = refl

answers_own : (i : ℕ) (es : List Entry) (e : Entry) → (e.proc == i) ≡ true → is_last e.act ≡ false → answers_of i (es ++ e ∷ []) ≡ answers_of i es ++ e.answer ∷ []
answers_own i es e k l =
    answers_more i es e ∙ ap (λ rs. answers_of i es ++ rs) (ap (map (λ (x : Entry). x.answer)) (pick e (e.proc == i)) ∙ own_answer e (e.proc == i) k (is_last e.act) l)

own_end : (e : Entry) (t : Bool) → t ≡ true → list_any (λ (x : Entry). is_end x.act) (cond t (e ∷ []) []) ≡ (is_end e.act || false)
own_end e true k = refl
own_end e false k = cc

end_own : (i : ℕ) (es : List Entry) (e : Entry) → (e.proc == i) ≡ true → has_end i (es ++ e ∷ []) ≡ (has_end i es || (is_end e.act || false))
end_own i es e k = end_more i es e ∙ ap (λ b. has_end i es || b) (own_end e (e.proc == i) k)

-- ---- slots

-- the slot is the process of this number in the world of the entries
abbrev IsSlot : RunConfig → List Entry → ℕ → Slot → Type 0
IsSlot s es i x = (x.number ≡ i) × ProcAfter s es i x.process × (has_end i es ≡ x.ended)

-- the slots are the processes from a number on
abbrev AreSlots : RunConfig → List Entry → ℕ → List Slot → Type 0
AreSlots s es k [] = Unit {0}
AreSlots s es k (x ∷ xs) = (k < s.procs) × IsSlot s es k x × AreSlots s es (k + 1) xs

slot_other : (s : RunConfig) (es : List Entry) (e : Entry) (i : ℕ) (x : Slot) → (e.proc == i) ≡ false → IsSlot s es i x → IsSlot s (es ++ e ∷ []) i x
slot_other s es e i x k w = (w.0, subst (λ rs. After (begin s i) rs x.process) (sym (answers_other i es e k)) w.1, end_other i es e k ∙ w.2)

apart : (i j : ℕ) → i < j → (i == j) ≡ false
apart i j l = by (i == j) refl
  where
    by : (t : Bool) → (i == j) ≡ t → t ≡ false
    by true e = absurd (omega (arith, eqb-true i j e))
    by false e = refl

slots_other : (s : RunConfig) (es : List Entry) (e : Entry) (k : ℕ) (xs : List Slot) → e.proc < k → AreSlots s es k xs → AreSlots s (es ++ e ∷ []) k xs
slots_other s es e k [] l w = tt
slots_other s es e k (x ∷ xs) l w = (w.0, slot_other s es e k x (apart e.proc k l) w.1, slots_other s es e (k + 1) xs (omega arith) w.2)

-- ---- what a process takes

-- after its entry, unless this is a fault
abbrev Taking_is : RunConfig → List Entry → ℕ → Taking → Type 0
Taking_is s es i Waits = (e : Entry) → CanTake s es i e → ⊥
Taking_is s es i (Takes y e) = CanTake s es i e × (e.proc ≡ i) × (is_fault e.act ≡ false → IsSlot s (es ++ e ∷ []) i y)
Taking_is s es i Unknown = Unit {0}

-- a process that stands at something
record Stands (s : RunConfig) (es : List Entry) (i : ℕ) (x : Slot) (n : Next) : Type 0 where
  within : i < s.procs
  goes_on : has_fault es ≡ false
  slot : IsSlot s es i x
  unended : x.ended ≡ false
  is_next : IsNext x.process n

can : (s : RunConfig) (es : List Entry) (i : ℕ) (x : Slot) (n : Next) (e : Entry) → Stands s es i x n → IsReady s es i n → entry_of s es i n ≡ Some e → CanTake s es i e
can s es i x n e w u k = record {
  within = w.within;
  goes_on = w.goes_on;
  unended = w.slot.2 ∙ w.unended;
  process = x.process;
  world = w.slot.1;
  next = n;
  is_next = w.is_next;
  ready = u;
  entry = k;
}

-- what it can take is the entry of what it stands at
taken_is : (s : RunConfig) (es : List Entry) (i : ℕ) (x : Slot) (n : Next) (e : Entry) → Stands s es i x n → CanTake s es i e → IsReady s es i n × (entry_of s es i n ≡ Some e)
taken_is s es i x n e w c =
    let same : c.process ≡ x.process = after_same _ _ _ _ c.world w.slot.1 in
    let one : c.next ≡ n = next_same x.process _ _ (subst (λ p. IsNext p c.next) same c.is_next) w.is_next in
    (subst (IsReady s es i) one c.ready, subst (λ m. entry_of s es i m ≡ Some e) one c.entry)

none_some : (e : Entry) → ◌≡◌ {A = Option Entry} None (Some e) → ⊥
none_some e k = cc

outcome_taking : (s : RunConfig) (es : List Entry) (x : Slot) (request : Request) (go : Answer → Process) (q : Process) → Reaches x.process q → step q ≡ At request go
    → Stands s es x.number x (next.Act request.place request.action) → is_last request.action ≡ false → IsReady s es x.number (next.Act request.place request.action)
    → (o : Outcome) → heap_answer s.program (history_of es) x.number request.action ≡ o → Taking_is s es x.number (by_outcome x request go o)
outcome_taking s es x request go q reach stands w last ready (Answers a) k =
    let e : Entry = record { proc = x.number; place = request.place; act = request.action; answer = a } in
    let own : (x.number == x.number) ≡ true = eq-eqb x.number x.number refl in (
      can s es x.number x _ e w ready (ap (entry_with x.number request.place request.action) k),
      refl,
      λ f. (
        refl,
        subst (λ rs. After (begin s x.number) rs (go a)) (sym (answers_own x.number es e own last)) (after_more w.slot.1 reach stands),
        end_own x.number es e own ∙ false_both (has_end x.number es) (is_end request.action || false) (w.slot.2 ∙ w.unended)
            (false_both (is_end request.action) false (neither (is_end request.action) (is_fault request.action) last).0 refl) ∙ sym w.unended,
      ),
    )
outcome_taking s es x request go q reach stands w last ready (heap.Faults kind) k =
    (can s es x.number x _ _ w ready (ap (entry_with x.number request.place request.action) k), refl, λ f. cc)
outcome_taking s es x request go q reach stands w last ready Impossible k =
    λ e c. none_some e (sym (ap (entry_with x.number request.place request.action) k) ∙ (taken_is s es x.number x _ e w c).1)

request_taking : (s : RunConfig) (es : List Entry) (x : Slot) (request : Request) (go : Answer → Process) (q : Process) → Reaches x.process q → step q ≡ At request go
    → Stands s es x.number x (next.Act request.place request.action) → is_last request.action ≡ false
    → (t : Bool) → is_ready s es x.number request.action ≡ t → Taking_is s es x.number (by_request s es x request go t)
request_taking s es x request go q reach stands w last true k =
    outcome_taking s es x request go q reach stands w last (ready s es x.number request.place request.action k) (heap_answer s.program (history_of es) x.number request.action) refl
request_taking s es x request go q reach stands w last false k =
    λ e c. let u = is_ready_then s es x.number request.place request.action (taken_is s es x.number x _ e w c).0 in cc

step_taking : (s : RunConfig) (es : List Entry) (x : Slot) → x.number < s.procs → has_fault es ≡ false → IsSlot s es x.number x → x.ended ≡ false
    → (t : Step) (q : Process) → Reaches x.process q → step q ≡ t → Taking_is s es x.number (by_step s es x t)
step_taking s es x l g w u (To p) q reach stands = tt
step_taking s es x l g w u (At request go) q reach stands =
    let end = no_end_asked q request go stands in
    request_taking s es x request go q reach stands (record { within = l; goes_on = g; slot = w; unended = u; is_next = (q, record { reaches = reach; stands = ap step_label stands }) })
    (false_both (is_end request.action) (is_fault request.action) end.0 end.1) (is_ready s es x.number request.action) refl
step_taking s es x l g w u (Ends at) q reach stands =
    let e : Entry = record { proc = x.number; place = at; act = act.End; answer = Done } in
    let own : (x.number == x.number) ≡ true = eq-eqb x.number x.number refl in
    let here : Stands s es x.number x (next.End at) = record { within = l; goes_on = g; slot = w; unended = u; is_next = (q, record { reaches = reach; stands = ap step_label stands }) } in (
      can s es x.number x _ e here tt refl,
      refl,
      λ f. (
        refl,
        subst (λ rs. After (begin s x.number) rs x.process) (sym (answers_more x.number es e
            ∙ ap (λ rs. answers_of x.number es ++ rs) (no_answer (x.number == x.number) e refl) ∙ append-nil (answers_of x.number es)))
            w.1,
        end_own x.number es e own ∙ ends (has_end x.number es),
      ),
    )
  where
    no_answer : (t : Bool) (e : Entry) → is_answered e ≡ false → map (λ (z : Entry). z.answer) (filter is_answered (cond t (e ∷ []) [])) ≡ []
    no_answer true e k = ap (λ b. map (λ (z : Entry). z.answer) (cond b (e ∷ []) [])) k
    no_answer false e k = refl

    ends : (b : Bool) → (b || (true || false)) ≡ true
    ends true = refl
    ends false = refl
step_taking s es x l g w u (Faults kind at) q reach stands = (
  can s es x.number x (next.Fault kind at) _ (record { within = l; goes_on = g; slot = w; unended = u; is_next = (q, record { reaches = reach; stands = ap step_label stands }) }) tt refl,
  refl,
  λ f. cc,
)

taking : (s : RunConfig) (es : List Entry) (x : Slot) → x.number < s.procs → has_fault es ≡ false → IsSlot s es x.number x → Taking_is s es x.number (next_taking s es x)
taking s es x l g w = by x.ended refl
  where
    by : (t : Bool) → x.ended ≡ t → Taking_is s es x.number (if t then Waits else by_step s es x (settle most_silent x.process))
    by true u = λ e c. let k = c.unended in cc
    by false u =
        let z = settled most_silent x.process (settle most_silent x.process) refl in
        step_taking s es x l g w u (settle most_silent x.process) z.0 z.1 z.2

-- ---- a turn

-- none of these processes can take an entry
abbrev NoneBelow : RunConfig → List Entry → ℕ → Type 0
NoneBelow s es k = (j : ℕ) (d : Entry) → j < k → CanTake s es j d → ⊥

none_up_to : (s : RunConfig) (es : List Entry) (k : ℕ) → NoneBelow s es k → ((d : Entry) → CanTake s es k d → ⊥) → NoneBelow s es (k + 1)
none_up_to s es k below own j d l c = by (split j k l)
  where
    split : (j k : ℕ) → j < k + 1 → (j < k) ⊎ (j ≡ k)
    split j k l = by_test (nat_lt j k) refl
      where
        by_test : (t : Bool) → nat_lt j k ≡ t → (j < k) ⊎ (j ≡ k)
        by_test true e = inl (ltb-true j k e)
        by_test false e = inr (omega (arith, ltb-false j k e))

    by : (j < k) ⊎ (j ≡ k) → ⊥
    by (inl m) = below j d m c
    by (inr m) = own d (subst (λ i. CanTake s es i d) m c)

abbrev Turn_is : RunConfig → List Entry → ℕ → SoloTurn → Type 0
Turn_is s es k sim.None = Unit {0}
Turn_is s es k (Taken ys e) =
    (i : ℕ) × (k ≤ i) × CanTake s es i e × (e.proc ≡ i) × NoneBelow s es i × (is_fault e.act ≡ false → AreSlots s (es ++ e ∷ []) k ys)
Turn_is s es k Untold = Unit {0}

put_turn : (s : RunConfig) (es : List Entry) (k : ℕ) (x : Slot) → k < s.procs → IsSlot s es k x → (t : SoloTurn) → Turn_is s es (k + 1) t → Turn_is s es k (put_before x t)
put_turn s es k x l w sim.None h = tt
put_turn s es k x l w (Taken ys e) h = (
  h.0,
  omega (arith, h.1),
  h.2,
  h.3,
  h.4,
  λ f. (l, slot_other s es e k x (beyond h.0 e.proc k h.1 h.3) w, h.5 f),
)
  where
    beyond : (i j k : ℕ) → k + 1 ≤ i → j ≡ i → (j == k) ≡ false
    beyond i j k a b = by (j == k) refl
      where
        by : (t : Bool) → (j == k) ≡ t → t ≡ false
        by true e = absurd (omega (arith, eqb-true j k e))
        by false e = refl
put_turn s es k x l w Untold h = tt

first_turn : (s : RunConfig) (es : List Entry) (k : ℕ) (x : Slot) (xs : List Slot) → k < s.procs → IsSlot s es k x → AreSlots s es (k + 1) xs → NoneBelow s es k
    → (t : Taking) → Taking_is s es k t → (rest : SoloTurn) → (NoneBelow s es (k + 1) → Turn_is s es (k + 1) rest) → Turn_is s es k (first_of t x xs rest)
first_turn s es k x xs l w ws below Waits h rest m = put_turn s es k x l w rest (m (none_up_to s es k below h))
first_turn s es k x xs l w ws below (Takes y e) h rest m =
    (k, omega arith, h.0, h.1, below, λ f. (l, h.2 f, slots_other s es e (k + 1) xs (omega (arith, h.1)) ws))
first_turn s es k x xs l w ws below Unknown h rest m = tt

turned : (s : RunConfig) (es : List Entry) (k : ℕ) (xs : List Slot) → has_fault es ≡ false → AreSlots s es k xs → NoneBelow s es k → Turn_is s es k (solo_turn s es xs)
turned s es k [] g w below = tt
turned s es k (x ∷ xs) g w below =
    let at : IsSlot s es x.number x = subst (λ i. IsSlot s es i x) (sym w.1.0) w.1 in
    let taken : Taking_is s es k (next_taking s es x) = subst (λ i. Taking_is s es i (next_taking s es x)) w.1.0 (taking s es x (subst (λ i. i < s.procs) (sym w.1.0) w.0) g at) in
    first_turn s es k x xs w.0 w.1 w.2 below (next_taking s es x) taken (solo_turn s es xs) (λ none. turned s es (k + 1) xs g w.2 none)

-- ---- the run

run_goes : (s : RunConfig) (n : ℕ) (es : List Entry) → IsSolo s es → has_fault es ≡ false
    → ((xs : List Slot) (ds : List Entry) → IsSolo s ds → has_fault ds ≡ false → AreSlots s ds 0 xs → IsSolo s (run_from s n xs ds))
    → (t : SoloTurn) → Turn_is s es 0 t → IsSolo s (run_after (run_from s n) es t)
run_goes s n es run g go sim.None h = run
run_goes s n es run g go (Taken ys e) h = by (is_fault e.act) refl
  where
    grown : IsSolo s (es ++ e ∷ [])
    grown = r.more run h.2 h.4 refl

    by : (t : Bool) → is_fault e.act ≡ t → IsSolo s (if t then es ++ e ∷ [] else run_from s n ys (es ++ e ∷ []))
    by true f = grown
    by false f = go ys (es ++ e ∷ []) grown (fault_more es e g f) (h.5 f)
run_goes s n es run g go Untold h = run

run_solo : (s : RunConfig) (n : ℕ) (xs : List Slot) (es : List Entry) → IsSolo s es → has_fault es ≡ false → AreSlots s es 0 xs → IsSolo s (run_from s n xs es)
run_solo s zero xs es run g w = run
run_solo s (suc n) xs es run g w =
    run_goes s n es run g (run_solo s n) (solo_turn s es xs) (turned s es 0 xs g w (λ j d l c. absurd (omega arith)))

first_slots : (s : RunConfig) (i n : ℕ) → i + n ≤ s.procs → AreSlots s [] i (slots s i n)
first_slots s i zero l = tt
first_slots s i (suc n) l = (omega arith, (refl, none, refl), first_slots s (i + 1) n (omega arith))

pub solo_run : (s : RunConfig) (turns : ℕ) → IsSolo s (solo s turns)
solo_run s turns = run_solo s turns (slots s 0 s.procs) [] r.none refl (first_slots s 0 s.procs (omega arith))
