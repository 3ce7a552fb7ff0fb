-- What a departure is answered hangs on the round alone: departures of one number are answered the same.
use Rattle.std.proofs.Common.{◌≡◌, ℕ, zero, suc, ◌+◌, ◌==◌, Bool, true, false, not, ◌&&◌, ◌||◌, ◌⊎◌, inl, inr, if◌then◌else◌, map, filter, length, slice_get, Option, Some, None, List, [], ◌∷◌, ◌++◌, refl, ap, ap₂, sym, ◌∙◌, subst, arith, append-nil, append_assoc, eqb-true}
use Rattle.std.specs.Option.{option_and_then}
use Rattle.ti_base.specs.declared.value.Value.{Value}
use Rattle.ti_base.specs.declared.value.Value.TheVariants as v
use Rattle.ti_base.specs.declared.fault.FaultKind.{FaultKind}
use Rattle.ti_base.specs.declared.fault.FaultKind.TheVariants.{RegionInUse}
use Rattle.ti_base.specs.declared.action.Action.{Action}
use Rattle.ti_base.specs.declared.action.Action.TheVariants as act
use Rattle.ti_base.specs.declared.action.CollKind.{CollKind}
use Rattle.ti_base.specs.declared.action.CollKind.TheVariants as coll
use Rattle.ti_base.specs.declared.action.Deposit.{Deposit}
use Rattle.ti_base.specs.declared.entry.Answer.{Answer}
use Rattle.ti_base.specs.declared.entry.Answer.TheVariants.{Done, Val}
use Rattle.ti_base.specs.declared.entry.Entry.{Entry}
use Rattle.ti_base.specs.declared.entry.Next.{Next}
use Rattle.ti_base.specs.declared.entry.Next.TheVariants as next
use Rattle.ti_lang.specs.Program.Classes.{ProgramView}
use Rattle.ti_lang.specs.Meaning.Processes.{RunConfig, Process}
use Rattle.ti_lang.specs.Meaning.Steps.{At, step}
use Rattle.ti_lang.specs.Meaning.NextStep.{RunsTo}
use Rattle.ti_lang.specs.Meaning.Histories.{History, history_of, is_end, is_fault, is_arrival, is_departure, is_answered, arrivals}
use Rattle.ti_lang.specs.Meaning.RoundsOf.{Arrival, arrival_in, arrival_at, last_arrival, value_in, deposit_from, was_left}
use Rattle.ti_lang.specs.Meaning.RegionUse.{is_in_use}
use Rattle.ti_lang.specs.Meaning.HeapAnswers.{Outcome, Answers, Faults, Impossible, where_some, answers_value, leaves_delete, departs, heap_answer, IsAnswered}
use Rattle.ti_lang.specs.Meaning.HeapAnswers as heap
use Rattle.ti_lang.specs.Meaning.Runs.{ProcAfter, entry_with, entry_of, CanTake, IsRun}
use Rattle.ti_lang.specs.Meaning.Runs as run
use Rattle.ti_lang.proofs.Lemmas.{taker, history_grows, run_answered, some_entry, answer_same}
use Rattle.ti_align.specs.SinglePart.{single_part}
use Rattle.ti_align.specs.Alignment.{ArrivesAt, ArrivalsAgree}
use Rattle.ti_align.specs.Alignment as aligned
use Rattle.ti_align.proofs.Runs.Ways.{Asked, asking, answers_at_departures, waiting, SameDepartures}
use Rattle.ti_align.proofs.Runs.Vars.{true_false, and_left, and_right}
use Rattle.ti_align.proofs.Alignment.Fitting.{FineMethods}
use Rattle.ti_align.proofs.Runs.Balance.{step_waits, balanced}
use Rattle.ti_align.proofs.Runs.Running.{at_action, none_entry}
use Rattle.ti_align.proofs.Runs.Entries.{departures_both, own, other}
use Rattle.ti_align.proofs.Alignment.Aligning.{arrivals_agree, way_next}
use Rattle.ti_align.proofs.Runs.Arrived.{more_own, back, Comes, before, now, comes, reached, stays, made, made_stays, made_all, made_same}

-- ---- what a round gives

-- what a process is answered that leaves its round number n, which is of this kind and argument
abbrev pub RoundAnswer : History → ℕ → ℕ → CollKind → Option ℕ → Answer → Type 0
RoundAnswer h i n coll.Broadcast arg r =
    (root : ℕ) × (b : Arrival) × (value : Value) × (arg ≡ Some root) × (arrival_at root n h ≡ Some b) × (value_in b.deposit ≡ Some value) × (r ≡ Val value)
RoundAnswer h i n coll.MakeRegion arg r = r ≡ Val (v.Region (made i n h))
RoundAnswer h i n kind arg r = r ≡ Done

pub record Told (h : History) (i n : ℕ) (r : Answer) : Type 0 where
  pub arrival : Arrival
  pub is : arrival_at i n h ≡ Some arrival
  pub gives : RoundAnswer h i n arrival.kind arrival.arg r

-- it stays so as the history goes on
answer_stays : (e : Entry) (h : History) (i n : ℕ) (kind : CollKind) (arg : Option ℕ) (r : Answer) (a : Arrival) → arrival_at i n h ≡ Some a
    → RoundAnswer h i n kind arg r → RoundAnswer (e ∷ h) i n kind arg r
answer_stays e h i n coll.Broadcast arg r a z g = (g.0, g.1, g.2, g.3, stays g.0 n e h g.1 g.4, g.5, g.6)
answer_stays e h i n coll.MakeRegion arg r a z g = g ∙ ap (λ k. Val (v.Region k)) (sym (made_stays i n e h (reached i n h a z)))
answer_stays e h i n coll.Barrier arg r a z g = g
answer_stays e h i n coll.Exchange arg r a z g = g
answer_stays e h i n coll.DeleteRegion arg r a z g = g

told_more : (e : Entry) (h : History) (i n : ℕ) (r : Answer) → Told h i n r → Told (e ∷ h) i n r
told_more e h i n r t = record {
  arrival = t.arrival;
  is = stays i n e h t.arrival t.is;
  gives = answer_stays e h i n t.arrival.kind t.arrival.arg r t.arrival t.is t.gives;
}

-- ---- what the heap answers

pub impossible : (r : Answer) → Impossible ≡ Answers r → ⊥
impossible r e = cc

fault : (k : FaultKind) (r : Answer) → Faults k ≡ Answers r → ⊥
fault k r e = cc

leaves_done : (program : ProgramView) (h : History) (round : ℕ) (arg : Option ℕ) (r : Answer) → leaves_delete program h round arg ≡ Answers r → r ≡ Done
leaves_done program h round None r z = absurd (impossible r z)
leaves_done program h round (Some n) r z = go (not (was_left round h) && is_in_use program n round h) z
  where
    go : (b : Bool) → (if b then Faults RegionInUse else Answers Done) ≡ Answers r → r ≡ Done
    go true z = absurd (fault _ r z)
    go false z = sym (answer_same _ _ z)

sent : (h : History) (i n root : ℕ) (arg : Option ℕ) (r : Answer) → arg ≡ Some root → (o : Option Arrival) → arrival_at root n h ≡ o
    → answers_value (option_and_then (λ (a : Arrival). value_in a.deposit) o) ≡ Answers r
    → RoundAnswer h i n coll.Broadcast arg r
sent h i n root arg r l None z k = absurd (impossible r k)
sent h i n root arg r l (Some b) z k = by (value_in b.deposit) refl k
  where
    by : (o : Option Value) → value_in b.deposit ≡ o → answers_value o ≡ Answers r → RoundAnswer h i n coll.Broadcast arg r
    by None y k = absurd (impossible r k)
    by (Some value) y k = (root, b, value, l, z, y, sym (answer_same _ _ k))

-- the departure from the round at which the process arrived last
departs_told : (program : ProgramView) (h : History) (i : ℕ) (kind : CollKind) (arg : Option ℕ) (r : Answer) → departs program h i kind arg ≡ Answers r → RoundAnswer h i (arrivals i h) kind arg r
departs_told program h i coll.Barrier arg r z = sym (answer_same _ _ z)
departs_told program h i coll.Exchange arg r z = sym (answer_same _ _ z)
departs_told program h i coll.Broadcast None r z = absurd (impossible r z)
departs_told program h i coll.Broadcast (Some root) r z = sent h i (arrivals i h) root (Some root) r refl (arrival_at root (arrivals i h) h) refl z
departs_told program h i coll.MakeRegion arg r z = sym (answer_same _ _ z) ∙ ap (λ k. Val (v.Region k)) (made_all i h)
departs_told program h i coll.DeleteRegion arg r z = leaves_done program h (arrivals i h) arg r z

pub told_now : (program : ProgramView) (h : History) (i : ℕ) (r : Answer) → heap_answer program h i act.Depart ≡ Answers r → Told h i (arrivals i h) r
told_now program h i r z = by (last_arrival i h) refl z
  where
    by : (o : Option Arrival) → last_arrival i h ≡ o → where_some o (λ (a : Arrival). departs program h i a.kind a.arg) ≡ Answers r → Told h i (arrivals i h) r
    by None y k = absurd (impossible r k)
    by (Some a) y k = record { arrival = a; is = y; gives = departs_told program h i a.kind a.arg r k }

-- ---- the entry of an action

unanswered : (d e : Entry) → d ≡ e → is_answered d ≡ false → is_answered e ≡ true → ⊥
unanswered d e q x y = true_false (sym y ∙ sym (ap is_answered q) ∙ x)

-- what the process had next is the action of the entry
pub acts_as : (s : RunConfig) (es : List Entry) (i : ℕ) (n : Next) (e : Entry) → entry_of s es i n ≡ Some e → is_answered e ≡ true → n ≡ next.Act e.place e.act
acts_as s es i (next.Act at a) e h k = by (heap_answer s.program (history_of es) i a) h
  where
    by : (o : Outcome) → entry_with i at a o ≡ Some e → next.Act at a ≡ next.Act e.place e.act
    by (Answers r) h = ap (λ (x : Entry). next.Act x.place x.act) (some_entry _ e h)
    by (Faults kind) h = absurd (unanswered _ e (some_entry _ e h) refl k)
    by Impossible h = absurd (none_entry e h)
acts_as s es i (next.End at) e h k = absurd (unanswered _ e (some_entry _ e h) refl k)
acts_as s es i (next.Fault kind at) e h k = absurd (unanswered _ e (some_entry _ e h) refl k)

pub depart_answered : (e : Entry) → is_departure e.act ≡ true → is_answered e ≡ true
depart_answered e k = by e.act k
  where
    by : (a : Action) → is_departure a ≡ true → not (is_end a || is_fault a) ≡ true
    by act.Depart k = refl
    by _ k = absurd (true_false (sym k))

pub arrive_answered : (e : Entry) → is_arrival e.act ≡ true → is_answered e ≡ true
arrive_answered e k = by e.act k
  where
    by : (a : Action) → is_arrival a ≡ true → not (is_end a || is_fault a) ≡ true
    by (act.Arrive kind arg deposit_from) k = refl
    by _ k = absurd (true_false (sym k))

pub depart_is : (a : Action) → is_departure a ≡ true → a ≡ act.Depart
depart_is act.Depart k = refl
depart_is _ k = absurd (true_false (sym k))

-- ---- the answers to departures

pub said : (program : ProgramView) (h : History) (e : Entry) → IsAnswered program (e ∷ h) → heap_answer program h e.proc e.act ≡ Answers e.answer
said program h e (heap.more w k) = k

pub left_one : (i : ℕ) (p : Process) (wanted : Asked) (go : _) (c l : ℕ) (at : _) → step p ≡ At (asking at act.Depart wanted) go → c ≡ l + waiting p.wait → c ≡ suc l
left_one i p wanted go c l at z k = let w = step_waits p (At (asking at act.Depart wanted) go) z in waits_one (waiting p.wait) (ap waiting w.1) k
  where
    waits_one : (n : ℕ) → n ≡ 1 → c ≡ l + n → c ≡ suc l
    waits_one n x y = omega arith

-- a process that leaves has arrived once more often than it has left
pub has_come : (s : RunConfig) (es : List Entry) (i : ℕ) (e : Entry) → IsRun s es → CanTake s es i e → is_departure e.act ≡ true → arrivals i es ≡ suc (length (answers_at_departures i es))
has_come s es i e w t k =
    let n : t.next ≡ next.Act e.place act.Depart = acts_as s es i t.next e t.entry (depart_answered e k) ∙ ap (next.Act e.place) (depart_is e.act k) in
    let a = at_action (step t.is_next.0) e.place act.Depart (t.is_next.1.stands ∙ ap Some n) in
    let y = way_next s es i t.process t.is_next.0 w t.world t.is_next.1.reaches in
    left_one i t.is_next.0 a.0 a.1 (arrivals i es) (length (answers_at_departures i es)) e.place a.2
    (sym y.2 ∙ balanced s i t.is_next.0 y.0 y.1 ∙ ap (λ xs. length xs + waiting t.is_next.0.wait) y.3)

-- a new departure
new_told : (s : RunConfig) (es : List Entry) (i : ℕ) (e : Entry) → IsRun s es → CanTake s es i e → is_departure e.act ≡ true → Told (history_of es) i (suc (length (answers_at_departures i es))) e.answer
new_told s es i e w t k =
    let h = history_of es in
    let all : IsAnswered s.program (e ∷ h) = subst (IsAnswered s.program) (history_grows es e) (run_answered s (es ++ e ∷ []) (run.more w t refl)) in
    let z : heap_answer s.program h i act.Depart ≡ Answers e.answer =
    ap₂ (λ (p : ℕ) (a : Action). heap_answer s.program h p a) (sym (taker s es i e t)) (sym (depart_is e.act k)) ∙ said s.program h e all in
    subst (λ n. Told h i n e.answer) (back i es ∙ has_come s es i e w t k) (told_now s.program h i e.answer z)

none_answer : (r : Answer) → ◌≡◌ {A = Option Answer} None (Some r) → ⊥
none_answer r e = cc

some_answer : (r t : Answer) → Some r ≡ Some t → r ≡ t
some_answer r t e = cc

-- an element of a list with one more at its end
last_or : (xs : List Answer) (x : Answer) (k : ℕ) (r : Answer) → slice_get (xs ++ x ∷ []) k ≡ Some r → (slice_get xs k ≡ Some r) ⊎ ((k ≡ length xs) × (x ≡ r))
last_or [] x zero r e = inr (refl, some_answer x r e)
last_or [] x (suc k) r e = absurd (none_answer r e)
last_or (y ∷ ys) x zero r e = inl e
last_or (y ∷ ys) x (suc k) r e = by (last_or ys x k r e)
  where
    longer : (a b : ℕ) → a ≡ b → suc a ≡ b + 1
    longer a b h = omega arith

    by : (slice_get ys k ≡ Some r) ⊎ ((k ≡ length ys) × (x ≡ r)) → (slice_get (y ∷ ys) (suc k) ≡ Some r) ⊎ ((suc k ≡ length (y ∷ ys)) × (x ≡ r))
    by (inl z) = inl z
    by (inr z) = inr (ap suc z.0, z.1)

abbrev pub leaves : ℕ → Entry → Bool
leaves i e = (e.proc == i) && is_departure e.act

pub left_now : (i : ℕ) (e : Entry) → leaves i e ≡ true → answers_at_departures i (e ∷ []) ≡ e.answer ∷ []
left_now i e k =
    ap (λ xs. map (λ (e : Entry). e.answer) (filter (λ (e : Entry). is_departure e.act) xs)) (own i e (and_left _ _ k)) ∙ kept (and_right (e.proc == i) _ k)
  where
    kept : is_departure e.act ≡ true → map (λ (e : Entry). e.answer) (filter (λ (e : Entry). is_departure e.act) (e ∷ [])) ≡ e.answer ∷ []
    kept h = rw h refl

pub none_left : (i : ℕ) (e : Entry) → leaves i e ≡ false → answers_at_departures i (e ∷ []) ≡ []
none_left i e k = go (e.proc == i) refl
  where
    dropped : is_departure e.act ≡ false → map (λ (e : Entry). e.answer) (filter (λ (e : Entry). is_departure e.act) (e ∷ [])) ≡ []
    dropped h = rw h refl

    go : (b : Bool) → (e.proc == i) ≡ b → answers_at_departures i (e ∷ []) ≡ []
    go true h =
        ap (λ xs. map (λ (e : Entry). e.answer) (filter (λ (e : Entry). is_departure e.act) xs)) (own i e h)
        ∙ dropped (sym (ap (λ b. b && is_departure e.act) h) ∙ k)
    go false h = ap (λ xs. map (λ (e : Entry). e.answer) (filter (λ (e : Entry). is_departure e.act) xs)) (other i e h)

-- a departure of the run, old or new
told_before : (s : RunConfig) (es : List Entry) (p : ℕ) (e : Entry) → IsRun s es → CanTake s es p e → (i k : ℕ) (r : Answer)
    → (slice_get (answers_at_departures i es) k ≡ Some r → Told (history_of es) i (suc k) r)
    → slice_get (answers_at_departures i (es ++ e ∷ [])) k ≡ Some r → Told (history_of es) i (suc k) r
told_before s es p e w t i k r old z = go (leaves i e) refl (subst (λ xs. slice_get xs k ≡ Some r) (departures_both i es (e ∷ [])) z)
  where
    go : (b : Bool) → leaves i e ≡ b → slice_get (answers_at_departures i es ++ answers_at_departures i (e ∷ [])) k ≡ Some r → Told (history_of es) i (suc k) r
    go false l g = old (subst (λ xs. slice_get xs k ≡ Some r) (ap (λ xs. answers_at_departures i es ++ xs) (none_left i e l) ∙ append-nil _) g)
    go true l g = by (last_or _ e.answer k r (subst (λ xs. slice_get xs k ≡ Some r) (ap (λ xs. answers_at_departures i es ++ xs) (left_now i e l)) g))
      where
        by : (slice_get (answers_at_departures i es) k ≡ Some r) ⊎ ((k ≡ length (answers_at_departures i es)) × (e.answer ≡ r)) → Told (history_of es) i (suc k) r
        by (inl y) = old y
        by (inr y) =
            let who : p ≡ i = sym (taker s es p e t) ∙ eqb-true e.proc i (and_left _ _ l) in
            let own = new_told s es i e w (subst (λ j. CanTake s es j e) who t) (and_right (e.proc == i) _ l) in
            subst (λ q. Told (history_of es) i (suc k) q) y.1 (subst (λ n. Told (history_of es) i (suc n) e.answer) (sym y.0) own)

no_get : (k : ℕ) (r : Answer) → slice_get {X = Answer} [] k ≡ Some r → ⊥
no_get k r e = none_answer r e

told : (s : RunConfig) (es : List Entry) → IsRun s es → (i k : ℕ) (r : Answer) → slice_get (answers_at_departures i es) k ≡ Some r → Told (history_of es) i (suc k) r
told s es run.none i k r z = absurd (no_get k r z)
told s all (run.more {es = es} {i = p} {e = e} w t y) i k r z =
    let h = told_before s es p e w t i k r (λ g. told s es w i k r g) (subst (λ xs. slice_get (answers_at_departures i xs) k ≡ Some r) y z) in
    subst (λ x. Told x i (suc k) r) (sym (ap history_of y ∙ history_grows es e)) (told_more e (history_of es) i (suc k) r h)

-- ---- arrivals of the history are those of the run

pub arrival_is : (a : Action) (x : Arrival) → arrival_in a ≡ Some x → a ≡ act.Arrive x.kind x.arg x.deposit
arrival_is (act.Arrive kind arg deposit_from) x h = ap (λ (y : Arrival). act.Arrive y.kind y.arg y.deposit) (some_arrival _ x h)
  where
    some_arrival : (a b : Arrival) → Some a ≡ Some b → a ≡ b
    some_arrival a b h = cc
arrival_is _ x h = absurd (none_arrival x h)
  where
    none_arrival : (b : Arrival) → ◌≡◌ {A = Option Arrival} None (Some b) → ⊥
    none_arrival b h = cc

unfoldable pub extended : (s : RunConfig) (es all : List Entry) (e : Entry) (i k : ℕ) (a : aligned.SingleArrival) → all ≡ es ++ e ∷ [] → ArrivesAt s es i k a → ArrivesAt s all i k a
extended s es all e i k a z x = record {
  before = x.before;
  rest = x.rest ++ e ∷ [];
  deposit = x.deposit;
  answer = x.answer;
  split = z ∙ ap (λ xs. xs ++ e ∷ []) x.split ∙ append_assoc x.before _ (e ∷ []);
  count = x.count;
  process = x.process;
  world = x.world;
  settled = x.settled;
  settles = x.settles;
  single = x.single;
}

-- a new arrival
unfoldable pub arrives_now : (s : RunConfig) (es all : List Entry) (e : Entry) (i k : ℕ) (kind : CollKind) (arg : Option ℕ) (deposit_from : Deposit)
    (t : CanTake s es i e) → all ≡ es ++ e ∷ [] → e.act ≡ act.Arrive kind arg deposit_from → arrivals i es ≡ k
    → ArrivesAt s all i k (record { place = e.place; kind = kind; arg = arg; single = single_part t.is_next.0 })
arrives_now s es all e i k kind arg deposit_from t z is c =
    let n : t.next ≡ next.Act e.place (act.Arrive kind arg deposit_from) = acts_as s es i t.next e t.entry (arrive_answered e (ap is_arrival is)) ∙ ap (next.Act e.place) is in
    record {
      before = es;
      rest = [];
      deposit = deposit_from;
      answer = e.answer;
      split = z ∙ ap (λ d. es ++ d ∷ []) (ap₂ (λ (p : ℕ) (b : Action). record { proc = p; place = e.place; act = b; answer = e.answer }) (taker s es i e t) is);
      count = c;
      process = t.process;
      world = t.world;
      settled = t.is_next.0;
      settles = subst (RunsTo t.process t.is_next.0) n t.is_next.1;
      single = refl;
    }

-- an arrival of the history, as one of the run
abbrev pub Seen : RunConfig → List Entry → ℕ → ℕ → Arrival → Type 0
Seen s es i k a = (x : aligned.SingleArrival) × ArrivesAt s es i k x × (x.kind ≡ a.kind) × (x.arg ≡ a.arg)

seen_now : (s : RunConfig) (es all : List Entry) (e : Entry) (i k : ℕ) (a : Arrival) → CanTake s es i e → all ≡ es ++ e ∷ []
    → is_arrival e.act ≡ true → arrival_in e.act ≡ Some a → arrivals i es ≡ k → Seen s all i k a
seen_now s es all e i k a t z l y c =
    (record { place = e.place; kind = a.kind; arg = a.arg; single = single_part t.is_next.0 }, arrives_now s es all e i k a.kind a.arg a.deposit t z (arrival_is e.act a y) c, refl, refl)

one_less : (a b c : ℕ) → a ≡ suc b → a ≡ suc c → b ≡ c
one_less a b c h k = omega arith

pub seen : (s : RunConfig) (es : List Entry) → IsRun s es → (i k : ℕ) (a : Arrival) → arrival_at i (suc k) (history_of es) ≡ Some a → Seen s es i k a
seen s es run.none i k a z = absurd (none_arrival a z)
  where
    none_arrival : (b : Arrival) → ◌≡◌ {A = Option Arrival} None (Some b) → ⊥
    none_arrival b h = cc
seen s all (run.more {es = es} {i = p} {e = e} w t y) i k a z =
    by (comes i (suc k) e (history_of es) a (sym (ap (arrival_at i (suc k)) (ap history_of y ∙ history_grows es e)) ∙ z)) (λ g. seen s es w i k a g)
  where
    by : Comes i (suc k) e (history_of es) a → (arrival_at i (suc k) (history_of es) ≡ Some a → Seen s es i k a) → Seen s all i k a
    by (before g) ih = let x = ih g in (x.0, extended s es all e i k x.0 y x.1, x.2, x.3)
    by (now o c g) ih =
        let who : p ≡ i = sym (taker s es p e t) ∙ eqb-true e.proc i (and_left _ _ o) in
        seen_now s es all e i k a (subst (λ j. CanTake s es j e) who t) y (and_right (e.proc == i) _ o) g
        (sym (back i es) ∙ one_less _ _ k (more_own i e (history_of es) o) c)

-- ---- departures of one number

pub root_same : (a : Option ℕ) (m n : ℕ) → a ≡ Some m → a ≡ Some n → m ≡ n
root_same a m n x y = cc

arrival_same : (o : Option Arrival) (a b : Arrival) → o ≡ Some a → o ≡ Some b → a ≡ b
arrival_same o a b x y = cc

value_same : (o : Option Value) (a b : Value) → o ≡ Some a → o ≡ Some b → a ≡ b
value_same o a b x y = cc

sent_same : (h : History) (n : ℕ) (arg : Option ℕ) (r t : Answer) (m k : ℕ) (a b : Arrival) (x y : Value) → arg ≡ Some m → arg ≡ Some k → arrival_at m n h ≡ Some a → arrival_at k n h ≡ Some b
    → value_in a.deposit ≡ Some x → value_in b.deposit ≡ Some y → r ≡ Val x → t ≡ Val y → r ≡ t
sent_same h n arg r t m k a b x y p q f g u w z l =
    let root : m ≡ k = root_same arg m k p q in
    let arrival : a ≡ b = arrival_same (arrival_at k n h) a b (subst (λ j. arrival_at j n h ≡ Some a) root f) g in
    let value : x ≡ y = value_same (value_in b.deposit) x y (subst (λ (d : Arrival). value_in d.deposit ≡ Some x) arrival u) w in
    z ∙ ap Val value ∙ sym l

round_same : (h : History) (i j n : ℕ) (kind : CollKind) (arg : Option ℕ) (r t : Answer) → made i n h ≡ made j n h → RoundAnswer h i n kind arg r → RoundAnswer h j n kind arg t → r ≡ t
round_same h i j n coll.Broadcast arg r t m x y = sent_same h n arg r t x.0 y.0 x.1 y.1 x.2 y.2 x.3 y.3 x.4 y.4 x.5 y.5 x.6 y.6
round_same h i j n coll.MakeRegion arg r t m x y = x ∙ ap (λ k. Val (v.Region k)) m ∙ sym y
round_same h i j n coll.Barrier arg r t m x y = x ∙ sym y
round_same h i j n coll.Exchange arg r t m x y = x ∙ sym y
round_same h i j n coll.DeleteRegion arg r t m x y = x ∙ sym y

-- arrivals of one number are of one kind and argument
pub alike : (s : RunConfig) (es : List Entry) → IsRun s es → ArrivalsAgree s es → (i j k : ℕ) (a b : Arrival)
    → arrival_at i (suc k) (history_of es) ≡ Some a → arrival_at j (suc k) (history_of es) ≡ Some b
    → (a.kind ≡ b.kind) × (a.arg ≡ b.arg)
alike s es w f i j k a b x y =
    let l = seen s es w i k a x in
    let r = seen s es w j k b y in
    let z = f i j k l.0 r.0 l.1 r.1 in
    (sym l.2 ∙ ap (λ (q : aligned.SingleArrival). q.kind) z ∙ r.2, sym l.3 ∙ ap (λ (q : aligned.SingleArrival). q.arg) z ∙ r.3)

told_same : (s : RunConfig) (es : List Entry) → IsRun s es → ArrivalsAgree s es → (i j k : ℕ) (r t : Answer) → Told (history_of es) i (suc k) r → Told (history_of es) j (suc k) t → r ≡ t
told_same s es w f i j k r t x y =
    let h = history_of es in
    let z = alike s es w f i j k x.arrival y.arrival x.is y.is in
    let m = made_same i j (suc k) h (λ n a b g l. (alike s es w f i j n a b g l).0) (reached i (suc k) h x.arrival x.is) (reached j (suc k) h y.arrival y.is) in
    round_same h i j (suc k) y.arrival.kind y.arrival.arg r t m (moved x.arrival.kind y.arrival.kind x.arrival.arg y.arrival.arg z.0 z.1 x.gives) y.gives
  where
    moved : (c d : CollKind) (a b : Option ℕ) → c ≡ d → a ≡ b → RoundAnswer (history_of es) i (suc k) c a r → RoundAnswer (history_of es) i (suc k) d b r
    moved c d a b p q g = subst (λ e. RoundAnswer (history_of es) i (suc k) d e r) q (subst (λ e. RoundAnswer (history_of es) i (suc k) e a r) p g)

-- in every run departures of one number are answered the same
pub same_departures : (s : RunConfig) → FineMethods s.program s.program.methods → (es : List Entry) → IsRun s es → SameDepartures es
same_departures s fine es run.none i j k r t x y = absurd (no_get k r x)
same_departures s fine all (run.more {es = es} {i = p} {e = e} w c z) i j k r t x y =
    let f = arrivals_agree s fine es w (same_departures s fine es w) in
    told_same s es w f i j k r t
    (told_before s es p e w c i k r (λ g. told s es w i k r g) (subst (λ xs. slice_get (answers_at_departures i xs) k ≡ Some r) z x))
    (told_before s es p e w c j k t (λ g. told s es w j k t g) (subst (λ xs. slice_get (answers_at_departures j xs) k ≡ Some t) z y))
