-- In a run whose departures of one number were answered the same, arrivals of one number are the same.
use Rattle.std.proofs.Common.{◌≡◌, ℕ, zero, suc, ◌≤◌, ◌==◌, Bool, true, false, ◌⊎◌, inl, inr, slice_get, Option, Some, None, List, [], ◌∷◌, ◌++◌, refl, ap, ap₂, sym, ◌∙◌, subst, append-nil, eqb-true}
use Rattle.std.specs.List.{list_any}
use Rattle.std.proofs.lemmas.List.Elements.{filter-append}
use Rattle.std.proofs.lemmas.List.Folds.{list_any-append}
use Rattle.ti_base.specs.declared.place.Place.{Place}
use Rattle.ti_base.specs.declared.fault.FaultKind.{FaultKind}
use Rattle.ti_base.specs.declared.action.Action.{Action}
use Rattle.ti_base.specs.declared.action.Action.TheVariants as act
use Rattle.ti_base.specs.declared.action.CollKind.{CollKind}
use Rattle.ti_base.specs.declared.entry.Answer.{Answer}
use Rattle.ti_base.specs.declared.entry.Entry.{Entry}
use Rattle.ti_base.specs.declared.entry.Next.{Next}
use Rattle.ti_base.specs.declared.entry.Next.TheVariants as next
use Rattle.ti_lang.specs.Meaning.Processes.{RunConfig, Process, begin}
use Rattle.ti_lang.specs.Meaning.Steps.{Step, To, At, Ends, Faults, step}
use Rattle.ti_lang.specs.Meaning.NextStep.{Reaches, After, step_label, RunsTo}
use Rattle.ti_lang.specs.Meaning.Histories.{arrivals, entries_of, history_of, is_end, has_end}
use Rattle.ti_lang.specs.Meaning.HeapAnswers.{Outcome, Answers, Impossible, heap_answer}
use Rattle.ti_lang.specs.Meaning.HeapAnswers as heap
use Rattle.ti_lang.specs.Meaning.Runs.{ProcAfter, CanTake, IsRun, entry_with, entry_of}
use Rattle.ti_lang.specs.Meaning.Runs as run
use Rattle.ti_lang.proofs.Lemmas.{after_same, settled_same, fronts, taker}
use Rattle.ti_align.specs.SinglePart.{SingleFrame}
use Rattle.ti_align.specs.Alignment.{SingleArrival, ArrivesAt, ArrivalsAgree, NoneAfterEnd}
use Rattle.ti_align.proofs.Runs.Ways.{Asked, asking, Meeting, Way, comings, answers_left, answers_at_departures, SameDepartures, last_from}
use Rattle.ti_align.proofs.Runs.Ways as way
use Rattle.ti_align.proofs.Runs.Vars.{true_false}
use Rattle.ti_align.proofs.Alignment.Fitting.{FineMethods}
use Rattle.ti_align.proofs.Alignment.Passing.{same_arrival, BothArrive, no_end}
use Rattle.ti_align.proofs.Alignment.Passing as passing
use Rattle.ti_align.proofs.Runs.Running.{on_way, way_then, reach_way, at_action, Grows, still, acted, grows, none_entry}
use Rattle.ti_align.proofs.Runs.Arrived.{last_kind}
use Rattle.ti_align.proofs.Runs.Entries.{departures_both, own, other}
use Rattle.ti_align.proofs.RunTypes.Operating.{or_either, or_one}

-- what stands before an entry of a run is a run
pub run_before : (s : RunConfig) (es before rest : List Entry) (e : Entry) → IsRun s es → es ≡ before ++ e ∷ rest → IsRun s before
run_before s es before rest e w z = fronts s before (e ∷ rest) (subst (IsRun s) z w)

none_some : (r : Answer) → ◌≡◌ {A = Option Answer} None (Some r) → ⊥
none_some r e = cc

pub get_more : (xs ys : List Answer) (k : ℕ) (r : Answer) → slice_get xs k ≡ Some r → slice_get (xs ++ ys) k ≡ Some r
get_more [] ys k r e = absurd (none_some r e)
get_more (x ∷ xs) ys zero r e = e
get_more (x ∷ xs) ys (suc k) r e = get_more xs ys k r e

-- the way to an arrival
way_to : (s : RunConfig) (es : List Entry) (i k : ℕ) (a : SingleArrival) → IsRun s es → (x : ArrivesAt s es i k a)
    → (ms : List Meeting) × Way (begin s i) ms x.settled × (comings ms ≡ k) × ((n : ℕ) (r : Answer) → slice_get (answers_left ms) n ≡ Some r → slice_get (answers_at_departures i es) n ≡ Some r)
way_to s es i k a w x =
    let before = run_before s es x.before x.rest _ w x.split in
    let o = on_way s x.before before i in
    let same : o.process ≡ x.process = after_same _ _ _ _ o.world x.world in
    let goes : Way (begin s i) o.meetings x.process = subst (λ p. Way (begin s i) o.meetings p) same o.goes in
    let on : Way (begin s i) (o.meetings ++ []) x.settled = way_then (begin s i) x.process x.settled o.meetings [] goes (reach_way x.process x.settled x.settled [] x.settles.reaches way.stop) in (
      o.meetings,
      subst (λ ms. Way (begin s i) ms x.settled) (append-nil o.meetings) on,
      o.count ∙ x.count,
      λ n r h.
          subst (λ z. slice_get (answers_at_departures i z) n ≡ Some r) (sym x.split)
          (subst (λ z. slice_get z n ≡ Some r) (sym (departures_both i x.before _)) (get_more (answers_at_departures i x.before) _ n r (subst (λ z. slice_get z n ≡ Some r) o.told h))),
    )

arrival_same : (a b : SingleArrival) → a.place ≡ b.place → a.kind ≡ b.kind → a.arg ≡ b.arg → a.single ≡ b.single → a ≡ b
arrival_same a b x y z w =
    ap₂ (λ (p : Place) (k : CollKind). record { place = p; kind = k; arg = a.arg; single = a.single }) x y
    ∙ ap₂ (λ (g : Option ℕ) (l : List SingleFrame). record { place = b.place; kind = b.kind; arg = g; single = l }) z w

pub arrivals_agree : (s : RunConfig) → FineMethods s.program s.program.methods → (es : List Entry) → IsRun s es → SameDepartures es → ArrivalsAgree s es
arrivals_agree s fine es w left i j k a b x y =
    let l = way_to s es i k a w x in
    let r = way_to s es j k b w y in
    let c = at_action (step x.settled) a.place (act.Arrive a.kind a.arg x.deposit) x.settles.stands in
    let d = at_action (step y.settled) b.place (act.Arrive b.kind b.arg y.deposit) y.settles.stands in
    let z = same_arrival s fine i j x.settled y.settled l.0 r.0 a.place b.place a.kind b.kind a.arg b.arg x.deposit y.deposit c.0 d.0 c.1 d.1 l.1 r.1
    (λ n q t g h. left i j n q t (l.3 n q g) (r.3 n t h)) (l.2 ∙ sym r.2) c.2 d.2 in
    arrival_same a b z.0 z.1 z.2 (x.single ∙ z.3 ∙ sym y.single)

-- those who make them stand at one state of the slice
pub both_arrive : (s : RunConfig) → FineMethods s.program s.program.methods → (es : List Entry) → IsRun s es → SameDepartures es
    → (i j k : ℕ) (a b : SingleArrival) (x : ArrivesAt s es i k a) (y : ArrivesAt s es j k b)
    → BothArrive s x.settled y.settled
both_arrive s fine es w left i j k a b x y =
    let l = way_to s es i k a w x in
    let r = way_to s es j k b w y in
    let c = at_action (step x.settled) a.place (act.Arrive a.kind a.arg x.deposit) x.settles.stands in
    let d = at_action (step y.settled) b.place (act.Arrive b.kind b.arg y.deposit) y.settles.stands in
    passing.both_arrive s fine i j x.settled y.settled l.0 r.0 a.place b.place a.kind b.kind a.arg b.arg x.deposit y.deposit c.0 d.0 c.1 d.1 l.1 r.1
    (λ n q t g h. left i j n q t (l.3 n q g) (r.3 n t h)) (l.2 ∙ sym r.2) c.2 d.2

-- ---- ends

pub record EndsAt (s : RunConfig) (es : List Entry) (i : ℕ) : Type 0 where
  pub process : Process
  pub world : ProcAfter s es i process
  pub settled : Process
  pub reaches : Reaches process settled
  pub place : Place
  pub stands : step settled ≡ Ends place

end_at : (st : Step) (a b : Place) (c : Action) (w : Asked) (go : Answer → Process) → st ≡ Ends a → st ≡ At (asking b c w) go → ⊥
end_at st a b c w go x y = cc

end_shown : (st : Step) (at : Place) → step_label st ≡ Some (next.End at) → st ≡ Ends at
end_shown (To p) at h = absurd (no_next (next.End at) h)
  where
    no_next : (n : Next) → ◌≡◌ {A = Option Next} None (Some n) → ⊥
    no_next n e = cc
end_shown (At r go) at h = absurd (not_end r.place at r.action h)
  where
    not_end : (x y : Place) (a : Action) → Some (next.Act x a) ≡ Some (next.End y) → ⊥
    not_end x y a e = cc
end_shown (Ends place) at h = ap Ends (same_place place at h)
  where
    same_place : (x y : Place) → Some (next.End x) ≡ Some (next.End y) → x ≡ y
    same_place x y e = cc
end_shown (Faults kind place) at h = absurd (not_end kind place at h)
  where
    not_end : (k : FaultKind) (x y : Place) → Some (next.Fault k x) ≡ Some (next.End y) → ⊥
    not_end k x y e = cc

-- one that stands at its end makes no more entries
pub still_ends : (s : RunConfig) (es all : List Entry) (i : ℕ) → EndsAt s es i → Grows s es all i → EndsAt s all i
still_ends s es all i o (still u) = record {
  process = o.process;
  world = subst (λ rs. After (begin s i) rs o.process) (sym u.0) o.world;
  settled = o.settled;
  reaches = o.reaches;
  place = o.place;
  stands = o.stands;
}
still_ends s es all i o (acted p q at a w go r x y e k l m n u v) =
    let same : o.process ≡ p = after_same _ _ _ _ o.world x in
    let z : RunsTo p o.settled (next.End o.place) = record { reaches = subst (λ u. Reaches u o.settled) same o.reaches; stands = ap step_label o.stands } in
    let t : RunsTo p q (next.Act at a) = record { reaches = y; stands = ap step_label e } in
    absurd (end_at (step q) o.place at a w go (subst (λ u. step u ≡ Ends o.place) (settled_same p o.settled q _ _ z t) o.stands) e)

end_of_last : (i : ℕ) (e : Entry) → has_end i (e ∷ []) ≡ true → ((e.proc == i) ≡ true) × (is_end e.act ≡ true)
end_of_last i e h = go (e.proc == i) refl
  where
    go : (b : Bool) → (e.proc == i) ≡ b → ((e.proc == i) ≡ true) × (is_end e.act ≡ true)
    go true k = (k, or_one (is_end e.act) (sym (ap (list_any (λ (e : Entry). is_end e.act)) (own i e k)) ∙ h))
    go false k = absurd (true_false (sym h ∙ ap (list_any (λ (e : Entry). is_end e.act)) (other i e k)))

end_cases : (i : ℕ) (es : List Entry) (e : Entry) → has_end i (es ++ e ∷ []) ≡ true → (has_end i es ≡ true) ⊎ (((e.proc == i) ≡ true) × (is_end e.act ≡ true))
end_cases i es e h = by (or_either (has_end i es) (has_end i (e ∷ []))
    (sym (ap (list_any (λ (e : Entry). is_end e.act)) (filter-append (λ (e : Entry). e.proc == i) es (e ∷ []))
    ∙ list_any-append (λ (e : Entry). is_end e.act) (entries_of i es) (entries_of i (e ∷ []))) ∙ h))
  where
    by : (has_end i es ≡ true) ⊎ (has_end i (e ∷ []) ≡ true) → (has_end i es ≡ true) ⊎ (((e.proc == i) ≡ true) × (is_end e.act ≡ true))
    by (inl k) = inl k
    by (inr k) = inr (end_of_last i e k)

act_of : (d e : Entry) → Some d ≡ Some e → d.act ≡ e.act
act_of d e h = let k : d ≡ e = cc in ap (λ (x : Entry). x.act) k

-- the process of an entry, with its way to what it has next
pub way_next : (s : RunConfig) (es : List Entry) (i : ℕ) (p q : Process) → IsRun s es → ProcAfter s es i p → Reaches p q → (ms : List Meeting)
    × Way (begin s i) ms q × (comings ms ≡ arrivals i es) × (answers_left ms ≡ answers_at_departures i es)
    × (last_from None ms ≡ last_kind i (history_of es))
way_next s es i p q w x y =
    let o = on_way s es w i in
    let same : o.process ≡ p = after_same _ _ _ _ o.world x in
    let goes : Way (begin s i) o.meetings p = subst (λ u. Way (begin s i) o.meetings u) same o.goes in
    let on : Way (begin s i) (o.meetings ++ []) q = way_then (begin s i) p q o.meetings [] goes (reach_way p q q [] y way.stop) in
    (o.meetings, subst (λ ms. Way (begin s i) ms q) (append-nil o.meetings) on, o.count, o.told, o.last)

ends_next : (s : RunConfig) → FineMethods s.program s.program.methods → (es : List Entry) (i : ℕ) (e : Entry) (p q : Process) (n : Next)
    → IsRun s es → ProcAfter s es i p → Reaches p q → step_label (step q) ≡ Some n → entry_of s es i n ≡ Some e → is_end e.act ≡ true → EndsAt s es i
ends_next s fine es i e p q (next.End at) w x y z h k = record { process = p; world = x; settled = q; reaches = y; place = at; stands = end_shown (step q) at z }
ends_next s fine es i e p q (next.Fault kind at) w x y z h k = absurd (true_false (sym (ap is_end (act_of _ e h) ∙ k)))
ends_next s fine es i e p q (next.Act at a) w x y z h k = by (heap_answer s.program (history_of es) i a) h
  where
    no : (a : Action) → step_label (step q) ≡ Some (next.Act at a) → is_end a ≡ true → ⊥
    no act.End z k = let t = at_action (step q) at act.End z in let u = way_next s es i p q w x y in no_end s fine i q u.0 at t.0 t.1 u.1 t.2
    no _ z k = true_false (sym k)

    by : (o : Outcome) → entry_with i at a o ≡ Some e → EndsAt s es i
    by (Answers r) h = absurd (no a z (ap is_end (act_of _ e h) ∙ k))
    by (heap.Faults kind) h = absurd (true_false (sym (ap is_end (act_of _ e h) ∙ k)))
    by Impossible h = absurd (none_entry e h)

-- a process that has its end stands at it
pub ends_at : (s : RunConfig) → FineMethods s.program s.program.methods → (es : List Entry) (i : ℕ) → IsRun s es → has_end i es ≡ true → EndsAt s es i
ends_at s fine es i run.none h = absurd (true_false (sym h))
ends_at s fine all i (run.more {es = es} {i = j} {e = e} w t z) h =
    go (end_cases i es e (subst (λ x. has_end i x ≡ true) z h)) (λ k. ends_at s fine es i w k)
  where
    go : (has_end i es ≡ true) ⊎ (((e.proc == i) ≡ true) × (is_end e.act ≡ true)) → (has_end i es ≡ true → EndsAt s es i) → EndsAt s all i
    go (inl k) ih = still_ends s es all i (ih k) (grows s es all j i e t z)
    go (inr k) ih =
        let same : j ≡ i = sym (taker s es j e t) ∙ eqb-true e.proc i k.0 in
        still_ends s es all i (subst (λ x. EndsAt s es x) same (ends_next s fine es j e t.process t.is_next.0 t.next w t.world
        t.is_next.1.reaches t.is_next.1.stands t.entry k.1)) (grows s es all j i e t z)

pub none_after_end : (s : RunConfig) → FineMethods s.program s.program.methods → (es : List Entry) → IsRun s es → SameDepartures es → NoneAfterEnd s es
none_after_end s fine es w left i j x y h =
    let e = ends_at s fine es i w h in
    let a = way_next s es i e.process e.settled w e.world e.reaches in
    let b = on_way s es w j in
    let z = passing.none_after_end s fine i j e.settled b.process a.0 b.meetings e.place a.1 b.goes
    (λ n r t g k. left i j n r t (subst (λ q. slice_get q n ≡ Some r) a.3 g) (subst (λ q. slice_get q n ≡ Some t) b.told k)) e.stands in
    subst (λ q. q ≤ arrivals i es) b.count (subst (λ q. comings b.meetings ≤ q) a.2 z)
