-- What the next action of a process leaves.
use Rattle.std.proofs.Common.{◌≡◌, ℕ, ◌+◌, ◌-◌, ◌<◌, ◌≤◌, Bool, true, false, not, ◌||◌, map, filter, length, Some, List, [], ◌∷◌, ◌++◌, refl, sym, ap, ◌∙◌, subst, arith, length-append}
use Rattle.std.specs.List.{list_any}
use Rattle.ti_base.specs.declared.place.Place.{Place}
use Rattle.ti_base.specs.declared.fault.FaultKind.{FaultKind}
use Rattle.ti_base.specs.declared.action.Action.{Action}
use Rattle.ti_base.specs.declared.action.Action.TheVariants as act
use Rattle.ti_base.specs.declared.entry.Answer.{Answer}
use Rattle.ti_base.specs.declared.entry.Entry.{Entry}
use Rattle.ti_base.specs.declared.entry.Next.{Next}
use Rattle.ti_base.specs.declared.entry.Next.TheVariants as next
use Rattle.ti_lang.specs.Meaning.Comp.{Request}
use Rattle.ti_lang.specs.Meaning.Processes.{RunConfig, Process, begin}
use Rattle.ti_lang.specs.Meaning.Steps.{Step, To, At, Ends, Faults, step}
use Rattle.ti_lang.specs.Meaning.NextStep.{step_label, IsNext, After}
use Rattle.ti_lang.specs.Meaning.Histories.{is_end, is_fault, is_answered, entries_of, answers_of, has_end, has_fault}
use Rattle.ti_lang.specs.Meaning.Runs.{ProcAfter, IsReady, CanTake, IsRun, more}
use Rattle.ti_lang.proofs.Lemmas.{within, no_end_asked, next_same, world_same}
use Rattle.ti_align.specs.Answering.{AnswersFit}
use Rattle.ti_align.proofs.Lemmas.{after_pays, or_right}
use Rattle.ti_store.specs.Conditions as store
use Rattle.ti_store.specs.Stores.{StoreState, config_of, next_of, Produces, fault_entry, IsDone, IsRefused}
use Rattle.ti_store.specs.declared.act_err.ActErr.{ActErr}
use Rattle.ti_store.specs.declared.act_err.ActErr.TheVariants as err
use Rattle.ti_store.proofs.Lemmas.{next_acts, end_more, answers_more, answers_still, world_more}
use Rattle.ti_code.specs.Programs.{Code}
use Rattle.ti_machine.specs.ProcView.{ProcView, HasNext, is_act}
use Rattle.ti_pending.specs.declared.pending.PendingProc.{PendingProc}
use Rattle.ti_pending.specs.Views.{proc_view_after}
use Rattle.ti_pending.specs.UpToDate.{with_awaits, with_answer, IsUpToDate, IsBlocked}
use Rattle.ti_pending.specs.Acting.{action_for, next_place, next_action, ReceivesAnswer, CodePremises, steps_left, Progresses, RefusalLeaves}
use Rattle.ti_pending.proofs.Following.{OneNext, seated}

true_false : true ≡ false → ⊥
true_false e = cc

-- ---- what is next

-- an action that a process has next is neither an end nor a fault
acts : (st : Step) (q : Process) (at : Place) (a : Action) → step q ≡ st → step_label st ≡ Some (next.Act at a) → (is_end a ≡ false) × (is_fault a ≡ false)
acts (To p) q at a e h = cc
acts (At request go) q at a e h =
    let same : request.action ≡ a = some_action request at a h in
    let none = no_end_asked q request go e in
    (subst (λ b. is_end b ≡ false) same none.0, subst (λ b. is_fault b ≡ false) same none.1)
  where
    some_action : (request : Request) (at : Place) (a : Action) → Some (next.Act request.place request.action) ≡ Some (next.Act at a) → request.action ≡ a
    some_action request at a h = cc
acts (Ends place) q at a e h = cc
acts (Faults kind place) q at a e h = cc

-- what the store takes comes back as what is next
next_back : (p : Process) (n : Next) → IsNext p n → next_of (action_for n).0 (action_for n).1 ≡ n
next_back p (next.Act at a) x = let none = acts (step x.0) x.0 at a refl x.1.stands in next_acts at a none.0 none.1
next_back p (next.End at) x = refl
next_back p (next.Fault kind at) x = refl

-- an action is answered
answered_act : (p : Process) (n : Next) → IsNext p n → is_act n ≡ true → (is_end (action_for n).1 ≡ false) × (is_fault (action_for n).1 ≡ false)
answered_act p (next.Act at a) x e = acts (step x.0) x.0 at a refl x.1.stands
answered_act p (next.End at) x e = absurd (true_false (sym e))
answered_act p (next.Fault kind at) x e = absurd (true_false (sym e))

-- what is neither an action nor a fault is the end
end_left : (n : Next) → is_act n ≡ false → is_fault (action_for n).1 ≡ false → is_end (action_for n).1 ≡ true
end_left (next.Act at a) e f = absurd (true_false e)
end_left (next.End at) e f = refl
end_left (next.Fault kind at) e f = absurd (true_false f)

-- ---- being up to date

within_ticks : (n s f : ℕ) → 0 + n ≤ s → s ≤ f → n ≤ f
within_ticks n s f h k = omega arith

-- each answer cost a tick
answers_few : (s : RunConfig) (i : ℕ) (rs : List Answer) (p : Process) → After (begin s i) rs p → length rs ≤ s.fuel
answers_few s i rs p x = within_ticks (length rs) p.spent s.fuel (after_pays (begin s i) p rs x) (within s i rs p x).0

-- a process that got no answer since is still up to date
pub seated_with : (code : Code) (s : RunConfig) (es all : List Entry) (i : ℕ) (pending : PendingProc) (ended : Bool) → answers_of i all ≡ answers_of i es → has_end i all ≡ ended → IsUpToDate code s es i pending
    → IsUpToDate code s all i (record pending { ended = ended })
seated_with code s es all i pending ended same e y = record {
  answers = y.answers ∙ ap (λ rs. record (proc_view_after code s es i) { answers = rs }) (sym same);
  there = y.there;
  world = subst (λ rs. After (begin s i) rs y.there) (sym same) y.world;
  next = y.next;
  has_next = y.has_next;
  is_next = y.is_next;
  ended = e;
}

-- so is one that took no entry, after entries of others
pub seated_still : (code : Code) (s : RunConfig) (es all : List Entry) (i : ℕ) (pending : PendingProc) → entries_of i all ≡ entries_of i es → IsUpToDate code s es i pending → IsUpToDate code s all i pending
seated_still code s es all i pending same y =
    seated_with code s es all i pending pending.ended (ap (λ own. map (λ (e : Entry). e.answer) (filter is_answered own)) same) (ap (list_any (λ (e : Entry). is_end e.act)) same ∙ y.ended) y

module _ (code : Code) (s : RunConfig) (es : List Entry) (i : ℕ) (pending : PendingProc) (y : IsUpToDate code s es i pending) where
  -- also where it has computed what is next
  pub seated_asking : (asks : Bool) → IsUpToDate code s es i (with_awaits asks pending)
  seated_asking asks = record {
    answers = y.answers;
    there = y.there;
    world = y.world;
    next = y.next;
    has_next = y.has_next;
    is_next = y.is_next;
    ended = y.ended;
  }

  -- it executes that code
  pub code_of : code ≡ pending.process.code
  code_of = sym (ap (λ (x : ProcView). x.code) y.answers)

  few : length pending.process.answers ≤ s.fuel
  few = subst (λ xs. length xs ≤ s.fuel) (sym (ap (λ (x : ProcView). x.answers) y.answers)) (answers_few s i (answers_of i es) y.there y.world)

  module _ (one : OneNext) (n : Next) (has : HasNext pending.process n) where
    -- what the code has next the program has next
    next_here : IsNext y.there n
    next_here = subst (IsNext y.there) (one pending.process y.next n y.has_next has) y.is_next

    next_taken : IsNext y.there (next_of (next_place n) (next_action n))
    next_taken = subst (IsNext y.there) (sym (next_back y.there n next_here)) next_here

    -- the store takes it
    pub acting : pending.ended ≡ false → store.HasNextAfter s i (entries_of i es) (next_of (next_place n) (next_action n))
    acting u = record { unended = y.ended ∙ u; process = y.there; world = y.world; is_next = next_taken }

-- ---- an entry

-- the entry of what a process does, with its answer
abbrev entry_with : ℕ → Next → Answer → Entry
entry_with i n answer = record { proc = i; place = next_place n; act = next_action n; answer = answer }

or_none : (a b : Bool) → b ≡ false → (a || b) ≡ a
or_none true b h = refl
or_none false b h = h

-- one that waits takes none
pub wait_takes_none : (s : RunConfig) (es : List Entry) (i : ℕ) (e : Entry) → IsBlocked s es i → CanTake s es i e → ⊥
wait_takes_none s es i e w t =
    let same : t.process ≡ w.process = world_same s es i t.process w.process t.world w.world in
    let n : t.next ≡ next.Act w.place act.Depart = next_same w.process t.next (next.Act w.place act.Depart) (subst (λ p. IsNext p t.next) same t.is_next) w.is_next in
    w.early (subst (IsReady s es i) n t.ready)

or_second : (a b : Bool) → (a || b) ≡ false → b ≡ false
or_second true b h = cc
or_second false b h = h

-- ---- after an action

module _ (code : Code) (st : StoreState) (o : CodePremises code (config_of st)) (run : IsRun (config_of st) st.entries) (i : ℕ) (l : i < st.procs) (old : PendingProc) (y : IsUpToDate code (config_of st) st.entries i old) (u : old.ended ≡ false) (one : OneNext) (n : Next) (has : HasNext old.process n) where
  abbrev s : RunConfig
  s = config_of st

  abbrev es : List Entry
  es = st.entries

  is_next : IsNext y.there n
  is_next = next_here code s es i old y one n has

  taken : (e : Entry) → Produces st i (next_place n) (next_action n) e → CanTake s es i e
  taken e b = record {
    within = l;
    goes_on = or_second st.halted (has_fault es) b.goes_on;
    unended = y.ended ∙ u;
    process = y.there;
    world = y.world;
    next = next_of (next_place n) (next_action n);
    is_next = next_taken code s es i old y one n has;
    ready = b.ready;
    entry = b.entry;
  }

  module _ (answer : Answer) (new : StoreState) (d : IsDone st i (next_place n) (next_action n) answer new) where
    abbrev here : Entry
    here = entry_with i n answer

    abbrev all : List Entry
    all = es ++ here ∷ []

    after : new.entries ≡ all
    after = ap (λ (x : StoreState). x.entries) d.after

    can : CanTake s es i here
    can = taken here d.becomes

    fit : AnswersFit s all
    fit = o.fit st.procs st.fuel all o.within.some o.within.few o.within.fueled o.within.limited (more run can refl)

    -- after its end a process is where it was
    seated_end : is_act n ≡ false → IsUpToDate code s all i (record old { ended = true })
    seated_end e =
        let end = end_left n e d.no_fault in
        let still : answers_of i all ≡ answers_of i es = answers_still i es here refl (ap (λ b. not (b || is_fault (next_action n))) end) in
        seated_with code s es all i old true still (end_more i es here refl ∙ or_right (has_end i es) (is_end (next_action n)) end) y

    answered : is_act n ≡ true → is_answered here ≡ true
    answered e = rw ((answered_act y.there n is_next e).0, d.no_fault) refl

    world_on : is_act n ≡ true → (q : Process) × ProcAfter s all i q
    world_on e = by n refl
      where
        by : (m : Next) → n ≡ m → (q : Process) × ProcAfter s all i q
        by (next.Act at a) z = world_more s es here y.there at a y.world (subst (IsNext y.there) z is_next) (answered e)
        by (next.End at) z = absurd (true_false (sym e ∙ ap is_act z))
        by (next.Fault kind at) z = absurd (true_false (sym e ∙ ap is_act z))

    answers : is_act n ≡ true → with_answer old.process answer ≡ proc_view_after code s all i
    answers e =
        ap (λ t. with_answer t answer) y.answers ∙ ap (λ rs. record (proc_view_after code s es i) { answers = rs }) (sym (answers_more i es here refl (answered e)))

    seated_heard : (pending : PendingProc) → is_act n ≡ true → pending ≡ record old { process = with_answer old.process answer } → IsUpToDate code s all i pending
    seated_heard pending e h =
        let q = world_on e in
        let unended : has_end i all ≡ has_end i es = end_more i es here refl ∙ or_none (has_end i es) (is_end (next_action n)) (answered_act y.there n is_next e).0 in
        seated code s o.follows o.within all fit i l q.0 q.1 pending (ap (λ (x : PendingProc). record x.process { asks = false }) h ∙ answers e) (unended ∙ y.ended ∙ sym (ap (λ (x : PendingProc). x.ended) h))

    -- fewer steps are left
    lighter_end : steps_left s (record old { ended = true }) < steps_left s old
    lighter_end = rw u (omega arith)

    lighter_heard : (pending : PendingProc) → is_act n ≡ true → pending ≡ record old { process = with_answer old.process answer } → steps_left s pending < steps_left s old
    lighter_heard pending e h =
        let limit : length pending.process.answers ≤ s.fuel = few code s all i pending (seated_heard pending e h) in
        let more : length pending.process.answers ≡ length old.process.answers + 1 = ap (λ (x : PendingProc). length x.process.answers) h ∙ length-append old.process.answers (answer ∷ []) in
        let same : pending.ended ≡ old.ended = ap (λ (x : PendingProc). x.ended) h in
        rw (same, u) (one_fewer s.fuel (length old.process.answers) (length pending.process.answers) more limit)
      where
        one_fewer : (fuel m n : ℕ) → n ≡ m + 1 → n ≤ fuel → (fuel - n) + 1 < (fuel - m) + 1
        one_fewer fuel m n k l = omega arith

    -- the process went on, and was answered
    module _ (pending : PendingProc) (m : ReceivesAnswer old n answer pending) where
      pub gone : IsUpToDate code s new.entries i pending
      gone = subst (λ xs. IsUpToDate code s xs i pending) (sym after) (by (is_act n) refl)
        where
          by : (b : Bool) → is_act n ≡ b → IsUpToDate code s all i pending
          by false e = subst (IsUpToDate code s all i) (sym (m.ends e)) (seated_end e)
          by true e = seated_heard pending e (m.hears e)

      lighter : steps_left s pending < steps_left s old
      lighter = by (is_act n) refl
        where
          by : (b : Bool) → is_act n ≡ b → steps_left s pending < steps_left s old
          by false e = subst (λ x. steps_left s x < steps_left s old) (sym (m.ends e)) lighter_end
          by true e = lighter_heard pending e (m.hears e)

      pub went : (g : Progresses code s es i old new.entries pending) × (g.takes.entry.act ≡ next_action n)
      went = (record { takes = record { entry = here; can = can; after = after }; no_fault = d.no_fault; seated = gone; lighter = lighter }, refl)

  -- ---- no answer

  waits_here : (IsReady s es i (next_of (next_place n) (next_action n)) → ⊥) → IsBlocked s es i
  waits_here h =
      let departs : next_action n ≡ act.Depart = is_departing (next_place n) (next_action n) h in
      record {
        unended = y.ended ∙ u;
        process = y.there;
        world = y.world;
        place = next_place n;
        is_next = subst (λ a. IsNext y.there (next_of (next_place n) a)) departs (next_taken code s es i old y one n has);
        early = subst (λ a. IsReady s es i (next_of (next_place n) a) → ⊥) departs h;
      }
    where
      -- what has to wait is a departure
      is_departing : (at : Place) (a : Action) → (IsReady s es i (next_of at a) → ⊥) → a ≡ act.Depart
      is_departing at act.Depart h = refl
      is_departing at act.End h = absurd (h tt)
      is_departing at (act.Fault kind) h = absurd (h tt)
      is_departing at _ h = absurd (h tt)

  -- after a fault it is where it was
  faulted : (kind : FaultKind) (later : List Entry) → later ≡ es ++ fault_entry i (next_place n) kind ∷ [] → IsUpToDate code s later i old
  faulted kind later is =
      let e = fault_entry i (next_place n) kind in
      let unended : has_end i (es ++ e ∷ []) ≡ old.ended = end_more i es e refl ∙ or_none (has_end i es) false refl ∙ y.ended in
      subst (λ xs. IsUpToDate code s xs i old) (sym is) (seated_with code s es (es ++ e ∷ []) i old old.ended (answers_still i es e refl refl) unended y)

  pub refused : (why : ActErr) (new : StoreState) → IsRefused st i (next_place n) (next_action n) why new → RefusalLeaves code st i old new.entries why
  refused (err.Faulted kind) new r =
      let after = ap (λ (x : StoreState). x.entries) r.1 in
      (record { entry = fault_entry i (next_place n) kind; can = taken (fault_entry i (next_place n) kind) r.0; after = after }, refl, faulted kind new.entries after)
  refused err.NotYet new r = (ap (λ (x : StoreState). x.entries) r.2, waits_here r.1)
  refused err.Halted new r = (ap (λ (x : StoreState). x.entries) r.1, r.0)
  refused err.Memory new r = ap (λ (x : StoreState). x.entries) r.2
