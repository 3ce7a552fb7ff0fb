-- Proves that the code runs the slice to its next collective and leaves it as the specification says.
use Rattle.std.proofs.Common.{◌≡◌, ◌∙◌, ap, sym, refl, subst, ℕ, ◌+◌, ◌<◌, ◌≤◌, nat_lt, Bool, true, false, List, [], ◌∷◌, ◌++◌, Option, Some, None, Result, Ok, Err, IfOk, IsTrue, length, drop, get_or, drop-cons, add-one, drop_of_length-le, ltb-true}
use Rattle.std.proofs.lemmas.Bool.{lt-ltb, le-ltb}
use Rattle.std.specs.declared.vec.Vec.{Vec}
use Rattle.std.specs.declared.alloc.Global.{Global}
use Rattle.ti_base.specs.declared.memory.Memory.{Memory}
use Rattle.ti_base.specs.declared.place.Place.{Place}
use Rattle.ti_base.specs.declared.fault.FaultKind.{FaultKind}
use Rattle.ti_base.specs.declared.fault.FaultKind.TheVariants.{RegionGone}
use Rattle.ti_base.specs.declared.action.CollKind.{CollKind}
use Rattle.ti_base.specs.declared.action.Deposit.{Deposit}
use Rattle.ti_base.specs.declared.action.Action.{Action}
use Rattle.ti_base.specs.declared.action.Action.TheVariants as act
use Rattle.ti_base.specs.declared.entry.Answer.{Answer}
use Rattle.ti_base.specs.declared.entry.Answer.TheVariants.{Done}
use Rattle.ti_base.specs.declared.entry.Next.TheVariants as next
use Rattle.ti_lang.specs.Program.Statements.{NumberedStm}
use Rattle.ti_lang.specs.Program.Classes.{ProgramView}
use Rattle.ti_lang.specs.Meaning.Scoping.{Env}
use Rattle.ti_lang.specs.Meaning.Comp.{Wanted, ToBeDone, ValueOf, Request, request}
use Rattle.ti_lang.specs.Meaning.Answers.{FitsWanted}
use Rattle.ti_lang.specs.Meaning.Processes.{RunConfig, Wait, Process, Nowhere, begin}
use Rattle.ti_lang.specs.Meaning.Steps.{Step, To, At, Faults, spends, add_answer, deliver, value_asked}
use Rattle.ti_lang.specs.Meaning.NextStep.{step_label}
use Rattle.ti_align.specs.declared.slices.SliceStep.{SliceStep}
use Rattle.ti_align.specs.declared.slices.SliceStep.TheVariants as answer
use Rattle.ti_align.specs.Slice.{slice_steps, slice_step, deletes_one, fault_if_deleted, deleted_by, at_fault, SliceComes, silent, stands, arrives, leaves, unfit, ends, faults, ended, faulted, SliceAnswers}
use Rattle.ti_align.proofs.Lemmas.{if_true, if_false, FineMethods}
use Rattle.ti_moves.specs.declared.outcomes.CollectiveCall.{CollectiveCall}
use Rattle.ti_moves.specs.Outcomes.{wait_of, expected_wait, type_received}
use Rattle.ti_exec.specs.declared.process.ControlMode.{ControlMode}
use Rattle.ti_exec.specs.declared.process.ControlMode.TheVariants as mode
use Rattle.ti_exec.specs.declared.process.OnAnswer.{OnAnswer}
use Rattle.ti_exec.specs.declared.process.OnAnswer.TheVariants as pend
use Rattle.ti_exec.specs.declared.process.TreeMachine.{TreeMachine}
use Rattle.ti_exec.specs.States.{process_of, env_in, innermost_stmt, wait_in, mode_after_answer, after_answer, RequestsNext}
use Rattle.ti_exec.proofs.Lemmas.{moved, with_room, left_behind, handed_on}
use Rattle.ti_slice.specs.declared.answer.Slice.{Slice}
use Rattle.ti_slice.specs.declared.slice_stop.SliceStop.{SliceStop}
use Rattle.ti_slice.specs.declared.slice_stop.SliceStop.TheVariants as stand
use Rattle.ti_slice.specs.Mirrors.Answer.{Free, begins, IsFree, Leads, IsArrival, Arrives, IsSliceStop, RunsToStop, IsWaiting, wanted_of, OutcomeFits, LeavesCollective, Departs, SliceMeets}
use Rattle.ti_slice.proofs.Coming.{free_arrives, leaves_free}
use Rattle.ti_slice.proofs.Paying.{paid}

-- ---- silent steps

pub leads_here : (p : Process) → Leads p p
leads_here p gone k rest x c = c

pub leads_on : (p q r : Process) → Leads p q → slice_step q ≡ To r → Leads p r
leads_on p q r l e gone k rest x c = l gone k rest x (silent (ap (fault_if_deleted gone) e) c)

-- ---- where it stands

shown_at : (p q : Place) (a b : Action) → Some (next.Act p a) ≡ Some (next.Act q b) → (p ≡ q) × (a ≡ b)
shown_at p q a b e = (cc, cc)

-- it asks for nothing but arrivals
pub asks_arrival : (c : ProgramView) (p : Process) (at : Place) (a : Action) (makes : Answer → Process) → FineMethods c c.methods
    → IsFree c p → RequestsNext (slice_step p) (next.Act at a) makes → IsArrival a
asks_arrival c p at a makes f i s =
    let shows : Some (next.Act s.request.place s.request.action) ≡ Some (next.Act at a) = sym (ap step_label s.is) ∙ s.shows in
    subst IsArrival (shown_at s.request.place at s.request.action a shows).1 (free_arrives c p s.request s.go f i s.is).arrival

-- the same where the process is spelled in another way
pub stands_as : (c : ProgramView) (mid new : TreeMachine) (at : Place) (a : Action) (makes : Answer → Process) → process_of c new
    ≡ process_of c mid → RequestsNext (slice_step (process_of c mid)) (next.Act at a) makes
    → RequestsNext (slice_step (process_of c new)) (next.Act at a) makes
stands_as c mid new at a makes e s = subst (λ (p : Process). RequestsNext (slice_step p) (next.Act at a) makes) (sym e) s

-- at the delete of a region that is gone
pub stands_gone : (c : ProgramView) (w : TreeMachine) (gone : List ℕ) (at : Place) (a : Action) (on_answer : OnAnswer)
    → RequestsNext (slice_step (process_of c w)) (next.Act at a) (after_answer c w on_answer) → deletes_one gone a ≡ true
    → fault_if_deleted gone (slice_step (process_of c w)) ≡ Faults RegionGone at
stands_gone c w gone at a on_answer s d =
    let shows : Some (next.Act s.request.place s.request.action) ≡ Some (next.Act at a) = sym (ap step_label s.is) ∙ s.shows in
    let same = shown_at s.request.place at s.request.action a shows in
    ap (fault_if_deleted gone) s.is ∙ if_true (deletes_one gone s.request.action) _ _ (ap (deletes_one gone) same.1 ∙ d) ∙ ap (Faults RegionGone) same.0

-- at another arrival
pub stands_there : (c : ProgramView) (w : TreeMachine) (gone : List ℕ) (at : Place) (kind : CollKind) (arg : Option ℕ) (given : Deposit) (on_answer : OnAnswer)
    → RequestsNext (slice_step (process_of c w)) (next.Act at (act.Arrive kind arg given)) (after_answer c w on_answer) → deletes_one gone (act.Arrive kind arg given) ≡ false → Arrives c w gone kind arg at on_answer
stands_there c w gone at kind arg given on_answer s d =
    let shows : Some (next.Act s.request.place s.request.action) ≡ Some (next.Act at (act.Arrive kind arg given)) = sym (ap step_label s.is) ∙ s.shows in
    let same = shown_at s.request.place at s.request.action (act.Arrive kind arg given) shows in
    record {
      request = s.request;
      go = s.go;
      given = given;
      is = s.is;
      arrival = same.1;
      place = same.0;
      stays = ap (deletes_one gone) same.1 ∙ d;
      goes = s.goes;
    }

-- it has gone on up to there
pub goes_there : (c : ProgramView) (old mid new : TreeMachine) (gone : List ℕ) (s : SliceStop) → IsFree c (process_of c mid)
    → Leads (process_of c old) (process_of c mid) → process_of c new ≡ process_of c mid → IsSliceStop c new gone s
    → RunsToStop c old gone s new
goes_there c old mid new gone s f l e i =
    record { free = subst (IsFree c) (sym e) f; leads = subst (Leads (process_of c old)) (sym e) l; stands = i }

-- the same of a step, of a process spelled in another way
pub step_of : (c : ProgramView) (mid new : TreeMachine) (s : Step) → process_of c new ≡ process_of c mid → slice_step (process_of c mid) ≡ s → slice_step (process_of c new) ≡ s
step_of c mid new s e h = ap slice_step e ∙ h

-- ---- room for an answer

pub told_with_room : (c : ProgramView) (w : TreeMachine) (v : Vec Answer Global) (on_answer : OnAnswer) (r : Answer) → v.items ≡ w.answers.items
    → after_answer c (record w { answers = v }) on_answer r ≡ after_answer c w on_answer r
told_with_room c w v pend.Append r e = ap (λ (p : Process). spends (add_answer p r)) (with_room c w v e)
told_with_room c w v (pend.Arrive m) r e = ap spends (moved c w w.spent w.mode v m [])
told_with_room c w v pend.Depart r e = ap spends (moved c w w.spent w.mode v (mode_after_answer w.mode r) [])

-- ---- arrivals

arriving : (c : ProgramView) (w : TreeMachine) (gone : List ℕ) (kind : CollKind) (arg : Option ℕ) (at : Place) (on_answer : OnAnswer)
    (a : Arrives c w gone kind arg at on_answer) → fault_if_deleted gone (slice_step (process_of c w)) ≡ At a.request a.go
arriving c w gone kind arg at on_answer a = ap (fault_if_deleted gone) a.is ∙ if_false (deletes_one gone a.request.action) _ _ a.stays

-- a tick is left for it
pub arrival_tick : (c : ProgramView) (w : TreeMachine) (gone : List ℕ) (kind : CollKind) (arg : Option ℕ) (at : Place) (on_answer : OnAnswer) → Arrives c w gone kind arg at on_answer → w.spent < w.fuel
arrival_tick c w gone kind arg at on_answer a = ltb-true w.spent w.fuel (paid (process_of c w) a.request a.go a.is)

waiting_by : (c : ProgramView) (w : TreeMachine) (x : Wait) (m : ControlMode) → wait_in c w m ≡ Some x → IsWaiting m
waiting_by c w x (mode.Waits collective t) e = tt
waiting_by c w x (mode.Expects collective) e = tt
waiting_by c w x (mode.Walks t) e = cc
waiting_by c w x (mode.Receives h) e = cc
waiting_by c w x mode.Ended e = cc

-- behind it the slice waits
pub arrival_waits : (c : ProgramView) (w v : TreeMachine) (gone : List ℕ) (kind : CollKind) (arg : Option ℕ) (at : Place) (on_answer : OnAnswer)
    → FineMethods c c.methods → IsFree c (process_of c w) → Arrives c w gone kind arg at on_answer
    → process_of c v ≡ after_answer c w on_answer Done → IsWaiting v.mode
arrival_waits c w v gone kind arg at on_answer f i a e =
    let x = free_arrives c (process_of c w) a.request a.go f i a.is in
    waiting_by c v x.wait v.mode (ap (λ (p : Process). p.wait) (e ∙ sym (a.goes Done)) ∙ x.waits)

-- ---- departures

not_true : false ≡ true → ⊥
not_true e = cc

-- whether an outcome fits the value that it waits for
fits_as : (wanted : Wanted) (r : Answer) (g : Result Bool Memory) → IfOk g (λ b. IsTrue b → FitsWanted wanted r) → IfOk g (λ b. FitsWanted wanted r → IsTrue b) → IfOk g (λ b. OutcomeFits wanted r b)
fits_as wanted r (Ok true) holds fails = holds refl
fits_as wanted r (Ok false) holds fails = λ f. not_true (fails f)
fits_as wanted r (Err e) holds fails = tt

pub fits_expected : (c : ProgramView) (w : TreeMachine) (m : CollectiveCall) (r : Answer) (env : Env) (x : NumberedStm) (g : Result Bool Memory)
    → w.mode ≡ mode.Expects m → env ≡ env_in c w → type_received env x ≡ type_received env (innermost_stmt c w.top)
    → IfOk g (λ b. IsTrue b → FitsWanted (expected_wait env x m).wanted r) → IfOk g (λ b. FitsWanted (expected_wait env x m).wanted r → IsTrue b) → IfOk g (λ b. OutcomeFits (wanted_of (wait_in c w w.mode)) r b)
fits_expected c w m r env x g e i t holds fails =
    let same : ValueOf (type_received env x) ≡ wanted_of (wait_in c w w.mode) =
    ap ValueOf t ∙ ap (λ (v : Env). ValueOf (type_received v (innermost_stmt c w.top))) i ∙ sym (ap (λ (n : ControlMode). wanted_of (wait_in c w n)) e) in
    subst (λ (wanted : Wanted). IfOk g (λ b. OutcomeFits wanted r b)) same (fits_as (ValueOf (type_received env x)) r g holds fails)

-- what it waits for, and how it goes on with what that gives
record Departing (c : ProgramView) (w : TreeMachine) : Type 0 where
  pub wait : Wait
  pub waits : (process_of c w).wait ≡ Some wait
  pub behind : (r : Answer) → spends (record (process_of c w) { frames = deliver wait.receiver (value_asked wait.wanted r) (process_of c w).frames; wait = None; answers = [] }) ≡ after_answer c w pend.Depart r

departing_by : (c : ProgramView) (w : TreeMachine) (m : ControlMode) → w.mode ≡ m → IsWaiting m → Departing c w
departing_by c w (mode.Waits collective t) e i = record { wait = wait_of collective ToBeDone Nowhere; waits = ap (wait_in c w) e; behind = left_behind c w collective t e }
departing_by c w (mode.Expects collective) e i = record { wait = expected_wait (env_in c w) (innermost_stmt c w.top) collective; waits = ap (wait_in c w) e; behind = handed_on c w collective e }
departing_by c w (mode.Walks t) e i = absurd i
departing_by c w (mode.Receives h) e i = absurd i
departing_by c w mode.Ended e i = absurd i

departing : (c : ProgramView) (w : TreeMachine) → IsWaiting w.mode → Departing c w
departing c w i = departing_by c w w.mode refl i

module _ (c : ProgramView) (old : Slice) (i : IsWaiting old.machine.mode) where
  abbrev p : Process
  p = process_of c old.machine

  abbrev d : Departing c old.machine
  d = departing c old.machine i

  abbrev asks : Request
  asks = request d.wait.place act.Depart d.wait.wanted

  abbrev back : Answer → Process
  back r = spends (record p { frames = deliver d.wait.receiver (value_asked d.wait.wanted r) p.frames; wait = None; answers = [] })

  lies : old.machine.spent < old.machine.fuel → slice_step p ≡ At asks back
  lies t = ap (slice_steps p) d.waits ∙ if_true (nat_lt old.machine.spent old.machine.fuel) _ _ (lt-ltb old.machine.spent old.machine.fuel t)

  -- no tick is left
  pub no_tick : (r : Answer) (new : Slice) → old.machine.fuel ≤ old.machine.spent → Departs c old r new false
  no_tick r new t k rest =
      faulted (ap (fault_if_deleted old.gone.items) (ap (slice_steps p) d.waits ∙ if_false (nat_lt old.machine.spent old.machine.fuel) _ _ (le-ltb old.machine.spent old.machine.fuel t)))

  -- the outcome doesn't fit
  pub no_fit : (r : Answer) (new : Slice) → old.machine.spent < old.machine.fuel → OutcomeFits (wanted_of (wait_in c old.machine old.machine.mode)) r false → Departs c old r new false
  no_fit r new t f k rest =
      unfit (ap (fault_if_deleted old.gone.items) (lies t)) refl (subst (λ (w : Option Wait). FitsWanted (wanted_of w) r → ⊥) d.waits f)

  -- it leaves
  pub leaving : (r : Answer) (new : Slice) → old.machine.spent < old.machine.fuel
      → OutcomeFits (wanted_of (wait_in c old.machine old.machine.mode)) r true → process_of c new.machine ≡ after_answer c old.machine pend.Depart r
      → new.gone.items ≡ deleted_by (wait_in c old.machine old.machine.mode) ++ old.gone.items → LeavesCollective c old r new
  leaving r new t f e g = record {
    request = asks;
    go = back;
    is = lies t;
    departure = refl;
    fits = subst (λ (w : Option Wait). FitsWanted (wanted_of w) r) d.waits f;
    behind = d.behind r ∙ sym e;
    gone = g;
  }

-- ---- collectives

-- where the code has come, as its steps say it
pub gone_as : (c : ProgramView) (old new : TreeMachine) (given gone : List ℕ) (found s : SliceStop) → given ≡ gone → found ≡ s → RunsToStop c old given found new → RunsToStop c old gone s new
gone_as c old new given gone found s e f g = subst (λ (t : SliceStop). RunsToStop c old gone t new) f (subst (λ (rs : List ℕ). RunsToStop c old rs found new) e g)

module _ (c : ProgramView) (old mid : Slice) (w : TreeMachine) (kind : CollKind) (arg : Option ℕ) (at : Place) (on_answer : OnAnswer)
    (g : RunsToStop c old.machine old.gone.items (stand.Arrives kind arg at on_answer) w)
    (heard : process_of c mid.machine ≡ after_answer c w on_answer Done) (same : mid.gone.items ≡ old.gone.items) where
  a : Arrives c w old.gone.items kind arg at on_answer
  a = g.stands

  there : process_of c mid.machine ≡ a.go Done
  there = heard ∙ sym (a.goes Done)

  before : (k : ℕ) (r : Answer) (rest : List Answer) (x : SliceStep) → SliceComes (process_of c mid.machine) mid.gone.items k (r ∷ rest) x → SliceComes (process_of c old.machine) old.gone.items k (r ∷ rest) x
  before k r rest x z =
      g.leads old.gone.items k (r ∷ rest) x
      (arrives (arriving c w old.gone.items kind arg at on_answer a) a.arrival
      (subst (λ (gone : List ℕ). SliceComes (a.go Done) gone k (r ∷ rest) x) same
      (subst (λ (p : Process). SliceComes p mid.gone.items k (r ∷ rest) x) there z)))

  -- it leaves the next collective
  met : (r : Answer) (new : Slice) → LeavesCollective c mid r new → SliceMeets c old r new true
  met r new l = (
    subst (IsFree c) l.behind (leaves_free c (process_of c w) a.request l.request a.go l.go r a.is (sym (ap slice_step there) ∙ l.is) g.free),
    λ k rest x z.
        before k r rest x
        (leaves (ap (fault_if_deleted mid.gone.items) l.is ∙ if_false (deletes_one mid.gone.items l.request.action) _ _ (ap (deletes_one mid.gone.items) l.departure)) l.departure l.fits
        (subst (λ (gone : List ℕ). SliceComes (l.go r) gone (k + 1) rest x) l.gone (subst (λ (p : Process). SliceComes p new.gone.items (k + 1) rest x) (sym l.behind) z))),
  )

  pub meets : (r : Answer) (new : Slice) (b : Bool) → Departs c mid r new b → SliceMeets c old r new b
  meets r new true l = met r new l
  meets r new false l = λ k rest. before k r rest (answer.Unfit k) (l k rest)

-- it comes to none
pub meets_end : (c : ProgramView) (old new : Slice) (w : TreeMachine) (r : Answer) → RunsToStop c old.machine old.gone.items stand.Ends w → SliceMeets c old r new false
meets_end c old new w r g k rest = g.leads old.gone.items k (r ∷ rest) (answer.Unfit k) (ended g.stands.1)

pub meets_fault : (c : ProgramView) (old new : Slice) (w : TreeMachine) (kind : FaultKind) (at : Place) (r : Answer)
    → RunsToStop c old.machine old.gone.items (stand.Fails kind at) w → SliceMeets c old r new false
meets_fault c old new w kind at r g k rest = g.leads old.gone.items k (r ∷ rest) (answer.Unfit k) (faulted g.stands)

-- ---- where no outcome is left

pub comes_there : (c : ProgramView) (old : Slice) (w : TreeMachine) (kind : CollKind) (arg : Option ℕ) (at : Place) (on_answer : OnAnswer)
    → RunsToStop c old.machine old.gone.items (stand.Arrives kind arg at on_answer) w → (k : ℕ)
    → SliceComes (process_of c old.machine) old.gone.items k [] (answer.At kind at arg)
comes_there c old w kind arg at on_answer g k =
    let a : Arrives c w old.gone.items kind arg at on_answer = g.stands in
    g.leads old.gone.items k [] (answer.At kind at arg)
    (subst (λ (z : Place). SliceComes (process_of c w) old.gone.items k [] (answer.At kind z arg)) a.place (stands (arriving c w old.gone.items kind arg at on_answer a) a.arrival))

pub comes_end : (c : ProgramView) (old : Slice) (w : TreeMachine) → RunsToStop c old.machine old.gone.items stand.Ends w → (k : ℕ) → SliceComes (process_of c old.machine) old.gone.items k [] answer.Ended
comes_end c old w g k = g.leads old.gone.items k [] answer.Ended (ends g.stands.1)

pub comes_fault : (c : ProgramView) (old : Slice) (w : TreeMachine) (kind : FaultKind) (at : Place)
    → RunsToStop c old.machine old.gone.items (stand.Fails kind at) w → (k : ℕ)
    → SliceComes (process_of c old.machine) old.gone.items k [] (at_fault kind at)
comes_fault c old w kind at g k = g.leads old.gone.items k [] (at_fault kind at) (faults g.stands)

-- the same as the code says it
pub comes_ok : (c : ProgramView) (old : Slice) (g : Result SliceStep Memory) (x : SliceStep) → g ≡ Ok x → ((k : ℕ) → SliceComes (process_of c old.machine) old.gone.items k [] x)
    → IfOk g (λ y. (k : ℕ) → SliceComes (process_of c old.machine) old.gone.items k [] y)
comes_ok c old g x e h = subst (λ (z : Result SliceStep Memory). IfOk z (λ y. (k : ℕ) → SliceComes (process_of c old.machine) old.gone.items k [] y)) (sym e) h

-- ---- outcomes

-- all of them are left before the first step
pub begins_all : (n : RunConfig) (s : Slice) (outcomes : List Answer) (x : SliceStep) → process_of n.program s.machine ≡ begin n 0
    → s.gone.items ≡ [] → SliceComes (process_of n.program s.machine) s.gone.items 0 outcomes x → SliceAnswers n outcomes x
begins_all n s outcomes x e g z =
    subst (λ (p : Process). SliceComes p [] 0 outcomes x) e (subst (λ (gone : List ℕ). SliceComes (process_of n.program s.machine) gone 0 outcomes x) g z)

pub begins_free : (n : RunConfig) (s : Slice) → process_of n.program s.machine ≡ begin n 0 → IsFree n.program (process_of n.program s.machine)
begins_free n s e = (n, refl, subst (Free n) (sym e) begins)

drop_at : (xs : List Answer) (k : ℕ) (d : Answer) → k < length xs → drop k xs ≡ get_or xs k d ∷ drop (k + 1) xs
drop_at xs k d h = drop-cons xs k d h ∙ rw add-one refl

-- one outcome more is taken
pub takes_on : (n : RunConfig) (s new : Slice) (outcomes : List Answer) (k : ℕ) (d : Answer) → k < length outcomes
    → ((x : SliceStep) → SliceComes (process_of n.program s.machine) s.gone.items k (drop k outcomes) x → SliceAnswers n outcomes x) → SliceMeets n.program s (get_or outcomes k d) new true → (x : SliceStep)
    → SliceComes (process_of n.program new.machine) new.gone.items (k + 1) (drop (k + 1) outcomes) x → SliceAnswers n outcomes x
takes_on n s new outcomes k d h leads m x z =
    leads x (subst (λ (rs : List Answer). SliceComes (process_of n.program s.machine) s.gone.items k rs x) (sym (drop_at outcomes k d h)) (m.1 k (drop (k + 1) outcomes) x z))

-- or none
pub takes_none : (n : RunConfig) (s new : Slice) (outcomes : List Answer) (k : ℕ) (d : Answer) → k < length outcomes
    → ((x : SliceStep) → SliceComes (process_of n.program s.machine) s.gone.items k (drop k outcomes) x → SliceAnswers n outcomes x)
    → SliceMeets n.program s (get_or outcomes k d) new false → SliceAnswers n outcomes (answer.Unfit k)
takes_none n s new outcomes k d h leads m =
    leads (answer.Unfit k) (subst (λ (rs : List Answer). SliceComes (process_of n.program s.machine) s.gone.items k rs (answer.Unfit k)) (sym (drop_at outcomes k d h)) (m k (drop (k + 1) outcomes)))

-- all are taken
pub taken_all : (n : RunConfig) (s : Slice) (outcomes : List Answer) (k : ℕ) → length outcomes ≤ k
    → ((x : SliceStep) → SliceComes (process_of n.program s.machine) s.gone.items k (drop k outcomes) x → SliceAnswers n outcomes x)
    → (x : SliceStep) → ((k : ℕ) → SliceComes (process_of n.program s.machine) s.gone.items k [] x) → SliceAnswers n outcomes x
taken_all n s outcomes k h leads x z =
    leads x (subst (λ (rs : List Answer). SliceComes (process_of n.program s.machine) s.gone.items k rs x) (sym (drop_of_length-le outcomes h)) (z k))
