-- What the slice says of runs: where a process arrives or ends, the slice does, behind the outcomes of its departures.
use Rattle.std.proofs.Common.{◌≡◌, ℕ, ◌+◌, ◌≤◌, Bool, true, false, ◌⊎◌, inl, inr, if◌then◌else◌, Option, Some, None, List, [], ◌∷◌, ◌++◌, refl, ap, ap₂, sym, ◌∙◌, subst, arith}
use Rattle.ti_base.specs.declared.place.Place.{Place}
use Rattle.ti_base.specs.declared.fault.FaultKind.{FaultKind}
use Rattle.ti_base.specs.declared.fault.FaultKind.TheVariants.{RegionGone, Fuel}
use Rattle.ti_base.specs.declared.action.Action.{Action}
use Rattle.ti_base.specs.declared.action.Action.TheVariants as act
use Rattle.ti_base.specs.declared.action.CollKind.{CollKind}
use Rattle.ti_base.specs.declared.action.Deposit.{Deposit}
use Rattle.ti_base.specs.declared.entry.Answer.{Answer}
use Rattle.ti_base.specs.declared.entry.Answer.TheVariants.{Done}
use Rattle.ti_lang.specs.Meaning.Comp.{Wanted, Request}
use Rattle.ti_lang.specs.Meaning.Answers.{FitsWanted}
use Rattle.ti_lang.specs.Meaning.Processes.{RunConfig, Wait, Process}
use Rattle.ti_lang.specs.Meaning.Steps.{Step, To, At, Ends, Faults}
use Rattle.ti_align.specs.declared.slices.SliceStep.{SliceStep}
use Rattle.ti_align.specs.declared.slices.SliceStep.TheVariants as answer
use Rattle.ti_align.specs.Slice.{deletes_one, fault_if_deleted, deleted_by, slice_steps, slice_step, at_fault, SliceComes, AllFit, answers_at_departures}
use Rattle.ti_align.specs.Slice as sp
use Rattle.ti_align.proofs.Alignment.Slice.{State, slice, Move, Silent, Arrival, Departure, Over, Fault, spent_by, move_of}
use Rattle.ti_align.proofs.Alignment.Slice as sl
use Rattle.ti_align.proofs.Runs.Ways.{Meeting, Came, Left, answers_left}
use Rattle.ti_align.proofs.Runs.Vars.{true_false}
use Rattle.ti_align.proofs.Alignment.Stepping.{MovesAt, Costs, GoesOn}
use Rattle.ti_align.proofs.SliceAlone.Sliced.{IsBare, Sliced, Slices, slices}
use Rattle.ti_align.proofs.Alignment.Passing.{silent_same, arrival_same, departure_same, silent_arrival, silent_departure, arrival_departure, over_silent, over_arrival, over_departure}
use Rattle.ti_align.proofs.SliceAlone.Pacing.{departs_wanted, deletes_any, Paced, stop, silent, came, left, rests}
use Rattle.ti_align.proofs.SliceAlone.Pathed.{met_after}

-- ---- which way on

-- what the first step of a way is
pub data First (n : RunConfig) (F : Wanted → Answer → Type 0) (gone : List ℕ) (s : State) (ms : List Meeting) (d : ℕ) (u : State) : Type 0 where
  here : ms ≡ [] → s ≡ u → First n F gone s ms d u
  on : (timed : Bool) (t : State) (c : ℕ) → move_of n s ≡ Silent timed t → Paced n F gone t ms c u → spent_by timed c ≤ d → First n F gone s ms d u
  arrives : (w : Wait) (t : State) (ns : List Meeting) (c : ℕ) → move_of n s ≡ Arrival w t → ms ≡ Came w.place w.kind w.arg ∷ ns
      → deletes_any gone w.kind w.arg ≡ false → Paced n F gone t ns c u → c + 1 ≤ d → First n F gone s ms d u
  leaves : (w : Wait) (go : Answer → State) (r : Answer) (ns : List Meeting) (c : ℕ) → move_of n s ≡ Departure w go → F w.wanted r → ms
      ≡ Left r ∷ ns → Paced n F (deleted_by s.wait ++ gone) (go r) ns c u → c + 1 ≤ d → First n F gone s ms d u

first : (n : RunConfig) (F : Wanted → Answer → Type 0) (gone : List ℕ) (s : State) (ms : List Meeting) (d : ℕ) (u : State) → Paced n F gone s ms d u → First n F gone s ms d u
first n F gone s [] d u stop = here refl refl
first n F gone s ms d u (silent {timed = timed} {t = t} {c = c} m x l) = on timed t c m x l
first n F gone s (Came at kind arg ∷ ms) d u (came {t = t} {w = w} {c = c} m e f g h x l) =
    arrives w t ms c m (ap (λ p. Came p kind arg ∷ ms) (sym e) ∙ ap₂ (λ k a. Came w.place k a ∷ ms) (sym f) (sym g)) (ap₂ (deletes_any gone) f g ∙ h) x l
first n F gone s (Left r ∷ ms) d u (left {w = w} {go = go} {c = c} m i x l) = leaves w go r ms c m i refl x l

-- ---- lists

nil_cons : {A : Type 0} (r : Answer) (rs : List Answer) → ◌≡◌ {A = List Answer} [] (r ∷ rs) → A
nil_cons r rs e = absurd (no e)
  where
    no : ◌≡◌ {A = List Answer} [] (r ∷ rs) → ⊥
    no e = cc

pub heads : (r t : Answer) (rs ts : List Answer) → r ∷ rs ≡ t ∷ ts → (r ≡ t) × (rs ≡ ts)
heads r t rs ts e = (cc, cc)

none_some : {A : Type 0} (z : SliceStep) → ◌≡◌ {A = Option SliceStep} None (Some z) → A
none_some z e = absurd (no e)
  where
    no : ◌≡◌ {A = Option SliceStep} None (Some z) → ⊥
    no e = cc

-- ---- what a way shows

-- a process that met this last, at this state, shows the answer z: it has arrived last, or it ends
abbrev pub ShowsAt : RunConfig → SliceStep → Option SliceStep → State → Type 0
ShowsAt n z met u = (met ≡ Some z) ⊎ ((move_of n u ≡ Over) × (z ≡ answer.Ended))

-- the same behind these meetings
abbrev pub Shows : RunConfig → Option SliceStep → List Meeting → State → SliceStep → Type 0
Shows n y ms u z = ShowsAt n z (met_after y ms) u

-- what it met last, or outcomes are left
abbrev pub Open : Option SliceStep → List Answer → Type 0
Open y [] = y ≡ None
Open y (r ∷ rs) = Unit {0}

too_much : {A : Type 0} (a b c d : ℕ) → a + d ≤ b → b ≤ a → c + 1 ≤ d → A
too_much a b c d x y z = absurd (no x y z)
  where
    no : a + d ≤ b → b ≤ a → c + 1 ≤ d → ⊥
    no x y z = absurd (omega (arith, x, y, z))

less_left : (a b c d e : ℕ) → e ≡ a + 1 → a + d ≤ b → c + 1 ≤ d → e + c ≤ b
less_left a b c d e k x y = omega (arith, k, x, y)

still_left : (timed : Bool) (a b c d e : ℕ) → e ≡ spent_by timed a → a + d ≤ b → spent_by timed c ≤ d → e + c ≤ b
still_left true a b c d e k x y = less_left a b c d e k x y
still_left false a b c d e k x y = omega (arith, k, x, y)

same_left : (a b d e : ℕ) → e ≡ a → a + d ≤ b → e + d ≤ b
same_left a b d e k x = omega (arith, k, x)

step_to : (st : Step) (gone : List ℕ) (q : Process) → fault_if_deleted gone st ≡ To q → st ≡ To q
step_to (To p) gone q e = e
step_to (At request go) gone q e = absurd (by (deletes_one gone request.action) e)
  where
    by : (b : Bool) → (if b then Faults RegionGone request.place else At request go) ≡ To q → ⊥
    by true e = cc
    by false e = cc
step_to (Ends place) gone q e = e
step_to (Faults kind place) gone q e = e

step_at : (st : Step) (gone : List ℕ) (request : Request) (go : Answer → Process) → fault_if_deleted gone st ≡ At request go → st ≡ At request go
step_at (To p) gone request go e = e
step_at (At r g) gone request go e = by (deletes_one gone r.action) e
  where
    by : (b : Bool) → (if b then Faults RegionGone r.place else At r g) ≡ At request go → At r g ≡ At request go
    by true e = absurd (no e)
      where
        no : Faults RegionGone r.place ≡ At request go → ⊥
        no e = cc
    by false e = e
step_at (Ends place) gone request go e = e
step_at (Faults kind place) gone request go e = e

step_ends : (st : Step) (gone : List ℕ) (place : Place) → fault_if_deleted gone st ≡ Ends place → st ≡ Ends place
step_ends (To p) gone place e = e
step_ends (At request go) gone place e = absurd (by (deletes_one gone request.action) e)
  where
    by : (b : Bool) → (if b then Faults RegionGone request.place else At request go) ≡ Ends place → ⊥
    by true e = cc
    by false e = cc
step_ends (Ends p) gone place e = e
step_ends (Faults kind p) gone place e = e

-- a fault is the slice's own, or the arrival at a delete of a region that is gone
step_faults : (st : Step) (gone : List ℕ) (kind : FaultKind) (place : Place) → fault_if_deleted gone st ≡ Faults kind place → (st ≡ Faults kind place)
    ⊎ ((request : Request) × (go : Answer → Process) × (st ≡ At request go) × (deletes_one gone request.action ≡ true))
step_faults (To p) gone kind place e = inl e
step_faults (At request go) gone kind place e = by (deletes_one gone request.action) refl e
  where
    by : (b : Bool) → deletes_one gone request.action ≡ b → (if b then Faults RegionGone request.place else At request go) ≡ Faults kind place
        → (At request go ≡ Faults kind place) ⊎ ((r : Request) × (g : Answer → Process) × (At request go ≡ At r g) × (deletes_one gone r.action ≡ true))
    by true h e = inr (request, go, refl, h)
    by false h e = inl e
step_faults (Ends p) gone kind place e = inl e
step_faults (Faults k p) gone kind place e = inl e

fault_silent : {A : Type 0} (m : Move) (k : FaultKind) (at : Place) (d : Bool) (s : State) → m ≡ Fault k at → m ≡ Silent d s → A
fault_silent m k at d s a b = absurd (no a b)
  where
    no : m ≡ Fault k at → m ≡ Silent d s → ⊥
    no a b = cc

fault_arrival : {A : Type 0} (m : Move) (k : FaultKind) (at : Place) (s : State) (c : Wait) → m ≡ Fault k at → m ≡ Arrival c s → A
fault_arrival m k at s c a b = absurd (no a b)
  where
    no : m ≡ Fault k at → m ≡ Arrival c s → ⊥
    no a b = cc

fault_departure : {A : Type 0} (m : Move) (k : FaultKind) (at : Place) (c : Wait) (g : Answer → State) → m ≡ Fault k at → m ≡ Departure c g → A
fault_departure m k at c g a b = absurd (no a b)
  where
    no : m ≡ Fault k at → m ≡ Departure c g → ⊥
    no a b = cc

fault_over : {A : Type 0} (m : Move) (k : FaultKind) (at : Place) → m ≡ Fault k at → m ≡ Over → A
fault_over m k at a b = absurd (no a b)
  where
    no : m ≡ Fault k at → m ≡ Over → ⊥
    no a b = cc

pub none_wait : {A : Type 0} (o : Option Wait) (w : Wait) → o ≡ None → o ≡ Some w → A
none_wait o w a b = absurd (no a b)
  where
    no : o ≡ None → o ≡ Some w → ⊥
    no a b = cc

-- where a state waits, it leaves
leaving : (n : RunConfig) (s : State) (w : Wait) → s.wait ≡ Some w → (go : Answer → State) × (move_of n s ≡ Departure w go)
leaving n s w e = (_, ap (sl.moves n s.frames) e)

some_same : (a b : SliceStep) → Some a ≡ Some b → a ≡ b
some_same a b e = cc

at_same : (k l : CollKind) (a b : Place) (x y : Option ℕ) → k ≡ l → a ≡ b → x ≡ y → answer.At k a x ≡ answer.At l b y
at_same k l a b x y e f g = ap₂ (λ c p. answer.At c p x) e f ∙ ap (answer.At l b) g

open_none : (y : Option SliceStep) (rs : List Answer) → Open y rs → rs ≡ [] → y ≡ None
open_none y [] o e = o
open_none y (r ∷ rs) o e = nil_cons r rs (sym e)

-- a way that stops where nothing is left shows an end alone
shown_end : (n : RunConfig) (y : Option SliceStep) (rs : List Answer) (ms : List Meeting) (s u : State) (z : SliceStep) → Open y rs
    → answers_left ms ≡ rs → ms ≡ [] → s ≡ u → Shows n y ms u z → (move_of n s ≡ Over) × (z ≡ answer.Ended)
shown_end n y rs ms s u z o a e f (inl h) =
    let none : y ≡ None = open_none y rs o (sym a ∙ ap answers_left e) in
    none_some z (sym none ∙ sym (ap (met_after y) e) ∙ h)
shown_end n y rs ms s u z o a e f (inr h) = (ap (move_of n) f ∙ h.0, h.1)

-- ---- where no way goes on

-- it is over or at fault, no tick is left for what costs one, or it comes to a delete of a region that is gone
data Stops (n : RunConfig) (spent : ℕ) (m : Move) (gone : List ℕ) : Type 0 where
  over : m ≡ Over → Stops n spent m gone
  fault : (kind : FaultKind) (place : Place) → m ≡ Fault kind place → Stops n spent m gone
  fuel : n.fuel ≤ spent → Costs m → Stops n spent m gone
  delete : (w : Wait) (t : State) → m ≡ Arrival w t → deletes_any gone w.kind w.arg ≡ true → Stops n spent m gone

stops_silent : {A : Type 0} (n : RunConfig) (spent : ℕ) (m : Move) (gone : List ℕ) (timed : Bool) (t : State) (c d : ℕ) → Stops n spent m gone
    → m ≡ Silent timed t → spent + d ≤ n.fuel → spent_by timed c ≤ d → A
stops_silent n spent m gone timed t c d (over e) k l i = absurd (over_silent _ _ _ e k)
stops_silent n spent m gone timed t c d (fault kind place e) k l i = fault_silent _ _ _ _ _ e k
stops_silent n spent m gone timed t c d (fuel b q) k l i = too_much spent n.fuel c d l b (subst (λ t. spent_by t c ≤ d) (subst Costs k q) i)
stops_silent n spent m gone timed t c d (delete w u e h) k l i = absurd (silent_arrival _ _ _ _ _ k e)

stops_arrival : {A : Type 0} (n : RunConfig) (spent : ℕ) (m : Move) (gone : List ℕ) (w : Wait) (t : State) (c d : ℕ) → Stops n spent m gone
    → m ≡ Arrival w t → deletes_any gone w.kind w.arg ≡ false → spent + d ≤ n.fuel → c + 1 ≤ d → A
stops_arrival n spent m gone w t c d (over e) k f l i = absurd (over_arrival _ _ _ e k)
stops_arrival n spent m gone w t c d (fault kind place e) k f l i = fault_arrival _ _ _ _ _ e k
stops_arrival n spent m gone w t c d (fuel b q) k f l i = too_much spent n.fuel c d l b i
stops_arrival n spent m gone w t c d (delete v u e h) k f l i =
    absurd (true_false (sym h ∙ ap (λ (w : Wait). deletes_any gone w.kind w.arg) (arrival_same _ _ _ _ _ e k).1 ∙ f))

stops_departure : {A : Type 0} (n : RunConfig) (spent : ℕ) (m : Move) (gone : List ℕ) (w : Wait) (go : Answer → State) (c d : ℕ)
    → Stops n spent m gone → m ≡ Departure w go → spent + d ≤ n.fuel → c + 1 ≤ d → A
stops_departure n spent m gone w go c d (over e) k l i = absurd (over_departure _ _ _ e k)
stops_departure n spent m gone w go c d (fault kind place e) k l i = fault_departure _ _ _ _ _ e k
stops_departure n spent m gone w go c d (fuel b q) k l i = too_much spent n.fuel c d l b i
stops_departure n spent m gone w go c d (delete v u e h) k l i = absurd (arrival_departure _ _ _ _ _ e k)

-- where a step of the slice stands at a departure, it wants what the slice waits for
slice_wants : (p : Process) (w : Wait) (request : Request) (go : Answer → Process) → p.wait ≡ Some w → slice_step p ≡ At request go → request.wanted ≡ w.wanted
slice_wants p w request go z e = departs_wanted p w request go (sym (ap (slice_steps p) z) ∙ e)

module _ (n : RunConfig) (F : Wanted → Answer → Type 0) where
  -- what holds of each way from a state, where something holds of what it met last and of its end
  abbrev OfWays : (Option SliceStep → State → Type 0) → Type 0 → List ℕ → State → ℕ → Option SliceStep → List Answer → Type 0
  OfWays V C gone s spent y rs = (ms : List Meeting) (d : ℕ) (u : State) → Paced n F gone s ms d u → answers_left ms ≡ rs → spent + d ≤ n.fuel → V (met_after y ms) u → C

  by_silent : (V : Option SliceStep → State → Type 0) (C : Type 0) (gone : List ℕ) (p q : Process) (rs : List Answer) (y : Option SliceStep)
      → ((timed : Bool) (t : State) → move_of n (slice p) ≡ Silent timed t → [] ≡ rs → V y (slice p) → C)
      → ((slice q ≡ slice p) × (q.spent ≡ p.spent)) ⊎ GoesOn p.spent (move_of n (slice p)) q → OfWays V C gone (slice q) q.spent y rs → OfWays V C gone (slice p) p.spent y rs
  by_silent V C gone p q rs y stopped (inl e) ih ms d u w a l s = ih ms d u (subst (λ t. Paced n F gone t ms d u) (sym e.0) w) a (same_left p.spent n.fuel d q.spent e.1 l) s
  by_silent V C gone p q rs y stopped (inr g) ih ms d u w a l s = by (first n F gone (slice p) ms d u w)
    where
      by : First n F gone (slice p) ms d u → C
      by (here e f) = stopped g.0 _ g.1 (sym (ap answers_left e) ∙ a) (subst (λ m. V (met_after y m) (slice p)) e (subst (V (met_after y ms)) (sym f) s))
      by (on timed t c m k i) =
          let same = silent_same _ _ _ _ _ m g.1 in
          ih ms c u (subst (λ t. Paced n F gone t ms c u) same.0 k) a (still_left g.0 p.spent n.fuel c d q.spent g.2 l (subst (λ b. spent_by b c ≤ d) same.1 i)) s
      by (arrives w t ns c m e f k i) = absurd (silent_arrival _ _ _ _ _ g.1 m)
      by (leaves w go r ns c m j e k i) = absurd (silent_departure _ _ _ _ _ g.1 m)

  by_arrival : (V : Option SliceStep → State → Type 0) (C : Type 0) (gone : List ℕ) (p q : Process) (w : Wait) (r : Answer)
      (rest : List Answer) (y : Option SliceStep) → move_of n (slice p) ≡ Arrival w (slice q) → q.spent ≡ p.spent + 1
      → OfWays V C gone (slice q) q.spent (Some (answer.At w.kind w.place w.arg)) (r ∷ rest) → OfWays V C gone (slice p) p.spent y (r ∷ rest)
  by_arrival V C gone p q w r rest y m sp ih ms d u k a l s = by (first n F gone (slice p) ms d u k)
    where
      by : First n F gone (slice p) ms d u → C
      by (here e f) = nil_cons r rest (sym (ap answers_left e) ∙ a)
      by (on timed t c m' j i) = absurd (silent_arrival _ _ _ _ _ m' m)
      by (arrives v t ns c m' e f j i) =
          let same = arrival_same _ _ _ _ _ m' m in
          ih ns c u (subst (λ t. Paced n F gone t ns c u) same.0 j) (sym (ap answers_left e) ∙ a) (less_left p.spent n.fuel c d q.spent sp l i)
          (subst (λ (w : Wait). V (met_after (Some (answer.At w.kind w.place w.arg)) ns) u) same.1 (subst (λ q. V (met_after y q) u) e s))
      by (leaves v go r ns c m' b e j i) = absurd (arrival_departure _ _ _ _ _ m m')

  by_departure : (V : Option SliceStep → State → Type 0) (C : Type 0) (gone : List ℕ) (p q : Process) (w : Wait) (next : Answer → State)
      (r : Answer) (rest : List Answer) (y : Option SliceStep) → move_of n (slice p) ≡ Departure w next → slice q ≡ next r → q.spent
      ≡ p.spent + 1
      → OfWays V C (deleted_by p.wait ++ gone) (slice q) q.spent None rest → OfWays V C gone (slice p) p.spent y (r ∷ rest)
  by_departure V C gone p q w next r rest y m g sp ih ms d u k a l s = by (first n F gone (slice p) ms d u k)
    where
      by : First n F gone (slice p) ms d u → C
      by (here e f) = nil_cons r rest (sym (ap answers_left e) ∙ a)
      by (on timed t c m' j i) = absurd (silent_departure _ _ _ _ _ m' m)
      by (arrives v t ns c m' e f j i) = absurd (arrival_departure _ _ _ _ _ m' m)
      by (leaves v go t ns c m' b e j i) =
          let h = heads t r (answers_left ns) rest (sym (ap answers_left e) ∙ a) in
          let to : go t ≡ slice q = ap (λ (f : Answer → State). f t) (departure_same _ _ _ _ _ m' m) ∙ ap next h.0 ∙ sym g in
          ih ns c u (subst (λ v. Paced n F (deleted_by p.wait ++ gone) v ns c u) to j) h.1 (less_left p.spent n.fuel c d q.spent sp l i) (subst (λ q. V (met_after y q) u) e s)

  at_arrival : (p : Process) (request : Request) (go : Answer → Process) (kind : CollKind) (arg : Option ℕ) (given : Deposit) → Sliced n p
      → slice_step p ≡ At request go → request.action ≡ act.Arrive kind arg given
      → MovesAt n p.spent (move_of n (slice p)) p.frames request.place (act.Arrive kind arg given) go × ((r : Answer) → IsBare (go r))
  at_arrival p request go kind arg given s e a =
      let k = subst (Slices n p) e (slices n p s) in
      (subst (λ a. MovesAt n p.spent (move_of n (slice p)) p.frames request.place a go) a k.0, k.1)

  at_departure : (p : Process) (request : Request) (go : Answer → Process) → Sliced n p → slice_step p ≡ At request go → request.action ≡ act.Depart
      → MovesAt n p.spent (move_of n (slice p)) p.frames request.place act.Depart go × ((r : Answer) → IsBare (go r))
  at_departure p request go s e a =
      let k = subst (Slices n p) e (slices n p s) in
      (subst (λ a. MovesAt n p.spent (move_of n (slice p)) p.frames request.place a go) a k.0, k.1)

  open_rest : (rest : List Answer) → Open None rest
  open_rest [] = refl
  open_rest (r ∷ rest) = tt

module _ (n : RunConfig) (F : Wanted → Answer → Type 0) (z : SliceStep) where
  -- what is to be shown of a way from a state
  abbrev Shown : SliceStep → List ℕ → State → ℕ → Option SliceStep → List Answer → Type 0
  Shown x gone s spent y rs = OfWays n F (ShowsAt n z) (x ≡ z) gone s spent y rs

  -- behind an arrival where nothing is left, the arrival itself is shown
  by_waiting : (gone : List ℕ) (t : State) (w : Wait) (x : SliceStep) → t.wait ≡ Some w → (ns : List Meeting) (c : ℕ) (u : State)
      → Paced n F gone t ns c u → answers_left ns ≡ [] → Shows n (Some x) ns u z → x ≡ z
  by_waiting gone t w x h ns c u k a s = by (first n F gone t ns c u k)
    where
      shown : ns ≡ [] → t ≡ u → Shows n (Some x) ns u z → x ≡ z
      shown e f (inl g) = some_same x z (sym (ap (met_after (Some x)) e) ∙ g)
      shown e f (inr g) = let l = leaving n t w h in absurd (over_departure _ _ _ (ap (move_of n) f ∙ g.0) l.1)

      by : First n F gone t ns c u → x ≡ z
      by (here e f) = shown e f s
      by (on timed v d m j i) = none_wait t.wait w (rests n t _ m).0 h
      by (arrives v q qs d m e f j i) = none_wait t.wait w (rests n t _ m).0 h
      by (leaves v go r qs d m b e j i) = nil_cons r (answers_left qs) (sym a ∙ ap answers_left e)

  by_stands : (gone : List ℕ) (p q : Process) (w : Wait) (y : Option SliceStep) → Open y [] → move_of n (slice p) ≡ Arrival w (slice q)
      → Shown (answer.At w.kind w.place w.arg) gone (slice p) p.spent y []
  by_stands gone p q w y o m ms d u k a l s = by (first n F gone (slice p) ms d u k)
    where
      by : First n F gone (slice p) ms d u → answer.At w.kind w.place w.arg ≡ z
      by (here e f) = absurd (over_arrival _ _ _ (shown_end n y [] ms (slice p) u z o a e f s).0 m)
      by (on timed t c m' j i) = absurd (silent_arrival _ _ _ _ _ m' m)
      by (arrives v t ns c m' e f j i) =
          let same = arrival_same _ _ _ _ _ m m' in
          ap (λ (w : Wait). answer.At w.kind w.place w.arg) same.1
          ∙ by_waiting gone t v (answer.At v.kind v.place v.arg) (rests n (slice p) _ m').1 ns c u j (sym (ap answers_left e) ∙ a) (subst (λ q. Shows n y q u z) e s)
      by (leaves v go r ns c m' b e j i) = absurd (arrival_departure _ _ _ _ _ m m')

  by_end : (gone : List ℕ) (p : Process) (y : Option SliceStep) → Open y [] → move_of n (slice p) ≡ Over → Shown answer.Ended gone (slice p) p.spent y []
  by_end gone p y o m ms d u k a l s = by (first n F gone (slice p) ms d u k)
    where
      by : First n F gone (slice p) ms d u → answer.Ended ≡ z
      by (here e f) = sym (shown_end n y [] ms (slice p) u z o a e f s).1
      by (on timed t c m' j i) = absurd (over_silent _ _ _ m m')
      by (arrives v t ns c m' e f j i) = absurd (over_arrival _ _ _ m m')
      by (leaves v go r ns c m' b e j i) = absurd (over_departure _ _ _ m m')

  -- where no tick is left no way goes on
  by_fuel : (x : SliceStep) (gone : List ℕ) (p : Process) (y : Option SliceStep) → Open y [] → n.fuel ≤ p.spent → Costs (move_of n (slice p)) → Shown x gone (slice p) p.spent y []
  by_fuel x gone p y o b q ms d u k a l s = by (first n F gone (slice p) ms d u k)
    where
      by : First n F gone (slice p) ms d u → x ≡ z
      by (here e f) = absurd (subst Costs (shown_end n y [] ms (slice p) u z o a e f s).0 q)
      by (on timed t c m j i) = too_much p.spent n.fuel c d l b (subst (λ t. spent_by t c ≤ d) (subst Costs m q) i)
      by (arrives v t ns c m e f j i) = too_much p.spent n.fuel c d l b i
      by (leaves v go r ns c m f e j i) = too_much p.spent n.fuel c d l b i

  by_fault : (x : SliceStep) (gone : List ℕ) (p : Process) (y : Option SliceStep) (kind : FaultKind) (place : Place) → Open y []
      → move_of n (slice p) ≡ Fault kind place → Shown x gone (slice p) p.spent y []
  by_fault x gone p y kind place o m ms d u k a l s = by (first n F gone (slice p) ms d u k)
    where
      by : First n F gone (slice p) ms d u → x ≡ z
      by (here e f) = fault_over _ _ _ m (shown_end n y [] ms (slice p) u z o a e f s).0
      by (on timed t c m' j i) = fault_silent _ _ _ _ _ m m'
      by (arrives v t ns c m' e f j i) = fault_arrival _ _ _ _ _ m m'
      by (leaves v go r ns c m' b e j i) = fault_departure _ _ _ _ _ m m'

  -- to a delete of a region that is gone no way leads
  by_gone : (x : SliceStep) (gone : List ℕ) (p q : Process) (y : Option SliceStep) (w : Wait) → Open y [] → move_of n (slice p)
      ≡ Arrival w (slice q) → deletes_any gone w.kind w.arg ≡ true → Shown x gone (slice p) p.spent y []
  by_gone x gone p q y w o m g ms d u k a l s = by (first n F gone (slice p) ms d u k)
    where
      by : First n F gone (slice p) ms d u → x ≡ z
      by (here e f) = absurd (over_arrival _ _ _ (shown_end n y [] ms (slice p) u z o a e f s).0 m)
      by (on timed t c m' j i) = absurd (silent_arrival _ _ _ _ _ m' m)
      by (arrives v t ns c m' e f j i) =
          absurd (true_false (sym g ∙ ap (λ (w : Wait). deletes_any gone w.kind w.arg) (arrival_same _ _ _ _ _ m m').1 ∙ f))
      by (leaves v go r ns c m' b e j i) = absurd (arrival_departure _ _ _ _ _ m m')

  -- ---- the answer of the slice

  gone_at : (x : SliceStep) (gone : List ℕ) (p : Process) (y : Option SliceStep) (b : ℕ) (fs : List _) (at : Place) (a : Action)
      (go : Answer → Process) → Open y [] → MovesAt n b (move_of n (slice p)) fs at a go → deletes_one gone a ≡ true
      → Shown x gone (slice p) p.spent y []
  gone_at x gone p y b fs at (act.Arrive kind arg given) go o k h = by_gone x gone p (go Done) y k.0 o (k.4 Done).0 (ap₂ (deletes_any gone) k.2 k.3 ∙ h)
  gone_at x gone p y b fs at _ go o k h = absurd (true_false (sym h))

  pub follow : (p : Process) (gone : List ℕ) (k : ℕ) (rs : List Answer) (x : SliceStep) → SliceComes p gone k rs x → AllFit x → Sliced n p
      → (y : Option SliceStep) → Open y rs → Shown x gone (slice p) p.spent y rs
  follow p gone k rs x (sp.silent {q = q} e c) f s y o =
      let g = subst (Slices n p) (step_to (slice_step p) gone q e) (slices n p s) in
      by_silent n F (ShowsAt n z) (x ≡ z) gone p q rs y (λ timed t m a v. absurd
      (over_silent _ timed _ (shown_end n y rs [] (slice p) (slice p) z o a refl refl v).0 m)) g.0 (follow q gone k rs x c f g.1 y o)
  follow p gone k [] x (sp.stands {request = request} {go = go} {kind = kind} {arg = arg} {given = given} e a) f s y o =
      let g = (at_arrival n F p request go kind arg given s (step_at (slice_step p) gone request go e) a).0 in
      λ ms d u w b l h. at_same _ _ _ _ _ _ (sym g.2) (sym g.1) (sym g.3) ∙ by_stands gone p (go Done) g.0 y o (g.4 Done).0 ms d u w b l h
  follow p gone k (r ∷ rest) x (sp.arrives {request = request} {go = go} {kind = kind} {arg = arg} {given = given} e a c) f s y o =
      let g = at_arrival n F p request go kind arg given s (step_at (slice_step p) gone request go e) a in
      let h = g.0.4 Done in
      by_arrival n F (ShowsAt n z) (x ≡ z) gone p (go Done) g.0.0 r rest y h.0 h.2 (follow (go Done) gone k (r ∷ rest) x c f (h.1, g.1 Done) (Some (answer.At g.0.0.kind g.0.0.place g.0.0.arg)) tt)
  follow p gone k (r ∷ rest) x (sp.leaves {request = request} {go = go} e a i c) f s y o =
      let g = at_departure n F p request go s (step_at (slice_step p) gone request go e) a in
      let h = g.0.3 r in
      by_departure n F (ShowsAt n z) (x ≡ z) gone p (go r) g.0.0 g.0.1 r rest y g.0.2 h.0 h.2 (follow (go r) (deleted_by p.wait ++ gone) (k + 1) rest x c f (h.1, g.1 r) None (open_rest n F rest))
  follow p gone k (r ∷ rest) x (sp.unfit e a i) f s y o = absurd f
  follow p gone k [] x (sp.ends {place = place} e) f s y o = by_end gone p y o (subst (Slices n p) (step_ends (slice_step p) gone place e) (slices n p s))
  follow p gone k [] x (sp.faults {kind = kind} {place = place} e) f s y o = by (step_faults (slice_step p) gone kind place e)
    where
      own : Slices n p (Faults kind place) → Shown (at_fault kind place) gone (slice p) p.spent y []
      own (inl g) = by_fuel (at_fault kind place) gone p y o g.1 g.2
      own (inr g) = by_fault (at_fault kind place) gone p y kind place o g

      by : (slice_step p ≡ Faults kind place) ⊎ ((request : Request) × (go : Answer → Process) × (slice_step p ≡ At request go)
          × (deletes_one gone request.action ≡ true)) → Shown (at_fault kind place) gone (slice p) p.spent y []
      by (inl h) = own (subst (Slices n p) h (slices n p s))
      by (inr h) = gone_at (at_fault kind place) gone p y p.spent p.frames h.0.place h.0.action h.1 o (subst (Slices n p) h.2 (slices n p s)).0 h.3
  follow p gone k (r ∷ rest) x (sp.ended e) f s y o = absurd f
  follow p gone k (r ∷ rest) x (sp.faulted e) f s y o = absurd f

-- ---- outcomes that fit

-- the slice at fault blames no outcome
fault_fit : (kind : FaultKind) (place : Place) → AllFit (at_fault kind place)
fault_fit Fuel place = tt
fault_fit kind place = tt

-- nor does it where none is left
none_left : (p : Process) (gone : List ℕ) (k : ℕ) (x : SliceStep) → SliceComes p gone k [] x → AllFit x
none_left p gone k x (sp.silent {q = q} e c) = none_left q gone k x c
none_left p gone k x (sp.stands e a) = tt
none_left p gone k x (sp.ends e) = tt
none_left p gone k x (sp.faults {kind = kind} {place = place} e) = fault_fit kind place

module _ (n : RunConfig) (F : Wanted → Answer → Type 0) (sure : (w : Wanted) (r : Answer) → F w r → FitsWanted w r) where
  -- what is to be shown where each departure of a way is answered so
  abbrev Blames : SliceStep → List ℕ → State → ℕ → Option SliceStep → List Answer → Type 0
  Blames x gone s spent y rs = OfWays n F (λ met u. Unit {0}) (AllFit x) gone s spent y rs

  by_unfit : (x : SliceStep) (gone : List ℕ) (p : Process) (w : Wait) (next : Answer → State) (request : Request) (go : Answer → Process)
      (r : Answer) (rest : List Answer) (y : Option SliceStep) → move_of n (slice p) ≡ Departure w next → slice_step p ≡ At request go
      → (FitsWanted request.wanted r → ⊥) → Blames x gone (slice p) p.spent y (r ∷ rest)
  by_unfit x gone p w next request go r rest y m g f ms d u k a l s = by (first n F gone (slice p) ms d u k)
    where
      by : First n F gone (slice p) ms d u → AllFit x
      by (here e f) = nil_cons r rest (sym (ap answers_left e) ∙ a)
      by (on timed t c m' j i) = absurd (silent_departure _ _ _ _ _ m' m)
      by (arrives v t ns c m' e f j i) = absurd (arrival_departure _ _ _ _ _ m' m)
      by (leaves v go' t ns c m' b e j i) =
          let h = heads t r (answers_left ns) rest (sym (ap answers_left e) ∙ a) in
          let wanted = slice_wants p v request go (rests n (slice p) _ m').0 g in
          absurd (f (subst (λ y. FitsWanted y r) (sym wanted) (subst (FitsWanted v.wanted) h.0 (sure v.wanted t b))))

  by_none : (x : SliceStep) (gone : List ℕ) (p : Process) (r : Answer) (rest : List Answer) (y : Option SliceStep)
      → Stops n p.spent (move_of n (slice p)) gone → Blames x gone (slice p) p.spent y (r ∷ rest)
  by_none x gone p r rest y q ms d u k a l s = by (first n F gone (slice p) ms d u k)
    where
      by : First n F gone (slice p) ms d u → AllFit x
      by (here e f) = nil_cons r rest (sym (ap answers_left e) ∙ a)
      by (on timed t c m j i) = stops_silent n p.spent (move_of n (slice p)) gone timed t c d q m l i
      by (arrives v t ns c m e f j i) = stops_arrival n p.spent (move_of n (slice p)) gone v t c d q m f l i
      by (leaves v go t ns c m b e j i) = stops_departure n p.spent (move_of n (slice p)) gone v go c d q m l i

  -- so the slice blames no outcome
  pub blames_none : (p : Process) (gone : List ℕ) (k : ℕ) (rs : List Answer) (x : SliceStep) → SliceComes p gone k rs x → Sliced n p → (y : Option SliceStep) → Blames x gone (slice p) p.spent y rs
  blames_none p gone k [] x c s y = λ ms d u w a l v. none_left p gone k x c
  blames_none p gone k (r ∷ rest) x (sp.silent {q = q} e c) s y =
      let g = subst (Slices n p) (step_to (slice_step p) gone q e) (slices n p s) in
      by_silent n F (λ met u. Unit {0}) (AllFit x) gone p q (r ∷ rest) y (λ timed t m a v. nil_cons r rest a) g.0 (blames_none q gone k (r ∷ rest) x c g.1 y)
  blames_none p gone k (r ∷ rest) x (sp.arrives {request = request} {go = go} {kind = kind} {arg = arg} {given = given} e a c) s y =
      let g = at_arrival n F p request go kind arg given s (step_at (slice_step p) gone request go e) a in
      let h = g.0.4 Done in
      by_arrival n F (λ met u. Unit {0}) (AllFit x) gone p (go Done) g.0.0 r rest y h.0 h.2
      (blames_none (go Done) gone k (r ∷ rest) x c (h.1, g.1 Done) (Some (answer.At g.0.0.kind g.0.0.place g.0.0.arg)))
  blames_none p gone k (r ∷ rest) x (sp.leaves {request = request} {go = go} e a i c) s y =
      let g = at_departure n F p request go s (step_at (slice_step p) gone request go e) a in
      let h = g.0.3 r in
      by_departure n F (λ met u. Unit {0}) (AllFit x) gone p (go r) g.0.0 g.0.1 r rest y g.0.2 h.0 h.2 (blames_none (go r) (deleted_by p.wait ++ gone) (k + 1) rest x c (h.1, g.1 r) None)
  blames_none p gone k (r ∷ rest) x (sp.unfit {request = request} {go = go} e a i) s y =
      let z = step_at (slice_step p) gone request go e in
      let g = at_departure n F p request go s z a in by_unfit x gone p g.0.0 g.0.1 request go r rest y g.0.2 z i
  blames_none p gone k (r ∷ rest) x (sp.ended {place = place} e) s y = by_none x gone p r rest y (over (subst (Slices n p) (step_ends (slice_step p) gone place e) (slices n p s)))
  blames_none p gone k (r ∷ rest) x (sp.faulted {kind = kind} {place = place} e) s y = by_none x gone p r rest y (by (step_faults (slice_step p) gone kind place e))
    where
      own : Slices n p (Faults kind place) → Stops n p.spent (move_of n (slice p)) gone
      own (inl g) = fuel g.1 g.2
      own (inr g) = fault kind place g

      gone_stops : (b : ℕ) (fs : List _) (at : Place) (a : Action) (go : Answer → Process) → MovesAt n b (move_of n (slice p)) fs at a go
          → deletes_one gone a ≡ true → Stops n p.spent (move_of n (slice p)) gone
      gone_stops b fs at (act.Arrive kind arg given) go k h = delete k.0 (slice (go Done)) (k.4 Done).0 (ap₂ (deletes_any gone) k.2 k.3 ∙ h)
      gone_stops b fs at _ go k h = absurd (true_false (sym h))

      by : (slice_step p ≡ Faults kind place) ⊎ ((request : Request) × (go : Answer → Process) × (slice_step p ≡ At request go)
          × (deletes_one gone request.action ≡ true)) → Stops n p.spent (move_of n (slice p)) gone
      by (inl h) = own (subst (Slices n p) h (slices n p s))
      by (inr h) = gone_stops p.spent p.frames h.0.place h.0.action h.1 (subst (Slices n p) h.2 (slices n p s)).0 h.3
