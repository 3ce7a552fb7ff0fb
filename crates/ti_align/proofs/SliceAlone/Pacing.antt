-- The way of a process through the states of the slice, with the ticks that it costs there and the regions that are gone.
use Rattle.std.proofs.Common.{◌≡◌, ℕ, ◌+◌, ◌≤◌, nat_lt, length, Bool, true, false, ◌⊎◌, inl, inr, if◌then◌else◌, List, [], ◌∷◌, ◌++◌, Option, Some, None, refl, ap, ap₂, sym, ◌∙◌, subst, arith}
use Rattle.std.specs.List.{list_any}
use Rattle.ti_base.specs.declared.place.Place.{Place}
use Rattle.ti_base.specs.declared.fault.FaultKind.TheVariants.{Depth, Fuel}
use Rattle.ti_base.specs.declared.action.Action.TheVariants as act
use Rattle.ti_base.specs.declared.action.CollKind.{CollKind}
use Rattle.ti_base.specs.declared.action.Deposit.{Deposit}
use Rattle.ti_base.specs.declared.entry.Answer.{Answer}
use Rattle.ti_lang.specs.Meaning.Comp.{Wanted, Request, CompResult, Gives, Asks, Fails}
use Rattle.ti_lang.specs.Meaning.Processes.{RunConfig, ContItem, Frame, Wait, Process}
use Rattle.ti_lang.specs.Meaning.Moves as move
use Rattle.ti_lang.specs.Meaning.RoundsOf as rounds
use Rattle.ti_lang.specs.Meaning.Steps.{To, At, Faults, most_frames, departs, step, steps}
use Rattle.ti_align.specs.Slice.{deleted_at, deleted_by}
use Rattle.ti_align.proofs.Alignment.Slice.{State, slice, Move, Silent, Arrival, Departure, Over, Fault, spent_by, certain, moves_to, moves_on, moves_in, move_of, single_performed, env_in}
use Rattle.ti_align.proofs.Alignment.Slice as sl
use Rattle.ti_align.proofs.Runs.Ways.{Asked, asking, Meeting, Came, Left}
use Rattle.ti_align.proofs.SliceAlone.FitWays.{FitWay}
use Rattle.ti_align.proofs.SliceAlone.FitWays as way
use Rattle.ti_align.proofs.Alignment.Stepping.{Ok, Kinds, KindsAt}
use Rattle.ti_align.proofs.Alignment.Passing.{kind_of, by_alone}

-- the collective deletes one of these regions
abbrev pub deletes_any : List ℕ → CollKind → Option ℕ → Bool
deletes_any gone kind arg = list_any (λ r. rounds.deletes r kind arg) gone

-- a way through the slice that costs at most so many ticks, from where these regions are gone; it deletes none of them again
pub data Paced (n : RunConfig) (F : Wanted → Answer → Type 0) : List ℕ → State → List Meeting → ℕ → State → Type 0 where
  stop : {gone : List ℕ} {s : State} {d : ℕ} → Paced n F gone s [] d s
  silent : {gone : List ℕ} {timed : Bool} {s t u : State} {ms : List Meeting} {c d : ℕ} → move_of n s ≡ Silent timed t → Paced n F gone t ms c u → spent_by timed c ≤ d → Paced n F gone s ms d u
  came : {gone : List ℕ} {s t u : State} {w : Wait} {at : Place} {kind : CollKind} {arg : Option ℕ} {ms : List Meeting} {c d : ℕ} →
      move_of n s ≡ Arrival w t → w.place ≡ at → w.kind ≡ kind → w.arg ≡ arg → deletes_any gone kind arg ≡ false → Paced n F gone t ms c u → c + 1 ≤ d → Paced n F gone s (Came at kind arg ∷ ms) d u
  left : {gone : List ℕ} {s u : State} {w : Wait} {go : Answer → State} {r : Answer} {ms : List Meeting} {c d : ℕ} →
      move_of n s ≡ Departure w go → F w.wanted r → Paced n F (deleted_by s.wait ++ gone) (go r) ms c u → c + 1 ≤ d → Paced n F gone s (Left r ∷ ms) d u

-- ---- where a state waits

-- what a move says of where the states wait
abbrev pub Rests : Option Wait → Move → Type 0
Rests x (Silent timed t) = (x ≡ None) × (t.wait ≡ None)
Rests x (Arrival w t) = (x ≡ None) × (t.wait ≡ Some w)
Rests x (Departure w go) = (x ≡ Some w) × ((r : Answer) → (go r).wait ≡ None)
Rests x Over = Unit {0}
Rests x (Fault kind place) = Unit {0}

rests_to : (n : RunConfig) (f : Frame) (fs : List Frame) (rest : List ContItem) (mv : move.Move) → Rests None (moves_to n f fs rest mv)
rests_to n f fs rest (move.Calls at m this ps r) = go (nat_lt (length (f ∷ fs)) most_frames)
  where
    go : (b : Bool) → Rests None (if b then Silent true (record { frames = sl.callee_part n.program m ps r ∷ record f { left = rest } ∷ fs; wait = None }) else Fault Depth at)
    go true = (refl, refl)
    go false = tt
rests_to n f fs rest _ = (refl, refl)

rests_certain : (n : RunConfig) (f : Frame) (fs : List Frame) (rest : List ContItem) (g : CompResult move.Move) → Rests None (certain g (moves_to n f fs rest))
rests_certain n f fs rest (Gives mv more) = rests_to n f fs rest mv
rests_certain n f fs rest (Asks request) = tt
rests_certain n f fs rest (Fails kind at) = tt

rests_on : (n : RunConfig) (f : Frame) (fs : List Frame) (ws : List ContItem) → Rests None (moves_on n f fs ws)
rests_on n f fs [] = (refl, refl)
rests_on n f fs (w ∷ rest) = rests_certain n f fs rest (single_performed (env_in n f rest) w [])

rests_in : (n : RunConfig) (fs : List Frame) → Rests None (moves_in n fs)
rests_in n [] = tt
rests_in n (f ∷ fs) = rests_on n f fs f.left

rests_by : (n : RunConfig) (fs : List Frame) (w : Option Wait) → Rests w (sl.moves n fs w)
rests_by n fs None = rests_in n fs
rests_by n fs (Some w) = (refl, λ r. refl)

pub rests : (n : RunConfig) (s : State) (m : Move) → move_of n s ≡ m → Rests s.wait m
rests n s m e = subst (Rests s.wait) e (rests_by n s.frames s.wait)

-- ---- what is wanted

-- a departure wants what is waited for
pub departs_wanted : (p : Process) (w : Wait) (request : Request) (go : Answer → Process) → departs p w ≡ At request go → request.wanted ≡ w.wanted
departs_wanted p w request go k = by (nat_lt p.spent p.setting.fuel) _ _ _ k
  where
    same : (a b : Request) (f g : Answer → Process) → At a f ≡ At b g → a.wanted ≡ b.wanted
    same a b f g k = cc

    never : (at : Place) (r : Request) (g : Answer → Process) → Faults Fuel at ≡ At r g → ⊥
    never at r g k = cc

    by : (b : Bool) (r : Request) (g : Answer → Process) (at : Place) → (if b then At r g else Faults Fuel at) ≡ At request go → request.wanted ≡ r.wanted
    by true r g at k = sym (same r request g go k)
    by false r g at k = absurd (never at request go k)

-- where a process waits, its step wants what it waits for
pub wants : (p : Process) (w : Wait) (request : Request) (go : Answer → Process) → p.wait ≡ Some w → step p ≡ At request go → request.wanted ≡ w.wanted
wants p w request go z e = departs_wanted p w request go (sym (ap (steps p) z) ∙ e)

-- ---- meetings that delete no region twice

-- none of these meetings deletes one of these regions, or one that was deleted before; these are deleted by the next departure
abbrev pub Free : List ℕ → List ℕ → List Meeting → Type 0
Free pend gone [] = Unit {0}
Free pend gone (Came at kind arg ∷ ms) = (deletes_any gone kind arg ≡ false) × Free (deleted_at kind arg) gone ms
Free pend gone (Left r ∷ ms) = Free [] (pend ++ gone) ms

-- ---- processes

Reached : RunConfig → (Wanted → Answer → Type 0) → List ℕ → Process → List Meeting → Process → Type 0
Reached n F gone p ms q = Ok n q × ((c : ℕ) × Paced n F gone (slice p) ms c (slice q) × (p.spent + c ≤ q.spent))

less_by : (a b c e : ℕ) → a ≤ b → b + c ≤ e → a + c ≤ e
less_by a b c e x y = omega (arith, x, y)

tick_sum : (a b c e : ℕ) → b ≡ a + 1 → b + c ≤ e → a + (c + 1) ≤ e
tick_sum a b c e x y = omega (arith, x, y)

timed_sum : (timed : Bool) (a b c e : ℕ) → b ≡ spent_by timed a → b + c ≤ e → a + spent_by timed c ≤ e
timed_sum true a b c e x y = tick_sum a b c e x y
timed_sum false a b c e x y = less_by a b c e (omega (arith, x)) y

same_le : (a : ℕ) → a ≤ a
same_le a = omega arith

by_silent : (n : RunConfig) (F : Wanted → Answer → Type 0) (gone : List ℕ) (p q r : Process) (ms : List Meeting)
    → Kinds n p.spent (move_of n (slice p)) (slice p) p.frames (To q)
    → (Ok n q → deleted_by q.wait ≡ deleted_by p.wait → Reached n F gone q ms r) → Reached n F gone p ms r
unfolding Reached
by_silent n F gone p q r ms k go = by k.0
  where
    by : ((slice q ≡ slice p) × (p.spent ≤ q.spent)) ⊎ ((timed : Bool) × (move_of n (slice p) ≡ Silent timed (slice q))
        × (q.spent ≡ spent_by timed p.spent)) → Ok n r × ((c : ℕ) × Paced n F gone (slice p) ms c (slice r) × (p.spent + c ≤ r.spent))
    by (inl z) =
        let h = go k.1 (ap deleted_by (ap (λ (s : State). s.wait) z.0)) in
        (h.0, (h.1.0, subst (λ y. Paced n F gone y ms h.1.0 (slice r)) z.0 h.1.1, less_by p.spent q.spent h.1.0 r.spent z.1 h.1.2))
    by (inr z) =
        let w = rests n (slice p) (Silent z.0 (slice q)) z.1 in
        let h = go k.1 (ap deleted_by (w.1 ∙ sym w.0)) in
        (h.0, (spent_by z.0 h.1.0, silent z.1 h.1.1 (same_le _), timed_sum z.0 p.spent q.spent h.1.0 r.spent z.2 h.1.2))

by_stay : (n : RunConfig) (F : Wanted → Answer → Type 0) (gone : List ℕ) (p q r : Process) (ms : List Meeting) → (slice q ≡ slice p) × Ok n q
    × (p.spent ≤ q.spent) → (Ok n q → deleted_by q.wait ≡ deleted_by p.wait → Reached n F gone q ms r) → Reached n F gone p ms r
unfolding Reached
by_stay n F gone p q r ms k go =
    let h = go k.1 (ap deleted_by (ap (λ (s : State). s.wait) k.0)) in
    (h.0, (h.1.0, subst (λ y. Paced n F gone y ms h.1.0 (slice r)) k.0 h.1.1, less_by p.spent q.spent h.1.0 r.spent k.2 h.1.2))

by_came : (n : RunConfig) (F : Wanted → Answer → Type 0) (gone : List ℕ) (p : Process) (at : Place) (kind : CollKind) (arg : Option ℕ)
    (d : Deposit) (step_to : Answer → Process) (t : Answer) (r : Process) (ms : List Meeting)
    → KindsAt n p.spent (move_of n (slice p)) (slice p) p.frames at (act.Arrive kind arg d) step_to
    → deletes_any gone kind arg ≡ false → (Ok n (step_to t) → deleted_by (step_to t).wait ≡ deleted_at kind arg → Reached n F gone (step_to t) ms r) → Reached n F gone p (Came at kind arg ∷ ms) r
unfolding Reached
by_came n F gone p at kind arg d g t r ms k f go =
    let z = k.4 t in
    let w = rests n (slice p) (Arrival k.0 (slice (g t))) z.0 in
    let h = go z.1 (ap deleted_by w.1 ∙ ap₂ deleted_at k.2 k.3) in
    (h.0, (h.1.0 + 1, came z.0 k.1 k.2 k.3 f h.1.1 (same_le _), tick_sum p.spent (g t).spent h.1.0 r.spent z.2 h.1.2))

by_left : (n : RunConfig) (F : Wanted → Answer → Type 0) (gone pend : List ℕ) (p : Process) (at : Place) (step_to : Answer → Process)
    (t : Answer) (r : Process) (ms : List Meeting) → KindsAt n p.spent (move_of n (slice p)) (slice p) p.frames at act.Depart step_to
    → (asked : Asked) → step p ≡ At (asking at act.Depart asked) step_to → F asked.1 t → pend ≡ deleted_by p.wait
    → (Ok n (step_to t) → deleted_by (step_to t).wait ≡ [] → Reached n F (pend ++ gone) (step_to t) ms r) → Reached n F gone p (Left t ∷ ms) r
unfolding Reached
by_left n F gone pend p at g t r ms k asked x j e go =
    let z = k.3 t in
    let w = rests n (slice p) (Departure k.0 k.1) k.2 in
    let h = go z.1 (ap deleted_by (ap (λ (s : State). s.wait) z.0 ∙ w.1 t)) in
    let fit : F k.0.wanted t = subst (λ y. F y t) (wants p k.0 (asking at act.Depart asked) g w.0 x) j in (
      h.0,
      (
        h.1.0 + 1,
        left k.2 fit (subst (λ y. Paced n F (y ++ gone) (k.1 t) ms h.1.0 (slice r)) e
            (subst (λ y. Paced n F (pend ++ gone) y ms h.1.0 (slice r)) z.0 h.1.1)) (same_le _),
        tick_sum p.spent (g t).spent h.1.0 r.spent z.2 h.1.2,
      ),
    )

no_cost : (a : ℕ) → a + 0 ≤ a
no_cost a = omega arith

ways : (n : RunConfig) (F : Wanted → Answer → Type 0) (gone pend : List ℕ) (p q : Process) (ms : List Meeting) → Ok n p → FitWay F p ms q
    → pend ≡ deleted_by p.wait → Free pend gone ms → Reached n F gone p ms q
unfolding Reached
ways n F gone pend p q ms o way.stop e f = (o, (0, stop, no_cost p.spent))
ways n F gone pend p r ms o (way.silent {q = q} x w) e f = by_silent n F gone p q r ms (kind_of n p (To q) o x) (λ u k. ways n F gone pend q r ms u w (e ∙ sym k) f)
ways n F gone pend p r ms o (way.alone {at = at} {a = a} {wanted = v} {go = go} {answer = t} x y z w) e f =
    by_stay n F gone p (go t) r ms (by_alone n p.spent (move_of n (slice p)) (slice p) p.frames at a go t y z
    (kind_of n p (At (asking at a v) go) o x)) (λ u k. ways n F gone pend (go t) r ms u w (e ∙ sym k) f)
ways n F gone pend p r ms o (way.came {ms = ns} {at = at} {kind = kind} {arg = arg} {given = d} {wanted = v} {go = go} {answer = t} x w) e f =
    by_came n F gone p at kind arg d go t r ns (kind_of n p (At (asking at (act.Arrive kind arg d) v) go) o x) f.0 (λ u k. ways n F gone (deleted_at kind arg) (go t) r ns u w (sym k) f.1)
ways n F gone pend p r ms o (way.left {ms = ns} {at = at} {wanted = v} {go = go} {answer = t} x j w) e f =
    by_left n F gone pend p at go t r ns (kind_of n p (At (asking at act.Depart v) go) o x) v x j e (λ u k. ways n F (pend ++ gone) [] (go t) r ns u w (sym k) f)

pub paced : (n : RunConfig) (F : Wanted → Answer → Type 0) (gone pend : List ℕ) (p q : Process) (ms : List Meeting) → Ok n p → FitWay F p ms q
    → pend ≡ deleted_by p.wait → Free pend gone ms → Ok n q × ((c : ℕ) × Paced n F gone (slice p) ms c (slice q) × (p.spent + c ≤ q.spent))
unfolding Reached
paced n F gone pend p q ms o w e f = ways n F gone pend p q ms o w e f
