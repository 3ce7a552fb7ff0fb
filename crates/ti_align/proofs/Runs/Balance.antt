-- A process waits exactly where it has arrived once more often than it has left.
use Rattle.std.proofs.Common.{◌≡◌, ℕ, suc, nat_lt, length, Bool, true, false, if◌then◌else◌, Option, Some, None, List, [], ◌∷◌, ◌+◌, refl, ap, sym, ◌∙◌, subst, arith}
use Rattle.ti_base.specs.declared.place.Place.{Place}
use Rattle.ti_base.specs.declared.fault.FaultKind.TheVariants.{Fuel}
use Rattle.ti_base.specs.declared.action.Action.{Action}
use Rattle.ti_base.specs.declared.action.Action.TheVariants as act
use Rattle.ti_base.specs.declared.entry.Answer.{Answer}
use Rattle.ti_lang.specs.Meaning.Comp.{CompResult, Gives, Asks, Fails}
use Rattle.ti_lang.specs.Meaning.Processes.{RunConfig, ContItem, Frame, Wait, Process, begin}
use Rattle.ti_lang.specs.Meaning.Scoping.{env_of}
use Rattle.ti_lang.specs.Meaning.Moves.{Move, Goes, Turns, Breaks, Continues, Calls, Returns, Meets, Deletes}
use Rattle.ti_lang.specs.Meaning.Performing.{exec_item}
use Rattle.ti_lang.specs.Meaning.Jumps.{has_mark}
use Rattle.ti_lang.specs.Meaning.Steps.{Step, To, At, Ends, Faults, ticks, step_of_result, most_frames, moves, works, runs, steps, step}
use Rattle.ti_lang.specs.Meaning.Histories.{is_arrival, is_departure}
use Rattle.ti_align.proofs.Runs.Ways.{Asked, asking, Meeting, Came, Left, Way, comings, answers_left, waiting}
use Rattle.ti_align.proofs.Runs.Ways as way
use Rattle.ti_align.proofs.Runs.Vars.{true_false}
use Rattle.ti_align.proofs.Alignment.Stepping.{Alone}
use Rattle.ti_align.proofs.Runs.Asks.{work_alone}

-- what an action says of waiting
abbrev WaitsAt : Process → Action → (Answer → Process) → Type 0
WaitsAt p (act.Arrive kind arg given) go = (p.wait ≡ None) × ((r : Answer) → (w : Wait) × ((go r).wait ≡ Some w) × (w.kind ≡ kind) × (w.arg ≡ arg))
WaitsAt p act.Depart go = (w : Wait) × (p.wait ≡ Some w) × ((r : Answer) → (go r).wait ≡ None)
WaitsAt p _ go = (p.wait ≡ None) × ((r : Answer) → (go r).wait ≡ None)

abbrev Waits : Process → Step → Type 0
Waits p (To q) = (p.wait ≡ None) × (q.wait ≡ None)
Waits p (At request go) = WaitsAt p request.action go
Waits p (Ends place) = Unit {0}
Waits p (Faults kind place) = Unit {0}

alone_waits : (p : Process) (a : Action) (go : Answer → Process) → is_arrival a ≡ false → is_departure a ≡ false → p.wait ≡ None → ((r : Answer) → (go r).wait ≡ None) → WaitsAt p a go
alone_waits p (act.Arrive kind arg given) go x y e h = absurd (true_false x)
alone_waits p act.Depart go x y e h = absurd (true_false y)
alone_waits p _ go x y e h = (e, h)

if_waits : (p : Process) (b : Bool) (x y : Step) → Waits p x → Waits p y → Waits p (if b then x else y)
if_waits p true x y f g = f
if_waits p false x y f g = g

ticks_wait : (p : Process) (at : Place) (after : Step) → Waits p after → Waits p (ticks p at after)
ticks_wait p at after h = if_waits p (nat_lt p.spent p.setting.fuel) after (Faults Fuel at) h tt

jump_waits : (p : Process) (b : Bool) (x y : Process) → p.wait ≡ None → x.wait ≡ None → y.wait ≡ None → Waits p (To (if b then x else y))
jump_waits p true x y e f g = (e, f)
jump_waits p false x y e f g = (e, g)

moves_wait : (p : Process) (f : Frame) (fs : List Frame) (left : List ContItem) (mv : Move) → p.wait ≡ None → Waits p (moves p f fs left mv)
moves_wait p f fs left (Goes vs ws) e = (e, refl)
moves_wait p f fs left (Turns at vs ws) e = ticks_wait p at _ (e, refl)
moves_wait p f fs left Breaks e = jump_waits p (has_mark left) _ _ e refl refl
moves_wait p f fs left Continues e = jump_waits p (has_mark left) _ _ e refl refl
moves_wait p f fs left (Calls at c this ps r) e = ticks_wait p at _ (if_waits p (nat_lt (length (f ∷ fs)) most_frames) _ _ (e, refl) tt)
moves_wait p f fs left (Returns v) e = (e, refl)
moves_wait p f fs left (Meets w d b) e = ticks_wait p w.place _ (e, λ r. (w, refl, refl, refl))
moves_wait p f fs left (Deletes at region) e = ticks_wait p at _ (e, λ r. (_, refl, refl, refl))

valued_waits : (p : Process) (g : CompResult Move) (go : Move → Step) → p.wait ≡ None → Alone g → ((mv : Move) → Waits p (go mv)) → Waits p (step_of_result p g go)
valued_waits p (Gives mv rest) go e a h = h mv
valued_waits p (Asks request) go e a h = ticks_wait p request.place _ (alone_waits p request.action _ a.0 a.1 e (λ r. e))
valued_waits p (Fails kind at) go e a h = tt

works_wait : (p : Process) (f : Frame) (fs : List Frame) (ws : List ContItem) → p.wait ≡ None → Waits p (works p f fs ws)
works_wait p f fs [] e = (e, refl)
works_wait p f fs (w ∷ left) e = valued_waits p (exec_item (env_of p f left) w p.answers) (moves p f fs left) e (work_alone (env_of p f left) w p.answers) (λ mv. moves_wait p f fs left mv e)

runs_wait : (p : Process) (fs : List Frame) → p.wait ≡ None → Waits p (runs p fs)
runs_wait p [] e = tt
runs_wait p (f ∷ fs) e = works_wait p f fs f.left e

steps_wait : (p : Process) (w : Option Wait) → p.wait ≡ w → Waits p (steps p w)
steps_wait p None e = runs_wait p p.frames e
steps_wait p (Some w) e = ticks_wait p w.place _ (w, e, λ r. refl)

pub step_waits : (p : Process) (st : Step) → step p ≡ st → Waits p st
step_waits p st e = subst (Waits p) e (steps_wait p p.wait refl)

wait_same : (a b : Option Wait) → a ≡ None → b ≡ None → waiting a ≡ waiting b
wait_same a b x y = ap waiting (x ∙ sym y)

stay_adds : (c l a b r : ℕ) → a ≡ b → c + b ≡ l + r → c + a ≡ l + r
stay_adds c l a b r e h = omega arith

came_adds : (c l a b r : ℕ) → a ≡ 0 → b ≡ 1 → c + b ≡ l + r → suc c + a ≡ l + r
came_adds c l a b r e f h = omega arith

left_adds : (c l a b r : ℕ) → a ≡ 1 → b ≡ 0 → c + b ≡ l + r → c + a ≡ suc l + r
left_adds c l a b r e f h = omega arith

alone_none : (p : Process) (a : Action) (go : Answer → Process) (r : Answer) → is_arrival a ≡ false → is_departure a ≡ false → WaitsAt p a go → (p.wait ≡ None) × ((go r).wait ≡ None)
alone_none p (act.Arrive kind arg given) go r x y h = absurd (true_false x)
alone_none p act.Depart go r x y h = absurd (true_false y)
alone_none p _ go r x y h = (h.0, h.1 r)

-- arrivals and departures on a way
way_balance : (p q : Process) (ms : List Meeting) → Way p ms q → comings ms + waiting p.wait ≡ length (answers_left ms) + waiting q.wait
way_balance p q ms way.stop = refl
way_balance p r ms (way.silent {q = q} e x) =
    let w = step_waits p (To q) e in
    stay_adds (comings ms) (length (answers_left ms)) (waiting p.wait) (waiting q.wait) (waiting r.wait) (wait_same p.wait q.wait w.0 w.1) (way_balance q r ms x)
way_balance p r ms (way.alone {at = at} {a = a} {wanted = v} {go = go} {answer = t} e x y k) =
    let w = alone_none p a go t x y (step_waits p (At (asking at a v) go) e) in
    stay_adds (comings ms) (length (answers_left ms)) (waiting p.wait) (waiting (go t).wait) (waiting r.wait) (wait_same p.wait (go t).wait w.0 w.1) (way_balance (go t) r ms k)
way_balance p r (m ∷ ms) (way.came {at = at} {kind = kind} {arg = arg} {given = d} {wanted = v} {go = go} {answer = t} e k) =
    let w = step_waits p (At (asking at (act.Arrive kind arg d) v) go) e in
    came_adds (comings ms) (length (answers_left ms)) (waiting p.wait) (waiting (go t).wait) (waiting r.wait) (ap waiting w.0) (ap waiting (w.1 t).1) (way_balance (go t) r ms k)
way_balance p r (m ∷ ms) (way.left {at = at} {wanted = v} {go = go} {answer = t} e k) =
    let w = step_waits p (At (asking at act.Depart v) go) e in
    left_adds (comings ms) (length (answers_left ms)) (waiting p.wait) (waiting (go t).wait) (waiting r.wait) (ap waiting w.1) (ap waiting (w.2 t)) (way_balance (go t) r ms k)

plus_zero : (a b : ℕ) → a + 0 ≡ b → a ≡ b
plus_zero a b h = omega arith

pub balanced : (s : RunConfig) (i : ℕ) (p : Process) (ms : List Meeting) → Way (begin s i) ms p → comings ms ≡ length (answers_left ms) + waiting p.wait
balanced s i p ms w = plus_zero _ _ (way_balance (begin s i) p ms w)
