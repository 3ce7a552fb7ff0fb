-- Each answer costs a process a tick at least, and no step gives a tick back.
use Rattle.std.proofs.Common.{◌≡◌, ◌+◌, ◌<◌, ◌≤◌, nat_lt, length, Bool, true, false, if◌then◌else◌, Option, Some, None, List, [], ◌∷◌, refl, subst, arith}
use Rattle.ti_base.specs.declared.place.Place.{Place}
use Rattle.ti_base.specs.declared.fault.FaultKind.{FaultKind}
use Rattle.ti_base.specs.declared.fault.FaultKind.TheVariants.{Fuel}
use Rattle.ti_base.specs.declared.entry.Answer.{Answer}
use Rattle.ti_lang.specs.Meaning.Comp.{Request, CompResult, Gives, Asks, Fails}
use Rattle.ti_lang.specs.Meaning.Processes.{ContItem, Frame, Wait, Process}
use Rattle.ti_lang.specs.Meaning.Scoping.{env_of}
use Rattle.ti_lang.specs.Meaning.Moves.{Move, Goes, Turns, Breaks, Continues, Calls, Returns, Meets, Deletes}
use Rattle.ti_lang.specs.Meaning.Performing.{exec_item}
use Rattle.ti_lang.specs.Meaning.Jumps.{has_mark}
use Rattle.ti_lang.specs.Meaning.Steps.{Step, To, At, Ends, Faults, ticks, asks, add_answer, most_frames, step_of_result, moves, works, runs, steps, step}
use Rattle.ti_lang.specs.Meaning.NextStep.{Reaches, here, later, After, none, more}

-- behind the step the process has spent no less, and behind an answer more
abbrev pub Pays : Process → Step → Type 0
Pays p (To q) = p.spent ≤ q.spent
Pays p (At request go) = (r : Answer) → p.spent < (go r).spent
Pays p (Ends at) = Unit {0}
Pays p (Faults kind at) = Unit {0}

either_pays : (p : Process) (test : Bool) (x : Step) (kind : FaultKind) (at : Place) → Pays p x → Pays p (if test then x else Faults kind at)
either_pays p true x kind at h = h
either_pays p false x kind at h = tt

ticks_pay : (p : Process) (at : Place) (after : Step) → Pays p after → Pays p (ticks p at after)
ticks_pay p at after h = either_pays p (nat_lt p.spent p.setting.fuel) after Fuel at h

asks_pay : (p : Process) (request : Request) (go : Answer → Process) → ((r : Answer) → (go r).spent ≡ p.spent) → Pays p (asks p request go)
asks_pay p request go h = ticks_pay p request.place _ (λ r. omega (arith, h r))

jump_pays : (p : Process) (test : Bool) (x y : Process) → p.spent ≤ x.spent → p.spent ≤ y.spent → p.spent ≤ (if test then x else y).spent
jump_pays p true x y h g = h
jump_pays p false x y h g = g

moves_pay : (p : Process) (f : Frame) (fs : List Frame) (left : List ContItem) (move : Move) → Pays p (moves p f fs left move)
moves_pay p f fs left (Goes variables new) = omega arith
moves_pay p f fs left (Turns at variables new) = ticks_pay p at _ (omega arith)
moves_pay p f fs left Breaks = jump_pays p (has_mark left) _ _ (omega arith) (omega arith)
moves_pay p f fs left Continues = jump_pays p (has_mark left) _ _ (omega arith) (omega arith)
moves_pay p f fs left (Calls at method this parameters receiver) = ticks_pay p at _ (either_pays p (nat_lt (length (f ∷ fs)) most_frames) _ _ at (omega arith))
moves_pay p f fs left (Returns value) = omega arith
moves_pay p f fs left (Meets wait given behind) = asks_pay p _ _ (λ r. refl)
moves_pay p f fs left (Deletes at region) = asks_pay p _ _ (λ r. refl)

works_pay : (p : Process) (f : Frame) (fs : List Frame) (ws : List ContItem) → Pays p (works p f fs ws)
works_pay p f fs [] = moves_pay p f fs [] (Returns None)
works_pay p f fs (x ∷ left) = by_got (exec_item (env_of p f left) x p.answers)
  where
    by_got : (got : CompResult Move) → Pays p (step_of_result p got (moves p f fs left))
    by_got (Gives move rest) = moves_pay p f fs left move
    by_got (Asks request) = asks_pay p request (add_answer p) (λ r. refl)
    by_got (Fails kind at) = tt

runs_pay : (p : Process) (fs : List Frame) → Pays p (runs p fs)
runs_pay p [] = tt
runs_pay p (f ∷ fs) = works_pay p f fs f.left

steps_pay : (p : Process) (wait : Option Wait) → Pays p (steps p wait)
steps_pay p None = runs_pay p p.frames
steps_pay p (Some x) = asks_pay p _ _ (λ r. refl)

pub step_pays : (p : Process) → Pays p (step p)
step_pays p = steps_pay p p.wait

reach_pays : (p q : Process) → Reaches p q → p.spent ≤ q.spent
reach_pays p q here = omega arith
reach_pays p q (later {q = r} e x) = omega (arith, subst (Pays p) e (step_pays p), reach_pays r q x)

pub after_pays : (p q : Process) (rs : List Answer) → After p rs q → p.spent + length rs ≤ q.spent
after_pays p q [] none = omega arith
after_pays p q (r ∷ rs) (more {q = x} {go = go} a b c) = omega (arith, reach_pays p x a, (subst (Pays x) b (step_pays x)) r, after_pays (go r) q rs c)
