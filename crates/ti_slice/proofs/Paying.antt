-- Proves that an action of the slice costs a tick, so that one is left when it is requested.
use Rattle.std.proofs.Common.{◌≡◌, nat_lt, Bool, true, false, if◌then◌else◌, List, [], ◌∷◌, ◌++◌, length, Option, Some, None, refl, subst}
use Rattle.ti_base.specs.declared.place.Place.{Place}
use Rattle.ti_base.specs.declared.fault.FaultKind.TheVariants.{Fuel, Depth}
use Rattle.ti_base.specs.declared.entry.Answer.{Answer}
use Rattle.ti_lang.specs.Meaning.Comp.{Request, CompResult, Gives, Asks, Fails}
use Rattle.ti_lang.specs.Meaning.Processes.{ContItem, Frame, frame_of, Wait, Process}
use Rattle.ti_lang.specs.Meaning.Scoping.{env_of}
use Rattle.ti_lang.specs.Meaning.Moves.{Move, Goes, Turns, Breaks, Continues, Calls, Returns, Meets, Deletes}
use Rattle.ti_lang.specs.Meaning.Steps.{Step, To, At, Faults, ticks, asks, spends, with_continuation, enter_call, step_of_result, moves, most_frames}
use Rattle.ti_align.specs.Slice.{work_acts, single_performed, slice_works, slice_runs, slice_steps, slice_step}

-- a step at an action is taken where a tick is left
abbrev Paid : Process → Step → Type 0
Paid p (At request go) = nat_lt p.spent p.setting.fuel ≡ true
Paid p st = Unit {0}

ticks_paid : (p : Process) (at : Place) (after : Step) → (nat_lt p.spent p.setting.fuel ≡ true → Paid p after) → Paid p (ticks p at after)
ticks_paid p at after h = by (nat_lt p.spent p.setting.fuel) h
  where
    by : (b : Bool) → (b ≡ true → Paid p after) → Paid p (if b then after else Faults Fuel at)
    by true h = h refl
    by false h = tt

asks_paid : (p : Process) (request : Request) (go : Answer → Process) → Paid p (asks p request go)
asks_paid p request go = ticks_paid p request.place (At request (λ r. spends (go r))) (λ e. e)

enters_paid : (p : Process) (b : Bool) (q : Process) (at : Place) → Paid p (if b then To q else Faults Depth at)
enters_paid p true q at = tt
enters_paid p false q at = tt

moves_paid : (p : Process) (f : Frame) (fs : List Frame) (left : List ContItem) (m : Move) → Paid p (moves p f fs left m)
moves_paid p f fs left (Goes variables works) = tt
moves_paid p f fs left (Turns at variables works) = ticks_paid p at (To (spends (with_continuation p f fs variables (works ++ left)))) (λ e. tt)
moves_paid p f fs left Breaks = tt
moves_paid p f fs left Continues = tt
moves_paid p f fs left (Calls at method this parameters receiver) =
    ticks_paid p at (if nat_lt (length (f ∷ fs)) most_frames then To (spends (enter_call p f fs left (frame_of method this parameters receiver))) else Faults Depth at)
    (λ e. enters_paid p (nat_lt (length (f ∷ fs)) most_frames) (spends (enter_call p f fs left (frame_of method this parameters receiver))) at)
moves_paid p f fs left (Returns value) = tt
moves_paid p f fs left (Meets wait given behind) = asks_paid p _ _
moves_paid p f fs left (Deletes at region) = asks_paid p _ _

valued_paid : (p : Process) (got : CompResult Move) (go : Move → Step) → ((m : Move) → Paid p (go m)) → Paid p (step_of_result p got go)
valued_paid p (Gives m rest) go h = h m
valued_paid p (Asks request) go h = asks_paid p request _
valued_paid p (Fails kind at) go h = tt

works_paid : (p : Process) (f : Frame) (fs : List Frame) (ws : List ContItem) → Paid p (slice_works p f fs ws)
works_paid p f fs [] = tt
works_paid p f fs (w ∷ left) = by (work_acts p.setting.program f.method left w)
  where
    by : (b : Bool) → Paid p (if b then step_of_result p (single_performed (env_of p f left) w []) (moves p f fs left) else To (with_continuation p f fs f.variables left))
    by true = valued_paid p (single_performed (env_of p f left) w []) (moves p f fs left) (moves_paid p f fs left)
    by false = tt

runs_paid : (p : Process) (fs : List Frame) → Paid p (slice_runs p fs)
runs_paid p [] = tt
runs_paid p (f ∷ fs) = works_paid p f fs f.left

steps_paid : (p : Process) (w : Option Wait) → Paid p (slice_steps p w)
steps_paid p None = runs_paid p p.frames
steps_paid p (Some w) = asks_paid p _ _

pub paid : (p : Process) (request : Request) (go : Answer → Process) → slice_step p ≡ At request go → nat_lt p.spent p.setting.fuel ≡ true
paid p request go e = subst (Paid p) e (steps_paid p p.wait)
