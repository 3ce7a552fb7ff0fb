-- The small-step semantics of a process: what one step does in a configuration.
use Rattle.std.specs.Prelude.{ℕ, ◌+◌, nat_lt, ◌==◌, if◌then◌else◌, Bool, false, List, [], ◌∷◌, ◌++◌, length, count_by, slice_get, Option, None, Some}
use Rattle.std.specs.Option.{option_map_or}
use Rattle.ti_base.specs.declared.place.Place.{Place}
use Rattle.ti_base.specs.declared.value.Id.{Id}
use Rattle.ti_base.specs.declared.fault.FaultKind.{FaultKind}
use Rattle.ti_base.specs.declared.fault.FaultKind.TheVariants.{Depth, Fuel}
use Rattle.ti_base.specs.declared.action.Action.TheVariants as act
use Rattle.ti_base.specs.declared.action.CollKind.TheVariants as coll
use Rattle.ti_base.specs.declared.action.Deposit.{Deposit}
use Rattle.ti_base.specs.declared.action.Deposit.TheVariants as deposit
use Rattle.ti_base.specs.declared.entry.Answer.{Answer}
use Rattle.ti_lang.specs.Program.Classes.{NumberedMethod, ProgramView}
use Rattle.ti_lang.specs.Meaning.Held.{Held, referent_of}
use Rattle.ti_lang.specs.Meaning.Comp.{Wanted, ToBeDone, ValueOf, NewThing, Request, request, CompResult, Gives, Asks, Fails, told}
use Rattle.ti_lang.specs.Meaning.Processes.{Variable, Receiver, Nowhere, ContItem, Receive, Frame, frame_of, Wait, Process}
use Rattle.ti_lang.specs.Meaning.Scoping.{env_of}
use Rattle.ti_lang.specs.Meaning.Moves.{Move, Goes, Turns, Breaks, Continues, Calls, Returns, Meets, Deletes}
use Rattle.ti_lang.specs.Meaning.Performing.{exec_item}
use Rattle.ti_lang.specs.Meaning.Jumps.{has_mark, from_mark, past_mark, variables_at_mark}

-- the outcome of a step: a silent transition to a configuration; an action (the label) with the configuration that each answer
-- leads to; the end of the process; or a fault
pub data Step : Type 0 where
  To : (p : Process) → Step
  At : (request : Request) (go : Answer → Process) → Step
  Ends : (place : Place) → Step
  Faults : (kind : FaultKind) (place : Place) → Step

-- ---- ticks

-- the process after spending one tick
abbrev pub spends : Process → Process
spends p = record p { spent = p.spent + 1 }

-- a step that needs a tick; a fault if the fuel is used up
abbrev pub ticks : Process → Place → Step → Step
ticks p at after = if nat_lt p.spent p.setting.fuel then after else Faults Fuel at

-- an action, which costs a tick
abbrev pub asks : Process → Request → (Answer → Process) → Step
asks p request go = ticks p request.place (At request (λ r. spends (go r)))

-- the process after its current item of work has received one more answer
abbrev pub add_answer : Process → Answer → Process
add_answer p r = record p { answers = p.answers ++ r ∷ [] }

-- the step of an item of work: continues with its move, or performs its request, or faults
abbrev pub step_of_result : Process → CompResult Move → (Move → Step) → Step
step_of_result p (Gives move rest) go = go move
step_of_result p (Asks request) go = asks p request (add_answer p)
step_of_result p (Fails kind at) go = Faults kind at

-- ---- frames

-- the greatest number of frames of a process
abbrev pub most_frames : ℕ
most_frames = 200

-- the innermost frame after its current item: with these variables and this continuation
abbrev pub with_continuation : Process → Frame → List Frame → List Variable → List ContItem → Process
with_continuation p f fs variables left = record p { frames = record f { variables = variables; left = left } ∷ fs; wait = None; answers = [] }

-- hands a value, if there is one, to the innermost frame, whose next work is to store it in the receiver
abbrev pub deliver : Receiver → Option Held → List Frame → List Frame
deliver receiver None fs = fs
deliver receiver (Some h) [] = []
deliver receiver (Some h) (f ∷ fs) = record f { left = Receive receiver h ∷ f.left } ∷ fs

-- a call: the frame of the method on top of the caller's, which has this continuation
abbrev pub enter_call : Process → Frame → List Frame → List ContItem → Frame → Process
enter_call p f fs left new = record p { frames = new ∷ record f { left = left } ∷ fs; wait = None; answers = [] }

-- ---- collectives

-- the object or grid is in the region
abbrev pub lies_in : ℕ → Option Id → Bool
lies_in region None = false
lies_in region (Some id) = id.region == region

-- the number of variables in scope in these frames that refer into the region; `this` counts as one
abbrev pub named_in : ℕ → List Frame → ℕ
named_in region [] = 0
named_in region (f ∷ fs) =
    (count_by (λ (x : Variable). lies_in region (referent_of x.held)) f.variables + (if lies_in region f.this then 1 else 0)) + named_in region
    fs

-- arrives at a collective; the process continues with these frames after its departure
abbrev pub arrives : Process → List Frame → Wait → Deposit → Step
arrives p frames wait given =
    asks p (request wait.place (act.Arrive wait.kind wait.arg given) ToBeDone)
    (λ r. record p { frames = frames; wait = Some wait; answers = [] })

-- the wait at the delete of a region
abbrev pub delete_wait : Place → ℕ → Wait
delete_wait at region = record { place = at; kind = coll.DeleteRegion; arg = Some region; wanted = ToBeDone; receiver = Nowhere }

-- the value of an answer, if one was requested
abbrev pub value_asked : Wanted → Answer → Option Held
value_asked ToBeDone r = None
value_asked (ValueOf type) r = Some (told r)
value_asked (NewThing type) r = Some (told r)

-- departs from a collective; the value of its answer, if one was requested, goes to the receiver
abbrev pub departs : Process → Wait → Step
departs p w = asks p (request w.place act.Depart w.wanted) (λ r. record p {
  frames = deliver w.receiver (value_asked w.wanted r) p.frames;
  wait = None;
  answers = [];
})

-- ---- steps

-- The step for the move of a frame's first item; `left` is the rest of its continuation. A jump outside of all loops does nothing.
abbrev pub moves : Process → Frame → List Frame → List ContItem → Move → Step
moves p f fs left (Goes variables works) = To (with_continuation p f fs variables (works ++ left))
moves p f fs left (Turns at variables works) = ticks p at (To (spends (with_continuation p f fs variables (works ++ left))))
moves p f fs left Breaks =
    To (if has_mark left then with_continuation p f fs (variables_at_mark left f.variables) (past_mark left) else with_continuation p f fs f.variables left)
moves p f fs left Continues =
    To (if has_mark left then with_continuation p f fs (variables_at_mark left f.variables) (from_mark left) else with_continuation p f fs f.variables left)
moves p f fs left (Calls at method this parameters receiver) =
    ticks p at (if nat_lt (length (f ∷ fs)) most_frames
    then To (spends (enter_call p f fs left (frame_of method this parameters receiver)))
    else Faults Depth at)
moves p f fs left (Returns value) = To (record p { frames = deliver f.receiver value fs; wait = None; answers = [] })
moves p f fs left (Meets wait given behind) = arrives p (record f { left = behind ++ left } ∷ fs) wait given
moves p f fs left (Deletes at region) =
    arrives p (record f { left = left } ∷ fs) (delete_wait at region) (deposit.Count (named_in region (f ∷ fs)))

-- the step of a frame with this continuation; at the end of the method it returns
abbrev pub works : Process → Frame → List Frame → List ContItem → Step
works p f fs [] = moves p f fs [] (Returns None)
works p f fs (w ∷ left) = step_of_result p (exec_item (env_of p f left) w p.answers) (moves p f fs left)

-- the position of the closing brace of `main`; zeros if there is no `main`
abbrev pub end_of : ProgramView → Place
end_of program = option_map_or (λ (main : NumberedMethod). main.end) (slice_get program.methods program.main) (record { line = 0; col = 0 })

-- the step of a process that waits at no collective
abbrev pub runs : Process → List Frame → Step
runs p [] = Ends (end_of p.setting.program)
runs p (f ∷ fs) = works p f fs f.left

-- the step of a process, which can only depart if it waits at a collective
abbrev pub steps : Process → Option Wait → Step
steps p None = runs p p.frames
steps p (Some w) = departs p w

-- one step of a process
abbrev pub step : Process → Step
step p = steps p p.wait
