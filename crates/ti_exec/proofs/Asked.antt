-- Proves that the actions that the code requests are those of the semantics.
use Rattle.std.proofs.Common.{◌≡◌, ◌∙◌, ap, sym, refl, subst, ◌<◌, ◌≤◌, List, [], Option, None, Some}
use Rattle.std.proofs.lemmas.Bool.{lt-ltb, le-ltb}
use Rattle.std.specs.declared.alloc.Global.{Global}
use Rattle.std.specs.declared.boxed.Box.{Box}
use Rattle.ti_base.specs.declared.place.Place.{Place}
use Rattle.ti_base.specs.declared.action.Action.{Action}
use Rattle.ti_base.specs.declared.fault.FaultKind.TheVariants.{Fuel}
use Rattle.ti_base.specs.declared.entry.Answer.{Answer}
use Rattle.ti_lang.specs.Program.Classes.{ProgramView}
use Rattle.ti_lang.specs.Meaning.Comp.{Request, ToBeDone, CompResult, Gives, Asks, Fails, told as value_told}
use Rattle.ti_lang.specs.Meaning.Moves.{Move}
use Rattle.ti_lang.specs.Meaning.Processes.{Process, Frame, Wait, Nowhere}
use Rattle.ti_lang.specs.Meaning.Steps.{Step, step, steps, spends, asks, add_answer, step_of_result, departs, deliver}
use Rattle.ti_eval.specs.declared.frame.Resume.{Resume}
use Rattle.ti_eval.specs.Comes.{asked_in}
use Rattle.ti_moves.specs.declared.outcomes.CollectiveCall.{CollectiveCall}
use Rattle.ti_moves.specs.Outcomes.{wait_of, expected_wait}
use Rattle.ti_moves.specs.Receiving.{receiver_of}
use Rattle.ti_exec.specs.declared.process.PendingRequest.{PendingRequest}
use Rattle.ti_exec.specs.declared.process.ControlMode.{ControlMode}
use Rattle.ti_exec.specs.declared.process.ControlMode.TheVariants as mode
use Rattle.ti_exec.specs.declared.process.TreeMachine.{TreeMachine}
use Rattle.ti_exec.specs.declared.process.OnAnswer.TheVariants as pend
use Rattle.ti_exec.specs.declared.process.StepOutcome.{StepOutcome}
use Rattle.ti_exec.specs.declared.process.StepOutcome.TheVariants as turn
use Rattle.ti_exec.specs.States.{IsStep, process_of, process_in_mode, frames_in, wait_in, mode_after_answer, env_in, innermost_stmt, after_answer}

-- the process stands at the action where a tick is left
pub asks_there : (c : ProgramView) (w : TreeMachine) (q : Request) (go : Answer → Process) (b : Box PendingRequest Global) → w.spent < w.fuel
    → q.place ≡ b.value.place → q.action ≡ b.value.action → ((r : Answer) → spends (go r) ≡ after_answer c w b.value.on_answer r) → IsStep c (process_of c w) (asks (process_of c w) q go) (turn.Request b) w
asks_there c w q go b h p e g =
    (refl, record { request = q; go = λ r. spends (go r); is = rw (lt-ltb w.spent w.fuel h) refl; shows = rw (lt-ltb w.spent w.fuel h, p, e) refl; goes = g })

-- and fails where none is
pub asks_none : (c : ProgramView) (w : TreeMachine) (q : Request) (go : Answer → Process) (at : Place) → w.fuel ≤ w.spent
    → q.place ≡ at → IsStep c (process_of c w) (asks (process_of c w) q go) (turn.Fault Fuel at) w
asks_none c w q go at h p = (refl, rw (le-ltb w.spent w.fuel h, p) refl)

placed : (x y : Place × Action) → Some x ≡ Some y → (x.0 ≡ y.0) × (x.1 ≡ y.1)
placed x y e =
    let i : x ≡ y = cc in
    (ap (λ (z : Place × Action). z.0) i, ap (λ (z : Place × Action). z.1) i)

-- a computation that asks for an action
pub valued_asks : (c : ProgramView) (w : TreeMachine) (got : CompResult Move) (go : Move → Step) (at : Place) (a : Action) (t : StepOutcome) → asked_in got ≡ Some (at, a)
    → ((q : Request) (make : Answer → Process) → q.place ≡ at → q.action ≡ a → ((r : Answer) → spends (make r) ≡ after_answer c w pend.Append r) → IsStep c (process_of c w) (asks (process_of c w) q make) t w)
    → IsStep c (process_of c w) (step_of_result (process_of c w) got go) t w
valued_asks c w (Gives m rest) go at a t e h = cc
valued_asks c w (Asks q) go at a t e h =
    let p = placed (q.place, q.action) (at, a) e in
    h q (add_answer (process_of c w)) p.0 p.1 (λ r. refl)
valued_asks c w (Fails kind place) go at a t e h = cc

-- a computation that fails
pub valued_fails : (c : ProgramView) (w : TreeMachine) (got : CompResult Move) (go : Move → Step) (kind : _) (at : Place) → got ≡ Fails kind at
    → IsStep c (process_of c w) (step_of_result (process_of c w) got go) (turn.Fault kind at) w
valued_fails c w got go kind at e = (refl, ap (λ g. step_of_result (process_of c w) g go) e)

-- a computation that has its result
pub valued_gives : (c : ProgramView) (p : Process) (got : CompResult Move) (go : Move → Step) (m : Move) (rest : List Answer) (t : StepOutcome) (new : TreeMachine) → got ≡ Gives m rest
    → IsStep c p (go m) t new → IsStep c p (step_of_result p got go) t new
valued_gives c p got go m rest t new e h = subst (λ (g : CompResult Move). IsStep c p (step_of_result p g go) t new) (sym e) h

-- what the answer to an arrival makes of the process
pub arrived : (c : ProgramView) (w : TreeMachine) (m : ControlMode) (frames : List Frame) (wait : Wait) → frames ≡ frames_in c w m → Some wait ≡ wait_in c w m
    → (r : Answer) → spends (record (process_of c w) { frames = frames; wait = Some wait; answers = [] }) ≡ after_answer c w (pend.Arrive m) r
arrived c w m frames wait f e r =
    ap (λ (fs : List Frame). spends (record (process_of c w) { frames = fs; wait = Some wait; answers = [] })) f
    ∙ ap (λ (x : Option Wait). spends (record (process_of c w) { frames = frames_in c w m; wait = x; answers = [] })) e

-- the step of a process that waits at a collective, and what the answer to its departure makes of it
pub waits_at : (c : ProgramView) (w : TreeMachine) (m : CollectiveCall) (t : Resume) → w.mode ≡ mode.Waits m t → step (process_of c w) ≡ departs (process_of c w) (wait_of m ToBeDone Nowhere)
waits_at c w m t e = ap (λ (n : ControlMode). steps (process_of c w) (wait_in c w n)) e

pub left_behind : (c : ProgramView) (w : TreeMachine) (m : CollectiveCall) (t : Resume) → w.mode ≡ mode.Waits m t → (r : Answer)
    → spends (record (process_of c w) { frames = frames_in c w w.mode; wait = None; answers = [] }) ≡ after_answer c w pend.Depart r
left_behind c w m t e r =
    ap (λ (n : ControlMode). spends (record (process_of c w) { frames = frames_in c w n; wait = None; answers = [] })) e
    ∙ sym (ap (λ (n : ControlMode). spends (process_in_mode c w (mode_after_answer n r) [])) e)

pub expects_at : (c : ProgramView) (w : TreeMachine) (m : CollectiveCall) → w.mode ≡ mode.Expects m → step (process_of c w) ≡ departs (process_of c w) (expected_wait (env_in c w) (innermost_stmt c w.top) m)
expects_at c w m e = ap (λ (n : ControlMode). steps (process_of c w) (wait_in c w n)) e

pub handed_on : (c : ProgramView) (w : TreeMachine) (m : CollectiveCall) → w.mode ≡ mode.Expects m → (r : Answer)
    → spends (record (process_of c w) { frames = deliver (receiver_of (innermost_stmt c w.top)) (Some (value_told r)) (frames_in c w w.mode); wait = None; answers = [] }) ≡ after_answer c w pend.Depart r
handed_on c w m e r =
    ap (λ (n : ControlMode). spends (record (process_of c w) { frames = deliver (receiver_of (innermost_stmt c w.top)) (Some (value_told r)) (frames_in c w n); wait = None; answers = [] })) e
    ∙ sym (ap (λ (n : ControlMode). spends (process_in_mode c w (mode_after_answer n r) [])) e)

pub ruleset asked = (asks_there, asks_none)
