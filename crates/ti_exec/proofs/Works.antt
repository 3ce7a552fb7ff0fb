-- Proves which step a process takes, and what is pending in its frames.
use Rattle.std.proofs.Common.{◌≡◌, ◌∙◌, ap, sym, refl, subst, ◌<◌, ◌≤◌, ℕ, suc, ◌+◌, true, false, List, [], ◌∷◌, ◌++◌, map, length, reverse, Option, None, Result, Ok, Err, IfOk, arith}
use Rattle.std.proofs.Math.Dec.{ltb}
use Rattle.std.proofs.lemmas.Bool.{lt-ltb, le-ltb}
use Rattle.std.proofs.lemmas.List.{reverse-append, length-reverse, append-nil}
use Rattle.std.proofs.Common.{drop_of_length-le}
use Rattle.ti_base.specs.declared.memory.Memory.{Memory}
use Rattle.ti_base.specs.declared.place.Place.{Place}
use Rattle.ti_base.specs.declared.value.Id.{Id}
use Rattle.ti_base.specs.declared.fault.FaultKind.TheVariants.{Depth}
use Rattle.ti_lang.specs.Program.Statements.{NumberedStms, Nil, Cons}
use Rattle.ti_lang.specs.Program.Classes.{NumberedMethod, ProgramView}
use Rattle.ti_lang.specs.Meaning.Held.{Held}
use Rattle.ti_lang.specs.Meaning.Moves.{Calls, Returns}
use Rattle.ti_lang.specs.Meaning.Processes.{Process, Variable, Receiver, ContItem, Do, Receive, all_before, frame_of as entered}
use Rattle.ti_lang.specs.Meaning.Steps.{Step, To, Faults, step, steps, runs, works, moves, spends, enter_call}
use Rattle.ti_eval.specs.declared.frame.Slot.{Slot}
use Rattle.ti_eval.specs.declared.frame.Resume.{Resume}
use Rattle.ti_eval.specs.declared.frame.Resume.TheVariants as resume
use Rattle.ti_eval.specs.declared.frame.StmtFrame.{StmtFrame}
use Rattle.ti_eval.specs.Frames.{MethodContext, slots_of, work_of, work_of_body, pending_of, rest_of}
use Rattle.ti_eval.specs.Places.{inside, child_of, list_of}
use Rattle.ti_moves.specs.declared.outcomes.StmtOutcome as moves
use Rattle.ti_moves.specs.Outcomes.{method_at, move_after}
use Rattle.ti_moves.specs.Receiving.{receiver_of}
use Rattle.ti_exec.specs.declared.process.CallStack.{CallStack}
use Rattle.ti_exec.specs.declared.process.CallFrame.{CallFrame}
use Rattle.ti_exec.specs.declared.process.ControlMode.{ControlMode}
use Rattle.ti_exec.specs.declared.process.ControlMode.TheVariants as mode
use Rattle.ti_exec.specs.declared.process.StepOutcome.{StepOutcome}
use Rattle.ti_exec.specs.declared.process.TreeMachine.{TreeMachine}
use Rattle.ti_exec.specs.States.{IsStep, IsStepOutcome, IsApplied, IsAtHand, AtHandIn, IsNormalized, IsWalking, context_of_call, body_of, env_in, process_of, process_in_mode, top_of, below_of, left_in, rest, innermost_stmt, frames_below, frames_in, wait_in}

-- ---- what is left

pub left_inside : (site : MethodContext) (body : NumberedStms) (ls : List StmtFrame) → pending_of site body ls resume.Inside ≡ rest_of site body ls
left_inside site body [] = refl
left_inside site body (l ∷ ls) = refl

within : (site : MethodContext) (body : NumberedStms) (ls : List StmtFrame) (t : Resume) → 0 < length ls → pending_of site body ls t ≡ work_of site (inside body ls) t ++ rest_of site body ls
within site body [] t h = absurd (omega arith)
within site body (l ∷ ls) t h = refl

-- inside a statement of the body
pub left_within : (site : MethodContext) (body : NumberedStms) (xs : List StmtFrame) (t : Resume) → 0 < length xs → pending_of site body (reverse xs) t
    ≡ work_of site (inside body (reverse xs)) t ++ rest_of site body (reverse xs)
left_within site body xs t h = within site body (reverse xs) t (rw (length-reverse xs) h)

-- a part is entered
pub left_entered : (site : MethodContext) (body : NumberedStms) (xs : List StmtFrame) (l : StmtFrame) (t : Resume)
    → pending_of site body (reverse (xs ++ l ∷ [])) t ≡ work_of site (child_of (inside body (reverse xs)) l.inner) t ++ pending_of site body (reverse xs) l.resume
left_entered site body xs l t = rw reverse-append refl

before_list : (b : NumberedStms) (left : List ContItem) → all_before b left ≡ map Do (list_of b) ++ left
before_list Nil left = refl
before_list (Cons x rest) left = ap (λ ws. Do x ∷ ws) (before_list rest left)

-- all of the body of a method
pub all_left : (b : NumberedStms) → all_before b [] ≡ map Do (list_of b)
all_left b = before_list b [] ∙ append-nil (map Do (list_of b))

none_of_body : (body : NumberedStms) (t : Resume) → IsAtHand (inside body []) 0 t → work_of_body body t ≡ []
none_of_body body (resume.From n) h = ap (map Do) (drop_of_length-le (list_of body) h)
none_of_body body _ h = refl

-- the body of a method is done
pub none_left : (site : MethodContext) (body : NumberedStms) (xs : List StmtFrame) (t : Resume) → length xs ≡ 0 → IsAtHand (inside body (reverse xs)) (length xs) t → pending_of site body (reverse xs) t ≡ []
none_left site body [] t e h = none_of_body body t h
none_left site body (x ∷ xs) t e h = absurd (omega arith)

-- ---- steps

-- the step of a process that walks on, with this work left
pub walks_at : (c : ProgramView) (w : TreeMachine) (t : Resume) (ws : List ContItem) → w.mode ≡ mode.Walks t → left_in c w.rank.procs w.top t ≡ ws
    → step (process_of c w) ≡ works (process_of c w) (top_of c w ws) (below_of c w) ws
walks_at c w t ws m e =
    ap (λ (n : ControlMode). steps (process_of c w) (wait_in c w n)) m
    ∙ ap (λ (n : ControlMode). runs (process_of c w) (frames_in c w n)) m
    ∙ ap (λ (xs : List ContItem). works (process_of c w) (top_of c w xs) (below_of c w) xs) e

-- the step of a process with a value on its way
pub receives_at : (c : ProgramView) (w : TreeMachine) (h : Held) → w.mode ≡ mode.Receives h
    → step (process_of c w) ≡ works (process_of c w) (top_of c w (Receive (receiver_of (innermost_stmt c w.top)) h ∷ rest c w.rank.procs w.top))
    (below_of c w) (Receive (receiver_of (innermost_stmt c w.top)) h ∷ rest c w.rank.procs w.top)
receives_at c w h m =
    ap (λ (n : ControlMode). steps (process_of c w) (wait_in c w n)) m
    ∙ ap (λ (n : ControlMode). runs (process_of c w) (frames_in c w n)) m

pub turn_at : (c : ProgramView) (w new : TreeMachine) (s : Step) (t : StepOutcome) → step (process_of c w) ≡ s → IsStep c (process_of c w) s t new → IsStepOutcome c w t new
turn_at c w new s t e h = subst (λ (x : Step). IsStep c (process_of c w) x t new) (sym e) h

-- the same process, spelled in another way
pub same_turn : (c : ProgramView) (old mid new : TreeMachine) (t : StepOutcome) → process_of c mid ≡ process_of c old → IsStepOutcome c mid t new → IsStepOutcome c old t new
same_turn c old mid new t e h = subst (λ (p : Process). IsStep c p (step p) t new) e h

-- the end of the body of a method
ends_by : (c : ProgramView) (w new : TreeMachine) (t : StepOutcome) (m : ControlMode) → w.mode ≡ m → IsWalking m → length w.top.levels.items ≡ 0 → AtHandIn c w.top m
    → IsStep c (process_of c w) (moves (process_of c w) (top_of c w []) (below_of c w) [] (Returns None)) t new → IsStepOutcome c w t new
ends_by c w new t (mode.Walks d) m i e s h =
    turn_at c w new _ t (walks_at c w d [] m (none_left (context_of_call c w.rank.procs w.top) (body_of c w.top) w.top.levels.items d e s)) h
ends_by c w new t (mode.Receives v) m i e s h = absurd i
ends_by c w new t (mode.Waits collective d) m i e s h = absurd i
ends_by c w new t (mode.Expects collective) m i e s h = absurd i
ends_by c w new t mode.Ended m i e s h = absurd i

pub ends_at : (c : ProgramView) (w new : TreeMachine) (t : StepOutcome) → IsWalking w.mode → length w.top.levels.items ≡ 0 → IsNormalized c w
    → IsStep c (process_of c w) (moves (process_of c w) (top_of c w []) (below_of c w) [] (Returns None)) t new → IsStepOutcome c w t new
ends_at c w new t i e s h = ends_by c w new t w.mode refl i e s h

-- ---- calls

frames_counted : (c : ProgramView) (procs : ℕ) (fs : List CallFrame) → length (frames_below c procs fs) ≡ length fs
frames_counted c procs [] = refl
frames_counted c procs (f ∷ fs) = ap suc (frames_counted c procs fs)

below_counted : (c : ProgramView) (w : TreeMachine) → length (below_of c w) ≡ length w.callers.calls.items
below_counted c w = frames_counted c w.rank.procs (reverse w.callers.calls.items) ∙ length-reverse w.callers.calls.items

-- a call where there are too many
pub too_deep : (c : ProgramView) (w : TreeMachine) (ws left : List ContItem) (at : Place) (m : NumberedMethod) (this : Option Id) (vs : List Variable) (receiver : Receiver)
    → w.spent < w.fuel → 200 ≤ length w.callers.calls.items + 1 → moves (process_of c w) (top_of c w ws) (below_of c w) left (Calls at m this vs receiver) ≡ Faults Depth at
too_deep c w ws left at m this vs receiver h d =
    let e : ltb (suc (length (below_of c w))) 200 ≡ false = le-ltb _ _ (omega (arith, below_counted c w)) in
    rw (lt-ltb w.spent w.fuel h, e) refl

-- a call where there is room for it
pub deeper : (c : ProgramView) (w : TreeMachine) (ws left : List ContItem) (at : Place) (m : NumberedMethod) (this : Option Id) (vs : List Variable) (receiver : Receiver)
    → w.spent < w.fuel → length w.callers.calls.items + 1 < 200
    → moves (process_of c w) (top_of c w ws) (below_of c w) left (Calls at m this vs receiver)
    ≡ To (spends (enter_call (process_of c w) (top_of c w ws) (below_of c w) left (entered m this vs receiver)))
deeper c w ws left at m this vs receiver h d =
    let e : ltb (suc (length (below_of c w))) 200 ≡ true = lt-ltb _ _ (omega (arith, below_counted c w)) in
    rw (lt-ltb w.spent w.fuel h, e) refl

-- a call has begun
pub begun_at : (c : ProgramView) (w : TreeMachine) (ws : List ContItem) (b : CallStack) (f : CallFrame) (method : ℕ) (this : Option Id) (ps : List Slot) → b.calls.items ≡ w.callers.calls.items ++ w.top ∷ []
    → f.method ≡ method → f.this ≡ this → f.variables.slots.items ≡ ps → f.levels.items ≡ []
    → spends (enter_call (process_of c w) (top_of c w ws) (below_of c w) (rest c w.rank.procs w.top) (entered (method_at c method) this (slots_of ps) (receiver_of (innermost_stmt c w.top))))
    ≡ process_in_mode c (record w { spent = w.spent + 1; callers = b; top = f }) (mode.Walks (resume.From 0)) []
begun_at c w ws b f method this ps below m t v l = rw (below, m, t, v, l, reverse-append, all_left) refl

-- ---- moves

-- a move, spelled in another way
pub moved_as : (c : ProgramView) (old new : TreeMachine) (t : StepOutcome) (m n : moves.StmtOutcome) → m ≡ n
    → IsApplied c old (move_after (env_in c old) (innermost_stmt c old.top) n) t new → IsApplied c old (move_after (env_in c old) (innermost_stmt c old.top) m) t new
moved_as c old new t m n e h = subst (λ (x : moves.StmtOutcome). IsApplied c old (move_after (env_in c old) (innermost_stmt c old.top) x) t new) (sym e) h

-- the same of a result
pub moved_in : (c : ProgramView) (old new : TreeMachine) (r : Result StepOutcome Memory) (m n : moves.StmtOutcome) → m ≡ n
    → IfOk r (λ t. IsApplied c old (move_after (env_in c old) (innermost_stmt c old.top) n) t new) → IfOk r (λ t. IsApplied c old (move_after (env_in c old) (innermost_stmt c old.top) m) t new)
moved_in c old new r m n e h = subst (λ (x : moves.StmtOutcome). IfOk r (λ t. IsApplied c old (move_after (env_in c old) (innermost_stmt c old.top) x) t new)) (sym e) h

-- a step of a result, spelled in another way
pub step_in : (c : ProgramView) (p : Process) (s z : Step) (r : Result StepOutcome Memory) (new : TreeMachine) → s ≡ z → IfOk r (λ t. IsStep c p z t new) → IfOk r (λ t. IsStep c p s t new)
step_in c p s z r new e h = subst (λ (y : Step). IfOk r (λ t. IsStep c p y t new)) (sym e) h

-- a fact of a result that another one follows from
pub of_result : {A E : Type 0} (r : Result A E) (P Q : A → Type 0) → ((a : A) → P a → Q a) → IfOk r P → IfOk r Q
of_result (Ok a) P Q f h = f a h
of_result (Err e) P Q f h = tt

pub ruleset lefts = (left_inside, left_within, left_entered, all_left, reverse-append)
