-- Proves that the steps of the slice over the trees are those of its specification.
use Rattle.std.proofs.Common.{◌≡◌, ◌∙◌, ap, sym, refl, subst, ◌<◌, true, false, List, [], ◌∷◌, ◌++◌, length, reverse, None, arith}
use Rattle.ti_base.specs.declared.entry.Answer.{Answer}
use Rattle.ti_lang.specs.Program.Classes.{ProgramView}
use Rattle.ti_lang.specs.Meaning.Held.{Held}
use Rattle.ti_lang.specs.Meaning.Processes.{Process, ContItem, Do, End, Receive}
use Rattle.ti_lang.specs.Meaning.Scoping.{Env, env_of}
use Rattle.ti_lang.specs.Meaning.Performing.{exec_item}
use Rattle.ti_lang.specs.Meaning.Moves.{Returns}
use Rattle.ti_lang.specs.Meaning.Steps.{Step, To, step, step_of_result, moves}
use Rattle.ti_align.specs.Slice.{work_acts, is_single_receiver, single_statement, single_performed, slice_works, slice_runs, slice_steps, slice_step}
use Rattle.ti_align.proofs.Lemmas.{if_true, if_false}
use Rattle.ti_eval.specs.declared.frame.Resume.{Resume}
use Rattle.ti_eval.specs.declared.frame.Resume.TheVariants as resume
use Rattle.ti_eval.specs.Frames.{slots_of, work_of}
use Rattle.ti_moves.specs.declared.outcomes.CollectiveCall.{CollectiveCall}
use Rattle.ti_moves.specs.Outcomes.{method_at}
use Rattle.ti_moves.specs.Receiving.{receiver_of}
use Rattle.ti_exec.specs.declared.process.ControlMode.{ControlMode}
use Rattle.ti_exec.specs.declared.process.ControlMode.TheVariants as mode
use Rattle.ti_exec.specs.declared.process.StepOutcome.{StepOutcome}
use Rattle.ti_exec.specs.declared.process.TreeMachine.{TreeMachine}
use Rattle.ti_exec.specs.States.{IsStep, IsStepOutcome, IsAtHand, AtHandIn, IsNormalized, IsWalking, IsReceiving, IsBegun, context_of_call, body_of, env_in, process_of, top_of, below_of, left_in, rest, innermost_stmt, frames_in, wait_in}
use Rattle.ti_exec.specs.Pending.{done_with}
use Rattle.ti_exec.proofs.Lemmas.{waits_at, expects_at, left_here, block_done, walks_at, receives_at, none_left, left_inside}
use Rattle.ti_slice.specs.Mirrors.Step.{IsSliceTurn, Acts, ActsIn}

-- ---- in general

-- a turn, spelled by its step
pub slice_turn_at : (c : ProgramView) (w new : TreeMachine) (s : Step) (t : StepOutcome) → slice_step (process_of c w) ≡ s → IsStep c (process_of c w) s t new → IsSliceTurn c w t new
slice_turn_at c w new s t e h = subst (λ (x : Step). IsStep c (process_of c w) x t new) (sym e) h

-- the same process, spelled in another way
pub same_slice_turn : (c : ProgramView) (old mid new : TreeMachine) (t : StepOutcome) → process_of c mid ≡ process_of c old → IsSliceTurn c mid t new → IsSliceTurn c old t new
same_slice_turn c old mid new t e h = subst (λ (p : Process). IsStep c p (slice_step p) t new) e h

-- the step of the slice where it walks on, with this work left
pub slice_walks_at : (c : ProgramView) (w : TreeMachine) (t : Resume) (ws : List ContItem) → w.mode ≡ mode.Walks t → left_in c w.rank.procs w.top t ≡ ws
    → slice_step (process_of c w) ≡ slice_works (process_of c w) (top_of c w ws) (below_of c w) ws
slice_walks_at c w t ws m e =
    ap (λ (n : ControlMode). slice_steps (process_of c w) (wait_in c w n)) m
    ∙ ap (λ (n : ControlMode). slice_runs (process_of c w) (frames_in c w n)) m
    ∙ ap (λ (xs : List ContItem). slice_works (process_of c w) (top_of c w xs) (below_of c w) xs) e

-- and with a value on its way
slice_receives_at : (c : ProgramView) (w : TreeMachine) (h : Held) → w.mode ≡ mode.Receives h
    → slice_step (process_of c w) ≡ slice_works (process_of c w) (top_of c w
    (Receive (receiver_of (innermost_stmt c w.top)) h ∷ rest c w.rank.procs w.top)) (below_of c w)
    (Receive (receiver_of (innermost_stmt c w.top)) h ∷ rest c w.rank.procs w.top)
slice_receives_at c w h m =
    ap (λ (n : ControlMode). slice_steps (process_of c w) (wait_in c w n)) m
    ∙ ap (λ (n : ControlMode). slice_runs (process_of c w) (frames_in c w n)) m

-- ---- work at hand

-- The first piece of what is left of the innermost statement, and what comes behind it. Of a statement that has begun the slice performs
-- what a process does.
pub record First (c : ProgramView) (w : TreeMachine) (t : Resume) : Type 0 where
  pub work : ContItem
  pub more : List ContItem
  pub is : work_of (context_of_call c w.rank.procs w.top) (innermost_stmt c w.top) t ≡ work ∷ more
  pub begun : IsBegun (mode.Walks t) → (env : Env) (answers : List Answer) → single_performed env work answers ≡ exec_item env work answers

pub first : (c : ProgramView) (w : TreeMachine) (t : Resume) → 0 < length w.top.levels.items → IsAtHand (innermost_stmt c w.top) (length w.top.levels.items) t → First c w t
first c w resume.Here h s = record { work = Do (innermost_stmt c w.top); more = []; is = refl; begun = λ b. absurd b }
first c w resume.Inside h s = absurd (omega (arith, h, s))
first c w (resume.From n) h s = record { work = End (innermost_stmt c w.top); more = []; is = block_done (context_of_call c w.rank.procs w.top) (innermost_stmt c w.top) n s; begun = λ b env answers. refl }
first c w _ h s = record { work = _; more = _; is = refl; begun = λ b env answers. refl }

-- what is left in the innermost call then
first_left : (c : ProgramView) (w : TreeMachine) (t : Resume) (f : First c w t) → 0 < length w.top.levels.items → left_in c w.rank.procs w.top t ≡ f.work ∷ (f.more ++ rest c w.rank.procs w.top)
first_left c w t f h = left_here c w t h ∙ ap (λ (ws : List ContItem). ws ++ rest c w.rank.procs w.top) f.is

-- ---- work with effects

-- the step at it
acting : (c : ProgramView) (w : TreeMachine) (t : Resume) (x : ContItem) (ws : List ContItem) → w.mode ≡ mode.Walks t → left_in c w.rank.procs w.top t
    ≡ x ∷ ws → work_acts c (method_at c w.top.method) ws x ≡ true → w.answers.items ≡ []
    → slice_step (process_of c w)
    ≡ step_of_result (process_of c w) (single_performed (env_of (process_of c w) (top_of c w (x ∷ ws)) ws) x w.answers.items) (moves (process_of c w) (top_of c w (x ∷ ws)) (below_of c w) ws)
acting c w t x ws m e a n =
    slice_walks_at c w t (x ∷ ws) m e
    ∙ if_true (work_acts c (method_at c w.top.method) ws x) _ _ a
    ∙ ap (λ (found : List Answer). step_of_result (process_of c w) (single_performed (env_of (process_of c w) (top_of c w (x ∷ ws)) ws) x found)
    (moves (process_of c w) (top_of c w (x ∷ ws)) (below_of c w) ws)) (sym n)

-- that at a statement
pub stating : (c : ProgramView) (w : TreeMachine) → 0 < length w.top.levels.items → w.mode ≡ mode.Walks resume.Here → ActsIn c w w.mode → w.answers.items ≡ []
    → slice_step (process_of c w)
    ≡ step_of_result (process_of c w) (single_statement (env_in c w) (innermost_stmt c w.top) w.answers.items)
    (moves (process_of c w) (top_of c w (Do (innermost_stmt c w.top) ∷ rest c w.rank.procs w.top)) (below_of c w) (rest c w.rank.procs w.top))
stating c w h m a n =
    let e : left_in c w.rank.procs w.top resume.Here ≡ Do (innermost_stmt c w.top) ∷ rest c w.rank.procs w.top = left_here c w resume.Here h in
    let acts : Acts c w resume.Here = subst (ActsIn c w) m a in
    acting c w resume.Here (Do (innermost_stmt c w.top)) (rest c w.rank.procs w.top) m e (acts _ _ e) n

-- that at what is left of a statement that has begun is the step of a process
begun_step : (c : ProgramView) (w : TreeMachine) (t : Resume) → 0 < length w.top.levels.items → w.mode ≡ mode.Walks t
    → IsAtHand (innermost_stmt c w.top) (length w.top.levels.items) t → IsBegun (mode.Walks t) → Acts c w t → w.answers.items ≡ []
    → slice_step (process_of c w) ≡ step (process_of c w)
begun_step c w t h m s b a n =
    let f : First c w t = first c w t h s in
    let ws : List ContItem = f.more ++ rest c w.rank.procs w.top in
    let e : left_in c w.rank.procs w.top t ≡ f.work ∷ ws = first_left c w t f h in
    acting c w t f.work ws m e (a f.work ws e) n
    ∙ ap (λ got. step_of_result (process_of c w) got (moves (process_of c w) (top_of c w (f.work ∷ ws)) (below_of c w) ws)) (f.begun b (env_of (process_of c w) (top_of c w (f.work ∷ ws)) ws) w.answers.items)
    ∙ sym (walks_at c w t (f.work ∷ ws) m e)

-- and so is its turn
begun_by : (c : ProgramView) (w new : TreeMachine) (r : StepOutcome) (m : ControlMode) → w.mode ≡ m → 0 < length w.top.levels.items → AtHandIn c w.top m
    → IsBegun m → ActsIn c w m → w.answers.items ≡ [] → IsStepOutcome c w r new → IsSliceTurn c w r new
begun_by c w new r (mode.Walks t) m h s b a n i = slice_turn_at c w new _ r (begun_step c w t h m s b a n) i
begun_by c w new r (mode.Receives v) m h s b a n i = absurd b
begun_by c w new r (mode.Waits collective t) m h s b a n i = absurd b
begun_by c w new r (mode.Expects collective) m h s b a n i = absurd b
begun_by c w new r mode.Ended m h s b a n i = absurd b

-- what has not begun is at its beginning
pub begun_unless : (c : ProgramView) (w : TreeMachine) (t : Resume) → 0 < length w.top.levels.items → w.mode ≡ mode.Walks t → IsNormalized c w → (t ≡ resume.Here → ⊥) → IsBegun w.mode
begun_unless c w t h m s n = subst IsBegun (sym m) (by t (subst (AtHandIn c w.top) m s) n)
  where
    by : (t : Resume) → AtHandIn c w.top (mode.Walks t) → (t ≡ resume.Here → ⊥) → IsBegun (mode.Walks t)
    by resume.Here s n = n refl
    by resume.Inside s n = absurd (omega (arith, h, s))
    by (resume.From k) s n = tt
    by resume.Ending s n = tt
    by resume.Before s n = tt
    by resume.Behind s n = tt
    by (resume.Each variable domain last) s n = tt
    by (resume.Turn variable domain at) s n = tt
    by (resume.Copying copy last) s n = tt
    by (resume.Taking grid next) s n = tt

pub begun_turn : (c : ProgramView) (w new : TreeMachine) (r : StepOutcome) → 0 < length w.top.levels.items → IsNormalized c w → IsBegun w.mode
    → ActsIn c w w.mode → w.answers.items ≡ [] → IsStepOutcome c w r new → IsSliceTurn c w r new
begun_turn c w new r h s b a n i = begun_by c w new r w.mode refl h s b a n i

-- ---- work without effects

-- it is left out
pub passing : (c : ProgramView) (w new : TreeMachine) (t left : Resume) (x : ContItem) → 0 < length w.top.levels.items → w.mode ≡ mode.Walks t
    → ((ws : List ContItem) → left_in c w.rank.procs w.top t ≡ x ∷ ws → work_acts c (method_at c w.top.method) ws x ≡ false)
    → work_of (context_of_call c w.rank.procs w.top) (innermost_stmt c w.top) t ≡ x ∷ work_of (context_of_call c w.rank.procs w.top) (innermost_stmt c w.top) left
    → process_of c new ≡ done_with c w (slots_of w.top.variables.slots.items) (left_in c w.rank.procs w.top left) → slice_step (process_of c w) ≡ To (process_of c new)
passing c w new t left x h m a l d =
    let ws : List ContItem = left_in c w.rank.procs w.top left in
    let e : left_in c w.rank.procs w.top t ≡ x ∷ ws =
    left_here c w t h ∙ ap (λ (us : List ContItem). us ++ rest c w.rank.procs w.top) l ∙ ap (λ (us : List ContItem). x ∷ us) (sym (left_here c w left h)) in
    slice_walks_at c w t (x ∷ ws) m e ∙ if_false (work_acts c (method_at c w.top.method) ws x) _ _ (a ws e) ∙ ap To (sym d)

-- ---- the end of a method

ends_by : (c : ProgramView) (w new : TreeMachine) (t : StepOutcome) (m : ControlMode) → w.mode ≡ m → IsWalking m → length w.top.levels.items ≡ 0 → AtHandIn c w.top m
    → IsStep c (process_of c w) (moves (process_of c w) (top_of c w []) (below_of c w) [] (Returns None)) t new → IsSliceTurn c w t new
ends_by c w new t (mode.Walks d) m i e s h =
    slice_turn_at c w new _ t (slice_walks_at c w d [] m (none_left (context_of_call c w.rank.procs w.top) (body_of c w.top) w.top.levels.items d e s)) h
ends_by c w new t (mode.Receives v) m i e s h = absurd i
ends_by c w new t (mode.Waits collective d) m i e s h = absurd i
ends_by c w new t (mode.Expects collective) m i e s h = absurd i
ends_by c w new t mode.Ended m i e s h = absurd i

pub slice_ends_at : (c : ProgramView) (w new : TreeMachine) (t : StepOutcome) → IsWalking w.mode → length w.top.levels.items ≡ 0 → IsNormalized c w
    → IsStep c (process_of c w) (moves (process_of c w) (top_of c w []) (below_of c w) [] (Returns None)) t new → IsSliceTurn c w t new
slice_ends_at c w new t i e s h = ends_by c w new t w.mode refl i e s h

-- ---- values on their way

-- to a single variable
taken_by : (c : ProgramView) (w new : TreeMachine) (r : StepOutcome) (m : ControlMode) → w.mode ≡ m → IsReceiving m
    → is_single_receiver (receiver_of (innermost_stmt c w.top)) ≡ true → w.answers.items ≡ [] → IsStepOutcome c w r new → IsSliceTurn c w r new
taken_by c w new r (mode.Receives v) m i a n h =
    let x : ContItem = Receive (receiver_of (innermost_stmt c w.top)) v in
    let ws : List ContItem = rest c w.rank.procs w.top in
    slice_turn_at c w new _ r
    (slice_receives_at c w v m
    ∙ if_true (is_single_receiver (receiver_of (innermost_stmt c w.top))) _ _ a
    ∙ ap (λ (found : List Answer). step_of_result (process_of c w) (exec_item (env_of (process_of c w) (top_of c w (x ∷ ws)) ws) x found)
    (moves (process_of c w) (top_of c w (x ∷ ws)) (below_of c w) ws)) (sym n)
    ∙ sym (receives_at c w v m))
    h
taken_by c w new r (mode.Walks t) m i a n h = absurd i
taken_by c w new r (mode.Waits collective d) m i a n h = absurd i
taken_by c w new r (mode.Expects collective) m i a n h = absurd i
taken_by c w new r mode.Ended m i a n h = absurd i

pub taken : (c : ProgramView) (w new : TreeMachine) (r : StepOutcome) → IsReceiving w.mode → is_single_receiver (receiver_of (innermost_stmt c w.top)) ≡ true
    → w.answers.items ≡ [] → IsStepOutcome c w r new → IsSliceTurn c w r new
taken c w new r i a n h = taken_by c w new r w.mode refl i a n h

-- to none
dropped_by : (c : ProgramView) (w new : TreeMachine) (m : ControlMode) → w.mode ≡ m → IsReceiving m → is_single_receiver (receiver_of (innermost_stmt c w.top)) ≡ false
    → process_of c new ≡ done_with c w (slots_of w.top.variables.slots.items) (left_in c w.rank.procs w.top resume.Inside) → slice_step (process_of c w) ≡ To (process_of c new)
dropped_by c w new (mode.Receives v) m i a d =
    slice_receives_at c w v m
    ∙ if_false (is_single_receiver (receiver_of (innermost_stmt c w.top))) _ _ a
    ∙ ap (λ (us : List ContItem). To (done_with c w (slots_of w.top.variables.slots.items) us)) (sym (left_inside (context_of_call c w.rank.procs w.top) (body_of c w.top) (reverse w.top.levels.items)))
    ∙ ap To (sym d)
dropped_by c w new (mode.Walks t) m i a d = absurd i
dropped_by c w new (mode.Waits collective t) m i a d = absurd i
dropped_by c w new (mode.Expects collective) m i a d = absurd i
dropped_by c w new mode.Ended m i a d = absurd i

pub dropped : (c : ProgramView) (w new : TreeMachine) → IsReceiving w.mode → is_single_receiver (receiver_of (innermost_stmt c w.top)) ≡ false
    → process_of c new ≡ done_with c w (slots_of w.top.variables.slots.items) (left_in c w.rank.procs w.top resume.Inside) → slice_step (process_of c w) ≡ To (process_of c new)
dropped c w new i a d = dropped_by c w new w.mode refl i a d

-- ---- where it waits, or has ended

-- it leaves a collective as a process does
pub waits_alike : (c : ProgramView) (w : TreeMachine) (m : CollectiveCall) (t : Resume) → w.mode ≡ mode.Waits m t → slice_step (process_of c w) ≡ step (process_of c w)
waits_alike c w m t e = ap (λ (n : ControlMode). slice_steps (process_of c w) (wait_in c w n)) e ∙ sym (waits_at c w m t e)

pub expects_alike : (c : ProgramView) (w : TreeMachine) (m : CollectiveCall) → w.mode ≡ mode.Expects m → slice_step (process_of c w) ≡ step (process_of c w)
expects_alike c w m e = ap (λ (n : ControlMode). slice_steps (process_of c w) (wait_in c w n)) e ∙ sym (expects_at c w m e)
