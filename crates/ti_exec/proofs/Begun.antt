-- Proves that the code's steps at pending work are those of the semantics.
use Rattle.std.proofs.Common.{◌≡◌, ◌∙◌, ap, sym, refl, subst, ℕ, suc, ◌+◌, ◌-◌, ◌<◌, ◌≤◌, Bool, true, false, cond, List, [], ◌∷◌, ◌++◌, map, length, reverse, Option, Some, arith, drop_of_length-le}
use Rattle.std.proofs.lemmas.Bool.{lt-ltb, le-ltb}
use Rattle.std.specs.declared.alloc.Global.{Global}
use Rattle.std.specs.declared.boxed.Box.{Box}
use Rattle.ti_base.specs.declared.place.Place.{Place}
use Rattle.ti_base.specs.declared.point.Point.{Point}
use Rattle.ti_base.specs.declared.value.Id.{Id}
use Rattle.ti_base.specs.declared.fault.FaultKind.TheVariants.{Fuel}
use Rattle.ti_base.specs.declared.entry.Answer.{Answer}
use Rattle.ti_lang.specs.Program.Classes.{ProgramView}
use Rattle.ti_lang.specs.Program.Types.{ValueType}
use Rattle.ti_lang.specs.Program.Expressions as e
use Rattle.ti_lang.specs.Program.Expressions.{NumberedExps}
use Rattle.ti_lang.specs.Program.Statements.{NumberedStm}
use Rattle.ti_lang.specs.Program.Statements as s
use Rattle.ti_lang.specs.Meaning.Held.{Held, truth_of}
use Rattle.ti_lang.specs.Meaning.Comp.{CompResult, Gives, Asks, Fails, bind_result, gives, Reference}
use Rattle.ti_lang.specs.Meaning.Copies.{count_up, copied, taken}
use Rattle.ti_lang.specs.Meaning.Moves.{Move, Goes}
use Rattle.ti_lang.specs.Meaning.Performing.{condition, before_turn, declared_in}
use Rattle.ti_lang.specs.Meaning.Processes.{Process, Frame, Variable, ContItem, Do, End, Before, Behind, CopyAll, TakeAll}
use Rattle.ti_lang.specs.Meaning.Scoping.{Env, env_of, without_variables}
use Rattle.ti_lang.specs.Meaning.Statements.{maybe_do}
use Rattle.ti_lang.specs.Meaning.Steps.{Step, To, Faults, step, works, moves, step_of_result, ticks, spends}
use Rattle.ti_eval.specs.declared.interrupt.Interrupt.{Interrupt}
use Rattle.ti_eval.specs.declared.frame.Copy.{Copy}
use Rattle.ti_eval.specs.declared.frame.CanonicalPoint.{CanonicalPoint}
use Rattle.ti_eval.specs.declared.frame.Resume.{Resume}
use Rattle.ti_eval.specs.declared.frame.Resume.TheVariants as resume
use Rattle.ti_eval.specs.declared.frame.ChildIndex.TheVariants as part
use Rattle.ti_eval.specs.Comes.{Stops}
use Rattle.ti_eval.specs.Places.{child_of}
use Rattle.ti_eval.specs.Frames.{MethodContext, slots_of, list_in, work_of, loop_place_of, condition_in, update_in, loop_of, foreach_of, end_of_for, points_above, reference, first_reference, member_place, member_receiver, member_args}
use Rattle.ti_eval.proofs.Lemmas.{then_stops}
use Rattle.ti_exec.specs.declared.process.ControlMode.{ControlMode}
use Rattle.ti_exec.specs.declared.process.ControlMode.TheVariants as mode
use Rattle.ti_exec.specs.declared.process.StepOutcome.{StepOutcome}
use Rattle.ti_exec.specs.declared.process.StepOutcome.TheVariants as turn
use Rattle.ti_exec.specs.declared.process.TreeMachine.{TreeMachine}
use Rattle.ti_exec.specs.States.{IsStep, IsStepOutcome, process_of, process_in_mode, top_of, below_of, context_of_call, body_of, innermost_stmt, left_in, rest, env_in}
use Rattle.ti_exec.specs.Pending.{process_at, IsStepOutcomeAt, done_with, turn_if, step_if, truth_in}
use Rattle.ti_exec.proofs.Works.{left_within, left_inside}

-- ---- in general

-- the variables in scope
abbrev pub vars : TreeMachine → List Variable
vars w = slots_of w.top.variables.slots.items

-- the step at this work, behind which the rest is left
abbrev pub works_there : ProgramView → TreeMachine → Resume → List ContItem → Step
works_there c w t ws = works (process_at c w t) (top_of c w (left_in c w.rank.procs w.top t)) (below_of c w) (ws ++ rest c w.rank.procs w.top)

pub left_here : (c : ProgramView) (w : TreeMachine) (t : Resume) → 0 < length w.top.levels.items
    → left_in c w.rank.procs w.top t ≡ work_of (context_of_call c w.rank.procs w.top) (innermost_stmt c w.top) t ++ rest c w.rank.procs w.top
left_here c w t h = left_within _ _ w.top.levels.items t h

pub step_there : (c : ProgramView) (w : TreeMachine) (t : Resume) (ws : List ContItem) → 0 < length w.top.levels.items → work_of (context_of_call c w.rank.procs w.top) (innermost_stmt c w.top) t ≡ ws
    → step (process_at c w t) ≡ works_there c w t ws
step_there c w t ws h e =
    ap (works (process_at c w t) (top_of c w (left_in c w.rank.procs w.top t)) (below_of c w)) (left_here c w t h ∙ ap (λ us. us ++ rest c w.rank.procs w.top) e)

pub step_is : (c : ProgramView) (p : Process) (s z : Step) (r : StepOutcome) (new : TreeMachine) → s ≡ z → IsStep c p z r new → IsStep c p s r new
step_is c p s z r new e h = subst (λ (y : Step). IsStep c p y r new) (sym e) h

-- a silent step to what is left then
pub went : (c : ProgramView) (old new : TreeMachine) (t : Resume) (variables : List Variable) (ws us : List ContItem) → step (process_at c old t) ≡ To (done_with c old variables ws) → us ≡ ws
    → process_of c new ≡ done_with c old variables us → IsStepOutcomeAt c old t turn.Continue new
went c old new t variables ws us s l e = s ∙ ap To (ap (done_with c old variables) (sym l) ∙ sym e)

-- a silent step behind the innermost statement
pub went_out : (c : ProgramView) (old new : TreeMachine) (t : Resume) (variables : List Variable) → step (process_at c old t) ≡ To (done_with c old variables (rest c old.rank.procs old.top))
    → process_of c new ≡ done_with c old variables (left_in c old.rank.procs old.top resume.Inside) → IsStepOutcomeAt c old t turn.Continue new
went_out c old new t variables s e =
    went c old new t variables (rest c old.rank.procs old.top) (left_in c old.rank.procs old.top resume.Inside) s
    (left_inside (context_of_call c old.rank.procs old.top) (body_of c old.top) (reverse old.top.levels.items)) e

-- the mode of the process
pub turn_in_mode : (c : ProgramView) (old new : TreeMachine) (t : Resume) (r : StepOutcome) → old.mode ≡ mode.Walks t → IsStepOutcomeAt c old t r new → IsStepOutcome c old r new
turn_in_mode c old new t r m h = subst (λ (n : ControlMode). IsStep c (process_in_mode c old n old.answers.items) (step (process_in_mode c old n old.answers.items)) r new) (sym m) h

-- a tick is left, or none
ticked : (p : Process) (at : Place) (after : Step) → p.spent < p.setting.fuel → ticks p at after ≡ after
ticked p at after h = rw (lt-ltb p.spent p.setting.fuel h) refl

unticked : (p : Process) (at : Place) (after : Step) → p.setting.fuel ≤ p.spent → ticks p at after ≡ Faults Fuel at
unticked p at after h = rw (le-ltb p.spent p.setting.fuel h) refl

-- ---- the ends of blocks

pub block_done : (site : MethodContext) (x : NumberedStm) (n : ℕ) → length (list_in x) ≤ n → work_of site x (resume.From n) ≡ End x ∷ []
block_done site x n h = ap (λ xs. map Do xs ++ End x ∷ []) (drop_of_length-le (list_in x) h)

pub ended : (c : ProgramView) (w : TreeMachine) (t : Resume) → 0 < length w.top.levels.items → work_of (context_of_call c w.rank.procs w.top) (innermost_stmt c w.top) t ≡ End (innermost_stmt c w.top) ∷ []
    → step (process_at c w t) ≡ To (done_with c w (without_variables (declared_in (innermost_stmt c w.top)) (vars w)) (rest c w.rank.procs w.top))
ended c w t h e = step_there c w t _ h e

-- ---- `while` and `for`

env_at_end : (p : Process) (f : Frame) (x : NumberedStm) (ws : List ContItem) → env_of p f (end_of_for x ++ ws) ≡ env_of p f ws
env_at_end p f (s.For at first c update body) ws = refl
env_at_end p f s.Empty ws = refl
env_at_end p f (s.Declare at type variable value) ws = refl
env_at_end p f (s.Assign at target value) ws = refl
env_at_end p f (s.Update at op target y) ws = refl
env_at_end p f (s.Step at op target) ws = refl
env_at_end p f (s.Call y) ws = refl
env_at_end p f (s.Print at what) ws = refl
env_at_end p f (s.Barrier at) ws = refl
env_at_end p f (s.If at c y) ws = refl
env_at_end p f (s.IfElse at c y z) ws = refl
env_at_end p f (s.While at c body) ws = refl
env_at_end p f (s.Foreach at variable domain body) ws = refl
env_at_end p f (s.Block body) ws = refl
env_at_end p f (s.Break at) ws = refl
env_at_end p f (s.Continue at) ws = refl
env_at_end p f (s.Return at value) ws = refl

-- what a `while` or a `for` comes to before a turn
abbrev pub condition_got : ProgramView → TreeMachine → CompResult Move
condition_got c w = bind_result (condition (env_in c w) (condition_in (innermost_stmt c w.top)) w.answers.items) (λ h. gives (turn_if c w (truth_of h)))

-- where it goes on then
abbrev pub goes_before : ProgramView → TreeMachine → Move → Step
goes_before c w = moves (process_at c w resume.Before) (top_of c w (left_in c w.rank.procs w.top resume.Before)) (below_of c w) (end_of_for (innermost_stmt c w.top) ++ rest c w.rank.procs w.top)

pub before_there : (c : ProgramView) (w : TreeMachine) → 0 < length w.top.levels.items
    → step (process_at c w resume.Before) ≡ step_of_result (process_at c w resume.Before) (condition_got c w) (goes_before c w)
before_there c w h =
    step_there c w resume.Before _ h refl
    ∙ ap (λ (env : Env). step_of_result (process_at c w resume.Before) (before_turn env (loop_of (innermost_stmt c w.top)) w.answers.items) (goes_before c w))
    (env_at_end (process_at c w resume.Before) (top_of c w (left_in c w.rank.procs w.top resume.Before)) (innermost_stmt c w.top) (rest c w.rank.procs w.top))

decided_by : (c : ProgramView) (w : TreeMachine) (b : Bool) (got : CompResult Held) → truth_in got ≡ Some b
    → step_of_result (process_at c w resume.Before) (bind_result got (λ h. gives (turn_if c w (truth_of h)))) (goes_before c w) ≡ step_if c w b
decided_by c w b (Gives h more) e = let f : truth_of h ≡ b = cc in ap (step_if c w) f
decided_by c w b (Asks q) e = cc
decided_by c w b (Fails kind at) e = cc

pub same_condition : (e f : Env) (x y : NumberedStm) (ts bs : List Answer) → e ≡ f → x ≡ y → ts ≡ bs → condition e (condition_in x) ts ≡ condition f (condition_in y) bs
same_condition e f x y ts bs i j k = ap (λ (z : Env). condition z (condition_in x) ts) i ∙ ap (λ (z : NumberedStm). condition f (condition_in z) ts) j ∙ ap (condition f (condition_in y)) k

condition_stops : (c : ProgramView) (w : TreeMachine) (stop : Interrupt) → Stops stop (condition (env_in c w) (condition_in (innermost_stmt c w.top)) w.answers.items) → Stops stop (condition_got c w)
condition_stops c w stop h = then_stops stop (condition (env_in c w) (condition_in (innermost_stmt c w.top)) w.answers.items) (λ h. gives (turn_if c w (truth_of h))) h

-- a condition that is known
pub decided : (c : ProgramView) (w : TreeMachine) (b : Bool) → 0 < length w.top.levels.items → truth_in (condition (env_in c w) (condition_in (innermost_stmt c w.top)) w.answers.items) ≡ Some b
    → step (process_at c w resume.Before) ≡ step_if c w b
decided c w b h e = before_there c w h ∙ decided_by c w b (condition (env_in c w) (condition_in (innermost_stmt c w.top)) w.answers.items) e

-- one that isn't known yet
pub undecided : (c : ProgramView) (w new : TreeMachine) (stop : Interrupt) (r : StepOutcome) → 0 < length w.top.levels.items → Stops stop (condition (env_in c w) (condition_in (innermost_stmt c w.top)) w.answers.items)
    → (Stops stop (condition_got c w) → IsStep c (process_at c w resume.Before) (step_of_result (process_at c w resume.Before) (condition_got c w) (goes_before c w)) r new) → IsStepOutcomeAt c w resume.Before r new
undecided c w new stop r h e g = step_is c (process_at c w resume.Before) _ _ r new (before_there c w h) (g (condition_stops c w stop e))

-- behind a loop what is left of it
pub left_behind : (c : ProgramView) (w : TreeMachine) (t : Resume) → 0 < length w.top.levels.items → work_of (context_of_call c w.rank.procs w.top) (innermost_stmt c w.top) t ≡ end_of_for (innermost_stmt c w.top)
    → left_in c w.rank.procs w.top t ≡ end_of_for (innermost_stmt c w.top) ++ rest c w.rank.procs w.top
left_behind c w t h e = left_here c w t h ∙ ap (λ us. us ++ rest c w.rank.procs w.top) e

-- behind the last turn
pub turn_over : (c : ProgramView) (w new : TreeMachine) (x : NumberedStm) (t : Resume) → 0 < length w.top.levels.items → x ≡ innermost_stmt c w.top → ((site : MethodContext) → work_of site x t ≡ end_of_for x)
    → process_of c new ≡ done_with c w (vars w) (left_in c w.rank.procs w.top t) → step_if c w false ≡ To (process_of c new)
turn_over c w new x t h i e n =
    let l = left_behind c w t h (subst (λ (y : NumberedStm). work_of (context_of_call c w.rank.procs w.top) y t ≡ end_of_for y) i (e (context_of_call c w.rank.procs w.top))) in
    ap To (sym (n ∙ ap (done_with c w (vars w)) l))

-- a turn for which no tick is left
pub turn_fails : (c : ProgramView) (w : TreeMachine) (x : NumberedStm) (at : Place) → w.fuel ≤ w.spent → x ≡ innermost_stmt c w.top → at ≡ loop_place_of x → step_if c w true ≡ Faults Fuel at
turn_fails c w x at f i a = unticked (process_at c w resume.Before) (loop_place_of (innermost_stmt c w.top)) _ f ∙ ap (Faults Fuel) (sym (a ∙ ap loop_place_of i))

-- a turn
pub turn_begins : (c : ProgramView) (w new : TreeMachine) → 0 < length w.top.levels.items → w.spent < w.fuel
    → process_of c new ≡ done_with c (record w { spent = w.spent + 1 }) (vars w) (Do (child_of (innermost_stmt c w.top) part.Body) ∷ left_in c w.rank.procs w.top resume.Behind)
    → step_if c w true ≡ To (process_of c new)
turn_begins c w new h f n =
    ticked (process_at c w resume.Before) (loop_place_of (innermost_stmt c w.top)) _ f
    ∙ ap To (sym (n ∙ ap (λ us. done_with c (record w { spent = w.spent + 1 }) (vars w) (Do (child_of (innermost_stmt c w.top) part.Body) ∷ us)) (left_here c w resume.Behind h)))

-- the end of a turn, with its update and without one
behind_there : (c : ProgramView) (w : TreeMachine) (us : List ContItem) → 0 < length w.top.levels.items → maybe_do (update_in (innermost_stmt c w.top)) ≡ us
    → step (process_at c w resume.Behind) ≡ To (done_with c w (vars w) ((us ++ Before (loop_of (innermost_stmt c w.top)) ∷ []) ++ (end_of_for (innermost_stmt c w.top) ++ rest c w.rank.procs w.top)))
behind_there c w us h u =
    step_there c w resume.Behind _ h refl
    ∙ ap (λ xs. To (done_with c w (vars w) ((xs ++ Before (loop_of (innermost_stmt c w.top)) ∷ []) ++ (end_of_for (innermost_stmt c w.top) ++ rest c w.rank.procs w.top)))) u

update_there : (x y : NumberedStm) (b d : Bool) → x ≡ y → b ≡ d → maybe_do (update_in x) ≡ cond b (Do (child_of x part.Update) ∷ []) []
    → maybe_do (update_in y) ≡ cond d (Do (child_of y part.Update) ∷ []) []
update_there x y b d i t u =
    subst (λ (z : NumberedStm). maybe_do (update_in z) ≡ cond d (Do (child_of z part.Update) ∷ []) []) i (u ∙ ap (λ (k : Bool). cond k (Do (child_of x part.Update) ∷ []) []) t)

pub updates : (c : ProgramView) (w : TreeMachine) (x : NumberedStm) (b : Bool) → 0 < length w.top.levels.items → x ≡ innermost_stmt c w.top → b ≡ true
    → maybe_do (update_in x) ≡ cond b (Do (child_of x part.Update) ∷ []) []
    → step (process_at c w resume.Behind) ≡ To (done_with c w (vars w) (Do (child_of (innermost_stmt c w.top) part.Update) ∷ left_in c w.rank.procs w.top resume.Before))
updates c w x b h i t u =
    behind_there c w _ h (update_there x (innermost_stmt c w.top) b true i t u) ∙ ap (λ us. To (done_with c w (vars w) (Do (child_of (innermost_stmt c w.top) part.Update) ∷ us))) (sym (left_here c w resume.Before h))

pub turns_again : (c : ProgramView) (w : TreeMachine) (x : NumberedStm) (b : Bool) → 0 < length w.top.levels.items → x ≡ innermost_stmt c w.top → b ≡ false
    → maybe_do (update_in x) ≡ cond b (Do (child_of x part.Update) ∷ []) [] → step (process_at c w resume.Behind) ≡ To (done_with c w (vars w) (left_in c w.rank.procs w.top resume.Before))
turns_again c w x b h i t u =
    behind_there c w _ h (update_there x (innermost_stmt c w.top) b false i t u) ∙ ap (λ us. To (done_with c w (vars w) us)) (sym (left_here c w resume.Before h))

-- ---- `foreach`

pub each_done : (c : ProgramView) (w : TreeMachine) (v : ℕ) (d : Box Held Global) (last : Option Point) → 0 < length w.top.levels.items → points_above d.value last ≡ []
    → step (process_at c w (resume.Each v d last)) ≡ To (done_with c w (vars w) (rest c w.rank.procs w.top))
each_done c w v d last h e = step_there c w (resume.Each v d last) _ h (ap (λ ps. Before (foreach_of (innermost_stmt c w.top) v ps) ∷ []) e)

each_there : (c : ProgramView) (w : TreeMachine) (v : ℕ) (d : Box Held Global) (last : Option Point) (p : Point) (ps : List Point) → 0 < length w.top.levels.items → points_above d.value last ≡ p ∷ ps
    → step (process_at c w (resume.Each v d last))
    ≡ ticks (process_at c w (resume.Each v d last)) (loop_place_of (innermost_stmt c w.top))
    (To (spends (done_with c w (vars w) (Do (child_of (innermost_stmt c w.top) part.Body) ∷ Behind (foreach_of (innermost_stmt c w.top) v (p ∷ ps)) ∷ rest c w.rank.procs w.top))))
each_there c w v d last p ps h e = step_there c w (resume.Each v d last) _ h (ap (λ qs. Before (foreach_of (innermost_stmt c w.top) v qs) ∷ []) e)

pub each_fails : (c : ProgramView) (w : TreeMachine) (v : ℕ) (d : Box Held Global) (last : Option Point) (p : Point) (ps : List Point)
    (x : NumberedStm) (at : Place) → 0 < length w.top.levels.items → points_above d.value last ≡ p ∷ ps
    → w.fuel ≤ w.spent → x ≡ innermost_stmt c w.top → at ≡ loop_place_of x → step (process_at c w (resume.Each v d last)) ≡ Faults Fuel at
each_fails c w v d last p ps x at h e f i a =
    each_there c w v d last p ps h e ∙ unticked (process_at c w (resume.Each v d last)) (loop_place_of (innermost_stmt c w.top)) _ f ∙ ap (Faults Fuel) (sym (a ∙ ap loop_place_of i))

pub each_turns : (c : ProgramView) (w new : TreeMachine) (v : ℕ) (d : Box Held Global) (at : CanonicalPoint) (last : Option Point) (p : Point)
    → 0 < length w.top.levels.items → points_above d.value last ≡ p ∷ points_above d.value (Some p)
    → w.spent < w.fuel → at.point ≡ p
    → process_of c new ≡ done_with c (record w { spent = w.spent + 1 }) (vars w) (Do (child_of (innermost_stmt c w.top) part.Body) ∷ left_in c w.rank.procs w.top (resume.Turn v d at))
    → IsStepOutcomeAt c w (resume.Each v d last) turn.Continue new
each_turns c w new v d at last p h e f i n =
    let l : left_in c w.rank.procs w.top (resume.Turn v d at) ≡ Behind (foreach_of (innermost_stmt c w.top) v (p ∷ points_above d.value (Some p))) ∷ rest c w.rank.procs w.top =
    left_here c w (resume.Turn v d at) h ∙ ap (λ q. Behind (foreach_of (innermost_stmt c w.top) v (q ∷ points_above d.value (Some q))) ∷ rest c w.rank.procs w.top) i in
    each_there c w v d last p _ h e
    ∙ ticked (process_at c w (resume.Each v d last)) (loop_place_of (innermost_stmt c w.top)) _ f
    ∙ ap To (sym (n ∙ ap (λ us. done_with c (record w { spent = w.spent + 1 }) (vars w) (Do (child_of (innermost_stmt c w.top) part.Body) ∷ us)) l))

pub turn_done : (c : ProgramView) (w : TreeMachine) (v : ℕ) (d : Box Held Global) (at : CanonicalPoint) → 0 < length w.top.levels.items
    → step (process_at c w (resume.Turn v d at)) ≡ To (done_with c w (vars w) (left_in c w.rank.procs w.top (resume.Each v d (Some (at.point)))))
turn_done c w v d at h =
    step_there c w (resume.Turn v d at) _ h refl ∙ ap (λ us. To (done_with c w (vars w) us)) (sym (left_here c w (resume.Each v d (Some (at.point))) h))

-- ---- copies and exchanges

first_thing : (site : MethodContext) (xs : NumberedExps) (id : Id) → first_reference site xs id ≡ record { thing = id; type = (first_reference site xs id).type }
first_thing site e.NoExp id = refl
first_thing site (e.MoreExp x xs) id = refl

-- the references of a copy
abbrev pub to_of : ProgramView → TreeMachine → Id → Reference
to_of c w id = record { thing = id; type = (reference (context_of_call c w.rank.procs w.top) (member_receiver (innermost_stmt c w.top)) id).type }

abbrev pub from_of : ProgramView → TreeMachine → Id → Reference
from_of c w id = record { thing = id; type = (first_reference (context_of_call c w.rank.procs w.top) (member_args (innermost_stmt c w.top)) id).type }

pub copy_done : (c : ProgramView) (w : TreeMachine) (d : Box Copy Global) (last : Option Point) → 0 < length w.top.levels.items → points_above d.value.domain last ≡ []
    → step (process_at c w (resume.Copying d last)) ≡ To (done_with c w (vars w) (rest c w.rank.procs w.top))
copy_done c w d last h e =
    step_there c w (resume.Copying d last) _ h (ap (λ ps. CopyAll (member_place (innermost_stmt c w.top)) (to_of c w d.value.to)
    (first_reference (context_of_call c w.rank.procs w.top) (member_args (innermost_stmt c w.top)) d.value.from) ps ∷ []) e)

pub copy_there : (c : ProgramView) (w : TreeMachine) (d : Box Copy Global) (last : Option Point) (p : Point) (ps : List Point)
    → 0 < length w.top.levels.items → points_above d.value.domain last ≡ p ∷ ps
    → step (process_at c w (resume.Copying d last))
    ≡ step_of_result (process_at c w (resume.Copying d last)) (copied (env_in c w) (member_place (innermost_stmt c w.top)) (to_of c w d.value.to) (from_of c w d.value.from) (p ∷ ps) w.answers.items)
    (moves (process_at c w (resume.Copying d last)) (top_of c w (left_in c w.rank.procs w.top (resume.Copying d last))) (below_of c w) (rest c w.rank.procs w.top))
copy_there c w d last p ps h e =
    step_there c w (resume.Copying d last) _ h
    (ap (λ r. CopyAll (member_place (innermost_stmt c w.top)) (to_of c w d.value.to) r (points_above d.value.domain last) ∷ [])
    (first_thing (context_of_call c w.rank.procs w.top) (member_args (innermost_stmt c w.top)) d.value.from)
    ∙ ap (λ qs. CopyAll (member_place (innermost_stmt c w.top)) (to_of c w d.value.to) (from_of c w d.value.from) qs ∷ []) e)

pub copy_left : (c : ProgramView) (w : TreeMachine) (d : Box Copy Global) (last : Option Point) → 0 < length w.top.levels.items
    → left_in c w.rank.procs w.top (resume.Copying d last) ≡ CopyAll (member_place (innermost_stmt c w.top)) (to_of c w d.value.to)
    (from_of c w d.value.from) (points_above d.value.domain last) ∷ rest c w.rank.procs w.top
copy_left c w d last h =
    left_here c w (resume.Copying d last) h
    ∙ ap (λ r. CopyAll (member_place (innermost_stmt c w.top)) (to_of c w d.value.to) r (points_above d.value.domain last)
    ∷ rest c w.rank.procs w.top) (first_thing (context_of_call c w.rank.procs w.top) (member_args (innermost_stmt c w.top)) d.value.from)

pub copy_went : (c : ProgramView) (w new : TreeMachine) (d : Box Copy Global) (last : Option Point) (p : Point) (x : NumberedStm) (at : Place) (ts more : List Answer) → 0 < length w.top.levels.items
    → points_above d.value.domain last ≡ p ∷ points_above d.value.domain (Some p) → x ≡ innermost_stmt c w.top → at ≡ member_place x → ts ≡ w.answers.items
    → ((env : Env) (t u : ValueType) (ps : List Point) → copied env at (record { thing = d.value.to; type = t })
    (record { thing = d.value.from; type = u }) (p ∷ ps) ts ≡ Gives
    (Goes env.variables (CopyAll at (record { thing = d.value.to; type = t }) (record { thing = d.value.from; type = u }) ps ∷ []))
    more)
    → process_of c new ≡ done_with c w (vars w) (left_in c w.rank.procs w.top (resume.Copying d (Some p))) → IsStepOutcomeAt c w (resume.Copying d last) turn.Continue new
copy_went c w new d last p x at ts more h e i a b k n =
    let env : Env = env_in c w in
    let qs : List Point = points_above d.value.domain (Some p) in
    let g : copied env (member_place (innermost_stmt c w.top)) (to_of c w d.value.to) (from_of c w d.value.from) (p ∷ qs) w.answers.items
    ≡ Gives (Goes env.variables (CopyAll (member_place (innermost_stmt c w.top)) (to_of c w d.value.to) (from_of c w d.value.from) qs ∷ []))
    more =
    subst (λ (z : Place). copied env z (to_of c w d.value.to) (from_of c w d.value.from) (p ∷ qs) w.answers.items
    ≡ Gives (Goes env.variables (CopyAll z (to_of c w d.value.to) (from_of c w d.value.from) qs ∷ [])) more) (a ∙ ap member_place i)
    (subst (λ (bs : List Answer). copied env at (to_of c w d.value.to) (from_of c w d.value.from) (p ∷ qs) bs
    ≡ Gives (Goes env.variables (CopyAll at (to_of c w d.value.to) (from_of c w d.value.from) qs ∷ [])) more) b (k env _ _ qs)) in
    copy_there c w d last p qs h e
    ∙ ap (λ got. step_of_result (process_at c w (resume.Copying d last)) got (moves (process_at c w (resume.Copying d last))
    (top_of c w (left_in c w.rank.procs w.top (resume.Copying d last))) (below_of c w) (rest c w.rank.procs w.top))) g
    ∙ ap To (ap (done_with c w (vars w)) (sym (copy_left c w d (Some p) h)) ∙ sym n)

pub copy_stops : (c : ProgramView) (w new : TreeMachine) (d : Box Copy Global) (last : Option Point) (p : Point) (x : NumberedStm)
    (at : Place) (ts : List Answer) (stop : Interrupt) (r : StepOutcome) → 0 < length w.top.levels.items
    → points_above d.value.domain last ≡ p ∷ points_above d.value.domain (Some p) → x ≡ innermost_stmt c w.top → at ≡ member_place x → ts ≡ w.answers.items
    → ((env : Env) (t u : ValueType) (ps : List Point) → Stops stop (copied env at (record { thing = d.value.to; type = t }) (record { thing = d.value.from; type = u }) (p ∷ ps) ts))
    → ((got : CompResult Move) (go : Move → Step) → Stops stop got → IsStep c (process_at c w (resume.Copying d last)) (step_of_result (process_at c w (resume.Copying d last)) got go) r new)
    → IsStepOutcomeAt c w (resume.Copying d last) r new
copy_stops c w new d last p x at ts stop r h e i a b k g =
    let env : Env = env_in c w in
    let qs : List Point = points_above d.value.domain (Some p) in
    let s : Stops stop (copied env (member_place (innermost_stmt c w.top)) (to_of c w d.value.to) (from_of c w d.value.from) (p ∷ qs) w.answers.items) =
    subst (λ (z : Place). Stops stop (copied env z (to_of c w d.value.to) (from_of c w d.value.from) (p ∷ qs) w.answers.items)) (a ∙ ap member_place i)
    (subst (λ (bs : List Answer). Stops stop (copied env at (to_of c w d.value.to) (from_of c w d.value.from) (p ∷ qs) bs)) b (k env _ _ qs)) in
    step_is c (process_at c w (resume.Copying d last)) _ _ r new (copy_there c w d last p qs h e) (g _ _ s)

counted_by : (i n m : ℕ) → n ≡ suc m → count_up i n ≡ i ∷ count_up (i + 1) m
counted_by i n m e = ap (count_up i) e

pub take_done : (c : ProgramView) (w : TreeMachine) (grid : Id) (next : ℕ) → 0 < length w.top.levels.items → w.rank.procs ≤ next
    → step (process_at c w (resume.Taking grid next)) ≡ To (done_with c w (vars w) (rest c w.rank.procs w.top))
take_done c w grid next h e =
    let z : w.rank.procs - next ≡ 0 = omega arith in
    step_there c w (resume.Taking grid next) _ h (ap (λ n. TakeAll (member_place (innermost_stmt c w.top)) (to_of c w grid) (count_up next n) ∷ []) z)

pub take_there : (c : ProgramView) (w : TreeMachine) (grid : Id) (next : ℕ) → 0 < length w.top.levels.items → next < w.rank.procs
    → step (process_at c w (resume.Taking grid next))
    ≡ step_of_result (process_at c w (resume.Taking grid next)) (taken (env_in c w) (member_place (innermost_stmt c w.top)) (to_of c w grid) (next ∷ count_up (next + 1) (w.rank.procs - (next + 1))) w.answers.items)
    (moves (process_at c w (resume.Taking grid next)) (top_of c w (left_in c w.rank.procs w.top (resume.Taking grid next))) (below_of c w) (rest c w.rank.procs w.top))
take_there c w grid next h e =
    step_there c w (resume.Taking grid next) _ h
    (ap (λ is. TakeAll (member_place (innermost_stmt c w.top)) (to_of c w grid) is ∷ []) (counted_by next (w.rank.procs - next) (w.rank.procs - (next + 1)) (omega arith)))

pub take_left : (c : ProgramView) (w : TreeMachine) (grid : Id) (next : ℕ) → 0 < length w.top.levels.items
    → left_in c w.rank.procs w.top (resume.Taking grid next) ≡ TakeAll (member_place (innermost_stmt c w.top)) (to_of c w grid) (count_up next (w.rank.procs - next)) ∷ rest c w.rank.procs w.top
take_left c w grid next h = left_here c w (resume.Taking grid next) h

pub take_went : (c : ProgramView) (w new : TreeMachine) (grid : Id) (next : ℕ) (x : NumberedStm) (at : Place) (ts more : List Answer) → 0 < length w.top.levels.items
    → next < w.rank.procs → x ≡ innermost_stmt c w.top → at ≡ member_place x → ts ≡ w.answers.items
    → ((env : Env) (t : ValueType) (is : List ℕ) → taken env at (record { thing = grid; type = t }) (next ∷ is) ts
    ≡ Gives (Goes env.variables (TakeAll at (record { thing = grid; type = t }) is ∷ [])) more)
    → process_of c new ≡ done_with c w (vars w) (left_in c w.rank.procs w.top (resume.Taking grid (next + 1))) → IsStepOutcomeAt c w (resume.Taking grid next) turn.Continue new
take_went c w new grid next x at ts more h e i a b k n =
    let env : Env = env_in c w in
    let is : List ℕ = count_up (next + 1) (w.rank.procs - (next + 1)) in
    let g : taken env (member_place (innermost_stmt c w.top)) (to_of c w grid) (next ∷ is) w.answers.items ≡ Gives (Goes env.variables (TakeAll (member_place (innermost_stmt c w.top)) (to_of c w grid) is ∷ [])) more =
    subst (λ (z : Place). taken env z (to_of c w grid) (next ∷ is) w.answers.items ≡ Gives (Goes env.variables (TakeAll z (to_of c w grid) is ∷ [])) more) (a ∙ ap member_place i)
    (subst (λ (bs : List Answer). taken env at (to_of c w grid) (next ∷ is) bs ≡ Gives (Goes env.variables (TakeAll at (to_of c w grid) is ∷ [])) more) b (k env _ is)) in
    take_there c w grid next h e
    ∙ ap (λ got. step_of_result (process_at c w (resume.Taking grid next)) got (moves (process_at c w (resume.Taking grid next))
    (top_of c w (left_in c w.rank.procs w.top (resume.Taking grid next))) (below_of c w) (rest c w.rank.procs w.top))) g
    ∙ ap To (ap (done_with c w (vars w)) (sym (take_left c w grid (next + 1) h)) ∙ sym n)

pub take_stops : (c : ProgramView) (w new : TreeMachine) (grid : Id) (next : ℕ) (x : NumberedStm) (at : Place) (ts : List Answer) (stop : Interrupt) (r : StepOutcome) → 0 < length w.top.levels.items
    → next < w.rank.procs → x ≡ innermost_stmt c w.top → at ≡ member_place x → ts ≡ w.answers.items
    → ((env : Env) (t : ValueType) (is : List ℕ) → Stops stop (taken env at (record { thing = grid; type = t }) (next ∷ is) ts))
    → ((got : CompResult Move) (go : Move → Step) → Stops stop got → IsStep c (process_at c w (resume.Taking grid next)) (step_of_result (process_at c w (resume.Taking grid next)) got go) r new)
    → IsStepOutcomeAt c w (resume.Taking grid next) r new
take_stops c w new grid next x at ts stop r h e i a b k g =
    let env : Env = env_in c w in
    let is : List ℕ = count_up (next + 1) (w.rank.procs - (next + 1)) in
    let s : Stops stop (taken env (member_place (innermost_stmt c w.top)) (to_of c w grid) (next ∷ is) w.answers.items) =
    subst (λ (z : Place). Stops stop (taken env z (to_of c w grid) (next ∷ is) w.answers.items)) (a ∙ ap member_place i)
    (subst (λ (bs : List Answer). Stops stop (taken env at (to_of c w grid) (next ∷ is) bs)) b (k env (to_of c w grid).type is)) in
    let go : Move → Step = moves (process_at c w (resume.Taking grid next)) (top_of c w (left_in c w.rank.procs w.top (resume.Taking grid next))) (below_of c w) (rest c w.rank.procs w.top) in
    step_is c (process_at c w (resume.Taking grid next)) _ _ r new (take_there c w grid next h e) (g (taken env (member_place (innermost_stmt c w.top)) (to_of c w grid) (next ∷ is) w.answers.items) go s)

pub ruleset begun = (block_done, turn_in_mode)
