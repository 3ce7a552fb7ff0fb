-- In each process of a run of a checked program the work that is left stands in its scope.
use Rattle.std.proofs.Common.{◌≡◌, ℕ, nat_lt, length, Bool, true, false, inl, inr, if◌then◌else◌, slice_get, Option, Some, None, List, [], ◌∷◌, refl, sym, ◌∙◌, subst, append-nil}
use Rattle.std.specs.Option.{option_map_or}
use Rattle.ti_base.specs.declared.place.Place.{Place}
use Rattle.ti_base.specs.declared.fault.FaultKind.TheVariants.{Fuel, Depth}
use Rattle.ti_base.specs.declared.action.Action.TheVariants as act
use Rattle.ti_base.specs.declared.entry.Answer.{Answer}
use Rattle.ti_lang.specs.Program.Statements.{NumberedStm, numbered_stms}
use Rattle.ti_lang.specs.Program.Statements as s
use Rattle.ti_lang.specs.Program.Classes.{NumberedParams, MainArgs, Params, NumberedMethod, ProgramView}
use Rattle.ti_lang.specs.Typing.Kinds.{is_void}
use Rattle.ti_lang.specs.Typing.Declared.{result_type}
use Rattle.ti_lang.specs.Meaning.Held.{Held}
use Rattle.ti_lang.specs.Meaning.Comp.{Wanted, ToBeDone, ValueOf, NewThing, CompResult, Gives, Asks, Fails}
use Rattle.ti_lang.specs.Meaning.Processes.{RunConfig, Variable, Receiver, Nowhere, ContItem, Do, Frame, frame_of, Wait, Process, all_before, begin}
use Rattle.ti_lang.specs.Meaning.Scoping.{Env, env_of}
use Rattle.ti_lang.specs.Meaning.Conversions.{converted}
use Rattle.ti_lang.specs.Meaning.Evaluation.{eval}
use Rattle.ti_lang.specs.Meaning.Calls.{parameters_of}
use Rattle.ti_lang.specs.Meaning.Moves.{Move, Goes, Turns, Breaks, Continues, Calls, Returns, Meets, Deletes}
use Rattle.ti_lang.specs.Meaning.Performing.{exec_item}
use Rattle.ti_lang.specs.Meaning.Jumps.{has_mark}
use Rattle.ti_lang.specs.Meaning.Steps.{Step, To, At, Ends, Faults, ticks, step_of_result, deliver, most_frames, value_asked, with_continuation, moves, works, runs, steps, step}
use Rattle.ti_lang.proofs.Lemmas.{Giving, then_giving}
use Rattle.ti_rules.specs.TypeRules.{ends_with_return}
use Rattle.ti_align.proofs.Runs.Ways.{asking, Meeting, Way}
use Rattle.ti_align.proofs.Runs.Ways as way
use Rattle.ti_align.proofs.Runs.Vars.{true_false}
use Rattle.ti_align.specs.Scoped.{Names}
use Rattle.ti_align.proofs.Scope.Scoped.{is_one}
use Rattle.ti_align.proofs.Scope.Found.{Holds, holds_some}
use Rattle.ti_align.proofs.Scope.Suited.{StmsSuit}
use Rattle.ti_align.proofs.Scope.Reaching.{declares, WorksStand, Standing, Awaiting, received, not_received, awaits_nothing, all_stand, from_stands, past_stands, IsReturn, Returning, returning_both, returning_from, returning_past, MethodStands, MethodsStand}
use Rattle.ti_align.proofs.Scope.Leading.{OneStands, at_stands, MoveStands, performed_stands}

-- ---- programs

-- `String[] x` is no variable
abbrev pub is_words : NumberedParams → Bool
is_words MainArgs = true
is_words (Params params) = false

-- the methods stand in their parameters, and `main` has none
pub record ProgramStands (p : ProgramView) : Type 0 where
  pub methods : MethodsStand p p.methods
  pub main : (m : NumberedMethod) → slice_get p.methods p.main ≡ Some m → is_words m.params ≡ true

-- ---- results

-- a method with a result goes on until it returns one
abbrev pub ReturnsIn : NumberedMethod → List ContItem → Type 0
ReturnsIn m left = is_void (result_type m) ≡ false → Returning left

-- a method gives a value where a variable is declared by it
abbrev pub Answers : NumberedMethod → Receiver → Type 0
Answers m r = declares r ≡ true → is_void (result_type m) ≡ false

pub starts_returning : (p : ProgramView) (m : NumberedMethod) (xs : List NumberedStm) → is_void (result_type m) ≡ false
    → ends_with_return xs ≡ true → StmsSuit p m (numbered_stms xs) → Returning (all_before (numbered_stms xs) [])
starts_returning p m [] v h k = absurd (true_false (sym h))
starts_returning p m (x ∷ y ∷ rest) v h k = inr (starts_returning p m (y ∷ rest) v h k.1)
starts_returning p m (s.Return at (Some x) ∷ []) v h k = inl (tt, refl)
starts_returning p m (s.Return at None ∷ []) v h k = absurd (true_false (sym k.0 ∙ v))
starts_returning p m (_ ∷ []) v h k = absurd (true_false (sym h))

-- a move that returns, or leaves work that goes on to
abbrev MoveReturns : List ContItem → Move → Type 0
MoveReturns left (Returns (Some h)) = Unit {0}
MoveReturns left (Returns None) = ⊥
MoveReturns left m = Returning left

moves_return : (env : Env) (left : List ContItem) (g : CompResult Move) → Returning left → Giving (MoveStands env left) g → is_void (result_type env.method) ≡ false → Giving (MoveReturns left) g
moves_return env left (Gives (Returns (Some h)) rest) r k v = tt
moves_return env left (Gives (Returns None) rest) r k v = true_false (sym k ∙ v)
moves_return env left (Asks q) r k v = tt
moves_return env left (Fails kind at) r k v = tt
moves_return env left _ r k v = r

performed_returns : (env : Env) (w : ContItem) (left : List ContItem) (rest : List Answer) → Returning (w ∷ left)
    → Giving (MoveStands env left) (exec_item env w rest) → is_void (result_type env.method) ≡ false
    → Giving (MoveReturns left) (exec_item env w rest)
performed_returns env w left rest (inr r) k v = moves_return env left (exec_item env w rest) r k v
performed_returns env w left rest (inl r) k v = by w r.0
  where
    by : (w : ContItem) → IsReturn w → Giving (MoveReturns left) (exec_item env w rest)
    by (Do (s.Return at (Some x))) i = then_giving (MoveReturns left) (eval env x rest) _ (λ h u. then_giving (MoveReturns left) (converted at (result_type env.method) h u) _ (λ y w. tt))
    by _ i = absurd i

-- ---- frames

-- frames that wait for a value
abbrev pub Waiting : ProgramView → Receiver → List Frame → Type 0
Waiting p r [] = Unit {0}
Waiting p r (f ∷ fs) = Awaiting p f.method f.variables r f.left × ReturnsIn f.method f.left × Answers f.method f.receiver × Waiting p f.receiver fs

-- the innermost frame goes on, the others wait
abbrev pub FramesStand : ProgramView → List Frame → Type 0
FramesStand p [] = Unit {0}
FramesStand p (f ∷ fs) = Standing p f.method f.variables f.left × ReturnsIn f.method f.left × Answers f.method f.receiver × Waiting p f.receiver fs

-- a process that may wait at a collective
abbrev pub WaitStands : ProgramView → Option Wait → List Frame → Type 0
WaitStands p None fs = FramesStand p fs
WaitStands p (Some w) fs = (w.wanted ≡ ToBeDone → declares w.receiver ≡ false) × Waiting p w.receiver fs

-- a process of this setting
abbrev pub Keeps : RunConfig → Process → Type 0
Keeps s q = (q.setting ≡ s) × WaitStands s.program q.wait q.frames

abbrev pub StepKeeps : RunConfig → Step → Type 0
StepKeeps s (To q) = Keeps s q
StepKeeps s (At request go) = (r : Answer) → Keeps s (go r)
StepKeeps s (Ends place) = Unit {0}
StepKeeps s (Faults kind place) = Unit {0}

if_keeps : (s : RunConfig) (b : Bool) (x y : Step) → StepKeeps s x → StepKeeps s y → StepKeeps s (if b then x else y)
if_keeps s true x y f g = f
if_keeps s false x y f g = g

ticks_keep : (s : RunConfig) (q : Process) (at : Place) (after : Step) → StepKeeps s after → StepKeeps s (ticks q at after)
ticks_keep s q at after h = if_keeps s (nat_lt q.spent q.setting.fuel) after (Faults Fuel at) h tt

handed_keeps : (p : ProgramView) (r : Receiver) (v : Option Held) (fs : List Frame) → Waiting p r fs → (v ≡ None → declares r ≡ false) → FramesStand p (deliver r v fs)
handed_keeps p r None [] k d = tt
handed_keeps p r None (f ∷ fs) k d = (not_received p f.method f.variables r f.left (d refl) k.0, k.1, k.2, k.3)
handed_keeps p r (Some h) [] k d = tt
handed_keeps p r (Some h) (f ∷ fs) k d = (received p f.method f.variables r h f.left k.0, (λ v. inr (k.1 v)), k.2, k.3)

-- the statements of a method, with its parameters
pub method_begins : (p : ProgramView) (m : NumberedMethod) (vs : List Variable) → MethodStands p m
    → Holds (is_one (parameters_of m.params)) vs → Standing p m vs (all_before (numbered_stms m.body) [])
method_begins p m vs k h =
    let names : Names = is_one (parameters_of m.params) in
    let none : Names = λ v. false in (
      names,
      none,
      h,
      λ v z. absurd (true_false (sym z)),
      subst (WorksStand p m names none)
          (append-nil (all_before (numbered_stms m.body) [])) (all_stand p m names none none (numbered_stms m.body) [] [] (k.scoped, k.suit)
          (λ v z. absurd (true_false (sym z))) (λ v z. absurd (true_false (sym z))) (λ after b f. tt)),
    )

module _ (q : Process) (program : ProgramStands q.setting.program) where
  module _ (f : Frame) (fs : List Frame) (left : List ContItem) (answers : Answers f.method f.receiver) (waiting : Waiting q.setting.program f.receiver fs) where
    jump_keeps : (b : Bool) → has_mark left ≡ b → (vs us : List Variable) (rest : List ContItem) → Standing q.setting.program f.method vs rest → (b ≡ true → ReturnsIn f.method rest)
        → Standing q.setting.program f.method us left → ReturnsIn f.method left
        → StepKeeps q.setting (To (if b then with_continuation q f fs vs rest else with_continuation q f fs us left))
    jump_keeps true z vs us rest k r l i = (refl, (k, r refl, answers, waiting))
    jump_keeps false z vs us rest k r l i = (refl, (l, i, answers, waiting))

    moves_keep : (mv : Move) → MoveStands (env_of q f left) left mv → (is_void (result_type f.method) ≡ false → MoveReturns left mv) → StepKeeps q.setting (moves q f fs left mv)
    moves_keep (Goes vs ws) k r = (refl, (k, (λ v. returning_both ws left (r v)), answers, waiting))
    moves_keep (Turns at vs ws) k r = ticks_keep q.setting q at _ (refl, (k, (λ v. returning_both ws left (r v)), answers, waiting))
    moves_keep Breaks k r =
        jump_keeps (has_mark left) refl _ _ _ (past_stands q.setting.program f.method k.0 k.1 left f.variables (holds_some k.1 k.0 f.variables k.3 k.2) k.4) (λ h v. returning_past left h (r v)) k r
    moves_keep Continues k r =
        jump_keeps (has_mark left) refl _ _ _ (from_stands q.setting.program f.method k.0 k.1 left f.variables (holds_some k.1 k.0 f.variables k.3 k.2) k.4) (λ h v. returning_from left h (r v)) k r
    moves_keep (Calls at m this ps receiver) k r =
        let own : Standing q.setting.program m ps (all_before (numbered_stms m.body) []) = method_begins q.setting.program m ps k.0 k.1 in
        let ends : ReturnsIn m (all_before (numbered_stms m.body) []) = λ v. starts_returning q.setting.program m m.body v (k.0.returns v) k.0.suit in
        ticks_keep q.setting q at _ (if_keeps q.setting (nat_lt (length (f ∷ fs)) most_frames) _ (Faults Depth at) (refl, (own, ends, k.2, (k.3, r, answers, waiting))) tt)
    moves_keep (Returns None) k r = (refl, handed_keeps q.setting.program f.receiver None fs waiting (λ z. by (declares f.receiver) refl))
      where
        by : (b : Bool) → declares f.receiver ≡ b → declares f.receiver ≡ false
        by true z = absurd (true_false (sym k ∙ answers z))
        by false z = z
    moves_keep (Returns (Some h)) k r = (refl, handed_keeps q.setting.program f.receiver (Some h) fs waiting (λ z. absurd (some_none h z)))
      where
        some_none : (h : Held) → ◌≡◌ {A = Option Held} (Some h) None → ⊥
        some_none h z = cc
    moves_keep (Meets wait given behind) k r = ticks_keep q.setting q wait.place _ (λ t. (refl, (k.1, (k.0, (λ v. returning_both behind left (r v)), answers, waiting))))
    moves_keep (Deletes at region) k r = ticks_keep q.setting q at _ (λ t. (refl, ((λ z. refl), (awaits_nothing q.setting.program f.method f.variables left k, r, answers, waiting))))

  valued_keeps : (g : CompResult Move) (go : Move → Step) → Keeps q.setting q → (Q : Move → Type 0) → Giving Q g → ((mv : Move) → Q mv → StepKeeps q.setting (go mv)) → StepKeeps q.setting (step_of_result q g go)
  valued_keeps (Gives mv rest) go w Q a k = k mv a
  valued_keeps (Asks request) go w Q a k = ticks_keep q.setting q request.place _ (λ r. (refl, w.1))
  valued_keeps (Fails kind at) go w Q a k = tt

  works_keep : (f : Frame) (fs : List Frame) (ws : List ContItem) → Keeps q.setting q → Standing q.setting.program f.method f.variables ws
      → ReturnsIn f.method ws → Answers f.method f.receiver → Waiting q.setting.program f.receiver fs
      → StepKeeps q.setting (works q f fs ws)
  works_keep f fs [] w k r a n = moves_keep f fs [] a n (Returns None) (ends (is_void (result_type f.method)) refl) (λ v. r v)
    where
      ends : (b : Bool) → is_void (result_type f.method) ≡ b → is_void (result_type f.method) ≡ true
      ends true z = z
      ends false z = absurd (r z)
  works_keep f fs (x ∷ left) w k r a n =
      let stands = performed_stands (env_of q f left) x left q.answers program.methods k in
      valued_keeps (exec_item (env_of q f left) x q.answers) (moves q f fs left) w (λ mv. MoveStands (env_of q f left) left mv × (is_void (result_type f.method) ≡ false → MoveReturns left mv))
      (both (exec_item (env_of q f left) x q.answers) stands (λ v. performed_returns (env_of q f left) x left q.answers (r v) stands v)) (λ mv m. moves_keep f fs left a n mv m.0 m.1)
    where
      both : (g : CompResult Move) → Giving (MoveStands (env_of q f left) left) g → (is_void (result_type f.method) ≡ false → Giving (MoveReturns left) g)
          → Giving (λ mv. MoveStands (env_of q f left) left mv × (is_void (result_type f.method) ≡ false → MoveReturns left mv)) g
      both (Gives mv rest) k r = (k, r)
      both (Asks request) k r = tt
      both (Fails kind at) k r = tt

  runs_keep : (fs : List Frame) → Keeps q.setting q → FramesStand q.setting.program fs → StepKeeps q.setting (runs q fs)
  runs_keep [] w k = tt
  runs_keep (f ∷ fs) w k = works_keep f fs f.left w k.0 k.1 k.2 k.3

  steps_keep : (wait : Option Wait) → q.wait ≡ wait → Keeps q.setting q → WaitStands q.setting.program wait q.frames → StepKeeps q.setting (steps q wait)
  steps_keep None z w k = runs_keep q.frames w k
  steps_keep (Some x) z w k = ticks_keep q.setting q x.place _ (λ r. (refl, handed_keeps q.setting.program x.receiver (value_asked x.wanted r) q.frames k.1 (λ e. k.0 (nothing_asked x.wanted r e))))
    where
      some_none : (h : Held) → ◌≡◌ {A = Option Held} (Some h) None → ⊥
      some_none h z = cc

      nothing_asked : (w : Wanted) (r : Answer) → value_asked w r ≡ None → w ≡ ToBeDone
      nothing_asked ToBeDone r e = refl
      nothing_asked (ValueOf type) r e = absurd (some_none _ e)
      nothing_asked (NewThing type) r e = absurd (some_none _ e)

pub step_keeps : (s : RunConfig) (q : Process) (st : Step) → ProgramStands s.program → Keeps s q → step q ≡ st → StepKeeps s st
step_keeps s q st program k z =
    subst (StepKeeps s) z
    (subst (λ (t : RunConfig). StepKeeps t (step q)) k.0 (steps_keep q (subst (λ (t : RunConfig). ProgramStands t.program) (sym k.0) program) q.wait refl (refl, at_own) at_own))
  where
    at_own : WaitStands q.setting.program q.wait q.frames
    at_own = subst (λ (t : RunConfig). WaitStands t.program q.wait q.frames) (sym k.0) k.1

-- ---- ways

way_keeps : (s : RunConfig) (p q : Process) (ms : List Meeting) → ProgramStands s.program → Keeps s p → Way p ms q → Keeps s q
way_keeps s p q [] g x way.stop = x
way_keeps s p r ms g x (way.silent {q = q} e w) = way_keeps s q r ms g (step_keeps s p (To q) g x e) w
way_keeps s p r ms g x (way.alone {at = at} {a = a} {wanted = v} {go = go} {answer = t} e y z w) = way_keeps s (go t) r ms g (step_keeps s p (At (asking at a v) go) g x e t) w
way_keeps s p r (m ∷ ms) g x (way.came {at = at} {kind = kind} {arg = arg} {given = d} {wanted = v} {go = go} {answer = t} e w) =
    way_keeps s (go t) r ms g (step_keeps s p (At (asking at (act.Arrive kind arg d) v) go) g x e t) w
way_keeps s p r (m ∷ ms) g x (way.left {at = at} {wanted = v} {go = go} {answer = t} e w) =
    way_keeps s (go t) r ms g (step_keeps s p (At (asking at act.Depart v) go) g x e t) w

begin_keeps : (s : RunConfig) (i : ℕ) → ProgramStands s.program → Keeps s (begin s i)
begin_keeps s i g = (refl, by (slice_get s.program.methods s.program.main) (at_stands s.program s.program.methods s.program.main g.methods) (λ m z. g.main m z))
  where
    none_held : (ps : NumberedParams) → is_words ps ≡ true → Holds (is_one (parameters_of ps)) []
    none_held MainArgs z v k = k
    none_held (Params params) z v k = absurd (true_false (sym z))

    by : (o : Option NumberedMethod) → OneStands s.program o → ((m : NumberedMethod) → o ≡ Some m → is_words m.params ≡ true)
        → FramesStand s.program (option_map_or (λ (main : NumberedMethod). frame_of main None [] Nowhere ∷ []) o [])
    by None k h = tt
    by (Some m) k h =
        (method_begins s.program m [] k (none_held m.params (h m refl)), (λ v. starts_returning s.program m m.body v (k.returns v) k.suit), (λ z. absurd (true_false (sym z))), tt)

-- in each process of a setting, on its way
pub kept : (s : RunConfig) (i : ℕ) (q : Process) (ms : List Meeting) → ProgramStands s.program → Way (begin s i) ms q → Keeps s q
kept s i q ms g w = way_keeps s (begin s i) q ms g (begin_keeps s i g) w
