-- The slice makes finitely many steps by itself.
use Rattle.std.proofs.Common.{◌≡◌, ℕ, ◌+◌, ◌<◌, ◌≤◌, length, Bool, true, false, if◌then◌else◌, pos, Option, Some, None, List, [], ◌∷◌, refl, ap, sym, subst, arith}
use Rattle.ti_base.specs.declared.place.Place.{Place}
use Rattle.ti_lang.specs.Program.Expressions.{NumberedExp}
use Rattle.ti_lang.specs.Program.Expressions as e
use Rattle.ti_lang.specs.Program.Statements.{NumberedInit, NumberedStm, numbered_stms}
use Rattle.ti_lang.specs.Program.Statements as s
use Rattle.ti_lang.specs.Program.Scope.{this_of}
use Rattle.ti_lang.specs.Typing.BuiltIn.{BuiltIn, Exchange, Delete}
use Rattle.ti_lang.specs.Typing.Called.{member_called}
use Rattle.ti_lang.specs.Typing.Singleness.{has_single_result}
use Rattle.ti_lang.specs.Meaning.Comp.{gives}
use Rattle.ti_lang.specs.Meaning.Evaluation.{eval}
use Rattle.ti_lang.specs.Meaning.Processes.{Variable, Receiver, Nowhere, Declared, Assigned, Updated, ContItem, Do, Frame, Wait, Process}
use Rattle.ti_lang.specs.Meaning.Scoping.{Env, env_of}
use Rattle.ti_lang.specs.Meaning.Calls.{Call, called}
use Rattle.ti_lang.specs.Meaning.Moves.{Goes, Returns, goes_on, receives}
use Rattle.ti_lang.specs.Meaning.Statements.{one_more, declared_as, returns}
use Rattle.ti_lang.specs.Meaning.Steps.{moves}
use Rattle.ti_lang.proofs.Lemmas.{size, sizes, weight_of, weigh, need, Fits, FitsAll, MethodsFit, Fitting, Falls, ticks_fall, if_falls}
use Rattle.ti_lang.proofs.Lemmas.{goes_falls, returns_fall, moves_fall, valued_falls, MoveFalls, Giving, then_giving, CallFits, called_fits}
use Rattle.ti_lang.proofs.Lemmas.{work_falls}
use Rattle.ti_align.specs.Slice.{is_single_receiver, work_acts, single_calling, single_value, single_initial, single_member, single_alone, single_return, single_performed, slice_works, slice_runs, slice_steps, slice_step}

-- ---- what is evaluated from single values

module _ (b k : ℕ) (some : 0 < k) (env : Env) where
  stays : (variables : List Variable) → MoveFalls b k (Goes variables [])
  stays variables = (some, tt)

  calling_falls : (receiver : Receiver) (c : Call) → sizes (numbered_stms c.method.body) + 3 ≤ b → Giving (MoveFalls b k) (single_calling env receiver c [])
  calling_falls receiver c h = search (then_giving, h)

  value_falls : (receiver : Receiver) (x : NumberedExp) (o : Option Call) → CallFits b o → Giving (MoveFalls b k) (single_value env receiver x o [])
  value_falls receiver x (Some c) h = calling_falls receiver c h
  value_falls receiver x None h = go (is_single_receiver receiver)
    where
      go : (t : Bool) → Giving (MoveFalls b k) ((if t then receives env receiver (eval env x) else goes_on env) [])
      go true = search (then_giving, stays)
      go false = (some, tt)

  initial_falls : (receiver : Receiver) (value : NumberedInit) → MethodsFit b env.program → Giving (MoveFalls b k) (single_initial env receiver value [])
  initial_falls receiver (s.Value x) m = value_falls receiver x (called env x) (called_fits b env x m)
  initial_falls receiver (s.NewRegion at) m = tt
  initial_falls receiver (s.NewObject at region class) m = (some, tt)
  initial_falls receiver (s.NewGrid at region element dims_at dims) m = (some, tt)
  initial_falls receiver (s.Broadcast at x root) m = search then_giving

  member_falls : (at : Place) (x : NumberedExp) (o : Option BuiltIn) → Giving (MoveFalls b k) (single_member env at x o [])
  member_falls at x (Some Exchange) = tt
  member_falls at x (Some Delete) = search then_giving
  member_falls at x _ = (some, tt)

  alone_falls : (x : NumberedExp) (o : Option Call) → CallFits b o → Giving (MoveFalls b k) (single_alone env x o [])
  alone_falls x (Some c) h = calling_falls Nowhere c h
  alone_falls (e.Member at x name args) None h = member_falls at x (member_called env.program (this_of env.method) x name)
  alone_falls _ None h = (some, tt)

  return_falls : (at : Place) (value : Option NumberedExp) → Giving (MoveFalls b k) (single_return env at value [])
  return_falls at value = go (has_single_result env.method) value
    where
      go : (t : Bool) (value : Option NumberedExp) → Giving (MoveFalls b k) ((if t then returns env at value else gives (Returns None)) [])
      go true None = tt
      go true (Some x) = search then_giving
      go false value = tt

-- ---- work

positive : (x : NumberedStm) → 0 < size x
positive (s.Block body) = omega arith
positive (s.If at c x) = omega arith
positive (s.IfElse at c x y) = omega arith
positive (s.While at c body) = omega arith
positive (s.For at first c update body) = omega arith
positive (s.Foreach at variable domain body) = omega arith
positive (s.Call x) = omega arith
positive _ = omega arith

weighs : (w : ContItem) → 0 < weight_of w
weighs (Do x) = positive x
weighs _ = omega arith

single_falls : (b : ℕ) (env : Env) (w : ContItem) → MethodsFit b env.program → need w ≤ b → Giving (MoveFalls b (weight_of w + 0)) (single_performed env w [])
single_falls b env (Do (s.Declare at type variable value)) m n = initial_falls b (1 + 0) (omega arith) env (Declared at (declared_as type variable)) value m
single_falls b env (Do (s.Assign at target value)) m n = initial_falls b (1 + 0) (omega arith) env (Assigned at target) value m
single_falls b env (Do (s.Update at op target x)) m n = initial_falls b (1 + 0) (omega arith) env (Updated at op target) (s.Value x) m
single_falls b env (Do (s.Step at op target)) m n = initial_falls b (1 + 0) (omega arith) env (Updated at (one_more op) target) (s.Value (e.Int at (pos 1))) m
single_falls b env (Do (s.Call x)) m n = alone_falls b (2 + 0) (omega arith) env x (called env x) (called_fits b env x m)
single_falls b env (Do (s.Return at value)) m n = return_falls b (1 + 0) (omega arith) env at value
single_falls b env (Do x) m n = work_falls b env (Do x) [] m n
single_falls b env w m n = work_falls b env w [] m n

-- ---- steps

plus_none : (a b c : ℕ) → 0 < a → c ≡ a + b → b < c + 0
plus_none a b c h e = omega (arith, h, e)

no_answers : (p : Process) → p.answers ≡ [] → length p.answers ≡ 0
no_answers p e = ap length e

works_fall : (b : ℕ) (p : Process) (f : Frame) (fs : List Frame) (ws : List ContItem) → p.answers ≡ [] → p.frames ≡ f ∷ fs → f.left ≡ ws
    → Fits b ws → FitsAll b fs → MethodsFit b p.setting.program → Falls b p (slice_works p f fs ws)
works_fall b p f fs [] a e z x y m = returns_fall b p f fs [] None e y m
works_fall b p f fs (w ∷ left) a e z x y m =
    if_falls b p (work_acts p.setting.program f.method left w) _ _
    (valued_falls b p (weight_of w + 0) (single_performed (env_of p f left) w []) (moves p f fs left) (single_falls b (env_of p f left) w m x.0)
    (λ move h. moves_fall b p f fs w left move e z (subst (λ n. MoveFalls b (weight_of w + n) move) (sym (no_answers p a)) h) x.1 y m))
    (goes_falls b p f fs f.variables left e (subst (λ n. weigh left < weigh f.left + n) (sym (no_answers p a)) (plus_none (weight_of w) (weigh left) (weigh f.left) (weighs w) (ap weigh z))) x.1 y m)

runs_fall : (b : ℕ) (p : Process) (fs : List Frame) → p.answers ≡ [] → p.frames ≡ fs → FitsAll b fs → MethodsFit b p.setting.program → Falls b p (slice_runs p fs)
runs_fall b p [] a e x m = tt
runs_fall b p (f ∷ fs) a e x m = works_fall b p f fs f.left a e refl x.0 x.1 m

steps_fall : (b : ℕ) (p : Process) (w : Option Wait) → p.answers ≡ [] → Fitting b p → Falls b p (slice_steps p w)
steps_fall b p None a f = runs_fall b p p.frames a refl f.0 f.1
steps_fall b p (Some w) a f = ticks_fall b p w.place _ (λ t. tt)

pub slice_falls : (b : ℕ) (p : Process) → p.answers ≡ [] → Fitting b p → Falls b p (slice_step p)
slice_falls b p a f = steps_fall b p p.wait a f
