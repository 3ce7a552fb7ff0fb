-- What a piece of work comes to is less than it and the answers that it used, but for what a tick pays.
use Rattle.std.proofs.Common.{◌≡◌, ℕ, ◌+◌, ◌<◌, ◌≤◌, Bool, true, false, if◌then◌else◌, Option, Some, None, List, [], ◌∷◌, length, slice_get, option_map, pos, refl, arith}
use Rattle.ti_base.specs.declared.place.Place.{Place}
use Rattle.ti_base.specs.declared.point.Point.{Point}
use Rattle.ti_base.specs.declared.fault.FaultKind.{FaultKind}
use Rattle.ti_base.specs.declared.entry.Answer.{Answer}
use Rattle.ti_lang.specs.Program.Types.{ValueType, Class}
use Rattle.ti_lang.specs.Program.Expressions.{NumberedExp, NumberedExps}
use Rattle.ti_lang.specs.Program.Expressions as e
use Rattle.ti_lang.specs.Program.Statements.{NumberedInit, NumberedPrint, NumberedStm, MaybeNumbered, NoStm, SomeStm, NumberedStms, Nil, Cons, numbered_stms}
use Rattle.ti_lang.specs.Program.Statements as s
use Rattle.ti_lang.specs.Program.Classes.{NumberedMethod, ProgramView}
use Rattle.ti_lang.specs.Program.Scope.{this_of}
use Rattle.ti_lang.specs.Typing.BuiltIn.{BuiltIn, Copy, Exchange, Delete}
use Rattle.ti_lang.specs.Typing.TextTypes.{syntactic_type}
use Rattle.ti_lang.specs.Typing.Called.{method_behind, member_called}
use Rattle.ti_lang.specs.Meaning.Held.{Held, truth_of}
use Rattle.ti_lang.specs.Meaning.Comp.{Reference, Comp, CompResult, Gives, Asks, Fails, bind_result, gives, guard}
use Rattle.ti_lang.specs.Meaning.Evaluation.{eval}
use Rattle.ti_lang.specs.Meaning.Makers.{new_object, new_grid}
use Rattle.ti_lang.specs.Meaning.Processes.{Variable, Receiver, Nowhere, Declared, Assigned, Updated, While, Foreach, ContItem, Do, End, Before, Behind, Receive, CopyAll, TakeAll}
use Rattle.ti_lang.specs.Meaning.Scoping.{Env}
use Rattle.ti_lang.specs.Meaning.Copies.{copies}
use Rattle.ti_lang.specs.Meaning.Collectives.{broadcasts, exchanges, deletes}
use Rattle.ti_lang.specs.Meaning.Calls.{Call, call_of, called, calling}
use Rattle.ti_lang.specs.Meaning.Moves.{Move, Goes, Turns, Breaks, Continues, Calls, Returns, Meets, Deletes, receives}
use Rattle.ti_lang.specs.Meaning.Statements.{made_first, valued_or_called, initialized, member_alone, alone, printed, one_more, declared_as, maybe_do, returns, statement}
use Rattle.ti_lang.specs.Meaning.Performing.{condition, exec_item}
use Rattle.ti_lang.proofs.MeaningLaws.Sizes.{size, size_maybe, sizes, weight_of, weigh, need, Fits, MethodsFit, OneFits, at_fits, instance_fits, weigh_append, fits_append, weigh_before, fits_before}

-- the move leaves less than k, and b more where it costs a tick
abbrev pub MoveFalls : ℕ → ℕ → Move → Type 0
MoveFalls b k (Goes variables works) = (weigh works < k) × Fits b works
MoveFalls b k (Turns at variables works) = (weigh works < k + b) × Fits b works
MoveFalls b k Breaks = 0 < k
MoveFalls b k Continues = 0 < k
MoveFalls b k (Calls at m this parameters receiver) = sizes (numbered_stms m.body) + 3 ≤ b
MoveFalls b k (Returns value) = Unit {0}
MoveFalls b k (Meets wait given behind) = Unit {0}
MoveFalls b k (Deletes at region) = Unit {0}

-- Q of what a computation gives
abbrev pub Giving : {A : Type 0} → (A → Type 0) → CompResult A → Type 0
Giving Q (Gives a rest) = Q a
Giving Q (Asks request) = Unit {0}
Giving Q (Fails kind at) = Unit {0}

pub then_giving : {A B : Type 0} (Q : B → Type 0) (m : CompResult A) (go : A → Comp B) → ((a : A) (rest : List Answer) → Giving Q (go a rest)) → Giving Q (bind_result m go)
then_giving Q (Gives a rest) go h = h a rest
then_giving Q (Asks request) go h = tt
then_giving Q (Fails kind at) go h = tt

pub guarded_giving : {A : Type 0} (Q : A → Type 0) (test : Bool) (kind : FaultKind) (at : Place) (a : A) (rest : List Answer) → Q a → Giving Q (guard test kind at a rest)
guarded_giving Q true kind at a rest h = h
guarded_giving Q false kind at a rest h = tt

-- ---- more to fall from

falls_more : (b k n : ℕ) (move : Move) → MoveFalls b k move → MoveFalls b (k + n) move
falls_more b k n (Goes variables works) h = (omega (arith, h.0), h.1)
falls_more b k n (Turns at variables works) h = (omega (arith, h.0), h.1)
falls_more b k n Breaks h = omega arith
falls_more b k n Continues h = omega arith
falls_more b k n (Calls at m this parameters receiver) h = h
falls_more b k n (Returns value) h = h
falls_more b k n (Meets wait given behind) h = h
falls_more b k n (Deletes at region) h = h

giving_more : (b k n : ℕ) (got : CompResult Move) → Giving (MoveFalls b k) got → Giving (MoveFalls b (k + n)) got
giving_more b k n (Gives move rest) h = falls_more b k n move h
giving_more b k n (Asks request) h = h
giving_more b k n (Fails kind at) h = h

-- ---- sizes

weigh_maybe : (x : MaybeNumbered) → weigh (maybe_do x) ≡ size_maybe x
weigh_maybe NoStm = refl
weigh_maybe (SomeStm x) = omega arith

fits_maybe : (b : ℕ) (x : MaybeNumbered) → size_maybe x ≤ b → Fits b (maybe_do x)
fits_maybe b NoStm h = tt
fits_maybe b (SomeStm x) h = (h, tt)

-- ---- calls

-- the body of what is called, if something is, is no larger than b
abbrev pub CallFits : ℕ → Option Call → Type 0
CallFits b None = Unit {0}
CallFits b (Some c) = sizes (numbered_stms c.method.body) + 3 ≤ b

-- what is made of a method that fits
by_method : (b : ℕ) (at : Place) (object : Option NumberedExp) (args : NumberedExps) (o : Option NumberedMethod) → OneFits b o → CallFits b (option_map (call_of at object args) o)
by_method b at object args None h = tt
by_method b at object args (Some m) h = h

behind_fits : (b : ℕ) (p : ProgramView) (t : ValueType) (name : ℕ) → MethodsFit b p → OneFits b (method_behind p t name)
behind_fits b p (Class c is_local) name f = instance_fits b p c name f
behind_fits b p _ name f = tt

pub called_fits : (b : ℕ) (env : Env) (x : NumberedExp) → MethodsFit b env.program → CallFits b (called env x)
called_fits b env (e.Call at method args) f = by_method b at None args (slice_get env.program.methods method) (at_fits b env.program.methods method f)
called_fits b env (e.OwnCall at method args) f = by_method b at _ args (slice_get env.program.methods method) (at_fits b env.program.methods method f)
called_fits b env (e.Member at x name args) f =
    let t = syntactic_type env.program (this_of env.method) x in
    by_method b at (Some x) args (method_behind env.program t name) (behind_fits b env.program t name f)
called_fits b env _ f = tt

-- ---- right sides and statements

module _ (b : ℕ) (k : ℕ) (some : 0 < k) where
  goes_falls : (variables : List Variable) → MoveFalls b k (Goes variables [])
  goes_falls variables = (some, tt)

  receives_falls : (env : Env) (receiver : Receiver) (right : Comp Held) (rest : List Answer) → Giving (MoveFalls b k) (receives env receiver right rest)
  receives_falls env receiver right rest = search (then_giving, goes_falls)

  calling_falls : (env : Env) (receiver : Receiver) (c : Call) (rest : List Answer) → sizes (numbered_stms c.method.body) + 3 ≤ b → Giving (MoveFalls b k) (calling env receiver c rest)
  calling_falls env receiver c rest f = search (then_giving, f)

  broadcasts_falls : (env : Env) (receiver : Receiver) (at : Place) (x p : NumberedExp) (rest : List Answer) → Giving (MoveFalls b k) (broadcasts env receiver at x p rest)
  broadcasts_falls env receiver at x p rest = search then_giving

  exchanges_falls : (env : Env) (at : Place) (x : NumberedExp) (args : NumberedExps) (rest : List Answer) → Giving (MoveFalls b k) (exchanges env at x args rest)
  exchanges_falls env at x args rest = search (then_giving, guarded_giving) depth 12

  deletes_falls : (env : Env) (at : Place) (x : NumberedExp) (rest : List Answer) → Giving (MoveFalls b k) (deletes env at x rest)
  deletes_falls env at x rest = search then_giving

  made_falls : (env : Env) (receiver : Receiver) (new : Comp Held) (rest : List Answer) → Giving (MoveFalls b k) (made_first env receiver new rest)
  made_falls env receiver new rest = search (then_giving, goes_falls)

  value_falls : (env : Env) (receiver : Receiver) (x : NumberedExp) (o : Option Call) (rest : List Answer) → CallFits b o → Giving (MoveFalls b k) (valued_or_called env receiver x o rest)
  value_falls env receiver x None rest f = receives_falls env receiver (eval env x) rest
  value_falls env receiver x (Some c) rest f = calling_falls env receiver c rest f

  initialized_falls : (env : Env) (receiver : Receiver) (value : NumberedInit) (rest : List Answer) → MethodsFit b env.program → Giving (MoveFalls b k) (initialized env receiver value rest)
  initialized_falls env receiver (s.Value x) rest f = value_falls env receiver x (called env x) rest (called_fits b env x f)
  initialized_falls env receiver (s.NewRegion at) rest f = tt
  initialized_falls env receiver (s.NewObject at region class) rest f = made_falls env receiver (new_object env at region class) rest
  initialized_falls env receiver (s.NewGrid at region element dims_at dims) rest f = made_falls env receiver (new_grid env at region element.type dims_at dims) rest
  initialized_falls env receiver (s.Broadcast at x p) rest f = broadcasts_falls env receiver at x p rest

  prints_falls : (env : Env) (at : Place) (what : NumberedPrint) (rest : List Answer) → Giving (MoveFalls b k) (printed env at what rest)
  prints_falls env at s.Nothing rest = search (then_giving, goes_falls)
  prints_falls env at (s.Text literal) rest = search (then_giving, goes_falls)
  prints_falls env at (s.Expression x) rest = search (then_giving, goes_falls)
  prints_falls env at (s.TextAndExpression literal x) rest = search (then_giving, goes_falls)

  returns_falls : (env : Env) (at : Place) (value : Option NumberedExp) (rest : List Answer) → Giving (MoveFalls b k) (returns env at value rest)
  returns_falls env at None rest = tt
  returns_falls env at (Some x) rest = search then_giving

-- ---- expressions that stand alone

copy_falls : (b : ℕ) (variables : List Variable) (at : Place) (to from : Reference) (points : List Point) → MoveFalls b 2 (Goes variables (CopyAll at to from points ∷ []))
copy_falls b variables at to from points = (omega arith, (omega arith, tt))

copies_falls : (b : ℕ) (env : Env) (at : Place) (x : NumberedExp) (args : NumberedExps) (rest : List Answer) → Giving (MoveFalls b 2) (copies env at x args rest)
copies_falls b env at x args rest = search (then_giving, copy_falls) depth 14

member_falls : (b : ℕ) (env : Env) (at : Place) (x : NumberedExp) (args : NumberedExps) (other : Comp Move) (o : Option BuiltIn) (rest : List Answer)
    → Giving (MoveFalls b 2) (other rest) → Giving (MoveFalls b 2) (member_alone env at x args other o rest)
member_falls b env at x args other (Some Copy) rest h = copies_falls b env at x args rest
member_falls b env at x args other (Some Exchange) rest h = exchanges_falls b 2 (omega arith) env at x args rest
member_falls b env at x args other (Some Delete) rest h = deletes_falls b 2 (omega arith) env at x rest
member_falls b env at x args other _ rest h = h

alone_falls : (b : ℕ) (env : Env) (x : NumberedExp) (o : Option Call) (rest : List Answer) → CallFits b o → Giving (MoveFalls b 2) (alone env x o rest)
alone_falls b env x (Some c) rest f = calling_falls b 2 (omega arith) env Nowhere c rest f
alone_falls b env (e.Member at x name args) None rest f =
    member_falls b env at x args _ (member_called env.program (this_of env.method) x name) rest (receives_falls b 2 (omega arith) env Nowhere (eval env (e.Member at x name args)) rest)
alone_falls b env x None rest f = receives_falls b 2 (omega arith) env Nowhere (eval env x) rest

-- ---- statements

-- the branch that is chosen weighs less than both
chosen_falls : (b n : ℕ) (test : Bool) (x y : List ContItem) → weigh x < n → weigh y < n → Fits b x → Fits b y → (weigh (if test then x else y) < n) × Fits b (if test then x else y)
chosen_falls b n true x y h g p q = (h, p)
chosen_falls b n false x y h g p q = (g, q)

chosen_size : (test : Bool) (x y : NumberedStm) → size (if test then x else y) ≤ size x + size y
chosen_size true x y = omega arith
chosen_size false x y = omega arith

pub statement_falls : (b : ℕ) (env : Env) (x : NumberedStm) (rest : List Answer) → MethodsFit b env.program → size x ≤ b → Giving (MoveFalls b (size x)) (statement env x rest)
statement_falls b env s.Empty rest f h = (omega arith, tt)
statement_falls b env (s.Declare at type variable value) rest f h = initialized_falls b 1 (omega arith) env (Declared at (declared_as type variable)) value rest f
statement_falls b env (s.Assign at target value) rest f h = initialized_falls b 1 (omega arith) env (Assigned at target) value rest f
statement_falls b env (s.Update at op target x) rest f h = initialized_falls b 1 (omega arith) env (Updated at op target) (s.Value x) rest f
statement_falls b env (s.Step at op target) rest f h = initialized_falls b 1 (omega arith) env (Updated at (one_more op) target) (s.Value (e.Int at (pos 1))) rest f
statement_falls b env (s.Call x) rest f h = alone_falls b env x (called env x) rest (called_fits b env x f)
statement_falls b env (s.Print at what) rest f h = prints_falls b 1 (omega arith) env at what rest
statement_falls b env (s.Barrier at) rest f h = tt
statement_falls b env (s.Block body) rest f h =
    (omega (arith, weigh_before body (End (s.Block body) ∷ [])), fits_before b body _ (omega arith) (omega arith, tt))
statement_falls b env (s.If at c x) rest f h =
    then_giving (MoveFalls b (size x + 1)) (eval env c rest) _ (λ v r. chosen_falls b (size x + 1) (truth_of v) (Do x ∷ []) [] (omega arith) (omega arith) (omega arith, tt) tt)
statement_falls b env (s.IfElse at c x y) rest f h =
    then_giving (MoveFalls b (size x + size y + 1)) (eval env c rest) _ (λ v r.
    let n = chosen_size (truth_of v) x y in (omega arith, (omega arith, tt)))
statement_falls b env (s.While at c body) rest f h = (omega arith, (omega arith, tt))
statement_falls b env (s.For at first c update body) rest f h =
    let works = Before (While at c update body) ∷ End (s.For at first c update body) ∷ [] in
    (omega (arith, weigh_append (maybe_do first) works, weigh_maybe first), fits_append b (maybe_do first) works (fits_maybe b first (omega arith)) (omega arith, (omega arith, tt)))
statement_falls b env (s.Foreach at variable domain body) rest f h =
    then_giving (MoveFalls b (size body + 3)) (eval env domain rest) _ (λ v r. (omega arith, (omega arith, tt)))
statement_falls b env (s.Break at) rest f h = omega arith
statement_falls b env (s.Continue at) rest f h = omega arith
statement_falls b env (s.Return at value) rest f h = returns_falls b 1 (omega arith) env at value rest

-- ---- other work

pub work_falls : (b : ℕ) (env : Env) (w : ContItem) (rest : List Answer) → MethodsFit b env.program → need w ≤ b → Giving (MoveFalls b (weight_of w + length rest)) (exec_item env w rest)
work_falls b env (Do x) rest f h = giving_more b (size x) (length rest) (statement env x rest) (statement_falls b env x rest f h)
work_falls b env (End x) rest f h = (omega arith, tt)
work_falls b env (Before (While at c update body)) rest f h =
    then_giving (MoveFalls b (1 + length rest)) (condition env c rest) _ (λ v r. turn (truth_of v))
  where
    turn : (test : Bool) → MoveFalls b (1 + length rest) (if test then Turns at env.variables (Do body ∷ Behind (While at c update body) ∷ []) else Goes env.variables [])
    turn true = (omega arith, (omega arith, (omega arith, tt)))
    turn false = (omega arith, tt)
work_falls b env (Before (Foreach at variable domain [] body)) rest f h = (omega arith, tt)
work_falls b env (Before (Foreach at variable domain (p ∷ ps) body)) rest f h = (omega arith, (omega arith, (omega arith, tt)))
work_falls b env (Behind (While at c update body)) rest f h =
    let works = Before (While at c update body) ∷ [] in
    (omega (arith, weigh_append (maybe_do update) works, weigh_maybe update), fits_append b (maybe_do update) works (fits_maybe b update (omega arith)) (omega arith, tt))
work_falls b env (Behind (Foreach at variable domain [] body)) rest f h = (omega arith, (omega arith, tt))
work_falls b env (Behind (Foreach at variable domain (p ∷ ps) body)) rest f h = (omega arith, (omega arith, tt))
work_falls b env (Receive receiver v) rest f h = giving_more b 1 (length rest) _ (receives_falls b 1 (omega arith) env receiver (gives v) rest)
work_falls b env (CopyAll at to from []) rest f h = (omega arith, tt)
work_falls b env (CopyAll at to from (p ∷ ps)) [] f h = tt
work_falls b env (CopyAll at to from (p ∷ ps)) (r ∷ []) f h = tt
work_falls b env (CopyAll at to from (p ∷ ps)) (r ∷ t ∷ rest) f h = (omega arith, (omega arith, tt))
work_falls b env (TakeAll at grid []) rest f h = (omega arith, tt)
work_falls b env (TakeAll at grid (i ∷ is)) [] f h = tt
work_falls b env (TakeAll at grid (i ∷ is)) (r ∷ []) f h = tt
work_falls b env (TakeAll at grid (i ∷ is)) (r ∷ t ∷ rest) f h = (omega arith, (omega arith, tt))
