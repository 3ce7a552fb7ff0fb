-- Work hands regions on: variables of their type hold regions with numbers above 0 behind each move, where they did before it.
use Rattle.std.proofs.Common.{◌≡◌, ℕ, zero, suc, ◌==◌, ◌&&◌, find, cond, Bool, true, false, ◌⊎◌, inl, inr, if◌then◌else◌, pos, option_map, slice_get, Option, Some, None, List, [], ◌∷◌, ◌++◌, refl, ap, sym, ◌∙◌, subst}
use Rattle.ti_base.specs.declared.place.Place.{Place}
use Rattle.ti_base.specs.declared.point.Point.{Point}
use Rattle.ti_base.specs.declared.fault.FaultKind.TheVariants.{ExchangeDomain}
use Rattle.ti_base.specs.declared.action.CollKind.{CollKind}
use Rattle.ti_base.specs.declared.action.CollKind.TheVariants as coll
use Rattle.ti_base.specs.declared.entry.Answer.{Answer}
use Rattle.ti_lang.specs.Members.{only_if}
use Rattle.ti_lang.specs.Program.Types.{ValueType, Declaration, VariableUse}
use Rattle.ti_lang.specs.Program.Types as t
use Rattle.ti_lang.specs.Program.Expressions.{NumberedExp, NumberedExps, place_of_numbered}
use Rattle.ti_lang.specs.Program.Expressions as e
use Rattle.ti_lang.specs.Program.Statements.{NumberedInit, NumberedPrint, NumberedStm, MaybeNumbered, NoStm, SomeStm, NumberedStms, numbered_stms}
use Rattle.ti_lang.specs.Program.Statements as s
use Rattle.ti_lang.specs.Program.Classes.{NumberedMethod, ProgramView}
use Rattle.ti_lang.specs.Program.Scope.{this_of}
use Rattle.ti_lang.specs.Typing.BuiltIn.{BuiltIn, Copy, Exchange, Delete}
use Rattle.ti_lang.specs.Typing.TextTypes.{used_type, syntactic_type}
use Rattle.ti_lang.specs.Typing.Declared.{result_type, instance_method}
use Rattle.ti_lang.specs.Typing.Called.{called_method, method_behind, member_called}
use Rattle.ti_lang.specs.Meaning.Held.{Held, truth_of}
use Rattle.ti_lang.specs.Meaning.Comp.{Reference, Comp, ◌>>=◌, CompResult, Gives, Asks, Fails, gives, asked, needed}
use Rattle.ti_lang.specs.Meaning.Conversions.{converted}
use Rattle.ti_lang.specs.Meaning.Operators.{apply_binary}
use Rattle.ti_lang.specs.Meaning.Processes.{Variable, Receiver, Nowhere, Declared, Assigned, Updated, Loop, While, Foreach, ContItem, Do, End, Before, Behind, Receive, CopyAll, TakeAll}
use Rattle.ti_lang.specs.Meaning.Scoping.{Env, value_by, type_of, declared_type, with_new}
use Rattle.ti_lang.specs.Meaning.Evaluation.{kept_local, eval, eval_all, eval_numbers}
use Rattle.ti_lang.specs.Meaning.Targets.{Target, InVariable, InPart, located, held_in, stored, into}
use Rattle.ti_lang.specs.Meaning.CellRefs.{Field, Element, domain_asked}
use Rattle.ti_lang.specs.Meaning.Makers.{new_object, new_grid}
use Rattle.ti_lang.specs.Meaning.Copies.{copies, copied, taken}
use Rattle.ti_lang.specs.Meaning.Collectives.{root_among, root_deposit, broadcasts, exchanges}
use Rattle.ti_lang.specs.Meaning.Calls.{Call, call_of, called, parameters_of, bind_params, maybe_eval, maybe_needed, calling}
use Rattle.ti_lang.specs.Meaning.Moves.{Move, Goes, Turns, Breaks, Continues, Calls, Returns, Meets, Deletes, receives}
use Rattle.ti_lang.specs.Meaning.Statements.{made_first, valued_or_called, initialized, member_alone, alone, printed, one_more, declared_as, maybe_do, statement}
use Rattle.ti_lang.specs.Meaning.Performing.{condition, declared_in, exec_item}
use Rattle.ti_lang.proofs.Lemmas.{Giving, then_giving, guarded_giving}
use Rattle.ti_rules.specs.InitialTypes.{is_region_type}
use Rattle.ti_align.proofs.Alignment.Fitting.{giving_followed}
use Rattle.ti_align.proofs.Runs.Vars.{true_false, and_left, and_right}
use Rattle.ti_align.specs.Scoped.{Names, KnownAs, ExpScoped, ExpsScoped, InitScoped, is_among, StmUses, WorkUses}
use Rattle.ti_align.proofs.Scope.Suited.{args_of}
use Rattle.ti_align.proofs.Scope.Leading.{giving_with}
use Rattle.ti_align.proofs.Regions.Regional.{Good, GoodAs, good_region, AllGood, find_good, changed_good, without_good, is_region_exp}
use Rattle.ti_align.proofs.Regions.Regional.{IsSuch, ArgsAreSuch, target_type, received_type, ReceiverSuits, CallIsSuch, InitIsSuch}
use Rattle.ti_align.proofs.Regions.Regional.{DeletesSuch, StmIsSuch, MaybeIsSuch, StmsAreSuch, LoopIsSuch, WorkIsSuch, WorksAreSuch}
use Rattle.ti_align.proofs.Regions.Regional.{such_before, MethodsAreSuch}

-- ---- what is given

giving_any : {A : Type 0} (Q : A → Type 0) (g : CompResult A) → ((a : A) → Q a) → Giving Q g
giving_any Q (Gives a rest) f = f a
giving_any Q (Asks q) f = tt
giving_any Q (Fails kind at) f = tt

-- a value of another type
no_region : (type : ValueType) (h : Held) → is_region_type type ≡ false → GoodAs type h
no_region type h k z = absurd (true_false (sym z ∙ k))

-- a region stays what it is
converted_good : (at : Place) (type : ValueType) (h : Held) (rest : List Answer) → GoodAs type h → Giving (GoodAs type) (converted at type h rest)
converted_good at t.Region h rest g = g
converted_good at t.Int h rest g = giving_any _ (converted at t.Int h rest) (λ x. no_region t.Int x refl)
converted_good at t.Long h rest g = giving_any _ (converted at t.Long h rest) (λ x. no_region t.Long x refl)
converted_good at t.Boolean h rest g = giving_any _ (converted at t.Boolean h rest) (λ x. no_region t.Boolean x refl)
converted_good at (t.Pt n) h rest g = giving_any _ (converted at (t.Pt n) h rest) (λ x. no_region (t.Pt n) x refl)
converted_good at (t.Rc n) h rest g = giving_any _ (converted at (t.Rc n) h rest) (λ x. no_region (t.Rc n) x refl)
converted_good at (t.Dm n) h rest g = giving_any _ (converted at (t.Dm n) h rest) (λ x. no_region (t.Dm n) x refl)
converted_good at (t.Class c l) h rest g = giving_any _ (converted at (t.Class c l) h rest) (λ x. no_region (t.Class c l) x refl)
converted_good at (t.Grid y n l) h rest g = giving_any _ (converted at (t.Grid y n l) h rest) (λ x. no_region (t.Grid y n l) x refl)
converted_good at t.Null h rest g = giving_any _ (converted at t.Null h rest) (λ x. no_region t.Null x refl)
converted_good at t.Void h rest g = giving_any _ (converted at t.Void h rest) (λ x. no_region t.Void x refl)

-- a cast to a region
cast_good : (number : ℕ) (at : Place) (type : ValueType) (h : Held) (rest : List Answer) → is_region_type type ≡ true → Good h → Giving Good ((converted at type h >>= kept_local number at type) rest)
cast_good number at t.Region h rest k g = g
cast_good number at _ h rest k g = absurd (true_false (sym k))

module _ (env : Env) (good : AllGood env.variables) where
  -- ---- expressions

  abbrev pub Finding : Names
  Finding = λ x. is_among x env.variables

  variable_good : (d : Declaration) (x : VariableUse) → x.declared ≡ d → KnownAs Finding x d → is_region_type (declared_type d) ≡ true → Good (value_by d env x)
  variable_good (t.Typed is_single type) x z k r = find_good x env.variables k good (ap (λ d. is_region_type (declared_type d)) z ∙ r)
  variable_good t.Foreach x z k r = absurd (true_false (sym r))

  eval_good : (x : NumberedExp) (rest : List Answer) → ExpScoped Finding x → is_region_exp x ≡ true → Giving Good (eval env x rest)
  eval_good (e.Variable at x) rest k r = variable_good x.declared x refl k r
  eval_good (e.Cast at to x) rest k r =
      giving_followed Good Good (eval env x rest) _ (eval_good x rest k (and_right (is_region_type to.type) _ r)) (λ h u g. cast_good env.number at to.type h u (and_left (is_region_type to.type) _ r) g)
  eval_good _ rest k r = absurd (true_false (sym r))

  eval_as : (type : ValueType) (x : NumberedExp) (rest : List Answer) → ExpScoped Finding x → IsSuch type x → Giving (GoodAs type) (eval env x rest)
  eval_as type x rest k f = by (is_region_type type) refl
    where
      by : (b : Bool) → is_region_type type ≡ b → Giving (GoodAs type) (eval env x rest)
      by true z = giving_with Good (GoodAs type) (eval env x rest) (λ h g y. g) (eval_good x rest k (f z))
      by false z = giving_any (GoodAs type) (eval env x rest) (λ h. no_region type h z)

  -- ---- what is stored

  abbrev PlaceGood : Target → Held → Type 0
  PlaceGood (InVariable x) h = GoodAs (declared_type x.declared) h
  PlaceGood (InPart part) h = Unit {0}

  abbrev PlaceOf : ValueType → Target → Type 0
  PlaceOf type place = (h : Held) → GoodAs type h → PlaceGood place h

  stored_good : (at : Place) (place : Target) (h : Held) (rest : List Answer) → PlaceGood place h → Giving AllGood (stored env at place h rest)
  stored_good at (InVariable x) h rest k = changed_good x h env.variables k good
  stored_good at (InPart (Field object through field)) h rest k = then_giving AllGood (needed at through object rest) _ (λ r u. then_giving AllGood (asked _ u) _ (λ d z. good))
  stored_good at (InPart (Element grid through index)) h rest k = then_giving AllGood (needed at through grid rest) _ (λ r u. then_giving AllGood (asked _ u) _ (λ d z. good))

  located_good : (target : NumberedExp) (rest : List Answer) → Giving (PlaceOf (target_type target)) (located env target rest)
  located_good (e.Variable at x) rest = λ h g. g
  located_good (e.Select at x name) rest = then_giving (PlaceOf t.Void) (eval env x rest) _ (λ h u. λ k g. tt)
  located_good (e.Index at x parts) rest = then_giving (PlaceOf t.Void) (eval env x rest) _ (λ h u. then_giving (PlaceOf t.Void) (eval_numbers env parts u) _ (λ i w. λ k g. tt))
  located_good _ rest = λ h g. tt

  used_good : (at : Place) (number : ℕ) (d : Declaration) (h : Held) (rest : List Answer) → GoodAs (declared_type d) h
      → Giving (GoodAs (declared_type d)) (converted at (used_type (λ k. 1) number d) h rest)
  used_good at number (t.Typed is_single type) h rest g = converted_good at type h rest g
  used_good at number t.Foreach h rest g = giving_any _ (converted at (t.Pt 1) h rest) (λ x. no_region t.Void x refl)

  target_good : (at : Place) (target : NumberedExp) (h : Held) (rest : List Answer) → GoodAs (target_type target) h → Giving (GoodAs (target_type target)) (converted at (type_of env target) h rest)
  target_good at (e.Variable place x) h rest g = used_good at x.number x.declared h rest g
  target_good at target h rest g = giving_any _ (converted at (type_of env target) h rest) (λ x. no_region t.Void x refl)

  into_good : (r : Receiver) (right : Comp Held) (rest : List Answer) → ReceiverSuits r → ((u : List Answer) → Giving (GoodAs (received_type r)) (right u)) → Giving AllGood (into env r right rest)
  into_good Nowhere right rest k f = then_giving AllGood (right rest) _ (λ h u. good)
  into_good (Declared at x) right rest k f =
      giving_followed (GoodAs (declared_type x.declared)) AllGood (right rest) _ (f rest) (λ h u g.
      giving_followed (GoodAs (declared_type x.declared)) AllGood (converted at (declared_type x.declared) h u) _ (converted_good at (declared_type x.declared) h u g) (λ y w i. (i, good)))
  into_good (Assigned at target) right rest k f =
      giving_followed (PlaceOf (target_type target)) AllGood (located env target rest) _ (located_good target rest) (λ place u i.
      giving_followed (GoodAs (target_type target)) AllGood (right u) _ (f u) (λ h w g.
      giving_followed (GoodAs (target_type target)) AllGood (converted at (type_of env target) h w) _ (target_good at target h w g) (λ y z j. stored_good at place y z (i y j))))
  into_good (Updated at op target) right rest k f =
      giving_followed (PlaceOf (target_type target)) AllGood (located env target rest) _ (located_good target rest) (λ place u i.
      then_giving AllGood (held_in env (place_of_numbered target) (type_of env target) place u) _ (λ old w.
      then_giving AllGood (right w) _ (λ h z.
      then_giving AllGood (apply_binary at op old h z) _ (λ new y.
      then_giving AllGood (converted at (type_of env target) new y) _ (λ x q. stored_good at place x q (i x (no_region (target_type target) x k)))))))

  -- ---- parameters

  bound_good : (ps : List VariableUse) (xs : NumberedExps) (vs : List Variable) (rest : List Answer) → ArgsAreSuch ps xs → ExpsScoped Finding xs → AllGood vs → Giving AllGood (bind_params env ps xs vs rest)
  bound_good [] xs vs rest f k g = g
  bound_good (p ∷ ps) e.NoExp vs rest f k g = g
  bound_good (p ∷ ps) (e.MoreExp x xs) vs rest f k g =
      giving_followed (GoodAs (declared_type p.declared)) AllGood (eval env x rest) _ (eval_as (declared_type p.declared) x rest k.0 f.0) (λ h u i.
      giving_followed (GoodAs (declared_type p.declared)) AllGood (converted (place_of_numbered x) (declared_type p.declared) h u) _
      (converted_good (place_of_numbered x) (declared_type p.declared) h u i) (λ y w j.
      bound_good ps xs (with_new p y vs) w f.1 k.1 (j, g)))

-- ---- calls

-- an expression is a call of a method, or calls none
abbrev CalledCases : Env → NumberedExp → Type 0
CalledCases env x =
    ((called_method env.program (this_of env.method) x ≡ None) × (called env x ≡ None))
    ⊎ ((c : NumberedMethod) × (k : Call) × (called_method env.program (this_of env.method) x ≡ Some c) × (called env x ≡ Some k) × (k.method ≡ c) × (k.args ≡ args_of x))

called_cases : (env : Env) (x : NumberedExp) → CalledCases env x
called_cases env (e.Call at method args) = by (slice_get env.program.methods method)
  where
    by : (o : Option NumberedMethod)
        → ((o ≡ None) × (option_map (call_of at None args) o ≡ None))
        ⊎ ((c : NumberedMethod) × (k : Call) × (o ≡ Some c) × (option_map (call_of at None args) o ≡ Some k) × (k.method ≡ c)
        × (k.args ≡ args))
    by None = inl (refl, refl)
    by (Some c) = inr (c, call_of at None args c, refl, refl, refl, refl)
called_cases env (e.OwnCall at method args) = by (slice_get env.program.methods method)
  where
    by : (o : Option NumberedMethod)
        → ((o ≡ None) × (option_map (call_of at (Some (e.This at)) args) o ≡ None))
        ⊎ ((c : NumberedMethod) × (k : Call) × (o ≡ Some c) × (option_map (call_of at (Some (e.This at)) args) o ≡ Some k)
        × (k.method ≡ c) × (k.args ≡ args))
    by None = inl (refl, refl)
    by (Some c) = inr (c, call_of at (Some (e.This at)) args c, refl, refl, refl, refl)
called_cases env (e.Member at x name args) = by (method_behind env.program (syntactic_type env.program (this_of env.method) x) name)
  where
    by : (o : Option NumberedMethod)
        → ((o ≡ None) × (option_map (call_of at (Some x) args) o ≡ None))
        ⊎ ((c : NumberedMethod) × (k : Call) × (o ≡ Some c) × (option_map (call_of at (Some x) args) o ≡ Some k) × (k.method ≡ c)
        × (k.args ≡ args))
    by None = inl (refl, refl)
    by (Some c) = inr (c, call_of at (Some x) args c, refl, refl, refl, refl)
called_cases env _ = inl (refl, refl)

args_scoped : (names : Names) (x : NumberedExp) → ExpScoped names x → ExpsScoped names (args_of x)
args_scoped names (e.Call at method args) k = k
args_scoped names (e.OwnCall at method args) k = k
args_scoped names (e.Member at x name args) k = k.1
args_scoped names _ k = tt

-- ---- moves

-- the regions in a move
abbrev pub MoveIsSuch : ProgramView → NumberedMethod → Move → Type 0
MoveIsSuch p m (Goes vs works) = AllGood vs × WorksAreSuch p m works
MoveIsSuch p m (Turns at vs works) = AllGood vs × WorksAreSuch p m works
MoveIsSuch p m Breaks = Unit {0}
MoveIsSuch p m Continues = Unit {0}
MoveIsSuch p m (Calls at c this parameters receiver) =
    AllGood parameters × (is_region_type (received_type receiver) ≡ true → is_region_type (result_type c) ≡ true) × ReceiverSuits receiver × StmsAreSuch p c (numbered_stms c.body)
MoveIsSuch p m (Returns None) = Unit {0}
MoveIsSuch p m (Returns (Some h)) = GoodAs (result_type m) h
MoveIsSuch p m (Meets wait given works) =
    WorksAreSuch p m works × (is_region_type (received_type wait.receiver) ≡ true → wait.kind ≡ coll.MakeRegion) × ReceiverSuits wait.receiver × (wait.kind ≡ coll.DeleteRegion → ⊥)
MoveIsSuch p m (Deletes at region) = region ≡ 0 → ⊥

-- the method that is called is one of the program
abbrev pub OneIsSuch : ProgramView → Option NumberedMethod → Type 0
OneIsSuch p None = Unit {0}
OneIsSuch p (Some m) = StmsAreSuch p m (numbered_stms m.body)

pub such_at : (p : ProgramView) (ms : List NumberedMethod) (k : ℕ) → MethodsAreSuch p ms → OneIsSuch p (slice_get ms k)
such_at p [] k f = tt
such_at p (m ∷ ms) zero f = f.0
such_at p (m ∷ ms) (suc k) f = such_at p ms k f.1

such_found : (p : ProgramView) (test : NumberedMethod → Bool) (ms : List NumberedMethod) → MethodsAreSuch p ms → OneIsSuch p (find test ms)
such_found p test [] f = tt
such_found p test (m ∷ ms) f = by_test (test m) (such_found p test ms f.1)
  where
    by_test : (yes : Bool) → OneIsSuch p (find test ms) → OneIsSuch p (cond yes (Some m) (find test ms))
    by_test true h = f.0
    by_test false h = h

such_only : (p : ProgramView) (test : NumberedMethod → Bool) (o : Option NumberedMethod) → OneIsSuch p o → OneIsSuch p (only_if test o)
such_only p test None h = tt
such_only p test (Some m) h = by_test (test m)
  where
    by_test : (yes : Bool) → OneIsSuch p (if yes then Some m else None)
    by_test true = h
    by_test false = tt

such_instance : (p : ProgramView) (class name : ℕ) → MethodsAreSuch p p.methods → OneIsSuch p (instance_method p class name)
unfolding instance_method
such_instance p class name f = such_only p _ (find (λ (m : NumberedMethod). (m.class == class) && (m.name == name)) p.methods) (such_found p _ p.methods f)

such_behind : (p : ProgramView) (type : ValueType) (name : ℕ) → MethodsAreSuch p p.methods → OneIsSuch p (method_behind p type name)
such_behind p (t.Class c is_local) name f = such_instance p c name f
such_behind p _ name f = tt

such_called : (p : ProgramView) (this : Option ℕ) (x : NumberedExp) → MethodsAreSuch p p.methods → OneIsSuch p (called_method p this x)
such_called p this (e.Call at method args) f = such_at p p.methods method f
such_called p this (e.OwnCall at method args) f = such_at p p.methods method f
such_called p this (e.Member at x name args) f = such_behind p (syntactic_type p this x) name f
such_called p this _ f = tt

module _ (env : Env) (all : MethodsAreSuch env.program env.program.methods) (good : AllGood env.variables) where
  abbrev Moving : Move → Type 0
  Moving = MoveIsSuch env.program env.method

  receives_good : (r : Receiver) (right : Comp Held) (rest : List Answer) → ReceiverSuits r
      → ((u : List Answer) → Giving (GoodAs (received_type r)) (right u)) → Giving Moving (receives env r right rest)
  receives_good r right rest k f = giving_followed AllGood Moving (into env r right rest) _ (into_good env good r right rest k f) (λ vs u g. (g, tt))

  calling_good : (r : Receiver) (c : Call) (rest : List Answer) → ReceiverSuits r → ArgsAreSuch (parameters_of c.method.params) c.args → ExpsScoped (Finding env good) c.args
      → (is_region_type (received_type r) ≡ true → is_region_type (result_type c.method) ≡ true) → StmsAreSuch env.program c.method (numbered_stms c.method.body) → Giving Moving (calling env r c rest)
  calling_good r c rest k f x h b =
      then_giving Moving (maybe_eval env c.object rest) _ (λ object u.
      giving_followed AllGood Moving (bind_params env (parameters_of c.method.params) c.args [] u) _ (bound_good env good (parameters_of c.method.params) c.args [] u f x tt) (λ vs w g.
      then_giving Moving (maybe_needed c.place object w) _ (λ this z. (g, h, k, b))))

  -- a call or another value
  value_good : (r : Receiver) (x : NumberedExp) (rest : List Answer) → ReceiverSuits r → ExpScoped (Finding env good) x → InitIsSuch env.program env.method (received_type r) (s.Value x)
      → Giving Moving (valued_or_called env r x (called env x) rest)
  value_good r x rest k sc f = by (called_cases env x)
    where
      by : CalledCases env x → Giving Moving (valued_or_called env r x (called env x) rest)
      by (inl q) =
          subst (λ o. Giving Moving (valued_or_called env r x o rest)) (sym q.1) (receives_good r (eval env x) rest k (λ u. eval_as env good (received_type r) x u sc (f.1 q.0)))
      by (inr q) =
          let such = f.0 q.0 q.2 in
          subst (λ o. Giving Moving (valued_or_called env r x o rest)) (sym q.3)
          (calling_good r q.1 rest k (subst (λ (c : NumberedMethod). ArgsAreSuch (parameters_of c.params) q.1.args) (sym q.4) (subst (ArgsAreSuch (parameters_of q.0.params)) (sym q.5) such.0))
          (subst (ExpsScoped (Finding env good)) (sym q.5) (args_scoped (Finding env good) x sc))
          (λ z. ap (λ (c : NumberedMethod). is_region_type (result_type c)) q.4 ∙ such.1 z)
          (subst (λ (c : NumberedMethod). StmsAreSuch env.program c (numbered_stms c.body)) (sym q.4) (subst (OneIsSuch env.program) q.2 (such_called env.program (this_of env.method) x all))))

  made_good : (r : Receiver) (new : Comp Held) (rest : List Answer) → ReceiverSuits r → is_region_type (received_type r) ≡ false → Giving Moving (made_first env r new rest)
  made_good r new rest k f = then_giving Moving (new rest) _ (λ h u. receives_good r (gives h) u k (λ w. no_region (received_type r) h f))

  no_delete : (k : CollKind) → k ≡ coll.Broadcast → k ≡ coll.DeleteRegion → ⊥
  no_delete k a b = cc

  broadcasts_good : (r : Receiver) (at : Place) (x root : NumberedExp) (rest : List Answer) → ReceiverSuits r → is_region_type (received_type r) ≡ false → Giving Moving (broadcasts env r at x root rest)
  broadcasts_good r at x root rest k f =
      then_giving Moving (eval env root rest) _ (λ h u.
      then_giving Moving (root_among env.procs at h u) _ (λ n w.
      then_giving Moving (root_deposit env n x w) _ (λ given z. (tt, (λ y. absurd (true_false (sym y ∙ f))), k, no_delete coll.Broadcast refl))))

  initialized_good : (r : Receiver) (value : NumberedInit) (rest : List Answer) → ReceiverSuits r → InitScoped (Finding env good) value
      → InitIsSuch env.program env.method (received_type r) value → Giving Moving (initialized env r value rest)
  initialized_good r (s.Value x) rest k sc f = value_good r x rest k sc f
  initialized_good r (s.NewRegion at) rest k sc f = (tt, (λ z. refl), k, never)
    where
      never : coll.MakeRegion ≡ coll.DeleteRegion → ⊥
      never z = cc
  initialized_good r (s.NewObject at region class) rest k sc f = made_good r (new_object env at region class) rest k f
  initialized_good r (s.NewGrid at region element dims_at dims) rest k sc f = made_good r (new_grid env at region element.type dims_at dims) rest k f
  initialized_good r (s.Broadcast at x root) rest k sc f = broadcasts_good r at x root rest k f

  -- ---- expressions that stand alone

  exchanges_good : (at : Place) (x : NumberedExp) (args : NumberedExps) (rest : List Answer) → Giving Moving (exchanges env at x args rest)
  exchanges_good at x args rest =
      then_giving Moving (eval env x rest) _ (λ h u.
      then_giving Moving (eval_all env args u) _ (λ hs w.
      then_giving Moving (needed at (type_of env x) h w) _ (λ grid z.
      then_giving Moving (domain_asked at grid z) _ (λ d y. guarded_giving Moving _ ExchangeDomain at _ y ((tt, tt), (λ z. absurd (true_false (sym z))), tt, never)))))
    where
      never : coll.Exchange ≡ coll.DeleteRegion → ⊥
      never z = cc

  copies_good : (at : Place) (x : NumberedExp) (args : NumberedExps) (rest : List Answer) → Giving Moving (copies env at x args rest)
  copies_good at x args rest =
      let k : (to from : Reference) (points : List Point) → Moving (Goes env.variables (CopyAll at to from points ∷ [])) = λ to from points. (good, (tt, tt)) in
      search (then_giving, k) depth 14

  member_good : (at : Place) (x : NumberedExp) (args : NumberedExps) (other : Comp Move) (o : Option BuiltIn) (rest : List Answer)
      → ExpScoped (Finding env good) x → (o ≡ Some Delete → is_region_exp x ≡ true)
      → Giving Moving (other rest) → Giving Moving (member_alone env at x args other o rest)
  member_good at x args other (Some Copy) rest sc f k = copies_good at x args rest
  member_good at x args other (Some Exchange) rest sc f k = exchanges_good at x args rest
  member_good at x args other (Some Delete) rest sc f k = giving_followed Good Moving (eval env x rest) _ (eval_good env good x rest sc (f refl)) (λ h u g. good_region h g)
  member_good at x args other _ rest sc f k = k

  dropped : (x : NumberedExp) (rest : List Answer) → Giving Moving (receives env Nowhere (eval env x) rest)
  dropped x rest = receives_good Nowhere (eval env x) rest tt (λ u. giving_any _ (eval env x u) (λ h. no_region t.Void h refl))

  none_good : (x : NumberedExp) (rest : List Answer) → ExpScoped (Finding env good) x → DeletesSuch env.program env.method x → Giving Moving (alone env x None rest)
  none_good (e.Member at x name args) rest sc f =
      member_good at x args _ (member_called env.program (this_of env.method) x name) rest sc.0 f (dropped (e.Member at x name args) rest)
  none_good x rest sc f = dropped x rest

  alone_good : (x : NumberedExp) (rest : List Answer) → ExpScoped (Finding env good) x → CallIsSuch env.program env.method t.Void x
      → DeletesSuch env.program env.method x → Giving Moving (alone env x (called env x) rest)
  alone_good x rest sc f d = by (called_cases env x)
    where
      by : CalledCases env x → Giving Moving (alone env x (called env x) rest)
      by (inl q) = subst (λ o. Giving Moving (alone env x o rest)) (sym q.1) (none_good x rest sc d)
      by (inr q) =
          let such = f q.0 q.2 in
          subst (λ o. Giving Moving (alone env x o rest)) (sym q.3)
          (calling_good Nowhere q.1 rest tt (subst (λ (c : NumberedMethod). ArgsAreSuch (parameters_of c.params) q.1.args) (sym q.4) (subst (ArgsAreSuch (parameters_of q.0.params)) (sym q.5) such.0))
          (subst (ExpsScoped (Finding env good)) (sym q.5) (args_scoped (Finding env good) x sc))
          (λ z. absurd (true_false (sym z)))
          (subst (λ (c : NumberedMethod). StmsAreSuch env.program c (numbered_stms c.body)) (sym q.4) (subst (OneIsSuch env.program) q.2 (such_called env.program (this_of env.method) x all))))

  -- ---- statements

  on_good : Moving (Goes env.variables [])
  on_good = (good, tt)

  prints_good : (at : Place) (what : NumberedPrint) (rest : List Answer) → Giving Moving (printed env at what rest)
  prints_good at s.Nothing rest = search (then_giving, on_good)
  prints_good at (s.Text literal) rest = search (then_giving, on_good)
  prints_good at (s.Expression x) rest = search (then_giving, on_good)
  prints_good at (s.TextAndExpression literal x) rest = search (then_giving, on_good)

  chosen : (b : Bool) (x : NumberedStm) → StmIsSuch env.program env.method x → Moving (Goes env.variables (if b then Do x ∷ [] else []))
  chosen true x k = (good, (k, tt))
  chosen false x k = (good, tt)

  either : (b : Bool) (x y : NumberedStm) → StmIsSuch env.program env.method x → StmIsSuch env.program env.method y → Moving (Goes env.variables (Do (if b then x else y) ∷ []))
  either true x y k l = (good, (k, tt))
  either false x y k l = (good, (l, tt))

  maybe_good : (x : MaybeNumbered) (ws : List ContItem) → MaybeIsSuch env.program env.method x → WorksAreSuch env.program env.method ws → WorksAreSuch env.program env.method (maybe_do x ++ ws)
  maybe_good NoStm ws k l = l
  maybe_good (SomeStm x) ws k l = (k, l)

  never_barrier : coll.Barrier ≡ coll.DeleteRegion → ⊥
  never_barrier z = cc

  not_called : (c : NumberedMethod) → ◌≡◌ {A = Option NumberedMethod} None (Some c) → ⊥
  not_called c z = cc

  statement_good : (x : NumberedStm) (rest : List Answer) → StmUses (Finding env good) x → StmIsSuch env.program env.method x → Giving Moving (statement env x rest)
  statement_good s.Empty rest sc k = on_good
  statement_good (s.Declare at type variable value) rest sc k = initialized_good (Declared at (declared_as type variable)) value rest tt sc k
  statement_good (s.Assign at target value) rest sc k = initialized_good (Assigned at target) value rest tt sc.1 k
  statement_good (s.Update at op target x) rest sc k = initialized_good (Updated at op target) (s.Value x) rest k.0 sc.1 k.1
  statement_good (s.Step at op target) rest sc k =
      initialized_good (Updated at (one_more op) target) (s.Value (e.Int at (pos 1))) rest k tt ((λ c z. absurd (not_called c z)), (λ z y. absurd (true_false (sym y))))
  statement_good (s.Call x) rest sc k = alone_good x rest sc k.0 k.1
  statement_good (s.Print at what) rest sc k = prints_good at what rest
  statement_good (s.Barrier at) rest sc k = (tt, (λ z. absurd (true_false (sym z))), tt, never_barrier)
  statement_good (s.Break at) rest sc k = tt
  statement_good (s.Continue at) rest sc k = tt
  statement_good (s.Return at None) rest sc k = tt
  statement_good (s.Return at (Some x)) rest sc k =
      giving_followed (GoodAs (result_type env.method)) Moving (eval env x rest) _ (eval_as env good (result_type env.method) x rest sc k) (λ h u g.
      giving_followed (GoodAs (result_type env.method)) Moving (converted at (result_type env.method) h u) _ (converted_good at (result_type env.method) h u g) (λ y w i. i))
  statement_good (s.Block body) rest sc k = (good, such_before env.program env.method body (End (s.Block body) ∷ []) k (tt, tt))
  statement_good (s.If at c x) rest sc k = then_giving Moving (eval env c rest) _ (λ h u. chosen (truth_of h) x k)
  statement_good (s.IfElse at c x y) rest sc k = then_giving Moving (eval env c rest) _ (λ h u. either (truth_of h) x y k.0 k.1)
  statement_good (s.While at c body) rest sc k = (good, ((tt, k), tt))
  statement_good (s.For at first c update body) rest sc k = (good, maybe_good first _ k.0 ((k.1, k.2), (tt, tt)))
  statement_good (s.Foreach at variable domain body) rest sc k = then_giving Moving (eval env domain rest) _ (λ h u. (good, (k, tt)))

  tested : (b : Bool) (at : Place) (loop : Loop) (body : NumberedStm) → LoopIsSuch env.program env.method loop → StmIsSuch env.program env.method body
      → Moving (if b then Turns at env.variables (Do body ∷ Behind loop ∷ []) else Goes env.variables [])
  tested true at loop body k l = (good, (l, (k, tt)))
  tested false at loop body k l = (good, tt)

  copied_good : (at : Place) (to from : Reference) (points : List Point) (rest : List Answer) → Giving Moving (copied env at to from points rest)
  copied_good at to from [] rest = on_good
  copied_good at to from (p ∷ ps) rest =
      let k : Moving (Goes env.variables (CopyAll at to from ps ∷ [])) = (good, (tt, tt)) in
      search (then_giving, k)

  taken_good : (at : Place) (grid : Reference) (procs : List ℕ) (rest : List Answer) → Giving Moving (taken env at grid procs rest)
  taken_good at grid [] rest = on_good
  taken_good at grid (i ∷ is) rest =
      let k : Moving (Goes env.variables (TakeAll at grid is ∷ [])) = (good, (tt, tt)) in
      search (then_giving, k)

  pub performed_good : (w : ContItem) (rest : List Answer) → WorkUses (Finding env good) w → WorkIsSuch env.program env.method w → Giving Moving (exec_item env w rest)
  performed_good (Do x) rest sc k = statement_good x rest sc k
  performed_good (End x) rest sc k = (without_good (declared_in x) env.variables good, tt)
  performed_good (Before (While at c update body)) rest sc k = then_giving Moving (condition env c rest) _ (λ h u. tested (truth_of h) at (While at c update body) body k k.1)
  performed_good (Before (Foreach at v d [] body)) rest sc k = on_good
  performed_good (Before (Foreach at v d (p ∷ ps) body)) rest sc k = (good, (k, (k, tt)))
  performed_good (Behind (While at c update body)) rest sc k = (good, maybe_good update _ k.0 (k, tt))
  performed_good (Behind (Foreach at v d [] body)) rest sc k = (good, (k, tt))
  performed_good (Behind (Foreach at v d (p ∷ ps) body)) rest sc k = (good, (k, tt))
  performed_good (Receive r h) rest sc k = receives_good r (gives h) rest k.1 (λ u. k.0)
  performed_good (CopyAll at to from points) rest sc k = copied_good at to from points rest
  performed_good (TakeAll at grid procs) rest sc k = taken_good at grid procs rest
