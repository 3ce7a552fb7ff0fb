-- Work that stands in its scope comes to moves that lead to such work.
use Rattle.std.proofs.Common.{◌≡◌, ℕ, zero, suc, ◌==◌, ◌&&◌, find, cond, Bool, true, false, ◌||◌, if◌then◌else◌, pos, option_map, slice_get, Option, Some, None, List, [], ◌∷◌, ◌++◌, refl, sym}
use Rattle.ti_base.specs.declared.place.Place.{Place}
use Rattle.ti_base.specs.declared.point.Point.{Point}
use Rattle.ti_base.specs.declared.fault.FaultKind.TheVariants.{ExchangeDomain}
use Rattle.ti_base.specs.declared.entry.Answer.{Answer}
use Rattle.ti_lang.specs.Members.{only_if}
use Rattle.ti_lang.specs.Program.Types.{ValueType, VariableUse}
use Rattle.ti_lang.specs.Program.Types as t
use Rattle.ti_lang.specs.Program.Expressions.{NumberedExp, NumberedExps, place_of_numbered}
use Rattle.ti_lang.specs.Program.Expressions as e
use Rattle.ti_lang.specs.Program.Statements.{NumberedInit, NumberedPrint, NumberedStm, MaybeNumbered, NoStm, SomeStm, NumberedStms}
use Rattle.ti_lang.specs.Program.Statements as s
use Rattle.ti_lang.specs.Program.Classes.{NumberedMethod, ProgramView}
use Rattle.ti_lang.specs.Program.Scope.{this_of}
use Rattle.ti_lang.specs.Typing.Kinds.{is_void}
use Rattle.ti_lang.specs.Typing.BuiltIn.{BuiltIn, Copy, Exchange, Delete}
use Rattle.ti_lang.specs.Typing.TextTypes.{syntactic_type}
use Rattle.ti_lang.specs.Typing.Declared.{result_type, instance_method}
use Rattle.ti_lang.specs.Typing.Called.{method_behind, member_called}
use Rattle.ti_lang.specs.Meaning.Held.{Held, truth_of, points_in}
use Rattle.ti_lang.specs.Meaning.Comp.{ToBeDone, ValueOf, Reference, Comp, CompResult, Gives, Asks, Fails, gives, asked, needed}
use Rattle.ti_lang.specs.Meaning.Conversions.{converted}
use Rattle.ti_lang.specs.Meaning.Operators.{apply_binary}
use Rattle.ti_lang.specs.Meaning.Processes.{Variable, Receiver, Nowhere, Declared, Assigned, Updated, Loop, While, Foreach, ContItem, Do, End, Before, Behind, Receive, CopyAll, TakeAll, all_before}
use Rattle.ti_lang.specs.Meaning.Scoping.{Env, same_variable, type_of, type_here, declared_type, with_new, without_variables}
use Rattle.ti_lang.specs.Meaning.Evaluation.{eval, eval_all}
use Rattle.ti_lang.specs.Meaning.Targets.{Target, InVariable, InPart, located, held_in, stored, into}
use Rattle.ti_lang.specs.Meaning.CellRefs.{Field, Element, domain_asked}
use Rattle.ti_lang.specs.Meaning.Makers.{new_object, new_grid}
use Rattle.ti_lang.specs.Meaning.Copies.{copies, copied, count_up, taken}
use Rattle.ti_lang.specs.Meaning.Collectives.{root_among, root_deposit, broadcasts, exchanges}
use Rattle.ti_lang.specs.Meaning.Calls.{Call, call_of, called, parameters_of, bind_params, maybe_eval, maybe_needed, calling}
use Rattle.ti_lang.specs.Meaning.Moves.{Move, Goes, Turns, Breaks, Continues, Calls, Returns, Meets, Deletes, receives}
use Rattle.ti_lang.specs.Meaning.Statements.{made_first, valued_or_called, initialized, member_alone, alone, printed, one_more, declared_as, maybe_do, statement}
use Rattle.ti_lang.specs.Meaning.Performing.{condition, declared_alone, declared_among, declared_maybe, declared_in, exec_item}
use Rattle.ti_lang.proofs.Lemmas.{Giving, then_giving, guarded_giving}
use Rattle.ti_align.proofs.Alignment.Fitting.{giving_followed}
use Rattle.ti_align.proofs.Runs.Vars.{true_false, or_left}
use Rattle.ti_align.specs.Scoped.{Names, ReceiverScoped}
use Rattle.ti_align.proofs.Scope.Scoped.{is_one, with_all}
use Rattle.ti_align.proofs.Scope.Found.{Holds, Among, Apart, holds_new, holds_changed, holds_without, holds_some, fresh_apart, among_with}
use Rattle.ti_align.proofs.Scope.Suited.{Enough, CallSuits, GivesValue, InitSuits}
use Rattle.ti_align.proofs.Scope.Reaching.{declares, with_received, behind, leaving, StmStands, LoopStands, WorkStands, WorksStand, Standing, Awaiting, all_stand, MethodStands, MethodsStand}

-- ---- what is stored

stored_holds : (env : Env) (names : Names) (at : Place) (place : Target) (h : Held) (rest : List Answer) → Holds names env.variables → Giving (Holds names) (stored env at place h rest)
stored_holds env names at (InVariable x) h rest k = holds_changed names x h env.variables k
stored_holds env names at (InPart (Field object through field)) h rest k =
    then_giving (Holds names) (needed at through object rest) _ (λ r u. then_giving (Holds names) (asked _ u) _ (λ d z. k))
stored_holds env names at (InPart (Element grid through index)) h rest k =
    then_giving (Holds names) (needed at through grid rest) _ (λ r u. then_giving (Holds names) (asked _ u) _ (λ d z. k))

into_holds : (env : Env) (names : Names) (r : Receiver) (right : Comp Held) (rest : List Answer) → Holds names env.variables → Giving (Holds (with_received names r)) (into env r right rest)
into_holds env names Nowhere right rest k = then_giving (Holds names) (right rest) _ (λ h u. k)
into_holds env names (Declared at v) right rest k =
    then_giving (Holds (with_all (v ∷ []) names)) (right rest) _ (λ h u.
    then_giving (Holds (with_all (v ∷ []) names)) (converted at (declared_type v.declared) h u) _ (λ x w. holds_new names v x env.variables k))
into_holds env names (Assigned at target) right rest k =
    then_giving (Holds names) (located env target rest) _ (λ place u.
    then_giving (Holds names) (right u) _ (λ h w.
    then_giving (Holds names) (converted at (type_of env target) h w) _ (λ x z. stored_holds env names at place x z k)))
into_holds env names (Updated at op target) right rest k =
    then_giving (Holds names) (located env target rest) _ (λ place u.
    then_giving (Holds names) (held_in env (place_of_numbered target) (type_of env target) place u) _ (λ old w.
    then_giving (Holds names) (right w) _ (λ h z.
    then_giving (Holds names) (apply_binary at op old h z) _ (λ new y.
    then_giving (Holds names) (converted at (type_of env target) new y) _ (λ x q. stored_holds env names at place x q k)))))

-- ---- parameters

-- what holds of what is given holds otherwise
pub giving_with : {A : Type 0} (P Q : A → Type 0) (g : CompResult A) → ((a : A) → P a → Q a) → Giving P g → Giving Q g
giving_with P Q (Gives a rest) f h = f a h
giving_with P Q (Asks q) f h = tt
giving_with P Q (Fails kind at) f h = tt

-- what is bound behind a parameter
more_bound : (a b c : Bool) → ((a || b) || c) ≡ true → (b || ((a || false) || c)) ≡ true
more_bound true true c h = refl
more_bound true false c h = refl
more_bound false true c h = refl
more_bound false false c h = h

bound_holds : (env : Env) (ps : List VariableUse) (xs : NumberedExps) (vs : List Variable) (some : Names) (rest : List Answer)
    → Enough ps xs → Holds some vs → Giving (Holds (with_all ps some)) (bind_params env ps xs vs rest)
bound_holds env [] xs vs some rest n k = k
bound_holds env (p ∷ ps) e.NoExp vs some rest n k = absurd n
bound_holds env (p ∷ ps) (e.MoreExp x xs) vs some rest n k =
    then_giving (Holds (with_all (p ∷ ps) some)) (eval env x rest) _ (λ h u.
    then_giving (Holds (with_all (p ∷ ps) some)) (converted (place_of_numbered x) (declared_type p.declared) h u) _ (λ y w.
    giving_with (Holds (with_all ps (with_all (p ∷ []) some))) (Holds (with_all (p ∷ ps) some)) (bind_params env ps xs (with_new p y vs) w)
    (λ a f v z. f v (more_bound (same_variable v p) (is_one ps v) (some v) z))
    (bound_holds env ps xs (with_new p y vs) (with_all (p ∷ []) some) w n (holds_new some p y vs k))))

-- ---- calls

-- a call of a method that stands, with all its arguments; it gives a value, where one is declared
abbrev CallStands : ProgramView → Bool → Option Call → Type 0
CallStands p some None = Unit {0}
CallStands p some (Some c) = MethodStands p c.method × Enough (parameters_of c.method.params) c.args × (some ≡ true → is_void (result_type c.method) ≡ false)

abbrev pub OneStands : ProgramView → Option NumberedMethod → Type 0
OneStands p None = Unit {0}
OneStands p (Some m) = MethodStands p m

pub at_stands : (p : ProgramView) (ms : List NumberedMethod) (k : ℕ) → MethodsStand p ms → OneStands p (slice_get ms k)
at_stands p [] k f = tt
at_stands p (m ∷ ms) zero f = f.0
at_stands p (m ∷ ms) (suc k) f = at_stands p ms k f.1

found_stands : (p : ProgramView) (test : NumberedMethod → Bool) (ms : List NumberedMethod) → MethodsStand p ms → OneStands p (find test ms)
found_stands p test [] f = tt
found_stands p test (m ∷ ms) f = by_test (test m) (found_stands p test ms f.1)
  where
    by_test : (yes : Bool) → OneStands p (find test ms) → OneStands p (cond yes (Some m) (find test ms))
    by_test true h = f.0
    by_test false h = h

only_stands : (p : ProgramView) (test : NumberedMethod → Bool) (o : Option NumberedMethod) → OneStands p o → OneStands p (only_if test o)
only_stands p test None h = tt
only_stands p test (Some m) h = by_test (test m)
  where
    by_test : (yes : Bool) → OneStands p (if yes then Some m else None)
    by_test true = h
    by_test false = tt

instance_stands : (p : ProgramView) (class name : ℕ) → MethodsStand p p.methods → OneStands p (instance_method p class name)
unfolding instance_method
instance_stands p class name f = only_stands p _ (find (λ (m : NumberedMethod). (m.class == class) && (m.name == name)) p.methods) (found_stands p _ p.methods f)

behind_stands : (p : ProgramView) (type : ValueType) (name : ℕ) → MethodsStand p p.methods → OneStands p (method_behind p type name)
behind_stands p (t.Class c is_local) name f = instance_stands p c name f
behind_stands p _ name f = tt

by_method : (p : ProgramView) (some : Bool) (at : Place) (object : Option NumberedExp) (args : NumberedExps) (o : Option NumberedMethod) → OneStands p o
    → ((c : NumberedMethod) → o ≡ Some c → Enough (parameters_of c.params) args) → ((c : NumberedMethod) → o ≡ Some c → some ≡ true → is_void (result_type c) ≡ false)
    → CallStands p some (option_map (call_of at object args) o)
by_method p some at object args None f g h = tt
by_method p some at object args (Some m) f g h = (f, g m refl, h m refl)

called_stands : (env : Env) (some : Bool) (x : NumberedExp) → MethodsStand env.program env.program.methods → CallSuits env.program env.method x → (some ≡ true → GivesValue env.program env.method x)
    → CallStands env.program some (called env x)
called_stands env some (e.Call at method args) f g h =
    by_method env.program some at None args (slice_get env.program.methods method) (at_stands env.program env.program.methods method f) g (λ c z k. h k c z)
called_stands env some (e.OwnCall at method args) f g h =
    by_method env.program some at _ args (slice_get env.program.methods method) (at_stands env.program env.program.methods method f) g (λ c z k. h k c z)
called_stands env some (e.Member at x name args) f g h =
    let type = syntactic_type env.program (this_of env.method) x in
    by_method env.program some at (Some x) args (method_behind env.program type name) (behind_stands env.program type name f) g (λ c z k. h k c z)
called_stands env some _ f g h = tt

-- ---- moves

module _ (env : Env) (left : List ContItem) where
  -- a move that leads to work that stands
  abbrev pub MoveStands : Move → Type 0
  MoveStands (Goes vs works) = Standing env.program env.method vs (works ++ left)
  MoveStands (Turns at vs works) = Standing env.program env.method vs (works ++ left)
  MoveStands Breaks = Standing env.program env.method env.variables left
  MoveStands Continues = Standing env.program env.method env.variables left
  MoveStands (Calls at m this parameters receiver) =
      MethodStands env.program m × Holds (is_one (parameters_of m.params)) parameters × (declares receiver ≡ true → is_void (result_type m) ≡ false)
      × Awaiting env.program env.method env.variables receiver left
  MoveStands (Returns None) = is_void (result_type env.method) ≡ true
  MoveStands (Returns (Some h)) = Unit {0}
  MoveStands (Meets wait given works) = Awaiting env.program env.method env.variables wait.receiver (works ++ left) × (wait.wanted ≡ ToBeDone → declares wait.receiver ≡ false)
  MoveStands (Deletes at region) = Standing env.program env.method env.variables left

module _ (env : Env) (all : MethodsStand env.program env.program.methods) (left : List ContItem) (names base next outer : Names) (holds : Holds names env.variables) (some : Among base names)
    (stays : Among outer base) (within : Among outer next) (rest_stands : WorksStand env.program env.method next outer left) where
  abbrev Moving : Move → Type 0
  Moving = MoveStands env left

  -- ---- what is left

  left_stands : (vs : List Variable) → Holds next vs → Standing env.program env.method vs left
  left_stands vs h = (next, outer, h, within, rest_stands)

  waits_stands : (r : Receiver) → ReceiverScoped names r → Among next (with_received names r) → Awaiting env.program env.method env.variables r left
  waits_stands r k a = (names, base, holds, some, k, (next, outer, record { known = a; apart = λ v z. refl; base_stays = stays; within = within }, rest_stands))

  receives_stands : (r : Receiver) (right : Comp Held) (rest : List Answer) → Among next (with_received names r) → Giving Moving (receives env r right rest)
  receives_stands r right rest a =
      giving_followed (Holds (with_received names r)) Moving (into env r right rest) _ (into_holds env names r right rest holds)
      (λ vs u h. left_stands vs (holds_some next (with_received names r) vs a h))

  calling_stands : (r : Receiver) (c : Call) (rest : List Answer) → ReceiverScoped names r → Among next (with_received names r)
      → CallStands env.program (declares r) (Some c) → Giving Moving (calling env r c rest)
  calling_stands r c rest k a f =
      let ps = parameters_of c.method.params in
      then_giving Moving (maybe_eval env c.object rest) _ (λ object u.
      giving_followed (Holds (is_one ps)) Moving (bind_params env ps c.args [] u) _
      (giving_with (Holds (with_all ps (λ v. false))) (Holds (is_one ps)) (bind_params env ps c.args [] u)
      (λ vs h v z. h v (or_left (is_one ps v) false z)) (bound_holds env ps c.args [] (λ v. false) u f.1 (λ v z. z)))
      (λ vs w h. then_giving Moving (maybe_needed c.place object w) _ (λ this z. (f.0, h, f.2, waits_stands r k a))))

  value_stands : (r : Receiver) (x : NumberedExp) (o : Option Call) (rest : List Answer) → ReceiverScoped names r → Among next (with_received names r) → CallStands env.program (declares r) o
      → Giving Moving (valued_or_called env r x o rest)
  value_stands r x None rest k a f = receives_stands r (eval env x) rest a
  value_stands r x (Some c) rest k a f = calling_stands r c rest k a f

  made_stands : (r : Receiver) (new : Comp Held) (rest : List Answer) → Among next (with_received names r) → Giving Moving (made_first env r new rest)
  made_stands r new rest a = then_giving Moving (new rest) _ (λ h u. receives_stands r (gives h) u a)

  wanted_value : (type : ValueType) (b : Bool) → ValueOf type ≡ ToBeDone → b ≡ false
  wanted_value type b z = absurd (never z)
    where
      never : ValueOf type ≡ ToBeDone → ⊥
      never z = cc

  broadcasts_stand : (r : Receiver) (at : Place) (x root : NumberedExp) (rest : List Answer) → ReceiverScoped names r
      → Among next (with_received names r) → Giving Moving (broadcasts env r at x root rest)
  broadcasts_stand r at x root rest k a =
      then_giving Moving (eval env root rest) _ (λ h u.
      then_giving Moving (root_among env.procs at h u) _ (λ n w.
      then_giving Moving (root_deposit env n x w) _ (λ given z. (waits_stands r k a, wanted_value (type_here env x) (declares r)))))

  initialized_stands : (r : Receiver) (value : NumberedInit) (rest : List Answer) → ReceiverScoped names r
      → Among next (with_received names r) → InitSuits env.program env.method value → Giving Moving (initialized env r value rest)
  initialized_stands r (s.Value x) rest k a f = value_stands r x (called env x) rest k a (called_stands env (declares r) x all f.0 (λ z. f.1))
  initialized_stands r (s.NewRegion at) rest k a f = (waits_stands r k a, wanted_value t.Region (declares r))
  initialized_stands r (s.NewObject at region class) rest k a f = made_stands r (new_object env at region class) rest a
  initialized_stands r (s.NewGrid at region element dims_at dims) rest k a f = made_stands r (new_grid env at region element.type dims_at dims) rest a
  initialized_stands r (s.Broadcast at x root) rest k a f = broadcasts_stand r at x root rest k a

  -- ---- the same names behind

  module _ (known : Among next names) where
    goes_stands : Standing env.program env.method env.variables left
    goes_stands = left_stands env.variables (holds_some next names env.variables known holds)

    -- one piece of work more
    more_stands : (w : ContItem) → WorkStands env.program env.method names base w → Among names (behind names base w) → Apart next (leaving w) → Standing env.program env.method env.variables (w ∷ left)
    more_stands w k a b = (names, base, holds, some, (k, (next, outer, record { known = λ v z. a v (known v z); apart = b; base_stays = stays; within = within }, rest_stands)))

    do_stands : (x : NumberedStm) → StmStands env.program env.method names x → Standing env.program env.method env.variables (Do x ∷ left)
    do_stands x k = more_stands (Do x) k (among_with names (declared_alone x)) (λ v z. refl)

    exchanges_stand : (at : Place) (x : NumberedExp) (args : NumberedExps) (rest : List Answer) → Giving Moving (exchanges env at x args rest)
    exchanges_stand at x args rest =
        let k : (grid : Reference) → Awaiting env.program env.method env.variables Nowhere (TakeAll at grid (count_up 0 env.procs) ∷ left) =
        λ grid. (
          names,
          base,
          holds,
          some,
          tt,
          (
            names,
            base,
            record { known = λ v z. z; apart = λ v z. refl; base_stays = λ v z. z; within = some },
            (tt, (next, outer, record { known = known; apart = λ v z. refl; base_stays = stays; within = within }, rest_stands)),
          ),
        ) in
        then_giving Moving (eval env x rest) _ (λ h u.
        then_giving Moving (eval_all env args u) _ (λ hs w.
        then_giving Moving (needed at (type_of env x) h w) _ (λ grid z.
        then_giving Moving (domain_asked at grid z) _ (λ d y. guarded_giving Moving _ ExchangeDomain at _ y (k grid, λ e. refl)))))

    copies_stand : (at : Place) (x : NumberedExp) (args : NumberedExps) (rest : List Answer) → Giving Moving (copies env at x args rest)
    copies_stand at x args rest =
        let k : (to from : Reference) (points : List Point) → Standing env.program env.method env.variables (CopyAll at to from points ∷ left) =
        λ to from points. more_stands (CopyAll at to from points) tt (λ v z. z) (λ v z. refl) in
        search (then_giving, k) depth 14

    member_stands : (at : Place) (x : NumberedExp) (args : NumberedExps) (other : Comp Move) (o : Option BuiltIn) (rest : List Answer)
        → Giving Moving (other rest) → Giving Moving (member_alone env at x args other o rest)
    member_stands at x args other (Some Copy) rest k = copies_stand at x args rest
    member_stands at x args other (Some Exchange) rest k = exchanges_stand at x args rest
    member_stands at x args other (Some Delete) rest k = then_giving Moving (eval env x rest) _ (λ h u. goes_stands)
    member_stands at x args other _ rest k = k

    alone_stands : (x : NumberedExp) (o : Option Call) (rest : List Answer) → CallStands env.program false o → Giving Moving (alone env x o rest)
    alone_stands x (Some c) rest f = calling_stands Nowhere c rest tt known f
    alone_stands (e.Member at x name args) None rest f =
        member_stands at x args _ (member_called env.program (this_of env.method) x name) rest (receives_stands Nowhere (eval env (e.Member at x name args)) rest known)
    alone_stands x None rest f = receives_stands Nowhere (eval env x) rest known

    prints_stand : (at : Place) (what : NumberedPrint) (rest : List Answer) → Giving Moving (printed env at what rest)
    prints_stand at s.Nothing rest = search (then_giving, goes_stands)
    prints_stand at (s.Text literal) rest = search (then_giving, goes_stands)
    prints_stand at (s.Expression x) rest = search (then_giving, goes_stands)
    prints_stand at (s.TextAndExpression literal x) rest = search (then_giving, goes_stands)

    chosen : (b : Bool) (x : NumberedStm) → StmStands env.program env.method names x → Moving (Goes env.variables (if b then Do x ∷ [] else []))
    chosen true x k = do_stands x k
    chosen false x k = goes_stands

    either : (b : Bool) (x y : NumberedStm) → StmStands env.program env.method names x → StmStands env.program env.method names y → Moving (Goes env.variables (Do (if b then x else y) ∷ []))
    either true x y k l = do_stands x k
    either false x y k l = do_stands y l

    before_stands : (loop : Loop) → LoopStands env.program env.method names loop → Standing env.program env.method env.variables (Before loop ∷ left)
    before_stands loop k = more_stands (Before loop) k (λ v z. z) (λ v z. refl)

    -- a turn
    turn_stands : (loop : Loop) (body : NumberedStm) → LoopStands env.program env.method names loop
        → StmStands env.program env.method names body → Standing env.program env.method env.variables (Do body ∷ Behind loop ∷ left)
    turn_stands loop body k l = (
      names,
      names,
      holds,
      λ v z. z,
      (
        l,
        (
          names,
          names,
          record { known = among_with names (declared_alone body); apart = λ v z. refl; base_stays = λ v z. z; within = λ v z. z },
          (k, (next, outer, record { known = known; apart = λ v z. refl; base_stays = λ v z. some v (stays v z); within = within }, rest_stands)),
        ),
      ),
    )

    tested : (b : Bool) (at : Place) (loop : Loop) (body : NumberedStm) → LoopStands env.program env.method names loop → StmStands env.program env.method names body
        → Moving (if b then Turns at env.variables (Do body ∷ Behind loop ∷ []) else Goes env.variables [])
    tested true at loop body k l = turn_stands loop body k l
    tested false at loop body k l = goes_stands

    block_stands : (body : NumberedStms) → StmStands env.program env.method names (s.Block body) → Standing env.program env.method env.variables (all_before body (End (s.Block body) ∷ []) ++ left)
    block_stands body k = (
      names,
      base,
      holds,
      some,
      all_stand env.program env.method names base names body (End (s.Block body) ∷ []) left (k.0.0, k.1) some (λ v z. z) (λ after b f.
          (tt, (next, outer, record { known = λ v z. f v (known v z); apart = λ v z. fresh_apart names (declared_among body) k.0.1 v (known v z); base_stays = stays; within = within }, rest_stands))),
    )

    for_loop : (at : Place) (first : MaybeNumbered) (c : Option NumberedExp) (update : MaybeNumbered) (body : NumberedStm) → StmStands env.program env.method names (s.For at first c update body)
        → WorksStand env.program env.method (with_all (declared_maybe first) names) base (Before (While at c update body) ∷ End (s.For at first c update body) ∷ left)
    for_loop at first c update body k =
        let inner : Names = with_all (declared_maybe first) names in
        let more : Among names inner = among_with names (declared_maybe first) in (
          (k.0.1, (k.0.2, k.1.1), (k.0.3, k.1.2)),
          (
            inner,
            base,
            record { known = λ v z. z; apart = λ v z. refl; base_stays = λ v z. z; within = λ v z. more v (some v z) },
            (
              tt,
              (
                next,
                outer,
                record {
                  known = λ v z. more v (known v z);
                  apart = λ v z. fresh_apart names (declared_maybe first) k.0.4 v (known v z);
                  base_stays = stays;
                  within = within;
                },
                rest_stands,
              ),
            ),
          ),
        )

    for_stands : (at : Place) (first : MaybeNumbered) (c : Option NumberedExp) (update : MaybeNumbered) (body : NumberedStm) → StmStands env.program env.method names (s.For at first c update body)
        → Standing env.program env.method env.variables ((maybe_do first ++ Before (While at c update body) ∷ End (s.For at first c update body) ∷ []) ++ left)
    for_stands at NoStm c update body k = (names, base, holds, some, for_loop at NoStm c update body k)
    for_stands at (SomeStm x) c update body k =
        let inner : Names = with_all (declared_alone x) names in (
          names,
          base,
          holds,
          some,
          (
            (k.0.0, k.1.0),
            (
              inner,
              base,
              record {
                known = λ v z. z;
                apart = λ v z. refl;
                base_stays = λ v z. z;
                within = λ v z. among_with names (declared_alone x) v (some v z);
              },
              for_loop at (SomeStm x) c update body k,
            ),
          ),
        )

    copied_stands : (at : Place) (to from : Reference) (points : List Point) (rest : List Answer) → Giving Moving (copied env at to from points rest)
    copied_stands at to from [] rest = goes_stands
    copied_stands at to from (p ∷ ps) rest =
        let k : Standing env.program env.method env.variables (CopyAll at to from ps ∷ left) = more_stands (CopyAll at to from ps) tt (λ v z. z) (λ v z. refl) in
        search (then_giving, k)

    taken_stands : (at : Place) (grid : Reference) (procs : List ℕ) (rest : List Answer) → Giving Moving (taken env at grid procs rest)
    taken_stands at grid [] rest = goes_stands
    taken_stands at grid (i ∷ is) rest =
        let k : Standing env.program env.method env.variables (TakeAll at grid is ∷ left) = more_stands (TakeAll at grid is) tt (λ v z. z) (λ v z. refl) in
        search (then_giving, k)

  not_called : (c : NumberedMethod) → ◌≡◌ {A = Option NumberedMethod} None (Some c) → ⊥
  not_called c z = cc

  statement_stands : (x : NumberedStm) (rest : List Answer) → StmStands env.program env.method names x → Among next (with_all (declared_alone x) names) → Giving Moving (statement env x rest)
  statement_stands s.Empty rest k a = goes_stands a
  statement_stands (s.Declare at type variable value) rest k a = initialized_stands (Declared at (declared_as type variable)) value rest tt a k.1
  statement_stands (s.Assign at target value) rest k a = initialized_stands (Assigned at target) value rest k.0.0 a k.1
  statement_stands (s.Update at op target x) rest k a = initialized_stands (Updated at op target) (s.Value x) rest k.0.0 a k.1
  statement_stands (s.Step at op target) rest k a =
      initialized_stands (Updated at (one_more op) target) (s.Value (e.Int at (pos 1))) rest k.0 a ((λ c z. absurd (not_called c z)), (λ c z. absurd (not_called c z)))
  statement_stands (s.Call x) rest k a = alone_stands a x (called env x) rest (called_stands env false x all k.1 (λ z. absurd (true_false (sym z))))
  statement_stands (s.Print at what) rest k a = prints_stand a at what rest
  statement_stands (s.Barrier at) rest k a = (waits_stands Nowhere tt a, λ z. refl)
  statement_stands (s.Break at) rest k a = goes_stands a
  statement_stands (s.Continue at) rest k a = goes_stands a
  statement_stands (s.Return at None) rest k a = k.1
  statement_stands (s.Return at (Some x)) rest k a = then_giving Moving (eval env x rest) _ (λ h u. then_giving Moving (converted at (result_type env.method) h u) _ (λ y w. tt))
  statement_stands (s.Block body) rest k a = block_stands a body k
  statement_stands (s.If at c x) rest k a = then_giving Moving (eval env c rest) _ (λ h u. chosen a (truth_of h) x (k.0.1, k.1))
  statement_stands (s.IfElse at c x y) rest k a = then_giving Moving (eval env c rest) _ (λ h u. either a (truth_of h) x y (k.0.1, k.1.0) (k.0.2, k.1.1))
  statement_stands (s.While at c body) rest k a = before_stands a (While at (Some c) NoStm body) (k.0.0, (tt, tt), (k.0.1, k.1))
  statement_stands (s.For at first c update body) rest k a = for_stands a at first c update body k
  statement_stands (s.Foreach at variable domain body) rest k a = then_giving Moving (eval env domain rest) _ (λ h u. before_stands a (Foreach at variable domain (points_in h) body) (k.0.1, k.1))

  -- ---- all work

  base_holds : Holds base env.variables
  base_holds = holds_some base names env.variables some holds

  -- behind a turn
  again_stands : (loop : Loop) → LoopStands env.program env.method base loop → Among next base → WorksStand env.program env.method base outer (Before loop ∷ left)
  again_stands loop k known = (k, (next, outer, record { known = known; apart = λ v z. refl; base_stays = λ v z. z; within = within }, rest_stands))

  updates_stand : (at : Place) (c : Option NumberedExp) (update : MaybeNumbered) (body : NumberedStm) → LoopStands env.program env.method base (While at c update body) → Among next base
      → Standing env.program env.method env.variables ((maybe_do update ++ Before (While at c update body) ∷ []) ++ left)
  updates_stand at c NoStm body k known = (base, outer, base_holds, stays, again_stands (While at c NoStm body) k known)
  updates_stand at c (SomeStm x) body k known = (
    base,
    outer,
    base_holds,
    stays,
    (k.1, (base, outer, record { known = among_with base (declared_alone x); apart = λ v z. refl; base_stays = λ v z. z; within = stays }, again_stands (While at c (SomeStm x) body) k known)),
  )

  work_stands : (w : ContItem) (rest : List Answer) → WorkStands env.program env.method names base w → Among next (behind names base w) → Apart next (leaving w) → Giving Moving (exec_item env w rest)
  work_stands (Do x) rest k a b = statement_stands x rest k a
  work_stands (End x) rest k a b = left_stands (without_variables (declared_in x) env.variables) (holds_without next (declared_in x) env.variables b (holds_some next names env.variables a holds))
  work_stands (Before (While at c update body)) rest k a b = then_giving Moving (condition env c rest) _ (λ h u. tested a (truth_of h) at (While at c update body) body k k.2)
  work_stands (Before (Foreach at v d [] body)) rest k a b = goes_stands a
  work_stands (Before (Foreach at v d (p ∷ ps) body)) rest k a b = turn_stands a (Foreach at v d (p ∷ ps) body) body k k
  work_stands (Behind (While at c update body)) rest k a b = updates_stand at c update body k a
  work_stands (Behind (Foreach at v d [] body)) rest k a b = (base, outer, base_holds, stays, again_stands (Foreach at v d [] body) k a)
  work_stands (Behind (Foreach at v d (p ∷ ps) body)) rest k a b = (base, outer, base_holds, stays, again_stands (Foreach at v d ps body) k a)
  work_stands (Receive r h) rest k a b = receives_stands r (gives h) rest a
  work_stands (CopyAll at to from points) rest k a b = copied_stands a at to from points rest
  work_stands (TakeAll at grid procs) rest k a b = taken_stands a at grid procs rest

-- what the first piece of work comes to, with these variables in scope before it
pub performed_stands : (env : Env) (w : ContItem) (left : List ContItem) (rest : List Answer) → MethodsStand env.program env.program.methods
    → Standing env.program env.method env.variables (w ∷ left) → Giving (MoveStands env left) (exec_item env w rest)
performed_stands env w left rest all k =
    let next = k.4.1 in
    work_stands env all left k.0 k.1 next.0 next.1 k.2 k.3 next.2.base_stays next.2.within next.3 w rest k.4.0 next.2.known next.2.apart
