-- A fact of every request of work and of every process, from the fact of each kind of request. Work asks for nothing collective.
use Rattle.std.proofs.Common.{◌≡◌, ℕ, ℤ, Bool, true, false, if◌then◌else◌, Option, Some, None, List, [], ◌∷◌, slice_index_or, slice_get, length, nat_lt, ◌==◌, int_le, pred, pos, refl, subst}
use Rattle.std.specs.Int.{Width}
use Rattle.ti_base.specs.WholeNumbers.{wrap, quotient, remainder}
use Rattle.ti_base.specs.PointSets.{union, minus, meet}
use Rattle.ti_base.specs.Ranges.{natural}
use Rattle.ti_base.specs.declared.place.Place.{Place}
use Rattle.ti_base.specs.declared.point.Point.{Point}
use Rattle.ti_base.specs.declared.point.Rect.{Rect}
use Rattle.ti_base.specs.declared.value.Value.{Value}
use Rattle.ti_base.specs.declared.value.Value.TheVariants as v
use Rattle.ti_base.specs.declared.value.Zero.{Zero}
use Rattle.ti_base.specs.declared.fault.FaultKind.{FaultKind}
use Rattle.ti_base.specs.declared.fault.FaultKind.TheVariants.{NullRef, Bounds}
use Rattle.ti_base.specs.declared.action.Action.TheVariants as act
use Rattle.ti_base.specs.declared.action.CollKind.{CollKind}
use Rattle.ti_base.specs.declared.action.Deposit.{Deposit}
use Rattle.ti_base.specs.declared.action.Deposit.TheVariants as deposit
use Rattle.ti_base.specs.declared.action.ViewHow.{ViewHow}
use Rattle.ti_base.specs.declared.action.ViewHow.TheVariants as how
use Rattle.ti_base.specs.declared.entry.Answer.{Answer}
use Rattle.ti_syntax.specs.declared.tree.exprs.BinaryOperator.{BinaryOperator}
use Rattle.ti_syntax.specs.declared.tree.exprs.BinaryOperator.TheVariants as op
use Rattle.ti_lang.specs.Program.Types.{ValueType, VariableUse}
use Rattle.ti_lang.specs.Program.Types as t
use Rattle.ti_lang.specs.Program.Expressions.{NumberedExp, NumberedExps, NumberedRange, NumberedRanges, place_of_numbered, numbered_ranges}
use Rattle.ti_lang.specs.Program.Expressions as e
use Rattle.ti_lang.specs.Program.Statements.{NumberedDims, NumberedInit, NumberedPrint, NumberedStm}
use Rattle.ti_lang.specs.Program.Statements as s
use Rattle.ti_lang.specs.Program.Scope.{this_of}
use Rattle.ti_lang.specs.Typing.Kinds.{is_point_type}
use Rattle.ti_lang.specs.Typing.BuiltIn.{BuiltIn, Size, Min, Max, Contains, Domain, Restrict, Translate, Slice, Copy, Exchange, Delete}
use Rattle.ti_lang.specs.Typing.Declared.{result_type}
use Rattle.ti_lang.specs.Typing.Called.{member_called}
use Rattle.ti_lang.specs.Meaning.Held.{Held, Plain, Dm, no_value, int_of, point_of, rect_of, referent_of, plain_of}
use Rattle.ti_lang.specs.Meaning.Comp.{Wanted, Request, Reference, request, request_through, ToBeDone, ValueOf, NewThing, Comp, ◌>>=◌, CompResult, Gives, Asks, Fails, bind_result, gives, guard, found_or, asked, needed}
use Rattle.ti_lang.specs.Meaning.Conversions.{to_domain, converted, of_domains}
use Rattle.ti_lang.specs.Meaning.Operands.{Operands, Wholes, Points, Rects, Domains, operands}
use Rattle.ti_lang.specs.Meaning.Operators.{add_values, subtract_values, multiply_values, divide_values, equal, apply_binary, short_circuit}
use Rattle.ti_lang.specs.Meaning.Literals as literal
use Rattle.ti_lang.specs.Meaning.Processes.{Variable, Receiver, Nowhere, Declared, Assigned, Updated, While, Foreach, ContItem, Do, End, Before, Behind, Receive, CopyAll, TakeAll, Frame, Wait, Process}
use Rattle.ti_lang.specs.Meaning.Scoping.{Env, env_of, type_of, declared_type, field_selected}
use Rattle.ti_lang.specs.Meaning.CellRefs.{Part, Field, Element, fetched, domain_asked, domain_of, viewed, coordinate, indexed}
use Rattle.ti_lang.specs.Meaning.MemberForms.{domain_size, member_value}
use Rattle.ti_lang.specs.Meaning.Evaluation.{unless_settled, eval, eval_all, eval_numbers, eval_range, eval_ranges}
use Rattle.ti_lang.specs.Meaning.Targets.{Target, InVariable, InPart, located, held_in, stored, into}
use Rattle.ti_lang.specs.Meaning.Moves.{Move, Goes, Turns, Breaks, Continues, Calls, Returns, Meets, Deletes, receives}
use Rattle.ti_lang.specs.Meaning.Calls.{Call, called, bind_params, maybe_eval, maybe_needed, parameters_of, calling}
use Rattle.ti_lang.specs.Meaning.Makers.{region_for, spread, new_object, new_grid}
use Rattle.ti_lang.specs.Meaning.Copies.{first_type, copies, copied, taken}
use Rattle.ti_lang.specs.Meaning.Collectives.{deletes, root_among, root_deposit, broadcasts, exchanges}
use Rattle.ti_lang.specs.Meaning.Statements.{valued_or_called, made_first, initialized, member_alone, alone, prints, printed, returns, one_more, declared_as, statement}
use Rattle.ti_lang.specs.Meaning.Performing.{condition, exec_item}
use Rattle.ti_lang.specs.Meaning.Steps.{Step, At, most_frames, step_of_result, moves, works, runs, steps, step}
use Rattle.ti_lang.specs.Meaning.Histories.{is_end, is_fault}

-- the fact holds of each kind of request that work makes by itself; of a value that is taken, where the process that gave it is one of these
pub record Each (T : ℕ → Type 0) (Q : Request → Type 0) : Type 0 where
  pub get_field : (r : Reference) (at : Place) (field : ℕ) (type : ValueType) → Q (request_through r at (act.GetField r.thing field) (ValueOf type))
  pub put_field : (r : Reference) (at : Place) (field : ℕ) (value : Value) → Q (request_through r at (act.PutField r.thing field value) ToBeDone)
  pub get_elem : (r : Reference) (at : Place) (index : Point) (type : ValueType) → Q (request_through r at (act.GetElem r.thing index) (ValueOf type))
  pub put_elem : (r : Reference) (at : Place) (index : Point) (value : Value) → Q (request_through r at (act.PutElem r.thing index value) ToBeDone)
  pub make_view : (r : Reference) (at : Place) (view : ViewHow) (type : ValueType) → Q (request_through r at (act.MakeView r.thing view) (NewThing type))
  pub domain : (r : Reference) (at : Place) (type : ValueType) → Q (request_through r at (act.DomainOf r.thing) (ValueOf type))
  pub new_object : (at : Place) (class region : ℕ) (type : ValueType) → Q (request at (act.NewObj class region) (NewThing type))
  pub new_grid : (at : Place) (element : Zero) (domain : Rect) (region : ℕ) (type : ValueType) → Q (request at (act.NewGrid element domain region) (NewThing type))
  pub print : (at : Place) (literal : Option ℕ) (value : Option Value) → Q (request at (act.Print literal value) ToBeDone)
  pub take : (at : Place) (who : ℕ) (type : ValueType) → T who → Q (request at (act.Take who) (ValueOf type))

-- any process
abbrev pub Anyone : ℕ → Type 0
Anyone who = Unit {0}

-- the fact holds of each kind of request, those at collectives among them
pub record EachKind (Q : Request → Type 0) : Type 0 where
  pub alone : Each Anyone Q
  pub arrive : (at : Place) (kind : CollKind) (arg : Option ℕ) (given : Deposit) → Q (request at (act.Arrive kind arg given) ToBeDone)
  pub depart : (at : Place) (wanted : Wanted) → Q (request at act.Depart wanted)

-- the fact of what a computation asks
abbrev pub Of : {A : Type 0} → (Request → Type 0) → CompResult A → Type 0
Of Q (Gives a rest) = Unit {0}
Of Q (Asks request) = Q request
Of Q (Fails kind at) = Unit {0}

-- the process whose value is taken first is one of these
abbrev pub FirstTaken : (ℕ → Type 0) → ContItem → Type 0
FirstTaken T (TakeAll at grid []) = Unit {0}
FirstTaken T (TakeAll at grid (i ∷ is)) = T i
FirstTaken T w = Unit {0}

pub any_first : (w : ContItem) → FirstTaken Anyone w
any_first (TakeAll at grid []) = tt
any_first (TakeAll at grid (i ∷ is)) = tt
any_first _ = tt

-- the fact of what a step asks
abbrev pub OfStep : (Request → Type 0) → Step → Type 0
OfStep Q (At request go) = Q request
OfStep Q _ = Unit {0}

module _ (T : ℕ → Type 0) (Q : Request → Type 0) (each : Each T Q) where
  then_asks : {A B : Type 0} (m : CompResult A) (go : A → Comp B) → Of Q m → ((a : A) (rest : List Answer) → Of Q (go a rest)) → Of Q (bind_result m go)
  then_asks (Gives a rest) go h k = k a rest
  then_asks (Asks request) go h k = h
  then_asks (Fails kind at) go h k = tt

  guarded_asks : {A : Type 0} (test : Bool) (kind : FaultKind) (at : Place) (a : A) (rest : List Answer) → Of Q (guard test kind at a rest)
  guarded_asks true kind at a rest = tt
  guarded_asks false kind at a rest = tt

  found_asks : {A : Type 0} (kind : FaultKind) (at : Place) (o : Option A) (rest : List Answer) → Of Q (found_or kind at o rest)
  found_asks kind at None rest = tt
  found_asks kind at (Some a) rest = tt

  asked_asks : (q : Request) (rest : List Answer) → Q q → Of Q (asked q rest)
  asked_asks q [] h = h
  asked_asks q (r ∷ rest) h = tt

  needed_asks : (at : Place) (type : ValueType) (h : Held) (rest : List Answer) → Of Q (needed at type h rest)
  needed_asks at type h rest = then_asks (found_or NullRef at (referent_of h) rest) _ (found_asks NullRef at (referent_of h) rest) (λ id r. tt)

  -- ---- operators

  to_domain_asks : (at : Place) (h : Held) (rest : List Answer) → Of Q (to_domain at h rest)
  to_domain_asks at (Plain (v.Rc r)) rest = guarded_asks _ _ at _ rest
  to_domain_asks at _ rest = tt

  converted_asks : (at : Place) (type : ValueType) (h : Held) (rest : List Answer) → Of Q (converted at type h rest)
  converted_asks at (t.Dm dim) h rest = to_domain_asks at h rest
  converted_asks at _ h rest = tt

  of_domains_asks : (both : List Point → List Point → List Point) (at : Place) (x y : Held) (rest : List Answer) → Of Q (of_domains both at x y rest)
  of_domains_asks both at x y rest =
      then_asks (to_domain at x rest) _ (to_domain_asks at x rest) (λ d r. then_asks (to_domain at y r) _ (to_domain_asks at y r) (λ k u. guarded_asks _ _ at _ u))

  added_asks : (at : Place) (x y : Held) (o : Operands) (rest : List Answer) → Of Q (add_values at x y o rest)
  added_asks at x y (Wholes w a b) rest = tt
  added_asks at x y (Points p q) rest = tt
  added_asks at x y (Rects r s) rest = of_domains_asks union at x y rest
  added_asks at x y Domains rest = of_domains_asks union at x y rest
  added_asks at x y _ rest = tt

  subtracted_asks : (at : Place) (x y : Held) (o : Operands) (rest : List Answer) → Of Q (subtract_values at x y o rest)
  subtracted_asks at x y (Wholes w a b) rest = tt
  subtracted_asks at x y (Points p q) rest = tt
  subtracted_asks at x y (Rects r s) rest = of_domains_asks minus at x y rest
  subtracted_asks at x y Domains rest = of_domains_asks minus at x y rest
  subtracted_asks at x y _ rest = tt

  multiplied_asks : (at : Place) (x y : Held) (o : Operands) (rest : List Answer) → Of Q (multiply_values at x y o rest)
  multiplied_asks at x y (Wholes w a b) rest = tt
  multiplied_asks at x y (Rects p q) rest = tt
  multiplied_asks at x y Domains rest = of_domains_asks meet at x y rest
  multiplied_asks at x y _ rest = tt

  equal_asks : (at : Place) (x y : Held) (o : Operands) (rest : List Answer) → Of Q (equal at x y o rest)
  equal_asks at x y Domains rest =
      then_asks (to_domain at x rest) _ (to_domain_asks at x rest) (λ d r. then_asks (to_domain at y r) _ (to_domain_asks at y r) (λ k u. tt))
  equal_asks at x y _ rest = tt

  divided_asks : (result : Width → ℤ → ℤ → ℤ) (at : Place) (o : Operands) (rest : List Answer) → Of Q (divide_values result at o rest)
  divided_asks result at (Wholes w a b) rest = guarded_asks _ _ at _ rest
  divided_asks result at _ rest = tt

  operated_asks : (at : Place) (o : BinaryOperator) (x y : Held) (rest : List Answer) → Of Q (apply_binary at o x y rest)
  operated_asks at op.Add x y rest = added_asks at x y (operands x y) rest
  operated_asks at op.Subtract x y rest = subtracted_asks at x y (operands x y) rest
  operated_asks at op.Multiply x y rest = multiplied_asks at x y (operands x y) rest
  operated_asks at op.Divide x y rest = divided_asks (λ w a b. wrap w (quotient a b)) at (operands x y) rest
  operated_asks at op.Remainder x y rest = divided_asks (λ w a b. remainder a b) at (operands x y) rest
  operated_asks at op.Equal x y rest = then_asks (equal at x y (operands x y) rest) _ (equal_asks at x y (operands x y) rest) (λ b r. tt)
  operated_asks at op.NotEqual x y rest = then_asks (equal at x y (operands x y) rest) _ (equal_asks at x y (operands x y) rest) (λ b r. tt)
  operated_asks at _ x y rest = tt

  -- ---- parts and members

  fetched_asks : (at : Place) (type : ValueType) (part : Part) (rest : List Answer) → Of Q (fetched at type part rest)
  fetched_asks at type (Field object through field) rest =
      then_asks (needed at through object rest) _ (needed_asks at through object rest) (λ r u. asked_asks _ u (each.get_field r at field type))
  fetched_asks at type (Element grid through index) rest =
      then_asks (needed at through grid rest) _ (needed_asks at through grid rest) (λ r u. asked_asks _ u (each.get_elem r at index type))

  domain_asked_asks : (at : Place) (r : Reference) (rest : List Answer) → Of Q (domain_asked at r rest)
  domain_asked_asks at r rest = asked_asks _ rest (each.domain r at _)

  domain_of_asks : (at : Place) (through : ValueType) (h : Held) (rest : List Answer) → Of Q (domain_of at through h rest)
  domain_of_asks at through h rest = then_asks (needed at through h rest) _ (needed_asks at through h rest) (λ r u. domain_asked_asks at r u)

  viewed_asks : (at : Place) (type : ValueType) (view : ViewHow) (through : ValueType) (h : Held) (rest : List Answer) → Of Q (viewed at type view through h rest)
  viewed_asks at type view through h rest =
      then_asks (needed at through h rest) _ (needed_asks at through h rest) (λ r u. asked_asks _ u (each.make_view r at view type))

  coordinate_asks : (at : Place) (p : Point) (k : ℤ) (rest : List Answer) → Of Q (coordinate at p k rest)
  coordinate_asks at p k rest =
      let found : Option ℤ = if int_le (pos 1) k then slice_get (literal.coordinates_of p) (pred (natural k)) else None in
      then_asks (found_or Bounds at found rest) _ (found_asks Bounds at found rest) (λ x r. tt)

  indexed_asks : (test : Bool) (at : Place) (type through : ValueType) (h : Held) (indices : List ℤ) (rest : List Answer) → Of Q (indexed test at type through h indices rest)
  indexed_asks true at type through h indices rest = coordinate_asks at (point_of h) (slice_index_or indices 0 (pos 0)) rest
  indexed_asks false at type through h indices rest = fetched_asks at type (Element h through (literal.point_of_numbers indices)) rest

  sized_asks : (at : Place) (h : Held) (rest : List Answer) → Of Q (domain_size at h rest)
  sized_asks at (Plain (v.Rc r)) rest = guarded_asks _ _ at _ rest
  sized_asks at (Dm dim points) rest = tt
  sized_asks at _ rest = tt

  member_asks : (at : Place) (type : ValueType) (o : Option BuiltIn) (through : ValueType) (h : Held) (args : List Held) (rest : List Answer) → Of Q (member_value at type o through h args rest)
  member_asks at type (Some Size) through h args rest = sized_asks at h rest
  member_asks at type (Some Min) through h args rest = guarded_asks _ _ at _ rest
  member_asks at type (Some Max) through h args rest = guarded_asks _ _ at _ rest
  member_asks at type (Some Contains) through h args rest = tt
  member_asks at type (Some Domain) through h args rest = domain_of_asks at through h rest
  member_asks at type (Some Restrict) through h args rest = viewed_asks at type (how.Restrict (rect_of (slice_index_or args 0 no_value))) through h rest
  member_asks at type (Some Translate) through h args rest = viewed_asks at type (how.Translate (point_of (slice_index_or args 0 no_value))) through h rest
  member_asks at type (Some Slice) through h args rest =
      viewed_asks at type (how.Slice (int_of (slice_index_or args 0 no_value)) (int_of (slice_index_or args 1 no_value))) through h rest
  member_asks at type _ through h args rest = tt

  -- ---- expressions

  right_asks : (at : Place) (o : BinaryOperator) (x : Held) (right : Comp Held) (result : Option Held) (rest : List Answer) → ((u : List Answer) → Of Q (right u))
      → Of Q (unless_settled result (λ u. bind_result (right u) (λ y. apply_binary at o x y)) rest)
  right_asks at o x right (Some result) rest h = tt
  right_asks at o x right None rest h = then_asks (right rest) _ (h rest) (λ y u. operated_asks at o x y u)

  mutual
    eval_asks : (env : Env) (x : NumberedExp) (rest : List Answer) → Of Q (eval env x rest)
    eval_asks env (e.Int at n) rest = tt
    eval_asks env (e.Long at n) rest = tt
    eval_asks env (e.Truth at b) rest = tt
    eval_asks env (e.Null at) rest = tt
    eval_asks env (e.This at) rest = tt
    eval_asks env (e.Variable at variable) rest = tt
    eval_asks env (e.OwnField at field) rest =
        fetched_asks at (type_of env (e.OwnField at field)) (Field (Plain (v.Obj env.this)) (type_of env (e.This at)) field) rest
    eval_asks env (e.ThisProc at) rest = tt
    eval_asks env (e.NumProcs at) rest = tt
    eval_asks env (e.Point at parts) rest = then_asks (eval_numbers env parts rest) _ (numbers_ask env parts rest) (λ x u. tt)
    eval_asks env (e.Rect at ranges) rest = then_asks (eval_ranges env ranges rest) _ (ranges_ask env ranges rest) (λ b u. guarded_asks _ _ at _ u)
    eval_asks env (e.Unary at o x) rest = then_asks (eval env x rest) _ (eval_asks env x rest) (λ h u. tt)
    eval_asks env (e.Binary at o x y) rest =
        then_asks (eval env x rest) _ (eval_asks env x rest) (λ h u. right_asks at o h (eval env y) (short_circuit o h) u (eval_asks env y))
    eval_asks env (e.Cast at to x) rest =
        then_asks (eval env x rest) _ (eval_asks env x rest) (λ h u. then_asks (converted at to.type h u) _ (converted_asks at to.type h u) (λ k w. guarded_asks _ _ at _ w))
    eval_asks env (e.Select at x name) rest = then_asks (eval env x rest) _ (eval_asks env x rest) (λ h u.
        fetched_asks at (type_of env (e.Select at x name)) (Field h (type_of env x) (field_selected env x name)) u)
    eval_asks env (e.Member at x name args) rest =
        then_asks (eval env x rest) _ (eval_asks env x rest) (λ h u.
        then_asks (eval_all env args u) _ (all_ask env args u) (λ hs w. member_asks at (type_of env (e.Member at x name args))
        (member_called env.program (this_of env.method) x name) (type_of env x) h hs w))
    eval_asks env (e.Index at x parts) rest =
        then_asks (eval env x rest) _ (eval_asks env x rest) (λ h u.
        then_asks (eval_numbers env parts u) _ (numbers_ask env parts u) (λ indices w. indexed_asks (is_point_type (type_of env x)) at (type_of env (e.Index at x parts)) (type_of env x) h indices w))
    eval_asks env (e.Call at method args) rest = tt
    eval_asks env (e.OwnCall at method args) rest = tt

    all_ask : (env : Env) (xs : NumberedExps) (rest : List Answer) → Of Q (eval_all env xs rest)
    all_ask env e.NoExp rest = tt
    all_ask env (e.MoreExp x xs) rest = then_asks (eval env x rest) _ (eval_asks env x rest) (λ h u. then_asks (eval_all env xs u) _ (all_ask env xs u) (λ hs w. tt))

    numbers_ask : (env : Env) (xs : NumberedExps) (rest : List Answer) → Of Q (eval_numbers env xs rest)
    numbers_ask env e.NoExp rest = tt
    numbers_ask env (e.MoreExp x xs) rest = then_asks (eval env x rest) _ (eval_asks env x rest) (λ h u. then_asks (eval_numbers env xs u) _ (numbers_ask env xs u) (λ hs w. tt))

    range_asks : (env : Env) (x : NumberedRange) (rest : List Answer) → Of Q (eval_range env x rest)
    range_asks env (e.Plain low high) rest =
        then_asks (eval env low rest) _ (eval_asks env low rest) (λ a u. then_asks (eval env high u) _ (eval_asks env high u) (λ b w. tt))
    range_asks env (e.Stepped low high by) rest =
        then_asks (eval env low rest) _ (eval_asks env low rest) (λ a u. then_asks (eval env high u) _ (eval_asks env high u) (λ b w.
        then_asks (eval env by w) _ (eval_asks env by w) (λ c z. tt)))

    ranges_ask : (env : Env) (xs : NumberedRanges) (rest : List Answer) → Of Q (eval_ranges env xs rest)
    ranges_ask env e.NoRange rest = tt
    ranges_ask env (e.MoreRange x xs) rest =
        then_asks (eval_range env x rest) _ (range_asks env x rest) (λ a u. then_asks (eval_ranges env xs u) _ (ranges_ask env xs u) (λ b w. tt))

  -- ---- targets

  located_asks : (env : Env) (x : NumberedExp) (rest : List Answer) → Of Q (located env x rest)
  located_asks env (e.Select at x name) rest = then_asks (eval env x rest) _ (eval_asks env x rest) (λ h u. tt)
  located_asks env (e.Index at x parts) rest =
      then_asks (eval env x rest) _ (eval_asks env x rest) (λ h u. then_asks (eval_numbers env parts u) _ (numbers_ask env parts u) (λ i w. tt))
  located_asks env _ rest = tt

  held_asks : (env : Env) (at : Place) (type : ValueType) (target : Target) (rest : List Answer) → Of Q (held_in env at type target rest)
  held_asks env at type (InVariable variable) rest = tt
  held_asks env at type (InPart part) rest = fetched_asks at type part rest

  stored_asks : (env : Env) (at : Place) (target : Target) (h : Held) (rest : List Answer) → Of Q (stored env at target h rest)
  stored_asks env at (InVariable variable) h rest = tt
  stored_asks env at (InPart (Field object through field)) h rest =
      then_asks (needed at through object rest) _ (needed_asks at through object rest) (λ r u. then_asks (asked _ u) _ (asked_asks _ u (each.put_field r at field _)) (λ d w. tt))
  stored_asks env at (InPart (Element grid through index)) h rest =
      then_asks (needed at through grid rest) _ (needed_asks at through grid rest) (λ r u. then_asks (asked _ u) _ (asked_asks _ u (each.put_elem r at index _)) (λ d w. tt))

  into_asks : (env : Env) (receiver : Receiver) (right : Comp Held) (rest : List Answer) → ((u : List Answer) → Of Q (right u)) → Of Q (into env receiver right rest)
  into_asks env Nowhere right rest k = then_asks (right rest) _ (k rest) (λ h u. tt)
  into_asks env (Declared at variable) right rest k =
      then_asks (right rest) _ (k rest) (λ h u. then_asks (converted at (declared_type variable.declared) h u) _ (converted_asks at (declared_type variable.declared) h u) (λ d w. tt))
  into_asks env (Assigned at target) right rest k =
      then_asks (located env target rest) _ (located_asks env target rest) (λ place u. then_asks (right u) _ (k u) (λ h w.
      then_asks (converted at (type_of env target) h w) _ (converted_asks at (type_of env target) h w) (λ d z. stored_asks env at place d z)))
  into_asks env (Updated at o target) right rest k =
      then_asks (located env target rest) _ (located_asks env target rest) (λ place u.
      then_asks (held_in env (place_of_numbered target) (type_of env target) place u) _ (held_asks env (place_of_numbered target) (type_of env target) place u) (λ old w.
      then_asks (right w) _ (k w) (λ h z. then_asks (apply_binary at o old h z) _ (operated_asks at o old h z) (λ new y.
      then_asks (converted at (type_of env target) new y) _ (converted_asks at (type_of env target) new y) (λ d q. stored_asks env at place d q)))))

  receives_asks : (env : Env) (receiver : Receiver) (right : Comp Held) (rest : List Answer) → ((u : List Answer) → Of Q (right u)) → Of Q (receives env receiver right rest)
  receives_asks env receiver right rest k = then_asks (into env receiver right rest) _ (into_asks env receiver right rest k) (λ variables u. tt)

  -- ---- calls and makers

  bound_asks : (env : Env) (ps : List VariableUse) (xs : NumberedExps) (found : List Variable) (rest : List Answer) → Of Q (bind_params env ps xs found rest)
  bound_asks env (p ∷ ps) (e.MoreExp x xs) found rest =
      then_asks (eval env x rest) _ (eval_asks env x rest) (λ h u.
      then_asks (converted (place_of_numbered x) (declared_type p.declared) h u) _ (converted_asks (place_of_numbered x) (declared_type p.declared) h u) (λ k w. bound_asks env ps xs _ w))
  bound_asks env [] xs found rest = tt
  bound_asks env (p ∷ ps) e.NoExp found rest = tt

  maybe_eval_asks : (env : Env) (o : Option NumberedExp) (rest : List Answer) → Of Q (maybe_eval env o rest)
  maybe_eval_asks env None rest = tt
  maybe_eval_asks env (Some x) rest = then_asks (eval env x rest) _ (eval_asks env x rest) (λ h u. tt)

  maybe_needed_asks : (at : Place) (o : Option Held) (rest : List Answer) → Of Q (maybe_needed at o rest)
  maybe_needed_asks at None rest = tt
  maybe_needed_asks at (Some h) rest = then_asks (needed at t.Void h rest) _ (needed_asks at t.Void h rest) (λ r u. tt)

  calling_asks : (env : Env) (receiver : Receiver) (c : Call) (rest : List Answer) → Of Q (calling env receiver c rest)
  calling_asks env receiver c rest =
      then_asks (maybe_eval env c.object rest) _ (maybe_eval_asks env c.object rest) (λ object u.
      then_asks (bind_params env (parameters_of c.method.params) c.args [] u) _ (bound_asks env (parameters_of c.method.params) c.args [] u) (λ parameters w.
      then_asks (maybe_needed c.place object w) _ (maybe_needed_asks c.place object w) (λ this z. tt)))

  region_asks : (env : Env) (o : Option NumberedExp) (rest : List Answer) → Of Q (region_for env o rest)
  region_asks env None rest = tt
  region_asks env (Some x) rest = then_asks (eval env x rest) _ (eval_asks env x rest) (λ h u. tt)

  spread_asks : (env : Env) (at : Place) (dims : NumberedDims) (rest : List Answer) → Of Q (spread env at dims rest)
  spread_asks env at (s.Domain x) rest = eval_asks env x rest
  spread_asks env at (s.Ranges ranges) rest = then_asks (eval_ranges env (numbered_ranges ranges) rest) _ (ranges_ask env (numbered_ranges ranges) rest) (λ b u. guarded_asks _ _ at _ u)

  object_asks : (env : Env) (at : Place) (region : Option NumberedExp) (class : ℕ) (rest : List Answer) → Of Q (new_object env at region class rest)
  object_asks env at region class rest = then_asks (region_for env region rest) _ (region_asks env region rest) (λ r u. asked_asks _ u (each.new_object at class r _))

  grid_asks : (env : Env) (at : Place) (region : Option NumberedExp) (element : ValueType) (dims_at : Place) (dims : NumberedDims) (rest : List Answer)
      → Of Q (new_grid env at region element dims_at dims rest)
  grid_asks env at region element dims_at dims rest =
      then_asks (region_for env region rest) _ (region_asks env region rest) (λ r u.
      then_asks (spread env dims_at dims u) _ (spread_asks env dims_at dims u) (λ h w. asked_asks _ w (each.new_grid at _ _ r _)))

  -- ---- copies and collectives

  copies_asks : (env : Env) (at : Place) (x : NumberedExp) (args : NumberedExps) (rest : List Answer) → Of Q (copies env at x args rest)
  copies_asks env at x args rest =
      then_asks (eval env x rest) _ (eval_asks env x rest) (λ h u. then_asks (eval_all env args u) _ (all_ask env args u) (λ hs w.
      then_asks (needed at (type_of env x) h w) _ (needed_asks at (type_of env x) h w) (λ to z.
      then_asks (needed at (first_type env args) (slice_index_or hs 0 no_value) z) _ (needed_asks at (first_type env args) (slice_index_or hs 0 no_value) z) (λ from y.
      then_asks (domain_asked at to y) _ (domain_asked_asks at to y) (λ d q. then_asks (domain_asked at from q) _ (domain_asked_asks at from q) (λ k n. tt))))))

  copied_asks : (env : Env) (at : Place) (to from : Reference) (points : List Point) (rest : List Answer) → Of Q (copied env at to from points rest)
  copied_asks env at to from [] rest = tt
  copied_asks env at to from (p ∷ ps) rest =
      then_asks (asked _ rest) _ (asked_asks _ rest (each.get_elem from at p _)) (λ h u. then_asks (asked _ u) _ (asked_asks _ u (each.put_elem to at p _)) (λ d w. tt))

  taken_asks : (env : Env) (at : Place) (grid : Reference) (procs : List ℕ) (rest : List Answer) → FirstTaken T (TakeAll at grid procs) → Of Q (taken env at grid procs rest)
  taken_asks env at grid [] rest k = tt
  taken_asks env at grid (i ∷ is) rest k =
      then_asks (asked _ rest) _ (asked_asks _ rest (each.take at i _ k)) (λ h u. then_asks (asked _ u) _ (asked_asks _ u (each.put_elem grid at _ _)) (λ d w. tt))

  deletes_asks : (env : Env) (at : Place) (x : NumberedExp) (rest : List Answer) → Of Q (deletes env at x rest)
  deletes_asks env at x rest = then_asks (eval env x rest) _ (eval_asks env x rest) (λ h u. tt)

  deposit_asks : (env : Env) (x : NumberedExp) (test : Bool) (rest : List Answer)
      → Of Q ((if test then (eval env x >>= λ h. gives (deposit.One (plain_of h))) else gives deposit.Nothing) rest)
  deposit_asks env x true rest = then_asks (eval env x rest) _ (eval_asks env x rest) (λ h u. tt)
  deposit_asks env x false rest = tt

  broadcasts_asks : (env : Env) (receiver : Receiver) (at : Place) (x p : NumberedExp) (rest : List Answer) → Of Q (broadcasts env receiver at x p rest)
  broadcasts_asks env receiver at x p rest =
      then_asks (eval env p rest) _ (eval_asks env p rest) (λ h u. then_asks (root_among env.procs at h u) _ (guarded_asks _ _ at _ u) (λ root w.
      then_asks (root_deposit env root x w) _ (deposit_asks env x (env.number == root) w) (λ given z. tt)))

  exchanges_asks : (env : Env) (at : Place) (x : NumberedExp) (args : NumberedExps) (rest : List Answer) → Of Q (exchanges env at x args rest)
  exchanges_asks env at x args rest =
      then_asks (eval env x rest) _ (eval_asks env x rest) (λ h u. then_asks (eval_all env args u) _ (all_ask env args u) (λ hs w.
      then_asks (needed at (type_of env x) h w) _ (needed_asks at (type_of env x) h w) (λ grid z.
      then_asks (domain_asked at grid z) _ (domain_asked_asks at grid z) (λ d y. guarded_asks _ _ at _ y))))

  -- ---- statements

  value_asks : (env : Env) (receiver : Receiver) (x : NumberedExp) (o : Option Call) (rest : List Answer) → Of Q (valued_or_called env receiver x o rest)
  value_asks env receiver x None rest = receives_asks env receiver (eval env x) rest (eval_asks env x)
  value_asks env receiver x (Some c) rest = calling_asks env receiver c rest

  made_asks : (env : Env) (receiver : Receiver) (new : Comp Held) (rest : List Answer) → Of Q (new rest) → Of Q (made_first env receiver new rest)
  made_asks env receiver new rest k = then_asks (new rest) _ k (λ h u. receives_asks env receiver (gives h) u (λ w. tt))

  initialized_asks : (env : Env) (receiver : Receiver) (value : NumberedInit) (rest : List Answer) → Of Q (initialized env receiver value rest)
  initialized_asks env receiver (s.Value x) rest = value_asks env receiver x (called env x) rest
  initialized_asks env receiver (s.NewRegion at) rest = tt
  initialized_asks env receiver (s.NewObject at region class) rest = made_asks env receiver (new_object env at region class) rest (object_asks env at region class rest)
  initialized_asks env receiver (s.NewGrid at region element dims_at dims) rest =
      made_asks env receiver (new_grid env at region element.type dims_at dims) rest (grid_asks env at region element.type dims_at dims rest)
  initialized_asks env receiver (s.Broadcast at x p) rest = broadcasts_asks env receiver at x p rest

  member_alone_asks : (env : Env) (at : Place) (x : NumberedExp) (args : NumberedExps) (other : Comp Move) (o : Option BuiltIn) (rest : List Answer)
      → Of Q (other rest) → Of Q (member_alone env at x args other o rest)
  member_alone_asks env at x args other (Some Copy) rest h = copies_asks env at x args rest
  member_alone_asks env at x args other (Some Exchange) rest h = exchanges_asks env at x args rest
  member_alone_asks env at x args other (Some Delete) rest h = deletes_asks env at x rest
  member_alone_asks env at x args other _ rest h = h

  alone_asks : (env : Env) (x : NumberedExp) (o : Option Call) (rest : List Answer) → Of Q (alone env x o rest)
  alone_asks env x (Some c) rest = calling_asks env Nowhere c rest
  alone_asks env (e.Member at x name args) None rest =
      member_alone_asks env at x args _ (member_called env.program (this_of env.method) x name) rest
      (receives_asks env Nowhere (eval env (e.Member at x name args)) rest (eval_asks env (e.Member at x name args)))
  alone_asks env x None rest = receives_asks env Nowhere (eval env x) rest (eval_asks env x)

  prints_ask : (env : Env) (at : Place) (literal : Option ℕ) (value : Option Value) (rest : List Answer) → Of Q (prints env at literal value rest)
  prints_ask env at literal value rest = then_asks (asked _ rest) _ (asked_asks _ rest (each.print at literal value)) (λ d u. tt)

  printed_asks : (env : Env) (at : Place) (what : NumberedPrint) (rest : List Answer) → Of Q (printed env at what rest)
  printed_asks env at s.Nothing rest = prints_ask env at None None rest
  printed_asks env at (s.Text literal) rest = prints_ask env at (Some literal) None rest
  printed_asks env at (s.Expression x) rest = then_asks (eval env x rest) _ (eval_asks env x rest) (λ h u. prints_ask env at None _ u)
  printed_asks env at (s.TextAndExpression literal x) rest = then_asks (eval env x rest) _ (eval_asks env x rest) (λ h u. prints_ask env at (Some literal) _ u)

  returns_ask : (env : Env) (at : Place) (value : Option NumberedExp) (rest : List Answer) → Of Q (returns env at value rest)
  returns_ask env at None rest = tt
  returns_ask env at (Some x) rest =
      then_asks (eval env x rest) _ (eval_asks env x rest) (λ h u. then_asks (converted at (result_type env.method) h u) _ (converted_asks at (result_type env.method) h u) (λ k w. tt))

  statement_asks : (env : Env) (x : NumberedStm) (rest : List Answer) → Of Q (statement env x rest)
  statement_asks env (s.Declare at type variable value) rest = initialized_asks env (Declared at (declared_as type variable)) value rest
  statement_asks env (s.Assign at target value) rest = initialized_asks env (Assigned at target) value rest
  statement_asks env (s.Update at o target x) rest = initialized_asks env (Updated at o target) (s.Value x) rest
  statement_asks env (s.Step at o target) rest = initialized_asks env (Updated at (one_more o) target) (s.Value (e.Int at (pos 1))) rest
  statement_asks env (s.Call x) rest = alone_asks env x (called env x) rest
  statement_asks env (s.Print at what) rest = printed_asks env at what rest
  statement_asks env (s.If at c x) rest = then_asks (eval env c rest) _ (eval_asks env c rest) (λ h u. tt)
  statement_asks env (s.IfElse at c x y) rest = then_asks (eval env c rest) _ (eval_asks env c rest) (λ h u. tt)
  statement_asks env (s.Foreach at variable domain body) rest = then_asks (eval env domain rest) _ (eval_asks env domain rest) (λ h u. tt)
  statement_asks env (s.Return at value) rest = returns_ask env at value rest
  statement_asks env _ rest = tt

  condition_asks : (env : Env) (c : Option NumberedExp) (rest : List Answer) → Of Q (condition env c rest)
  condition_asks env None rest = tt
  condition_asks env (Some c) rest = eval_asks env c rest

  pub performed_asks : (env : Env) (w : ContItem) (rest : List Answer) → FirstTaken T w → Of Q (exec_item env w rest)
  performed_asks env (Do x) rest first = statement_asks env x rest
  performed_asks env (End x) rest first = tt
  performed_asks env (Before (While at c update body)) rest first = then_asks (condition env c rest) _ (condition_asks env c rest) (λ h u. tt)
  performed_asks env (Before (Foreach at variable domain [] body)) rest first = tt
  performed_asks env (Before (Foreach at variable domain (p ∷ ps) body)) rest first = tt
  performed_asks env (Behind loop) rest first = tt
  performed_asks env (Receive receiver h) rest first = receives_asks env receiver (gives h) rest (λ u. tt)
  performed_asks env (CopyAll at to from points) rest first = copied_asks env at to from points rest
  performed_asks env (TakeAll at grid procs) rest first = taken_asks env at grid procs rest first

-- ---- steps

module _ (Q : Request → Type 0) (each : EachKind Q) where
  if_step : (test : Bool) (x y : Step) → OfStep Q x → OfStep Q y → OfStep Q (if test then x else y)
  if_step true x y h k = h
  if_step false x y h k = k

  moves_ask : (p : Process) (f : Frame) (fs : List Frame) (left : List ContItem) (move : Move) → OfStep Q (moves p f fs left move)
  moves_ask p f fs left (Goes variables new) = tt
  moves_ask p f fs left (Turns at variables new) = if_step (nat_lt p.spent p.setting.fuel) _ _ tt tt
  moves_ask p f fs left Breaks = tt
  moves_ask p f fs left Continues = tt
  moves_ask p f fs left (Calls at method this parameters receiver) =
      if_step (nat_lt p.spent p.setting.fuel) _ _ (if_step (nat_lt (length (f ∷ fs)) most_frames) _ _ tt tt) tt
  moves_ask p f fs left (Returns value) = tt
  moves_ask p f fs left (Meets wait given behind) = if_step (nat_lt p.spent p.setting.fuel) _ _ (each.arrive wait.place wait.kind wait.arg given) tt
  moves_ask p f fs left (Deletes at region) = if_step (nat_lt p.spent p.setting.fuel) _ _ (each.arrive at _ _ _) tt

  valued_asks : (p : Process) (got : CompResult Move) (go : Move → Step) → Of Q got → ((move : Move) → OfStep Q (go move)) → OfStep Q (step_of_result p got go)
  valued_asks p (Gives move rest) go h k = k move
  valued_asks p (Asks request) go h k = if_step (nat_lt p.spent p.setting.fuel) _ _ h tt
  valued_asks p (Fails kind at) go h k = tt

  works_ask : (p : Process) (f : Frame) (fs : List Frame) (ws : List ContItem) → OfStep Q (works p f fs ws)
  works_ask p f fs [] = tt
  works_ask p f fs (w ∷ left) = valued_asks p (exec_item (env_of p f left) w p.answers) (moves p f fs left)
      (performed_asks Anyone Q each.alone (env_of p f left) w p.answers (any_first w)) (moves_ask p f fs left)

  steps_ask : (p : Process) (wait : Option Wait) → OfStep Q (steps p wait)
  steps_ask p None = by p.frames
    where
      by : (fs : List Frame) → OfStep Q (runs p fs)
      by [] = tt
      by (f ∷ fs) = works_ask p f fs f.left
  steps_ask p (Some w) = if_step (nat_lt p.spent p.setting.fuel) _ _ (each.depart w.place w.wanted) tt

  pub step_asks : (p : Process) → OfStep Q (step p)
  step_asks p = steps_ask p p.wait

-- ---- no process asks for an end or a fault

abbrev IsAction : Request → Type 0
IsAction q = (is_end q.action ≡ false) × (is_fault q.action ≡ false)

actions : EachKind IsAction
actions = record {
  alone = record {
    get_field = λ r at f type. (refl, refl);
    put_field = λ r at f value. (refl, refl);
    get_elem = λ r at i type. (refl, refl);
    put_elem = λ r at i value. (refl, refl);
    make_view = λ r at view type. (refl, refl);
    domain = λ r at type. (refl, refl);
    new_object = λ at c r type. (refl, refl);
    new_grid = λ at z d r type. (refl, refl);
    print = λ at l value. (refl, refl);
    take = λ at who type k. (refl, refl);
  };
  arrive = λ at kind arg given. (refl, refl);
  depart = λ at wanted. (refl, refl);
}

pub no_end_asked : (p : Process) (q : Request) (go : Answer → Process) → step p ≡ At q go → (is_end q.action ≡ false) × (is_fault q.action ≡ false)
no_end_asked p q go e = subst (OfStep IsAction) e (step_asks IsAction actions p)
