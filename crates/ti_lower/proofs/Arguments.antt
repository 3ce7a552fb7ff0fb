-- Proves that the code of a call evaluates its object and its arguments and is then at the call.
use Rattle.std.proofs.Common.{◌≡◌, ℕ, ◌+◌, ◌==◌, ◌&&◌, Bool, true, false, if◌then◌else◌, slice_get, List, [], ◌∷◌, ◌++◌, length, Option, Some, None, option_map, refl, ap, sym, ◌∙◌, subst, arith}
use Rattle.std.specs.Prelude.{find, not}
use Rattle.std.proofs.lemmas.List.Folds.{find_at}
use Rattle.std.proofs.lemmas.Option.{slice_get-map}
use Rattle.ti_base.specs.declared.place.Place.{Place}
use Rattle.ti_base.specs.declared.value.Id.{Id}
use Rattle.ti_base.specs.declared.value.Value.TheVariants as v
use Rattle.ti_base.specs.declared.fault.FaultKind.TheVariants.{NullRef}
use Rattle.ti_lang.specs.Members.{only_if}
use Rattle.ti_lang.specs.Program.Types.{ValueType, VariableUse}
use Rattle.ti_lang.specs.Program.Types as t
use Rattle.ti_lang.specs.Program.Expressions.{NumberedExp, NumberedExps, place_of_numbered}
use Rattle.ti_lang.specs.Program.Expressions as e
use Rattle.ti_lang.specs.Program.Classes.{NumberedMethod, ProgramView}
use Rattle.ti_lang.specs.Program.Scope.{this_of}
use Rattle.ti_lang.specs.Typing.Called.{called_method, method_behind}
use Rattle.ti_lang.specs.Typing.Declared.{instance_method, is_static_method}
use Rattle.ti_lang.specs.Typing.TextTypes.{syntactic_type}
use Rattle.ti_lang.specs.Meaning.Held.{Held, Plain, referent_of}
use Rattle.ti_lang.specs.Meaning.Comp.{Comp, Reference, ◌>>=◌, bind_result, gives, found_or, needed}
use Rattle.ti_lang.specs.Meaning.Calls.{Call, call_by, parameters_of, bind_params, maybe_eval, maybe_needed, calling}
use Rattle.ti_lang.specs.Meaning.Conversions.{converted}
use Rattle.ti_lang.specs.Meaning.Moves.{Move, Calls}
use Rattle.ti_lang.specs.Meaning.Processes.{Variable, Receiver}
use Rattle.ti_lang.specs.Meaning.Scoping.{Env, declared_type, with_new}
use Rattle.ti_lang.specs.Meaning.Evaluation.{eval}
use Rattle.ti_code.specs.declared.instr.Instr.{Instr}
use Rattle.ti_code.specs.declared.instr.Instr.TheVariants as i
use Rattle.ti_code.specs.Effects.{LocalState, Who, top, below, top_operands, under, receiver_needed}
use Rattle.ti_code.specs.Leading.{effect_of, here, CodeAt, pc_after}
use Rattle.ti_lower_expr.specs.Slots.{Name, Of, SlotsHold, variable, none, object}
use Rattle.ti_lower_expr.specs.Knowing.{HasRepr, known_of_type, known_of}
use Rattle.ti_lower_expr.specs.Coding.{conversion}
use Rattle.ti_lower_expr.specs.Methods.{param_count, is_instance, receiver_in, receivers_of, this_names, push_param_names, names_in_method}
use Rattle.ti_lower.specs.Calling.{method_number, number_called, arg_code, args_code, object_code, call_code}
use Rattle.ti_lower_expr.specs.Doing.{Implements}
use Rattle.ti_lower_expr.proofs.Lemmas.{front_stands, rest_stands, behind_both, does_then, does_value, does_weaker, pushed, under_all}
use Rattle.ti_lower_expr.proofs.Lemmas.{taken_all, converted_known, declared_known, known_is_so, who, code, state, next, next_known, moved}
use Rattle.ti_lower_expr.proofs.Lemmas.{does, convert_does}

-- ---- which calls

-- arguments that are treated, as many as there are parameters
abbrev pub AreArgs : List VariableUse → NumberedExps → Type 0
AreArgs [] e.NoExp = Unit {0}
AreArgs (p ∷ ps) (e.MoreExp x xs) = AreArgs ps xs
AreArgs ps xs = ⊥

-- there is an object where the method has a `this`
abbrev pub IsObject : Option NumberedExp → Option ℕ → Type 0
IsObject None None = Unit {0}
IsObject (Some x) (Some class) = Unit {0}
IsObject x class = ⊥

-- ---- the method of a call

none_method : (n : NumberedMethod) → ◌≡◌ {A = Option NumberedMethod} None (Some n) → ⊥
none_method n e = cc

only_same : (test : NumberedMethod → Bool) (o : Option NumberedMethod) (m : NumberedMethod) → only_if test o ≡ Some m → o ≡ Some m
only_same test None m e = e
only_same test (Some a) m e = by (test a) e
  where
    by : (b : Bool) → (if b then Some a else None) ≡ Some m → Some a ≡ Some m
    by true e = e
    by false e = absurd (none_method m e)

instance_same : (program : ProgramView) (class name : ℕ) (m : NumberedMethod) → instance_method program class name ≡ Some m
    → find (λ (m : NumberedMethod). (m.class == class) && (m.name == name)) program.methods ≡ Some m
unfolding instance_method
instance_same program class name m e =
    only_same (λ (m : NumberedMethod). not (is_static_method m)) (find (λ (m : NumberedMethod). (m.class == class) && (m.name == name)) program.methods) m e

behind_is : (program : ProgramView) (type : ValueType) (name : ℕ) (m : NumberedMethod) → method_behind program type name ≡ Some m
    → slice_get program.methods (method_number program type name) ≡ Some m
behind_is program (t.Class class local) name m e =
    sym (find_at (λ (m : NumberedMethod). (m.class == class) && (m.name == name)) program.methods) ∙ instance_same program class name m e
behind_is program type name m e = absurd (none_method m e)

-- the method of the number that is called
number_is : (program : ProgramView) (this : Option ℕ) (x : NumberedExp) (m : NumberedMethod) → called_method program this x ≡ Some m
    → slice_get program.methods (number_called program this x) ≡ Some m
number_is program this (e.Call at k args) m z = z
number_is program this (e.OwnCall at k args) m z = z
number_is program this (e.Member at x name args) m z = behind_is program (syntactic_type program this x) name m z
number_is program this x m z = absurd (none_method m z)

no_call : (c : Call) → ◌≡◌ {A = Option Call} None (Some c) → ⊥
no_call c e = cc

same_method : (c d : Call) → Some c ≡ Some d → c.method ≡ d.method
same_method c d e = cc

call_method : (x : NumberedExp) (o : Option NumberedMethod) (c : Call) → call_by x o ≡ Some c → o ≡ Some c.method
call_method (e.Call at k args) (Some m) c z = ap Some (same_method _ c z)
call_method (e.OwnCall at k args) (Some m) c z = ap Some (same_method _ c z)
call_method (e.Member at x name args) (Some m) c z = ap Some (same_method _ c z)
call_method (e.Call at k args) None c z = absurd (no_call c z)
call_method (e.OwnCall at k args) None c z = absurd (no_call c z)
call_method (e.Member at x name args) None c z = absurd (no_call c z)
call_method x o c z = absurd (no_call c z)

pub method_is : (program : ProgramView) (this : Option ℕ) (x : NumberedExp) (c : Call) → call_by x (called_method program this x)
    ≡ Some c → slice_get program.methods (number_called program this x) ≡ Some c.method
method_is program this x c z = number_is program this x c.method (call_method x (called_method program this x) c z)

pub receiver_at : (program : ProgramView) (k : ℕ) (m : NumberedMethod) → slice_get program.methods k ≡ Some m → slice_get (receivers_of program) k ≡ Some (receiver_in m)
receiver_at program k m e = slice_get-map receiver_in program.methods k ∙ ap (option_map receiver_in) e

-- ---- the frame of a call

-- the slot of `this`
abbrev pub own_slots : Option ℕ → Option Id → List Held
own_slots None th = []
own_slots (Some class) th = Plain (v.Obj th) ∷ []

-- the object is what the operand names, where there is a `this`
abbrev pub IsReceiver : Option ℕ → Option Id → Held → Type 0
IsReceiver None th h = th ≡ None
IsReceiver (Some class) th h = (id : Id) × (th ≡ Some id) × (referent_of h ≡ Some id)

abbrev pub without_object : Option ℕ → List Held → List Held
without_object None stack = stack
without_object (Some class) stack = below stack

-- the operands of a call are its object and its arguments, and these are what the parameters hold
pub record Ready (m : NumberedMethod) (th : Option Id) (ps : List Variable) (operands stack : List Held) : Type 0 where
  pub args : List Held
  pub are : top_operands (param_count m) operands [] ≡ args
  pub receiver : IsReceiver (this_of m) th (top (under (param_count m) operands))
  pub rest : without_object (this_of m) (under (param_count m) operands) ≡ stack
  pub holds : SlotsHold th (names_in_method m) ps [] (pushed args (own_slots (this_of m) th))

-- what is found of an object
abbrev thing_at : Place → Option Id → Comp Reference
thing_at p o = found_or NullRef p o >>= λ id. gives (record { thing = id; type = t.Void })

abbrev object_at : Place → Option Id → Comp (Option Id)
object_at p o = thing_at p o >>= λ x. gives (Some x.thing)

module _ (c : List Instr) (env : Env) (names : List Name) (slots : List Held) (holds : SlotsHold env.this names env.variables env.turns slots) where
  abbrev here_at : ℕ → List Held → LocalState
  here_at = state c env names slots holds

  abbrev w : Who
  w = who c env names slots holds

  abbrev args_of : List VariableUse → NumberedExps → ℕ → List Instr
  args_of = args_code env.program (this_of env.method) names

  abbrev arg_of : VariableUse → NumberedExp → ℕ → List Instr
  arg_of = arg_code env.program (this_of env.method) names

  -- the arguments are pushed, and the parameters hold them
  abbrev Bound : List VariableUse → ℕ → List Held → List Variable → List Variable → LocalState → Type 0
  Bound ps n stack found vs s = (hs : List Held) × (length hs ≡ length ps) × (s ≡ here_at n (pushed hs stack))
      × ((th : Option Id) (ns : List Name) (ts : List Held) → SlotsHold th ns found [] ts → SlotsHold th (push_param_names ps ns) vs [] (pushed hs ts))

  args_do : (ps : List VariableUse) (xs : NumberedExps) → AreArgs ps xs → (at : ℕ) (stack : List Held) (found : List Variable) → CodeAt c at (args_of ps xs at)
      → Implements w c (here_at at stack) (bind_params env ps xs found) (Bound ps (pc_after at (args_of ps xs at)) stack found)
  args_do [] e.NoExp z at stack found st = does_value w c (Bound [] at stack found) (here_at at stack) found ([], refl, refl, λ th ns ts h. h)
  args_do (p ∷ ps) (e.MoreExp x xs) z at stack found st =
      let first = code c env names slots holds x at in
      let type = declared_type p.declared in
      let place = place_of_numbered x in
      let j = known_of env.program (this_of env.method) x in
      let change = conversion place type j in
      let one = arg_of p x at in
      let mid = pc_after at one in
      let more = args_of ps xs mid in
      let Q = Bound (p ∷ ps) (pc_after at (one ++ more)) stack found in
      let stands = front_stands c at one more st in
      next_known c env names slots holds (HasRepr j) Q (pc_after at first) stack (here_at at stack) (eval env x)
      (λ h rs. bind_result (converted place type h rs) (λ k. bind_params env ps xs (with_new p k found)))
      (known_is_so env names slots holds x) (does c env names slots holds x at stack (front_stands c at first change stands))
      (λ h is_known. next_known c env names slots holds (HasRepr (known_of_type type)) Q mid stack (here_at (pc_after at first) (h ∷ stack))
      (converted place type h) (λ k. bind_params env ps xs (with_new p k found))
      (converted_known place type h) (moved c env names slots holds (pc_after (pc_after at first) change) mid stack _ (converted place type h) (sym (behind_both at first change))
      (convert_does c env names slots holds type j place h (pc_after at first) stack is_known (rest_stands c at first change stands)))
      (λ k fits. does_weaker w c (Bound ps (pc_after mid more) (k ∷ stack) (with_new p k found)) Q (here_at mid (k ∷ stack)) (bind_params env ps xs (with_new p k found))
      (args_do ps xs z mid (k ∷ stack) (with_new p k found) (rest_stands c at one more st))
      (λ vs s b. (
        k ∷ b.0,
        omega (arith, b.1),
        b.2 ∙ ap (λ n. here_at n (pushed b.0 (k ∷ stack))) (sym (behind_both at one more)),
        λ th ns ts h. b.3 th (Of p ∷ ns) (k ∷ ts) (variable (subst (λ z. HasRepr z k) (declared_known p.declared) fits) h),
      ))))
  args_do [] (e.MoreExp x xs) z at stack found st = elim z [ ]
  args_do (p ∷ ps) e.NoExp z at stack found st = elim z [ ]

  -- the call is next
  abbrev pub AtCall : Place → NumberedMethod → Receiver → ℕ → List Held → Move → LocalState → Type 0
  AtCall p m r n stack move s = (th : Option Id) × (ps : List Variable) × (operands : List Held) × (move ≡ Calls p m th ps r) × (s ≡ here_at n operands) × Ready m th ps operands stack

  module _ (p : Place) (m : NumberedMethod) (k : ℕ) (r : Receiver) (is_method : slice_get env.program.methods k ≡ Some m) where
    abbrev params : List VariableUse
    params = parameters_of m.params

    -- the end of a call on no object
    plain_call : (n : ℕ) (stack : List Held) → this_of m ≡ None → (vs : List Variable) (s : LocalState) → Bound params n stack [] vs s → Implements w c s (gives (Calls p m None vs r)) (AtCall p m r n stack)
    plain_call n stack e vs s b =
        let is_under = under_all (param_count m) b.0 stack b.1 in
        does_value w c (AtCall p m r n stack) s (Calls p m None vs r) (
          None,
          vs,
          pushed b.0 stack,
          refl,
          b.2,
          record {
            args = b.0;
            are = taken_all (param_count m) b.0 stack b.1;
            receiver = subst (λ t. IsReceiver t None (top (under (param_count m) (pushed b.0 stack)))) (sym e) refl;
            rest = ap (λ t. without_object t (under (param_count m) (pushed b.0 stack))) e ∙ is_under;
            holds = b.3 None (this_names (this_of m)) (own_slots (this_of m) None) (subst (λ t. SlotsHold None (this_names t) [] [] (own_slots t None)) (sym e) (none refl));
          },
        )

    -- the end of a call on an object
    abbrev tail : Option Id → List Variable → Comp Move
    tail o vs = object_at p o >>= λ th. gives (Calls p m th vs r)

    object_call : (n : ℕ) (h : Held) (stack : List Held) (class : ℕ) → this_of m ≡ Some class → slice_get c n ≡ Some (i.Call k p) → (vs : List Variable) (s : LocalState) → Bound params n (h ∷ stack) [] vs s
        → (o : Option Id) → referent_of h ≡ o → Implements w c s (tail o vs) (AtCall p m r n stack)
    object_call n h stack class e st vs s b None z =
        let is_under = under_all (param_count m) b.0 (h ∷ stack) b.1 in
        let is_receiver : slice_get (receivers_of env.program) k ≡ Some (Some (param_count m)) = receiver_at env.program k m is_method
        ∙ ap (λ t. Some (if is_instance t then Some (param_count m) else None)) e in
        subst (λ s. Implements w c s (tail None vs) (AtCall p m r n stack)) (sym b.2)
        (λ rs. (
          here_at n (pushed b.0 (h ∷ stack)),
          rs,
          here,
          ap (λ x. effect_of w x (here_at n (pushed b.0 (h ∷ stack))) rs) st
              ∙ (ap (λ x. receiver_needed p x (here_at n (pushed b.0 (h ∷ stack))) rs) is_receiver
              ∙ (ap (λ hs. (needed p t.Void (top hs) >>= λ x. gives (here_at n (pushed b.0 (h ∷ stack)))) rs) is_under
              ∙ ap (λ o. (thing_at p o >>= λ x. gives (here_at n (pushed b.0 (h ∷ stack)))) rs) z)),
        ))
    object_call n h stack class e st vs s b (Some id) z =
        let is_under = under_all (param_count m) b.0 (h ∷ stack) b.1 in
        does_value w c (AtCall p m r n stack) s (Calls p m (Some id) vs r) (
          Some id,
          vs,
          pushed b.0 (h ∷ stack),
          refl,
          b.2,
          record {
            args = b.0;
            are = taken_all (param_count m) b.0 (h ∷ stack) b.1;
            receiver = subst (λ t. IsReceiver t (Some id) (top (under (param_count m) (pushed b.0 (h ∷ stack))))) (sym e) (id, refl, ap (λ hs. referent_of (top hs)) is_under ∙ z);
            rest = ap (λ t. without_object t (under (param_count m) (pushed b.0 (h ∷ stack)))) e ∙ ap below is_under;
            holds = b.3 (Some id) (this_names (this_of m)) (own_slots (this_of m) (Some id)) (subst (λ t. SlotsHold (Some id) (this_names t) [] [] (own_slots t (Some id))) (sym e) object);
          },
        )

    -- from the object on
    from_object : (o : Option NumberedExp) (class : Option ℕ) → this_of m ≡ class → IsObject o class → (xs : NumberedExps) → AreArgs params xs → (at : ℕ) (stack : List Held)
        → CodeAt c at (object_code env.program (this_of env.method) names o at ++ (args_of params xs (pc_after at (object_code env.program (this_of env.method) names o at)) ++ i.Call k p ∷ []))
        → Implements w c (here_at at stack) (maybe_eval env o >>= λ object. (bind_params env params xs [] >>= λ vs. (maybe_needed p object >>= λ th. gives (Calls p m th vs r))))
        (AtCall p m r (pc_after (pc_after at (object_code env.program (this_of env.method) names o at)) (args_of params xs (pc_after at (object_code env.program (this_of env.method) names o at)))) stack)
    from_object None None e z xs y at stack st =
        let ys = args_of params xs at in
        let n = pc_after at ys in
        does_then w c (Bound params n stack []) (AtCall p m r n stack) (here_at at stack) (bind_params env params xs []) (λ vs. gives (Calls p m None vs r))
        (args_do params xs y at stack [] (front_stands c at ys _ st)) (λ vs s b. plain_call n stack e vs s b)
    from_object (Some x) (Some class) e z xs y at stack st =
        let first = code c env names slots holds x at in
        let mid = pc_after at first in
        let ys = args_of params xs mid in
        let n = pc_after mid ys in
        let go = λ (object : Option Held). bind_params env params xs [] >>= λ vs. (maybe_needed p object >>= λ th. gives (Calls p m th vs r)) in
        let P = λ (object : Option Held) (s : LocalState). (h : Held) × (object ≡ Some h) × (s ≡ here_at mid (h ∷ stack)) in
        let rest = rest_stands c at first _ st in
        does_then w c P (AtCall p m r n stack) (here_at at stack) (maybe_eval env (Some x)) go
        (next c env names slots holds P mid stack (here_at at stack) (eval env x) (λ h. gives (Some h)) (does c env names slots holds x at stack (front_stands c at first _ st))
        (λ h. does_value w c P (here_at mid (h ∷ stack)) (Some h) (h, refl, refl)))
        (λ object s k. subst (λ o. Implements w c s (go o) (AtCall p m r n stack)) (sym k.1) (subst (λ s. Implements w c s (go (Some k.0)) (AtCall p m r n stack)) (sym k.2)
        (does_then w c (Bound params n (k.0 ∷ stack) []) (AtCall p m r n stack) (here_at mid (k.0 ∷ stack)) (bind_params env params xs [])
        (λ vs. (maybe_needed p (Some k.0) >>= λ th. gives (Calls p m th vs r)))
        (args_do params xs y mid (k.0 ∷ stack) [] (front_stands c mid ys _ rest))
        (λ vs s b. object_call n k.0 stack class e (rest_stands c mid ys _ rest).0 vs s b (referent_of k.0) refl))))
    from_object None (Some class) e z xs y at stack st = elim z [ ]
    from_object (Some x) None e z xs y at stack st = elim z [ ]

  -- the whole call
  pub calling_does : (call : Call) (k : ℕ) (r : Receiver) → slice_get env.program.methods k ≡ Some call.method
      → IsObject call.object (this_of call.method) → AreArgs (parameters_of call.method.params) call.args
      → (at : ℕ) (stack : List Held) → CodeAt c at (call_code env.program (this_of env.method) names k call at)
      → Implements w c (here_at at stack) (calling env r call)
      (λ move s. (n : ℕ) × (slice_get c n ≡ Some (i.Call k call.place))
      × (n + 1 ≡ pc_after at (call_code env.program (this_of env.method) names k call at))
      × AtCall call.place call.method r n stack move s)
  calling_does call k r is_method z y at stack st =
      let xs = object_code env.program (this_of env.method) names call.object at in
      let ys = args_of (parameters_of call.method.params) call.args (pc_after at xs) in
      let n = pc_after (pc_after at xs) ys in
      let Q = λ (move : Move) (s : LocalState). (n : ℕ) × (slice_get c n ≡ Some (i.Call k call.place))
      × (n + 1 ≡ pc_after at (xs ++ (ys ++ i.Call k call.place ∷ []))) × AtCall call.place call.method r n stack move s in
      let ends : n + 1 ≡ pc_after at (xs ++ (ys ++ i.Call k call.place ∷ [])) = sym (behind_both at xs (ys ++ i.Call k call.place ∷ []) ∙ behind_both (pc_after at xs) ys (i.Call k call.place ∷ [])) in
      does_weaker w c (AtCall call.place call.method r n stack) Q (here_at at stack) (calling env r call)
      (from_object call.place call.method k r is_method call.object (this_of call.method) refl z call.args y at stack st)
      (λ move s q. (n, (rest_stands c (pc_after at xs) ys _ (rest_stands c at xs _ st)).0, ends, q))
