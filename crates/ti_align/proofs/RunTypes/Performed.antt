-- Work that fits comes to moves that fit.
use Rattle.std.proofs.Common.{◌≡◌, ◌⊎◌, ℕ, zero, suc, find, slice_get, Bool, true, false, not, ◌&&◌, ◌==◌, inl, inr, if◌then◌else◌, option_map, Option, Some, None, List, [], ◌∷◌, ◌++◌, refl, ap, ap₂, sym, ◌∙◌, subst, eqb-true}
use Rattle.std.specs.List.{list_any}
use Rattle.ti_base.specs.declared.place.Place.{Place}
use Rattle.ti_base.specs.declared.value.Id.{Id}
use Rattle.ti_base.specs.declared.value.Value.TheVariants as v
use Rattle.ti_syntax.specs.declared.tree.classes.Modifier.{Modifier}
use Rattle.ti_lang.specs.Members.{only_if, is_static_word}
use Rattle.ti_lang.specs.Program.Types.{ValueType}
use Rattle.ti_lang.specs.Program.Types as t
use Rattle.ti_lang.specs.Program.Expressions.{NumberedExp, NumberedExps, place_of_numbered}
use Rattle.ti_lang.specs.Program.Expressions as e
use Rattle.ti_lang.specs.Program.Classes.{NumberedParam, MainArgs, Params, NumberedMethod, ProgramView}
use Rattle.ti_lang.specs.Program.Scope.{ScopeContents, this_of}
use Rattle.ti_lang.specs.Typing.Kinds.{is_void, is_object}
use Rattle.ti_lang.specs.Typing.Fits.{fits}
use Rattle.ti_lang.specs.Typing.Declared.{instance_method, result_type, types_of}
use Rattle.ti_lang.specs.Typing.Expressions.{all_fit, takes, called, member_given, type_result, operand, operands, operand_type}
use Rattle.ti_lang.specs.Typing.Expressions as typing
use Rattle.ti_lang.specs.Typing.Called.{method_behind}
use Rattle.ti_lang.specs.Meaning.Held.{Held, Plain, referent_of}
use Rattle.ti_lang.specs.Meaning.Comp.{Comp, needed}
use Rattle.ti_lang.specs.Meaning.Conversions.{converted}
use Rattle.ti_lang.specs.Meaning.Processes.{Variable, Receiver}
use Rattle.ti_lang.specs.Meaning.Scoping.{Env, type_of, type_here}
use Rattle.ti_lang.specs.Meaning.Evaluation.{eval}
use Rattle.ti_lang.specs.Meaning.Targets.{into}
use Rattle.ti_lang.specs.Meaning.Moves.{Move, receives}
use Rattle.ti_lang.specs.Meaning.Calls as call
use Rattle.ti_lang.specs.Meaning.Calls.{Call, call_of, parameters_from, parameters_of, bind_params, maybe_eval, maybe_needed, calling}
use Rattle.ti_lang.specs.Meaning.Statements.{valued_or_called}
use Rattle.ti_align.specs.HeapTyping.{HeapTyping, Grows, IsOf, VariablesFit, ThisFits}
use Rattle.ti_align.specs.Mirrors.Sound.{Sound}
use Rattle.ti_align.specs.Mirrors.Fitting.{EnvFits, IsWritten, AreWritten}
use Rattle.ti_align.specs.Heap.{FieldsFit, FieldsStorable}
use Rattle.ti_align.specs.Mirrors.ContItem.{uses_of, WholeFits, ReceiverFits, MethodFits, MethodsFit, MoveFits}
use Rattle.ti_align.proofs.Runs.Vars.{true_false, and_left, and_right}
use Rattle.ti_align.proofs.RunTypes.Computing.{grows_then, sound_then, sound_value, Names, needed_as}
use Rattle.ti_align.proofs.RunTypes.Operating.{none_some, some_same, where_some, seen_same, converted_fine}
use Rattle.ti_align.proofs.RunTypes.Evaluating.{joined_there, one_there, object_of, not_object, env_stays, eval_fine}
use Rattle.ti_align.proofs.RunTypes.Storing.{variables_stay, into_fine}

-- ---- methods

method_at : (p : ProgramView) (ms : List NumberedMethod) (k : ℕ) (m : NumberedMethod) → MethodsFit p ms → slice_get ms k ≡ Some m → MethodFits p m
method_at p [] k m f z = absurd (none_some m z)
method_at p (x ∷ xs) zero m f z = subst (MethodFits p) (some_same x m z) f.0
method_at p (x ∷ xs) (suc k) m f z = method_at p xs k m f.1 z

method_found : (p : ProgramView) (test : NumberedMethod → Bool) (ms : List NumberedMethod) (m : NumberedMethod) → MethodsFit p ms → find test ms ≡ Some m → MethodFits p m × (test m ≡ true)
method_found p test [] m f z = absurd (none_some m z)
method_found p test (x ∷ xs) m f z = by (test x) refl z (λ k. method_found p test xs m f.1 k)
  where
    by : (b : Bool) → test x ≡ b → (if b then Some x else find test xs) ≡ Some m → (find test xs ≡ Some m → MethodFits p m × (test m ≡ true)) → MethodFits p m × (test m ≡ true)
    by true q z k = subst (λ y. MethodFits p y × (test y ≡ true)) (some_same x m z) (f.0, q)
    by false q z k = k z

only_is : {A : Type 0} (test : A → Bool) (o : Option A) (a : A) → only_if test o ≡ Some a → o ≡ Some a
only_is test None a z = absurd (none_some a z)
only_is test (Some x) a z = by (test x) z
  where
    by : (b : Bool) → (if b then Some x else None) ≡ Some a → Some x ≡ Some a
    by true z = z
    by false z = absurd (none_some a z)

instance_fits : (p : ProgramView) (c name : ℕ) (m : NumberedMethod) → MethodsFit p p.methods → instance_method p c name ≡ Some m → MethodFits p m × (m.class ≡ c)
unfolding instance_method
instance_fits p c name m f z =
    let q = method_found p (λ (m : NumberedMethod). (m.class == c) && (m.name == name)) p.methods m f (only_is _ _ m z) in
    (q.0, eqb-true m.class c (and_left (m.class == c) (m.name == name) q.1))

class_is : (m : NumberedMethod) (class : ℕ) → this_of m ≡ Some class → m.class ≡ class
class_is m class z = by (list_any (λ (x : Modifier). is_static_word x.word) m.modifiers) z
  where
    by : (b : Bool) → (if b then None else Some m.class) ≡ Some class → m.class ≡ class
    by true z = absurd (none_some class z)
    by false z = some_same m.class class z

only_there : (o : Option ValueType) (type : ValueType) → o ≡ Some type → is_void type ≡ false → only_if (λ u. not (is_void u)) o ≡ Some type
only_there o type z v = ap (only_if (λ u. not (is_void u))) z ∙ ap (λ b. if not b then Some type else None) v

behind_none : (p : ProgramView) (u : ValueType) (name : ℕ) → is_object u ≡ false → method_behind p u name ≡ None
behind_none p (t.Class c l) name z = absurd (true_false z)
behind_none p _ name z = refl

-- what is known where work is performed
pub record Ready (s : ScopeContents) (w : HeapTyping) (env : Env) : Type 0 where
  pub fits : EnvFits (uses_of env.method) s w env
  pub variables : VariablesFit w env.variables
  pub fields : FieldsFit env.program
  pub store : FieldsStorable env.program
  pub methods : MethodsFit env.program env.program.methods
  -- an expression inside another has its type in the text
  pub types : (x : NumberedExp) (type : ValueType) → IsWritten (uses_of env.method) x → operand_type env.program s x ≡ Some type → type_here env x ≡ type

pub ready_stays : (s : ScopeContents) (u w : HeapTyping) (env : Env) → Grows u w → Ready s u env → Ready s w env
ready_stays s u w env g r = record {
  fits = env_stays (uses_of env.method) s u w env g r.fits;
  variables = variables_stay u w env.variables g r.variables;
  fields = r.fields;
  store = r.store;
  methods = r.methods;
  types = r.types;
}

module _ (s : ScopeContents) (env : Env) where
  abbrev p : ProgramView
  p = env.program

  -- the computation comes to a move that fits, where values of these types are handed in and are left to be taken
  abbrev pub Fine : Option ValueType → Option ValueType → HeapTyping → Comp Move → Type 0
  Fine handed untaken w m = Sound p (λ u move. MoveFits p env.method handed untaken s u move) w m

  -- an expression inside another
  pub inner_fine : (w : HeapTyping) → Ready s w env → (x : NumberedExp) (type : ValueType) → IsWritten (uses_of env.method) x
      → operand_type p s x ≡ Some type → Sound p (λ u h. IsOf u type h) w (eval env x)
  inner_fine w r x type k z = (eval_fine (uses_of env.method) s w env r.fits r.fields x k type z).sound

  pub receives_fine : (handed untaken : Option ValueType) (w : HeapTyping) → Ready s w env → (receiver : Receiver) (type : ValueType) (right : Comp Held) → ReceiverFits p env.method s receiver type
      → ((u : HeapTyping) → Grows w u → Sound p (λ x h. IsOf x type h) u right) → Fine handed untaken w (receives env receiver right)
  receives_fine handed untaken w r receiver type right k q =
      sound_then p (λ x vs. VariablesFit x vs) _ w (into env receiver right) _
      (into_fine s w env r.fits r.fields r.store r.variables receiver type right k q) (λ u g vs y. sound_value p _ u _ (y, tt, tt))

  -- ---- calls

  -- an object on which a method is called
  abbrev ObjectFits : HeapTyping → NumberedMethod → Option Held → Type 0
  ObjectFits u m o = (h : Held) → o ≡ Some h → (class : ℕ) → this_of m ≡ Some class → (id : Id) → referent_of h ≡ Some id → u.class_at id ≡ Some class

  pub record CallFits (w : HeapTyping) (c : Call) (type : ValueType) : Type 0 where
    pub method : MethodFits p c.method
    pub result : result_type c.method ≡ type
    pub types : List ValueType
    pub args : operands p s c.args ≡ Some types
    pub takes : takes c.method.params types ≡ true
    pub written : AreWritten (uses_of env.method) c.args
    pub object : Sound p (λ u o. ObjectFits u c.method o) w (maybe_eval env c.object)

  -- a whole expression is a call, or else has a value where it isn't void
  abbrev pub CalledOr : HeapTyping → NumberedExp → ValueType → Type 0
  CalledOr w x type =
      ((c : Call) × (call.called env x ≡ Some c) × CallFits w c type) ⊎ ((call.called env x ≡ None) × IsWritten (uses_of env.method) x × (is_void type ≡ false → operand_type p s x ≡ Some type))

  -- a call of a method, with arguments that have types
  abbrev CallThere : Option NumberedMethod → Option (List ValueType) → ValueType → Type 0
  CallThere o q type = (m : NumberedMethod) × (ts : List ValueType) × (o ≡ Some m) × (q ≡ Some ts) × (takes m.params ts ≡ true) × (result_type m ≡ type)

  call_there : (o : Option NumberedMethod) (q : Option (List ValueType)) (type : ValueType) → (called o q).type ≡ Some type → CallThere o q type
  call_there None None type z = absurd (none_some type z)
  call_there None (Some ts) type z = absurd (none_some type z)
  call_there (Some m) None type z = absurd (none_some type z)
  call_there (Some m) (Some ts) type z = let q = where_some (takes m.params ts) (result_type m) type z in (m, ts, refl, refl, q.0, q.1)

  some_object : (w : HeapTyping) → Ready s w env → (m : NumberedMethod) (x : NumberedExp) (P : HeapTyping → Held → Type 0) → Sound p P w (eval env x)
      → ((u : HeapTyping) → Grows w u → (h : Held) → P u h → (class : ℕ) → this_of m ≡ Some class → (id : Id) → referent_of h ≡ Some id
      → u.class_at id ≡ Some class) → Sound p (λ u o. ObjectFits u m o) w (maybe_eval env (Some x))
  some_object w r m x P k f =
      sound_then p P _ w (eval env x) _ k (λ u g h y. sound_value p _ u _ (λ j z class c id q. f u g h y class c id (ap referent_of (some_same h j z) ∙ q)))

  member_or : (w : HeapTyping) → Ready s w env → (at : Place) (a : NumberedExp) (name : ℕ) (args : NumberedExps) (type : ValueType)
      → (type_result p s (e.Member at a name args)).type ≡ Some type → IsWritten (uses_of env.method) (e.Member at a name args)
      → CalledOr w (e.Member at a name args) type
  member_or w r at a name args type z k = by (operand_type p s a) refl (operands p s args) refl z
    where
      other : (u : ValueType) (ts : List ValueType) → operand_type p s a ≡ Some u → operands p s args ≡ Some ts → is_object u ≡ false
          → (member_given p u name ts).is_call ≡ false → (member_given p u name ts).type ≡ Some type
          → CalledOr w (e.Member at a name args) type
      other u ts i j n c z =
          let seen = (eval_fine (uses_of env.method) s w env r.fits r.fields a k.0 u i).seen in
          inr (
            ap (option_map (call_of at (Some a) args)) (behind_none p (type_of env a) name (not_object u (type_of env a) n seen)),
            k,
            λ v.
                ap₂ (λ x y. operand (typing.member_typing p x name y)) i j ∙ ap
                (λ b. if b then None else only_if (λ u. not (is_void u)) (member_given p u name ts).type) c
                ∙ only_there (member_given p u name ts).type type z v,
          )

      given : (u : ValueType) (ts : List ValueType) → operand_type p s a ≡ Some u → operands p s args ≡ Some ts
          → (member_given p u name ts).type ≡ Some type → CalledOr w (e.Member at a name args) type
      given (t.Class c l) ts i j z =
          let q = call_there (instance_method p c name) (Some ts) type z in
          let seen = (eval_fine (uses_of env.method) s w env r.fits r.fields a k.0 (t.Class c l) i).seen in
          let m = instance_fits p c name q.0 r.methods q.2 in
          inl (
            call_of at (Some a) args q.0,
            ap (λ u. option_map (call_of at (Some a) args) (method_behind p u name)) seen ∙ ap (option_map (call_of at (Some a) args)) q.2,
            record {
              method = m.0;
              result = q.5;
              types = ts;
              args = j;
              takes = ap (takes q.0.params) (some_same ts q.1 q.3) ∙ q.4;
              written = k.1;
              object = some_object w r q.0 a (λ u h. IsOf u (t.Class c l) h) (inner_fine w r a (t.Class c l) k.0 i)
                  (λ u g h y class o id x. object_of u c l h y id x ∙ ap Some (sym m.1 ∙ class_is q.0 class o));
            },
          )
      given t.Int ts i j z = other t.Int ts i j refl refl z
      given t.Long ts i j z = other t.Long ts i j refl refl z
      given t.Boolean ts i j z = other t.Boolean ts i j refl refl z
      given (t.Pt n) ts i j z = other (t.Pt n) ts i j refl refl z
      given (t.Rc n) ts i j z = other (t.Rc n) ts i j refl refl z
      given (t.Dm n) ts i j z = other (t.Dm n) ts i j refl refl z
      given t.Region ts i j z = other t.Region ts i j refl refl z
      given (t.Grid x n l) ts i j z = other (t.Grid x n l) ts i j refl refl z
      given t.Null ts i j z = other t.Null ts i j refl refl z
      given t.Void ts i j z = other t.Void ts i j refl refl z

      by : (o : Option ValueType) → operand_type p s a ≡ o → (q : Option (List ValueType)) → operands p s args ≡ q
          → (typing.member_typing p o name q).type ≡ Some type → CalledOr w (e.Member at a name args) type
      by None i q j z = absurd (none_some type z)
      by (Some u) i None j z = absurd (none_some type z)
      by (Some u) i (Some ts) j z = given u ts i j z

  pub called_or : (w : HeapTyping) → Ready s w env → (x : NumberedExp) (type : ValueType) → WholeFits p env.method s x type → CalledOr w x type
  called_or w r (e.Call at method args) type k =
      let q = call_there (slice_get p.methods method) (operands p s args) type k.0 in
      inl (
        call_of at None args q.0,
        ap (option_map (call_of at None args)) q.2,
        record {
          method = method_at p p.methods method q.0 r.methods q.2;
          result = q.5;
          types = q.1;
          args = q.3;
          takes = q.4;
          written = k.1;
          object = sound_value p _ w _ (λ h z. absurd (none_some h z));
        },
      )
  called_or w r (e.OwnCall at method args) type k =
      let q = call_there (slice_get p.methods method) (operands p s args) type k.0 in
      inl (
        call_of at (Some (e.This at)) args q.0,
        ap (option_map (call_of at (Some (e.This at)) args)) q.2,
        record {
          method = method_at p p.methods method q.0 r.methods q.2;
          result = q.5;
          types = q.1;
          args = q.3;
          takes = q.4;
          written = k.1.0;
          object = some_object w r q.0 (e.This at) (λ u h. h ≡ Plain (v.Obj env.this)) (sound_value p _ w _ refl)
              (λ u g h y class o id x. g.classes id class (r.fits.this class (k.1.1 q.0 q.2 class o) id (sym (ap referent_of y) ∙ x)));
        },
      )
  called_or w r (e.Member at a name args) type k = member_or w r at a name args type k.0 k.1
  called_or w r _ type k = inr (refl, k.1, λ v. only_there _ type k.0 v)

  -- arguments become values of their parameters
  bound_fine : (w : HeapTyping) → Ready s w env → (params : List NumberedParam) (number : ℕ) (args : NumberedExps) (ts : List ValueType)
      (found : List Variable) → operands p s args ≡ Some ts → all_fit ts (types_of params) ≡ true → AreWritten (uses_of env.method) args
      → VariablesFit w found → Sound p (λ u vs. VariablesFit u vs) w (bind_params env (parameters_from number params) args found)
  bound_fine w r [] number args ts found z f k v = sound_value p _ w _ v
  bound_fine w r (q ∷ qs) number e.NoExp ts found z f k v = sound_value p _ w _ v
  bound_fine w r (q ∷ qs) number (e.MoreExp x xs) ts found z f k v =
      let j = joined_there _ (operands p s xs) ts z in
      let o = one_there (operand_type p s x) j.0 j.2 in
      let fit : (fits o.0 q.ty.type && all_fit j.1 (types_of qs)) ≡ true = ap (λ y. all_fit y (types_of (q ∷ qs))) (ap (λ y. y ++ j.1) (sym o.2) ∙ j.4) ∙ f in
      sound_then p (λ u h. IsOf u o.0 h) _ w (eval env x) _ (inner_fine w r x o.0 k.0 o.1) (λ u g h y.
      sound_then p (λ u h. IsOf u q.ty.type h) _ u (converted (place_of_numbered x) q.ty.type h) _
      (converted_fine p u (place_of_numbered x) o.0 q.ty.type _ h (and_left (fits o.0 q.ty.type) _ fit) (seen_same _) y) (λ l i n m.
      bound_fine l (ready_stays s w l env (grows_then w u l g i) r) qs _ xs j.1 _ j.3 (and_right (fits o.0 q.ty.type) _ fit) k.1 (m, variables_stay w l found (grows_then w u l g i) v)))

  needed_this : (w : HeapTyping) (at : Place) (m : NumberedMethod) (o : Option Held) → ObjectFits w m o → Sound p (λ u this. ThisFits u m this) w (maybe_needed at o)
  needed_this w at m None f = sound_value p _ w _ (λ class c id z. absurd (none_some id z))
  needed_this w at m (Some h) f =
      sound_then p (λ u r. Names (λ u id. (class : ℕ) → this_of m ≡ Some class → u.class_at id ≡ Some class) t.Void u r) _ w
      (needed at t.Void h) _ (needed_as p w at t.Void h (λ u id. (class : ℕ) → this_of m ≡ Some class → u.class_at id ≡ Some class)
      (λ id z class c. f h refl class c id z) (λ z. absurd (true_false (sym z)))) (λ u g r k.
      sound_value p _ u _ (λ class c id z. subst (λ i. u.class_at i ≡ Some class) (some_same r.thing id z) (k.thing class c)))

  object_stays : (u w : HeapTyping) (m : NumberedMethod) (o : Option Held) → Grows u w → ObjectFits u m o → ObjectFits w m o
  object_stays u w m o g f = λ h z class c id q. g.classes id class (f h z class c id q)

  params_fine : (w : HeapTyping) → Ready s w env → (c : Call) (type : ValueType) → CallFits w c type → (u : HeapTyping) → Grows w u
      → Sound p (λ x vs. VariablesFit x vs) u (bind_params env (parameters_of c.method.params) c.args [])
  params_fine w r c type k u g = by c.method.params k.takes
    where
      by : (q : _) → takes q k.types ≡ true → Sound p (λ x vs. VariablesFit x vs) u (bind_params env (parameters_of q) c.args [])
      by MainArgs z = sound_value p _ u _ tt
      by (Params params) z = bound_fine u (ready_stays s w u env g r) params 0 c.args k.types [] k.args z k.written tt

  pub calling_fine : (handed untaken : Option ValueType) (w : HeapTyping) → Ready s w env → (receiver : Receiver) (c : Call) (type : ValueType)
      → CallFits w c type → ReceiverFits p env.method s receiver type → Fine handed untaken w (calling env receiver c)
  calling_fine handed untaken w r receiver c type k q =
      sound_then p (λ u o. ObjectFits u c.method o) _ w (maybe_eval env c.object) _ k.object (λ u g o y.
      sound_then p (λ x vs. VariablesFit x vs) _ u (bind_params env (parameters_of c.method.params) c.args []) _ (params_fine w r c type k u g) (λ l i vs m.
      sound_then p (λ x this. ThisFits x c.method this) _ l (maybe_needed c.place o) _ (needed_this l c.place c.method o (object_stays u l c.method o i y)) (λ n j this h.
      sound_value p _ n _ (k.method, h, variables_stay l n vs j m, subst (ReceiverFits p env.method s receiver) (sym k.result) q))))

  -- a whole expression that goes to a receiver
  pub whole_fine : (handed untaken : Option ValueType) (w : HeapTyping) → Ready s w env
      → (receiver : Receiver) (x : NumberedExp) (type : ValueType) → WholeFits p env.method s x type → is_void type ≡ false
      → ReceiverFits p env.method s receiver type
      → Fine handed untaken w (valued_or_called env receiver x (call.called env x))
  whole_fine handed untaken w r receiver x type k v q = by (called_or w r x type k)
    where
      by : CalledOr w x type → Fine handed untaken w (valued_or_called env receiver x (call.called env x))
      by (inl c) = subst (λ o. Fine handed untaken w (valued_or_called env receiver x o)) (sym c.1) (calling_fine handed untaken w r receiver c.0 type c.2 q)
      by (inr c) = subst (λ o. Fine handed untaken w (valued_or_called env receiver x o)) (sym c.0)
          (receives_fine handed untaken w r receiver type (eval env x) q
          (λ u g. inner_fine u (ready_stays s w u env g r) x type c.1 (c.2 v)))
