-- Proves what the rules guarantee of calls: an argument for each parameter, an object for each `this`, a value on a right side, and no call
-- of `main`.
use Rattle.std.proofs.Common.{◌≡◌, true≢false, ◌⊎◌, inl, inr, ℕ, suc, ◌+◌, ◌==◌, Bool, true, false, not, ◌&&◌, if◌then◌else◌, length, find, slice_get, option_map, Option, Some, None, List, [], ◌∷◌, refl, ap, sym, ◌∙◌, subst, arith, eqb-true}
use Rattle.ti_base.specs.declared.place.Place.{Place}
use Rattle.ti_syntax.specs.Trees.Expressions.{Exp}
use Rattle.ti_lang.specs.Program.Types.{ValueType, VariableUse}
use Rattle.ti_lang.specs.Program.Types as t
use Rattle.ti_lang.specs.Program.Expressions.{NumberedExp, NumberedExps, place_of_numbered}
use Rattle.ti_lang.specs.Program.Expressions as e
use Rattle.ti_lang.specs.Program.Classes.{NumberedParam, NumberedParams, MainArgs, Params, NumberedMethod, ProgramView}
use Rattle.ti_lang.specs.Program.Scope.{ScopeContents, this_of}
use Rattle.ti_lang.specs.Members.{only_if}
use Rattle.ti_lang.specs.Scopes.{Site}
use Rattle.ti_lang.specs.Numbering as number
use Rattle.ti_lang.specs.Numbering.{NumbersExp}
use Rattle.ti_lang.specs.Typing.Kinds.{where_true, is_void, class_of_type}
use Rattle.ti_lang.specs.Typing.Fits.{fits}
use Rattle.ti_lang.specs.Typing.Declared.{instance_method, is_static_method, result_type, types_of}
use Rattle.ti_lang.specs.Typing.Called.{called_method, method_behind}
use Rattle.ti_lang.specs.Typing.TextTypes.{how_many, syntactic_type}
use Rattle.ti_lang.specs.Typing.Expressions.{operand, all_fit, takes, called, member_typing, member_given, type_result, operands, expr_type, operand_type}
use Rattle.ti_lang.specs.Meaning.Calls.{call_of, call_by, parameters_from, parameters_of}
use Rattle.ti_lang.proofs.Lemmas.{agrees, how_many_is, class_told}
use Rattle.ti_rules.specs.Known.{IsThere}
use Rattle.ti_rules.specs.Refusals.{refused_if}
use Rattle.ti_rules.specs.declared.rule.Rule.TheVariants.{Y6}
use Rattle.ti_rules.specs.Broken.Misplaced.{gives_nothing, misplaced}
use Rattle.ti_rules.specs.Broken.Expressions.{exp_refusals}
use Rattle.ti_rules.specs.Broken.RightSides.{inner_refusals, value_refusals}
use Rattle.ti_rules.proofs.Lemmas.{nil_left, nil_right, not_refused, operand_there, and_right, has_type, none_some, some_same, SiteFits}
use Rattle.ti_rules.proofs.Lemmas.{dims_in, exp_known, exp_dims, own_there, static_there}
use Rattle.ti_lower.specs.Calling.{number_called}
use Rattle.ti_lower.proofs.Arguments.{AreArgs, IsObject, method_is}
use Rattle.ti_lower.proofs.Working.{IsCalled, IsNoCall, IsRight}

where_some : {A : Type 0} (b : Bool) (x y : A) → where_true b x ≡ Some y → (b ≡ true) × (x ≡ y)
where_some true x y e = (refl, some_same x y e)
where_some false x y e = absurd (none_some y e)

-- ---- arguments

-- it has parameters, and not the words of `main`
abbrev pub HasParams : NumberedParams → Type 0
HasParams MainArgs = ⊥
HasParams (Params params) = Unit {0}

as_many_args : (n : ℕ) (ps : List NumberedParam) (xs : NumberedExps) → how_many xs ≡ length ps → AreArgs (parameters_from n ps) xs
as_many_args n [] e.NoExp h = tt
as_many_args n [] (e.MoreExp x xs) h = absurd (omega (arith, h))
as_many_args n (p ∷ ps) e.NoExp h = absurd (omega (arith, h))
as_many_args n (p ∷ ps) (e.MoreExp x xs) h = as_many_args (n + 1) ps xs (omega (arith, h))

fit_count : (ts : List ValueType) (ps : List NumberedParam) → all_fit ts (types_of ps) ≡ true → length ts ≡ length ps
fit_count [] [] h = refl
fit_count [] (p ∷ ps) h = absurd (true≢false (sym h))
fit_count (t ∷ ts) [] h = absurd (true≢false (sym h))
fit_count (t ∷ ts) (p ∷ ps) h = ap suc (fit_count ts ps (and_right (fits t p.ty.type) (all_fit ts (types_of ps)) h))

takes_args : (params : NumberedParams) (ts : List ValueType) (xs : NumberedExps) → length ts ≡ how_many xs → takes params ts ≡ true → AreArgs (parameters_of params) xs × HasParams params
takes_args MainArgs ts xs n h = absurd (true≢false (sym h))
takes_args (Params ps) ts xs n h = (as_many_args 0 ps xs (sym n ∙ fit_count ts ps h), tt)

-- what a call of a method says of it, where it has a type
record Taken (m : NumberedMethod) (xs : NumberedExps) (type : ValueType) : Type 0 where
  args : AreArgs (parameters_of m.params) xs
  has_params : HasParams m.params
  gives : result_type m ≡ type

call_taken : (o : Option NumberedMethod) (q : Option (List ValueType)) (m : NumberedMethod) (xs : NumberedExps) (type : ValueType) → ((ts : List ValueType) → q ≡ Some ts → length ts ≡ how_many xs)
    → o ≡ Some m → (called o q).type ≡ Some type → Taken m xs type
call_taken o None m xs type n e h = absurd (none_some type h)
call_taken None (Some ts) m xs type n e h = absurd (none_some type h)
call_taken (Some a) (Some ts) m xs type n e h =
    let w = where_some (takes a.params ts) (result_type a) type h in
    let same = some_same a m e in
    let q = takes_args m.params ts xs (n ts refl) (subst (λ (b : NumberedMethod). takes b.params ts ≡ true) same w.0) in
    record { args = q.0; has_params = q.1; gives = sym (ap result_type same) ∙ w.1 }

-- ---- objects

static_object : (m : NumberedMethod) → is_static_method m ≡ true → IsObject None (this_of m)
static_object m h = subst (λ (b : Bool). IsObject None (if b then None else Some m.class)) (sym h) tt

instance_object : (x : NumberedExp) (m : NumberedMethod) → is_static_method m ≡ false → IsObject (Some x) (this_of m)
instance_object x m h = subst (λ (b : Bool). IsObject (Some x) (if b then None else Some m.class)) (sym h) tt

only_if_passes : (test : NumberedMethod → Bool) (o : Option NumberedMethod) (m : NumberedMethod) → only_if test o ≡ Some m → test m ≡ true
only_if_passes test None m h = absurd (none_some m h)
only_if_passes test (Some a) m h = let w = where_some (test a) a m h in subst (λ b. test b ≡ true) w.1 w.0

not_is : (b : Bool) → not b ≡ true → b ≡ false
not_is true h = absurd (true≢false (sym h))
not_is false h = refl

instance_is : (p : ProgramView) (class name : ℕ) (m : NumberedMethod) → instance_method p class name ≡ Some m → is_static_method m ≡ false
unfolding instance_method
instance_is p class name m h = not_is (is_static_method m) (only_if_passes (λ (m : NumberedMethod). not (is_static_method m))
    (find (λ (m : NumberedMethod). (m.class == class) && (m.name == name)) p.methods) m h)

-- ---- calls

-- the method where a run begins takes its words alone
pub record MainWords (p : ProgramView) : Type 0 where
  pub main : NumberedMethod
  pub is_there : slice_get p.methods p.main ≡ Some main
  pub words : main.params ≡ MainArgs

not_main : (p : ProgramView) (w : MainWords p) (k : ℕ) (m : NumberedMethod) → slice_get p.methods k ≡ Some m → HasParams m.params → (k == p.main) ≡ false
not_main p w k m i h = by (k == p.main) refl
  where
    by : (b : Bool) → (k == p.main) ≡ b → b ≡ false
    by true e =
        let same : m ≡ w.main = some_same m w.main (sym i ∙ ap (λ j. slice_get p.methods j) (eqb-true k p.main e) ∙ w.is_there) in
        absurd (subst HasParams (ap (λ (n : NumberedMethod). n.params) same ∙ w.words) h)
    by false e = refl

module _ (p : ProgramView) (words : MainWords p) (s : ScopeContents) (result : ValueType) (site : Site) (k : SiteFits p s site) where
  -- a call that gives this type
  abbrev Gives : NumberedExp → ValueType → Type 0
  Gives y type = (z : IsCalled p s.this_class result y) × (result_type z.call.method ≡ type)

  -- it calls no method, or it is such a call
  abbrev CallOrNot : NumberedExp → ValueType → Type 0
  CallOrNot y type = IsNoCall p s.this_class result y ⊎ Gives y type

  gives_call : (y : NumberedExp) (at : Place) (object : Option NumberedExp) (xs : NumberedExps) (m : NumberedMethod) (type : ValueType)
      → call_by y (called_method p s.this_class y) ≡ Some (call_of at object xs m)
      → IsObject object (this_of m) → Taken m xs type → Gives y type
  gives_call y at object xs m type is o taken =
      let c = call_of at object xs m in (
        record { call = c; is = is; object = o; args = taken.args; not_main = not_main p words (number_called p s.this_class y) m (method_is p s.this_class y c is) taken.has_params },
        taken.gives,
      )

  static_call : (at : Place) (method : ℕ) (xs : NumberedExps) (m : NumberedMethod) (type : ValueType) → slice_get p.methods method ≡ Some m → is_static_method m ≡ true
      → expr_type p s (e.Call at method xs) ≡ Some type → CallOrNot (e.Call at method xs) type
  static_call at method xs m type i z h =
      inr (gives_call (e.Call at method xs) at None xs m type (ap (option_map (call_of at None xs)) i) (static_object m z)
      (call_taken (slice_get p.methods method) (operands p s xs) m xs type (how_many_is p s xs) i h))

  -- behind an object of a class
  object_call : (at : Place) (a : NumberedExp) (name : ℕ) (xs : NumberedExps) (class : ℕ) (q : Option (List ValueType)) (type : ValueType)
      → ((ts : List ValueType) → q ≡ Some ts → length ts ≡ how_many xs)
      → method_behind p (syntactic_type p s.this_class a) name ≡ instance_method p class name → (called (instance_method p class name) q).type ≡ Some type → CallOrNot (e.Member at a name xs) type
  object_call at a name xs class q type n behind h = by (instance_method p class name) refl h
    where
      by : (o : Option NumberedMethod) → instance_method p class name ≡ o → (called o q).type ≡ Some type → CallOrNot (e.Member at a name xs) type
      by None i h = inl (ap (option_map (call_of at (Some a) xs)) (behind ∙ i))
      by (Some m) i h =
          inr (gives_call (e.Member at a name xs) at (Some a) xs m type (ap (option_map (call_of at (Some a) xs)) (behind ∙ i))
          (instance_object a m (instance_is p class name m i)) (call_taken (Some m) q m xs type n refl h))

  behind_class : (w : ValueType) (class name : ℕ) → class_of_type w ≡ Some class → method_behind p w name ≡ instance_method p class name
  behind_class (t.Class d l) class name h = ap (λ c. instance_method p c name) (some_same d class h)
  behind_class w class name h = absurd (none_some class h)

  behind_other : (w : ValueType) (name : ℕ) → class_of_type w ≡ None → method_behind p w name ≡ None
  behind_other (t.Class d l) name h = absurd (none_some d (sym h))
  behind_other w name h = refl

  operand_typed : (o : Option ValueType) (b : Bool) (u : ValueType) → operand (record { type = o; is_call = b }) ≡ Some u → o ≡ Some u
  operand_typed o true u h = absurd (none_some u h)
  operand_typed None false u h = absurd (none_some u h)
  operand_typed (Some a) false u h = let w = where_some (not (is_void a)) a u h in ap Some w.1

  -- the class of an expression is that of its type in the text
  class_in_text : (x : Exp) (a : NumberedExp) → NumbersExp site x a → (u : ValueType) → operand_type p s a ≡ Some u → class_of_type (syntactic_type p s.this_class a) ≡ class_of_type u
  class_in_text x a number u h =
      class_told p s.this_class (λ i. 1) (dims_in s) a ∙ ap class_of_type (agrees p s (dims_in s) a (exp_dims p s site k x a number) u (operand_typed (type_result p s a).type (type_result p s a).is_call u h))

  member_call : (at : Place) (x : Exp) (a : NumberedExp) (name : ℕ) (xs : NumberedExps) (type : ValueType) → NumbersExp site x a
      → expr_type p s (e.Member at a name xs) ≡ Some type → CallOrNot (e.Member at a name xs) type
  member_call at x a name xs type number h = by (operand_type p s a) (operands p s xs) refl refl h
    where
      of : (u : ValueType) (ts : List ValueType) → operand_type p s a ≡ Some u → operands p s xs ≡ Some ts → (member_given p u name ts).type ≡ Some type → CallOrNot (e.Member at a name xs) type
      of (t.Class c l) ts i j h =
          object_call at a name xs c (Some ts) type (λ us z. how_many_is p s xs us (j ∙ z)) (behind_class (syntactic_type p s.this_class a) c name (class_in_text x a number (t.Class c l) i)) h
      of u ts i j h = inl (ap (option_map (call_of at (Some a) xs)) (behind_other (syntactic_type p s.this_class a) name (class_in_text x a number u i)))

      by : (o : Option ValueType) (q : Option (List ValueType)) → operand_type p s a ≡ o → operands p s xs ≡ q → (member_typing p o name q).type ≡ Some type → CallOrNot (e.Member at a name xs) type
      by None q i j h = absurd (none_some type h)
      by (Some u) None i j h = absurd (none_some type h)
      by (Some u) (Some ts) i j h = of u ts i j h

  -- an expression with a type
  call_or_not : (x : Exp) (y : NumberedExp) → NumbersExp site x y → (type : ValueType) → expr_type p s y ≡ Some type → CallOrNot y type
  call_or_not x y (number.call {at = at} {name = name} {method = method} {ys = ys} n z xs) type h =
      let c = own_there p s site k name method n in static_call at method ys c.0 type c.1 (c.2 ∙ z) h
  call_or_not x y (number.class_call {at = at} {name = name} {class = class} {method = method} {ys = ys} n i xs) type h =
      let c = static_there p s site k class name method i in static_call at method ys c.0 type c.1 c.2 h
  call_or_not x y (number.own_call {at = at} {name = name} {method = method} {ys = ys} n z xs) type h =
      let c = own_there p s site k name method n in
      inr (gives_call (e.OwnCall at method ys) at (Some (e.This at)) ys c.0 type (ap (option_map (call_of at (Some (e.This at)) ys)) c.1) (instance_object (e.This at) c.0 (c.2 ∙ z))
      (call_taken (slice_get p.methods method) (operands p s ys) c.0 ys type (how_many_is p s ys) c.1 h))
  call_or_not x y (number.member {at = at} {y = a} {ys = ys} n i xs) type h = member_call at _ a _ ys type i h
  call_or_not x y _ type h = inl refl

  -- ---- where no rule is broken

  exp_there : (x : Exp) (y : NumberedExp) → NumbersExp site x y → exp_refusals p s y ≡ [] → IsThere (expr_type p s y)
  exp_there x y n h = has_type p s y (exp_known p s site k x y n) h

  -- a call as a statement
  pub call_fine : (x : Exp) (y : NumberedExp) → NumbersExp site x y → exp_refusals p s y ≡ [] → IsNoCall p s.this_class result y ⊎ IsCalled p s.this_class result y
  call_fine x y n h = let type = exp_there x y n h in by (call_or_not x y n type.0 type.1)
    where
      by : {type : ValueType} → CallOrNot y type → IsNoCall p s.this_class result y ⊎ IsCalled p s.this_class result y
      by (inl z) = inl z
      by (inr z) = inr z.0

  -- a right side
  pub right_fine : (x : Exp) (y : NumberedExp) → NumbersExp site x y → value_refusals p s y ≡ [] → IsRight p s.this_class result y
  right_fine x y n h =
      let nothing = refused_if (gives_nothing (expr_type p s y)) Y6 (place_of_numbered y) in
      let type = exp_there x y n (nil_left (exp_refusals p s y) nothing h) in
      by type.0 (sym (ap gives_nothing type.1) ∙ not_refused (gives_nothing (expr_type p s y)) Y6 (place_of_numbered y) (nil_right (exp_refusals p s y) nothing h)) (call_or_not x y n type.0 type.1)
    where
      by : (type : ValueType) → is_void type ≡ false → CallOrNot y type → IsRight p s.this_class result y
      by type v (inl z) = inl z
      by type v (inr z) = inr (z.0, ap is_void z.1 ∙ v)

  -- an expression inside a statement has a type
  pub inner_there : (x : Exp) (y : NumberedExp) → NumbersExp site x y → inner_refusals p s y ≡ [] → IsThere (operand_type p s y)
  inner_there x y n h =
      operand_there (type_result p s y) (place_of_numbered y) (exp_there x y n (nil_left (exp_refusals p s y) (misplaced p s y) h)) (nil_right (exp_refusals p s y) (misplaced p s y) h)
