-- In a stripped program that breaks no type rule, no statement calls a single method: only `main` is one, and it is never called.
use Rattle.std.proofs.Common.{◌≡◌, ◌⊎◌, inl, inr, ℕ, zero, suc, ◌+◌, ◌==◌, Bool, true, false, not, ◌&&◌, ◌||◌, cond, if◌then◌else◌}
use Rattle.std.proofs.Common.{find, length, flat_map, is_some, slice_get, option_and_then, Option, Some, None, List, [], ◌∷◌}
use Rattle.std.proofs.Common.{◌++◌, refl, ap, ap₂, sym, ◌∙◌, subst, arith, eqb-true}
use Rattle.std.proofs.Math.Bool.{Bool-set}
use Rattle.std.proofs.Math.Logic.{∥∥₁_elim}
use Rattle.std.specs.List.{list_any}
use Rattle.std.proofs.lemmas.List.Folds.{list_any-append}
use Rattle.ti_base.specs.declared.place.Place.{Place}
use Rattle.ti_syntax.specs.Trees.Expressions.{Exp}
use Rattle.ti_syntax.specs.Trees.Statements.{InitTree, Stm, MaybeStm, Stms, stms}
use Rattle.ti_syntax.specs.Trees.Classes.{ParamsTree, TextTree}
use Rattle.ti_lang.specs.Program.Types.{ValueType, Declaration, Typed, Foreach}
use Rattle.ti_lang.specs.Program.Types as t
use Rattle.ti_lang.specs.Program.Expressions.{NumberedExp, place_of_numbered}
use Rattle.ti_lang.specs.Program.Expressions as e
use Rattle.ti_lang.specs.Program.Statements.{NumberedInit, NumberedStm, MaybeNumbered, NumberedStms, numbered_stms}
use Rattle.ti_lang.specs.Program.Statements as s
use Rattle.ti_lang.specs.Program.Classes.{NumberedParams, MainArgs, NumberedMethod, ProgramView}
use Rattle.ti_lang.specs.Program.Scope.{ScopeVariable, ScopeContents, parameters, this_of}
use Rattle.ti_lang.specs.MainForm.{is_words, is_void, is_public, has_main_modifiers, has_main_form}
use Rattle.ti_lang.specs.Members.{OwnMethod, methods_of, is_static, is_single, name_number}
use Rattle.ti_lang.specs.Scopes.{Site, declares, past, past_maybe, site_after, behind_maybe, method_site, body_site}
use Rattle.ti_lang.specs.Numbering as number
use Rattle.ti_lang.specs.Numbering.{NumbersExp, NumbersInit, NumbersStm, NumbersMaybeStm, NumbersStms, NumbersParams, NumbersMethod, NumbersMethods, Numbers, IsNumbered}
use Rattle.ti_lang.specs.Typing.Kinds.{domain_dim}
use Rattle.ti_lang.specs.Typing.Declared.{instance_method, is_static_method}
use Rattle.ti_lang.specs.Typing.TextTypes.{syntactic_type}
use Rattle.ti_lang.specs.Typing.Called.{called_method, method_behind}
use Rattle.ti_lang.specs.Typing.Effects.{is_collective_call}
use Rattle.ti_lang.specs.Typing.Expressions.{called, type_result, operands, operand_type}
use Rattle.ti_rules.specs.Known.{IsThere}
use Rattle.ti_rules.specs.declared.refusal.Refusal.{Refusal}
use Rattle.ti_rules.specs.InitialTypes.{right_side_type, initial_type}
use Rattle.ti_rules.specs.StmtInContext.{StmtContext, StmtInContext, stands, with_foreach_variable, variables_inside, loop_acts, inside, inside_maybe, inside_all, standing_in_method}
use Rattle.ti_rules.specs.Broken.Refused.{judged, both_judged, operand_refusal, misfit}
use Rattle.ti_rules.specs.Broken.Misplaced.{misplaced}
use Rattle.ti_rules.specs.Broken.Words.{type_word_refusals}
use Rattle.ti_rules.specs.Broken.Expressions.{exp_refusals}
use Rattle.ti_rules.specs.Broken.RightSides.{inner_refusals, value_refusals, initial_refusals}
use Rattle.ti_rules.specs.Broken.Targets.{write_refusals}
use Rattle.ti_rules.specs.Broken.Statements.{update_refusals, standing_refusals}
use Rattle.ti_rules.specs.TypeRules.{class_refusals, head_refusals, end_refusals, method_refusals, type_refusals}
use Rattle.ti_rules.proofs.Lemmas.{nil_left, nil_right, each_left, each_right, not_mistaken, operand_there, and_left, and_right, has_type}
use Rattle.ti_rules.proofs.Lemmas.{none_some, some_same, only_if_there, TextFits, text_fits, SiteFits, past_fits, past_maybe_fits}
use Rattle.ti_rules.proofs.Lemmas.{behind_fits, behind_maybe_fits, own_there, static_there, exp_known, point_fits, body_fits}
use Rattle.ti_blame.specs.declared.reason.Reason.{Reason}
use Rattle.ti_blame.specs.declared.reason.Reason.TheVariants.{OfMethod, OfCollective, Always}
use Rattle.ti_blame.specs.Marks.{Marks}
use Rattle.ti_infer.specs.Stripped.{plain_method, plain_methods, stripped}
use Rattle.ti_infer.specs.Marks.{variable_place}
use Rattle.ti_infer.specs.Reason.{reasons_if, method_reasons, acts_reasons, initial_reasons, place_reasons, declared_reasons, target_reasons, reasons, reasons_of_maybe, reasons_of_all, program_blamed}
use Rattle.ti_infer.specs.Descent.{is_always}
use Rattle.ti_infer.proofs.Truths.{true_false}
use Rattle.ti_infer.proofs.Within.{never_blamed}
use Rattle.ti_infer.proofs.OnlyChanges.{text_still}

abbrev acts_always : List Reason → Bool
acts_always xs = list_any is_always xs

both_calm : (xs ys : List Reason) → acts_always xs ≡ false → acts_always ys ≡ false → acts_always (xs ++ ys) ≡ false
both_calm xs ys h k = list_any-append is_always xs ys ∙ ap₂ (λ a b. a || b) h k

-- ---- methods that aren't single, or that nobody calls

-- it takes its words, and is static
pub record IsMain (m : NumberedMethod) : Type 0 where
  static : is_static_method m ≡ true
  words : m.params ≡ MainArgs

abbrev PlainOrMain : NumberedMethod → Type 0
PlainOrMain m = (m.is_single ≡ false) ⊎ IsMain m

abbrev MethodsPlain : List NumberedMethod → Type 0
MethodsPlain [] = Unit {0}
MethodsPlain (m ∷ ms) = PlainOrMain m × MethodsPlain ms

get_plain : (ms : List NumberedMethod) → MethodsPlain ms → (k : ℕ) (m : NumberedMethod) → slice_get ms k ≡ Some m → PlainOrMain m
get_plain [] h k m i = absurd (none_some m i)
get_plain (x ∷ ms) h zero m i = subst PlainOrMain (some_same x m i) h.0
get_plain (x ∷ ms) h (suc k) m i = get_plain ms h.1 k m i

find_plain : (test : NumberedMethod → Bool) (ms : List NumberedMethod) → MethodsPlain ms → (m : NumberedMethod) → find test ms ≡ Some m → PlainOrMain m
find_plain test [] h m i = absurd (none_some m i)
find_plain test (x ∷ ms) h m i = by (test x) i (find_plain test ms h.1 m)
  where
    by : (b : Bool) → cond b (Some x) (find test ms) ≡ Some m → (find test ms ≡ Some m → PlainOrMain m) → PlainOrMain m
    by true i ih = subst PlainOrMain (some_same x m i) h.0
    by false i ih = ih i

-- what a method that isn't single is to a call
plain_calm : (m : NumberedMethod) → m.is_single ≡ false → acts_always (method_reasons (Some m)) ≡ false
plain_calm m h = ap (λ (b : Bool). acts_always ((if b then Always else OfMethod m.place) ∷ [])) h

-- one that has a `this`
instance_calm : (m : NumberedMethod) → PlainOrMain m → is_static_method m ≡ false → acts_always (method_reasons (Some m)) ≡ false
instance_calm m (inl h) z = plain_calm m h
instance_calm m (inr h) z = absurd (true_false (sym h.static ∙ z))

-- one whose call has a type
typed_calm : (m : NumberedMethod) (q : Option (List ValueType)) (type : ValueType) → PlainOrMain m → (called (Some m) q).type ≡ Some type → acts_always (method_reasons (Some m)) ≡ false
typed_calm m None type h i = absurd (none_some type i)
typed_calm m (Some ts) type (inl h) i = plain_calm m h
typed_calm m (Some ts) type (inr h) i = absurd (none_some type (sym (taken m.params h.words) ∙ i))
  where
    taken : (ps : NumberedParams) → ps ≡ MainArgs → (called (Some (record m { params = ps })) (Some ts)).type ≡ None
    taken ps is = ap (λ (ps : NumberedParams). (called (Some (record m { params = ps })) (Some ts)).type) is

-- ---- calls

not_is : (b : Bool) → not b ≡ true → b ≡ false
not_is true h = absurd (true_false (sym h))
not_is false h = refl

instance_is : (p : ProgramView) → MethodsPlain p.methods → (class name : ℕ) (m : NumberedMethod) → instance_method p class name ≡ Some m → PlainOrMain m × (is_static_method m ≡ false)
unfolding instance_method
instance_is p plain class name m h =
    let test = λ (m : NumberedMethod). (m.class == class) && (m.name == name) in
    let q = only_if_there (λ (m : NumberedMethod). not (is_static_method m)) (find test p.methods) m h in
    (find_plain test p.methods plain m q.0, not_is (is_static_method m) q.1)

behind_calm : (p : ProgramView) → MethodsPlain p.methods → (type : ValueType) (name : ℕ) → acts_always (method_reasons (method_behind p type name)) ≡ false
behind_calm p plain (t.Class class is_local) name = by (instance_method p class name) refl
  where
    by : (o : Option NumberedMethod) → instance_method p class name ≡ o → acts_always (method_reasons o) ≡ false
    by None i = refl
    by (Some m) i = let q = instance_is p plain class name m i in instance_calm m q.0 q.1
behind_calm p plain _ name = refl

guarded_calm : (b : Bool) (at : Place) → acts_always (reasons_if b (OfCollective at ∷ [])) ≡ false
guarded_calm true at = refl
guarded_calm false at = refl

module _ (p : ProgramView) (plain : MethodsPlain p.methods) (s : ScopeContents) (site : Site) (k : SiteFits p s site) where
  -- a call by the number of a method
  numbered_calm : (method : ℕ) (m : NumberedMethod) → slice_get p.methods method ≡ Some m → (q : Option (List ValueType)) (type : ValueType) → (called (slice_get p.methods method) q).type ≡ Some type
      → acts_always (method_reasons (slice_get p.methods method)) ≡ false
  numbered_calm method m i q type h =
      ap (λ (o : Option NumberedMethod). acts_always (method_reasons o)) i
      ∙ typed_calm m q type (get_plain p.methods plain method m i) (sym (ap (λ (o : Option NumberedMethod). (called o q).type) i) ∙ h)

  called_calm : (x : Exp) (y : NumberedExp) → NumbersExp site x y → exp_refusals p s y ≡ [] → acts_always (method_reasons (called_method p s.this_class y)) ≡ false
  called_calm x y (number.call {at = at} {name = name} {method = method} {xs = xs} {ys = ys} n z h) r =
      let c = own_there p s site k name method n in
      let type = has_type p s (e.Call at method ys) (exp_known p s site k _ (e.Call at method ys) (number.call n z h)) r in
      numbered_calm method c.0 c.1 (operands p s ys) type.0 type.1
  called_calm x y (number.class_call {at = at} {x = a} {name = name} {class = class} {method = method} {xs = xs} {ys = ys} n i h) r =
      let c = static_there p s site k class name method i in
      let type = has_type p s (e.Call at method ys) (exp_known p s site k _ (e.Call at method ys) (number.class_call n i h)) r in
      numbered_calm method c.0 c.1 (operands p s ys) type.0 type.1
  called_calm x y (number.own_call {name = name} {method = method} n z h) r =
      let c = own_there p s site k name method n in
      ap (λ (o : Option NumberedMethod). acts_always (method_reasons o)) c.1 ∙ instance_calm c.0 (get_plain p.methods plain method c.0 c.1) (c.2 ∙ z)
  called_calm x y (number.member {y = a} {name = name} n i h) r = behind_calm p plain (syntactic_type p s.this_class a) _
  called_calm x y _ r = refl

-- ---- statements

module _ (p : ProgramView) (plain : MethodsPlain p.methods) (m : NumberedMethod) where
  abbrev here : List ScopeVariable → Option Bool → StmtContext
  here vs j = record { method = m; variables = vs; jump_has = j }

  abbrev scope : List ScopeVariable → ScopeContents
  scope vs = record { this_class = this_of m; variables = vs }

  abbrev wrong : List StmtInContext → List Refusal
  wrong xs = flat_map (standing_refusals p) xs

  whole_calm : (vs : List ScopeVariable) (site : Site) → SiteFits p (scope vs) site → (x : Exp) (y : NumberedExp) → NumbersExp site x y
      → exp_refusals p (scope vs) y ≡ [] → acts_always (acts_reasons p m y) ≡ false
  whole_calm vs site k x y h r =
      both_calm (method_reasons (called_method p (this_of m) y)) _ (called_calm p plain (scope vs) site k x y h r) (guarded_calm (is_collective_call p (this_of m) y) (place_of_numbered y))

  value_calm : (vs : List ScopeVariable) (site : Site) → SiteFits p (scope vs) site → (x : Exp) (y : NumberedExp) → NumbersExp site x y
      → value_refusals p (scope vs) y ≡ [] → acts_always (acts_reasons p m y) ≡ false
  value_calm vs site k x y h r = whole_calm vs site k x y h (nil_left (exp_refusals p (scope vs) y) _ r)

  init_calm : (vs : List ScopeVariable) (site : Site) → SiteFits p (scope vs) site → (x : InitTree) (v : NumberedInit)
      → NumbersInit site x v → initial_refusals p (scope vs) v ≡ [] → acts_always (initial_reasons p m v) ≡ false
  init_calm vs site k x v (number.value h) r = value_calm vs site k _ _ h r
  init_calm vs site k x v number.new_region r = refl
  init_calm vs site k x v (number.new_object h i) r = refl
  init_calm vs site k x v (number.new_grid h i j) r = refl
  init_calm vs site k x v (number.broadcast h i) r = refl

  place_calm : (o : Option Place) → acts_always (place_reasons p m o) ≡ false
  place_calm None = refl
  place_calm (Some at) = refl

  declared_calm : (n : ℕ) (d : Declaration) → acts_always (declared_reasons p m n d) ≡ false
  declared_calm n (Typed is_single type) = place_calm (variable_place m n)
  declared_calm n Foreach = refl

  target_calm : (x : NumberedExp) → acts_always (target_reasons p m x) ≡ false
  target_calm (e.Variable at v) = declared_calm v.number v.declared
  target_calm _ = refl

  some_rule : {A : Type 0} (o : Option A) (rule : A → List Refusal) (a : A) → o ≡ Some a → judged o rule ≡ [] → rule a ≡ []
  some_rule o rule a i h = sym (ap (λ q. judged q rule) i) ∙ h

  dim_there : (o : Option ℕ) → is_some o ≡ true → IsThere o
  dim_there None h = absurd (true_false (sym h))
  dim_there (Some n) h = (n, refl)

  inner_there : (vs : List ScopeVariable) (site : Site) → SiteFits p (scope vs) site → (x : Exp) (y : NumberedExp) → NumbersExp site x y
      → inner_refusals p (scope vs) y ≡ [] → IsThere (operand_type p (scope vs) y)
  inner_there vs site k x y n h =
      operand_there (type_result p (scope vs) y) (place_of_numbered y)
      (has_type p (scope vs) y (exp_known p (scope vs) site k x y n) (nil_left (exp_refusals p (scope vs) y) (misplaced p (scope vs) y) h))
      (nil_right (exp_refusals p (scope vs) y) (misplaced p (scope vs) y) h)

  foreach_fits : (vs : List ScopeVariable) (site : Site) (name : List ℕ) (n : ℕ) (b : Bool) (o : Option ℕ) → o ≡ Some n → SiteFits p (scope vs) site
      → SiteFits p (scope (with_foreach_variable vs site.variables b o)) (declares site name Foreach)
  foreach_fits vs site name n b o i k = subst (λ q. SiteFits p (scope (with_foreach_variable vs site.variables b q)) (declares site name Foreach)) (sym i) (point_fits p (this_of m) vs site name n b k)

  mutual
    stm_calm : (vs : List ScopeVariable) (j : Option Bool) (site : Site) → SiteFits p (scope vs) site → (x : Stm) (y : NumberedStm)
        → NumbersStm site x y → wrong (inside p (here vs j) y) ≡ [] → acts_always (reasons p m y) ≡ false
    stm_calm vs j site k x y number.empty r = refl
    stm_calm vs j site k x y (number.declare {at = at} {type = type} {value = value} {v = v} type_known fresh room h) r =
        let own = type_word_refusals true type ++ initial_refusals p (scope vs) v in
        let misfits = judged (initial_type p (scope vs) v) (λ (u : ValueType). misfit at u type.type) in
        init_calm vs site k value v h (nil_right (type_word_refusals true type) (initial_refusals p (scope vs) v) (nil_left own misfits (nil_left (own ++ misfits) [] r)))
    stm_calm vs j site k x y (number.assign {at = at} {x = target} {value = value} {v = v} g h) r =
        let own = exp_refusals p (scope vs) target ++ initial_refusals p (scope vs) v in
        let misfits = both_judged (operand_type p (scope vs) target) (initial_type p (scope vs) v) (λ (t u : ValueType). write_refusals p (scope vs) at target (misfit at u t)) in
        both_calm (target_reasons p m target) (initial_reasons p m v) (target_calm target)
        (init_calm vs site k value v h (nil_right (exp_refusals p (scope vs) target) (initial_refusals p (scope vs) v) (nil_left own misfits (nil_left (own ++ misfits) [] r))))
    stm_calm vs j site k x y (number.update {at = at} {op = op} {b = a} {x = target} {y = c} g h) r =
        let own = exp_refusals p (scope vs) target ++ value_refusals p (scope vs) c in
        let misfits = both_judged (operand_type p (scope vs) target) (right_side_type p (scope vs) c) (λ (t u : ValueType). write_refusals p (scope vs) at target (update_refusals at op t u)) in
        both_calm (target_reasons p m target) (acts_reasons p m c) (target_calm target)
        (value_calm vs site k a c h (nil_right (exp_refusals p (scope vs) target) (value_refusals p (scope vs) c) (nil_left own misfits (nil_left (own ++ misfits) [] r))))
    stm_calm vs j site k x y (number.step {x = target} h) r = target_calm target
    stm_calm vs j site k x y (number.call {a = a} {x = c} h) r = whole_calm vs site k a c h (nil_left (exp_refusals p (scope vs) c) [] r)
    stm_calm vs j site k x y (number.print h) r = refl
    stm_calm vs j site k x y number.barrier r = refl
    stm_calm vs j site k x y number.break r = refl
    stm_calm vs j site k x y number.continue r = refl
    stm_calm vs j site k x y (number.return h) r = refl
    stm_calm vs j site k x y (number.block {xs = xs} {ys = ys} h) r = stms_calm vs j site k xs ys h r
    stm_calm vs j site k x y (number.if_alone {at = at} {d = d} {x = a} {y = c} g h) r =
        stm_calm vs j site k a c h (nil_right (standing_refusals p (stands (here vs j) (s.If at d c))) (wrong (inside p (here vs j) c)) r)
    stm_calm vs j site k x y (number.if_else {at = at} {d = d} {a = a} {b = b} {x = c} {y = f} g h i) r =
        let one = inside p (here vs j) c in
        let two = inside p (here vs j) f in
        let inner = nil_right (standing_refusals p (stands (here vs j) (s.IfElse at d c f))) (wrong (one ++ two)) r in
        both_calm (reasons p m c) (reasons p m f) (stm_calm vs j site k a c h (each_left (standing_refusals p) one two inner))
        (stm_calm vs j (past site a) (past_fits p (scope vs) site a k) b f i (each_right (standing_refusals p) one two inner))
    stm_calm vs j site k x y (number.while {at = at} {d = d} {x = a} {y = c} g h) r =
        let l = Some (loop_acts p m s.NoStm c) in
        stm_calm vs l site k a c h (nil_right (standing_refusals p (stands (here vs j) (s.While at d c))) (wrong (inside p (here vs l) c)) r)
    stm_calm vs j site k x y (number.for {at = at} {first = first} {update = update} {f = f} {u = u} {d = d} {x = a} {y = c} h g i o) r =
        let l = Some (loop_acts p m u c) in
        let one = inside_maybe p (here vs j) f in
        let two = inside_maybe p (here vs j) u in
        let three = inside p (here vs l) c in
        let inner = nil_right (standing_refusals p (stands (here vs j) (s.For at f d u c))) (wrong (one ++ (two ++ three))) r in
        let others = each_right (standing_refusals p) one (two ++ three) inner in
        let next = behind_maybe site first in
        let fits = behind_maybe_fits p (scope vs) site first k in
        both_calm (reasons_of_maybe p m f) (reasons_of_maybe p m u ++ reasons p m c) (maybe_calm vs j site k first f h (each_left (standing_refusals p) one (two ++ three) inner))
        (both_calm (reasons_of_maybe p m u) (reasons p m c) (maybe_calm vs j next fits update u i (each_left (standing_refusals p) two three others))
        (stm_calm vs l (past_maybe next update) (past_maybe_fits p (scope vs) next update fits) a c o (each_right (standing_refusals p) two three others)))
    stm_calm vs j site k x y (number.foreach {at = at} {name = name} {c = a} {d = d} {x = b} {y = c} fresh room g h) r =
        let rule = λ (type : ValueType). operand_refusal at (is_some (domain_dim type)) false in
        let l = Some (loop_acts p m s.NoStm c) in
        let vars = variables_inside p (scope vs) site.variables d in
        let own = standing_refusals p (stands (here vs j) (s.Foreach at site.variables d c)) in
        let right = nil_left own (wrong (inside p (here vars l) c)) r in
        let there = inner_there vs site k a d g (nil_left (inner_refusals p (scope vs) d) (judged (operand_type p (scope vs) d) rule) right) in
        let taken = not_mistaken at (is_some (domain_dim there.0)) false
        (some_rule (operand_type p (scope vs) d) rule there.0 there.1 (nil_right (inner_refusals p (scope vs) d) (judged (operand_type p (scope vs) d) rule) right)) in
        let dim = dim_there (domain_dim there.0) taken in
        let type_result = ap (option_and_then domain_dim) there.1 ∙ dim.1 in
        stm_calm vars l (declares site name Foreach) (foreach_fits vs site name dim.0 _
        (option_and_then domain_dim (operand_type p (scope vs) d)) type_result k) b c h (nil_right own (wrong (inside p (here vars l) c)) r)

    maybe_calm : (vs : List ScopeVariable) (j : Option Bool) (site : Site) → SiteFits p (scope vs) site → (x : MaybeStm) (y : MaybeNumbered)
        → NumbersMaybeStm site x y → wrong (inside_maybe p (here vs j) y) ≡ [] → acts_always (reasons_of_maybe p m y) ≡ false
    maybe_calm vs j site k x y number.no_stm r = refl
    maybe_calm vs j site k x y (number.some_stm {x = a} {y = c} h) r = stm_calm vs j site k a c h r

    stms_calm : (vs : List ScopeVariable) (j : Option Bool) (site : Site) → SiteFits p (scope vs) site → (xs : Stms) (ys : NumberedStms)
        → NumbersStms site xs ys → wrong (inside_all p (here vs j) ys) ≡ [] → acts_always (reasons_of_all p m ys) ≡ false
    stms_calm vs j site k xs ys number.nil r = refl
    stms_calm vs j site k xs ys (number.cons {x = x} {y = y} {xs = us} {ys = rest} h more) r =
        both_calm (reasons p m y) (reasons_of_all p m rest) (stm_calm vs j site k x y h (each_left (standing_refusals p) (inside p (here vs j) y) (inside_all p (here vs j) rest) r))
        (stms_calm vs j (site_after site x) (behind_fits p (scope vs) site x k) us rest more (each_right (standing_refusals p) (inside p (here vs j) y) (inside_all p (here vs j) rest) r))

-- ---- methods

method_calm : (p : ProgramView) → MethodsPlain p.methods → (text : TextTree) (before : ℕ) (own : OwnMethod) (m : NumberedMethod)
    → TextFits p text → NumbersMethod (method_site text own before) own m → method_refusals p m ≡ []
    → acts_always (reasons_of_all p m (numbered_stms m.body)) ≡ false
method_calm p plain text before own m k (number.method {result = result} {params = params} {body = body} r ps h) e =
    let m : NumberedMethod = record {
      class = own.class;
      modifiers = own.method.modifiers;
      is_single = is_single own.method.modifiers;
      result = result;
      place = own.method.place;
      name = name_number text own.method.name;
      params = params;
      body = body;
      end = own.method.end;
    } in
    let fits = body_fits p (this_of m) (method_site text own before) own.method.params params ps k (λ z. ap (λ c. if c then None else Some own.class) z) tt refl in
    stms_calm p plain m (parameters params) None (body_site (method_site text own before) own.method.params) fits (stms own.method.body) (numbered_stms body) h
    (nil_right (head_refusals m ++ end_refusals m) (flat_map (standing_refusals p) (standing_in_method p m)) e)

methods_calm : (p : ProgramView) → MethodsPlain p.methods → (text : TextTree) (n before : ℕ) (owns : List OwnMethod)
    (ms : List NumberedMethod) → TextFits p text → NumbersMethods text n before owns ms
    → flat_map (method_refusals p) ms ≡ [] → acts_always (flat_map (λ m. reasons_of_all p m (numbered_stms m.body)) ms) ≡ false
methods_calm p plain text n before owns ms k number.none e = refl
methods_calm p plain text n before owns ms k (number.more {own = own} {method = m} {methods = rest} named h others) e =
    both_calm (reasons_of_all p m (numbered_stms m.body)) _ (method_calm p plain text before own m k h (nil_left (method_refusals p m) (flat_map (method_refusals p) rest) e))
    (methods_calm p plain text _ _ _ rest k others (nil_right (method_refusals p m) (flat_map (method_refusals p) rest) e))

-- ---- `main`

words_alone : (site : Site) (ps : ParamsTree) (q : NumberedParams) → NumbersParams site ps q → is_words ps ≡ true → q ≡ MainArgs
words_alone site ps q number.words e = refl
words_alone site ps q (number.params h) e = absurd (true_false (sym e))

main_like : (site : Site) (own : OwnMethod) (m : NumberedMethod) → NumbersMethod site own m → has_main_form own.method ≡ true → IsMain m
main_like site own m (number.method {result = result} {params = params} r ps h) e = record {
  static =
      and_left (is_static own.method) (is_single own.method.modifiers)
      (and_right ((length own.method.modifiers == 3) && is_public own.method.modifiers) (is_static own.method && is_single own.method.modifiers)
      (and_left (has_main_modifiers own.method) (is_void own.method.result && is_words own.method.params) e));
  words =
      words_alone site own.method.params params ps
      (and_right (is_void own.method.result) (is_words own.method.params) (and_right (has_main_modifiers own.method) (is_void own.method.result && is_words own.method.params) e));
}

main_at : (text : TextTree) (n before : ℕ) (owns : List OwnMethod) (ms : List NumberedMethod) → NumbersMethods text n before owns ms → (k : ℕ) (own : OwnMethod) → slice_get owns k ≡ Some own
    → has_main_form own.method ≡ true → (m : NumberedMethod) → slice_get ms k ≡ Some m → IsMain m
main_at text n before owns ms number.none k own i e m j = absurd (none_some own i)
main_at text n before owns ms (number.more {own = x} {method = y} named h rest) zero own i e m j =
    subst IsMain (some_same y m j) (main_like _ x y h (ap (λ (o : OwnMethod). has_main_form o.method) (some_same x own i) ∙ e))
main_at text n before owns ms (number.more named h rest) (suc k) own i e m j = main_at text _ _ _ _ rest k own i e m j

-- ---- stripped programs

abbrev first_of_both : {A : Type 0} → A → List A → A
first_of_both a [] = a
first_of_both a (x ∷ xs) = x

abbrev rest_of : {A : Type 0} → List A → List A
rest_of [] = []
rest_of (x ∷ xs) = xs

methods_plain : (main n : ℕ) (ms : List NumberedMethod) → ((k : ℕ) (m : NumberedMethod) → slice_get ms k ≡ Some m → n + k ≡ main → IsMain m) → plain_methods main n ms ≡ ms → MethodsPlain ms
methods_plain main n [] f e = tt
methods_plain main n (m ∷ ms) f e =
    (by (n == main) refl (ap (first_of_both m) e), methods_plain main (n + 1) ms (λ k x i z. f (suc k) x i (later k z)) (ap rest_of e))
  where
    later : (k : ℕ) → (n + 1) + k ≡ main → n + suc k ≡ main
    later k z = omega (arith, z)

    here : n ≡ main → n + 0 ≡ main
    here z = omega (arith, z)

    by : (b : Bool) → (n == main) ≡ b → plain_method b m ≡ m → PlainOrMain m
    by true i h = inr (f 0 m refl (here (eqb-true n main i)))
    by false i h = inl (sym (ap (λ (x : NumberedMethod). x.is_single) h))

plain_number : (k n : ℕ) → 0 + k ≡ n → k ≡ n
plain_number k n h = omega (arith, h)

pub stripped_methods_plain : (p : ProgramView) (text : TextTree) → Numbers text p → stripped p ≡ p → MethodsPlain p.methods
stripped_methods_plain p text n e =
    methods_plain p.main 0 p.methods (λ k m i z. main_at text 0 0 (methods_of text) p.methods n.methods p.main n.main.own n.main.stands
    n.main.form m (sym (ap (slice_get p.methods) (plain_number k p.main z)) ∙ i)) (ap (λ (q : ProgramView). q.methods) e)

-- in such a program of a text nothing is to blame in any case, whatever is marked
pub none_always : (p : ProgramView) → ∥ IsNumbered p ∥₁ → type_refusals p ≡ [] → stripped p ≡ p → (marks : Marks) → acts_always (program_blamed p marks) ≡ false
none_always p numbered types plain marks = ∥∥₁_elim numbered (Bool-set _ _) by
  where
    by : IsNumbered p → acts_always (program_blamed p marks) ≡ false
    by n =
        never_blamed p marks (text_still p n.0 n.1 n.2.methods)
        (methods_calm p (stripped_methods_plain p n.0 n.2 plain) n.0 0 0 (methods_of n.0) p.methods (text_fits p n.0 n.2) n.2.methods
        (nil_right (flat_map class_refusals p.classes) (flat_map (method_refusals p) p.methods) types))
