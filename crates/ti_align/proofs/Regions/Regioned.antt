-- In a checked program regions come from variables of their type alone, and from where they are made.
use Rattle.std.proofs.Common.{◌≡◌, inl, inr, ℕ, ◌+◌, ◌==◌, Bool, true, false, not, ◌&&◌, ◌||◌, if◌then◌else◌, length, slice_get, option_map, option_and_then, Option, Some, None, List, [], ◌∷◌, ◌++◌, refl, ap, ap₂, sym, ◌∙◌, subst}
use Rattle.std.proofs.Math.Logic.{∥∥₁_elim}
use Rattle.ti_base.specs.declared.place.Place.{Place}
use Rattle.ti_syntax.specs.declared.tree.exprs.BinaryOperator.{BinaryOperator}
use Rattle.ti_lang.specs.Members.{only_if}
use Rattle.ti_lang.specs.Program.Types.{ValueType, Declaration}
use Rattle.ti_lang.specs.Program.Types as t
use Rattle.ti_lang.specs.Program.Expressions.{NumberedExp, NumberedExps}
use Rattle.ti_lang.specs.Program.Expressions as e
use Rattle.ti_lang.specs.Program.Statements.{NumberedInit, NumberedStm, MaybeNumbered, NoStm, SomeStm, NumberedStms, Nil, Cons, numbered_stms}
use Rattle.ti_lang.specs.Program.Statements as st
use Rattle.ti_lang.specs.Program.Classes.{NumberedParam, NumberedParams, MainArgs, Params, NumberedMethod, ProgramView}
use Rattle.ti_lang.specs.Program.Scope.{ScopeVariable, ScopeContents, this_of, method_scope}
use Rattle.ti_lang.specs.Typing.Kinds.{where_true, is_void, is_object, as_global, read_through, domain_dim}
use Rattle.ti_lang.specs.Typing.Fits.{fits, casts}
use Rattle.ti_lang.specs.Typing.Operators.{row_of, binary_type, unary_type}
use Rattle.ti_lang.specs.Typing.BuiltIn.{BuiltIn, Size, Min, Max, Contains, Domain, Restrict, Translate, Slice, Copy, Exchange, Delete, built_in, member_type}
use Rattle.ti_lang.specs.Typing.Declared.{declared_type, field_type, named_field_type, result_type, types_of}
use Rattle.ti_lang.specs.Typing.Expressions.{plain, operand, one, and_then_both, all_ints, point_literal, rect_literal, range_count, index_type, select_type, all_fit, takes, called, member_typing, operands, bounds, operand_type}
use Rattle.ti_lang.specs.Typing.Called.{called_method, method_behind, member_called}
use Rattle.ti_lang.specs.Typing.TextTypes.{syntactic_type}
use Rattle.ti_lang.specs.Meaning.Calls.{parameters_from, parameters_of}
use Rattle.ti_lang.specs.Meaning.Processes.{Updated}
use Rattle.ti_lang.specs.Meaning.Scoping as meant
use Rattle.ti_lang.specs.Meaning.Statements.{one_more}
use Rattle.ti_rules.specs.InitialTypes.{can_broadcast, is_region_type}
use Rattle.ti_rules.specs.Broken.Statements.{narrows}
use Rattle.ti_rules.specs.StmtInContext.{variables_inside}
use Rattle.ti_rules.specs.ProgramRefusals.{IsChecked}
use Rattle.ti_rules.specs.Mirrors.Literals.{LiteralsFit}
use Rattle.ti_align.specs.Mirrors.ContItem.{ReceiverFits, WholeFits, InitFits, StmFits, MaybeFits, StmsFit, MethodsFit}
use Rattle.ti_align.proofs.Runs.Vars.{true_false, and_left, and_right}
use Rattle.ti_align.proofs.RunTypes.Operating.{none_some, some_same, where_some, or_either}
use Rattle.ti_align.proofs.RunTypes.Evaluating.{and_then, mapped, both_there, no_call, named_field, member_there, joined_there, one_there}
use Rattle.ti_align.proofs.Regions.Results.{NoneOf, row_plain, unary_plain, rects_plain}
use Rattle.ti_align.proofs.Scope.References.{Points, Alike, in_text, method_points, inside_points}
use Rattle.ti_align.proofs.Scope.Suited.{args_of}
use Rattle.ti_align.proofs.Scope.Suiting.{whole_takes}
use Rattle.ti_align.proofs.TextTypes.Meant.{storable, formed, among, means, ExpMeant, ExpsMeant, InitMeant, StmMeant, MaybeMeant, StmsMeant, MethodsMeant, FieldsMeant, methods_prop}
use Rattle.ti_align.proofs.TextTypes.Forming.{Surrounds, field_formed, exp_formed}
use Rattle.ti_lang.proofs.Lemmas.{dim_is}
use Rattle.ti_align.proofs.TextTypes.Written.{surrounds_method, surrounds_inside, region_is}
use Rattle.ti_align.proofs.TextTypes.Numbered.{numbered_methods}
use Rattle.ti_align.proofs.TextTypes.Programs.{fields_mean, checked_fits}
use Rattle.ti_align.proofs.Regions.Regional.{is_region_exp, IsSuch, ArgsAreSuch, target_type, CallIsSuch, InitIsSuch, DeletesSuch, StmIsSuch, MaybeIsSuch, StmsAreSuch, MethodsAreSuch}

-- ---- types

no_regions : NoneOf is_region_type
no_regions = record { int = refl; long = refl; truth = refl; point = λ n. refl; rect = λ n. refl; domain = λ n. refl }

-- a type that is none
other : {A : Type 0} (type : ValueType) → is_region_type type ≡ false → type ≡ t.Region → A
other type h z = absurd (true_false (sym (ap is_region_type z) ∙ h))

-- a type is none, where what goes to it is none
none_such : (type u : ValueType) → is_region_type u ≡ false → (is_region_type type ≡ true → u ≡ t.Region) → is_region_type type ≡ false
none_such type u h g = by (is_region_type type) refl
  where
    by : (b : Bool) → is_region_type type ≡ b → is_region_type type ≡ false
    by true z = other u h (g z)
    by false z = z

-- what fits a region is one
fits_region : (u : ValueType) → fits u t.Region ≡ true → u ≡ t.Region
fits_region t.Region h = refl
fits_region _ h = absurd (true_false (sym h))

casts_region : (u : ValueType) → casts t.Region u ≡ true → u ≡ t.Region
casts_region t.Region h = refl
casts_region _ h = absurd (true_false (sym h))

-- what is stored is none, and no reference to it is
global_other : (type : ValueType) → storable type ≡ true → is_region_type (as_global type) ≡ false
global_other t.Region h = absurd (true_false (sym h))
global_other _ h = refl

stored_other : (type : ValueType) → storable type ≡ true → is_region_type type ≡ false
stored_other t.Region h = absurd (true_false (sym h))
stored_other _ h = refl

read_other : (l : Bool) (type : ValueType) → storable type ≡ true → is_region_type (read_through l type) ≡ false
read_other true type h = stored_other type h
read_other false type h = global_other type h

sent_other : (type : ValueType) → can_broadcast type ≡ true → is_region_type (as_global type) ≡ false
sent_other t.Region h = absurd (true_false (sym h))
sent_other _ h = refl

-- a member of the language that is a value is none
member_other : (b : BuiltIn) (a r : ValueType) (ts : List ValueType) → member_type b a ts ≡ Some r → is_region_type r ≡ false
member_other Size (t.Rc n) r [] z = subst (λ q. is_region_type q ≡ false) (some_same t.Int r z) refl
member_other Size (t.Dm n) r [] z = subst (λ q. is_region_type q ≡ false) (some_same t.Int r z) refl
member_other Min (t.Rc n) r [] z = subst (λ q. is_region_type q ≡ false) (some_same (t.Pt n) r z) refl
member_other Max (t.Rc n) r [] z = subst (λ q. is_region_type q ≡ false) (some_same (t.Pt n) r z) refl
member_other Contains (t.Rc n) r (t.Pt k ∷ []) z = subst (λ q. is_region_type q ≡ false) (where_some _ t.Boolean r z).1 refl
member_other Contains (t.Dm n) r (t.Pt k ∷ []) z = subst (λ q. is_region_type q ≡ false) (where_some _ t.Boolean r z).1 refl
member_other Domain (t.Grid e n l) r [] z = subst (λ q. is_region_type q ≡ false) (some_same (t.Rc n) r z) refl
member_other Restrict (t.Grid e n l) r (t.Rc k ∷ []) z = subst (λ q. is_region_type q ≡ false) (where_some _ (t.Grid e n l) r z).1 refl
member_other Translate (t.Grid e n l) r (t.Pt k ∷ []) z = subst (λ q. is_region_type q ≡ false) (where_some _ (t.Grid e n l) r z).1 refl
member_other Slice (t.Grid e n l) r (t.Int ∷ t.Int ∷ []) z = subst (λ q. is_region_type q ≡ false) (where_some _ _ r z).1 refl
member_other Copy a r (y ∷ []) z = subst (λ q. is_region_type q ≡ false) (where_some _ t.Void r z).1 refl
member_other Exchange a r (y ∷ []) z = subst (λ q. is_region_type q ≡ false) (where_some _ t.Void r z).1 refl
member_other Delete t.Region r [] z = subst (λ q. is_region_type q ≡ false) (some_same t.Void r z) refl
member_other _ a r ts z = absurd (none_some r z)

-- what is deleted is one
deleted_is : (a u : ValueType) (ts : List ValueType) → member_type Delete a ts ≡ Some u → a ≡ t.Region
deleted_is t.Region u ts z = refl
deleted_is _ u ts z = absurd (none_some u z)

-- ---- expressions

module _ (p : ProgramView) (fields : FieldsMeant p) (m : NumberedMethod) (s : ScopeContents) (turns : List ℕ) (around : Surrounds m s turns) where
  literal : {A : Type 0} (a : ValueType) → is_region_type a ≡ false → operand (plain (Some a)) ≡ Some t.Region → A
  literal a h z = other a h (some_same a t.Region (no_call (plain (Some a)) t.Region z).1)

  never_called : (o : Option NumberedMethod) (ts : Option (List ValueType)) (r : ValueType) → operand (called o ts) ≡ Some r → ⊥
  never_called o None r h = none_some r h
  never_called None (Some ts) r h = none_some r h
  never_called (Some c) (Some ts) r h = none_some r h

  variable_region : (number : ℕ) (d : Declaration) → means m turns number d ≡ true → operand (plain (declared_type s number d)) ≡ Some t.Region → is_region_type (meant.declared_type d) ≡ true
  variable_region number (t.Typed is_single type) k z = ap is_region_type (some_same type t.Region (no_call (plain (Some type)) t.Region z).1)
  variable_region number t.Foreach k z =
      let q = around.turning number (and_left (among turns number) _ k) in
      let o : declared_type s number t.Foreach ≡ Some (t.Pt q.1) = ap (option_map (λ (v : ScopeVariable). v.type)) q.2 ∙ ap Some q.3 in
      other (t.Pt q.1) refl (some_same (t.Pt q.1) t.Region (sym o ∙ (no_call (plain (declared_type s number t.Foreach)) t.Region z).1))

  selected_other : (u : ValueType) (name : ℕ) → select_type p u name ≡ Some t.Region → ⊥
  selected_other (t.Class c l) name z =
      let q = mapped (read_through l) (named_field_type p c name) t.Region z in
      let f = named_field p c name q.0 q.1 in
      other (read_through l q.0) (read_other l q.0 (field_formed p fields m s turns around c f.0 q.0 f.2).0) q.2
  selected_other _ name z = none_some t.Region z

  indexed_other : (u : ValueType) (ts : List ValueType) → formed u ≡ true → index_type u ts ≡ Some t.Region → ⊥
  indexed_other (t.Pt n) (t.Int ∷ []) f z = other t.Int refl (some_same t.Int t.Region z)
  indexed_other (t.Grid x n l) ts f z = by ts z
    where
      never : read_through l x ≡ t.Region → ⊥
      never z = other (read_through l x) (read_other l x (and_left (storable x) (formed x) (and_right _ (storable x && formed x) f))) z

      by : (ts : List ValueType) → index_type (t.Grid x n l) ts ≡ Some t.Region → ⊥
      by (t.Pt k ∷ []) z = never (where_some (n == k) (read_through l x) t.Region z).1
      by ts z = never (where_some (all_ints ts && (length ts == n)) (read_through l x) t.Region z).1
  indexed_other _ ts f z = none_some t.Region z

  -- a region inside another expression comes from a variable of its type
  region_exp : (x : NumberedExp) → ExpMeant p m turns x → operand_type p s x ≡ Some t.Region → is_region_exp x ≡ true
  region_exp (e.Int at n) k z = literal t.Int refl z
  region_exp (e.Long at n) k z = literal t.Long refl z
  region_exp (e.Truth at b) k z = literal t.Boolean refl z
  region_exp (e.Null at) k z = literal t.Null refl z
  region_exp (e.ThisProc at) k z = literal t.Int refl z
  region_exp (e.NumProcs at) k z = literal t.Int refl z
  region_exp (e.This at) k z =
      let o = option_map (λ c. t.Class c false) s.this_class in
      let q = mapped (λ c. t.Class c false) s.this_class t.Region (no_call (plain o) t.Region z).1 in
      other (t.Class q.0 false) refl q.2
  region_exp (e.Variable at v) k z = variable_region v.number v.declared k z
  region_exp (e.OwnField at field) k z =
      let o = option_and_then (λ c. field_type p c field) s.this_class in
      let q = mapped as_global o t.Region (no_call (plain (option_map as_global o)) t.Region z).1 in
      let c = and_then (λ c. field_type p c field) s.this_class q.0 q.1 in
      other (as_global q.0) (global_other q.0 (field_formed p fields m s turns around c.0 field q.0 c.2).0) q.2
  region_exp (e.Call at method args) k z = absurd (never_called (slice_get p.methods method) (operands p s args) t.Region z)
  region_exp (e.OwnCall at method args) k z = absurd (never_called (slice_get p.methods method) (operands p s args) t.Region z)
  region_exp (e.Point at parts) k z =
      let q = and_then point_literal (operands p s parts) t.Region (no_call (plain (option_and_then point_literal (operands p s parts))) t.Region z).1 in
      other (t.Pt (length q.0)) refl (where_some (all_ints q.0) (t.Pt (length q.0)) t.Region q.2).1
  region_exp (e.Rect at ranges) k z =
      let o = option_and_then (rect_literal (range_count ranges)) (bounds p s ranges) in
      let q = and_then (rect_literal (range_count ranges)) (bounds p s ranges) t.Region (no_call (plain o) t.Region z).1 in
      other t.Region (rects_plain is_region_type no_regions (range_count ranges) q.0 t.Region q.2) refl
  region_exp (e.Unary at op x) k z =
      let q = and_then (unary_type op) (operand_type p s x) t.Region (no_call (plain (option_and_then (unary_type op) (operand_type p s x))) t.Region z).1 in
      other t.Region (unary_plain is_region_type no_regions op q.0 t.Region q.2) refl
  region_exp (e.Binary at op x y) k z =
      let q = both_there (binary_type op) (operand_type p s x) (operand_type p s y) t.Region (no_call (plain (and_then_both (operand_type p s x) (operand_type p s y) (binary_type op))) t.Region z).1 in
      other t.Region (row_plain is_region_type no_regions (row_of op) q.0 q.1 t.Region q.4) refl
  region_exp (e.Cast at to x) k z =
      let cast = λ (u : ValueType). where_true (casts to.type u) to.type in
      let q = and_then cast (operand_type p s x) t.Region (no_call (plain (option_and_then cast (operand_type p s x))) t.Region z).1 in
      let c = where_some (casts to.type q.0) to.type t.Region q.2 in
      let u : q.0 ≡ t.Region = casts_region q.0 (ap (λ y. casts y q.0) (sym c.1) ∙ c.0) in
      ap₂ (λ a b. a && b) (ap is_region_type c.1) (region_exp x k.1 (q.1 ∙ ap Some u))
  region_exp (e.Select at x name) k z =
      let select = λ (u : ValueType). select_type p u name in
      let q = and_then select (operand_type p s x) t.Region (no_call (plain (option_and_then select (operand_type p s x))) t.Region z).1 in
      absurd (selected_other q.0 name q.2)
  region_exp (e.Member at x name args) k z =
      let q = member_there p (operand_type p s x) (operands p s args) name t.Region z in
      other t.Region (member_other q.4 q.0 t.Region q.1 q.6) refl
  region_exp (e.Index at x parts) k z =
      let q = both_there index_type (operand_type p s x) (operands p s parts) t.Region (no_call (plain (and_then_both (operand_type p s x) (operands p s parts) index_type)) t.Region z).1 in
      absurd (indexed_other q.0 q.1 (exp_formed p fields m s turns around x k.0 q.0 q.2) q.4)

  -- one that goes where a type is wanted
  such : (x : NumberedExp) (u type : ValueType) → ExpMeant p m turns x → operand_type p s x ≡ Some u → fits u type ≡ true → IsSuch type x
  such x u type k z f r = region_exp x k (z ∙ ap Some (fits_region u (ap (fits u) (sym (region_is type r)) ∙ f)))

  -- ---- arguments

  args_such : (n : ℕ) (params : List NumberedParam) (args : NumberedExps) (ts : List ValueType) → ExpsMeant p m turns args
      → operands p s args ≡ Some ts → all_fit ts (types_of params) ≡ true → ArgsAreSuch (parameters_from n params) args
  args_such n [] args ts k z h = tt
  args_such n (q ∷ params) e.NoExp ts k z h = tt
  args_such n (q ∷ params) (e.MoreExp a rest) ts k z h =
      let j = joined_there (one (operand_type p s a)) (operands p s rest) ts z in
      let i = one_there (operand_type p s a) j.0 j.2 in
      let whole : i.0 ∷ j.1 ≡ ts = ap (λ us. us ++ j.1) (sym i.2) ∙ j.4 in
      let f = subst (λ us. all_fit us (types_of (q ∷ params)) ≡ true) (sym whole) h in
      (such a i.0 q.ty.type k.0 i.1 (and_left (fits i.0 q.ty.type) _ f), args_such (n + 1) params rest j.1 k.1 j.3 (and_right (fits i.0 q.ty.type) _ f))

  params_such : (n : NumberedParams) (args : NumberedExps) (ts : List ValueType) → ExpsMeant p m turns args → operands p s args ≡ Some ts → takes n ts ≡ true → ArgsAreSuch (parameters_of n) args
  params_such MainArgs args ts k z h = tt
  params_such (Params params) args ts k z h = args_such 0 params args ts k z h

  args_meant : (x : NumberedExp) → ExpMeant p m turns x → ExpsMeant p m turns (args_of x)
  args_meant (e.Call at method args) k = k.1
  args_meant (e.OwnCall at method args) k = k.1
  args_meant (e.Member at x name args) k = k.1
  args_meant _ k = tt

  module _ (points : Points m s) where
    call_such : (type u : ValueType) (x : NumberedExp) → ExpMeant p m turns x → WholeFits p m s x u → (is_region_type type ≡ true → u ≡ t.Region) → CallIsSuch p m type x
    call_such type u x k f g c i =
        let q = whole_takes p m s around.this points x u f c i in
        (params_such c.params (args_of x) q.0 (args_meant x k) q.1 q.2, λ r. ap is_region_type (q.3 ∙ g r))

    -- a whole expression that is no call
    some_there : (o : Option ValueType) (u : ValueType) → o ≡ Some u → is_void u ≡ false → operand (plain o) ≡ Some u
    some_there o u z v = ap (only_if (λ x. not (is_void x))) z ∙ ap (λ b. if not b then Some u else None) v

    whole_operand : (x : NumberedExp) (u : ValueType) → WholeFits p m s x u → is_void u ≡ false → called_method p (this_of m) x ≡ None → operand_type p s x ≡ Some u
    whole_operand (e.Call at method args) u f v c = absurd (nothing (operands p s args) (sym (ap (λ o. (called o (operands p s args)).type) c) ∙ f.0))
      where
        nothing : (q : Option (List ValueType)) → (called None q).type ≡ Some u → ⊥
        nothing None z = none_some u z
        nothing (Some ts) z = none_some u z
    whole_operand (e.OwnCall at method args) u f v c = absurd (nothing (operands p s args) (sym (ap (λ o. (called o (operands p s args)).type) c) ∙ f.0))
      where
        nothing : (q : Option (List ValueType)) → (called None q).type ≡ Some u → ⊥
        nothing None z = none_some u z
        nothing (Some ts) z = none_some u z
    whole_operand (e.Member at a name args) u f v c = by (operand_type p s a) refl f.0
      where
        of : (y : ValueType) (q : Option (List ValueType)) → Alike y (syntactic_type p (this_of m) a) → (member_typing p (Some y) name q).type ≡ Some u → operand (member_typing p (Some y) name q) ≡ Some u
        of y None g z = absurd (none_some u z)
        of (t.Class d l) (Some ts) g z = absurd (none_some u (sym (ap (λ o. (called o (Some ts)).type) (ap (λ x. method_behind p x name) (sym (g.0 refl)) ∙ c)) ∙ z))
        of t.Int (Some ts) g z = some_there _ u z v
        of t.Long (Some ts) g z = some_there _ u z v
        of t.Boolean (Some ts) g z = some_there _ u z v
        of (t.Pt n) (Some ts) g z = some_there _ u z v
        of (t.Rc n) (Some ts) g z = some_there _ u z v
        of (t.Dm n) (Some ts) g z = some_there _ u z v
        of t.Region (Some ts) g z = some_there _ u z v
        of (t.Grid x n l) (Some ts) g z = some_there _ u z v
        of t.Null (Some ts) g z = some_there _ u z v
        of t.Void (Some ts) g z = some_there _ u z v

        by : (o : Option ValueType) → operand_type p s a ≡ o → (member_typing p o name (operands p s args)).type ≡ Some u → operand (member_typing p (operand_type p s a) name (operands p s args)) ≡ Some u
        by None i z = absurd (none_some u z)
        by (Some y) i z = ap (λ o. operand (member_typing p o name (operands p s args))) i ∙ of y (operands p s args) (in_text p m s around.this points a f.1.0 y i) z
    whole_operand _ u f v c = some_there _ u f.0 v

    -- ---- right sides

    init_such : (value : NumberedInit) (type u : ValueType) → InitMeant p m turns value → InitFits p m s value u → (is_region_type type ≡ true → u ≡ t.Region) → InitIsSuch p m type value
    init_such (st.Value x) type u k f g = (call_such type u x k f.0 g, λ c r. region_exp x k (whole_operand x u f.0 f.1 c ∙ ap Some (g r)))
    init_such (st.NewRegion at) type u k f g = tt
    init_such (st.NewObject at region class) type u k f g = none_such type u (subst (λ y. is_region_type y ≡ false) (sym f.0) refl) g
    init_such (st.NewGrid at region element dims_at dims) type u k f g = none_such type u (subst (λ y. is_region_type y ≡ false) (sym f.1) refl) g
    init_such (st.Broadcast at x root) type u k f g = none_such type u (subst (λ y. is_region_type y ≡ false) (sym f.1) (sent_other f.0 f.4)) g

    -- ---- targets

    target_is : (target : NumberedExp) (u : ValueType) → ExpMeant p m turns target → operand_type p s target ≡ Some u → is_region_type (target_type target) ≡ true → u ≡ t.Region
    target_is (e.Variable at v) u k z r = by v.declared z r
      where
        by : (d : Declaration) → operand (plain (declared_type s v.number d)) ≡ Some u → is_region_type (meant.declared_type d) ≡ true → u ≡ t.Region
        by (t.Typed is_single type) z r = sym (some_same type u (no_call (plain (Some type)) u z).1) ∙ region_is type r
        by t.Foreach z r = absurd (true_false (sym r))
    target_is _ u k z r = absurd (true_false (sym r))

    updated_such : (op : BinaryOperator) (target : NumberedExp) (u : ValueType) (at : Place) → ExpMeant p m turns target
        → ReceiverFits p m s (Updated at op target) u → is_region_type (target_type target) ≡ false
    updated_such op target u at k f = by (is_region_type (target_type target)) refl
      where
        narrows_none : (r : ValueType) → narrows r t.Region ≡ true → ⊥
        narrows_none t.Long h = true_false (sym h)
        narrows_none _ h = true_false (sym h)

        never : (y r : ValueType) → is_region_type r ≡ false → y ≡ t.Region → (narrows r y || fits r y) ≡ true → ⊥
        never y r n z h =
            elim (or_either (narrows r t.Region) (fits r t.Region) (ap (λ x. narrows r x || fits r x) (sym z) ∙ h))
            [ inl i ↦ narrows_none r i | inr i ↦ other r n (fits_region r i) ]

        by : (b : Bool) → is_region_type (target_type target) ≡ b → is_region_type (target_type target) ≡ false
        by true z = absurd (never f.0 f.1 (row_plain is_region_type no_regions (row_of op) f.0 u f.1 f.3) (target_is target f.0 k f.2.0.1 z) f.4)
        by false z = z

    -- ---- what is deleted

    member_deletes : (at : Place) (a : NumberedExp) (name : ℕ) (args : NumberedExps) (u : ValueType) → ExpMeant p m turns (e.Member at a name args) → WholeFits p m s (e.Member at a name args) u
        → member_called p (this_of m) a name ≡ Some Delete → is_region_exp a ≡ true
    member_deletes at a name args u k f c = by (operand_type p s a) refl f.0
      where
        given : (y : ValueType) (ts : List ValueType) → built_in p name ≡ Some Delete → option_and_then (λ (b : BuiltIn). member_type b y ts) (built_in p name) ≡ Some u → y ≡ t.Region
        given y ts b z = deleted_is y u ts (sym (ap (option_and_then (λ (b : BuiltIn). member_type b y ts)) b) ∙ z)

        built : (b : Bool) → (if b then None else built_in p name) ≡ Some Delete → (b ≡ false) × (built_in p name ≡ Some Delete)
        built true z = absurd (none_some Delete z)
        built false z = (refl, z)

        is_it : (is_object (syntactic_type p (this_of m) a) ≡ false) × (built_in p name ≡ Some Delete)
        is_it = built (is_object (syntactic_type p (this_of m) a)) c

        of : (y : ValueType) (q : Option (List ValueType)) → Alike y (syntactic_type p (this_of m) a) → (member_typing p (Some y) name q).type ≡ Some u → y ≡ t.Region
        of y None g z = absurd (none_some u z)
        of (t.Class d l) (Some ts) g z = absurd (true_false (sym (ap is_object (g.0 refl)) ∙ is_it.0))
        of t.Int (Some ts) g z = given t.Int ts is_it.1 z
        of t.Long (Some ts) g z = given t.Long ts is_it.1 z
        of t.Boolean (Some ts) g z = given t.Boolean ts is_it.1 z
        of (t.Pt n) (Some ts) g z = given (t.Pt n) ts is_it.1 z
        of (t.Rc n) (Some ts) g z = given (t.Rc n) ts is_it.1 z
        of (t.Dm n) (Some ts) g z = given (t.Dm n) ts is_it.1 z
        of t.Region (Some ts) g z = refl
        of (t.Grid x n l) (Some ts) g z = given (t.Grid x n l) ts is_it.1 z
        of t.Null (Some ts) g z = given t.Null ts is_it.1 z
        of t.Void (Some ts) g z = given t.Void ts is_it.1 z

        by : (o : Option ValueType) → operand_type p s a ≡ o → (member_typing p o name (operands p s args)).type ≡ Some u → is_region_exp a ≡ true
        by None i z = absurd (none_some u z)
        by (Some y) i z = region_exp a k.0 (i ∙ ap Some (of y (operands p s args) (in_text p m s around.this points a f.1.0 y i) z))

    deletes_such : (x : NumberedExp) (u : ValueType) → ExpMeant p m turns x → WholeFits p m s x u → DeletesSuch p m x
    deletes_such (e.Member at a name args) u k f = member_deletes at a name args u k f
    deletes_such _ u k f = tt

-- ---- statements

module _ (p : ProgramView) (fields : FieldsMeant p) (m : NumberedMethod) where
  mutual
    stm_such : (s : ScopeContents) (turns : List ℕ) → Surrounds m s turns → Points m s → (x : NumberedStm) → StmMeant p m turns x → StmFits p m s x → StmIsSuch p m x
    stm_such s turns a g (st.Declare at type variable value) k f =
        init_such p fields m s turns a g value type.type f.0 k f.1 (λ r. fits_region f.0 (ap (fits f.0) (sym (region_is type.type r)) ∙ f.2))
    stm_such s turns a g (st.Assign at target value) k f =
        init_such p fields m s turns a g value (target_type target) f.0 k.1 f.1 (λ r. fits_region f.0 (ap (fits f.0) (sym (target_is p fields m s turns a g target f.2.0 k.0.0 f.2.1.0.1 r)) ∙ f.2.2))
    stm_such s turns a g (st.Update at op target x) k f =
        (updated_such p fields m s turns a g op target f.0 at k.0.0 f.2, init_such p fields m s turns a g (st.Value x) t.Void f.0 k.1 f.1 (λ r. absurd (true_false (sym r))))
    stm_such s turns a g (st.Step at op target) k f = updated_such p fields m s turns a g (one_more op) target t.Int at k.0 f
    stm_such s turns a g (st.Call x) k f = (call_such p fields m s turns a g t.Void f.0 x k.0 f.1 (λ r. absurd (true_false (sym r))), deletes_such p fields m s turns a g x f.0 k.0 f.1)
    stm_such s turns a g (st.Return at (Some x)) k f = such p fields m s turns a x f.0 (result_type m) k f.1.1 f.2
    stm_such s turns a g (st.Block body) k f = stms_such s turns a g body k f
    stm_such s turns a g (st.If at c x) k f = stm_such s turns a g x k.1 f.1
    stm_such s turns a g (st.IfElse at c x y) k f = (stm_such s turns a g x k.1 f.1, stm_such s turns a g y k.2 f.2)
    stm_such s turns a g (st.While at c body) k f = stm_such s turns a g body k.1 f.1
    stm_such s turns a g (st.For at first c update body) k f = (maybe_such s turns a g first k.0 f.0, maybe_such s turns a g update k.2 f.2, stm_such s turns a g body k.3 f.3)
    stm_such s turns a g (st.Foreach at number domain body) k f =
        let d = f.0.1 in
        let i : option_and_then domain_dim (operand_type p s domain) ≡ Some f.0.0 = ap (option_and_then domain_dim) d.0.1.1 ∙ d.0.2 in
        stm_such (record s { variables = variables_inside p s number domain }) (number ∷ turns)
        (surrounds_inside p m s turns a number domain f.0.0 k.1 k.2 i (dim_is f.0.0 d.2))
        (inside_points p m s number domain g) body k.3 f.1
    stm_such s turns a g _ k f = tt

    maybe_such : (s : ScopeContents) (turns : List ℕ) → Surrounds m s turns → Points m s → (x : MaybeNumbered) → MaybeMeant p m turns x → MaybeFits p m s x → MaybeIsSuch p m x
    maybe_such s turns a g NoStm k f = tt
    maybe_such s turns a g (SomeStm x) k f = stm_such s turns a g x k f

    stms_such : (s : ScopeContents) (turns : List ℕ) → Surrounds m s turns → Points m s → (xs : NumberedStms) → StmsMeant p m turns xs → StmsFit p m s xs → StmsAreSuch p m xs
    stms_such s turns a g Nil k f = tt
    stms_such s turns a g (Cons x rest) k f = (stm_such s turns a g x k.0 f.0, stms_such s turns a g rest k.1 f.1)

-- ---- programs

methods_such : (p : ProgramView) → FieldsMeant p → (ms : List NumberedMethod) → MethodsMeant p ms → MethodsFit p ms → MethodsAreSuch p ms
methods_such p g [] k f = tt
methods_such p g (m ∷ ms) k f = (stms_such p g m (method_scope m) [] (surrounds_method m) (method_points m) (numbered_stms m.body) k.0 f.0, methods_such p g ms k.1 f.1)

pub checked_such : (p : ProgramView) → IsChecked p → LiteralsFit p → MethodsAreSuch p p.methods
checked_such p c l = methods_such p (fields_mean p c) p.methods (∥∥₁_elim c.numbered (methods_prop p p.methods) (numbered_methods p l)) (checked_fits p c l).methods
