-- In a program in which no rule of types is broken calls are given all their arguments, and methods return what they give.
use Rattle.std.proofs.Common.{◌≡◌, ℕ, ◌+◌, Bool, true, false, not, ◌&&◌, flat_map, slice_get, Option, Some, None, List, [], ◌∷◌, ◌++◌, refl, ap, sym, ◌∙◌, subst}
use Rattle.ti_lang.specs.Program.Types.{ValueType}
use Rattle.ti_lang.specs.Program.Types as t
use Rattle.ti_lang.specs.Program.Expressions.{NumberedExp, NumberedExps}
use Rattle.ti_lang.specs.Program.Expressions as e
use Rattle.ti_lang.specs.Program.Statements.{NumberedInit, NumberedStm, MaybeNumbered, NoStm, SomeStm, NumberedStms, Nil, Cons, numbered_stms}
use Rattle.ti_lang.specs.Program.Statements as st
use Rattle.ti_lang.specs.Program.Classes.{NumberedParam, NumberedParams, MainArgs, Params, NumberedMethod, ProgramView}
use Rattle.ti_lang.specs.Program.Scope.{ScopeContents, this_of, method_scope}
use Rattle.ti_lang.specs.Typing.Kinds.{is_void, is_object}
use Rattle.ti_lang.specs.Typing.Fits.{fits}
use Rattle.ti_lang.specs.Typing.Declared.{result_type, types_of, instance_method}
use Rattle.ti_lang.specs.Typing.Expressions.{one, all_fit, takes, called, member_typing, operands, operand_type}
use Rattle.ti_lang.specs.Typing.Called.{called_method, method_behind}
use Rattle.ti_lang.specs.Typing.TextTypes.{syntactic_type}
use Rattle.ti_lang.specs.Meaning.Calls.{parameters_from, parameters_of}
use Rattle.ti_rules.specs.declared.rule.Rule.TheVariants.{Y6}
use Rattle.ti_rules.specs.Refusals.{refused_if}
use Rattle.ti_rules.specs.StmtInContext.{StmtContext, scope_of, StmtInContext, stands, in_loop, in_foreach, inside, inside_maybe, inside_all, around_method, standing_in_method}
use Rattle.ti_rules.specs.Broken.Statements.{statement_refusals, standing_refusals}
use Rattle.ti_rules.specs.TypeRules.{ends_with_return, head_refusals, end_refusals, method_refusals, class_refusals}
use Rattle.ti_rules.specs.ProgramRefusals.{IsChecked}
use Rattle.ti_rules.proofs.Lemmas.{nil_left, nil_right, each_left, each_right, not_refused}
use Rattle.ti_align.specs.Mirrors.ContItem.{WholeFits, InitFits, StmFits, MaybeFits, StmsFit, MethodsFit}
use Rattle.ti_align.proofs.Runs.Vars.{true_false, and_right}
use Rattle.ti_align.proofs.RunTypes.Operating.{none_some, some_same, where_some}
use Rattle.ti_align.proofs.RunTypes.Evaluating.{joined_there, one_there}
use Rattle.ti_align.proofs.Scope.Scoped.{is_one, StmsScoped}
use Rattle.ti_align.proofs.Scope.Suited.{Enough, args_of, CallSuits, InitSuits, StmSuits, MaybeSuits, StmsSuit}
use Rattle.ti_align.proofs.Scope.Reaching.{MethodStands, MethodsStand}
use Rattle.ti_align.proofs.Scope.Keeping.{ProgramStands}
use Rattle.ti_align.proofs.Scope.Covering.{MethodsScoped, scoped, main_words}
use Rattle.ti_align.proofs.Scope.References.{Points, method_points, inside_points, Alike, no_object, in_text}

-- ---- calls

-- a method of this result takes arguments of these types
abbrev pub Takes : ProgramView → ScopeContents → NumberedExps → ValueType → NumberedMethod → Type 0
Takes p s args type c = (ts : List ValueType) × (operands p s args ≡ Some ts) × (takes c.params ts ≡ true) × (result_type c ≡ type)

enough : (p : ProgramView) (s : ScopeContents) (n : ℕ) (params : List NumberedParam) (args : NumberedExps) (ts : List ValueType)
    → operands p s args ≡ Some ts → all_fit ts (types_of params) ≡ true → Enough (parameters_from n params) args
enough p s n [] args ts z h = tt
enough p s n (q ∷ params) e.NoExp ts z h = absurd (true_false (sym (subst (λ us. all_fit us (types_of (q ∷ params)) ≡ true) (sym (some_same [] ts z)) h)))
enough p s n (q ∷ params) (e.MoreExp a rest) ts z h =
    let j = joined_there (one (operand_type p s a)) (operands p s rest) ts z in
    let k = one_there (operand_type p s a) j.0 j.2 in
    let whole : k.0 ∷ j.1 ≡ ts = ap (λ us. us ++ j.1) (sym k.2) ∙ j.4 in
    enough p s (n + 1) params rest j.1 j.3 (and_right (fits k.0 q.ty.type) _ (subst (λ us. all_fit us (types_of (q ∷ params)) ≡ true) (sym whole) h))

params_take : (p : ProgramView) (s : ScopeContents) (args : NumberedExps) (n : NumberedParams) (ts : List ValueType) → operands p s args
    ≡ Some ts → takes n ts ≡ true → Enough (parameters_of n) args
params_take p s args MainArgs ts j h = absurd (true_false (sym h))
params_take p s args (Params params) ts j h = enough p s 0 params args ts j h

call_takes : (p : ProgramView) (s : ScopeContents) (args : NumberedExps) (o : Option NumberedMethod) (type : ValueType)
    → (called o (operands p s args)).type ≡ Some type → (c : NumberedMethod) → o ≡ Some c → Takes p s args type c
call_takes p s args o type z c i = by (operands p s args) refl (ap (λ x. (called x (operands p s args)).type) (sym i) ∙ z)
  where
    by : (q : Option (List ValueType)) → operands p s args ≡ q → (called (Some c) q).type ≡ Some type → Takes p s args type c
    by None j z = absurd (none_some type z)
    by (Some ts) j z = let q = where_some (takes c.params ts) (result_type c) type z in (ts, j, q.0, q.1)

module _ (p : ProgramView) (m : NumberedMethod) (s : ScopeContents) (this : s.this_class ≡ this_of m) (points : Points m s) where
  -- a call that has a type
  abbrev pub CallTakes : NumberedExp → ValueType → Type 0
  CallTakes x type = (c : NumberedMethod) → called_method p (this_of m) x ≡ Some c → Takes p s (args_of x) type c

  not_behind : (name : ℕ) (x : ValueType) (c : NumberedMethod) → is_object x ≡ false → method_behind p x name ≡ Some c → ⊥
  not_behind name (t.Class d l) c k z = true_false k
  not_behind name _ c k z = none_some c z

  -- behind an object
  member_takes : (name : ℕ) (args : NumberedExps) (u x type : ValueType) → Alike u x → (member_typing p (Some u) name (operands p s args)).type
      ≡ Some type → (c : NumberedMethod) → method_behind p x name ≡ Some c → Takes p s args type c
  member_takes name args u x type f z c i = by u f z
    where
      object : (d : ℕ) (l : Bool) (q : Option (List ValueType)) → (member_typing p (Some (t.Class d l)) name q).type ≡ Some type → (called (instance_method p d name) q).type ≡ Some type
      object d l None z = z
      object d l (Some ts) z = z

      by : (u : ValueType) → Alike u x → (member_typing p (Some u) name (operands p s args)).type ≡ Some type → Takes p s args type c
      by (t.Class d l) f z = call_takes p s args (instance_method p d name) type (object d l (operands p s args) z) c (ap (λ y. method_behind p y name) (sym (f.0 refl)) ∙ i)
      by t.Int f z = absurd (not_behind name x c (no_object t.Int x refl f) i)
      by t.Long f z = absurd (not_behind name x c (no_object t.Long x refl f) i)
      by t.Boolean f z = absurd (not_behind name x c (no_object t.Boolean x refl f) i)
      by (t.Pt n) f z = absurd (not_behind name x c (no_object (t.Pt n) x refl f) i)
      by (t.Rc n) f z = absurd (not_behind name x c (no_object (t.Rc n) x refl f) i)
      by (t.Dm n) f z = absurd (not_behind name x c (no_object (t.Dm n) x refl f) i)
      by t.Region f z = absurd (not_behind name x c (no_object t.Region x refl f) i)
      by (t.Grid e n l) f z = absurd (not_behind name x c (no_object (t.Grid e n l) x refl f) i)
      by t.Null f z = absurd (not_behind name x c (no_object t.Null x refl f) i)
      by t.Void f z = absurd (not_behind name x c (no_object t.Void x refl f) i)

  pub whole_takes : (x : NumberedExp) (type : ValueType) → WholeFits p m s x type → CallTakes x type
  whole_takes (e.Call at method args) type k c i = call_takes p s args (slice_get p.methods method) type k.0 c i
  whole_takes (e.OwnCall at method args) type k c i = call_takes p s args (slice_get p.methods method) type k.0 c i
  whole_takes (e.Member at a name args) type k c i = by (operand_type p s a) refl k.0
    where
      by : (o : Option ValueType) → operand_type p s a ≡ o → (member_typing p o name (operands p s args)).type ≡ Some type → Takes p s args type c
      by None j z = absurd (none_some type z)
      by (Some u) j z = member_takes name args u (syntactic_type p (this_of m) a) type (in_text p m s this points a k.1.0 u j) z c i
  whole_takes _ type k c i = absurd (none_some c i)

  call_suits : (x : NumberedExp) (type : ValueType) → WholeFits p m s x type → CallSuits p m x
  call_suits x type k c i = let q = whole_takes x type k c i in params_take p s (args_of x) c.params q.0 q.1 q.2

  init_suits : (value : NumberedInit) (type : ValueType) → InitFits p m s value type → InitSuits p m value
  init_suits (st.Value x) type k = (call_suits x type k.0, (λ c i. ap is_void (whole_takes x type k.0 c i).3 ∙ k.1))
  init_suits (st.NewRegion at) type k = tt
  init_suits (st.NewObject at region class) type k = tt
  init_suits (st.NewGrid at region element dims_at dims) type k = tt
  init_suits (st.Broadcast at x root) type k = tt

-- ---- statements

not_is : (b : Bool) → not b ≡ false → b ≡ true
not_is true h = refl
not_is false h = absurd (true_false h)

module _ (p : ProgramView) where
  abbrev Clean : List StmtInContext → Type 0
  Clean xs = flat_map (standing_refusals p) xs ≡ []

  within : (a : StmtContext) (x : NumberedStm) (xs : List StmtInContext) → Clean (stands a x ∷ xs) → Clean xs
  within a x xs h = nil_right (statement_refusals p a x) (flat_map (standing_refusals p) xs) h

  mutual
    stm_suits : (a : StmtContext) → Points a.method (scope_of a) → (x : NumberedStm) → StmFits p a.method (scope_of a) x → Clean (inside p a x) → StmSuits p a.method x
    stm_suits a f (st.Declare at type variable value) k h = init_suits p a.method (scope_of a) refl f value k.0 k.1
    stm_suits a f (st.Assign at target value) k h = init_suits p a.method (scope_of a) refl f value k.0 k.1
    stm_suits a f (st.Update at op target x) k h = init_suits p a.method (scope_of a) refl f (st.Value x) k.0 k.1
    stm_suits a f (st.Call x) k h = call_suits p a.method (scope_of a) refl f x k.0 k.1
    stm_suits a f (st.Return at None) k h = not_is (is_void (result_type a.method))
        (not_refused (not (is_void (result_type a.method))) Y6 at (nil_left (refused_if (not (is_void (result_type a.method))) Y6 at) [] h))
    stm_suits a f (st.Block body) k h = stms_suit a f body k (within a (st.Block body) (inside_all p a body) h)
    stm_suits a f (st.If at c x) k h = stm_suits a f x k.1 (within a (st.If at c x) (inside p a x) h)
    stm_suits a f (st.IfElse at c x y) k h =
        let r = within a (st.IfElse at c x y) (inside p a x ++ inside p a y) h in
        (stm_suits a f x k.1 (each_left (standing_refusals p) (inside p a x) (inside p a y) r), stm_suits a f y k.2 (each_right (standing_refusals p) (inside p a x) (inside p a y) r))
    stm_suits a f (st.While at c body) k h = let b = in_loop p a NoStm body in stm_suits b f body k.1 (within a (st.While at c body) (inside p b body) h)
    stm_suits a f (st.For at first c update body) k h =
        let b = in_loop p a update body in
        let rest = inside_maybe p a update ++ inside p b body in
        let r = within a (st.For at first c update body) (inside_maybe p a first ++ rest) h in
        let q = each_right (standing_refusals p) (inside_maybe p a first) rest r in (
          maybe_suits a f first k.0 (each_left (standing_refusals p) (inside_maybe p a first) rest r),
          maybe_suits a f update k.2 (each_left (standing_refusals p) (inside_maybe p a update) (inside p b body) q),
          stm_suits b f body k.3 (each_right (standing_refusals p) (inside_maybe p a update) (inside p b body) q),
        )
    stm_suits a f (st.Foreach at number domain body) k h =
        let b = in_foreach p a number domain body in
        stm_suits b (inside_points p a.method (scope_of a) number domain f) body k.1 (within a (st.Foreach at number domain body) (inside p b body) h)
    stm_suits a f _ k h = tt

    maybe_suits : (a : StmtContext) → Points a.method (scope_of a) → (x : MaybeNumbered) → MaybeFits p a.method (scope_of a) x → Clean (inside_maybe p a x) → MaybeSuits p a.method x
    maybe_suits a f NoStm k h = tt
    maybe_suits a f (SomeStm x) k h = stm_suits a f x k h

    stms_suit : (a : StmtContext) → Points a.method (scope_of a) → (xs : NumberedStms) → StmsFit p a.method (scope_of a) xs → Clean (inside_all p a xs) → StmsSuit p a.method xs
    stms_suit a f Nil k h = tt
    stms_suit a f (Cons x rest) k h =
        (stm_suits a f x k.0 (each_left (standing_refusals p) (inside p a x) (inside_all p a rest) h), stms_suit a f rest k.1 (each_right (standing_refusals p) (inside p a x) (inside_all p a rest) h))

  -- ---- methods

  returns_end : (m : NumberedMethod) → end_refusals m ≡ [] → is_void (result_type m) ≡ false → ends_with_return m.body ≡ true
  returns_end m h v = by (ends_with_return m.body) (ap (λ b. not b && not (ends_with_return m.body)) (sym v)
      ∙ not_refused (not (is_void (result_type m)) && not (ends_with_return m.body)) Y6 m.place h)
    where
      by : (b : Bool) → not b ≡ false → b ≡ true
      by b h = not_is b h

  method_stands : (m : NumberedMethod) → StmsFit p m (method_scope m) (numbered_stms m.body) → method_refusals p m ≡ []
      → StmsScoped (is_one (parameters_of m.params)) (numbered_stms m.body) → MethodStands p m
  method_stands m k h f =
      let standing = flat_map (standing_refusals p) (standing_in_method p m) in
      let head = nil_left (head_refusals m ++ end_refusals m) standing h in
      record {
        scoped = f;
        suit = stms_suit (around_method m) (method_points m) (numbered_stms m.body) k (nil_right (head_refusals m ++ end_refusals m) standing h);
        returns = returns_end m (nil_right (head_refusals m) (end_refusals m) head);
      }

  methods_stand : (ms : List NumberedMethod) → MethodsFit p ms → flat_map (method_refusals p) ms ≡ [] → MethodsScoped ms → MethodsStand p ms
  methods_stand [] k h f = tt
  methods_stand (m ∷ ms) k h f =
      (method_stands m k.0 (nil_left (method_refusals p m) (flat_map (method_refusals p) ms) h) f.0, methods_stand ms k.1 (nil_right (method_refusals p m) (flat_map (method_refusals p) ms) h) f.1)

-- the methods of a checked program stand in their parameters, where they fit the types
pub program_stands : (p : ProgramView) → IsChecked p → MethodsFit p p.methods → ProgramStands p
program_stands p c k = record {
  methods = methods_stand p p.methods k (nil_right (flat_map class_refusals p.classes) (flat_map (method_refusals p) p.methods) c.unbroken.types) (scoped p c.numbered);
  main = main_words p c.numbered;
}
