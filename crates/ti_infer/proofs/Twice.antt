-- Stripping a stripped program changes nothing.
use Rattle.std.proofs.Common.{◌≡◌, ℕ, ◌+◌, ◌==◌, Bool, true, false, if◌then◌else◌, List, [], ◌∷◌, map, Option, Some, None, option_map, refl, ap, ap₂}
use Rattle.std.specs.Prelude.{filter, not}
use Rattle.ti_syntax.specs.declared.tree.types.Qualifier.{Qualifier}
use Rattle.ti_syntax.specs.declared.tree.classes.Modifier.{Modifier}
use Rattle.ti_syntax.specs.Trees.Types.{GridTree}
use Rattle.ti_lang.specs.Scopes as qualifier
use Rattle.ti_lang.specs.Members as modifier
use Rattle.ti_lang.specs.Program.Types.{NumberedType, Declaration, Typed, Foreach}
use Rattle.ti_lang.specs.Program.Expressions.{NumberedExp, NumberedExps, NumberedRange, NumberedRanges}
use Rattle.ti_lang.specs.Program.Expressions as x
use Rattle.ti_lang.specs.Program.Statements.{NumberedDims, NumberedInit, NumberedPrint, NumberedStm, MaybeNumbered, NumberedStms}
use Rattle.ti_lang.specs.Program.Statements as st
use Rattle.ti_lang.specs.Program.Classes.{NumberedField, NumberedClass, NumberedParam, NumberedParams, MainArgs, Params, NumberedResult, NumberedMethod, ProgramView}
use Rattle.ti_lang.specs.Program.Classes as c
use Rattle.ti_infer.specs.Marked.{marked_declaration, marked_exp, marked_exps, marked_range, marked_ranges, marked_dims, marked_print}
use Rattle.ti_infer.specs.Stripped.{plain_words, plain_modifiers, plain_grid, plain_type, none_single, plain_init, plain_stm, plain_maybe, plain_stms, plain_field, plain_class, plain_params, plain_result, plain_method, plain_methods, stripped}

-- ---- equal arguments

ap₃ : {A B C D : Type 0} (f : A → B → C → D) {a b : A} {d e : B} {g h : C} → a ≡ b → d ≡ e → g ≡ h → f a d g ≡ f b e h
ap₃ f k l m = ap₂ (λ u v. u v) (ap₂ f k l) m

ap₄ : {A B C D E : Type 0} (f : A → B → C → D → E) {a b : A} {d e : B} {g h : C} {i j : D}
    → a ≡ b → d ≡ e → g ≡ h → i ≡ j → f a d g i ≡ f b e h j
ap₄ f k l m n = ap₂ (λ u v. u v) (ap₃ f k l m) n

-- ---- lists

filter_twice : {A : Type 0} (test : A → Bool) (xs : List A) → filter test (filter test xs) ≡ filter test xs
filter_twice test [] = refl
filter_twice {A} test (x ∷ xs) = by (test x) refl (filter_twice test xs)
  where
    kept : Bool → List A → List A
    kept b ys = if b then x ∷ ys else ys

    by : (b : Bool) → test x ≡ b → filter test (filter test xs) ≡ filter test xs
        → filter test (kept b (filter test xs)) ≡ kept b (filter test xs)
    by true e h = ap₂ kept e h
    by false e h = h

map_twice : {A : Type 0} (f : A → A) → ((a : A) → f (f a) ≡ f a) → (xs : List A) → map f (map f xs) ≡ map f xs
map_twice f same [] = refl
map_twice f same (x ∷ xs) = ap₂ (λ y ys. y ∷ ys) (same x) (map_twice f same xs)

option_twice : {A : Type 0} (f : A → A) → ((a : A) → f (f a) ≡ f a) → (o : Option A) → option_map f (option_map f o) ≡ option_map f o
option_twice f same None = refl
option_twice f same (Some a) = ap (λ y. Some y) (same a)

-- ---- words

words_twice : (qs : List Qualifier) → plain_words (plain_words qs) ≡ plain_words qs
words_twice qs = filter_twice (λ (q : Qualifier). not (qualifier.is_single_word q.word)) qs

modifiers_twice : (ws : List Modifier) → plain_modifiers (plain_modifiers ws) ≡ plain_modifiers ws
modifiers_twice ws = filter_twice (λ (w : Modifier). not (modifier.is_single_word w.word)) ws

grid_twice : (g : GridTree) → plain_grid (plain_grid g) ≡ plain_grid g
grid_twice g = ap (λ (qs : List Qualifier). record g { qualifiers = qs }) (words_twice g.qualifiers)

type_twice : (t : NumberedType) → plain_type (plain_type t) ≡ plain_type t
type_twice t =
    ap₂ (λ (qs : List Qualifier) (gs : List GridTree). record { type = t.type; is_single = false; qualifiers = qs; grids = gs })
    (words_twice t.qualifiers) (map_twice plain_grid grid_twice t.grids)

-- ---- expressions

declaration_twice : (b : Bool) (d : Declaration) → marked_declaration b (marked_declaration b d) ≡ marked_declaration b d
declaration_twice b (Typed is_single type) = refl
declaration_twice b Foreach = refl

module _ (singles : ℕ → Bool) where
  mutual
    exp_twice : (a : NumberedExp) → marked_exp singles (marked_exp singles a) ≡ marked_exp singles a
    exp_twice (x.Variable at v) =
        ap (λ (d : Declaration). x.Variable at (record v { declared = d })) (declaration_twice (singles v.number) v.declared)
    exp_twice (x.Call at method args) = ap (λ y. x.Call at method y) (exps_twice args)
    exp_twice (x.OwnCall at method args) = ap (λ y. x.OwnCall at method y) (exps_twice args)
    exp_twice (x.Point at parts) = ap (λ y. x.Point at y) (exps_twice parts)
    exp_twice (x.Rect at ranges) = ap (λ y. x.Rect at y) (ranges_twice ranges)
    exp_twice (x.Unary at op a) = ap (λ y. x.Unary at op y) (exp_twice a)
    exp_twice (x.Binary at op a b) = ap₂ (λ y z. x.Binary at op y z) (exp_twice a) (exp_twice b)
    exp_twice (x.Cast at to a) = ap (λ y. x.Cast at to y) (exp_twice a)
    exp_twice (x.Select at a name) = ap (λ y. x.Select at y name) (exp_twice a)
    exp_twice (x.Member at a name args) = ap₂ (λ y z. x.Member at y name z) (exp_twice a) (exps_twice args)
    exp_twice (x.Index at a parts) = ap₂ (λ y z. x.Index at y z) (exp_twice a) (exps_twice parts)
    exp_twice _ = refl

    exps_twice : (xs : NumberedExps) → marked_exps singles (marked_exps singles xs) ≡ marked_exps singles xs
    exps_twice x.NoExp = refl
    exps_twice (x.MoreExp a rest) = ap₂ (λ y ys. x.MoreExp y ys) (exp_twice a) (exps_twice rest)

    range_twice : (r : NumberedRange) → marked_range singles (marked_range singles r) ≡ marked_range singles r
    range_twice (x.Plain low high) = ap₂ (λ y z. x.Plain y z) (exp_twice low) (exp_twice high)
    range_twice (x.Stepped low high step) = ap₃ (λ y z w. x.Stepped y z w) (exp_twice low) (exp_twice high) (exp_twice step)

    ranges_twice : (rs : NumberedRanges) → marked_ranges singles (marked_ranges singles rs) ≡ marked_ranges singles rs
    ranges_twice x.NoRange = refl
    ranges_twice (x.MoreRange r rest) = ap₂ (λ y ys. x.MoreRange y ys) (range_twice r) (ranges_twice rest)

  dims_twice : (d : NumberedDims) → marked_dims singles (marked_dims singles d) ≡ marked_dims singles d
  dims_twice (st.Domain a) = ap (λ y. st.Domain y) (exp_twice a)
  dims_twice (st.Ranges ranges) = ap (λ ys. st.Ranges ys) (map_twice (marked_range singles) range_twice ranges)

  abbrev marked_maybe_exp : Option NumberedExp → Option NumberedExp
  marked_maybe_exp o = option_map (marked_exp singles) o

  maybe_exp_twice : (o : Option NumberedExp) → marked_maybe_exp (marked_maybe_exp o) ≡ marked_maybe_exp o
  maybe_exp_twice o = option_twice (marked_exp singles) exp_twice o

  print_twice : (v : NumberedPrint) → marked_print singles (marked_print singles v) ≡ marked_print singles v
  print_twice st.Nothing = refl
  print_twice (st.Text literal) = refl
  print_twice (st.Expression a) = ap (λ y. st.Expression y) (exp_twice a)
  print_twice (st.TextAndExpression literal a) = ap (λ y. st.TextAndExpression literal y) (exp_twice a)

-- ---- statements

init_twice : (v : NumberedInit) → plain_init (plain_init v) ≡ plain_init v
init_twice (st.Value a) = ap (λ y. st.Value y) (exp_twice none_single a)
init_twice (st.NewRegion at) = refl
init_twice (st.NewObject at region class) = ap (λ y. st.NewObject at y class) (maybe_exp_twice none_single region)
init_twice (st.NewGrid at region element dims_at dims) =
    ap₃ (λ y t d. st.NewGrid at y t dims_at d) (maybe_exp_twice none_single region) (type_twice element) (dims_twice none_single dims)
init_twice (st.Broadcast at a root) = ap₂ (λ y z. st.Broadcast at y z) (exp_twice none_single a) (exp_twice none_single root)

mutual
  stm_twice : (a : NumberedStm) → plain_stm (plain_stm a) ≡ plain_stm a
  stm_twice (st.Declare at type variable value) = ap₂ (λ t v. st.Declare at t variable v) (type_twice type) (init_twice value)
  stm_twice (st.Assign at target value) = ap₂ (λ y v. st.Assign at y v) (exp_twice none_single target) (init_twice value)
  stm_twice (st.Update at op target a) = ap₂ (λ y z. st.Update at op y z) (exp_twice none_single target) (exp_twice none_single a)
  stm_twice (st.Step at op target) = ap (λ y. st.Step at op y) (exp_twice none_single target)
  stm_twice (st.Call a) = ap (λ y. st.Call y) (exp_twice none_single a)
  stm_twice (st.Print at what) = ap (λ y. st.Print at y) (print_twice none_single what)
  stm_twice (st.Return at value) = ap (λ y. st.Return at y) (maybe_exp_twice none_single value)
  stm_twice (st.Block body) = ap (λ ys. st.Block ys) (stms_twice body)
  stm_twice (st.If at c a) = ap₂ (λ y z. st.If at y z) (exp_twice none_single c) (stm_twice a)
  stm_twice (st.IfElse at c a b) = ap₃ (λ y z w. st.IfElse at y z w) (exp_twice none_single c) (stm_twice a) (stm_twice b)
  stm_twice (st.While at c body) = ap₂ (λ y z. st.While at y z) (exp_twice none_single c) (stm_twice body)
  stm_twice (st.For at first c update body) =
      ap₄ (λ f y u z. st.For at f y u z) (maybe_twice first) (maybe_exp_twice none_single c) (maybe_twice update) (stm_twice body)
  stm_twice (st.Foreach at variable domain body) = ap₂ (λ y z. st.Foreach at variable y z) (exp_twice none_single domain) (stm_twice body)
  stm_twice st.Empty = refl
  stm_twice (st.Barrier at) = refl
  stm_twice (st.Break at) = refl
  stm_twice (st.Continue at) = refl

  maybe_twice : (a : MaybeNumbered) → plain_maybe (plain_maybe a) ≡ plain_maybe a
  maybe_twice st.NoStm = refl
  maybe_twice (st.SomeStm a) = ap (λ y. st.SomeStm y) (stm_twice a)

  stms_twice : (xs : NumberedStms) → plain_stms (plain_stms xs) ≡ plain_stms xs
  stms_twice st.Nil = refl
  stms_twice (st.Cons a rest) = ap₂ (λ y ys. st.Cons y ys) (stm_twice a) (stms_twice rest)

-- ---- classes and methods

field_twice : (f : NumberedField) → plain_field (plain_field f) ≡ plain_field f
field_twice f =
    ap₂ (λ (ws : List Modifier) (t : NumberedType). record f { modifiers = ws; ty = t }) (modifiers_twice f.modifiers) (type_twice f.ty)

class_twice : (c : NumberedClass) → plain_class (plain_class c) ≡ plain_class c
class_twice c = ap (λ (fs : List NumberedField). record c { fields = fs }) (map_twice plain_field field_twice c.fields)

abbrev plain_param : NumberedParam → NumberedParam
plain_param w = record w { ty = plain_type w.ty }

param_twice : (w : NumberedParam) → plain_param (plain_param w) ≡ plain_param w
param_twice w = ap (λ (t : NumberedType). record w { ty = t }) (type_twice w.ty)

params_twice : (ps : NumberedParams) → plain_params (plain_params ps) ≡ plain_params ps
params_twice MainArgs = refl
params_twice (Params params) = ap (λ ws. Params ws) (map_twice plain_param param_twice params)

result_twice : (r : NumberedResult) → plain_result (plain_result r) ≡ plain_result r
result_twice c.Void = refl
result_twice (c.Typed t) = ap (λ u. c.Typed u) (type_twice t)

method_twice : (is_main : Bool) (m : NumberedMethod) → plain_method is_main (plain_method is_main m) ≡ plain_method is_main m
method_twice true m =
    ap₃ (λ (r : NumberedResult) (ps : NumberedParams) (b : List NumberedStm). record m { result = r; params = ps; body = b })
    (result_twice m.result) (params_twice m.params) (map_twice plain_stm stm_twice m.body)
method_twice false m =
    ap₄
    (λ (ws : List Modifier) (r : NumberedResult) (ps : NumberedParams) (b : List NumberedStm).
    record m { modifiers = ws; is_single = false; result = r; params = ps; body = b })
    (modifiers_twice m.modifiers) (result_twice m.result) (params_twice m.params) (map_twice plain_stm stm_twice m.body)

methods_twice : (main n : ℕ) (ms : List NumberedMethod) → plain_methods main n (plain_methods main n ms) ≡ plain_methods main n ms
methods_twice main n [] = refl
methods_twice main n (m ∷ ms) = ap₂ (λ y ys. y ∷ ys) (method_twice (n == main) m) (methods_twice main (n + 1) ms)

-- stripped once, a program is stripped
pub stripped_twice : (p : ProgramView) → stripped (stripped p) ≡ stripped p
stripped_twice p =
    ap₂ (λ (cs : List NumberedClass) (ms : List NumberedMethod). record p { classes = cs; methods = ms })
    (map_twice plain_class class_twice p.classes) (methods_twice p.main 0 p.methods)
