-- A tree with other modifiers and qualifiers resolves if the tree does: to the parts with these, with uses of variables that agree with
-- their declarations.
use Rattle.std.proofs.Common.{◌≡◌, ℕ, ◌+◌, ◌<◌, Bool, true, false, not, ◌&&◌, ◌||◌, cond, if◌then◌else◌, List, [], ◌∷◌, ◌++◌, map, slice_get, is_some, option_map, Option, Some, None, bytes_eq, codes, refl, ap, ap₂, sym, ◌∙◌, subst}
use Rattle.std.specs.Map.{lookup}
use Rattle.std.proofs.lemmas.Option.{slice_get-map}
use Rattle.std.proofs.lemmas.List.{length-map}
use Rattle.ti_base.specs.declared.place.Place.{Place}
use Rattle.ti_syntax.specs.declared.tree.types.Qualifier.{Qualifier}
use Rattle.ti_syntax.specs.declared.tree.classes.Modifier.{Modifier}
use Rattle.ti_syntax.specs.Trees.Types.{TypeTree}
use Rattle.ti_syntax.specs.Trees.Expressions.{Exp, Exps, RangeTree, RangeTrees}
use Rattle.ti_syntax.specs.Trees.Expressions as x
use Rattle.ti_syntax.specs.Trees.Statements.{DimsTree, InitTree, PrintTree, Stm, MaybeStm, Stms}
use Rattle.ti_syntax.specs.Trees.Statements as s
use Rattle.ti_syntax.specs.Trees.Classes.{FieldTree, ParamTree, ParamsTree, ResultTree, MethodTree, ClassTree, TextTree}
use Rattle.ti_syntax.specs.Trees.Classes as c
use Rattle.ti_lang.specs.MainForm.{is_words, is_void, has_main_modifiers, has_main_form}
use Rattle.ti_lang.specs.Members.{only_if, fields_in, OwnMethod, methods_of, method_named, is_static_method}
use Rattle.ti_lang.specs.Scopes as scopes
use Rattle.ti_lang.specs.Scopes.{has_single, has_local, value_type, Known, Site, with_variable, declares, typed_as, past, past_maybe, past_all, site_after, behind_maybe, behind_params, method_site, body_site, own_field_named, own_method_named, static_method_named, class_before_dot, IsFresh, HasRoom}
use Rattle.ti_lang.specs.Program.Types.{ValueType, NumberedType, Declaration, Typed, Foreach, VariableUse}
use Rattle.ti_lang.specs.Program.Expressions.{NumberedExp, NumberedExps, NumberedRange, NumberedRanges, numbered_ranges}
use Rattle.ti_lang.specs.Program.Expressions as e
use Rattle.ti_lang.specs.Program.Statements.{NumberedDims, NumberedInit, NumberedPrint, NumberedStm, MaybeNumbered, NumberedStms, numbered_stms}
use Rattle.ti_lang.specs.Program.Statements as m
use Rattle.ti_lang.specs.Program.Classes.{NumberedField, NumberedClass, NumberedParam, NumberedParams, MainArgs, Params}
use Rattle.ti_lang.specs.Numbering as number
use Rattle.ti_lang.specs.Numbering.{NumbersType, NumbersExp, NumbersExps, NumbersRange, NumbersRanges, NumbersMaybe, NumbersDims, NumbersInit, NumbersPrint, NumbersStm, NumbersMaybeStm, NumbersStms, NumbersFields, NumbersClasses, NumbersParamList, NumbersParams, HasMain}
use Rattle.ti_infer.specs.Remarked.{Remarking, remarked_grid, remarked_type, remarked_init, remarked_stm, remarked_maybe, remarked_all, remarked_param, remarked_params, remarked_result, remarked_field, remarked_method, remarked_class, remarked_text}
use Rattle.ti_infer.specs.Marked.{marked_declaration, marked_exp, marked_exps, marked_range, marked_ranges, marked_dims, marked_init, marked_print}
use Rattle.ti_infer.proofs.Refound.{IsMild, map_both, remarked_own, class_same, fields_same, field_same, methods_same, method_same, static_kept, static_same, name_same, value_same, cast_same, known_same}

-- ---- numbered parts with other words

-- a numbered type with other words
abbrev pub retyped : Remarking → (List Qualifier → List Qualifier) → NumberedType → NumberedType
retyped r words t =
    record { type = t.type; is_single = has_single (words t.qualifiers); qualifiers = words t.qualifiers; grids = map (remarked_grid r) t.grids }

-- what becomes of types, of those of declared names, and of uses of variables by their numbers
pub record Restating : Type 0 where
  pub ty : NumberedType → NumberedType
  pub declared : Place → NumberedType → NumberedType
  pub singles : ℕ → Bool

module _ (u : Restating) where
  abbrev pub restated_init : NumberedInit → NumberedInit
  restated_init (m.NewGrid at region element dims_at dims) = marked_init u.singles (m.NewGrid at region (u.ty element) dims_at dims)
  restated_init v = marked_init u.singles v

  abbrev mutual
    pub restated : NumberedStm → NumberedStm
    restated (m.Declare at type variable value) = m.Declare at (u.declared at type) variable (restated_init value)
    restated (m.Assign at target value) = m.Assign at (marked_exp u.singles target) (restated_init value)
    restated (m.Update at op target a) = m.Update at op (marked_exp u.singles target) (marked_exp u.singles a)
    restated (m.Step at op target) = m.Step at op (marked_exp u.singles target)
    restated (m.Call a) = m.Call (marked_exp u.singles a)
    restated (m.Print at what) = m.Print at (marked_print u.singles what)
    restated (m.Return at value) = m.Return at (option_map (marked_exp u.singles) value)
    restated (m.Block body) = m.Block (restated_all body)
    restated (m.If at c a) = m.If at (marked_exp u.singles c) (restated a)
    restated (m.IfElse at c a b) = m.IfElse at (marked_exp u.singles c) (restated a) (restated b)
    restated (m.While at c body) = m.While at (marked_exp u.singles c) (restated body)
    restated (m.For at first c update body) =
        m.For at (restated_maybe first) (option_map (marked_exp u.singles) c) (restated_maybe update) (restated body)
    restated (m.Foreach at variable domain body) = m.Foreach at variable (marked_exp u.singles domain) (restated body)
    restated m.Empty = m.Empty
    restated (m.Barrier at) = m.Barrier at
    restated (m.Break at) = m.Break at
    restated (m.Continue at) = m.Continue at

    pub restated_maybe : MaybeNumbered → MaybeNumbered
    restated_maybe m.NoStm = m.NoStm
    restated_maybe (m.SomeStm a) = m.SomeStm (restated a)

    pub restated_all : NumberedStms → NumberedStms
    restated_all m.Nil = m.Nil
    restated_all (m.Cons a rest) = m.Cons (restated a) (restated_all rest)

  abbrev pub restated_param : NumberedParam → NumberedParam
  restated_param w = record w { ty = u.declared w.place w.ty }

  abbrev pub restated_params : NumberedParams → NumberedParams
  restated_params MainArgs = MainArgs
  restated_params (Params ws) = Params (map restated_param ws)

  -- a declared type becomes that with the other words, and is single where its variable is
  abbrev pub IsFine : Remarking → Place → NumberedType → ℕ → Type 0
  IsFine r at type variable =
      (u.declared at type ≡ retyped r (r.declared at) type) × (has_single (r.declared at type.qualifiers) ≡ u.singles variable)

  module _ (r : Remarking) where
    abbrev mutual
      -- so does each in a statement
      pub AreFine : NumberedStm → Type 0
      AreFine (m.Declare at type variable value) = IsFine r at type variable
      AreFine (m.Block body) = AllFine body
      AreFine (m.If at c a) = AreFine a
      AreFine (m.IfElse at c a b) = AreFine a × AreFine b
      AreFine (m.While at c body) = AreFine body
      AreFine (m.For at first c update body) = MaybeFine first × MaybeFine update × AreFine body
      AreFine (m.Foreach at variable domain body) = AreFine body
      AreFine a = Unit {0}

      pub MaybeFine : MaybeNumbered → Type 0
      MaybeFine m.NoStm = Unit {0}
      MaybeFine (m.SomeStm a) = AreFine a

      pub AllFine : NumberedStms → Type 0
      AllFine m.Nil = Unit {0}
      AllFine (m.Cons a rest) = AreFine a × AllFine rest

    -- and each of parameters, which are the variables from a number on
    abbrev pub ParamsFine : ℕ → List NumberedParam → Type 0
    ParamsFine variable [] = Unit {0}
    ParamsFine variable (w ∷ ws) = IsFine r w.place w.ty variable × ParamsFine (variable + 1) ws

-- ---- types

module _ (r : Remarking) (k : IsMild r) where
  pub numbers_type : (text : TextTree) (words : List Qualifier → List Qualifier)
      → ((qs : List Qualifier) → has_local (words qs) ≡ has_local qs)
      → (y : TypeTree) (n : NumberedType) → NumbersType text y n → NumbersType (remarked_text r text) (remarked_type r words y)
      (retyped r words n)
  numbers_type text words h y n (number.known w) =
      subst (NumbersType (remarked_text r text) (remarked_type r words y))
      (ap (λ (v : ValueType). record {
        type = v;
        is_single = has_single (words y.qualifiers);
        qualifiers = words y.qualifiers;
        grids = map (remarked_grid r) y.grids;
      }) (value_same r k text words y (h y.qualifiers)))
      (number.known (known_same r text y.base w))

  cast_numbers_type : (text : TextTree) (y : TypeTree) (n : NumberedType) → NumbersType text y n → NumbersType (remarked_text r text) y n
  cast_numbers_type text y n (number.known w) =
      subst (NumbersType (remarked_text r text) y)
      (ap (λ (v : ValueType). record { type = v; is_single = has_single y.qualifiers; qualifiers = y.qualifiers; grids = y.grids }) (cast_same r text y))
      (number.known (known_same r text y.base w))

-- what a type that is written becomes, is that with the other words
abbrev pub AreRetyped : Restating → Remarking → Type 0
AreRetyped u r =
    (v : ValueType) (y : TypeTree) → u.ty
    (record { type = v; is_single = has_single y.qualifiers; qualifiers = y.qualifiers; grids = y.grids })
    ≡ retyped r r.words (record { type = v; is_single = has_single y.qualifiers; qualifiers = y.qualifiers; grids = y.grids })

module _ (r : Remarking) (k : IsMild r) (u : Restating) (types : AreRetyped u r) where
  numbers_inner : (text : TextTree) (y : TypeTree) (n : NumberedType) → NumbersType text y n
      → NumbersType (remarked_text r text) (remarked_type r r.words y) (u.ty n)
  numbers_inner text y n (number.known w) =
      subst (NumbersType (remarked_text r text) (remarked_type r r.words y)) (sym (types (value_type text y) y))
      (numbers_type r k text r.words k.words y _ (number.known w))

  numbers_declared : (text : TextTree) (at : Place) (variable : ℕ) (y : TypeTree) (n : NumberedType) → IsFine u r at n variable
      → NumbersType text y n
      → NumbersType (remarked_text r text) (remarked_type r (r.declared at) y) (u.declared at n)
  numbers_declared text at variable y n f h =
      subst (NumbersType (remarked_text r text) (remarked_type r (r.declared at) y)) (sym f.0)
      (numbers_type r k text (r.declared at) (k.declared at) y n h)

  -- ---- sites

  abbrev pub use_there : VariableUse → VariableUse
  use_there v = record v { declared = marked_declaration (u.singles v.number) v.declared }

  abbrev pub known_there : Known → Known
  known_there w = (w.0, use_there w.1)

  abbrev pub site_there : Site → Site
  site_there site = record site { text = remarked_text r site.text; scope = map known_there site.scope }

  lookup_same : (test : List ℕ → Bool) (scope : List Known) → lookup test (map known_there scope) ≡ option_map use_there (lookup test scope)
  lookup_same test [] = refl
  lookup_same test (w ∷ scope) = by (test w.0) (lookup_same test scope)
    where
      by : (b : Bool) → lookup test (map known_there scope) ≡ option_map use_there (lookup test scope)
          → cond b (Some (use_there w.1)) (lookup test (map known_there scope))
          ≡ option_map use_there (cond b (Some w.1) (lookup test scope))
      by true h = refl
      by false h = h

  some_map : {A B : Type 0} (f : A → B) (o : Option A) → is_some (option_map f o) ≡ is_some o
  some_map f None = refl
  some_map f (Some a) = refl

  found_same : (scope : List Known) (name : List ℕ)
      → is_some (lookup (bytes_eq name) (map known_there scope)) ≡ is_some (lookup (bytes_eq name) scope)
  found_same scope name = ap is_some (lookup_same (bytes_eq name) scope) ∙ some_map use_there (lookup (bytes_eq name) scope)

  with_same : (scope : List Known) (name : List ℕ) (v : VariableUse)
      → with_variable (map known_there scope) name (use_there v) ≡ map known_there (with_variable scope name v)
  with_same scope name v =
      ap (λ (b : Bool). if b then map known_there scope else map known_there scope ++ (name, use_there v) ∷ []) (found_same scope name)
      ∙ by (is_some (lookup (bytes_eq name) scope))
    where
      by : (b : Bool)
          → (if b then map known_there scope else map known_there scope ++ (name, use_there v) ∷ [])
          ≡ map known_there (if b then scope else scope ++ (name, v) ∷ [])
      by true = refl
      by false = sym (map_both known_there scope ((name, v) ∷ []))

  declares_same : (site : Site) (name : List ℕ) (d : Declaration)
      → declares (site_there site) name (marked_declaration (u.singles site.variables) d) ≡ site_there (declares site name d)
  declares_same site name d =
      ap (λ (l : List Known). record (site_there site) { scope = l; variables = site.variables + 1 })
      (with_same site.scope name (record { number = site.variables; declared = d }))

  typed_same : (text : TextTree) (at : Place) (y : TypeTree) (b : Bool) → has_single (r.declared at y.qualifiers) ≡ b
      → typed_as (remarked_text r text) (remarked_type r (r.declared at) y) ≡ marked_declaration b (typed_as text y)
  typed_same text at y b h = ap₂ Typed h (value_same r k text (r.declared at) y (k.declared at y.qualifiers))

  behind_declared : (site : Site) (at : Place) (y : TypeTree) (name : List ℕ)
      → has_single (r.declared at y.qualifiers) ≡ u.singles site.variables
      → declares (site_there site) name (typed_as (remarked_text r site.text) (remarked_type r (r.declared at) y)) ≡ site_there
      (declares site name (typed_as site.text y))
  behind_declared site at y name h =
      ap (declares (site_there site) name) (typed_same site.text at y (u.singles site.variables) h)
      ∙ declares_same site name (typed_as site.text y)

  fresh_same : (site : Site) (name : List ℕ) → IsFresh site name → IsFresh (site_there site) name
  fresh_same site name h = lookup_same (bytes_eq name) site.scope ∙ ap (option_map use_there) h

  room_same : (site : Site) → HasRoom site → HasRoom (site_there site)
  room_same site h = subst (λ n. n < scopes.most_variables) (sym (length-map site.scope known_there)) h

  -- ---- what names mean

  own_field_same : (site : Site) (name : List ℕ) → own_field_named (site_there site) name ≡ own_field_named site name
  own_field_same site name = ap (λ o. if site.static then None else o) (field_same r site.text site.class name)

  only_if_same : {A : Type 0} (f g : A → Bool) (o : Option A) → ((a : A) → f a ≡ g a) → only_if f o ≡ only_if g o
  only_if_same f g None h = refl
  only_if_same f g (Some a) h = ap (λ (b : Bool). if b then Some a else None) (h a)

  own_method_same : (site : Site) (name : List ℕ) → own_method_named (site_there site) name ≡ own_method_named site name
  own_method_same site name =
      ap (only_if (λ n. is_static_method (remarked_text r site.text) n || not site.static)) (method_same r site.text site.class name)
      ∙ only_if_same _ _ (method_named site.text site.class name) (λ n. ap (λ z. z || not site.static) (static_same r k site.text n))

  static_method_same : (site : Site) (class : ℕ) (name : List ℕ)
      → static_method_named (site_there site) class name ≡ static_method_named site class name
  static_method_same site class name =
      ap (only_if (is_static_method (remarked_text r site.text))) (method_same r site.text class name)
      ∙ only_if_same _ _ (method_named site.text class name) (static_same r k site.text)

  before_dot_same : (site : Site) (y : Exp) → class_before_dot (site_there site) y ≡ class_before_dot site y
  before_dot_same site (x.Name at name) =
      ap₂ (λ (a : Bool) (o : Option ℕ). if a then None else o)
      (ap₂ (λ a z. a || z) (found_same site.scope name) (ap is_some (own_field_same site name))) (class_same r site.text name)
  before_dot_same site _ = refl

  -- ---- expressions

  module _ (site : Site) where
    abbrev there : Site
    there = site_there site

    abbrev exp_as : NumberedExp → NumberedExp
    exp_as y = marked_exp u.singles y

    mutual
      exp_there : (o : Exp) (y : NumberedExp) → NumbersExp site o y → NumbersExp there o (marked_exp u.singles y)
      exp_there o y number.int = number.int
      exp_there o y number.long = number.long
      exp_there o y number.truth = number.truth
      exp_there o y number.null = number.null
      exp_there o y (number.this h) = number.this h
      exp_there o y (number.variable {name = name} h) =
          number.variable (lookup_same (bytes_eq name) site.scope ∙ ap (option_map use_there) h)
      exp_there o y (number.own_field {name = name} h i) =
          number.own_field (lookup_same (bytes_eq name) site.scope ∙ ap (option_map use_there) h) (own_field_same site name ∙ i)
      exp_there o y (number.call {name = name} {method = method} h z xs) =
          number.call (own_method_same site name ∙ h) (static_same r k site.text method ∙ z) (exps_there _ _ xs)
      exp_there o y (number.own_call {name = name} {method = method} h z xs) =
          number.own_call (own_method_same site name ∙ h) (static_same r k site.text method ∙ z) (exps_there _ _ xs)
      exp_there o y number.this_proc = number.this_proc
      exp_there o y number.num_procs = number.num_procs
      exp_there o y (number.point h) = number.point (exps_there _ _ h)
      exp_there o y (number.rect h) = number.rect (ranges_there _ _ h)
      exp_there o y (number.unary h) = number.unary (exp_there _ _ h)
      exp_there o y (number.binary h i) = number.binary (exp_there _ _ h) (exp_there _ _ i)
      exp_there o y (number.cast b h) = number.cast (cast_numbers_type r k site.text _ _ b) (exp_there _ _ h)
      exp_there o y (number.select {at = at} {x = a} {y = z} {name = name} h i) =
          subst (λ n. NumbersExp there (x.Select at a name) (e.Select at (marked_exp u.singles z) n)) (name_same r site.text name)
          (number.select (before_dot_same site a ∙ h) (exp_there a z i))
      exp_there o y (number.member {at = at} {x = a} {y = z} {name = name} {xs = us} {ys = vs} h i xs) =
          subst (λ n. NumbersExp there (x.Member at a name us) (e.Member at (marked_exp u.singles z) n (marked_exps u.singles vs)))
          (name_same r site.text name) (number.member (before_dot_same site a ∙ h) (exp_there a z i) (exps_there us vs xs))
      exp_there o y (number.class_call {x = a} {name = name} {class = class} h i xs) =
          number.class_call (before_dot_same site a ∙ h) (static_method_same site class name ∙ i) (exps_there _ _ xs)
      exp_there o y (number.index h xs) = number.index (exp_there _ _ h) (exps_there _ _ xs)

      exps_there : (es : Exps) (ys : NumberedExps) → NumbersExps site es ys → NumbersExps there es (marked_exps u.singles ys)
      exps_there es ys number.no_exps = number.no_exps
      exps_there es ys (number.more_exps h rest) = number.more_exps (exp_there _ _ h) (exps_there _ _ rest)

      range_there : (q : RangeTree) (z : NumberedRange) → NumbersRange site q z → NumbersRange there q (marked_range u.singles z)
      range_there q z (number.plain h i) = number.plain (exp_there _ _ h) (exp_there _ _ i)
      range_there q z (number.stepped h i j) = number.stepped (exp_there _ _ h) (exp_there _ _ i) (exp_there _ _ j)

      ranges_there : (qs : RangeTrees) (zs : NumberedRanges) → NumbersRanges site qs zs
          → NumbersRanges there qs (marked_ranges u.singles zs)
      ranges_there qs zs number.no_ranges = number.no_ranges
      ranges_there qs zs (number.more_ranges h rest) = number.more_ranges (range_there _ _ h) (ranges_there _ _ rest)

    maybe_there : (o : Option Exp) (z : Option NumberedExp) → NumbersMaybe site o z
        → NumbersMaybe there o (option_map (marked_exp u.singles) z)
    maybe_there o z number.none = number.none
    maybe_there o z (number.some h) = number.some (exp_there _ _ h)

    ranges_of_map : (qs : List NumberedRange)
        → numbered_ranges (map (marked_range u.singles) qs) ≡ marked_ranges u.singles (numbered_ranges qs)
    ranges_of_map [] = refl
    ranges_of_map (q ∷ qs) = ap (e.MoreRange (marked_range u.singles q)) (ranges_of_map qs)

    dims_there : (d : DimsTree) (z : NumberedDims) → NumbersDims site d z → NumbersDims there d (marked_dims u.singles z)
    dims_there d z (number.domain h) = number.domain (exp_there _ _ h)
    dims_there d z (number.ranges {rs = rs} {qs = qs} h) =
        number.ranges (subst (NumbersRanges there (x.ranges_tree rs)) (sym (ranges_of_map qs)) (ranges_there _ _ h))

    init_there : (v : InitTree) (z : NumberedInit) → NumbersInit site v z → NumbersInit there (remarked_init r v) (restated_init u z)
    init_there v z (number.value h) = number.value (exp_there _ _ h)
    init_there v z number.new_region = number.new_region
    init_there v z (number.new_object {name = name} h i) = number.new_object (maybe_there _ _ h) (class_same r site.text name ∙ i)
    init_there v z (number.new_grid h i d) = number.new_grid (maybe_there _ _ h) (numbers_inner site.text _ _ i) (dims_there _ _ d)
    init_there v z (number.broadcast h i) = number.broadcast (exp_there _ _ h) (exp_there _ _ i)

    print_there : (v : PrintTree) (z : NumberedPrint) → NumbersPrint site v z → NumbersPrint there v (marked_print u.singles z)
    print_there v z number.nothing = number.nothing
    print_there v z number.text = number.text
    print_there v z (number.expression h) = number.expression (exp_there _ _ h)
    print_there v z (number.text_and_expression h) = number.text_and_expression (exp_there _ _ h)

  -- ---- the sites behind

  mutual
    past_same : (site : Site) (y : Stm) → past (site_there site) (remarked_stm r y) ≡ site_there (past site y)
    past_same site (s.Block body) = past_all_same site body
    past_same site (s.If at a y) = past_same site y
    past_same site (s.IfElse at a y z) = ap (λ l. past l (remarked_stm r z)) (past_same site y) ∙ past_same (past site y) z
    past_same site (s.While at a body) = past_same site body
    past_same site (s.For at first a update body) =
        ap (λ l. past (past_maybe l (remarked_maybe r update)) (remarked_stm r body)) (past_maybe_same site first)
        ∙ ap (λ l. past l (remarked_stm r body)) (past_maybe_same (past_maybe site first) update)
        ∙ past_same (past_maybe (past_maybe site first) update) body
    past_same site (s.Foreach at name_at name domain body) = past_same (scopes.past_variable site) body
    past_same site _ = refl

    past_maybe_same : (site : Site) (y : MaybeStm) → past_maybe (site_there site) (remarked_maybe r y) ≡ site_there (past_maybe site y)
    past_maybe_same site s.NoStm = refl
    past_maybe_same site (s.SomeStm y) = past_same site y

    past_all_same : (site : Site) (ys : Stms) → past_all (site_there site) (remarked_all r ys) ≡ site_there (past_all site ys)
    past_all_same site s.Nil = refl
    past_all_same site (s.Cons y rest) = ap (λ l. past_all l (remarked_all r rest)) (past_same site y) ∙ past_all_same (past site y) rest

  -- behind a statement whose declarations become what they are to
  behind_same : (site : Site) (a : Stm) (y : NumberedStm) → NumbersStm site a y → AreFine u r y
      → site_after (site_there site) (remarked_stm r a) ≡ site_there (site_after site a)
  behind_same site a y (number.declare {at = at} {ty = type} {name = name} (number.known w) fresh room v) f =
      behind_declared site at type name f.1
  behind_same site a y (number.block {xs = xs} h) f = past_same site (s.Block xs)
  behind_same site a y (number.if_alone {at = at} {c = g} {x = b} h i) f = past_same site (s.If at g b)
  behind_same site a y (number.if_else {at = at} {c = g} {a = b} {b = d} h i j) f = past_same site (s.IfElse at g b d)
  behind_same site a y (number.while {at = at} {c = g} {x = b} h i) f = past_same site (s.While at g b)
  behind_same site a y (number.for {at = at} {first = first} {update = update} {c = g} {x = b} h i j l) f =
      past_same site (s.For at first g update b)
  behind_same site a y (number.foreach {at = at} {name_at = name_at} {name = name} {c = g} {x = b} fresh room h i) f =
      past_same site (s.Foreach at name_at name g b)
  behind_same site a y (number.print h) f = refl
  behind_same site a y number.empty f = refl
  behind_same site a y (number.assign h v) f = refl
  behind_same site a y (number.update h i) f = refl
  behind_same site a y (number.step h) f = refl
  behind_same site a y (number.call h) f = refl
  behind_same site a y number.barrier f = refl
  behind_same site a y number.break f = refl
  behind_same site a y number.continue f = refl
  behind_same site a y (number.return h) f = refl

  behind_maybe_same : (site : Site) (a : MaybeStm) (y : MaybeNumbered) → NumbersMaybeStm site a y → MaybeFine u r y
      → behind_maybe (site_there site) (remarked_maybe r a) ≡ site_there (behind_maybe site a)
  behind_maybe_same site a y number.no_stm f = refl
  behind_maybe_same site a y (number.some_stm h) f = behind_same site _ _ h f

  -- ---- statements

  mutual
    stm_there : (site : Site) (a : Stm) (y : NumberedStm) → NumbersStm site a y → AreFine u r y
        → NumbersStm (site_there site) (remarked_stm r a) (restated u y)
    stm_there site a y number.empty f = number.empty
    stm_there site a y (number.declare {at = at} {name = name} type fresh room v) f =
        number.declare (numbers_declared site.text at site.variables _ _ f type) (fresh_same site name fresh) (room_same site room)
        (init_there site _ _ v)
    stm_there site a y (number.assign h v) f = number.assign (exp_there site _ _ h) (init_there site _ _ v)
    stm_there site a y (number.update h i) f = number.update (exp_there site _ _ h) (exp_there site _ _ i)
    stm_there site a y (number.step h) f = number.step (exp_there site _ _ h)
    stm_there site a y (number.call h) f = number.call (exp_there site _ _ h)
    stm_there site a y (number.print h) f = number.print (print_there site _ _ h)
    stm_there site a y number.barrier f = number.barrier
    stm_there site a y number.break f = number.break
    stm_there site a y number.continue f = number.continue
    stm_there site a y (number.return h) f = number.return (maybe_there site _ _ h)
    stm_there site a y (number.block h) f = number.block (stms_there site _ _ h f)
    stm_there site a y (number.if_alone g h) f = number.if_alone (exp_there site _ _ g) (stm_there site _ _ h f)
    stm_there site a y (number.if_else {a = b} {b = v} {y = z} g h i) f =
        number.if_else (exp_there site _ _ g) (stm_there site _ _ h f.0)
        (subst (λ l. NumbersStm l (remarked_stm r v) (restated u z)) (sym (past_same site b)) (stm_there (past site b) v z i f.1))
    stm_there site a y (number.while g h) f = number.while (exp_there site _ _ g) (stm_there site _ _ h f)
    stm_there site a y (number.for {first = first} {update = update} {f = begun} {u = changed} {c = g} {d = d} {x = v} {y = z} h i j w) f =
        let next = behind_maybe site first in
        let is : site_there next ≡ behind_maybe (site_there site) (remarked_maybe r first) =
        sym (behind_maybe_same site first begun h f.0) in
        number.for (maybe_stm_there site _ _ h f.0)
        (subst (λ l. NumbersMaybe l g (option_map (marked_exp u.singles) d)) is (maybe_there next g d i))
        (subst (λ l. NumbersMaybeStm l (remarked_maybe r update) (restated_maybe u changed)) is (maybe_stm_there next update changed j f.1))
        (subst (λ l. NumbersStm l (remarked_stm r v) (restated u z)) (sym (past_maybe_same next update)
        ∙ ap (λ l. past_maybe l (remarked_maybe r update)) is) (stm_there (past_maybe next update) v z w f.2))
    stm_there site a y (number.foreach {name = name} {x = v} {y = z} fresh room g h) f =
        number.foreach (fresh_same site name fresh) (room_same site room) (exp_there site _ _ g)
        (subst (λ l. NumbersStm l (remarked_stm r v) (restated u z)) (sym (declares_same site name Foreach)) (stm_there (declares site name Foreach) v z h f))

    maybe_stm_there : (site : Site) (a : MaybeStm) (y : MaybeNumbered) → NumbersMaybeStm site a y → MaybeFine u r y
        → NumbersMaybeStm (site_there site) (remarked_maybe r a) (restated_maybe u y)
    maybe_stm_there site a y number.no_stm f = number.no_stm
    maybe_stm_there site a y (number.some_stm h) f = number.some_stm (stm_there site _ _ h f)

    pub stms_there : (site : Site) (trees : Stms) (ys : NumberedStms) → NumbersStms site trees ys → AllFine u r ys
        → NumbersStms (site_there site) (remarked_all r trees) (restated_all u ys)
    stms_there site trees ys number.nil f = number.nil
    stms_there site trees ys (number.cons {x = a} {y = y} {xs = us} {ys = vs} h rest) f =
        number.cons (stm_there site _ _ h f.0)
        (subst (λ l. NumbersStms l (remarked_all r us) (restated_all u vs)) (sym (behind_same site a y h f.0)) (stms_there (site_after site a) us vs rest f.1))

  pub restated_map : (ys : List NumberedStm) → restated_all u (numbered_stms ys) ≡ numbered_stms (map (restated u) ys)
  restated_map [] = refl
  restated_map (y ∷ ys) = ap (m.Cons (restated u y)) (restated_map ys)

  -- ---- classes

  abbrev pub restated_field : NumberedField → NumberedField
  restated_field g = record g { modifiers = r.fields g.modifiers; ty = u.ty g.ty }

  abbrev pub restated_class : NumberedClass → NumberedClass
  restated_class d = record d { fields = map restated_field d.fields }

  fields_there : (text : TextTree) (class n : ℕ) (fs : List FieldTree) (gs : List NumberedField) → NumbersFields text class n fs gs
      → NumbersFields (remarked_text r text) class n (map (remarked_field r) fs) (map restated_field gs)
  fields_there text class n fs gs number.none = number.none
  fields_there text class n fs gs (number.more {f = f} {type = type} {fs = us} {gs = vs} h t rest) =
      subst (λ l. NumbersFields (remarked_text r text) class n (map (remarked_field r) (f ∷ us))
      (record { modifiers = r.fields f.modifiers; ty = u.ty type; name = l } ∷ map restated_field vs)) (name_same r text f.name)
      (number.more (field_same r text class f.name ∙ h) (numbers_inner text f.ty type t) (fields_there text class (n + 1) us vs rest))

  pub classes_there : (text : TextTree) (n : ℕ) (cs : List ClassTree) (ds : List NumberedClass) → NumbersClasses text n cs ds
      → NumbersClasses (remarked_text r text) n (map (remarked_class r) cs) (map restated_class ds)
  classes_there text n cs ds number.none = number.none
  classes_there text n cs ds (number.more {c = d} {gs = gs} h fs rest) =
      number.more (class_same r text d.name ∙ h)
      (subst (λ l. NumbersFields (remarked_text r text) n 0 l (map restated_field gs)) (sym (fields_same r d.members)) (fields_there text n 0 (fields_in d.members) gs fs))
      (classes_there text (n + 1) _ _ rest)

  -- ---- methods

  param_list_there : (site : Site) (ps : List ParamTree) (ys : List NumberedParam) → NumbersParamList site ps ys
      → ParamsFine u r site.variables ys
      → NumbersParamList (site_there site) (map (remarked_param r) ps) (map (restated_param u) ys)
  param_list_there site ps ys number.none f = number.none
  param_list_there site ps ys (number.more {param = param} {params = us} {ys = vs} (number.known w) fresh room rest) f =
      number.more (numbers_declared site.text param.place site.variables _ _ f.0 (number.known w)) (fresh_same site param.name fresh)
      (room_same site room)
      (subst (λ l. NumbersParamList l (map (remarked_param r) us) (map (restated_param u) vs)) (sym (behind_declared site param.place param.ty param.name f.0.1))
      (param_list_there (declares site param.name (typed_as site.text param.ty)) us vs rest f.1))

  behind_params_same : (site : Site) (ps : List ParamTree) (ys : List NumberedParam) → NumbersParamList site ps ys
      → ParamsFine u r site.variables ys
      → behind_params (site_there site) (map (remarked_param r) ps) ≡ site_there (behind_params site ps)
  behind_params_same site ps ys number.none f = refl
  behind_params_same site ps ys (number.more {param = param} {params = us} {ys = vs} (number.known w) fresh room rest) f =
      ap (λ l. behind_params l (map (remarked_param r) us)) (behind_declared site param.place param.ty param.name f.0.1)
      ∙ behind_params_same (declares site param.name (typed_as site.text param.ty)) us vs rest f.1

  -- those of a method become what they are to
  abbrev pub HeadFine : Site → NumberedParams → Type 0
  HeadFine site MainArgs = Unit {0}
  HeadFine site (Params ws) = ParamsFine u r site.variables ws

  pub params_there : (site : Site) (ps : ParamsTree) (ys : NumberedParams) → NumbersParams site ps ys → HeadFine site ys
      → NumbersParams (site_there site) (remarked_params r ps) (restated_params u ys)
  params_there site ps ys number.words f = number.words
  params_there site ps ys (number.params h) f = number.params (param_list_there site _ _ h f)

  pub body_site_same : (site : Site) (ps : ParamsTree) (ys : NumberedParams) → NumbersParams site ps ys → HeadFine site ys
      → body_site (site_there site) (remarked_params r ps) ≡ site_there (body_site site ps)
  body_site_same site ps ys number.words f = refl
  body_site_same site ps ys (number.params h) f = behind_params_same site _ _ h f

  pub method_site_same : (text : TextTree) (own : OwnMethod) (before : ℕ)
      → method_site (remarked_text r text) (remarked_own r own) before ≡ site_there (method_site text own before)
  method_site_same text own before =
      ap (λ (b : Bool). record { text = remarked_text r text; class = own.class; static = b; scope = []; variables = 0; literals = before })
      (static_kept r k own.method)

-- ---- `main`

module _ (r : Remarking) where
  words_same : (ps : ParamsTree) → is_words (remarked_params r ps) ≡ is_words ps
  words_same (c.MainArgs at name) = refl
  words_same (c.Params ps) = refl

  void_same : (place : Place) (y : ResultTree) → is_void (remarked_result r place y) ≡ is_void y
  void_same place (c.Void at) = refl
  void_same place (c.Typed type) = refl

  -- a method that keeps its words keeps the form of `main`
  pub form_same : (y : MethodTree) → r.methods y.params y.place y.modifiers ≡ y.modifiers
      → has_main_form (remarked_method r y) ≡ has_main_form y
  form_same y h =
      ap₂ (λ (ms : List Modifier) (b : Bool). has_main_modifiers (record y { modifiers = ms }) && b) h
      (ap₂ (λ a d. a && d) (void_same y.place y.result) (words_same y.params))

  -- `main` stays where it has the form
  pub main_there : (text : TextTree) (n : ℕ) (h : HasMain text n) → has_main_form (remarked_method r h.own.method) ≡ true
      → HasMain (remarked_text r text) n
  main_there text n h form = record {
    class = h.class;
    is_class = class_same r text (codes "Main") ∙ h.is_class;
    is_method = method_same r text h.class (codes "main") ∙ h.is_method;
    own = remarked_own r h.own;
    stands =
        ap (λ os. slice_get os n) (methods_same r text) ∙ slice_get-map (remarked_own r) (methods_of text) n
        ∙ ap (option_map (remarked_own r)) h.stands;
    form = form;
    alone =
        λ i other stands words. by i other words (slice_get (methods_of text) i) refl
        (sym (ap (λ os. slice_get os i) (methods_same r text) ∙ slice_get-map (remarked_own r) (methods_of text) i) ∙ stands);
  }
    where
      by : (i : ℕ) (other : OwnMethod) → is_words other.method.params ≡ true → (o : Option OwnMethod) → slice_get (methods_of text) i ≡ o
          → option_map (remarked_own r) o ≡ Some other → i ≡ n
      by i other words None e z = absurd (none_some other z)
        where
          none_some : (a : OwnMethod) → ◌≡◌ {A = Option OwnMethod} None (Some a) → ⊥
          none_some a e = cc
      by i other words (Some own) e z =
          h.alone i own e
          (sym (words_same own.method.params) ∙ ap (λ (o : OwnMethod). is_words o.method.params) (some_same (remarked_own r own) other z) ∙ words)
        where
          some_same : (a d : OwnMethod) → ◌≡◌ {A = Option OwnMethod} (Some a) (Some d) → a ≡ d
          some_same a d e = cc
