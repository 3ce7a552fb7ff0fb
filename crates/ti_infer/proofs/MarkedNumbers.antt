-- The marked program of the stripped program of some source is the result of name resolution: of that source with `single` where there
-- are annotations.
use Rattle.std.proofs.Common.{◌≡◌, ℕ, zero, suc, ◌+◌, ◌≤◌, ◌==◌, Bool, true, false, ◌||◌, if◌then◌else◌, List, [], ◌∷◌, ◌++◌, map, length, slice_get, option_map, Option, Some, None, refl, ap, ap₂, sym, ◌∙◌, subst, arith, eq-eqb, append-nil}
use Rattle.std.proofs.Math.Logic.{∥∥₁_map}
use Rattle.std.specs.Option.{option_or, option_map_or}
use Rattle.std.proofs.lemmas.List.Folds.{list_any-append}
use Rattle.ti_base.specs.declared.place.Place.{Place}
use Rattle.ti_syntax.specs.declared.tree.types.Qualifier.{Qualifier}
use Rattle.ti_syntax.specs.declared.tree.types.QualifierWord.TheVariants as qualifier
use Rattle.ti_syntax.specs.declared.tree.classes.Modifier.{Modifier}
use Rattle.ti_syntax.specs.declared.tree.classes.ModifierWord.TheVariants as modifier
use Rattle.ti_syntax.specs.Trees.Types.{GridTree}
use Rattle.ti_syntax.specs.Trees.Statements.{Stm, MaybeStm, Stms, stms}
use Rattle.ti_syntax.specs.Trees.Classes.{ParamsTree, ResultTree, TextTree}
use Rattle.ti_lang.specs.Members as members
use Rattle.ti_lang.specs.Members.{OwnMethod, methods_of, is_single, name_number}
use Rattle.ti_lang.specs.Scopes as scopes
use Rattle.ti_lang.specs.Scopes.{has_single, has_local, literals_in, Site, declares, past, past_maybe, site_after, behind_maybe, behind_params, method_site, body_site}
use Rattle.ti_lang.specs.Program.Types.{NumberedType, Foreach}
use Rattle.ti_lang.specs.Program.Statements.{NumberedInit, NumberedStm, MaybeNumbered, NumberedStms, numbered_stms}
use Rattle.ti_lang.specs.Program.Statements as m
use Rattle.ti_lang.specs.Program.Classes.{NumberedField, NumberedClass, NumberedParam, NumberedParams, MainArgs, Params, NumberedResult, NumberedMethod, ProgramView}
use Rattle.ti_lang.specs.Program.Classes as c
use Rattle.ti_lang.specs.Numbering as number
use Rattle.ti_lang.specs.Numbering.{NumbersType, NumbersStm, NumbersMaybeStm, NumbersStms, NumbersClasses, NumbersResult, NumbersParams, NumbersMethod, NumbersMethods, HasMain, Numbers, IsNumbered}
use Rattle.ti_blame.specs.Marks.{Marks}
use Rattle.ti_infer.specs.Marks.{params_place, declared_place, declared_place_maybe, declared_place_all, variable_place, marks_variable}
use Rattle.ti_infer.specs.Remarked.{Remarking, remarked_grid, remarked_type, remarked_stm, remarked_all, remarked_params, remarked_result, remarked_text}
use Rattle.ti_infer.specs.Marked.{marked_type, marked_exp, marked_init, marked_stm, marked_maybe, marked_stms, marked_params, marked_result, marked_method, marked, marks_main}
use Rattle.ti_infer.specs.Stripped.{plain_type, plain_stm, plain_maybe, plain_stms, plain_params, plain_result, plain_methods, stripped}
use Rattle.ti_infer.proofs.Respelled.{respelled}
use Rattle.ti_infer.proofs.Refound.{any_static, IsMild, remarked_own, methods_same, method_same, names_same, name_same, remarked_map, body_literals, text_literals}
use Rattle.ti_infer.proofs.Renumbered.{retyped, Restating, restated, restated_init, restated_maybe, restated_all, restated_params}
use Rattle.ti_infer.proofs.Renumbered.{restated_field, restated_class, IsFine, AreFine, MaybeFine, AllFine, ParamsFine, AreRetyped}
use Rattle.ti_infer.proofs.Renumbered.{numbers_type, site_there, stms_there, restated_map, classes_there, HeadFine, params_there}
use Rattle.ti_infer.proofs.Renumbered.{body_site_same, method_site_same, form_same, main_there}
use Rattle.ti_infer.proofs.Declaring.{count, count_maybe, count_all, past_counted, past_maybe_counted, behind_counted, behind_maybe_counted, params_counted, AreAlike, first_alike, rest_alike, both_within, stm_within, maybe_within, stms_within}
use Rattle.ti_infer.proofs.Stripping.{no_single}

-- ---- words

-- the word, where something is marked
abbrev qualifier_at : Bool → Place → List Qualifier
qualifier_at b at = if b then record { word = qualifier.Single; place = at } ∷ [] else []

abbrev modifier_at : Bool → Place → List Modifier
modifier_at b at = if b then record { word = modifier.Single; place = at } ∷ [] else []

-- the words of a text with `single` behind those of what is marked
abbrev marking : Marks → Remarking
marking marks = record {
  words = λ qs. qs;
  declared = λ at qs. qs ++ qualifier_at (marks.variables at) at;
  results = λ at qs. qs ++ qualifier_at (marks.results at) at;
  fields = λ ms. ms;
  methods = λ params at ms. ms ++ modifier_at (marks.methods at) at;
}

or_false : (a : Bool) → (a || false) ≡ a
or_false true = refl
or_false false = refl

single_with : (qs : List Qualifier) (b : Bool) (at : Place) → has_single (qs ++ qualifier_at b at) ≡ (has_single qs || b)
single_with qs b at =
    list_any-append (λ (q : Qualifier). scopes.is_single_word q.word) qs (qualifier_at b at) ∙ ap (λ z. has_single qs || z) (by b)
  where
    by : (b : Bool) → has_single (qualifier_at b at) ≡ b
    by true = refl
    by false = refl

local_with : (qs : List Qualifier) (b : Bool) (at : Place) → has_local (qs ++ qualifier_at b at) ≡ has_local qs
local_with qs b at = by b
  where
    by : (b : Bool) → has_local (qs ++ qualifier_at b at) ≡ has_local qs
    by true = list_any-append _ qs (qualifier_at true at) ∙ or_false (has_local qs)
    by false = list_any-append _ qs (qualifier_at false at) ∙ or_false (has_local qs)

single_method_with : (ms : List Modifier) (b : Bool) (at : Place) → is_single (ms ++ modifier_at b at) ≡ (is_single ms || b)
single_method_with ms b at =
    list_any-append (λ (k : Modifier). members.is_single_word k.word) ms (modifier_at b at) ∙ ap (λ z. is_single ms || z) (by b)
  where
    by : (b : Bool) → is_single (modifier_at b at) ≡ b
    by true = refl
    by false = refl

static_with : (ms : List Modifier) (b : Bool) (at : Place) → any_static (ms ++ modifier_at b at) ≡ any_static ms
static_with ms b at = by b
  where
    by : (b : Bool) → any_static (ms ++ modifier_at b at) ≡ any_static ms
    by true = list_any-append _ ms (modifier_at true at) ∙ or_false (any_static ms)
    by false = list_any-append _ ms (modifier_at false at) ∙ or_false (any_static ms)

mild : (marks : Marks) → IsMild (marking marks)
mild marks = record {
  words = λ qs. refl;
  declared = λ at qs. local_with qs (marks.variables at) at;
  results = λ at qs. local_with qs (marks.results at) at;
  methods = λ params at ms. static_with ms (marks.methods at) at;
}

grids_same : (marks : Marks) (gs : List GridTree) → map (remarked_grid (marking marks)) gs ≡ gs
grids_same marks [] = refl
grids_same marks (g ∷ gs) = ap (λ hs. g ∷ hs) (grids_same marks gs)

-- ---- what bears no word

abbrev mutual
  -- no declared type in a statement has the word
  IsPlain : NumberedStm → Type 0
  IsPlain (m.Declare at type variable value) = has_single type.qualifiers ≡ false
  IsPlain (m.Block body) = AllPlain body
  IsPlain (m.If at c a) = IsPlain a
  IsPlain (m.IfElse at c a b) = IsPlain a × IsPlain b
  IsPlain (m.While at c body) = IsPlain body
  IsPlain (m.For at first c update body) = MaybePlain first × MaybePlain update × IsPlain body
  IsPlain (m.Foreach at variable domain body) = IsPlain body
  IsPlain a = Unit {0}

  MaybePlain : MaybeNumbered → Type 0
  MaybePlain m.NoStm = Unit {0}
  MaybePlain (m.SomeStm a) = IsPlain a

  AllPlain : NumberedStms → Type 0
  AllPlain m.Nil = Unit {0}
  AllPlain (m.Cons a rest) = IsPlain a × AllPlain rest

abbrev ParamsPlain : List NumberedParam → Type 0
ParamsPlain [] = Unit {0}
ParamsPlain (w ∷ ws) = (has_single w.ty.qualifiers ≡ false) × ParamsPlain ws

abbrev HeadPlain : NumberedParams → Type 0
HeadPlain MainArgs = Unit {0}
HeadPlain (Params ws) = ParamsPlain ws

abbrev ResultPlain : NumberedResult → Type 0
ResultPlain c.Void = Unit {0}
ResultPlain (c.Typed type) = has_single type.qualifiers ≡ false

abbrev MethodPlain : NumberedMethod → Type 0
MethodPlain n = ResultPlain n.result × HeadPlain n.params × AllPlain (numbered_stms n.body)

abbrev MethodsPlain : List NumberedMethod → Type 0
MethodsPlain [] = Unit {0}
MethodsPlain (n ∷ ns) = MethodPlain n × MethodsPlain ns

mutual
  stm_plain : (y : NumberedStm) → IsPlain (plain_stm y)
  stm_plain (m.Declare at type variable value) = no_single type.qualifiers
  stm_plain (m.Block body) = stms_plain body
  stm_plain (m.If at c a) = stm_plain a
  stm_plain (m.IfElse at c a b) = (stm_plain a, stm_plain b)
  stm_plain (m.While at c body) = stm_plain body
  stm_plain (m.For at first c update body) = (maybe_plain first, maybe_plain update, stm_plain body)
  stm_plain (m.Foreach at variable domain body) = stm_plain body
  stm_plain _ = tt

  maybe_plain : (y : MaybeNumbered) → MaybePlain (plain_maybe y)
  maybe_plain m.NoStm = tt
  maybe_plain (m.SomeStm a) = stm_plain a

  stms_plain : (ys : NumberedStms) → AllPlain (plain_stms ys)
  stms_plain m.Nil = tt
  stms_plain (m.Cons a rest) = (stm_plain a, stms_plain rest)

body_plain : (ys : List NumberedStm) → AllPlain (numbered_stms (map plain_stm ys))
body_plain [] = tt
body_plain (y ∷ ys) = (stm_plain y, body_plain ys)

params_plain : (ws : List NumberedParam) → ParamsPlain (map (λ (w : NumberedParam). record w { ty = plain_type w.ty }) ws)
params_plain [] = tt
params_plain (w ∷ ws) = (no_single w.ty.qualifiers, params_plain ws)

head_plain : (ps : NumberedParams) → HeadPlain (plain_params ps)
head_plain MainArgs = tt
head_plain (Params ws) = params_plain ws

result_plain : (r : NumberedResult) → ResultPlain (plain_result r)
result_plain c.Void = tt
result_plain (c.Typed type) = no_single type.qualifiers

methods_plain : (main n : ℕ) (ns : List NumberedMethod) → MethodsPlain (plain_methods main n ns)
methods_plain main n [] = tt
methods_plain main n (y ∷ ns) = ((result_plain y.result, head_plain y.params, body_plain y.body), methods_plain main (n + 1) ns)

-- ---- what numbered parts become

abbrev marked_so : Marks → (ℕ → Bool) → Restating
marked_so marks singles = record { ty = λ t. t; declared = λ at. marked_type (marks.variables at) at; singles = singles }

types : (marks : Marks) (singles : ℕ → Bool) → AreRetyped (marked_so marks singles) (marking marks)
types marks singles v y =
    ap (λ (gs : List GridTree). record { type = v; is_single = has_single y.qualifiers; qualifiers = y.qualifiers; grids = gs })
    (sym (grids_same marks y.grids))

single_where : (type : NumberedType) (b : Bool) (at : Place) → has_single type.qualifiers ≡ false
    → has_single (type.qualifiers ++ qualifier_at b at) ≡ b
single_where type b at h = single_with type.qualifiers b at ∙ ap (λ z. z || b) h

marked_retyped : (marks : Marks) (type : NumberedType) (b : Bool) (at : Place) → has_single type.qualifiers ≡ false
    → marked_type b at type ≡ retyped (marking marks) (λ qs. qs ++ qualifier_at b at) type
marked_retyped marks type b at h =
    ap₂ (λ (d : Bool) (gs : List GridTree). record { type = type.type; is_single = d; qualifiers = type.qualifiers ++ qualifier_at b at; grids = gs })
    (sym (single_where type b at h)) (sym (grids_same marks type.grids))

module _ (marks : Marks) (singles : ℕ → Bool) where
  init_marked : (v : NumberedInit) → restated_init (marked_so marks singles) v ≡ marked_init singles v
  init_marked (m.Value a) = refl
  init_marked (m.NewRegion at) = refl
  init_marked (m.NewObject at region class) = refl
  init_marked (m.NewGrid at region element dims_at dims) = refl
  init_marked (m.Broadcast at a root) = refl

  mutual
    stm_marked : (y : NumberedStm) → restated (marked_so marks singles) y ≡ marked_stm singles marks.variables y
    stm_marked (m.Declare at type variable value) =
        ap (m.Declare at (marked_type (marks.variables at) at type) variable) (init_marked value)
    stm_marked (m.Assign at target value) = ap (m.Assign at (marked_exp singles target)) (init_marked value)
    stm_marked (m.Block body) = ap m.Block (stms_marked body)
    stm_marked (m.If at c a) = ap (m.If at (marked_exp singles c)) (stm_marked a)
    stm_marked (m.IfElse at c a b) = ap₂ (m.IfElse at (marked_exp singles c)) (stm_marked a) (stm_marked b)
    stm_marked (m.While at c body) = ap (m.While at (marked_exp singles c)) (stm_marked body)
    stm_marked (m.For at first c update body) =
        ap₂ (λ a b. m.For at a (option_map (marked_exp singles) c) b (restated (marked_so marks singles) body)) (maybe_marked first)
        (maybe_marked update)
        ∙ ap (m.For at (marked_maybe singles marks.variables first) (option_map (marked_exp singles) c) (marked_maybe singles marks.variables update)) (stm_marked body)
    stm_marked (m.Foreach at variable domain body) = ap (m.Foreach at variable (marked_exp singles domain)) (stm_marked body)
    stm_marked _ = refl

    maybe_marked : (y : MaybeNumbered) → restated_maybe (marked_so marks singles) y ≡ marked_maybe singles marks.variables y
    maybe_marked m.NoStm = refl
    maybe_marked (m.SomeStm a) = ap m.SomeStm (stm_marked a)

    stms_marked : (ys : NumberedStms) → restated_all (marked_so marks singles) ys ≡ marked_stms singles marks.variables ys
    stms_marked m.Nil = refl
    stms_marked (m.Cons a rest) = ap₂ m.Cons (stm_marked a) (stms_marked rest)

  body_marked : (ys : List NumberedStm) → map (restated (marked_so marks singles)) ys ≡ map (marked_stm singles marks.variables) ys
  body_marked [] = refl
  body_marked (y ∷ ys) = ap₂ (λ z zs. z ∷ zs) (stm_marked y) (body_marked ys)

  params_marked : (ps : NumberedParams) → restated_params (marked_so marks singles) ps ≡ marked_params marks ps
  params_marked MainArgs = refl
  params_marked (Params ws) = refl

  fields_kept : (gs : List NumberedField)
      → map (restated_field (marking marks) (mild marks) (marked_so marks singles) (types marks singles)) gs ≡ gs
  fields_kept [] = refl
  fields_kept (g ∷ gs) = ap (λ hs. g ∷ hs) (fields_kept gs)

  classes_kept : (ds : List NumberedClass)
      → map (restated_class (marking marks) (mild marks) (marked_so marks singles) (types marks singles)) ds ≡ ds
  classes_kept [] = refl
  classes_kept (d ∷ ds) =
      ap₂ (λ (gs : List NumberedField) (es : List NumberedClass). record { modifiers = d.modifiers; fields = gs } ∷ es)
      (fields_kept d.fields) (classes_kept ds)

-- ---- declarations

-- the places of the variables of a method by their numbers
module _ (marks : Marks) (places : ℕ → Option Place) where
  abbrev singles_at : ℕ → Bool
  singles_at number = option_map_or marks.variables (places number) false

  abbrev method_so : Restating
  method_so = marked_so marks singles_at

  fine : (at : Place) (type : NumberedType) (variable : ℕ) → has_single type.qualifiers ≡ false → places variable ≡ Some at
      → IsFine method_so (marking marks) at type variable
  fine at type variable h f =
      (marked_retyped marks type (marks.variables at) at h, single_where type (marks.variables at) at h ∙ sym (ap (λ (o : Option Place). option_map_or marks.variables o false) f))

  at_itself : (variable : ℕ) (at : Place) → AreAlike places variable 1 (λ n. if variable == n then Some at else None)
      → places variable ≡ Some at
  at_itself variable at f =
      f variable (omega arith) (omega arith) ∙ ap (λ (b : Bool). if b then Some at else None) (eq-eqb variable variable refl)

  mutual
    stm_fine : (site : Site) (a : Stm) (y : NumberedStm) → NumbersStm site a y → IsPlain y
        → AreAlike places site.variables (count a) (declared_place y) → AreFine method_so (marking marks) y
    stm_fine site a y (number.declare {at = at} {type = type} t fresh room v) h f =
        fine at type site.variables h (at_itself site.variables at f)
    stm_fine site a y (number.block i) h f = stms_fine site _ _ i h f
    stm_fine site a y (number.if_alone g i) h f = stm_fine site _ _ i h f
    stm_fine site a y (number.if_else {a = b} {b = d} {x = v} {y = z} g i j) h f =
        let next = (past site b).variables in
        let is = past_counted site b in (
          stm_fine site b v i h.0
              (first_alike site.variables next (count b) (count d) is (declared_place v) (declared_place z) places f (stm_within (past site b) d z j)),
          stm_fine (past site b) d z j h.1
              (rest_alike site.variables next (count b) (count d) is (declared_place v) (declared_place z) places f (stm_within site b v i)),
        )
    stm_fine site a y (number.while g i) h f = stm_fine site _ _ i h f
    stm_fine site a y (number.for {first = first} {update = update} {f = begun} {u = changed} {x = v} {y = z} i o j w) h f =
        let next = behind_maybe site first in
        let last = past_maybe next update in
        let is = behind_maybe_counted site first in
        let so = past_maybe_counted next update in
        let rest : ℕ → Option Place = λ n. option_or (declared_place_maybe changed n) (declared_place z n) in
        let later = maybe_within next update changed j in
        let inner = stm_within last v z w in
        let within =
        both_within next.variables last.variables (count_maybe update) (count v) so (declared_place_maybe changed)
        (declared_place z) later inner in
        let others =
        rest_alike site.variables next.variables (count_maybe first) (count_maybe update + count v) is
        (declared_place_maybe begun) rest places f (maybe_within site first begun i) in (
          maybe_fine site first begun i h.0
              (first_alike site.variables next.variables (count_maybe first) (count_maybe update + count v) is (declared_place_maybe begun) rest places f within),
          maybe_fine next update changed j h.1
              (first_alike next.variables last.variables (count_maybe update) (count v) so (declared_place_maybe changed) (declared_place z) places others inner),
          stm_fine last v z w h.2
              (rest_alike next.variables last.variables (count_maybe update) (count v) so (declared_place_maybe changed) (declared_place z) places others later),
        )
    stm_fine site a y (number.foreach {name = name} {x = v} {y = z} fresh room g i) h f =
        stm_fine (declares site name Foreach) v z i h (λ n more less. f n (omega arith) (omega arith))
    stm_fine site a y number.empty h f = tt
    stm_fine site a y (number.assign i v) h f = tt
    stm_fine site a y (number.update i j) h f = tt
    stm_fine site a y (number.step i) h f = tt
    stm_fine site a y (number.call i) h f = tt
    stm_fine site a y (number.print i) h f = tt
    stm_fine site a y number.barrier h f = tt
    stm_fine site a y number.break h f = tt
    stm_fine site a y number.continue h f = tt
    stm_fine site a y (number.return i) h f = tt

    maybe_fine : (site : Site) (a : MaybeStm) (y : MaybeNumbered) → NumbersMaybeStm site a y → MaybePlain y
        → AreAlike places site.variables (count_maybe a) (declared_place_maybe y) → MaybeFine method_so (marking marks) y
    maybe_fine site a y number.no_stm h f = tt
    maybe_fine site a y (number.some_stm i) h f = stm_fine site _ _ i h f

    stms_fine : (site : Site) (all : Stms) (ys : NumberedStms) → NumbersStms site all ys → AllPlain ys
        → AreAlike places site.variables (count_all all) (declared_place_all ys) → AllFine method_so (marking marks) ys
    stms_fine site all ys number.nil h f = tt
    stms_fine site all ys (number.cons {x = a} {y = y} {xs = us} {ys = vs} i rest) h f =
        let next = site_after site a in
        let is = behind_counted site a in (
          stm_fine site a y i h.0
              (first_alike site.variables next.variables (count a) (count_all us) is (declared_place y) (declared_place_all vs) places f (stms_within next us vs rest)),
          stms_fine next us vs rest h.1
              (rest_alike site.variables next.variables (count a) (count_all us) is (declared_place y) (declared_place_all vs) places f (stm_within site a y i)),
        )

  params_fine : (variable : ℕ) (ws : List NumberedParam) → ParamsPlain ws
      → ((n : ℕ) (w : NumberedParam) → slice_get ws n ≡ Some w → places (variable + n) ≡ Some w.place)
      → ParamsFine method_so (marking marks) variable ws
  params_fine variable [] h f = tt
  params_fine variable (w ∷ ws) h f =
      (fine w.place w.ty variable h.0 (ap places (none_more variable) ∙ f 0 w refl), params_fine (variable + 1) ws h.1 (λ n v i. ap places (later variable n) ∙ f (suc n) v i))
    where
      none_more : (n : ℕ) → n ≡ n + 0
      none_more n = omega arith

      later : (n k : ℕ) → (n + 1) + k ≡ n + suc k
      later n k = omega arith

-- ---- methods

none_beyond : (ws : List NumberedParam) (n : ℕ) → length ws ≤ n → slice_get ws n ≡ None
none_beyond [] n h = refl
none_beyond (w ∷ ws) zero h = absurd (beyond (length ws) h)
  where
    beyond : (k : ℕ) → suc k ≤ 0 → ⊥
    beyond k h = omega arith
none_beyond (w ∷ ws) (suc n) h = none_beyond ws n (omega arith)

module _ (marks : Marks) (text : TextTree) (before : ℕ) (own : OwnMethod) (n : NumberedMethod) where
  abbrev here : Site
  here = method_site text own before

  abbrev so : Restating
  so = marked_so marks (marks_variable marks n)

  head_fine : (ps : NumberedParams) → n.params ≡ ps → HeadPlain ps
      → HeadFine (marking marks) (mild marks) so (types marks so.singles) here ps
  head_fine MainArgs i h = tt
  head_fine (Params ws) i h =
      params_fine marks (variable_place n) 0 ws h
      (λ k w at. ap (variable_place n) (zero_more k) ∙ ap (λ (ps : NumberedParams). option_or (params_place ps k)
      (declared_place_all (numbered_stms n.body) k)) i ∙ ap (λ (o : Option NumberedParam). option_or
      (option_map (λ (v : NumberedParam). v.place) o) (declared_place_all (numbered_stms n.body) k)) at)
    where
      zero_more : (k : ℕ) → 0 + k ≡ k
      zero_more k = omega arith

  body_fine : (ps : ParamsTree) (ws : NumberedParams) (all : Stms) → NumbersParams here ps ws → n.params ≡ ws
      → NumbersStms (body_site here ps) all (numbered_stms n.body) → AllPlain (numbered_stms n.body)
      → AllFine so (marking marks) (numbered_stms n.body)
  body_fine ps ws all number.words i h k =
      stms_fine marks (variable_place n) here all (numbered_stms n.body) h k
      (λ number more less. ap (λ (ps : NumberedParams). option_or (params_place ps number) (declared_place_all (numbered_stms n.body) number)) i)
  body_fine ps ws all (number.params {params = trees} {ys = vs} g) i h k =
      stms_fine marks (variable_place n) (behind_params here trees) all (numbered_stms n.body) h k (λ number more less.
      ap (λ (ps : NumberedParams). option_or (params_place ps number) (declared_place_all (numbered_stms n.body) number)) i
      ∙ ap (λ (o : Option NumberedParam). option_or (option_map (λ (v : NumberedParam). v.place) o)
      (declared_place_all (numbered_stms n.body) number)) (none_beyond vs number (by number (params_counted here trees vs g) more)))
    where
      by : (k : ℕ) → (behind_params here trees).variables ≡ 0 + length vs → (behind_params here trees).variables ≤ k → length vs ≤ k
      by k e l = omega arith

result_marked : (marks : Marks) (text : TextTree) (place : Place) (r : ResultTree) (n : NumberedResult) → NumbersResult text r n
    → ResultPlain n
    → NumbersResult (remarked_text (marking marks) text) (remarked_result (marking marks) place r)
    (marked_result (marks.results place) place n)
result_marked marks text place r n number.void h = number.void
result_marked marks text place r n (number.typed {ty = ty} {type = type} i) h =
    number.typed
    (subst (NumbersType (remarked_text (marking marks) text) (remarked_type (marking marks) ((marking marks).results place) ty)) (sym (marked_retyped marks type (marks.results place) place h))
    (numbers_type (marking marks) (mild marks) text ((marking marks).results place) ((mild marks).results place) ty type i))

method_marked : (marks : Marks) (text : TextTree) (before : ℕ) (own : OwnMethod) (n : NumberedMethod)
    → NumbersMethod (method_site text own before) own n → MethodPlain n
    → NumbersMethod (method_site (remarked_text (marking marks) text) (remarked_own (marking marks) own) before)
    (remarked_own (marking marks) own) (marked_method marks n)
method_marked marks text before own n (number.method {result = result} {params = params} {body = body} r ps h) plain =
    let k = marking marks in
    let singles = marks_variable marks n in
    let restating = marked_so marks singles in
    let site = method_site text own before in
    let there = site_there k (mild marks) restating (types marks singles) site in
    let tree = own.method in
    let words = tree.modifiers ++ modifier_at (marks.methods tree.place) tree.place in
    let head = head_fine marks text before own n params refl plain.1 in
    let inner : NumbersStms (body_site there (remarked_params k tree.params)) (stms (map (remarked_stm k) tree.body)) (numbered_stms (map (marked_stm singles marks.variables) body)) =
    subst (λ l. NumbersStms (body_site there (remarked_params k tree.params)) l (numbered_stms (map (marked_stm singles marks.variables) body))) (remarked_map k tree.body)
    (subst (NumbersStms (body_site there (remarked_params k tree.params)) (remarked_all k (stms tree.body)))
    (restated_map k (mild marks) restating (types marks singles) body ∙ ap numbered_stms (body_marked marks singles body))
    (subst (λ l. NumbersStms l (remarked_all k (stms tree.body)) (restated_all restating (numbered_stms body)))
    (sym (body_site_same k (mild marks) restating (types marks singles) site tree.params params ps head))
    (stms_there k (mild marks) restating (types marks singles) (body_site site tree.params) _ _ h (body_fine marks text before own n tree.params params _ ps refl h plain.2)))) in
    let outer : NumbersParams there (remarked_params k tree.params) (marked_params marks params) =
    subst (NumbersParams there (remarked_params k tree.params)) (params_marked marks singles params)
    (params_there k (mild marks) restating (types marks singles) site tree.params params ps head) in
    let whole : Bool → ℕ → NumberedMethod = λ single name. record {
      class = own.class;
      modifiers = words;
      is_single = single;
      result = marked_result (marks.results tree.place) tree.place result;
      place = tree.place;
      name = name;
      params = marked_params marks params;
      body = map (marked_stm singles marks.variables) body;
      end = tree.end;
    } in
    subst (λ l. NumbersMethod l (remarked_own k own) (whole (is_single tree.modifiers || marks.methods tree.place)
    (name_number text tree.name))) (sym (method_site_same k (mild marks) restating (types marks singles) text own before))
    (subst (NumbersMethod there (remarked_own k own)) (ap₂ whole (single_method_with tree.modifiers (marks.methods tree.place) tree.place) (name_same k text tree.name))
    (number.method (result_marked marks text tree.place _ _ r plain.0) outer inner))

methods_marked : (marks : Marks) (text : TextTree) (n before : ℕ) (owns : List OwnMethod) (ns : List NumberedMethod)
    → NumbersMethods text n before owns ns → MethodsPlain ns
    → NumbersMethods (remarked_text (marking marks) text) n before (map (remarked_own (marking marks)) owns) (map (marked_method marks) ns)
methods_marked marks text n before owns ns number.none plain = number.none
methods_marked marks text n before owns ns (number.more {own = own} {method = y} {rest = us} {methods = vs} named h rest) plain =
    let k = marking marks in
    number.more (method_same k text own.class own.method.name ∙ named) (method_marked marks text before own y h plain.0)
    (subst (λ ls. NumbersMethods (remarked_text k text) (n + 1) (before + length ls) (map (remarked_own k) us) (map (marked_method marks) vs)) (sym (body_literals k own))
    (methods_marked marks text (n + 1) (before + length (literals_in (stms own.method.body))) us vs rest plain.1))

-- ---- `main`

abbrev pub IsOf : OwnMethod → NumberedMethod → Type 0
IsOf own y = (y.place ≡ own.method.place) × (y.modifiers ≡ own.method.modifiers)

-- the method of a number has the place and the words of that of the text
pub method_at : (text : TextTree) (n before : ℕ) (owns : List OwnMethod) (ns : List NumberedMethod) → NumbersMethods text n before owns ns
    → (i : ℕ) (own : OwnMethod) → slice_get owns i ≡ Some own
    → (y : NumberedMethod) × (slice_get ns i ≡ Some y) × IsOf own y
method_at text n before owns ns number.none i own at = absurd (none_some own at)
  where
    none_some : (a : OwnMethod) → ◌≡◌ {A = Option OwnMethod} None (Some a) → ⊥
    none_some a e = cc
method_at text n before owns ns (number.more {own = first} {method = y} named h rest) zero own at =
    (y, refl, subst (λ (o : OwnMethod). IsOf o y) (some_same first own at) (itself y h))
  where
    some_same : (a d : OwnMethod) → ◌≡◌ {A = Option OwnMethod} (Some a) (Some d) → a ≡ d
    some_same a d e = cc

    itself : (y : NumberedMethod) → NumbersMethod (method_site text first before) first y → IsOf first y
    itself y (number.method r ps h) = (refl, refl)
method_at text n before owns ns (number.more named h rest) (suc i) own at = method_at text (n + 1) _ _ _ rest i own at

main_place : (text : TextTree) (y : ProgramView) (n : Numbers text y) (marks : Marks)
    → marks_main marks y ≡ marks.methods n.main.own.method.place
main_place text y n marks =
    let there = method_at text 0 0 (methods_of text) y.methods n.methods y.main n.main.own n.main.stands in
    ap (λ (o : Option NumberedMethod). option_map_or (λ (w : NumberedMethod). marks.methods w.place) o false) there.1
    ∙ ap marks.methods there.2.0

main_marked : (marks : Marks) (text : TextTree) (n : ℕ) (h : HasMain text n) → marks.methods h.own.method.place ≡ false
    → HasMain (remarked_text (marking marks) text) n
main_marked marks text n h none =
    let tree = h.own.method in
    main_there (marking marks) text n h
    (form_same (marking marks) tree (ap (λ (b : Bool). tree.modifiers ++ modifier_at b tree.place) none ∙ append-nil tree.modifiers) ∙ h.form)

-- ---- programs

numbers_marked : (marks : Marks) (text : TextTree) (y : ProgramView) → Numbers text y → MethodsPlain y.methods
    → marks_main marks y ≡ false → Numbers (remarked_text (marking marks) text) (marked marks y)
numbers_marked marks text y n plain none =
    let k = marking marks in
    let none_single : ℕ → Bool = λ number. false in
    record {
      classes =
          subst (NumbersClasses (remarked_text k text) 0 (remarked_text k text)) (classes_kept marks none_single y.classes)
          (classes_there k (mild marks) (marked_so marks none_single) (types marks none_single) text 0 text y.classes n.classes);
      methods =
          subst (λ os. NumbersMethods (remarked_text k text) 0 0 os (map (marked_method marks) y.methods)) (sym (methods_same k text))
          (methods_marked marks text 0 0 (methods_of text) y.methods n.methods plain);
      main = main_marked marks text y.main n.main (sym (main_place text y n marks) ∙ none);
      names = n.names ∙ sym (names_same k text);
      literals = n.literals ∙ sym (text_literals k text);
    }

-- the marked program of a stripped program of a text is the program of a text
pub marked_numbered : (y : ProgramView) (marks : Marks) → ∥ IsNumbered y ∥₁ → stripped y ≡ y → marks_main marks y ≡ false
    → ∥ IsNumbered (marked marks y) ∥₁
marked_numbered y marks h same none =
    let plain = subst MethodsPlain (ap (λ (p : ProgramView). p.methods) same) (methods_plain y.main 0 y.methods) in
    ∥∥₁_map h (λ n. (remarked_text (marking marks) n.0, respelled (marking marks) n.0 n.1, numbers_marked marks n.0 y n.2 plain none))
