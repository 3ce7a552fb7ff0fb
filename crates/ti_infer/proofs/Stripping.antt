-- The stripped program of some source is the result of name resolution: of that source without `single`.
use Rattle.std.proofs.Common.{◌≡◌, ℕ, suc, ◌+◌, ◌==◌, Bool, true, false, not, ◌&&◌, ◌||◌, if◌then◌else◌, List, [], ◌∷◌, map, length, slice_get, option_map, Option, Some, refl, ap, ap₂, sym, ◌∙◌, subst, arith, eqb-true, eq-eqb}
use Rattle.std.proofs.Math.Logic.{∥∥₁_map}
use Rattle.ti_base.specs.declared.place.Place.{Place}
use Rattle.ti_syntax.specs.declared.tree.types.Qualifier.{Qualifier}
use Rattle.ti_syntax.specs.declared.tree.classes.Modifier.{Modifier}
use Rattle.ti_syntax.specs.declared.tree.classes.ModifierWord.{ModifierWord}
use Rattle.ti_syntax.specs.declared.tree.classes.ModifierWord.TheVariants as w
use Rattle.ti_syntax.specs.Trees.Statements.{stms}
use Rattle.ti_syntax.specs.Trees.Classes.{ParamsTree, ResultTree, TextTree}
use Rattle.ti_lang.specs.MainForm.{is_words, is_void, has_main_modifiers}
use Rattle.ti_lang.specs.Members as members
use Rattle.ti_lang.specs.Members.{OwnMethod, methods_of, is_single, name_number}
use Rattle.ti_lang.specs.Scopes as scopes
use Rattle.ti_lang.specs.Scopes.{has_single, has_local, literals_in, Site, method_site, body_site}
use Rattle.ti_lang.specs.Program.Types.{NumberedType}
use Rattle.ti_lang.specs.Program.Statements.{NumberedInit, NumberedStm, MaybeNumbered, NumberedStms, numbered_stms}
use Rattle.ti_lang.specs.Program.Statements as m
use Rattle.ti_lang.specs.Program.Classes.{NumberedParam, NumberedParams, MainArgs, Params, NumberedResult, NumberedMethod, ProgramView}
use Rattle.ti_lang.specs.Numbering as number
use Rattle.ti_lang.specs.Numbering.{NumbersType, NumbersStms, NumbersResult, NumbersParams, NumbersMethod, NumbersMethods, HasMain, Numbers, IsNumbered}
use Rattle.ti_infer.specs.Remarked.{Remarking, remarked_type, remarked_stm, remarked_all, remarked_params, remarked_result, remarked_text}
use Rattle.ti_infer.specs.Marked.{marked_exp}
use Rattle.ti_infer.specs.Stripped.{plain_words, plain_modifiers, plain_grid, plain_type, none_single, plain_init, plain_stm, plain_maybe, plain_stms, plain_params, plain_result, plain_method, plain_methods, stripped}
use Rattle.ti_infer.proofs.Truths.{true_false}
use Rattle.ti_infer.proofs.Respelled.{respelled}
use Rattle.ti_infer.proofs.Refound.{any_static, IsMild, remarked_own, methods_same, method_same, names_same, name_same, remarked_map, body_literals, text_literals}
use Rattle.ti_infer.proofs.Renumbered.{retyped, Restating, restated, restated_init, restated_maybe, restated_all, restated_params, IsFine}
use Rattle.ti_infer.proofs.Renumbered.{AreFine, MaybeFine, AllFine, ParamsFine, AreRetyped, numbers_type, site_there, stms_there}
use Rattle.ti_infer.proofs.Renumbered.{restated_map, classes_there, HeadFine, params_there, body_site_same, method_site_same, form_same}
use Rattle.ti_infer.proofs.Renumbered.{main_there}

-- ---- words

-- the words of a text without `single`; the method that takes its words, `main`, keeps its own
abbrev stripping : Remarking
stripping = record {
  words = plain_words;
  declared = λ at. plain_words;
  results = λ at. plain_words;
  fields = plain_modifiers;
  methods = λ params at ws. if is_words params then ws else plain_modifiers ws;
}

abbrev plain_text : TextTree → TextTree
plain_text text = remarked_text stripping text

pub no_single : (qs : List Qualifier) → has_single (plain_words qs) ≡ false
no_single [] = refl
no_single (k ∷ qs) = by (scopes.is_single_word k.word) refl (no_single qs)
  where
    by : (b : Bool) → scopes.is_single_word k.word ≡ b → has_single (plain_words qs) ≡ false
        → has_single (if not b then k ∷ plain_words qs else plain_words qs) ≡ false
    by true e h = h
    by false e h = ap₂ (λ a b. a || b) e h

same_local : (qs : List Qualifier) → has_local (plain_words qs) ≡ has_local qs
same_local [] = refl
same_local (k ∷ qs) = by (scopes.is_single_word k.word) refl (same_local qs)
  where
    by : (b : Bool) → scopes.is_single_word k.word ≡ b → has_local (plain_words qs) ≡ has_local qs
        → has_local (if not b then k ∷ plain_words qs else plain_words qs) ≡ (not (scopes.is_single_word k.word) || has_local qs)
    by true e h = h ∙ sym (ap (λ a. not a || has_local qs) e)
    by false e h = ap (λ a. not (scopes.is_single_word k.word) || a) h

no_single_modifier : (ms : List Modifier) → is_single (plain_modifiers ms) ≡ false
no_single_modifier [] = refl
no_single_modifier (k ∷ ms) = by (members.is_single_word k.word) refl (no_single_modifier ms)
  where
    by : (b : Bool) → members.is_single_word k.word ≡ b → is_single (plain_modifiers ms) ≡ false
        → is_single (if not b then k ∷ plain_modifiers ms else plain_modifiers ms) ≡ false
    by true e h = h
    by false e h = ap₂ (λ a b. a || b) e h

static_word : (m : ModifierWord) → members.is_single_word m ≡ true → members.is_static_word m ≡ false
static_word w.Static h = absurd (true_false (sym h))
static_word _ h = refl

same_static : (ms : List Modifier) → any_static (plain_modifiers ms) ≡ any_static ms
same_static [] = refl
same_static (k ∷ ms) = by (members.is_single_word k.word) refl (same_static ms)
  where
    by : (b : Bool) → members.is_single_word k.word ≡ b → any_static (plain_modifiers ms) ≡ any_static ms
        → any_static (if not b then k ∷ plain_modifiers ms else plain_modifiers ms) ≡ (members.is_static_word k.word || any_static ms)
    by true e h = h ∙ sym (ap (λ a. a || any_static ms) (static_word k.word e))
    by false e h = ap (λ a. members.is_static_word k.word || a) h

mild : IsMild stripping
mild = record { words = same_local; declared = λ at. same_local; results = λ at. same_local; methods = static_kept }
  where
    static_kept : (params : ParamsTree) (at : Place) (ms : List Modifier)
        → any_static (if is_words params then ms else plain_modifiers ms) ≡ any_static ms
    static_kept params at ms = by (is_words params)
      where
        by : (b : Bool) → any_static (if b then ms else plain_modifiers ms) ≡ any_static ms
        by true = refl
        by false = same_static ms

-- ---- what numbered parts become

abbrev plainly : Restating
plainly = record { ty = plain_type; declared = λ at. plain_type; singles = none_single }

plain_retyped : (t : NumberedType) → plain_type t ≡ retyped stripping plain_words t
plain_retyped t =
    ap (λ (b : Bool). record { type = t.type; is_single = b; qualifiers = plain_words t.qualifiers; grids = map plain_grid t.grids })
    (sym (no_single t.qualifiers))

types : AreRetyped plainly stripping
types v y = plain_retyped (record { type = v; is_single = has_single y.qualifiers; qualifiers = y.qualifiers; grids = y.grids })

fine : (at : Place) (type : NumberedType) (variable : ℕ) → IsFine plainly stripping at type variable
fine at type variable = (plain_retyped type, no_single type.qualifiers)

mutual
  are_fine : (y : NumberedStm) → AreFine plainly stripping y
  are_fine (m.Declare at type variable value) = fine at type variable
  are_fine (m.Block body) = all_fine body
  are_fine (m.If at c a) = are_fine a
  are_fine (m.IfElse at c a b) = (are_fine a, are_fine b)
  are_fine (m.While at c body) = are_fine body
  are_fine (m.For at first c update body) = (maybe_fine first, maybe_fine update, are_fine body)
  are_fine (m.Foreach at variable domain body) = are_fine body
  are_fine _ = tt

  maybe_fine : (y : MaybeNumbered) → MaybeFine plainly stripping y
  maybe_fine m.NoStm = tt
  maybe_fine (m.SomeStm a) = are_fine a

  all_fine : (ys : NumberedStms) → AllFine plainly stripping ys
  all_fine m.Nil = tt
  all_fine (m.Cons a rest) = (are_fine a, all_fine rest)

params_fine : (variable : ℕ) (ws : List NumberedParam) → ParamsFine plainly stripping variable ws
params_fine variable [] = tt
params_fine variable (v ∷ ws) = (fine v.place v.ty variable, params_fine (variable + 1) ws)

init_plain : (v : NumberedInit) → restated_init plainly v ≡ plain_init v
init_plain (m.Value a) = refl
init_plain (m.NewRegion at) = refl
init_plain (m.NewObject at region class) = refl
init_plain (m.NewGrid at region element dims_at dims) = refl
init_plain (m.Broadcast at a root) = refl

mutual
  stm_plain : (y : NumberedStm) → restated plainly y ≡ plain_stm y
  stm_plain (m.Declare at type variable value) = ap (m.Declare at (plain_type type) variable) (init_plain value)
  stm_plain (m.Assign at target value) = ap (m.Assign at (marked_exp none_single target)) (init_plain value)
  stm_plain (m.Block body) = ap m.Block (stms_plain body)
  stm_plain (m.If at c a) = ap (m.If at (marked_exp none_single c)) (stm_plain a)
  stm_plain (m.IfElse at c a b) = ap₂ (m.IfElse at (marked_exp none_single c)) (stm_plain a) (stm_plain b)
  stm_plain (m.While at c body) = ap (m.While at (marked_exp none_single c)) (stm_plain body)
  stm_plain (m.For at first c update body) =
      ap₂ (λ a b. m.For at a (option_map (marked_exp none_single) c) b (restated plainly body)) (maybe_plain first) (maybe_plain update)
      ∙ ap (m.For at (plain_maybe first) (option_map (marked_exp none_single) c) (plain_maybe update)) (stm_plain body)
  stm_plain (m.Foreach at variable domain body) = ap (m.Foreach at variable (marked_exp none_single domain)) (stm_plain body)
  stm_plain _ = refl

  maybe_plain : (y : MaybeNumbered) → restated_maybe plainly y ≡ plain_maybe y
  maybe_plain m.NoStm = refl
  maybe_plain (m.SomeStm a) = ap m.SomeStm (stm_plain a)

  stms_plain : (ys : NumberedStms) → restated_all plainly ys ≡ plain_stms ys
  stms_plain m.Nil = refl
  stms_plain (m.Cons a rest) = ap₂ m.Cons (stm_plain a) (stms_plain rest)

body_plain : (ys : List NumberedStm) → map (restated plainly) ys ≡ map plain_stm ys
body_plain [] = refl
body_plain (y ∷ ys) = ap₂ (λ z zs. z ∷ zs) (stm_plain y) (body_plain ys)

params_plain : (ps : NumberedParams) → restated_params plainly ps ≡ plain_params ps
params_plain MainArgs = refl
params_plain (Params ws) = refl

-- ---- methods

abbrev plain_site : Site → Site
plain_site site = site_there stripping mild plainly types site

abbrev plain_own : OwnMethod → OwnMethod
plain_own own = remarked_own stripping own

head_fine : (site : Site) (ps : NumberedParams) → HeadFine stripping mild plainly types site ps
head_fine site MainArgs = tt
head_fine site (Params ws) = params_fine site.variables ws

result_plain : (text : TextTree) (place : Place) (r : ResultTree) (n : NumberedResult) → NumbersResult text r n
    → NumbersResult (plain_text text) (remarked_result stripping place r) (plain_result n)
result_plain text place r n number.void = number.void
result_plain text place r n (number.typed {ty = ty} {type = type} h) =
    number.typed
    (subst (NumbersType (plain_text text) (remarked_type stripping plain_words ty)) (sym (plain_retyped type)) (numbers_type stripping mild text plain_words same_local ty type h))

single_kept : (b : Bool) (ms : List Modifier) → is_single (if b then ms else plain_modifiers ms) ≡ (if b then is_single ms else false)
single_kept true ms = refl
single_kept false ms = no_single_modifier ms

method_plain : (text : TextTree) (before : ℕ) (own : OwnMethod) (n : NumberedMethod) → NumbersMethod (method_site text own before) own n
    → NumbersMethod (method_site (plain_text text) (plain_own own) before) (plain_own own) (plain_method (is_words own.method.params) n)
method_plain text before own n (number.method {result = result} {params = params} {body = body} r ps h) =
    let here = method_site text own before in
    let tree = own.method in
    let words = if is_words tree.params then tree.modifiers else plain_modifiers tree.modifiers in
    let inner : NumbersStms (body_site (plain_site here) (remarked_params stripping tree.params)) (stms (map (remarked_stm stripping) tree.body)) (numbered_stms (map plain_stm body)) =
    subst (λ k. NumbersStms (body_site (plain_site here) (remarked_params stripping tree.params)) k (numbered_stms (map plain_stm body)))
    (remarked_map stripping tree.body)
    (subst (NumbersStms (body_site (plain_site here) (remarked_params stripping tree.params)) (remarked_all stripping (stms tree.body)))
    (restated_map stripping mild plainly types body ∙ ap numbered_stms (body_plain body))
    (subst (λ k. NumbersStms k (remarked_all stripping (stms tree.body)) (restated_all plainly (numbered_stms body)))
    (sym (body_site_same stripping mild plainly types here tree.params params ps (head_fine here params)))
    (stms_there stripping mild plainly types (body_site here tree.params) _ _ h (all_fine (numbered_stms body))))) in
    let outer : NumbersParams (plain_site here) (remarked_params stripping tree.params) (plain_params params) =
    subst (NumbersParams (plain_site here) (remarked_params stripping tree.params)) (params_plain params)
    (params_there stripping mild plainly types here tree.params params ps (head_fine here params)) in
    let whole : Bool → ℕ → NumberedMethod = λ single name. record {
      class = own.class;
      modifiers = words;
      is_single = single;
      result = plain_result result;
      place = tree.place;
      name = name;
      params = plain_params params;
      body = map plain_stm body;
      end = tree.end;
    } in
    subst (λ k. NumbersMethod k (plain_own own) (whole (if is_words tree.params then is_single tree.modifiers else false)
    (name_number text tree.name))) (sym (method_site_same stripping mild plainly types text own before))
    (subst (NumbersMethod (plain_site here) (plain_own own)) (ap₂ whole (single_kept (is_words tree.params) tree.modifiers) (name_same stripping text tree.name))
    (number.method (result_plain text tree.place _ _ r) outer inner))

methods_numbered : (text : TextTree) (main n before : ℕ) (owns : List OwnMethod) (ns : List NumberedMethod)
    → NumbersMethods text n before owns ns
    → ((k : ℕ) (own : OwnMethod) → slice_get owns k ≡ Some own → is_words own.method.params ≡ (n + k == main)) → NumbersMethods
    (plain_text text) n before (map plain_own owns) (plain_methods main n ns)
methods_numbered text main n before owns ns number.none f = number.none
methods_numbered text main n before owns ns (number.more {own = own} {method = y} {rest = us} {methods = vs} named h rest) f =
    number.more (method_same stripping text own.class own.method.name ∙ named)
    (subst (λ b. NumbersMethod (method_site (plain_text text) (plain_own own) before) (plain_own own) (plain_method b y)) (f 0 own refl
    ∙ ap (λ k. k == main) (no_more n)) (method_plain text before own y h))
    (subst (λ ls. NumbersMethods (plain_text text) (n + 1) (before + length ls) (map plain_own us) (plain_methods main (n + 1) vs)) (sym (body_literals stripping own))
    (methods_numbered text main (n + 1) (before + length (literals_in (stms own.method.body))) us vs rest (λ k o i. f (suc k) o i ∙ ap (λ z. z == main) (later n k))))
  where
    no_more : (a : ℕ) → a + 0 ≡ a
    no_more a = omega arith

    later : (a k : ℕ) → a + suc k ≡ (a + 1) + k
    later a k = omega arith

-- ---- `main`

and_last : (a d e : Bool) → (a && (d && e)) ≡ true → e ≡ true
and_last true true e h = h
and_last true false e h = absurd (true_false (sym h))
and_last false d e h = absurd (true_false (sym h))

main_plain : (text : TextTree) (n : ℕ) → HasMain text n → HasMain (plain_text text) n
main_plain text n h =
    let tree = h.own.method in
    let words = and_last (has_main_modifiers tree) (is_void tree.result) (is_words tree.params) h.form in
    main_there stripping text n h
    (form_same stripping tree (ap (λ (b : Bool). if b then tree.modifiers else plain_modifiers tree.modifiers) words) ∙ h.form)

-- `main` alone takes its words
words_where_main : (text : TextTree) (n : ℕ) → HasMain text n → (k : ℕ) (own : OwnMethod) → slice_get (methods_of text) k ≡ Some own
    → is_words own.method.params ≡ (0 + k == n)
words_where_main text n h k own i = by (k == n) (is_words own.method.params) refl refl ∙ ap (λ z. z == n) (plus k)
  where
    some_same : (a d : OwnMethod) → ◌≡◌ {A = Option OwnMethod} (Some a) (Some d) → a ≡ d
    some_same a d e = cc

    plus : (a : ℕ) → a ≡ 0 + a
    plus a = omega arith

    itself : (a : ℕ) → (a == a) ≡ true
    itself a = eq-eqb a a refl

    by : (b d : Bool) → (k == n) ≡ b → is_words own.method.params ≡ d → is_words own.method.params ≡ (k == n)
    by true true e z = z ∙ sym e
    by false false e z = z ∙ sym e
    by false true e z =
        let same : k ≡ n = h.alone k own i z in
        absurd (true_false (sym (itself n) ∙ subst (λ j. (j == n) ≡ false) same e))
    by true false e z =
        let same : k ≡ n = eqb-true k n e in
        let is : own ≡ h.own = some_same own h.own (sym i ∙ ap (slice_get (methods_of text)) same ∙ h.stands) in
        absurd (true_false (sym (and_last (has_main_modifiers h.own.method) (is_void h.own.method.result)
        (is_words h.own.method.params) h.form) ∙ ap (λ (o : OwnMethod). is_words o.method.params) (sym is) ∙ z))

-- ---- programs

numbers_plain : (text : TextTree) (y : ProgramView) → Numbers text y → Numbers (plain_text text) (stripped y)
numbers_plain text y n = record {
  classes = classes_there stripping mild plainly types text 0 text y.classes n.classes;
  methods =
      subst (λ os. NumbersMethods (plain_text text) 0 0 os (plain_methods y.main 0 y.methods)) (sym (methods_same stripping text))
      (methods_numbered text y.main 0 0 (methods_of text) y.methods n.methods (words_where_main text y.main n.main));
  main = main_plain text y.main n.main;
  names = n.names ∙ sym (names_same stripping text);
  literals = n.literals ∙ sym (text_literals stripping text);
}

-- the stripped program of a text is the program of a text
pub stripped_numbered : (y : ProgramView) → ∥ IsNumbered y ∥₁ → ∥ IsNumbered (stripped y) ∥₁
stripped_numbered y h = ∥∥₁_map h (λ n. (plain_text n.0, respelled stripping n.0 n.1, numbers_plain n.0 y n.2))
