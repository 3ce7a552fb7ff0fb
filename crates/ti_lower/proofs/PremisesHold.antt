-- Proves that the program of a source that breaks no rule meets the premises of the theorem on code.
use Rattle.std.proofs.Common.{◌≡◌, true≢false, ℕ, zero, suc, ◌+◌, ◌==◌, Bool, true, false, not, ◌&&◌, if◌then◌else◌, length, flat_map, slice_get, Option, Some, None, List, [], ◌∷◌, ◌++◌, refl, ap, sym, ◌∙◌, subst, arith}
use Rattle.ti_syntax.specs.Trees.Statements.{stms}
use Rattle.ti_syntax.specs.Trees.Classes.{ParamsTree, ResultTree, TextTree}
use Rattle.ti_lang.specs.Program.Types as t
use Rattle.ti_lang.specs.Program.Statements.{NumberedStm, numbered_stms}
use Rattle.ti_lang.specs.Program.Statements as s
use Rattle.ti_lang.specs.Program.Classes.{NumberedParam, NumberedParams, MainArgs, Params, NumberedResult, NumberedMethod, ProgramView}
use Rattle.ti_lang.specs.Program.Scope.{ScopeContents, parameters_from, parameters, this_of}
use Rattle.ti_lang.specs.MainForm as form
use Rattle.ti_lang.specs.MainForm.{is_words, is_public, has_main_modifiers, has_main_form}
use Rattle.ti_lang.specs.Members.{OwnMethod, methods_of, is_static, is_single, name_number}
use Rattle.ti_lang.specs.Scopes.{Site, behind_params, method_site, body_site}
use Rattle.ti_lang.specs.Numbering as number
use Rattle.ti_lang.specs.Numbering.{NumbersResult, NumbersParams, NumbersMethod, NumbersMethods, IsNumbered}
use Rattle.ti_lang.specs.Typing.Kinds.{is_void}
use Rattle.ti_lang.specs.Typing.Declared.{type_of_result, result_type}
use Rattle.ti_lang.specs.Meaning.Calls as calls
use Rattle.ti_lang.specs.Meaning.Calls.{parameters_of}
use Rattle.ti_rules.specs.declared.rule.Rule.TheVariants.{Y6}
use Rattle.ti_rules.specs.StmtInContext.{standing_in_method}
use Rattle.ti_rules.specs.Broken.Statements.{standing_refusals}
use Rattle.ti_rules.specs.TypeRules.{class_refusals, head_refusals, is_return, ends_with_return, end_refusals, method_refusals}
use Rattle.ti_rules.specs.ProgramRefusals.{BreaksNothing}
use Rattle.ti_rules.proofs.Lemmas.{nil_left, nil_right, not_refused, and_left, and_right, none_some, some_same, TextFits, text_fits}
use Rattle.ti_rules.proofs.Lemmas.{AllVariables, params_behind, body_fits}
use Rattle.ti_lower_expr.specs.Slots.{Name, Of}
use Rattle.ti_lower_expr.specs.Methods.{this_names, push_param_names, names_in_method}
use Rattle.ti_lower.proofs.Working.{StmFine, StmsFine}
use Rattle.ti_lower.proofs.Premises.{IsReturn, EndOf, IsEnded, MethodFine, MainFine}
use Rattle.ti_lower.proofs.PremisesSpelled.{AllBranched, MethodsBranched, spelled_branched}
use Rattle.ti_lower.proofs.PremisesCalls.{MainWords}
use Rattle.ti_lower.proofs.PremisesStated.{Below, below_more, stms_fine}

-- ---- the site of a body

this_below : (n : ℕ) (o : Option ℕ) → Below n (this_names o)
this_below n None = tt
this_below n (Some class) = tt

params_below : (n : ℕ) (ys : List NumberedParam) (ns : List Name) → Below n ns → Below (n + length ys) (push_param_names (calls.parameters_from n ys) ns)
params_below n [] ns b = below_more n (n + 0) ns (omega arith) b
params_below n (y ∷ ys) ns b =
    let more : (n + 1) + length ys ≡ n + suc (length ys) = omega arith in
    subst (λ k. Below k (push_param_names (calls.parameters_from (n + 1) ys) (Of (record { number = n; declared = t.Typed y.ty.is_single y.ty.type }) ∷ ns))) more
    (params_below (n + 1) ys (Of (record { number = n; declared = t.Typed y.ty.is_single y.ty.type }) ∷ ns) (omega arith, below_more n (n + 1) ns (omega arith) b))

-- the scope and the names of a method with these parameters
abbrev scope_with : Option ℕ → NumberedParams → ScopeContents
scope_with this params = record { this_class = this; variables = parameters params }

abbrev names_with : Option ℕ → NumberedParams → List Name
names_with this params = push_param_names (parameters_of params) (this_names this)

body_below : (s : ScopeContents) (this : Option ℕ) (site : Site) (ps : ParamsTree) (params : NumberedParams) → NumbersParams site ps params
    → AllVariables s site.scope → site.variables ≡ 0 → Below (body_site site ps).variables (names_with this params)
body_below s this site ps params number.words a z = this_below site.variables this
body_below s this site ps params (number.params {params = trees} {ys = ys} n) a z =
    let count = (params_behind s site trees ys n a).variables in
    let last : 0 + length ys ≡ (behind_params site trees).variables = omega (arith, count, z) in
    subst (λ k. Below k (names_with this (Params ys))) last (params_below 0 ys (this_names this) (this_below 0 this))

-- ---- the end of a body

module _ (p : ProgramView) (this : Option ℕ) (result : t.ValueType) where
  last_return : (x : NumberedStm) (ns : List Name) → is_void result ≡ false → is_return x ≡ true → StmFine p this result x ns → IsReturn x
  last_return (s.Return at (Some x)) ns v e f = tt
  last_return (s.Return at None) ns v e f = absurd (true≢false (sym f ∙ v))
  last_return x ns v e f = absurd (true≢false (sym e))

  end_fine : (x : NumberedStm) (xs : List NumberedStm) (ns : List Name) → is_void result ≡ false → ends_with_return (x ∷ xs) ≡ true
      → StmsFine p this result (numbered_stms (x ∷ xs)) ns → EndOf x (numbered_stms xs)
  end_fine x [] ns v e f = last_return x ns v e f.0
  end_fine x (y ∷ ys) ns v e f = end_fine y ys _ v e f.1

  ended_fine : (xs : List NumberedStm) (ns : List Name) → (not (is_void result) && not (ends_with_return xs)) ≡ false
      → StmsFine p this result (numbered_stms xs) ns → IsEnded (is_void result) (numbered_stms xs)
  ended_fine xs ns e f = by (is_void result) refl
    where
      ends : (v r : Bool) → v ≡ false → (not v && not r) ≡ false → r ≡ true
      ends true r z e = absurd (true≢false z)
      ends false true z e = refl
      ends false false z e = absurd (true≢false e)

      list : (xs : List NumberedStm) → is_void result ≡ false → ends_with_return xs ≡ true → StmsFine p this result (numbered_stms xs) ns → IsEnded false (numbered_stms xs)
      list [] v e f = absurd (true≢false (sym e))
      list (x ∷ rest) v e f = end_fine x rest ns v e f

      by : (v : Bool) → is_void result ≡ v → IsEnded v (numbered_stms xs)
      by true z = tt
      by false z = list xs z (ends (is_void result) (ends_with_return xs) z e) f

-- ---- methods

method_fine : (p : ProgramView) (words : MainWords p) (text : TextTree) (before : ℕ) (own : OwnMethod) (m : NumberedMethod) → TextFits p text → NumbersMethod (method_site text own before) own m
    → AllBranched (stms own.method.body) → method_refusals p m ≡ [] → MethodFine p m
method_fine p words text before own m k (number.method {result = result} {params = params} {body = body} r ps h) b e =
    let m : NumberedMethod = record {
      class = own.class;
      modifiers = own.method.modifiers;
      is_single = is_single own.method.modifiers;
      result = result;
      place = own.method.place;
      name = name_number text own.method.name;
      params = params;
      body = body;
      end = own.method.end;
    } in
    let fits = body_fits p (this_of m) (method_site text own before) own.method.params params ps k (λ z. ap (λ c. if c then None else Some own.class) z) tt refl in
    let heads = head_refusals m ++ end_refusals m in
    let inner = flat_map (standing_refusals p) (standing_in_method p m) in
    let fine = stms_fine p words m (parameters params) None (body_site (method_site text own before) own.method.params)
    (names_in_method m) fits
    (body_below (scope_with (this_of m) params) (this_of m) (method_site text own before) own.method.params params ps tt refl) (stms own.method.body) (numbered_stms body) h b (nil_right heads inner e) in
    let ends = not_refused (not (is_void (result_type m)) && not (ends_with_return body)) Y6 m.place (nil_right (head_refusals m) (end_refusals m) (nil_left heads inner e)) in
    record { stms = fine; ended = ended_fine p (this_of m) (result_type m) body (names_in_method m) ends fine }

methods_fine : (p : ProgramView) (words : MainWords p) (text : TextTree) (n before : ℕ) (owns : List OwnMethod) (ms : List NumberedMethod) → TextFits p text → NumbersMethods text n before owns ms
    → MethodsBranched owns → flat_map (method_refusals p) ms ≡ [] → (k : ℕ) (m : NumberedMethod) → slice_get ms k ≡ Some m → MethodFine p m
methods_fine p words text n before owns ms f number.none b e k m i = absurd (none_some m i)
methods_fine p words text n before owns ms f (number.more {own = own} {method = x} {methods = rest} named h others) b e zero m i =
    subst (MethodFine p) (some_same x m i) (method_fine p words text before own x f h b.0 (nil_left (method_refusals p x) (flat_map (method_refusals p) rest) e))
methods_fine p words text n before owns ms f (number.more {method = x} {methods = rest} named h others) b e (suc k) m i =
    methods_fine p words text _ _ _ _ f others b.1 (nil_right (method_refusals p x) (flat_map (method_refusals p) rest) e) k m i

-- ---- main

words_alone : (site : Site) (ps : ParamsTree) (q : NumberedParams) → NumbersParams site ps q → is_words ps ≡ true → q ≡ MainArgs
words_alone site ps q number.words e = refl
words_alone site ps q (number.params h) e = absurd (true≢false (sym e))

nothing_given : (text : TextTree) (r : ResultTree) (q : NumberedResult) → NumbersResult text r q → form.is_void r ≡ true → is_void (type_of_result q) ≡ true
nothing_given text r q number.void e = refl
nothing_given text r q (number.typed h) e = absurd (true≢false (sym e))

-- a method in the form of `main`
record MainLike (m : NumberedMethod) : Type 0 where
  static : this_of m ≡ None
  words : m.params ≡ MainArgs
  nothing : is_void (result_type m) ≡ true

main_like : (site : Site) (own : OwnMethod) (m : NumberedMethod) → NumbersMethod site own m → has_main_form own.method ≡ true → MainLike m
main_like site own m (number.method {result = result} {params = params} r ps h) e =
    let rest = and_right (has_main_modifiers own.method) (form.is_void own.method.result && is_words own.method.params) e in
    let static = and_left (is_static own.method) (is_single own.method.modifiers)
    (and_right ((length own.method.modifiers == 3) && is_public own.method.modifiers) (is_static own.method && is_single own.method.modifiers)
    (and_left (has_main_modifiers own.method) (form.is_void own.method.result && is_words own.method.params) e)) in
    record {
      static = ap (λ b. if b then None else Some own.class) static;
      words = words_alone site own.method.params params ps (and_right (form.is_void own.method.result) (is_words own.method.params) rest);
      nothing = nothing_given site.text own.method.result result r (and_left (form.is_void own.method.result) (is_words own.method.params) rest);
    }

main_at : (text : TextTree) (n before : ℕ) (owns : List OwnMethod) (ms : List NumberedMethod) → NumbersMethods text n before owns ms → (k : ℕ) (own : OwnMethod) → slice_get owns k ≡ Some own
    → has_main_form own.method ≡ true → (m : NumberedMethod) × (slice_get ms k ≡ Some m) × MainLike m
main_at text n before owns ms number.none k own i e = absurd (none_some own i)
main_at text n before owns ms (number.more {own = x} {method = m} named h rest) zero own i e =
    (m, refl, main_like _ x m h (ap (λ (o : OwnMethod). has_main_form o.method) (some_same x own i) ∙ e))
main_at text n before owns ms (number.more named h rest) (suc k) own i e = main_at text _ _ _ _ rest k own i e

-- ---- programs

-- a program of a text that breaks no rule meets the premises
pub program_fine : (program : ProgramView) → IsNumbered program → BreaksNothing program
    → ((k : ℕ) (m : NumberedMethod) → slice_get program.methods k ≡ Some m → MethodFine program m) × MainFine program
program_fine program numbered unbroken =
    let text = numbered.0 in
    let n = numbered.2 in
    let main = main_at text 0 0 (methods_of text) program.methods n.methods program.main n.main.own n.main.stands n.main.form in
    let like = main.2 in
    let words : MainWords program = record { main = main.0; is_there = main.1; words = like.words } in (
      methods_fine program words text 0 0 (methods_of text) program.methods (text_fits program text n) n.methods (spelled_branched text numbered.1)
          (nil_right (flat_map class_refusals program.classes) (flat_map (method_refusals program) program.methods) unbroken.types),
      record { main = main.0; is_there = main.1; is_static = like.static; is_bare = ap parameters_of like.words; gives_nothing = like.nothing },
    )
