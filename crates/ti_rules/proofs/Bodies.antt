-- In the body of a method or of a foreach, all variables in scope are known to the scope of the typing rules, and their numbers are
-- below the next free one.
use Rattle.std.proofs.Common.{◌≡◌, ℕ, suc, ◌+◌, ◌≤◌, ◌==◌, Bool, true, false, cond, find, length, option_map, Option, Some, None, List, [], ◌∷◌, ◌++◌, refl, ap, sym, ◌∙◌, subst, arith, eqb-true, eq-eqb}
use Rattle.ti_syntax.specs.Trees.Classes.{ParamTree, ParamsTree}
use Rattle.ti_lang.specs.Program.Types.{Declaration}
use Rattle.ti_lang.specs.Program.Types as t
use Rattle.ti_lang.specs.Program.Classes.{NumberedParam, NumberedParams, ProgramView}
use Rattle.ti_lang.specs.Program.Scope.{ScopeVariable, ScopeContents, parameters_from, parameters}
use Rattle.ti_lang.specs.Scopes.{Site, Known, typed_as, declares, behind_params, body_site}
use Rattle.ti_lang.specs.Numbering as number
use Rattle.ti_lang.specs.Numbering.{NumbersParamList, NumbersParams}
use Rattle.ti_lang.specs.Typing.Declared.{in_scope, declared_type}
use Rattle.ti_rules.proofs.Named.{none_some, TextFits, VariableKnown, AllVariables, with_known, SiteFits}

-- ---- in the body of a foreach

find_more : {B : Type 0} (f : ScopeVariable → B) (test : ScopeVariable → Bool) (vs ws : List ScopeVariable) (b : B)
    → option_map f (find test vs) ≡ Some b → option_map f (find test (vs ++ ws)) ≡ Some b
find_more f test [] ws b h = absurd (none_some b h)
find_more {B} f test (v ∷ vs) ws b h = by (test v) h (find_more f test vs ws b)
  where
    by : (c : Bool) → option_map f (cond c (Some v) (find test vs)) ≡ Some b → (option_map f (find test vs) ≡ Some b → option_map f (find test (vs ++ ws)) ≡ Some b)
        → option_map f (cond c (Some v) (find test (vs ++ ws))) ≡ Some b
    by true h ih = h
    by false h ih = ih h

find_last : (test : ScopeVariable → Bool) (vs : List ScopeVariable) (w : ScopeVariable) → find test vs ≡ None → find test (vs ++ w ∷ []) ≡ cond (test w) (Some w) None
find_last test [] w h = refl
find_last test (v ∷ vs) w h = by (test v) h (find_last test vs w)
  where
    by : (c : Bool) → cond c (Some v) (find test vs) ≡ None → (find test vs ≡ None → find test (vs ++ w ∷ []) ≡ cond (test w) (Some w) None)
        → cond c (Some v) (find test (vs ++ w ∷ [])) ≡ cond (test w) (Some w) None
    by true h ih = absurd (none_some v (sym h))
    by false h ih = ih h

more_known : (this : Option ℕ) (vs ws : List ScopeVariable) (number : ℕ) (d : Declaration) → VariableKnown (record { this_class = this; variables = vs }) number d
    → VariableKnown (record { this_class = this; variables = vs ++ ws }) number d
more_known this vs ws number (t.Typed is_single type) k = tt
more_known this vs ws number t.Foreach k = (k.0, find_more (λ (v : ScopeVariable). v.type) (λ (v : ScopeVariable). v.number == number) vs ws (t.Pt k.0) k.1)

all_more : (this : Option ℕ) (vs ws : List ScopeVariable) (scope : List Known)
    → AllVariables (record { this_class = this; variables = vs }) scope
    → AllVariables (record { this_class = this; variables = vs ++ ws }) scope
all_more this vs ws [] a = tt
all_more this vs ws (known ∷ rest) a = (more_known this vs ws known.1.number known.1.declared a.0, all_more this vs ws rest a.1)

-- the variable of a foreach in a scope
abbrev pub point_in : Site → ℕ → Bool → ScopeVariable
point_in site n b = record { number = site.variables; type = t.Pt n; is_single = b }

abbrev pub with_last : Option ℕ → List ScopeVariable → ScopeVariable → ScopeContents
with_last this vs w = record { this_class = this; variables = vs ++ w ∷ [] }

pub point_fits : (p : ProgramView) (this : Option ℕ) (vs : List ScopeVariable) (site : Site) (name : List ℕ) (n : ℕ) (b : Bool) → SiteFits p (record { this_class = this; variables = vs }) site
    → SiteFits p (with_last this vs (point_in site n b)) (declares site name t.Foreach)
point_fits p this vs site name n b k = record {
  text = k.text;
  this = k.this;
  scope = with_known (with_last this vs (point_in site n b)) site.scope name (record { number = site.variables; declared = t.Foreach })
      (all_more this vs (point_in site n b ∷ []) site.scope k.scope) (n, there);
  fresh = free;
}
  where
    there : declared_type (with_last this vs (point_in site n b)) site.variables t.Foreach ≡ Some (t.Pt n)
    there =
        let low : site.variables ≤ site.variables = omega arith in
        ap (λ (o : Option ScopeVariable). option_map (λ (v : ScopeVariable). v.type) o)
        (find_last (λ (v : ScopeVariable). v.number == site.variables) vs (point_in site n b) (k.fresh site.variables low)
        ∙ ap (λ c. cond c (Some (point_in site n b)) None) (eq-eqb site.variables site.variables refl))

    free : (i : ℕ) → site.variables + 1 ≤ i → in_scope (with_last this vs (point_in site n b)) i ≡ None
    free i l =
        let low : site.variables ≤ i = omega (arith, l) in
        find_last (λ (v : ScopeVariable). v.number == i) vs (point_in site n b) (k.fresh i low) ∙ by (site.variables == i) refl
      where
        by : (c : Bool) → (site.variables == i) ≡ c → cond c (Some (point_in site n b)) None ≡ None
        by true e = let same = eqb-true site.variables i e in absurd (omega (arith, same, l))
        by false e = refl

-- ---- the site of a body

-- no parameter has a number behind the last
pub params_above : (n : ℕ) (ys : List NumberedParam) (k : ℕ) → n + length ys ≤ k → find (λ (v : ScopeVariable). v.number == k) (parameters_from n ys) ≡ None
params_above n [] k h = refl
params_above n (y ∷ ys) k h =
    ap (λ b. cond b (Some (record { number = n; type = y.ty.type; is_single = y.ty.is_single })) (find (λ (v : ScopeVariable). v.number == k) (parameters_from (n + 1) ys))) (other (n == k) refl)
    ∙ params_above (n + 1) ys k (omega (arith, h))
  where
    other : (b : Bool) → (n == k) ≡ b → b ≡ false
    other true e = let same = eqb-true n k e in absurd (omega (arith, same, h))
    other false e = refl

-- behind parameters, which have types and the next numbers
pub record Behind (s : ScopeContents) (a b : Site) (n : ℕ) : Type 0 where
  pub text : b.text ≡ a.text
  pub class : b.class ≡ a.class
  pub static : b.static ≡ a.static
  pub scope : AllVariables s b.scope
  pub variables : b.variables ≡ a.variables + n

pub params_behind : (s : ScopeContents) (site : Site) (ps : List ParamTree) (ys : List NumberedParam) → NumbersParamList site ps ys
    → AllVariables s site.scope → Behind s site (behind_params site ps) (length ys)
params_behind s site ps ys number.none a = record { text = refl; class = refl; static = refl; scope = a; variables = omega arith }
params_behind s site ps ys (number.more {param = param} {params = params} {ys = rest} type fresh room h) a =
    let inside = declares site param.name (typed_as site.text param.ty) in
    let q = params_behind s inside params rest h (with_known s site.scope param.name (record { number = site.variables; declared = typed_as site.text param.ty }) a tt) in
    record { text = q.text; class = q.class; static = q.static; scope = q.scope; variables = q.variables ∙ plus site.variables (length rest) }
  where
    plus : (a b : ℕ) → (a + 1) + b ≡ a + suc b
    plus a b = omega arith

pub body_fits : (p : ProgramView) (this : Option ℕ) (site : Site) (ps : ParamsTree) (params : NumberedParams) → NumbersParams site ps params
    → TextFits p site.text → (site.static ≡ false → this ≡ Some site.class)
    → AllVariables (record { this_class = this; variables = parameters params }) site.scope → site.variables ≡ 0
    → SiteFits p (record { this_class = this; variables = parameters params }) (body_site site ps)
body_fits p this site ps params number.words k h a z = record { text = k; this = h; scope = a; fresh = λ i l. refl }
body_fits p this site ps params (number.params {params = trees} {ys = ys} n) k h a z =
    let q = params_behind (record { this_class = this; variables = parameters_from 0 ys }) site trees ys n a in
    let count = q.variables in
    let last : 0 + length ys ≡ (behind_params site trees).variables = omega (arith, count, z) in
    record {
      text = subst (TextFits p) (sym q.text) k;
      this = λ e. h (sym q.static ∙ e) ∙ ap Some (sym q.class);
      scope = q.scope;
      fresh = λ i l. params_above 0 ys i (omega (arith, last, l));
    }
