-- In the resolved program of a source program, every reference of an expression refers to something, and the scopes of name resolution
-- agree with those of the typing rules.
use Rattle.std.proofs.Common.{◌≡◌, ◌⊎◌, inl, inr, ℕ, zero, suc, ◌<◌, ◌≤◌, ◌==◌, nat_lt, Bool, true, false, not, ◌||◌, ◌&&◌, cond}
use Rattle.std.proofs.Common.{if◌then◌else◌, length, position, slice_get, get_or, is_some, option_map, option_and_then, Option, Some, None}
use Rattle.std.proofs.Common.{List, [], ◌∷◌, ◌++◌, bytes_eq, refl, ap, sym, ◌∙◌, subst, arith}
use Rattle.std.specs.List.{position_or_len}
use Rattle.std.specs.Option.{option_map_or}
use Rattle.std.specs.Map.{lookup}
use Rattle.std.proofs.lemmas.Bool.{ltb-true}
use Rattle.std.proofs.lemmas.Option.{cond_some, slice_get_cases}
use Rattle.ti_syntax.specs.Trees.Expressions.{Exp, Exps, RangeTree, RangeTrees}
use Rattle.ti_syntax.specs.Trees.Statements.{Stm, MaybeStm, Stms}
use Rattle.ti_syntax.specs.Trees.Statements as st
use Rattle.ti_syntax.specs.Trees.Classes.{FieldTree, ClassTree, TextTree}
use Rattle.ti_lang.specs.Program.Types.{ValueType, Declaration, VariableUse}
use Rattle.ti_lang.specs.Program.Types as t
use Rattle.ti_lang.specs.Program.Expressions.{NumberedExp, NumberedExps, NumberedRange, NumberedRanges}
use Rattle.ti_lang.specs.Program.Classes.{NumberedField, NumberedClass, NumberedMethod, ProgramView}
use Rattle.ti_lang.specs.Program.Scope.{ScopeContents}
use Rattle.ti_lang.specs.Members as members
use Rattle.ti_lang.specs.Members.{only_if, fields_in, fields_of, field_named, OwnMethod, methods_of, method_named, is_static}
use Rattle.ti_lang.specs.Scopes.{Site, Known, with_variable, declares, past, past_maybe, past_all, past_variable, site_after, behind_maybe, own_field_named, own_method_named, static_method_named}
use Rattle.ti_lang.specs.Numbering as number
use Rattle.ti_lang.specs.Numbering.{NumbersExp, NumbersExps, NumbersRange, NumbersRanges, NumbersFields, NumbersClasses, NumbersMethod, NumbersMethods, Numbers}
use Rattle.ti_lang.specs.Typing.Kinds.{dim_of_type}
use Rattle.ti_lang.specs.Typing.Declared.{in_scope, declared_type, field_type, is_static_method}
use Rattle.ti_lang.specs.Typing.TextTypes.{IsDimOf, AreDims, IsRangeDims, AreRangesDims}
use Rattle.ti_rules.specs.Known.{IsThere, IsKnown, AreKnown, IsKnownRange, AreKnownRanges}

pub none_some : {A : Type 0} (a : A) → ◌≡◌ {A = Option A} None (Some a) → ⊥
none_some a e = cc

pub some_same : {A : Type 0} (a b : A) → ◌≡◌ {A = Option A} (Some a) (Some b) → a ≡ b
some_same a b e = cc

-- ---- what is found by a name

position_there : {A : Type 0} (test : A → Bool) (xs : List A) (k : ℕ) → position test xs ≡ Some k → (a : A) × (slice_get xs k ≡ Some a)
position_there {A} test xs k h = by (slice_get_cases xs (position_or_len test xs)).1
  where
    there : (nat_lt (position_or_len test xs) (length xs) ≡ true) × (position_or_len test xs ≡ k)
    there = cond_some (nat_lt (position_or_len test xs) (length xs)) (position_or_len test xs) k h

    by : ((a : A) × (position_or_len test xs < length xs) × (slice_get xs (position_or_len test xs) ≡ Some a)
        × (get_or xs (position_or_len test xs) a ≡ a)) ⊎ ((length xs ≤ position_or_len test xs)
        × (slice_get xs (position_or_len test xs) ≡ None))
        → (a : A) × (slice_get xs k ≡ Some a)
    by (inl q) = (q.0, subst (λ i. slice_get xs i ≡ Some q.0) there.1 q.2)
    by (inr q) = let lt = ltb-true (position_or_len test xs) (length xs) there.0 in absurd (omega (arith, lt, q.0))

pub only_if_there : {A : Type 0} (test : A → Bool) (o : Option A) (a : A) → only_if test o ≡ Some a → (o ≡ Some a) × (test a ≡ true)
only_if_there test None a h = absurd (none_some a h)
only_if_there test (Some x) a h = let q = cond_some (test x) x a h in (ap Some q.1, subst (λ y. test y ≡ true) q.1 q.0)

-- ---- what there is

-- what the text says of its program: which fields and methods are there
pub record TextFits (p : ProgramView) (text : TextTree) : Type 0 where
  pub fields : (class : ℕ) (name : List ℕ) (field : ℕ) → field_named text class name ≡ Some field → IsThere (field_type p class field)
  pub methods : (k : ℕ) (own : OwnMethod) → slice_get (methods_of text) k ≡ Some own → (m : NumberedMethod) × (slice_get p.methods k ≡ Some m) × (is_static_method m ≡ is_static own.method)

method_like : (site : Site) (own : OwnMethod) (m : NumberedMethod) → NumbersMethod site own m → is_static_method m ≡ is_static own.method
method_like site own m (number.method r ps h) = refl

method_at : (text : TextTree) (n before : ℕ) (owns : List OwnMethod) (ms : List NumberedMethod) → NumbersMethods text n before owns ms → (k : ℕ) (own : OwnMethod) → slice_get owns k ≡ Some own
    → (m : NumberedMethod) × (slice_get ms k ≡ Some m) × (is_static_method m ≡ is_static own.method)
method_at text n before owns ms number.none k own e = absurd (none_some own e)
method_at text n before owns ms (number.more {own = x} {method = m} e h rest) zero own i = (m, refl, method_like _ x m h ∙ ap (λ (o : OwnMethod). is_static o.method) (some_same x own i))
method_at text n before owns ms (number.more e h rest) (suc k) own i = method_at text _ _ _ _ rest k own i

class_at : (text : TextTree) (n : ℕ) (cs : List ClassTree) (ds : List NumberedClass) → NumbersClasses text n cs ds → (k : ℕ) (x : ClassTree) → slice_get cs k ≡ Some x
    → (j : ℕ) × (d : NumberedClass) × (slice_get ds k ≡ Some d) × NumbersFields text j 0 (fields_in x.members) d.fields
class_at text n cs ds number.none k x e = absurd (none_some x e)
class_at text n cs ds (number.more {c = y} {gs = gs} e h rest) zero x i =
    (n, record { modifiers = y.modifiers; fields = gs }, refl, subst (λ (z : ClassTree). NumbersFields text n 0 (fields_in z.members) gs) (some_same y x i) h)
class_at text n cs ds (number.more e h rest) (suc k) x i = class_at text _ _ _ rest k x i

field_at : (text : TextTree) (class n : ℕ) (fs : List FieldTree) (gs : List NumberedField) → NumbersFields text class n fs gs
    → (k : ℕ) (f : FieldTree) → slice_get fs k ≡ Some f → (g : NumberedField) × (slice_get gs k ≡ Some g)
field_at text class n fs gs number.none k f e = absurd (none_some f e)
field_at text class n fs gs (number.more e h rest) zero f i = (_, refl)
field_at text class n fs gs (number.more e h rest) (suc k) f i = field_at text class _ _ _ rest k f i

pub text_fits : (p : ProgramView) (text : TextTree) → Numbers text p → TextFits p text
text_fits p text n = record { fields = field_there; methods = λ k own e. method_at text 0 0 (methods_of text) p.methods n.methods k own e }
  where
    field_there : (class : ℕ) (name : List ℕ) (field : ℕ) → field_named text class name ≡ Some field → IsThere (field_type p class field)
    field_there class name field h = by (slice_get text class) refl
      where
        found : (f : FieldTree) × (slice_get (fields_of text class) field ≡ Some f)
        found = position_there (λ (f : FieldTree). bytes_eq name f.name) (fields_of text class) field h

        by : (o : Option ClassTree) → slice_get text class ≡ o → IsThere (field_type p class field)
        by None e = absurd (none_some found.0 (ap (λ (o : Option ClassTree). slice_get (option_map_or (λ (c : ClassTree). fields_in c.members) o []) field) (sym e) ∙ found.1))
        by (Some x) e =
            let d = class_at text 0 text p.classes n.classes class x e in
            let g = field_at text d.0 0 (fields_in x.members) d.1.fields d.3 field found.0
            (ap (λ (o : Option ClassTree). slice_get (option_map_or (λ (c : ClassTree). fields_in c.members) o []) field) (sym e)
            ∙ found.1) in (
              g.0.ty.type,
              ap (λ (o : Option NumberedClass). option_map (λ (f : NumberedField). f.ty.type) (slice_get (option_map_or (λ (c : NumberedClass). c.fields) o []) field)) d.2
                  ∙ ap (λ (o : Option NumberedField). option_map (λ (f : NumberedField). f.ty.type) o) g.1,
            )

-- ---- variables

-- one with a type, or the point of a foreach that is in scope
abbrev pub VariableKnown : ScopeContents → ℕ → Declaration → Type 0
VariableKnown s number (t.Typed is_single type) = Unit {0}
VariableKnown s number t.Foreach = (n : ℕ) × (declared_type s number t.Foreach ≡ Some (t.Pt n))

-- all that are in scope at a site
abbrev pub AllVariables : ScopeContents → List Known → Type 0
AllVariables s [] = Unit {0}
AllVariables s (known ∷ rest) = VariableKnown s known.1.number known.1.declared × AllVariables s rest

variable_there : (s : ScopeContents) (number : ℕ) (d : Declaration) → VariableKnown s number d → IsThere (declared_type s number d)
variable_there s number (t.Typed is_single type) k = (type, refl)
variable_there s number t.Foreach k = (t.Pt k.0, k.1)

-- how many dimensions a scope says of the points of loops
abbrev pub dims_in : ScopeContents → ℕ → ℕ
dims_in s number = option_map_or dim_of_type (declared_type s number t.Foreach) 1

variable_dims : (s : ScopeContents) (number : ℕ) (d : Declaration) → VariableKnown s number d → IsDimOf s (dims_in s) number d
variable_dims s number (t.Typed is_single type) k = tt
variable_dims s number t.Foreach k = λ type e. sym (some_same (t.Pt k.0) type (sym k.1 ∙ e)) ∙ ap t.Pt (sym (ap (λ (o : Option ValueType). option_map_or dim_of_type o 1) k.1))

found_known : (s : ScopeContents) (test : List ℕ → Bool) (scope : List Known) (v : VariableUse) → AllVariables s scope → lookup test scope ≡ Some v → VariableKnown s v.number v.declared
found_known s test [] v a h = absurd (none_some v h)
found_known s test (e ∷ rest) v a h = by (test e.0) h (found_known s test rest v a.1)
  where
    by : (b : Bool) → cond b (Some e.1) (lookup test rest) ≡ Some v → (lookup test rest ≡ Some v → VariableKnown s v.number v.declared) → VariableKnown s v.number v.declared
    by true h ih = subst (λ (u : VariableUse). VariableKnown s u.number u.declared) (some_same e.1 v h) a.0
    by false h ih = ih h

one_more_known : (s : ScopeContents) (scope : List Known) (known : Known) → AllVariables s scope → VariableKnown s known.1.number known.1.declared → AllVariables s (scope ++ known ∷ [])
one_more_known s [] known a h = (h, tt)
one_more_known s (e ∷ rest) known a h = (a.0, one_more_known s rest known a.1 h)

pub with_known : (s : ScopeContents) (scope : List Known) (name : List ℕ) (v : VariableUse) → AllVariables s scope → VariableKnown s v.number v.declared → AllVariables s (with_variable scope name v)
with_known s scope name v a h = by (is_some (lookup (bytes_eq name) scope))
  where
    by : (b : Bool) → AllVariables s (if b then scope else scope ++ (name, v) ∷ [])
    by true = a
    by false = one_more_known s scope (name, v) a h

-- ---- sites

-- what is known at a site whose scope is this; the numbers from there on are free
pub record SiteFits (p : ProgramView) (s : ScopeContents) (site : Site) : Type 0 where
  pub text : TextFits p site.text
  pub this : site.static ≡ false → s.this_class ≡ Some site.class
  pub scope : AllVariables s site.scope
  pub fresh : (k : ℕ) → site.variables ≤ k → in_scope s k ≡ None

pub declares_fits : (p : ProgramView) (s : ScopeContents) (site : Site) (name : List ℕ) (is_single : Bool) (type : ValueType)
    → SiteFits p s site → SiteFits p s (declares site name (t.Typed is_single type))
declares_fits p s site name is_single type k = record {
  text = k.text;
  this = k.this;
  scope = with_known s site.scope name (record { number = site.variables; declared = t.Typed is_single type }) k.scope tt;
  fresh = λ i l. k.fresh i (omega (arith, l));
}

-- the second site knows the same, and its numbers are no lower
pub record Keeps (a b : Site) : Type 0 where
  pub text : b.text ≡ a.text
  pub class : b.class ≡ a.class
  pub static : b.static ≡ a.static
  pub scope : b.scope ≡ a.scope
  pub variables : a.variables ≤ b.variables

keeps_same : (a : Site) → Keeps a a
keeps_same a = record { text = refl; class = refl; static = refl; scope = refl; variables = omega arith }

keeps_then : (a b c : Site) → Keeps a b → Keeps b c → Keeps a c
keeps_then a b c f g = record {
  text = g.text ∙ f.text;
  class = g.class ∙ f.class;
  static = g.static ∙ f.static;
  scope = g.scope ∙ f.scope;
  variables = let x = f.variables in let y = g.variables in omega (arith, x, y);
}

keeps_variable : (a : Site) → Keeps a (past_variable a)
keeps_variable a = record { text = refl; class = refl; static = refl; scope = refl; variables = omega arith }

mutual
  pub past_keeps : (site : Site) (x : Stm) → Keeps site (past site x)
  past_keeps site (st.Declare at type name value) = keeps_variable site
  past_keeps site (st.Print at what) = record { text = refl; class = refl; static = refl; scope = refl; variables = omega arith }
  past_keeps site (st.Block body) = past_all_keeps site body
  past_keeps site (st.If at c x) = past_keeps site x
  past_keeps site (st.IfElse at c x y) = keeps_then site (past site x) (past (past site x) y) (past_keeps site x) (past_keeps (past site x) y)
  past_keeps site (st.While at c body) = past_keeps site body
  past_keeps site (st.For at first c update body) =
      let a = past_maybe site first in
      let b = past_maybe a update in
      keeps_then site b (past b body) (keeps_then site a b (past_maybe_keeps site first) (past_maybe_keeps a update)) (past_keeps b body)
  past_keeps site (st.Foreach at name_at name domain body) = keeps_then site (past_variable site) (past (past_variable site) body) (keeps_variable site) (past_keeps (past_variable site) body)
  past_keeps site _ = keeps_same site

  pub past_maybe_keeps : (site : Site) (x : MaybeStm) → Keeps site (past_maybe site x)
  past_maybe_keeps site st.NoStm = keeps_same site
  past_maybe_keeps site (st.SomeStm x) = past_keeps site x

  past_all_keeps : (site : Site) (xs : Stms) → Keeps site (past_all site xs)
  past_all_keeps site st.Nil = keeps_same site
  past_all_keeps site (st.Cons x rest) = keeps_then site (past site x) (past_all (past site x) rest) (past_keeps site x) (past_all_keeps (past site x) rest)

-- no number is lower behind a statement
pub behind_more : (site : Site) (x : Stm) → site.variables ≤ (site_after site x).variables
behind_more site (st.Declare at type name value) = omega arith
behind_more site x = (past_keeps site x).variables

kept_fits : (p : ProgramView) (s : ScopeContents) (a b : Site) → Keeps a b → SiteFits p s a → SiteFits p s b
kept_fits p s a b e k = record {
  text = subst (TextFits p) (sym e.text) k.text;
  this = λ h. k.this (sym e.static ∙ h) ∙ ap Some (sym e.class);
  scope = subst (AllVariables s) (sym e.scope) k.scope;
  fresh = λ i l. let v = e.variables in k.fresh i (omega (arith, v, l));
}

pub past_fits : (p : ProgramView) (s : ScopeContents) (site : Site) (x : Stm) → SiteFits p s site → SiteFits p s (past site x)
past_fits p s site x k = kept_fits p s site (past site x) (past_keeps site x) k

pub past_maybe_fits : (p : ProgramView) (s : ScopeContents) (site : Site) (x : MaybeStm) → SiteFits p s site → SiteFits p s (past_maybe site x)
past_maybe_fits p s site x k = kept_fits p s site (past_maybe site x) (past_maybe_keeps site x) k

pub behind_fits : (p : ProgramView) (s : ScopeContents) (site : Site) (x : Stm) → SiteFits p s site → SiteFits p s (site_after site x)
behind_fits p s site (st.Declare at type name value) k = declares_fits p s site name _ _ k
behind_fits p s site x k = past_fits p s site x k

pub behind_maybe_fits : (p : ProgramView) (s : ScopeContents) (site : Site) (x : MaybeStm) → SiteFits p s site → SiteFits p s (behind_maybe site x)
behind_maybe_fits p s site st.NoStm k = k
behind_maybe_fits p s site (st.SomeStm x) k = behind_fits p s site x k

-- ---- expressions

module _ (p : ProgramView) (s : ScopeContents) (site : Site) (k : SiteFits p s site) where
  own_field_there : (name : List ℕ) (field : ℕ) → own_field_named site name ≡ Some field → IsThere (option_and_then (λ c. field_type p c field) s.this_class)
  own_field_there name field h = by site.static refl h
    where
      by : (b : Bool) → site.static ≡ b → (if b then None else field_named site.text site.class name) ≡ Some field → IsThere (option_and_then (λ c. field_type p c field) s.this_class)
      by true z h = absurd (none_some field h)
      by false z h = let f = k.text.fields site.class name field h in (f.0, ap (λ (o : Option ℕ). option_and_then (λ c. field_type p c field) o) (k.this z) ∙ f.1)

  -- a method that is named in a class, static where the text says so
  method_there : (class : ℕ) (name : List ℕ) (method : ℕ) → method_named site.text class name ≡ Some method
      → (m : NumberedMethod) × (slice_get p.methods method ≡ Some m) × (is_static_method m ≡ members.is_static_method site.text method)
  method_there class name method h =
      let q = position_there (λ (own : OwnMethod). (own.class == class) && bytes_eq name own.method.name) (methods_of site.text) method h in
      let c = k.text.methods method q.0 q.1 in
      (c.0, c.1, c.2 ∙ sym (ap (λ (o : Option OwnMethod). option_map_or (λ (own : OwnMethod). is_static own.method) o false) q.1))

  -- the method of a call
  pub own_there : (name : List ℕ) (method : ℕ) → own_method_named site name ≡ Some method → (m : NumberedMethod)
      × (slice_get p.methods method ≡ Some m) × (is_static_method m ≡ members.is_static_method site.text method)
  own_there name method h = method_there site.class name method (only_if_there (λ j. members.is_static_method site.text j || not site.static) (method_named site.text site.class name) method h).0

  pub static_there : (class : ℕ) (name : List ℕ) (method : ℕ) → static_method_named site class name ≡ Some method → (m : NumberedMethod)
      × (slice_get p.methods method ≡ Some m) × (is_static_method m ≡ true)
  static_there class name method h =
      let q = only_if_there (members.is_static_method site.text) (method_named site.text class name) method h in
      let c = method_there class name method q.0 in
      (c.0, c.1, c.2 ∙ q.1)

  mutual
    pub exp_known : (x : Exp) (y : NumberedExp) → NumbersExp site x y → IsKnown p s y
    exp_known x y number.int = tt
    exp_known x y number.long = tt
    exp_known x y number.truth = tt
    exp_known x y number.null = tt
    exp_known x y (number.this h) = (site.class, k.this h)
    exp_known x y (number.variable {name = name} {v = v} h) = variable_there s v.number v.declared (found_known s (bytes_eq name) site.scope v k.scope h)
    exp_known x y (number.own_field {name = name} {field = field} h i) = own_field_there name field i
    exp_known x y (number.call {name = name} {method = method} h z xs) = let c = own_there name method h in ((c.0, c.1), exps_known _ _ xs)
    exp_known x y (number.own_call {name = name} {method = method} h z xs) = let c = own_there name method h in ((c.0, c.1), exps_known _ _ xs)
    exp_known x y number.this_proc = tt
    exp_known x y number.num_procs = tt
    exp_known x y (number.point h) = exps_known _ _ h
    exp_known x y (number.rect h) = ranges_known _ _ h
    exp_known x y (number.unary h) = exp_known _ _ h
    exp_known x y (number.binary h i) = (exp_known _ _ h, exp_known _ _ i)
    exp_known x y (number.cast b h) = exp_known _ _ h
    exp_known x y (number.select h i) = exp_known _ _ i
    exp_known x y (number.member h i xs) = (exp_known _ _ i, exps_known _ _ xs)
    exp_known x y (number.class_call {name = name} {class = class} {method = method} h i xs) = let c = static_there class name method i in ((c.0, c.1), exps_known _ _ xs)
    exp_known x y (number.index h xs) = (exp_known _ _ h, exps_known _ _ xs)

    exps_known : (xs : Exps) (ys : NumberedExps) → NumbersExps site xs ys → AreKnown p s ys
    exps_known xs ys number.no_exps = tt
    exps_known xs ys (number.more_exps h rest) = (exp_known _ _ h, exps_known _ _ rest)

    range_known : (r : RangeTree) (q : NumberedRange) → NumbersRange site r q → IsKnownRange p s q
    range_known r q (number.plain h i) = (exp_known _ _ h, exp_known _ _ i)
    range_known r q (number.stepped h i j) = (exp_known _ _ h, exp_known _ _ i, exp_known _ _ j)

    ranges_known : (rs : RangeTrees) (qs : NumberedRanges) → NumbersRanges site rs qs → AreKnownRanges p s qs
    ranges_known rs qs number.no_ranges = tt
    ranges_known rs qs (number.more_ranges h rest) = (range_known _ _ h, ranges_known _ _ rest)

  mutual
    pub exp_dims : (x : Exp) (y : NumberedExp) → NumbersExp site x y → AreDims s (dims_in s) y
    exp_dims x y (number.variable {name = name} {v = v} h) = variable_dims s v.number v.declared (found_known s (bytes_eq name) site.scope v k.scope h)
    exp_dims x y (number.rect h) = ranges_dims _ _ h
    exp_dims x y (number.unary h) = exp_dims _ _ h
    exp_dims x y (number.binary h i) = (exp_dims _ _ h, exp_dims _ _ i)
    exp_dims x y (number.select h i) = exp_dims _ _ i
    exp_dims x y (number.member h i xs) = exp_dims _ _ i
    exp_dims x y (number.index h xs) = exp_dims _ _ h
    exp_dims x y _ = tt

    range_dims : (r : RangeTree) (q : NumberedRange) → NumbersRange site r q → IsRangeDims s (dims_in s) q
    range_dims r q (number.plain h i) = exp_dims _ _ h
    range_dims r q (number.stepped h i j) = exp_dims _ _ h

    ranges_dims : (rs : RangeTrees) (qs : NumberedRanges) → NumbersRanges site rs qs → AreRangesDims s (dims_in s) qs
    ranges_dims rs qs number.no_ranges = tt
    ranges_dims rs qs (number.more_ranges h rest) = (range_dims _ _ h, ranges_dims _ _ rest)
