-- What the numbers of a text say of its program: what each name means, and that each foreach variable has a number of its own.
use Rattle.std.proofs.Common.{◌≡◌, ◌⊎◌, inl, inr, ℕ, ◌+◌, ◌<◌, ◌≤◌, nat_lt, ◌==◌, Bool, true, false, not, ◌&&◌, ◌||◌, cond, if◌then◌else◌}
use Rattle.std.proofs.Common.{length, find, position, slice_get, is_some, is_none, option_and_then, Option, Some, None, List, [], ◌∷◌, ◌++◌}
use Rattle.std.proofs.Common.{get_or, bytes_eq, refl, ap, ap₂, sym, ◌∙◌, subst, arith, eqb-true, eq-eqb}
use Rattle.std.specs.List.{position_or_len}
use Rattle.std.specs.Option.{option_map_or}
use Rattle.std.specs.Map.{lookup}
use Rattle.std.proofs.lemmas.Bool.{ltb-true}
use Rattle.std.proofs.lemmas.List.Folds.{find_at}
use Rattle.std.proofs.lemmas.Option.{cond_some, slice_get_cases}
use Rattle.ti_syntax.specs.declared.tree.types.Base.{Base}
use Rattle.ti_syntax.specs.declared.tree.types.Base.TheVariants as base
use Rattle.ti_syntax.specs.declared.tree.types.Qualifier.{Qualifier}
use Rattle.ti_syntax.specs.Trees.Types.{GridTree, TypeTree}
use Rattle.ti_syntax.specs.Trees.Expressions.{Exp, Exps, RangeTree, RangeTrees, ranges_tree}
use Rattle.ti_syntax.specs.Trees.Statements.{DimsTree, InitTree, PrintTree, Stm, MaybeStm, Stms}
use Rattle.ti_syntax.specs.Trees.Statements as s
use Rattle.ti_syntax.specs.Trees.Classes.{TextTree}
use Rattle.ti_lang.specs.Program.Types.{ValueType, Declaration, VariableUse}
use Rattle.ti_lang.specs.Program.Types as t
use Rattle.ti_lang.specs.Program.Expressions.{NumberedExp, NumberedExps, NumberedRange, NumberedRanges, numbered_ranges}
use Rattle.ti_lang.specs.Program.Statements.{NumberedDims, NumberedInit, NumberedPrint, NumberedStm, MaybeNumbered}
use Rattle.ti_lang.specs.Program.Classes.{NumberedMethod, ProgramView}
use Rattle.ti_lang.specs.Program.Scope.{this_of, method_scope}
use Rattle.ti_lang.specs.Members as members
use Rattle.ti_lang.specs.Members.{only_if, class_named, field_named, OwnMethod, methods_of, method_named, is_static}
use Rattle.ti_lang.specs.Scopes.{class_type, base_type, grid_type, value_type, has_local, Known, Site, with_variable, declares, typed_as, past_variable, past, past_maybe, past_all, site_after, behind_maybe, own_field_named, own_method_named}
use Rattle.ti_lang.specs.Typing.Kinds.{is_void}
use Rattle.ti_lang.specs.Typing.Declared.{in_scope, field_type, is_static_method}
use Rattle.ti_lang.specs.Typing.Expressions.{range_count}
use Rattle.ti_lang.specs.Typing.TextTypes.{how_many}
use Rattle.ti_lang.specs.Numbering as number
use Rattle.ti_lang.specs.Numbering.{IsKnownBase, NumbersExp, NumbersExps, NumbersRange, NumbersRanges, NumbersMaybe}
use Rattle.ti_lang.specs.Numbering.{NumbersDims, NumbersInit, NumbersPrint, NumbersStm, NumbersMaybeStm}
use Rattle.ti_base.specs.Forms.{is_dim}
use Rattle.ti_rules.specs.Mirrors.Literals.{InExp, InExps, InRange, InRanges, InOption, InDims, InInit, InPrint}
use Rattle.ti_align.specs.Mirrors.ContItem.{is_form_of_call}
use Rattle.ti_align.proofs.Runs.Vars.{true_false, not_true, and_left, and_right}
use Rattle.ti_align.proofs.RunTypes.Operating.{none_some, some_same}
use Rattle.ti_align.proofs.TextTypes.Meant.{storable, formed, among, means, covers, serves, is_place, ExpMeant, ExpsMeant, RangeMeant, RangesMeant, OptionMeant, DimsMeant, InitMeant, PrintMeant, TargetMeant}
use Rattle.ti_align.proofs.TextTypes.Spelled as fine
use Rattle.ti_align.proofs.TextTypes.Spelled.{base_formed, base_storable, grids_formed, FieldFine, TypeFine, tree_count, ranges_count}
use Rattle.ti_align.proofs.TextTypes.Spelled.{is_target_tree, is_call_tree, ExpFine, ExpsFine, RangeFine, RangesFine, OptionFine, InitFine}
use Rattle.ti_align.proofs.TextTypes.Spelled.{PrintFine, TargetFine, StmFine, MaybeFine}

-- ---- lists

find_passes : {A : Type 0} (test : A → Bool) (xs : List A) (a : A) → find test xs ≡ Some a → test a ≡ true
find_passes test [] a h = absurd (none_some a h)
find_passes {A} test (x ∷ xs) a h = by (test x) refl h (find_passes test xs a)
  where
    by : (b : Bool) → test x ≡ b → cond b (Some x) (find test xs) ≡ Some a → (find test xs ≡ Some a → test a ≡ true) → test a ≡ true
    by true i h ih = subst (λ y. test y ≡ true) (some_same x a h) i
    by false i h ih = ih h

pub position_there : {A : Type 0} (test : A → Bool) (xs : List A) (k : ℕ) → position test xs ≡ Some k → (a : A) × (slice_get xs k ≡ Some a) × (test a ≡ true)
position_there {A} test xs k h = by (slice_get_cases xs (position_or_len test xs)).1
  where
    there : (nat_lt (position_or_len test xs) (length xs) ≡ true) × (position_or_len test xs ≡ k)
    there = cond_some (nat_lt (position_or_len test xs) (length xs)) (position_or_len test xs) k h

    by : ((a : A) × (position_or_len test xs < length xs) × (slice_get xs (position_or_len test xs) ≡ Some a)
        × (get_or xs (position_or_len test xs) a ≡ a)) ⊎ ((length xs ≤ position_or_len test xs)
        × (slice_get xs (position_or_len test xs) ≡ None))
        → (a : A) × (slice_get xs k ≡ Some a) × (test a ≡ true)
    by (inl q) = (q.0, subst (λ i. slice_get xs i ≡ Some q.0) there.1 q.2, find_passes test xs q.0 (find_at test xs ∙ q.2))
    by (inr q) = let lt = ltb-true (position_or_len test xs) (length xs) there.0 in absurd (omega (arith, lt, q.0))

only_if_there : {A : Type 0} (test : A → Bool) (o : Option A) (a : A) → only_if test o ≡ Some a → (o ≡ Some a) × (test a ≡ true)
only_if_there test None a h = absurd (none_some a h)
only_if_there test (Some x) a h = let q = cond_some (test x) x a h in (ap Some q.1, subst (λ y. test y ≡ true) q.1 q.0)

pub other_number : (n k : ℕ) → n < k → (n == k) ≡ false
other_number n k h = not_true (n == k) (λ e. let same = eqb-true n k e in absurd (omega (arith, same, h)))

-- ---- types

base_value : (text : TextTree) (words : List Qualifier) (b : Base) → IsKnownBase text b → base_formed b ≡ true → (formed (base_type text words b) ≡ true) × (is_void (base_type text words b) ≡ false)
base_value text words (base.Int at) k h = (refl, refl)
base_value text words (base.Long at) k h = (refl, refl)
base_value text words (base.Boolean at) k h = (refl, refl)
base_value text words (base.Point at n) k h = (h, refl)
base_value text words (base.RectDomain at n) k h = (h, refl)
base_value text words (base.Domain at n) k h = (h, refl)
base_value text words (base.SharedRegion at) k h = (refl, refl)
base_value text words (base.Named at name) k h = subst (λ o. (formed (class_type (has_local words) o) ≡ true) × (is_void (class_type (has_local words) o) ≡ false)) (sym k.1) (refl, refl)

base_stored : (text : TextTree) (words : List Qualifier) (b : Base) → IsKnownBase text b → base_storable b ≡ true → storable (base_type text words b) ≡ true
base_stored text words (base.Domain at n) k h = absurd (true_false (sym h))
base_stored text words (base.SharedRegion at) k h = absurd (true_false (sym h))
base_stored text words (base.Named at name) k h = subst (λ o. storable (class_type (has_local words) o) ≡ true) (sym k.1) refl
base_stored text words _ k h = refl

grid_value : (element : ValueType) (gs : List GridTree) → formed element ≡ true → storable element ≡ true → grids_formed gs ≡ true
    → (formed (grid_type element gs) ≡ true) × (storable (grid_type element gs) ≡ true)
grid_value element [] f d h = (f, d)
grid_value element (g ∷ rest) f d h =
    let q = grid_value element rest f d (and_right (is_dim g.dim) (grids_formed rest) h) in
    (ap₂ (λ a b. a && b) (and_left (is_dim g.dim) (grids_formed rest) h) (ap₂ (λ a b. a && b) q.1 q.0), refl)

-- the type of a field
pub field_value : (text : TextTree) (ty : TypeTree) → IsKnownBase text ty.base → FieldFine ty → (formed (value_type text ty) ≡ true) × (storable (value_type text ty) ≡ true)
field_value text ty k f = grid_value (base_type text ty.qualifiers ty.base) ty.grids (base_value text ty.qualifiers ty.base k f.0).0 (base_stored text ty.qualifiers ty.base k f.2) f.1

something : (type : ValueType) → storable type ≡ true → is_void type ≡ false
something t.Void h = absurd (true_false (sym h))
something _ h = refl

-- any type
written_value : (text : TextTree) (ty : TypeTree) → IsKnownBase text ty.base → TypeFine ty → (formed (value_type text ty) ≡ true) × (is_void (value_type text ty) ≡ false)
written_value text ty k f = by f.2
  where
    by : (base_storable ty.base ≡ true) ⊎ (ty.grids ≡ []) → (formed (value_type text ty) ≡ true) × (is_void (value_type text ty) ≡ false)
    by (inl h) = let q = field_value text ty k (f.0, f.1, h) in (q.0, something (value_type text ty) q.1)
    by (inr h) = subst (λ gs. (formed (grid_type (base_type text ty.qualifiers ty.base) gs) ≡ true)
        × (is_void (grid_type (base_type text ty.qualifiers ty.base) gs) ≡ false)) (sym h) (base_value text ty.qualifiers ty.base k f.0)

-- a variable that is declared with a type may be used
pub typed_means : (m : NumberedMethod) (turns : List ℕ) (k : ℕ) (text : TextTree) (ty : TypeTree) → IsKnownBase text ty.base → TypeFine ty → means m turns k (typed_as text ty) ≡ true
typed_means m turns k text ty b f = let q = written_value text ty b f in ap₂ (λ a c. a && not c) q.0 q.1

-- ---- sites

-- what the text says of its program
pub record TextFits (p : ProgramView) (text : TextTree) : Type 0 where
  pub fields : (class : ℕ) (name : List ℕ) (field : ℕ) → field_named text class name ≡ Some field → is_some (field_type p class field) ≡ true
  pub methods : (k : ℕ) (own : OwnMethod) → slice_get (methods_of text) k ≡ Some own
      → (m : NumberedMethod) × (slice_get p.methods k ≡ Some m) × (m.class ≡ own.class) × (is_static_method m ≡ is_static own.method)
  pub classes : (name : List ℕ) (k : ℕ) → class_named text name ≡ Some k → is_some (slice_get p.classes k) ≡ true

-- each variable that is known may be used
abbrev pub AllMean : NumberedMethod → List ℕ → List Known → Type 0
AllMean m turns [] = Unit {0}
AllMean m turns (known ∷ rest) = (means m turns known.1.number known.1.declared ≡ true) × AllMean m turns rest

-- what is known at a site within these foreach loops of a method
pub record SiteMeans (p : ProgramView) (m : NumberedMethod) (turns : List ℕ) (site : Site) : Type 0 where
  pub text : TextFits p site.text
  pub this : site.static ≡ false → this_of m ≡ Some site.class
  pub scope : AllMean m turns site.scope

-- and the numbers from there on are none of these loops, nor of a parameter
pub record SiteFits (p : ProgramView) (m : NumberedMethod) (turns : List ℕ) (site : Site) : Type 0 where
  pub known : SiteMeans p m turns site
  pub below : (k : ℕ) → site.variables ≤ k → among turns k ≡ false
  pub fresh : (k : ℕ) → site.variables ≤ k → is_none (in_scope (method_scope m) k) ≡ true

looked : (m : NumberedMethod) (turns : List ℕ) (test : List ℕ → Bool) (scope : List Known) (v : VariableUse) → AllMean m turns scope
    → lookup test scope ≡ Some v → means m turns v.number v.declared ≡ true
looked m turns test [] v a h = absurd (none_some v h)
looked m turns test (e ∷ rest) v a h = by (test e.0) h (looked m turns test rest v a.1)
  where
    by : (b : Bool) → cond b (Some e.1) (lookup test rest) ≡ Some v → (lookup test rest ≡ Some v → means m turns v.number v.declared ≡ true) → means m turns v.number v.declared ≡ true
    by true h ih = subst (λ (u : VariableUse). means m turns u.number u.declared ≡ true) (some_same e.1 v h) a.0
    by false h ih = ih h

one_more_means : (m : NumberedMethod) (turns : List ℕ) (scope : List Known) (known : Known) → AllMean m turns scope
    → means m turns known.1.number known.1.declared ≡ true → AllMean m turns (scope ++ known ∷ [])
one_more_means m turns [] known a h = (h, tt)
one_more_means m turns (e ∷ rest) known a h = (a.0, one_more_means m turns rest known a.1 h)

with_means : (m : NumberedMethod) (turns : List ℕ) (scope : List Known) (name : List ℕ) (v : VariableUse) → AllMean m turns scope
    → means m turns v.number v.declared ≡ true → AllMean m turns (with_variable scope name v)
with_means m turns scope name v a h = by (is_some (lookup (bytes_eq name) scope))
  where
    by : (b : Bool) → AllMean m turns (if b then scope else scope ++ (name, v) ∷ [])
    by true = a
    by false = one_more_means m turns scope (name, v) a h

pub declares_means : (p : ProgramView) (m : NumberedMethod) (turns : List ℕ) (site : Site) (name : List ℕ) (d : Declaration)
    → SiteMeans p m turns site → means m turns site.variables d ≡ true → SiteMeans p m turns (declares site name d)
declares_means p m turns site name d k h =
    record { text = k.text; this = k.this; scope = with_means m turns site.scope name (record { number = site.variables; declared = d }) k.scope h }

declares_fits : (p : ProgramView) (m : NumberedMethod) (turns : List ℕ) (site : Site) (name : List ℕ) (d : Declaration)
    → SiteFits p m turns site → means m turns site.variables d ≡ true → SiteFits p m turns (declares site name d)
declares_fits p m turns site name d k h = record {
  known = declares_means p m turns site name d k.known h;
  below = λ i l. k.below i (omega (arith, l));
  fresh = λ i l. k.fresh i (omega (arith, l));
}

-- within one foreach more
means_more : (m : NumberedMethod) (turns : List ℕ) (n k : ℕ) (d : Declaration) → means m turns k d ≡ true → means m (n ∷ turns) k d ≡ true
means_more m turns n k (t.Typed is_single type) h = h
means_more m turns n k t.Foreach h = ap₂ (λ a b. a && b) (by (n == k)) (and_right (among turns k) _ h)
  where
    by : (b : Bool) → (b || among turns k) ≡ true
    by true = refl
    by false = and_left (among turns k) (is_none (in_scope (method_scope m) k)) h

all_more : (m : NumberedMethod) (turns : List ℕ) (n : ℕ) (scope : List Known) → AllMean m turns scope → AllMean m (n ∷ turns) scope
all_more m turns n [] a = tt
all_more m turns n (e ∷ rest) a = (means_more m turns n e.1.number e.1.declared a.0, all_more m turns n rest a.1)

pub foreach_fits : (p : ProgramView) (m : NumberedMethod) (turns : List ℕ) (site : Site) (name : List ℕ) → SiteFits p m turns site
    → SiteFits p m (site.variables ∷ turns) (declares site name t.Foreach)
foreach_fits p m turns site name k = record {
  known = record {
    text = k.known.text;
    this = k.known.this;
    scope = with_means m (site.variables ∷ turns) site.scope name (record { number = site.variables; declared = t.Foreach }) (all_more m turns site.variables site.scope k.known.scope)
        (ap₂ (λ (a b : Bool). (a || among turns site.variables) && b) (eq-eqb site.variables site.variables refl) (k.fresh site.variables (omega arith)));
  };
  below = λ i l. ap₂ (λ (a b : Bool). a || b) (other_number site.variables i (omega (arith, l))) (k.below i (omega (arith, l)));
  fresh = λ i l. k.fresh i (omega (arith, l));
}

-- ---- behind statements

-- the second site knows the same, and its numbers are no lower
record Keeps (a b : Site) : Type 0 where
  text : b.text ≡ a.text
  class : b.class ≡ a.class
  static : b.static ≡ a.static
  scope : b.scope ≡ a.scope
  variables : a.variables ≤ b.variables

keeps_same : (a : Site) → Keeps a a
keeps_same a = record { text = refl; class = refl; static = refl; scope = refl; variables = omega arith }

keeps_then : (a b c : Site) → Keeps a b → Keeps b c → Keeps a c
keeps_then a b c f g = record {
  text = g.text ∙ f.text;
  class = g.class ∙ f.class;
  static = g.static ∙ f.static;
  scope = g.scope ∙ f.scope;
  variables = let x = f.variables in let y = g.variables in omega (arith, x, y);
}

keeps_variable : (a : Site) → Keeps a (past_variable a)
keeps_variable a = record { text = refl; class = refl; static = refl; scope = refl; variables = omega arith }

mutual
  past_keeps : (site : Site) (x : Stm) → Keeps site (past site x)
  past_keeps site (s.Declare at type name value) = keeps_variable site
  past_keeps site (s.Print at what) = record { text = refl; class = refl; static = refl; scope = refl; variables = omega arith }
  past_keeps site (s.Block body) = past_all_keeps site body
  past_keeps site (s.If at c x) = past_keeps site x
  past_keeps site (s.IfElse at c x y) = keeps_then site (past site x) (past (past site x) y) (past_keeps site x) (past_keeps (past site x) y)
  past_keeps site (s.While at c body) = past_keeps site body
  past_keeps site (s.For at first c update body) =
      let a = past_maybe site first in
      let b = past_maybe a update in
      keeps_then site b (past b body) (keeps_then site a b (past_maybe_keeps site first) (past_maybe_keeps a update)) (past_keeps b body)
  past_keeps site (s.Foreach at name_at name domain body) = keeps_then site (past_variable site) (past (past_variable site) body) (keeps_variable site) (past_keeps (past_variable site) body)
  past_keeps site _ = keeps_same site

  past_maybe_keeps : (site : Site) (x : MaybeStm) → Keeps site (past_maybe site x)
  past_maybe_keeps site s.NoStm = keeps_same site
  past_maybe_keeps site (s.SomeStm x) = past_keeps site x

  past_all_keeps : (site : Site) (xs : Stms) → Keeps site (past_all site xs)
  past_all_keeps site s.Nil = keeps_same site
  past_all_keeps site (s.Cons x rest) = keeps_then site (past site x) (past_all (past site x) rest) (past_keeps site x) (past_all_keeps (past site x) rest)

kept_fits : (p : ProgramView) (m : NumberedMethod) (turns : List ℕ) (a b : Site) → Keeps a b → SiteFits p m turns a → SiteFits p m turns b
kept_fits p m turns a b e k = record {
  known = record {
    text = subst (TextFits p) (sym e.text) k.known.text;
    this = λ h. k.known.this (sym e.static ∙ h) ∙ ap Some (sym e.class);
    scope = subst (AllMean m turns) (sym e.scope) k.known.scope;
  };
  below = λ i l. let v = e.variables in k.below i (omega (arith, v, l));
  fresh = λ i l. let v = e.variables in k.fresh i (omega (arith, v, l));
}

pub past_fits : (p : ProgramView) (m : NumberedMethod) (turns : List ℕ) (site : Site) (x : Stm) → SiteFits p m turns site → SiteFits p m turns (past site x)
past_fits p m turns site x k = kept_fits p m turns site (past site x) (past_keeps site x) k

pub past_maybe_fits : (p : ProgramView) (m : NumberedMethod) (turns : List ℕ) (site : Site) (x : MaybeStm) → SiteFits p m turns site → SiteFits p m turns (past_maybe site x)
past_maybe_fits p m turns site x k = kept_fits p m turns site (past_maybe site x) (past_maybe_keeps site x) k

pub behind_fits : (p : ProgramView) (m : NumberedMethod) (turns : List ℕ) (site : Site) (x : Stm) (y : NumberedStm)
    → NumbersStm site x y → StmFine x → SiteFits p m turns site → SiteFits p m turns (site_after site x)
behind_fits p m turns site x y (number.declare {ty = ty} {name = name} (number.known b) fresh room v) f k =
    declares_fits p m turns site name (typed_as site.text ty) k (typed_means m turns site.variables site.text ty b f.0)
behind_fits p m turns site x y _ f k = past_fits p m turns site x k

pub behind_maybe_fits : (p : ProgramView) (m : NumberedMethod) (turns : List ℕ) (site : Site) (x : MaybeStm) (y : MaybeNumbered) → NumbersMaybeStm site x y → MaybeFine x → SiteFits p m turns site
    → SiteFits p m turns (behind_maybe site x)
behind_maybe_fits p m turns site x y number.no_stm f k = k
behind_maybe_fits p m turns site x y (number.some_stm h) f k = behind_fits p m turns site _ _ h f k

-- ---- expressions

covers_own : (b : Bool) (class : ℕ) (o : Option ℕ) → o ≡ Some class → covers (if b then None else Some class) o ≡ true
covers_own true class o h = refl
covers_own false class o h = ap (covers (Some class)) h ∙ eq-eqb class class refl

count_exps : (site : Site) (xs : Exps) (ys : NumberedExps) → NumbersExps site xs ys → how_many ys ≡ tree_count xs
count_exps site xs ys number.no_exps = refl
count_exps site xs ys (number.more_exps h rest) = ap (λ n. n + 1) (count_exps site _ _ rest)

count_ranges : (site : Site) (rs : RangeTrees) (qs : NumberedRanges) → NumbersRanges site rs qs → range_count qs ≡ ranges_count rs
count_ranges site rs qs number.no_ranges = refl
count_ranges site rs qs (number.more_ranges h rest) = ap (λ n. 1 + n) (count_ranges site _ _ rest)

module _ (p : ProgramView) (m : NumberedMethod) (turns : List ℕ) (site : Site) (k : SiteMeans p m turns site) where
  own_field_there : (name : List ℕ) (field : ℕ) → own_field_named site name ≡ Some field → is_some (option_and_then (λ c. field_type p c field) (this_of m)) ≡ true
  own_field_there name field h = by site.static refl h
    where
      by : (b : Bool) → site.static ≡ b → (if b then None else field_named site.text site.class name) ≡ Some field → is_some (option_and_then (λ c. field_type p c field) (this_of m)) ≡ true
      by true z h = absurd (none_some field h)
      by false z h = ap (λ o. is_some (option_and_then (λ c. field_type p c field) o)) (k.this z) ∙ k.text.fields site.class name field h

  -- a method that is named in a class
  method_there : (class : ℕ) (name : List ℕ) (method : ℕ) → method_named site.text class name ≡ Some method
      → (own : OwnMethod) × (called : NumberedMethod) × (slice_get (methods_of site.text) method ≡ Some own) × (slice_get p.methods method ≡ Some called) × (called.class ≡ class)
      × (is_static_method called ≡ is_static own.method)
  method_there class name method h =
      let q = position_there (λ (own : OwnMethod). (own.class == class) && bytes_eq name own.method.name) (methods_of site.text) method h in
      let c = k.text.methods method q.0 q.1 in
      (q.0, c.0, q.1, c.1, c.2 ∙ eqb-true q.0.class class (and_left (q.0.class == class) _ q.2), c.3)

  own_call_serves : (name : List ℕ) (method : ℕ) → own_method_named site name ≡ Some method → members.is_static_method site.text method ≡ false → serves p m method ≡ true
  own_call_serves name method h z =
      let q = only_if_there (λ j. members.is_static_method site.text j || not site.static) (method_named site.text site.class name) method h in
      let c = method_there site.class name method q.0 in
      let has_this = k.this (not_it site.static (sym (ap (λ b. b || not site.static) z) ∙ q.1)) in
      ap (λ (o : Option NumberedMethod). option_map_or (λ (called : NumberedMethod). covers (this_of called) (this_of m)) o false) c.3
      ∙ covers_own (is_static_method c.1) c.1.class (this_of m) (has_this ∙ ap Some (sym c.4))
    where
      not_it : (b : Bool) → not b ≡ true → b ≡ false
      not_it true h = absurd (true_false (sym h))
      not_it false h = refl

  mutual
    pub exp_meant : (x : Exp) (y : NumberedExp) → NumbersExp site x y → ExpFine x → InExp y → ExpMeant p m turns y
    exp_meant x y number.int f l = l
    exp_meant x y number.long f l = l
    exp_meant x y number.truth f l = tt
    exp_meant x y number.null f l = tt
    exp_meant x y (number.this h) f l = ap is_some (k.this h)
    exp_meant x y (number.variable {name = name} {v = v} h) f l = looked m turns (bytes_eq name) site.scope v k.scope h
    exp_meant x y (number.own_field {name = name} {field = field} h i) f l = own_field_there name field i
    exp_meant x y (number.call {name = name} {method = method} h z xs) f l =
        let q = only_if_there (λ j. members.is_static_method site.text j || not site.static) (method_named site.text site.class name) method h in
        let c = method_there site.class name method q.0 in
        (ap is_some c.3, exps_meant _ _ xs f l)
    exp_meant x y (number.own_call {name = name} {method = method} h z xs) f l = (own_call_serves name method h z, exps_meant _ _ xs f l)
    exp_meant x y number.this_proc f l = tt
    exp_meant x y number.num_procs f l = tt
    exp_meant x y (number.point {xs = xs} {ys = ys} h) f l = (subst (λ n. is_dim n ≡ true) (sym (count_exps site xs ys h)) f.0, exps_meant xs ys h f.1 l)
    exp_meant x y (number.rect {rs = rs} {qs = qs} h) f l = (subst (λ n. is_dim n ≡ true) (sym (count_ranges site rs qs h)) f.0, ranges_meant rs qs h f.1 l)
    exp_meant x y (number.unary h) f l = exp_meant _ _ h f l
    exp_meant x y (number.binary h i) f l = (exp_meant _ _ h f.0 l.0, exp_meant _ _ i f.1 l.1)
    exp_meant x y (number.cast {to = to} (number.known b) h) f l = ((field_value site.text to b f.0).0, exp_meant _ _ h f.1 l)
    exp_meant x y (number.select h i) f l = exp_meant _ _ i f l
    exp_meant x y (number.member h i xs) f l = (exp_meant _ _ i f.0 l.0, exps_meant _ _ xs f.1 l.1)
    exp_meant x y (number.class_call {name = name} {class = class} {method = method} h i xs) f l =
        let q = only_if_there (members.is_static_method site.text) (method_named site.text class name) method i in
        let c = method_there class name method q.0 in
        (ap is_some c.3, exps_meant _ _ xs f.1 l)
    exp_meant x y (number.index h xs) f l = (exp_meant _ _ h f.0 l.0, exps_meant _ _ xs f.1 l.1)

    exps_meant : (xs : Exps) (ys : NumberedExps) → NumbersExps site xs ys → ExpsFine xs → InExps ys → ExpsMeant p m turns ys
    exps_meant xs ys number.no_exps f l = tt
    exps_meant xs ys (number.more_exps h rest) f l = (exp_meant _ _ h f.0 l.0, exps_meant _ _ rest f.1 l.1)

    range_meant : (r : RangeTree) (q : NumberedRange) → NumbersRange site r q → RangeFine r → InRange q → RangeMeant p m turns q
    range_meant r q (number.plain h i) f l = (exp_meant _ _ h f.0 l.0, exp_meant _ _ i f.1 l.1)
    range_meant r q (number.stepped h i j) f l = (exp_meant _ _ h f.0 l.0, exp_meant _ _ i f.1 l.1, exp_meant _ _ j f.2 l.2)

    ranges_meant : (rs : RangeTrees) (qs : NumberedRanges) → NumbersRanges site rs qs → RangesFine rs → InRanges qs → RangesMeant p m turns qs
    ranges_meant rs qs number.no_ranges f l = tt
    ranges_meant rs qs (number.more_ranges h rest) f l = (range_meant _ _ h f.0 l.0, ranges_meant _ _ rest f.1 l.1)

  pub option_meant : (x : Option Exp) (y : Option NumberedExp) → NumbersMaybe site x y → OptionFine x → InOption y → OptionMeant p m turns y
  option_meant x y number.none f l = tt
  option_meant x y (number.some h) f l = exp_meant _ _ h f l

  dims_meant : (x : DimsTree) (y : NumberedDims) → NumbersDims site x y → fine.DimsFine x → InDims y → DimsMeant p m turns y
  dims_meant x y (number.domain h) f l = exp_meant _ _ h f l
  dims_meant x y (number.ranges {rs = rs} {qs = qs} h) f l = (
    subst (λ n. is_dim n ≡ true)
        (sym (count_ranges site (ranges_tree rs) (numbered_ranges qs) h)) f.0,
    ranges_meant (ranges_tree rs) (numbered_ranges qs) h f.1 l,
  )

  pub init_meant : (x : InitTree) (y : NumberedInit) → NumbersInit site x y → InitFine x → InInit y → InitMeant p m turns y
  init_meant x y (number.value h) f l = exp_meant _ _ h f l
  init_meant x y number.new_region f l = tt
  init_meant x y (number.new_object {name = name} {class = class} h i) f l = (option_meant _ _ h f l, k.text.classes name class i)
  init_meant x y (number.new_grid {element = element} h (number.known b) d) f l =
      (option_meant _ _ h f.0 l.0, (let q = field_value site.text element b f.1 in ap₂ (λ a c. a && c) q.1 q.0), dims_meant _ _ d f.2 l.1)
  init_meant x y (number.broadcast h i) f l = (exp_meant _ _ h f.0 l.0, exp_meant _ _ i f.1 l.1)

  pub print_meant : (x : PrintTree) (y : NumberedPrint) → NumbersPrint site x y → PrintFine x → InPrint y → PrintMeant p m turns y
  print_meant x y number.nothing f l = tt
  print_meant x y number.text f l = tt
  print_meant x y (number.expression h) f l = exp_meant _ _ h f l
  print_meant x y (number.text_and_expression h) f l = exp_meant _ _ h f l

  -- targets and calls
  place_meant : (x : Exp) (y : NumberedExp) → NumbersExp site x y → is_target_tree x ≡ true → is_place y ≡ true
  place_meant x y (number.variable h) f = refl
  place_meant x y (number.own_field h i) f = refl
  place_meant x y (number.select h i) f = refl
  place_meant x y (number.index h xs) f = refl
  place_meant x y _ f = absurd (true_false (sym f))

  pub target_meant : (x : Exp) (y : NumberedExp) → NumbersExp site x y → TargetFine x → InExp y → TargetMeant p m turns y
  target_meant x y h f l = (exp_meant x y h f.0 l, place_meant x y h f.1)

  pub call_meant : (x : Exp) (y : NumberedExp) → NumbersExp site x y → is_call_tree x ≡ true → is_form_of_call y ≡ true
  call_meant x y (number.call h z xs) f = refl
  call_meant x y (number.own_call h z xs) f = refl
  call_meant x y (number.member h i xs) f = refl
  call_meant x y (number.class_call h i xs) f = refl
  call_meant x y _ f = absurd (true_false (sym f))
