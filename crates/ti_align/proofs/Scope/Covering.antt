-- The statements of a program of a text stand in their scope: what a name means is declared before it.
use Rattle.std.proofs.Common.{◌≡◌, ◌⊎◌, inl, inr, ℕ, zero, suc, ◌+◌, ◌<◌, ◌≤◌, Bool, true, false, ◌&&◌, ◌||◌, cond, if◌then◌else◌, slice_get, is_some, Option, Some, None, List, [], ◌∷◌, ◌++◌, bytes_eq, refl, ap, ap₂, sym, ◌∙◌, subst, arith, eq-eqb}
use Rattle.std.proofs.Math.Bool.{Bool-set}
use Rattle.std.proofs.Math.Logic.{∥∥₁_elim}
use Rattle.std.specs.Map.{lookup}
use Rattle.ti_syntax.specs.Trees.Expressions.{Exp, Exps, RangeTree, RangeTrees}
use Rattle.ti_syntax.specs.Trees.Statements.{DimsTree, InitTree, PrintTree, Stm, MaybeStm, Stms, stms}
use Rattle.ti_syntax.specs.Trees.Statements as tree
use Rattle.ti_syntax.specs.Trees.Classes.{ParamTree, ParamsTree, MethodTree, TextTree}
use Rattle.ti_lang.specs.Program.Types.{ValueType, Declaration, Typed, Foreach, VariableUse}
use Rattle.ti_lang.specs.Program.Types as t
use Rattle.ti_lang.specs.Program.Expressions.{NumberedExp, NumberedExps, NumberedRange, NumberedRanges}
use Rattle.ti_lang.specs.Program.Statements.{NumberedDims, NumberedInit, NumberedPrint, NumberedStm, MaybeNumbered, NumberedStms, numbered_stms}
use Rattle.ti_lang.specs.Program.Classes.{NumberedParam, NumberedParams, NumberedMethod, ProgramView}
use Rattle.ti_lang.specs.Members.{OwnMethod, methods_of}
use Rattle.ti_lang.specs.Scopes.{Known, Site, with_variable, declares, typed_as, past, past_maybe, past_all, site_after, behind_maybe, behind_params, method_site, body_site}
use Rattle.ti_lang.specs.Typing.Kinds.{same_truth, same_type}
use Rattle.ti_lang.specs.MainForm.{is_void, is_words as tells_words, has_main_modifiers, has_main_form}
use Rattle.ti_lang.specs.Numbering as number
use Rattle.ti_lang.specs.Numbering.{NumbersExp, NumbersExps, NumbersRange, NumbersRanges, NumbersMaybe, NumbersDims, NumbersInit, NumbersPrint, NumbersStm, NumbersMaybeStm, NumbersStms, NumbersParamList, NumbersParams, NumbersMethod, NumbersMethods, IsNumbered}
use Rattle.ti_lang.specs.Meaning.Scoping.{same_declaration, same_variable}
use Rattle.ti_lang.specs.Meaning.Calls.{parameters_from, parameters_of}
use Rattle.ti_lang.specs.Meaning.Performing.{declared_alone, declared_among, declared_maybe}
use Rattle.ti_align.proofs.Runs.Vars.{true_false, not_true, or_left, or_right}
use Rattle.ti_align.proofs.RunTypes.Operating.{none_some, some_same, or_either}
use Rattle.ti_align.specs.Scoped.{Names, KnownAs, ExpScoped, ExpsScoped, RangeScoped, RangesScoped, OptionScoped, DimsScoped, InitScoped, PrintScoped}
use Rattle.ti_align.proofs.Scope.Scoped.{is_one, with_all, Fresh, StmScoped, MaybeScoped, StmsScoped, stms_prop}
use Rattle.ti_align.proofs.Scope.Found.{variable_is}
use Rattle.ti_align.proofs.Scope.Keeping.{is_words}

-- ---- a variable is the same as itself

truth_own : (b : Bool) → same_truth b b ≡ true
truth_own true = refl
truth_own false = refl

type_own : (type : ValueType) → same_type type type ≡ true
type_own (t.Pt n) = eq-eqb n n refl
type_own (t.Rc n) = eq-eqb n n refl
type_own (t.Dm n) = eq-eqb n n refl
type_own (t.Class c l) = ap₂ (λ a b. a && b) (eq-eqb c c refl) (truth_own l)
type_own (t.Grid e n l) = ap₂ (λ a b. a && b) (ap₂ (λ a b. a && b) (type_own e) (eq-eqb n n refl)) (truth_own l)
type_own _ = refl

declaration_own : (d : Declaration) → same_declaration d d ≡ true
declaration_own (Typed s type) = ap₂ (λ a b. a && b) (truth_own s) (type_own type)
declaration_own Foreach = refl

variable_own : (v : VariableUse) → same_variable v v ≡ true
variable_own v = ap₂ (λ a b. a && b) (eq-eqb v.number v.number refl) (declaration_own v.declared)

-- ---- sites

-- what a name means at a site is among these names
abbrev Covers : Names → List Known → Type 0
Covers names scope = (name : List ℕ) (v : VariableUse) → lookup (bytes_eq name) scope ≡ Some v → KnownAs names v v.declared

-- and these were declared before it
abbrev Below : Names → ℕ → Type 0
Below names n = (v : VariableUse) → names v ≡ true → v.number < n

pub record Fits (names : Names) (site : Site) : Type 0 where
  pub covers : Covers names site.scope
  pub below : Below names site.variables

known_more : (names others : Names) (v : VariableUse) (d : Declaration) → (names v ≡ true → others v ≡ true) → KnownAs names v d → KnownAs others v d
known_more names others v (Typed s type) f k = f k
known_more names others v Foreach f k = tt

-- the same names
fits_same : (names others : Names) (site : Site) → ((v : VariableUse) → names v ≡ others v) → Fits names site → Fits others site
fits_same names others site e f = record {
  covers = λ name v z. known_more names others v v.declared (λ k. sym (e v) ∙ k) (f.covers name v z);
  below = λ v z. f.below v (e v ∙ z);
}

-- a site with the same scope, behind it
fits_past : (names : Names) (site other : Site) → other.scope ≡ site.scope → site.variables ≤ other.variables → Fits names site → Fits names other
fits_past names site other e l f = record { covers = subst (λ c. Covers names c) (sym e) f.covers; below = λ v z. further v.number site.variables other.variables (f.below v z) l }
  where
    further : (a b c : ℕ) → a < b → b ≤ c → a < c
    further a b c h k = omega (arith, h, k)

-- a name means what it did, or is that of the new variable
lookup_more : (test : List ℕ → Bool) (scope : List Known) (known : Known) (v : VariableUse) → lookup test (scope ++ known ∷ []) ≡ Some v → (lookup test scope ≡ Some v) ⊎ (known.1 ≡ v)
lookup_more test [] known v h = by (test known.0) h
  where
    by : (b : Bool) → cond b (Some known.1) None ≡ Some v → (None ≡ Some v) ⊎ (known.1 ≡ v)
    by true h = inr (some_same _ _ h)
    by false h = absurd (none_some _ h)
lookup_more test (k ∷ scope) known v h = by (test k.0) h (lookup_more test scope known v)
  where
    by : (b : Bool) → cond b (Some k.1) (lookup test (scope ++ known ∷ [])) ≡ Some v → (lookup test (scope ++ known ∷ []) ≡ Some v → (lookup test scope ≡ Some v) ⊎ (known.1 ≡ v))
        → (cond b (Some k.1) (lookup test scope) ≡ Some v) ⊎ (known.1 ≡ v)
    by true h ih = inl h
    by false h ih = ih h

with_more : (test : List ℕ → Bool) (scope : List Known) (name : List ℕ) (new v : VariableUse) → lookup test (with_variable scope name new) ≡ Some v → (lookup test scope ≡ Some v) ⊎ (new ≡ v)
with_more test scope name new v h = by (is_some (lookup (bytes_eq name) scope)) h
  where
    by : (b : Bool) → lookup test (if b then scope else scope ++ (name, new) ∷ []) ≡ Some v → (lookup test scope ≡ Some v) ⊎ (new ≡ v)
    by true h = inl h
    by false h = lookup_more test scope (name, new) v h

-- the new variable is among the names with it
known_new : (names : Names) (new : VariableUse) (d : Declaration) → KnownAs (with_all (new ∷ []) names) new d
known_new names new (Typed s type) = or_left _ (names new) (or_left (same_variable new new) false (variable_own new))
known_new names new Foreach = tt

fits_declared : (names : Names) (site : Site) (name : List ℕ) (d : Declaration) → Fits names site → Fits (with_all (record { number = site.variables; declared = d } ∷ []) names) (declares site name d)
fits_declared names site name d f = record {
  covers = λ n v z. by v (with_more (bytes_eq n) site.scope name new v z) (f.covers n v);
  below = λ v z. under v (or_either (is_one (new ∷ []) v) (names v) z);
}
  where
    new : VariableUse
    new = record { number = site.variables; declared = d }

    more : Names
    more = with_all (new ∷ []) names

    by : {o : Option VariableUse} (v : VariableUse) → (o ≡ Some v) ⊎ (new ≡ v) → (o ≡ Some v → KnownAs names v v.declared) → KnownAs more v v.declared
    by v (inl z) k = known_more names more v v.declared (λ h. or_right (is_one (new ∷ []) v) _ h) (k z)
    by v (inr z) k = subst (λ (x : VariableUse). KnownAs more x x.declared) z (known_new names new d)

    either : (b : Bool) → (b || false) ≡ true → b ≡ true
    either true h = refl
    either false h = h

    after : (a b : ℕ) → a ≡ b → a < b + 1
    after a b h = omega (arith, h)

    later : (a b : ℕ) → a < b → a < b + 1
    later a b h = omega (arith, h)

    under : (v : VariableUse) → (is_one (new ∷ []) v ≡ true) ⊎ (names v ≡ true) → v.number < site.variables + 1
    under v (inl h) = after v.number site.variables (ap (λ (x : VariableUse). x.number) (variable_is v new (either (same_variable v new) h)))
    under v (inr h) = later v.number site.variables (f.below v h)

-- inside a foreach
fits_foreach : (names : Names) (site : Site) (name : List ℕ) → Fits names site → Fits names (declares site name Foreach)
fits_foreach names site name f = record { covers = λ n v z. by v (with_more (bytes_eq n) site.scope name new v z) (f.covers n v); below = λ v z. later v.number site.variables (f.below v z) }
  where
    new : VariableUse
    new = record { number = site.variables; declared = Foreach }

    by : {o : Option VariableUse} (v : VariableUse) → (o ≡ Some v) ⊎ (new ≡ v) → (o ≡ Some v → KnownAs names v v.declared) → KnownAs names v v.declared
    by v (inl z) k = k z
    by v (inr z) k = subst (λ (x : VariableUse). KnownAs names x x.declared) z tt

    later : (a b : ℕ) → a < b → a < b + 1
    later a b h = omega (arith, h)

-- ---- behind statements

trans : (a b c : ℕ) → a ≤ b → b ≤ c → a ≤ c
trans a b c h k = omega (arith, h, k)

one_later : (a : ℕ) → a ≤ a + 1
one_later a = omega arith

same_number : (a : ℕ) → a ≤ a
same_number a = omega arith

mutual
  past_is : (site : Site) (x : Stm) → ((past site x).scope ≡ site.scope) × (site.variables ≤ (past site x).variables)
  past_is site (tree.Declare at type name value) = (refl, one_later site.variables)
  past_is site (tree.Block body) = past_all_is site body
  past_is site (tree.If at c x) = past_is site x
  past_is site (tree.IfElse at c x y) =
      let first = past_is site x in
      let second = past_is (past site x) y in
      (second.0 ∙ first.0, trans site.variables (past site x).variables (past (past site x) y).variables first.1 second.1)
  past_is site (tree.While at c body) = past_is site body
  past_is site (tree.For at first c update body) =
      let one = past_maybe site first in
      let two = past_maybe one update in
      let f = past_maybe_is site first in
      let u = past_maybe_is one update in
      let b = past_is two body in
      (b.0 ∙ u.0 ∙ f.0, trans site.variables two.variables (past two body).variables (trans site.variables one.variables two.variables f.1 u.1) b.1)
  past_is site (tree.Foreach at name_at name domain body) =
      let inside : Site = record site { variables = site.variables + 1 } in
      let b = past_is inside body in
      (b.0, trans site.variables inside.variables (past inside body).variables (one_later site.variables) b.1)
  past_is site _ = (refl, same_number site.variables)

  past_maybe_is : (site : Site) (x : MaybeStm) → ((past_maybe site x).scope ≡ site.scope) × (site.variables ≤ (past_maybe site x).variables)
  past_maybe_is site tree.NoStm = (refl, same_number site.variables)
  past_maybe_is site (tree.SomeStm x) = past_is site x

  past_all_is : (site : Site) (xs : Stms) → ((past_all site xs).scope ≡ site.scope) × (site.variables ≤ (past_all site xs).variables)
  past_all_is site tree.Nil = (refl, same_number site.variables)
  past_all_is site (tree.Cons x rest) =
      let first = past_is site x in
      let others = past_all_is (past site x) rest in
      (others.0 ∙ first.0, trans site.variables (past site x).variables (past_all (past site x) rest).variables first.1 others.1)

fits_past_stm : (names : Names) (site : Site) (x : Stm) → Fits names site → Fits names (past site x)
fits_past_stm names site x f = let k = past_is site x in fits_past names site (past site x) k.0 k.1 f

fits_past_maybe : (names : Names) (site : Site) (x : MaybeStm) → Fits names site → Fits names (past_maybe site x)
fits_past_maybe names site x f = let k = past_maybe_is site x in fits_past names site (past_maybe site x) k.0 k.1 f

fits_behind : (names : Names) (site : Site) (x : Stm) (y : NumberedStm) → NumbersStm site x y → Fits names site → Fits (with_all (declared_alone y) names) (site_after site x)
fits_behind names site x y (number.declare {ty = ty} {name = name} (number.known b) fresh room v) f = fits_declared names site name (typed_as site.text ty) f
fits_behind names site x y (number.print {what = what} h) f = fits_past names site (site_after site x) refl (same_number site.variables) f
fits_behind names site x y (number.block h) f = fits_past_stm names site x f
fits_behind names site x y (number.if_alone h i) f = fits_past_stm names site x f
fits_behind names site x y (number.if_else h i j) f = fits_past_stm names site x f
fits_behind names site x y (number.while h i) f = fits_past_stm names site x f
fits_behind names site x y (number.for h c u i) f = fits_past_stm names site x f
fits_behind names site x y (number.foreach fresh room h i) f = fits_past_stm names site x f
fits_behind names site x y _ f = f

fits_behind_maybe : (names : Names) (site : Site) (x : MaybeStm) (y : MaybeNumbered) → NumbersMaybeStm site x y → Fits names site → Fits (with_all (declared_maybe y) names) (behind_maybe site x)
fits_behind_maybe names site x y number.no_stm f = f
fits_behind_maybe names site x y (number.some_stm {x = a} {y = b} h) f = fits_behind names site a b h f

-- ---- what is declared is new

fresh_both : (names : Names) (ds cs : List VariableUse) → Fresh names ds → Fresh names cs → Fresh names (ds ++ cs)
fresh_both names [] cs f g = g
fresh_both names (d ∷ ds) cs f g = (f.0, fresh_both names ds cs f.1 g)

fresh_alone : (names : Names) (site : Site) (x : Stm) (y : NumberedStm) → NumbersStm site x y → Below names site.variables → Fresh names (declared_alone y)
fresh_alone names site x y (number.declare (number.known z) fresh room v) b = (not_true _ (λ h. never site.variables (b _ h)), tt)
  where
    never : (a : ℕ) → a < a → ⊥
    never a h = omega (arith, h)
fresh_alone names site x y _ b = tt

fresh_maybe : (names : Names) (site : Site) (x : MaybeStm) (y : MaybeNumbered) → NumbersMaybeStm site x y → Below names site.variables → Fresh names (declared_maybe y)
fresh_maybe names site x y number.no_stm b = tt
fresh_maybe names site x y (number.some_stm {x = a} {y = c} h) b = fresh_alone names site a c h b

behind_later : (site : Site) (x : Stm) → site.variables ≤ (site_after site x).variables
behind_later site (tree.Declare at type name value) = one_later site.variables
behind_later site x = (past_is site x).1

below_later : (names : Names) (a b : ℕ) → a ≤ b → Below names a → Below names b
below_later names a b h f v z = further v.number a b (f v z) h
  where
    further : (a b c : ℕ) → a < b → b ≤ c → a < c
    further a b c h k = omega (arith, h, k)

fresh_among : (names : Names) (site : Site) (xs : Stms) (ys : NumberedStms) → NumbersStms site xs ys → Below names site.variables → Fresh names (declared_among ys)
fresh_among names site xs ys number.nil b = tt
fresh_among names site xs ys (number.cons {x = x} {y = y} {xs = us} {ys = vs} h rest) b =
    fresh_both names (declared_alone y) (declared_among vs) (fresh_alone names site x y h b)
    (fresh_among names (site_after site x) us vs rest (below_later names site.variables (site_after site x).variables (behind_later site x) b))

-- ---- expressions

module _ (names : Names) (site : Site) (covers : Covers names site.scope) where
  mutual
    exp_scoped : (x : Exp) (y : NumberedExp) → NumbersExp site x y → ExpScoped names y
    exp_scoped x y (number.variable {name = name} {v = v} z) = covers name v z
    exp_scoped x y (number.call z w hs) = exps_scoped _ _ hs
    exp_scoped x y (number.own_call z w hs) = exps_scoped _ _ hs
    exp_scoped x y (number.point hs) = exps_scoped _ _ hs
    exp_scoped x y (number.rect hs) = ranges_scoped _ _ hs
    exp_scoped x y (number.unary h) = exp_scoped _ _ h
    exp_scoped x y (number.binary h i) = (exp_scoped _ _ h, exp_scoped _ _ i)
    exp_scoped x y (number.cast z h) = exp_scoped _ _ h
    exp_scoped x y (number.select z h) = exp_scoped _ _ h
    exp_scoped x y (number.member z h hs) = (exp_scoped _ _ h, exps_scoped _ _ hs)
    exp_scoped x y (number.class_call z w hs) = exps_scoped _ _ hs
    exp_scoped x y (number.index h hs) = (exp_scoped _ _ h, exps_scoped _ _ hs)
    exp_scoped x y _ = tt

    exps_scoped : (xs : Exps) (ys : NumberedExps) → NumbersExps site xs ys → ExpsScoped names ys
    exps_scoped xs ys number.no_exps = tt
    exps_scoped xs ys (number.more_exps h hs) = (exp_scoped _ _ h, exps_scoped _ _ hs)

    range_scoped : (r : RangeTree) (q : NumberedRange) → NumbersRange site r q → RangeScoped names q
    range_scoped r q (number.plain h i) = (exp_scoped _ _ h, exp_scoped _ _ i)
    range_scoped r q (number.stepped h i j) = (exp_scoped _ _ h, exp_scoped _ _ i, exp_scoped _ _ j)

    ranges_scoped : (rs : RangeTrees) (qs : NumberedRanges) → NumbersRanges site rs qs → RangesScoped names qs
    ranges_scoped rs qs number.no_ranges = tt
    ranges_scoped rs qs (number.more_ranges h hs) = (range_scoped _ _ h, ranges_scoped _ _ hs)

  option_scoped : (o : Option Exp) (q : Option NumberedExp) → NumbersMaybe site o q → OptionScoped names q
  option_scoped o q number.none = tt
  option_scoped o q (number.some h) = exp_scoped _ _ h

  dims_scoped : (d : DimsTree) (q : NumberedDims) → NumbersDims site d q → DimsScoped names q
  dims_scoped d q (number.domain h) = exp_scoped _ _ h
  dims_scoped d q (number.ranges h) = ranges_scoped _ _ h

  init_scoped : (value : InitTree) (q : NumberedInit) → NumbersInit site value q → InitScoped names q
  init_scoped value q (number.value h) = exp_scoped _ _ h
  init_scoped value q number.new_region = tt
  init_scoped value q (number.new_object h z) = option_scoped _ _ h
  init_scoped value q (number.new_grid h z d) = (option_scoped _ _ h, dims_scoped _ _ d)
  init_scoped value q (number.broadcast h i) = (exp_scoped _ _ h, exp_scoped _ _ i)

  print_scoped : (what : PrintTree) (q : NumberedPrint) → NumbersPrint site what q → PrintScoped names q
  print_scoped what q number.nothing = tt
  print_scoped what q number.text = tt
  print_scoped what q (number.expression h) = exp_scoped _ _ h
  print_scoped what q (number.text_and_expression h) = exp_scoped _ _ h

-- ---- statements

mutual
  stm_scoped : (names : Names) (site : Site) → Fits names site → (x : Stm) (y : NumberedStm) → NumbersStm site x y → StmScoped names y
  stm_scoped names site f x y number.empty = tt
  stm_scoped names site f x y (number.declare b fresh room v) = init_scoped names site f.covers _ _ v
  stm_scoped names site f x y (number.assign h v) = (exp_scoped names site f.covers _ _ h, init_scoped names site f.covers _ _ v)
  stm_scoped names site f x y (number.update h i) = (exp_scoped names site f.covers _ _ h, exp_scoped names site f.covers _ _ i)
  stm_scoped names site f x y (number.step h) = exp_scoped names site f.covers _ _ h
  stm_scoped names site f x y (number.call h) = exp_scoped names site f.covers _ _ h
  stm_scoped names site f x y (number.print h) = print_scoped names site f.covers _ _ h
  stm_scoped names site f x y number.barrier = tt
  stm_scoped names site f x y number.break = tt
  stm_scoped names site f x y number.continue = tt
  stm_scoped names site f x y (number.return h) = option_scoped names site f.covers _ _ h
  stm_scoped names site f x y (number.block h) = (stms_scoped names site f _ _ h, fresh_among names site _ _ h f.below)
  stm_scoped names site f x y (number.if_alone h i) = (exp_scoped names site f.covers _ _ h, stm_scoped names site f _ _ i)
  stm_scoped names site f x y (number.if_else {a = a} h i j) =
      (exp_scoped names site f.covers _ _ h, stm_scoped names site f _ _ i, stm_scoped names (past site a) (fits_past_stm names site a f) _ _ j)
  stm_scoped names site f x y (number.while h i) = (exp_scoped names site f.covers _ _ h, stm_scoped names site f _ _ i)
  stm_scoped names site f x y (number.for {first = first} {update = update} {f = w} h c u i) =
      let inside = behind_maybe site first in
      let inner : Names = with_all (declared_maybe w) names in
      let k = fits_behind_maybe names site first w h f in (
        maybe_scoped names site f first w h,
        option_scoped inner inside k.covers _ _ c,
        maybe_scoped inner inside k update _ u,
        stm_scoped inner (past_maybe inside update) (fits_past_maybe inner inside update k) _ _ i,
        fresh_maybe names site first w h f.below,
      )
  stm_scoped names site f x y (number.foreach {name = name} fresh room h i) =
      (exp_scoped names site f.covers _ _ h, stm_scoped names (declares site name Foreach) (fits_foreach names site name f) _ _ i)

  maybe_scoped : (names : Names) (site : Site) → Fits names site → (x : MaybeStm) (y : MaybeNumbered) → NumbersMaybeStm site x y → MaybeScoped names y
  maybe_scoped names site f x y number.no_stm = tt
  maybe_scoped names site f x y (number.some_stm h) = stm_scoped names site f _ _ h

  stms_scoped : (names : Names) (site : Site) → Fits names site → (xs : Stms) (ys : NumberedStms) → NumbersStms site xs ys → StmsScoped names ys
  stms_scoped names site f xs ys number.nil = tt
  stms_scoped names site f xs ys (number.cons {x = x} {y = y} h rest) =
      (stm_scoped names site f x y h, stms_scoped (with_all (declared_alone y) names) (site_after site x) (fits_behind names site x y h f) _ _ rest)

-- ---- methods

one_more : (a b c : Bool) → (b || ((a || false) || c)) ≡ ((a || b) || c)
one_more true true c = refl
one_more true false c = refl
one_more false true c = refl
one_more false false c = refl

or_none : (b : Bool) → (b || false) ≡ b
or_none true = refl
or_none false = refl

-- the parameters are in scope in the body
fits_params : (names : Names) (site : Site) (ps : List ParamTree) (ys : List NumberedParam) → NumbersParamList site ps ys → Fits names site
    → Fits (with_all (parameters_from site.variables ys) names) (behind_params site ps)
fits_params names site ps ys number.none f = f
fits_params names site ps ys (number.more {param = param} {params = params} {ys = rest} (number.known b) fresh room h) f =
    let inside = declares site param.name (typed_as site.text param.ty) in
    let new : VariableUse = record { number = site.variables; declared = typed_as site.text param.ty } in
    fits_same _ _ (behind_params inside params) (λ v. one_more (same_variable v new) (is_one (parameters_from (site.variables + 1) rest) v) (names v))
    (fits_params (with_all (new ∷ []) names) inside params rest h (fits_declared names site param.name (typed_as site.text param.ty) f))

none_fits : (text : TextTree) (own : OwnMethod) (before : ℕ) → Fits (λ v. false) (method_site text own before)
none_fits text own before = record { covers = λ name v z. absurd (none_some v z); below = λ v z. absurd (true_false (sym z)) }

body_scoped : (text : TextTree) (own : OwnMethod) (before : ℕ) (ps : ParamsTree) (qs : NumberedParams) (xs : Stms) (ys : NumberedStms) → NumbersParams (method_site text own before) ps qs
    → NumbersStms (body_site (method_site text own before) ps) xs ys → StmsScoped (is_one (parameters_of qs)) ys
body_scoped text own before ps qs xs ys number.words h = stms_scoped (λ v. false) (method_site text own before) (none_fits text own before) xs ys h
body_scoped text own before ps qs xs ys (number.params {params = params} {ys = rest} n) h =
    let site = method_site text own before in
    stms_scoped (is_one (parameters_from 0 rest)) (behind_params site params)
    (fits_same _ _ (behind_params site params) (λ v. or_none (is_one (parameters_from 0 rest) v)) (fits_params (λ v. false) site params rest n (none_fits text own before))) xs ys h

method_scoped : (text : TextTree) (own : OwnMethod) (before : ℕ) (m : NumberedMethod) → NumbersMethod (method_site text own before) own m
    → StmsScoped (is_one (parameters_of m.params)) (numbered_stms m.body)
method_scoped text own before m (number.method {params = params} {body = body} r ps h) = body_scoped text own before own.method.params params (stms own.method.body) (numbered_stms body) ps h

-- the statements of all of these methods stand in their parameters
abbrev pub MethodsScoped : List NumberedMethod → Type 0
MethodsScoped [] = Unit {0}
MethodsScoped (m ∷ ms) = StmsScoped (is_one (parameters_of m.params)) (numbered_stms m.body) × MethodsScoped ms

methods_scoped : (text : TextTree) (n before : ℕ) (owns : List OwnMethod) (ms : List NumberedMethod) → NumbersMethods text n before owns ms → MethodsScoped ms
methods_scoped text n before owns ms number.none = tt
methods_scoped text n before owns ms (number.more {own = own} {method = m} e h rest) = (method_scoped text own before m h, methods_scoped text _ _ _ _ rest)

methods_prop : (ms : List NumberedMethod) → IsProp (MethodsScoped ms)
methods_prop [] = hlevel
methods_prop (m ∷ ms) = hlevel (stms_prop (is_one (parameters_of m.params)) (numbered_stms m.body), methods_prop ms)

pub scoped : (p : ProgramView) → ∥ IsNumbered p ∥₁ → MethodsScoped p.methods
scoped p c = ∥∥₁_elim c (methods_prop p.methods) (λ n. methods_scoped n.0 0 0 _ p.methods n.2.methods)

-- ---- `main`

words_are : (site : Site) (own : OwnMethod) (m : NumberedMethod) → NumbersMethod site own m → tells_words own.method.params ≡ true → is_words m.params ≡ true
words_are site own m (number.method {params = params} r ps h) w = by own.method.params params ps w
  where
    by : (x : ParamsTree) (q : NumberedParams) → NumbersParams site x q → tells_words x ≡ true → is_words q ≡ true
    by x q number.words w = refl
    by x q (number.params n) w = cc

words_at : (text : TextTree) (n before : ℕ) (owns : List OwnMethod) (ms : List NumberedMethod) → NumbersMethods text n before owns ms
    → (k : ℕ) (own : OwnMethod) (m : NumberedMethod) → slice_get owns k ≡ Some own
    → slice_get ms k ≡ Some m → tells_words own.method.params ≡ true → is_words m.params ≡ true
words_at text n before owns ms number.none k own m a b w = absurd (none_some own a)
words_at text n before owns ms (number.more {own = x} {method = y} e h rest) zero own m a b w =
    ap (λ (z : NumberedMethod). is_words z.params) (sym (some_same y m b)) ∙ words_are _ x y h (subst (λ (z : OwnMethod). tells_words z.method.params ≡ true) (sym (some_same x own a)) w)
words_at text n before owns ms (number.more e h rest) (suc k) own m a b w = words_at text _ _ _ _ rest k own m a b w

second_true : (a b : Bool) → (a && b) ≡ true → b ≡ true
second_true true b e = e
second_true false b e = cc

main_tells : (m : MethodTree) → has_main_form m ≡ true → tells_words m.params ≡ true
main_tells m e = second_true (is_void m.result) (tells_words m.params) (second_true (has_main_modifiers m) (is_void m.result && tells_words m.params) e)

pub main_words : (p : ProgramView) → ∥ IsNumbered p ∥₁ → (m : NumberedMethod) → slice_get p.methods p.main ≡ Some m → is_words m.params ≡ true
main_words p c m z = ∥∥₁_elim c (Bool-set _ _) (λ n. words_at n.0 0 0 (methods_of n.0) p.methods n.2.methods p.main n.2.main.own m n.2.main.stands z (main_tells n.2.main.own.method n.2.main.form))
