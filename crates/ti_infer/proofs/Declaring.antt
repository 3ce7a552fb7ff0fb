-- The variables that a method declares have distinct numbers: those of a statement begin after those of the statements before it.
use Rattle.std.proofs.Common.{◌≡◌, ◌⊎◌, inl, inr, ℕ, suc, ◌+◌, ◌<◌, ◌≤◌, ◌==◌, Bool, true, false, if◌then◌else◌, List, length, Option, Some, None, refl, ap, ap₂, ◌∙◌, arith, eqb-true}
use Rattle.std.specs.Option.{option_or}
use Rattle.ti_base.specs.declared.place.Place.{Place}
use Rattle.ti_syntax.specs.Trees.Statements.{Stm, MaybeStm, Stms}
use Rattle.ti_syntax.specs.Trees.Statements as s
use Rattle.ti_syntax.specs.Trees.Classes.{ParamTree}
use Rattle.ti_lang.specs.Scopes.{Site, declares, typed_as, past_variable, past, past_maybe, past_all, site_after, behind_maybe, behind_params}
use Rattle.ti_lang.specs.Program.Types.{Foreach}
use Rattle.ti_lang.specs.Program.Statements.{NumberedStm, MaybeNumbered, NumberedStms}
use Rattle.ti_lang.specs.Program.Classes.{NumberedParam}
use Rattle.ti_lang.specs.Numbering as number
use Rattle.ti_lang.specs.Numbering.{NumbersStm, NumbersMaybeStm, NumbersStms, NumbersParamList}
use Rattle.ti_infer.specs.Marks.{declared_place, declared_place_maybe, declared_place_all}

-- ---- how many

abbrev mutual
  -- how many variables a statement declares
  pub count : Stm → ℕ
  count (s.Declare at type name value) = 1
  count (s.Block body) = count_all body
  count (s.If at c a) = count a
  count (s.IfElse at c a b) = count a + count b
  count (s.While at c body) = count body
  count (s.For at first c update body) = count_maybe first + (count_maybe update + count body)
  count (s.Foreach at name_at name domain body) = 1 + count body
  count a = 0

  pub count_maybe : MaybeStm → ℕ
  count_maybe s.NoStm = 0
  count_maybe (s.SomeStm a) = count a

  pub count_all : Stms → ℕ
  count_all s.Nil = 0
  count_all (s.Cons a rest) = count a + count_all rest

none_counted : (n : ℕ) → n ≡ n + 0
none_counted n = omega arith

both_counted : (a b c d e : ℕ) → b ≡ a + d → c ≡ b + e → c ≡ a + (d + e)
both_counted a b c d e f g = omega arith

mutual
  pub past_counted : (site : Site) (a : Stm) → (past site a).variables ≡ site.variables + count a
  past_counted site (s.Declare at type name value) = refl
  past_counted site (s.Block body) = past_all_counted site body
  past_counted site (s.If at c a) = past_counted site a
  past_counted site (s.IfElse at c a b) =
      both_counted site.variables (past site a).variables _ (count a) (count b) (past_counted site a) (past_counted (past site a) b)
  past_counted site (s.While at c body) = past_counted site body
  past_counted site (s.For at first c update body) =
      let one = past_maybe site first in
      let two = past_maybe one update in
      both_counted site.variables one.variables _ (count_maybe first) (count_maybe update + count body) (past_maybe_counted site first)
      (both_counted one.variables two.variables _ (count_maybe update) (count body) (past_maybe_counted one update) (past_counted two body))
  past_counted site (s.Foreach at name_at name domain body) =
      both_counted site.variables (site.variables + 1) _ 1 (count body) refl (past_counted (past_variable site) body)
  past_counted site _ = none_counted site.variables

  pub past_maybe_counted : (site : Site) (a : MaybeStm) → (past_maybe site a).variables ≡ site.variables + count_maybe a
  past_maybe_counted site s.NoStm = none_counted site.variables
  past_maybe_counted site (s.SomeStm a) = past_counted site a

  past_all_counted : (site : Site) (all : Stms) → (past_all site all).variables ≡ site.variables + count_all all
  past_all_counted site s.Nil = none_counted site.variables
  past_all_counted site (s.Cons a rest) =
      both_counted site.variables (past site a).variables _ (count a) (count_all rest) (past_counted site a)
      (past_all_counted (past site a) rest)

pub behind_counted : (site : Site) (a : Stm) → (site_after site a).variables ≡ site.variables + count a
behind_counted site (s.Declare at type name value) = refl
behind_counted site (s.Block body) = past_counted site (s.Block body)
behind_counted site (s.If at c a) = past_counted site (s.If at c a)
behind_counted site (s.IfElse at c a b) = past_counted site (s.IfElse at c a b)
behind_counted site (s.While at c body) = past_counted site (s.While at c body)
behind_counted site (s.For at first c update body) = past_counted site (s.For at first c update body)
behind_counted site (s.Foreach at name_at name domain body) = past_counted site (s.Foreach at name_at name domain body)
behind_counted site _ = none_counted site.variables

pub behind_maybe_counted : (site : Site) (a : MaybeStm) → (behind_maybe site a).variables ≡ site.variables + count_maybe a
behind_maybe_counted site s.NoStm = none_counted site.variables
behind_maybe_counted site (s.SomeStm a) = behind_counted site a

pub params_counted : (site : Site) (ps : List ParamTree) (ws : List NumberedParam) → NumbersParamList site ps ws
    → (behind_params site ps).variables ≡ site.variables + length ws
params_counted site ps ws number.none = none_counted site.variables
params_counted site ps ws (number.more {param = param} {params = us} {ys = vs} type fresh room rest) =
    one_counted site.variables _ (length vs) (params_counted (declares site param.name (typed_as site.text param.ty)) us vs rest)
  where
    one_counted : (a b n : ℕ) → b ≡ (a + 1) + n → b ≡ a + suc n
    one_counted a b n e = omega arith

-- ---- numbers of their own

-- a number is none of so many from one on
abbrev IsApart : ℕ → ℕ → ℕ → Type 0
IsApart from many n = (n < from) ⊎ (from + many ≤ n)

-- places of numbers are there for so many from one on at most
abbrev pub AreWithin : ℕ → ℕ → (ℕ → Option Place) → Type 0
AreWithin from many places = (n : ℕ) → IsApart from many n → places n ≡ None

-- two functions tell the same place of so many numbers from one on
abbrev pub AreAlike : (ℕ → Option Place) → ℕ → ℕ → (ℕ → Option Place) → Type 0
AreAlike all from many places = (n : ℕ) → from ≤ n → n < from + many → all n ≡ places n

or_none : (o : Option Place) → option_or o None ≡ o
or_none None = refl
or_none (Some at) = refl

module _ (from next many more : ℕ) (is : next ≡ from + many) (places others : ℕ → Option Place) where
  pub both_within : AreWithin from many places → AreWithin next more others
      → AreWithin from (many + more) (λ n. option_or (places n) (others n))
  both_within f g n (inl less) = ap₂ option_or (f n (inl less)) (g n (inl (omega arith)))
  both_within f g n (inr beyond) = ap₂ option_or (f n (inr (omega arith))) (g n (inr (omega arith)))

  pub first_alike : (all : ℕ → Option Place) → AreAlike all from (many + more) (λ n. option_or (places n) (others n))
      → AreWithin next more others → AreAlike all from many places
  first_alike all f g n h less = f n h (omega arith) ∙ ap (option_or (places n)) (g n (inl (omega arith))) ∙ or_none (places n)

  pub rest_alike : (all : ℕ → Option Place) → AreAlike all from (many + more) (λ n. option_or (places n) (others n))
      → AreWithin from many places → AreAlike all next more others
  rest_alike all f g n h less =
      f n (omega arith) (omega arith) ∙ ap (λ (o : Option Place). option_or o (others n)) (g n (inr (omega arith)))

one_within : (variable : ℕ) (at : Place) → AreWithin variable 1 (λ n. if variable == n then Some at else None)
one_within variable at n h = by (variable == n) refl
  where
    differs : variable ≡ n → IsApart variable 1 n → ⊥
    differs e (inl less) = omega arith
    differs e (inr beyond) = omega arith

    by : (b : Bool) → (variable == n) ≡ b → ◌≡◌ {A = Option Place} (if b then Some at else None) None
    by true e = absurd (differs (eqb-true variable n e) h)
    by false e = refl

mutual
  pub stm_within : (site : Site) (a : Stm) (y : NumberedStm) → NumbersStm site a y → AreWithin site.variables (count a) (declared_place y)
  stm_within site a y (number.declare {at = at} type fresh room v) n apart = one_within site.variables at n apart
  stm_within site a y (number.block h) n apart = stms_within site _ _ h n apart
  stm_within site a y (number.if_alone g h) n apart = stm_within site _ _ h n apart
  stm_within site a y (number.if_else {a = b} {b = d} {x = v} {y = z} g h i) n apart =
      both_within site.variables (past site b).variables (count b) (count d) (past_counted site b) (declared_place v) (declared_place z)
      (stm_within site b v h) (stm_within (past site b) d z i) n apart
  stm_within site a y (number.while g h) n apart = stm_within site _ _ h n apart
  stm_within site a y (number.for {first = first} {update = update} {f = begun} {u = changed} {x = v} {y = z} h i j w) n apart =
      let next = behind_maybe site first in
      both_within site.variables next.variables (count_maybe first) (count_maybe update + count v) (behind_maybe_counted site first)
      (declared_place_maybe begun) (λ n. option_or (declared_place_maybe changed n) (declared_place z n)) (maybe_within site first begun h)
      (both_within next.variables (past_maybe next update).variables (count_maybe update) (count v) (past_maybe_counted next update)
      (declared_place_maybe changed) (declared_place z) (maybe_within next update changed j)
      (stm_within (past_maybe next update) v z w)) n apart
  stm_within site a y (number.foreach {name = name} {x = v} {y = z} fresh room g h) n apart =
      stm_within (declares site name Foreach) v z h n (by apart)
    where
      by : IsApart site.variables (1 + count v) n → IsApart (site.variables + 1) (count v) n
      by (inl less) = inl (omega arith)
      by (inr beyond) = inr (omega arith)
  stm_within site a y number.empty n apart = refl
  stm_within site a y (number.assign h v) n apart = refl
  stm_within site a y (number.update h i) n apart = refl
  stm_within site a y (number.step h) n apart = refl
  stm_within site a y (number.call h) n apart = refl
  stm_within site a y (number.print h) n apart = refl
  stm_within site a y number.barrier n apart = refl
  stm_within site a y number.break n apart = refl
  stm_within site a y number.continue n apart = refl
  stm_within site a y (number.return h) n apart = refl

  pub maybe_within : (site : Site) (a : MaybeStm) (y : MaybeNumbered) → NumbersMaybeStm site a y
      → AreWithin site.variables (count_maybe a) (declared_place_maybe y)
  maybe_within site a y number.no_stm n apart = refl
  maybe_within site a y (number.some_stm h) n apart = stm_within site _ _ h n apart

  pub stms_within : (site : Site) (all : Stms) (ys : NumberedStms) → NumbersStms site all ys
      → AreWithin site.variables (count_all all) (declared_place_all ys)
  stms_within site all ys number.nil n apart = refl
  stms_within site all ys (number.cons {x = a} {y = y} {xs = us} {ys = vs} h rest) n apart =
      both_within site.variables (site_after site a).variables (count a) (count_all us) (behind_counted site a) (declared_place y)
      (declared_place_all vs) (stm_within site a y h) (stms_within (site_after site a) us vs rest) n apart
