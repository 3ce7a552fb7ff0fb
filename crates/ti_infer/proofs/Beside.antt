-- The context of a statement under a subset of a marking, compared with that under the whole marking.
use Rattle.std.proofs.Common.{◌≡◌, ◌==◌, ◌+◌, ℕ, Bool, true, false, if◌then◌else◌, List, [], ◌∷◌, ◌++◌, map, find, Option, Some, None, option_map, option_and_then, refl, ap, sym, ◌∙◌}
use Rattle.std.specs.Option.{option_map_or}
use Rattle.ti_lang.specs.Program.Types.{ValueType}
use Rattle.ti_lang.specs.Program.Expressions.{NumberedExp}
use Rattle.ti_lang.specs.Program.Statements.{NumberedInit}
use Rattle.ti_lang.specs.Program.Classes.{NumberedParam, NumberedParams, MainArgs, Params, NumberedMethod, ProgramView}
use Rattle.ti_lang.specs.Program.Scope.{ScopeVariable, parameters_from, parameters, this_of}
use Rattle.ti_lang.specs.Typing.Kinds.{domain_dim}
use Rattle.ti_lang.specs.Typing.Singleness.{is_single_part, is_single, is_single_initial}
use Rattle.ti_rules.specs.StmtInContext.{StmtContext, scope_of, singles_in, with_foreach_variable, variables_inside}
use Rattle.ti_blame.specs.Marks.{Marks, IsSubset}
use Rattle.ti_infer.specs.Marked.{marked_exp, marked_init, marked_param, marked_params, marked_method, marked}
use Rattle.ti_infer.proofs.Truths.{Grows}
use Rattle.ti_infer.proofs.Same.{this_same}
use Rattle.ti_infer.proofs.Growing.{GrowAll, part_grows, single_grows, initial_grows}
use Rattle.ti_infer.proofs.Knowing.{SameTypes, operand_same}

-- ---- variables in scope

-- the same variables, where the second are single no less than the first
abbrev pub BesideAll : List ScopeVariable → List ScopeVariable → Type 0
BesideAll [] [] = Unit {0}
BesideAll (v ∷ vs) (w ∷ ws) = (v.number ≡ w.number) × (v.type ≡ w.type) × Grows v.is_single w.is_single × BesideAll vs ws
BesideAll _ _ = ⊥

pub beside_itself : (vs : List ScopeVariable) → BesideAll vs vs
beside_itself [] = tt
beside_itself (v ∷ vs) = (refl, refl, (λ h. h), beside_itself vs)

pub beside_types : (vs ws : List ScopeVariable) (number : ℕ) → BesideAll vs ws
    → option_map (λ (v : ScopeVariable). v.type) (find (λ (v : ScopeVariable). v.number == number) vs)
    ≡ option_map (λ (v : ScopeVariable). v.type) (find (λ (v : ScopeVariable). v.number == number) ws)
beside_types [] [] number h = refl
beside_types [] (w ∷ ws) number h = absurd h
beside_types (v ∷ vs) [] number h = absurd h
beside_types (v ∷ vs) (w ∷ ws) number (e, t, g, rest) = by (w.number == number) (ap (λ k. k == number) e) (beside_types vs ws number rest)
  where
    of : List ScopeVariable → Option ValueType
    of xs = option_map (λ (v : ScopeVariable). v.type) (find (λ (v : ScopeVariable). v.number == number) xs)

    by : (b : Bool) → (v.number == number) ≡ b → of vs ≡ of ws
        → option_map (λ (v : ScopeVariable). v.type) (if v.number == number then Some v else find (λ (v : ScopeVariable). v.number == number) vs)
        ≡ option_map (λ (v : ScopeVariable). v.type) (if b then Some w else find (λ (v : ScopeVariable). v.number == number) ws)
    by true h rest = ap (λ b. option_map (λ (v : ScopeVariable). v.type) (if b then Some v else find (λ (v : ScopeVariable). v.number == number) vs)) h ∙ ap Some t
    by false h rest = ap (λ b. option_map (λ (v : ScopeVariable). v.type) (if b then Some v else find (λ (v : ScopeVariable). v.number == number) vs)) h ∙ rest

pub beside_grows : (vs ws : List ScopeVariable) (number : ℕ) → BesideAll vs ws
    → Grows (option_map_or (λ (v : ScopeVariable). v.is_single) (find (λ (v : ScopeVariable). v.number == number) vs) false)
    (option_map_or (λ (v : ScopeVariable). v.is_single) (find (λ (v : ScopeVariable). v.number == number) ws) false)
beside_grows [] [] number h = λ k. k
beside_grows [] (w ∷ ws) number h = absurd h
beside_grows (v ∷ vs) [] number h = absurd h
beside_grows (v ∷ vs) (w ∷ ws) number (e, t, g, rest) = by (w.number == number) (ap (λ k. k == number) e) (beside_grows vs ws number rest)
  where
    of : List ScopeVariable → Bool
    of xs = option_map_or (λ (v : ScopeVariable). v.is_single) (find (λ (v : ScopeVariable). v.number == number) xs) false

    by : (b : Bool) → (v.number == number) ≡ b → Grows (of vs) (of ws)
        → Grows (option_map_or (λ (v : ScopeVariable). v.is_single) (if v.number == number then Some v else find (λ (v : ScopeVariable). v.number == number) vs) false)
        (option_map_or (λ (v : ScopeVariable). v.is_single) (if b then Some w else find (λ (v : ScopeVariable). v.number == number) ws) false)
    by true h rest k = g (sym (ap (λ b. option_map_or (λ (v : ScopeVariable). v.is_single) (if b then Some v else find (λ (v : ScopeVariable). v.number == number) vs) false) h) ∙ k)
    by false h rest k = rest (sym (ap (λ b. option_map_or (λ (v : ScopeVariable). v.is_single) (if b then Some v else find (λ (v : ScopeVariable). v.number == number) vs) false) h) ∙ k)

beside_behind : (vs ws : List ScopeVariable) (v w : ScopeVariable) → BesideAll vs ws → v.number ≡ w.number → v.type ≡ w.type → Grows v.is_single w.is_single → BesideAll (vs ++ v ∷ []) (ws ++ w ∷ [])
beside_behind [] [] v w h e t g = (e, t, g, tt)
beside_behind [] (y ∷ ws) v w h e t g = absurd h
beside_behind (x ∷ vs) [] v w h e t g = absurd h
beside_behind (x ∷ vs) (y ∷ ws) v w h e t g = (h.0, h.1, h.2, beside_behind vs ws v w h.3 e t g)

pub beside_point : (vs ws : List ScopeVariable) (number : ℕ) (a b : Bool) (o q : Option ℕ) → BesideAll vs ws → Grows a b → o ≡ q → BesideAll (with_foreach_variable vs number a o) (with_foreach_variable ws number b q)
beside_point vs ws number a b o q h g e = rw (sym e) (by o)
  where
    by : (o : Option ℕ) → BesideAll (with_foreach_variable vs number a o) (with_foreach_variable ws number b o)
    by None = h
    by (Some n) = beside_behind vs ws _ _ h refl refl g

params_from_beside : (m n : Marks) (number : ℕ) (ws : List NumberedParam) → IsSubset m n → BesideAll (parameters_from number (map (marked_param m) ws)) (parameters_from number (map (marked_param n) ws))
params_from_beside m n number [] part = tt
params_from_beside m n number (w ∷ ws) part = (refl, refl, part.variables w.place, params_from_beside m n (number + 1) ws part)

pub params_beside : (m n : Marks) (ws : NumberedParams) → IsSubset m n → BesideAll (parameters (marked_params m ws)) (parameters (marked_params n ws))
params_beside m n MainArgs part = tt
params_beside m n (Params ws) part = params_from_beside m n 0 ws part

-- ---- a place

-- what stands around a place of a method
abbrev pub around_in : Marks → NumberedMethod → List ScopeVariable → Option Bool → StmtContext
around_in m x vs jump_has = record { method = marked_method m x; variables = vs; jump_has = jump_has }

-- from one `this` to another that is the same
grows_this : (f g : Option ℕ → Bool) (a b c : Option ℕ) → a ≡ c → b ≡ c → Grows (f c) (g c) → Grows (f a) (g b)
grows_this f g a b c h k l t = ap g k ∙ l (sym (ap f h) ∙ t)

module _ (p : ProgramView) (x : NumberedMethod) (m n : Marks) (part : IsSubset m n) (i j : ℕ → Bool) (marks : GrowAll i j) (vs ws : List ScopeVariable) (a b : Option Bool) (beside : BesideAll vs ws) where
  scopes_grow : GrowAll (singles_in (scope_of (around_in m x vs a))) (singles_in (scope_of (around_in n x ws b)))
  scopes_grow number = beside_grows vs ws number beside

  pub part_at : (e : NumberedExp)
      → Grows (is_single_part (marked m p) (this_of (marked_method m x)) (singles_in (scope_of (around_in m x vs a))) (marked_exp i e))
      (is_single_part (marked n p) (this_of (marked_method n x)) (singles_in (scope_of (around_in n x ws b))) (marked_exp j e))
  part_at e =
      grows_this (λ this. is_single_part (marked m p) this (singles_in (scope_of (around_in m x vs a))) (marked_exp i e))
      (λ this. is_single_part (marked n p) this (singles_in (scope_of (around_in n x ws b))) (marked_exp j e))
      _ _ (this_of x) (this_same m x) (this_same n x) (part_grows p (this_of x) m n i j _ _ marks scopes_grow e)

  pub single_at : (e : NumberedExp)
      → Grows (is_single (marked m p) (this_of (marked_method m x)) (singles_in (scope_of (around_in m x vs a))) (marked_exp i e))
      (is_single (marked n p) (this_of (marked_method n x)) (singles_in (scope_of (around_in n x ws b))) (marked_exp j e))
  single_at e =
      grows_this (λ this. is_single (marked m p) this (singles_in (scope_of (around_in m x vs a))) (marked_exp i e))
      (λ this. is_single (marked n p) this (singles_in (scope_of (around_in n x ws b))) (marked_exp j e))
      _ _ (this_of x) (this_same m x) (this_same n x) (single_grows p (this_of x) m n i j _ _ part marks scopes_grow e)

  pub initial_at : (v : NumberedInit)
      → Grows (is_single_initial (marked m p) (this_of (marked_method m x)) (singles_in (scope_of (around_in m x vs a))) (marked_init i v))
      (is_single_initial (marked n p) (this_of (marked_method n x)) (singles_in (scope_of (around_in n x ws b))) (marked_init j v))
  initial_at v =
      grows_this (λ this. is_single_initial (marked m p) this (singles_in (scope_of (around_in m x vs a))) (marked_init i v))
      (λ this. is_single_initial (marked n p) this (singles_in (scope_of (around_in n x ws b))) (marked_init j v))
      _ _ (this_of x) (this_same m x) (this_same n x) (initial_grows p (this_of x) m n i j _ _ part marks scopes_grow v)

  types_at : SameTypes (scope_of (around_in m x vs a)) (scope_of (around_in n x ws b))
  types_at = record { this = this_same m x ∙ sym (this_same n x); types = λ number. beside_types vs ws number beside }

  types_there : SameTypes (scope_of (around_in n x ws b)) (scope_of (around_in n x ws b))
  types_there = record { this = refl; types = λ number. refl }

  -- in the body of a foreach
  pub inside_beside : (number : ℕ) (domain : NumberedExp)
      → BesideAll (variables_inside (marked m p) (scope_of (around_in m x vs a)) number (marked_exp i domain))
      (variables_inside (marked n p) (scope_of (around_in n x ws b)) number (marked_exp j domain))
  inside_beside number domain =
      beside_point vs ws number _ _ _ _ beside (part_at domain)
      (ap (option_and_then domain_dim) (operand_same m p i _ (scope_of (around_in n x ws b)) types_at domain ∙ sym (operand_same n p j _ _ types_there domain)))
