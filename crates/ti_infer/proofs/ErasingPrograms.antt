-- A program that breaks no type rule still breaks none with annotations where they are allowed.
use Rattle.std.proofs.Common.{◌≡◌, ◌==◌, ◌+◌, ℕ, Bool, true, false, not, ◌&&◌, if◌then◌else◌, List, [], ◌∷◌, ◌++◌, map, flat_map, find, Option, Some, None, option_map, option_and_then, is_none, refl, ap, ap₂, sym, ◌∙◌}
use Rattle.ti_lang.specs.Program.Types.{ValueType}
use Rattle.ti_lang.specs.Program.Statements.{NumberedStm, MaybeNumbered, NumberedStms, numbered_stms}
use Rattle.ti_lang.specs.Program.Statements as st
use Rattle.ti_lang.specs.Program.Classes.{NumberedParam, NumberedParams, MainArgs, Params, NumberedMethod, ProgramView}
use Rattle.ti_lang.specs.Program.Scope.{ScopeVariable, parameters_from, parameters}
use Rattle.ti_lang.specs.Typing.Kinds.{is_void, domain_dim}
use Rattle.ti_rules.specs.declared.refusal.Refusal.{Refusal}
use Rattle.ti_rules.specs.declared.rule.Rule.TheVariants.{Y6}
use Rattle.ti_rules.specs.Refusals.{refused_if}
use Rattle.ti_rules.specs.StmtInContext.{StmtContext, StmtInContext, scope_of, with_foreach_variable, loop_acts, inside, inside_maybe, inside_all}
use Rattle.ti_rules.specs.Broken.Statements.{standing_refusals}
use Rattle.ti_rules.specs.TypeRules.{class_refusals, is_return, ends_with_return, end_refusals, method_refusals, type_refusals}
use Rattle.ti_blame.specs.Marks.{Marks}
use Rattle.ti_infer.specs.Marks.{marks_variable}
use Rattle.ti_infer.specs.Marked.{marked_stm, marked_maybe, marked_stms, marked_param, marked_params, marked_method, marked}
use Rattle.ti_infer.specs.Fitting.{FitsIn, FitsMaybe, FitsAll, MarksFitMethod, MarksFitMethods, MarksFit}
use Rattle.ti_infer.proofs.Same.{this_same, result_same}
use Rattle.ti_infer.proofs.Knowing.{SameTypes, operand_same}
use Rattle.ti_infer.proofs.Lists.{none_both, both_none, stms_of_map}
use Rattle.ti_infer.proofs.Lists.{flat_append}
use Rattle.ti_infer.proofs.ErasingStatements.{statement_fits}

-- ---- variables in scope

-- the same variables with the same types
abbrev pub TypesAll : List ScopeVariable → List ScopeVariable → Type 0
TypesAll [] [] = Unit {0}
TypesAll (v ∷ vs) (w ∷ ws) = (v.number ≡ w.number) × (v.type ≡ w.type) × TypesAll vs ws
TypesAll _ _ = ⊥

pub types_found : (vs ws : List ScopeVariable) (number : ℕ) → TypesAll vs ws
    → option_map (λ (v : ScopeVariable). v.type) (find (λ (v : ScopeVariable). v.number == number) vs)
    ≡ option_map (λ (v : ScopeVariable). v.type) (find (λ (v : ScopeVariable). v.number == number) ws)
types_found [] [] number h = refl
types_found [] (w ∷ ws) number h = absurd h
types_found (v ∷ vs) [] number h = absurd h
types_found (v ∷ vs) (w ∷ ws) number (e, t, rest) = by (w.number == number) (ap (λ k. k == number) e) (types_found vs ws number rest)
  where
    of : List ScopeVariable → Option ValueType
    of xs = option_map (λ (v : ScopeVariable). v.type) (find (λ (v : ScopeVariable). v.number == number) xs)

    by : (b : Bool) → (v.number == number) ≡ b → of vs ≡ of ws
        → option_map (λ (v : ScopeVariable). v.type) (if v.number == number then Some v else find (λ (v : ScopeVariable). v.number == number) vs)
        ≡ option_map (λ (v : ScopeVariable). v.type) (if b then Some w else find (λ (v : ScopeVariable). v.number == number) ws)
    by true h rest = ap (λ b. option_map (λ (v : ScopeVariable). v.type) (if b then Some v else find (λ (v : ScopeVariable). v.number == number) vs)) h ∙ ap Some t
    by false h rest = ap (λ b. option_map (λ (v : ScopeVariable). v.type) (if b then Some v else find (λ (v : ScopeVariable). v.number == number) vs)) h ∙ rest

types_behind : (vs ws : List ScopeVariable) (v w : ScopeVariable) → TypesAll vs ws → v.number ≡ w.number → v.type ≡ w.type → TypesAll (vs ++ v ∷ []) (ws ++ w ∷ [])
types_behind [] [] v w h e t = (e, t, tt)
types_behind [] (y ∷ ws) v w h e t = absurd h
types_behind (x ∷ vs) [] v w h e t = absurd h
types_behind (x ∷ vs) (y ∷ ws) v w h e t = (h.0, h.1, types_behind vs ws v w h.2 e t)

pub types_point : (vs ws : List ScopeVariable) (number : ℕ) (a b : Bool) (o q : Option ℕ) → TypesAll vs ws → o ≡ q → TypesAll (with_foreach_variable vs number a o) (with_foreach_variable ws number b q)
types_point vs ws number a b o q h e = rw (sym e) (by o)
  where
    by : (o : Option ℕ) → TypesAll (with_foreach_variable vs number a o) (with_foreach_variable ws number b o)
    by None = h
    by (Some n) = types_behind vs ws _ _ h refl refl

types_params : (marks : Marks) (number : ℕ) (ws : List NumberedParam) → TypesAll (parameters_from number (map (marked_param marks) ws)) (parameters_from number ws)
types_params marks number [] = tt
types_params marks number (w ∷ ws) = (refl, refl, types_params marks (number + 1) ws)

pub types_parameters : (marks : Marks) (ws : NumberedParams) → TypesAll (parameters (marked_params marks ws)) (parameters ws)
types_parameters marks MainArgs = tt
types_parameters marks (Params ws) = types_params marks 0 ws

-- ---- statements where they stand

abbrev ill : ProgramView → List StmtInContext → List Refusal
ill p xs = flat_map (standing_refusals p) xs

ill_both : (p : ProgramView) (xs ys : List StmtInContext) → ill p (xs ++ ys) ≡ [] → (ill p xs ≡ []) × (ill p ys ≡ [])
ill_both p xs ys h = none_both _ _ (sym (flat_append (standing_refusals p) xs ys) ∙ h)

both_ill : (p : ProgramView) (xs ys : List StmtInContext) → ill p xs ≡ [] → ill p ys ≡ [] → ill p (xs ++ ys) ≡ []
both_ill p xs ys h k = flat_append (standing_refusals p) xs ys ∙ both_none _ _ h k

module _ (marks : Marks) (p : ProgramView) (m : NumberedMethod) where
  abbrev plain_at : List ScopeVariable → Option Bool → StmtContext
  plain_at ws k = record { method = m; variables = ws; jump_has = k }

  abbrev marked_at : List ScopeVariable → Option Bool → StmtContext
  marked_at vs j = record { method = marked_method marks m; variables = vs; jump_has = j }

  same_at : (vs ws : List ScopeVariable) (j k : Option Bool) → TypesAll vs ws → SameTypes (scope_of (marked_at vs j)) (scope_of (plain_at ws k))
  same_at vs ws j k t = record { this = this_same marks m; types = λ number. types_found vs ws number t }

  abbrev marked_there : List ScopeVariable → Option Bool → NumberedStm → List StmtInContext
  marked_there vs j x = inside (marked marks p) (marked_at vs j) (marked_stm (marks_variable marks m) marks.variables x)

  abbrev marked_jump : MaybeNumbered → NumberedStm → Option Bool
  marked_jump update body = Some (loop_acts (marked marks p) (marked_method marks m)
      (marked_maybe (marks_variable marks m) marks.variables update) (marked_stm (marks_variable marks m) marks.variables body))

  abbrev plain_jump : MaybeNumbered → NumberedStm → Option Bool
  plain_jump update body = Some (loop_acts p m update body)

  mutual
    stm_fits : (x : NumberedStm) (vs ws : List ScopeVariable) (j k : Option Bool) → TypesAll vs ws → is_none j ≡ is_none k
        → ill p (inside p (plain_at ws k) x) ≡ [] → FitsIn marks.variables x → ill (marked marks p) (marked_there vs j x) ≡ []
    stm_fits (st.Block body) vs ws j k t l h f = stms_fit body vs ws j k t l h f
    stm_fits (st.If at c a) vs ws j k t l h f =
        let g = none_both _ _ h in
        both_none _ _ (statement_fits marks p m (marks_variable marks m) vs ws j k (same_at vs ws j k t) l (st.If at c a) g.0 tt) (stm_fits a vs ws j k t l g.1 f)
    stm_fits (st.IfElse at c a b) vs ws j k t l h f =
        let g = none_both _ _ h in
        let d = ill_both p (inside p (plain_at ws k) a) (inside p (plain_at ws k) b) g.1 in
        both_none _ _ (statement_fits marks p m (marks_variable marks m) vs ws j k (same_at vs ws j k t) l (st.IfElse at c a b) g.0 tt)
        (both_ill (marked marks p) (marked_there vs j a) (marked_there vs j b) (stm_fits a vs ws j k t l d.0 f.0) (stm_fits b vs ws j k t l d.1 f.1))
    stm_fits (st.While at c body) vs ws j k t l h f =
        let g = none_both _ _ h in
        both_none _ _ (statement_fits marks p m (marks_variable marks m) vs ws j k (same_at vs ws j k t) l (st.While at c body) g.0 tt)
        (stm_fits body vs ws (marked_jump st.NoStm body) (plain_jump st.NoStm body) t refl g.1 f)
    stm_fits (st.For at first c update body) vs ws j k t l h f =
        let g = none_both _ _ h in
        let inner = inside p (plain_at ws (plain_jump update body)) body in
        let d = ill_both p (inside_maybe p (plain_at ws k) first) (inside_maybe p (plain_at ws k) update ++ inner) g.1 in
        let n = ill_both p (inside_maybe p (plain_at ws k) update) inner d.1 in
        let firsts = inside_maybe (marked marks p) (marked_at vs j) (marked_maybe (marks_variable marks m) marks.variables first) in
        let updates = inside_maybe (marked marks p) (marked_at vs j) (marked_maybe (marks_variable marks m) marks.variables update) in
        let bodies = marked_there vs (marked_jump update body) body in
        both_none _ _ (statement_fits marks p m (marks_variable marks m) vs ws j k (same_at vs ws j k t) l (st.For at first c update body) g.0 tt)
        (both_ill (marked marks p) firsts (updates ++ bodies) (maybe_fits first vs ws j k t l d.0 f.0)
        (both_ill (marked marks p) updates bodies (maybe_fits update vs ws j k t l n.0 f.1) (stm_fits body vs ws (marked_jump update body) (plain_jump update body) t refl n.1 f.2)))
    stm_fits (st.Foreach at number domain body) vs ws j k t l h f =
        let g = none_both _ _ h in
        both_none _ _ (statement_fits marks p m (marks_variable marks m) vs ws j k (same_at vs ws j k t) l (st.Foreach at number domain body) g.0 tt)
        (stm_fits body _ _ (marked_jump st.NoStm body) (plain_jump st.NoStm body)
        (types_point vs ws number _ _ _ _ t (ap (option_and_then domain_dim) (operand_same marks p (marks_variable marks m) _ _ (same_at vs ws j k t) domain))) refl g.1 f)
    stm_fits (st.Declare at type variable value) vs ws j k t l h f =
        both_none _ _ (statement_fits marks p m (marks_variable marks m) vs ws j k (same_at vs ws j k t) l
        (st.Declare at type variable value) (none_both _ _ h).0 f) refl
    stm_fits (st.Assign at target value) vs ws j k t l h f = both_none _ _
        (statement_fits marks p m (marks_variable marks m) vs ws j k (same_at vs ws j k t) l (st.Assign at target value)
        (none_both _ _ h).0 tt) refl
    stm_fits (st.Update at op target e) vs ws j k t l h f = both_none _ _
        (statement_fits marks p m (marks_variable marks m) vs ws j k (same_at vs ws j k t) l (st.Update at op target e)
        (none_both _ _ h).0 tt) refl
    stm_fits (st.Step at op target) vs ws j k t l h f = both_none _ _
        (statement_fits marks p m (marks_variable marks m) vs ws j k (same_at vs ws j k t) l (st.Step at op target) (none_both _ _ h).0 tt)
        refl
    stm_fits (st.Call e) vs ws j k t l h f = both_none _ _ (statement_fits marks p m (marks_variable marks m) vs ws j k (same_at vs ws j k t) l (st.Call e) (none_both _ _ h).0 tt) refl
    stm_fits (st.Print at what) vs ws j k t l h f = both_none _ _ (statement_fits marks p m (marks_variable marks m) vs ws j k (same_at vs ws j k t) l (st.Print at what) (none_both _ _ h).0 tt) refl
    stm_fits (st.Break at) vs ws j k t l h f = both_none _ _ (statement_fits marks p m (marks_variable marks m) vs ws j k (same_at vs ws j k t) l (st.Break at) (none_both _ _ h).0 tt) refl
    stm_fits (st.Continue at) vs ws j k t l h f = both_none _ _ (statement_fits marks p m (marks_variable marks m) vs ws j k (same_at vs ws j k t) l (st.Continue at) (none_both _ _ h).0 tt) refl
    stm_fits (st.Return at value) vs ws j k t l h f = both_none _ _
        (statement_fits marks p m (marks_variable marks m) vs ws j k (same_at vs ws j k t) l (st.Return at value) (none_both _ _ h).0 tt)
        refl
    stm_fits st.Empty vs ws j k t l h f = refl
    stm_fits (st.Barrier at) vs ws j k t l h f = refl

    maybe_fits : (x : MaybeNumbered) (vs ws : List ScopeVariable) (j k : Option Bool) → TypesAll vs ws → is_none j ≡ is_none k
        → ill p (inside_maybe p (plain_at ws k) x) ≡ [] → FitsMaybe marks.variables x
        → ill (marked marks p) (inside_maybe (marked marks p) (marked_at vs j) (marked_maybe (marks_variable marks m) marks.variables x)) ≡ []
    maybe_fits st.NoStm vs ws j k t l h f = refl
    maybe_fits (st.SomeStm x) vs ws j k t l h f = stm_fits x vs ws j k t l h f

    stms_fit : (xs : NumberedStms) (vs ws : List ScopeVariable) (j k : Option Bool) → TypesAll vs ws → is_none j ≡ is_none k → ill p (inside_all p (plain_at ws k) xs) ≡ [] → FitsAll marks.variables xs
        → ill (marked marks p) (inside_all (marked marks p) (marked_at vs j) (marked_stms (marks_variable marks m) marks.variables xs)) ≡ []
    stms_fit st.Nil vs ws j k t l h f = refl
    stms_fit (st.Cons x rest) vs ws j k t l h f =
        let g = ill_both p (inside p (plain_at ws k) x) (inside_all p (plain_at ws k) rest) h in
        both_ill (marked marks p) (marked_there vs j x) (inside_all (marked marks p) (marked_at vs j)
        (marked_stms (marks_variable marks m) marks.variables rest)) (stm_fits x vs ws j k t l g.0 f.0)
        (stms_fit rest vs ws j k t l g.1 f.1)

  -- ---- methods

  return_same : (x : NumberedStm) → is_return (marked_stm (marks_variable marks m) marks.variables x) ≡ is_return x
  return_same st.Empty = refl
  return_same (st.Declare at type variable value) = refl
  return_same (st.Assign at target value) = refl
  return_same (st.Update at op target e) = refl
  return_same (st.Step at op target) = refl
  return_same (st.Call e) = refl
  return_same (st.Print at what) = refl
  return_same (st.Barrier at) = refl
  return_same (st.Break at) = refl
  return_same (st.Continue at) = refl
  return_same (st.Return at value) = refl
  return_same (st.Block body) = refl
  return_same (st.If at c a) = refl
  return_same (st.IfElse at c a b) = refl
  return_same (st.While at c body) = refl
  return_same (st.For at first c update body) = refl
  return_same (st.Foreach at number domain body) = refl

  ends_same : (xs : List NumberedStm) → ends_with_return (map (marked_stm (marks_variable marks m) marks.variables) xs) ≡ ends_with_return xs
  ends_same [] = refl
  ends_same (x ∷ []) = return_same x
  ends_same (x ∷ y ∷ rest) = ends_same (y ∷ rest)

  end_same : end_refusals (marked_method marks m) ≡ end_refusals m
  end_same = ap₂ (λ u b. refused_if (not (is_void u) && not b) Y6 m.place) (result_same marks m) (ends_same m.body)

  pub method_fits : method_refusals p m ≡ [] → MarksFitMethod marks m → method_refusals (marked marks p) (marked_method marks m) ≡ []
  method_fits h f =
      let g = none_both _ _ h in
      let d = none_both _ _ g.0 in
      both_none _ _ (both_none _ _ f.0 (end_same ∙ d.1))
      (ap (λ ss. ill (marked marks p) (inside_all (marked marks p) (marked_at (parameters (marked_method marks m).params) None) ss)) (stms_of_map (marks_variable marks m) marks.variables m.body)
      ∙ stms_fit (numbered_stms m.body) _ _ None None (types_parameters marks m.params) refl g.1 f.1)

methods_fit : (marks : Marks) (p : ProgramView) (ms : List NumberedMethod) → flat_map (method_refusals p) ms ≡ [] → MarksFitMethods marks ms
    → flat_map (method_refusals (marked marks p)) (map (marked_method marks) ms) ≡ []
methods_fit marks p [] h f = refl
methods_fit marks p (m ∷ ms) h f =
    let g = none_both _ _ h in
    both_none _ _ (method_fits marks p m g.0 f.0) (methods_fit marks p ms g.1 f.1)

pub marks_fit_types : (p : ProgramView) (marks : Marks) → type_refusals p ≡ [] → MarksFit marks p → type_refusals (marked marks p) ≡ []
marks_fit_types p marks h f =
    let g = none_both _ _ h in
    both_none (flat_map class_refusals p.classes) _ g.0 (methods_fit marks p p.methods g.1 f)

-- ---- and the other way round

module _ (marks : Marks) (p : ProgramView) (m : NumberedMethod) where
  abbrev around_there : List ScopeVariable → Option Bool → StmtContext
  around_there vs j = record { method = marked_method marks m; variables = vs; jump_has = j }

  abbrev standing_there : List ScopeVariable → Option Bool → NumberedStm → List StmtInContext
  standing_there vs j x = inside (marked marks p) (around_there vs j) (marked_stm (marks_variable marks m) marks.variables x)

  mutual
    fit_stm : (x : NumberedStm) (vs : List ScopeVariable) (j : Option Bool) → ill (marked marks p) (standing_there vs j x) ≡ [] → FitsIn marks.variables x
    fit_stm (st.Declare at type variable value) vs j h = (none_both _ _ (none_both _ _ (none_both _ _ h).0).0).0
    fit_stm (st.Block body) vs j h = fit_stms body vs j h
    fit_stm (st.If at c a) vs j h = fit_stm a vs j (none_both _ _ h).1
    fit_stm (st.IfElse at c a b) vs j h =
        let d = ill_both (marked marks p) (standing_there vs j a) (standing_there vs j b) (none_both _ _ h).1 in
        (fit_stm a vs j d.0, fit_stm b vs j d.1)
    fit_stm (st.While at c body) vs j h = fit_stm body vs _ (none_both _ _ h).1
    fit_stm (st.For at first c update body) vs j h =
        let inner = inside (marked marks p)
        (around_there vs (Some (loop_acts (marked marks p) (marked_method marks m)
        (marked_maybe (marks_variable marks m) marks.variables update)
        (marked_stm (marks_variable marks m) marks.variables body))))
        (marked_stm (marks_variable marks m) marks.variables body) in
        let updates = inside_maybe (marked marks p) (around_there vs j) (marked_maybe (marks_variable marks m) marks.variables update) in
        let d = ill_both (marked marks p) (inside_maybe (marked marks p) (around_there vs j) (marked_maybe (marks_variable marks m) marks.variables first)) (updates ++ inner) (none_both _ _ h).1 in
        let n = ill_both (marked marks p) updates inner d.1 in
        (fit_maybe first vs j d.0, fit_maybe update vs j n.0, fit_stm body vs _ n.1)
    fit_stm (st.Foreach at number domain body) vs j h = fit_stm body _ _ (none_both _ _ h).1
    fit_stm _ vs j h = tt

    fit_maybe : (x : MaybeNumbered) (vs : List ScopeVariable) (j : Option Bool)
        → ill (marked marks p) (inside_maybe (marked marks p) (around_there vs j) (marked_maybe (marks_variable marks m) marks.variables x))
        ≡ [] → FitsMaybe marks.variables x
    fit_maybe st.NoStm vs j h = tt
    fit_maybe (st.SomeStm x) vs j h = fit_stm x vs j h

    fit_stms : (xs : NumberedStms) (vs : List ScopeVariable) (j : Option Bool)
        → ill (marked marks p) (inside_all (marked marks p) (around_there vs j) (marked_stms (marks_variable marks m) marks.variables xs))
        ≡ [] → FitsAll marks.variables xs
    fit_stms st.Nil vs j h = tt
    fit_stms (st.Cons x rest) vs j h =
        let g = ill_both (marked marks p) (standing_there vs j x) (inside_all (marked marks p) (around_there vs j) (marked_stms (marks_variable marks m) marks.variables rest)) h in
        (fit_stm x vs j g.0, fit_stms rest vs j g.1)

  fit_method : method_refusals (marked marks p) (marked_method marks m) ≡ [] → MarksFitMethod marks m
  fit_method h =
      let g = none_both _ _ h in (
        (none_both _ _ g.0).0,
        fit_stms (numbered_stms m.body) _ None
            (sym (ap (λ ss. ill (marked marks p) (inside_all (marked marks p)
            (around_there (parameters (marked_method marks m).params) None) ss))
            (stms_of_map (marks_variable marks m) marks.variables m.body)) ∙ g.1),
      )

fit_methods : (marks : Marks) (p : ProgramView) (ms : List NumberedMethod) → flat_map (method_refusals (marked marks p)) (map (marked_method marks) ms) ≡ [] → MarksFitMethods marks ms
fit_methods marks p [] h = tt
fit_methods marks p (m ∷ ms) h =
    let g = none_both _ _ h in
    (fit_method marks p m g.0, fit_methods marks p ms g.1)

pub types_fit_marks : (p : ProgramView) (marks : Marks) → type_refusals (marked marks p) ≡ [] → MarksFit marks p
types_fit_marks p marks h = fit_methods marks p p.methods (none_both (flat_map class_refusals p.classes) _ h).1
