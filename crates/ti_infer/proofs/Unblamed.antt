-- If nothing is to blame under a marking, the program breaks no rule of single values under it.
use Rattle.std.proofs.Common.{◌≡◌, ℕ, Bool, true, false, not, ◌&&◌, ◌||◌, if◌then◌else◌, List, [], ◌∷◌, ◌++◌, map, flat_map, Option, Some, None, option_map, unwrap_or, refl, ap, ◌∙◌}
use Rattle.ti_base.specs.declared.place.Place.{Place}
use Rattle.ti_syntax.specs.declared.tree.types.Qualifier.{Qualifier}
use Rattle.ti_syntax.specs.declared.tree.types.QualifierWord.TheVariants.{Single}
use Rattle.ti_lang.specs.Program.Expressions.{NumberedExp, NumberedExps}
use Rattle.ti_lang.specs.Program.Expressions as e
use Rattle.ti_lang.specs.Program.Statements.{NumberedInit, NumberedStm, MaybeNumbered, NumberedStms, numbered_stms}
use Rattle.ti_lang.specs.Program.Statements as st
use Rattle.ti_lang.specs.Program.Classes.{NumberedParam, NumberedParams, MainArgs, Params, NumberedResult, NumberedMethod, ProgramView}
use Rattle.ti_lang.specs.Program.Classes as c
use Rattle.ti_lang.specs.Program.Scope.{ScopeVariable, parameters, this_of}
use Rattle.ti_lang.specs.Typing.Called.{called_method, member_called}
use Rattle.ti_lang.specs.Typing.Singleness.{is_single_part}
use Rattle.ti_lang.specs.Typing.Effects.{doings_of_maybe}
use Rattle.ti_rules.specs.declared.rule.Rule.{Rule}
use Rattle.ti_rules.specs.declared.rule.Rule.TheVariants.{S1, S2, S3, S4, S5, S6, S7, S8}
use Rattle.ti_rules.specs.Refusals.{refused_if}
use Rattle.ti_rules.specs.StmtInContext.{scope_of, singles_in, loop_acts, variables_inside, inside, inside_maybe, inside_all}
use Rattle.ti_rules.specs.SingleRules.{is_plain_condition, argument_refusals, params_refusals, call_refusals, is_delete, whole_refusals, initial_refusals, single_refusals_at, word_refusals, result_refusals, method_single_refusals, single_refusals}
use Rattle.ti_blame.specs.Marks.{Marks}
use Rattle.ti_infer.specs.Marks.{marks_variable}
use Rattle.ti_infer.specs.Marked.{marked_exp, marked_exps, marked_init, marked_stm, marked_maybe, marked_stms, marked_param, marked_params, marked_result, marked_method, marked}
use Rattle.ti_infer.specs.Stripped.{IsPlainResult, HavePlainResults}
use Rattle.ti_blame.specs.declared.reason.Reason.{Reason}
use Rattle.ti_blame.specs.declared.reason.Reason.TheVariants.{OfCollective, Always, OfResult, OfVariable}
use Rattle.ti_infer.specs.Reason.{reasons_if, target_reasons, result_reasons, loop_reasons, effect_reasons, blame_around, plain_here}
use Rattle.ti_infer.specs.Reason.{arguments_blamed, params_blamed, call_blamed, whole_blamed, initial_blamed, condition_plain, own_blamed}
use Rattle.ti_infer.specs.Reason.{blamed, blamed_of_maybe, blamed_of_all, method_blamed, program_blamed}
use Rattle.ti_infer.proofs.Truths.{true_false}
use Rattle.ti_infer.proofs.Same.{this_same, call_same, language_same}
use Rattle.ti_infer.proofs.Beside.{around_in}
use Rattle.ti_infer.proofs.Lists.{none_refused, both_none, stms_of_map}
use Rattle.ti_infer.proofs.Lists.{wrong, both_wrong, flat_append}
use Rattle.ti_infer.proofs.Reasoning.{some_held, or_false, target_held, maybe_held, has_result_held, loop_held, effects_held, method_effects_held}
use Rattle.ti_infer.proofs.Blaming.{held_both, rule_complete}

module _ (p : ProgramView) (m : NumberedMethod) (u : Marks) where
  called_at : (x : NumberedExp) → called_method (marked u p) (this_of (marked_method u m)) (marked_exp (marks_variable u m) x) ≡ option_map (marked_method u) (called_method p (this_of m) x)
  called_at x = ap (λ this. called_method (marked u p) this (marked_exp (marks_variable u m) x)) (this_same u m) ∙ call_same u p (this_of m) (marks_variable u m) x

  delete_held : (a : NumberedExp) (name : ℕ) (at : Place) → is_delete
      (member_called (marked u p) (this_of (marked_method u m)) (marked_exp (marks_variable u m) a) name)
      ≡ some_held u (reasons_if (is_delete (member_called p (this_of m) a name)) (OfCollective at ∷ []))
  delete_held a name at =
      ap (λ this. is_delete (member_called (marked u p) this (marked_exp (marks_variable u m) a) name)) (this_same u m)
      ∙ ap is_delete (language_same u p (this_of m) (marks_variable u m) a name) ∙ by (is_delete (member_called p (this_of m) a name))
    where
      by : (b : Bool) → b ≡ some_held u (reasons_if b (OfCollective at ∷ []))
      by true = refl
      by false = refl

  module _ (ws : List ScopeVariable) (j : Option Bool) (jumping : List Reason) (jumps : unwrap_or j false ≡ some_held u jumping) where
    arguments_complete : (params : List NumberedParam) (args : NumberedExps) → some_held u (arguments_blamed p m u ws params args) ≡ false
        → argument_refusals (marked u p) (around_in u m ws j) (map (marked_param u) params) (marked_exps (marks_variable u m) args) ≡ []
    arguments_complete [] e.NoExp h = refl
    arguments_complete [] (e.MoreExp a rest) h = refl
    arguments_complete (w ∷ params) e.NoExp h = refl
    arguments_complete (w ∷ params) (e.MoreExp a rest) h =
        let f = held_both u (reasons_if (plain_here p m u ws a) (OfVariable w.place ∷ [])) (arguments_blamed p m u ws params rest) h in
        both_none _ _ (rule_complete u (u.variables w.place) _ S5 _ (OfVariable w.place ∷ []) (or_false _) f.0) (arguments_complete params rest f.1)

    params_complete : (params : NumberedParams) (args : NumberedExps) → some_held u (params_blamed p m u ws params args) ≡ false
        → params_refusals (marked u p) (around_in u m ws j) (marked_params u params) (marked_exps (marks_variable u m) args) ≡ []
    params_complete MainArgs args h = refl
    params_complete (Params params) args h = arguments_complete params args h

    call_complete : (o : Option NumberedMethod) (args : NumberedExps) → some_held u (call_blamed p m u ws o args) ≡ false
        → call_refusals (marked u p) (around_in u m ws j) (option_map (marked_method u) o) (marked_exps (marks_variable u m) args) ≡ []
    call_complete None args h = refl
    call_complete (Some y) args h = params_complete y.params args h

    method_complete_at : (x : NumberedExp) (args : NumberedExps) → some_held u (call_blamed p m u ws (called_method p (this_of m) x) args) ≡ false
        → call_refusals (marked u p) (around_in u m ws j) (called_method (marked u p) (this_of (marked_method u m)) (marked_exp (marks_variable u m) x)) (marked_exps (marks_variable u m) args) ≡ []
    method_complete_at x args h = ap (λ o. call_refusals (marked u p) (around_in u m ws j) o (marked_exps (marks_variable u m) args))
        (called_at x) ∙ call_complete (called_method p (this_of m) x) args h

    whole_complete : (x : NumberedExp) → some_held u (whole_blamed p m u ws x) ≡ false → whole_refusals (marked u p) (around_in u m ws j) (marked_exp (marks_variable u m) x) ≡ []
    whole_complete (e.Call at method args) h = method_complete_at (e.Call at method args) args h
    whole_complete (e.OwnCall at method args) h = method_complete_at (e.OwnCall at method args) args h
    whole_complete (e.Member at a name args) h =
        let f = held_both u (call_blamed p m u ws (called_method p (this_of m) (e.Member at a name args)) args)
        (reasons_if (plain_here p m u ws a) (reasons_if (is_delete (member_called p (this_of m) a name)) (OfCollective at ∷ []))) h in
        both_none _ _ (method_complete_at (e.Member at a name args) args f.0)
        (rule_complete u _ _ S8 at (reasons_if (is_delete (member_called p (this_of m) a name)) (OfCollective at ∷ [])) (delete_held a name at) f.1)
    whole_complete _ h = refl

    initial_complete : (x : NumberedInit) → some_held u (initial_blamed p m u ws x) ≡ false → initial_refusals (marked u p) (around_in u m ws j) (marked_init (marks_variable u m) x) ≡ []
    initial_complete (st.Value x) h = whole_complete x h
    initial_complete (st.Broadcast at x root) h = rule_complete u true _ S8 at (OfCollective at ∷ []) refl h
    initial_complete (st.NewRegion at) h = refl
    initial_complete (st.NewObject at region class) h = refl
    initial_complete (st.NewGrid at region element dims_at dims) h = refl

    loop_complete : (r : Rule) (at : Place) (update : MaybeNumbered) (body : NumberedStm) (x : NumberedExp)
        → some_held u (reasons_if (plain_here p m u ws x) (loop_reasons p m update body)) ≡ false
        → refused_if (loop_acts (marked u p) (marked_method u m) (marked_maybe (marks_variable u m) u.variables update)
        (marked_stm (marks_variable u m) u.variables body) && not
        (is_single_part (marked u p) (this_of (marked_method u m)) (singles_in (scope_of (around_in u m ws j)))
        (marked_exp (marks_variable u m) x))) r at ≡ []
    loop_complete r at update body x h = rule_complete u _ _ r at (loop_reasons p m update body) (loop_held p m u update body) h

    and_false : (a : Bool) → (a && false) ≡ false
    and_false true = refl
    and_false false = refl

    condition_complete : (at : Place) (update : MaybeNumbered) (body : NumberedStm) (x : Option NumberedExp)
        → some_held u (reasons_if (condition_plain p m u ws x) (loop_reasons p m update body)) ≡ false
        → refused_if (loop_acts (marked u p) (marked_method u m) (marked_maybe (marks_variable u m) u.variables update)
        (marked_stm (marks_variable u m) u.variables body) && is_plain_condition (marked u p) (around_in u m ws j)
        (option_map (marked_exp (marks_variable u m)) x)) S2 at ≡ []
    condition_complete at update body None h = none_refused _ S2 at (and_false _)
    condition_complete at update body (Some x) h = loop_complete S2 at update body x h

    always_complete : (b d : Bool) (at : Place) → b ≡ d → some_held u (reasons_if d (Always ∷ [])) ≡ false → refused_if b S2 at ≡ []
    always_complete b true at e h = absurd (true_false h)
    always_complete b false at e h = none_refused b S2 at e

    own_complete : (s : NumberedStm) → some_held u (own_blamed p m u ws jumping s) ≡ false → single_refusals_at (marked u p) (around_in u m ws j) (marked_stm (marks_variable u m) u.variables s) ≡ []
    own_complete (st.Declare at type variable value) h =
        let f = held_both u (initial_blamed p m u ws value) _ h in
        both_none _ _ (initial_complete value f.0) (rule_complete u (u.variables at) _ S4 at (OfVariable at ∷ []) (or_false _) f.1)
    own_complete (st.Assign at target value) h =
        let f = held_both u (initial_blamed p m u ws value) _ h in
        both_none _ _ (initial_complete value f.0) (rule_complete u _ _ S4 at (target_reasons p m target) (target_held p m u target) f.1)
    own_complete (st.Update at op target x) h =
        let f = held_both u (whole_blamed p m u ws x) _ h in
        both_none _ _ (whole_complete x f.0) (rule_complete u _ _ S4 at (target_reasons p m target) (target_held p m u target) f.1)
    own_complete (st.Call x) h = whole_complete x h
    own_complete (st.If at c a) h = rule_complete u _ _ S1 at (effect_reasons p m jumping (st.If at c a)) (effects_held p m u ws j jumping (st.If at c a) jumps) h
    own_complete (st.IfElse at c a b) h = rule_complete u _ _ S1 at (effect_reasons p m jumping (st.IfElse at c a b)) (effects_held p m u ws j jumping (st.IfElse at c a b) jumps) h
    own_complete (st.While at c body) h = loop_complete S2 at st.NoStm body c h
    own_complete (st.For at first c update body) h =
        let f = held_both u (reasons_if (condition_plain p m u ws c) (loop_reasons p m update body)) (reasons_if (doings_of_maybe p (this_of m) update).jumps (Always ∷ [])) h in
        both_none _ _ (condition_complete at update body c f.0) (always_complete _ _ at (maybe_held p m u update).jumps f.1)
    own_complete (st.Foreach at variable domain body) h = loop_complete S3 at st.NoStm body domain h
    own_complete (st.Return at None) h = refl
    own_complete (st.Return at (Some x)) h = rule_complete u _ _ S7 at (result_reasons p m m.result) (has_result_held p m u) h
    own_complete _ h = refl

  -- ---- statements where they stand

  abbrev jump_in : MaybeNumbered → NumberedStm → Option Bool
  jump_in update body = Some (loop_acts (marked u p) (marked_method u m) (marked_maybe (marks_variable u m) u.variables update) (marked_stm (marks_variable u m) u.variables body))

  mutual
    stm_complete : (s : NumberedStm) (ws : List ScopeVariable) (j : Option Bool) (jumping : List Reason) → unwrap_or j false ≡ some_held u jumping → some_held u (blamed p m u ws jumping s) ≡ false
        → wrong (marked u p) (inside (marked u p) (around_in u m ws j) (marked_stm (marks_variable u m) u.variables s)) ≡ []
    stm_complete (st.Block body) ws j jumping k h = stms_complete body ws j jumping k h
    stm_complete (st.If at c a) ws j jumping k h =
        let f = held_both u (own_blamed p m u ws jumping (st.If at c a)) (blamed p m u ws jumping a) h in
        both_none _ _ (own_complete ws j jumping k (st.If at c a) f.0) (stm_complete a ws j jumping k f.1)
    stm_complete (st.IfElse at c a d) ws j jumping k h =
        let f = held_both u (own_blamed p m u ws jumping (st.IfElse at c a d)) (blamed p m u ws jumping a ++ blamed p m u ws jumping d) h in
        let g = held_both u (blamed p m u ws jumping a) (blamed p m u ws jumping d) f.1 in
        both_none _ _ (own_complete ws j jumping k (st.IfElse at c a d) f.0)
        (both_wrong (marked u p) (inside (marked u p) (around_in u m ws j) (marked_stm (marks_variable u m) u.variables a))
        (inside (marked u p) (around_in u m ws j) (marked_stm (marks_variable u m) u.variables d))
        (stm_complete a ws j jumping k g.0) (stm_complete d ws j jumping k g.1))
    stm_complete (st.While at c body) ws j jumping k h =
        let f = held_both u (own_blamed p m u ws jumping (st.While at c body)) (blamed p m u ws (loop_reasons p m st.NoStm body) body) h in
        both_none _ _ (own_complete ws j jumping k (st.While at c body) f.0) (stm_complete body ws (jump_in st.NoStm body) (loop_reasons p m st.NoStm body) (loop_held p m u st.NoStm body) f.1)
    stm_complete (st.For at first c update body) ws j jumping k h =
        let inner = blamed p m u ws (loop_reasons p m update body) body in
        let f = held_both u (own_blamed p m u ws jumping (st.For at first c update body)) (blamed_of_maybe p m u ws jumping first ++ (blamed_of_maybe p m u ws jumping update ++ inner)) h in
        let g = held_both u (blamed_of_maybe p m u ws jumping first) (blamed_of_maybe p m u ws jumping update ++ inner) f.1 in
        let l = held_both u (blamed_of_maybe p m u ws jumping update) inner g.1 in
        let body_there = inside (marked u p) (around_in u m ws (jump_in update body)) (marked_stm (marks_variable u m) u.variables body) in
        let update_there = inside_maybe (marked u p) (around_in u m ws j) (marked_maybe (marks_variable u m) u.variables update) in
        both_none _ _ (own_complete ws j jumping k (st.For at first c update body) f.0)
        (both_wrong (marked u p) (inside_maybe (marked u p) (around_in u m ws j) (marked_maybe (marks_variable u m) u.variables first))
        (update_there ++ body_there) (maybe_complete first ws j jumping k g.0)
        (both_wrong (marked u p) update_there body_there (maybe_complete update ws j jumping k l.0)
        (stm_complete body ws (jump_in update body) (loop_reasons p m update body) (loop_held p m u update body) l.1)))
    stm_complete (st.Foreach at variable domain body) ws j jumping k h =
        let f = held_both u (own_blamed p m u ws jumping (st.Foreach at variable domain body))
        (blamed p m u (variables_inside (marked u p) (scope_of (blame_around p m u ws)) variable
        (marked_exp (marks_variable u m) domain)) (loop_reasons p m st.NoStm body) body) h in
        both_none _ _ (own_complete ws j jumping k (st.Foreach at variable domain body) f.0)
        (stm_complete body _ (jump_in st.NoStm body) (loop_reasons p m st.NoStm body) (loop_held p m u st.NoStm body) f.1)
    stm_complete (st.Declare at type variable value) ws j jumping k h = both_none _ _ (own_complete ws j jumping k (st.Declare at type variable value) h) refl
    stm_complete (st.Assign at target value) ws j jumping k h = both_none _ _ (own_complete ws j jumping k (st.Assign at target value) h) refl
    stm_complete (st.Update at op target x) ws j jumping k h = both_none _ _ (own_complete ws j jumping k (st.Update at op target x) h) refl
    stm_complete (st.Call x) ws j jumping k h = both_none _ _ (own_complete ws j jumping k (st.Call x) h) refl
    stm_complete (st.Return at value) ws j jumping k h = both_none _ _ (own_complete ws j jumping k (st.Return at value) h) refl
    stm_complete _ ws j jumping k h = refl

    maybe_complete : (s : MaybeNumbered) (ws : List ScopeVariable) (j : Option Bool) (jumping : List Reason) → unwrap_or j false
        ≡ some_held u jumping → some_held u (blamed_of_maybe p m u ws jumping s) ≡ false
        → wrong (marked u p) (inside_maybe (marked u p) (around_in u m ws j) (marked_maybe (marks_variable u m) u.variables s)) ≡ []
    maybe_complete st.NoStm ws j jumping k h = refl
    maybe_complete (st.SomeStm s) ws j jumping k h = stm_complete s ws j jumping k h

    stms_complete : (ss : NumberedStms) (ws : List ScopeVariable) (j : Option Bool) (jumping : List Reason) → unwrap_or j false
        ≡ some_held u jumping → some_held u (blamed_of_all p m u ws jumping ss) ≡ false
        → wrong (marked u p) (inside_all (marked u p) (around_in u m ws j) (marked_stms (marks_variable u m) u.variables ss)) ≡ []
    stms_complete st.Nil ws j jumping k h = refl
    stms_complete (st.Cons s rest) ws j jumping k h =
        let f = held_both u (blamed p m u ws jumping s) (blamed_of_all p m u ws jumping rest) h in
        both_wrong (marked u p) (inside (marked u p) (around_in u m ws j) (marked_stm (marks_variable u m) u.variables s))
        (inside_all (marked u p) (around_in u m ws j) (marked_stms (marks_variable u m) u.variables rest))
        (stm_complete s ws j jumping k f.0) (stms_complete rest ws j jumping k f.1)

  -- ---- the method

  -- no word stands in the result but that of the mark
  word_complete : (words : List Qualifier) (at : Place) (b t : Bool) → flat_map word_refusals words ≡ [] → some_held u (reasons_if (not t) (OfResult at ∷ [])) ≡ false → b ≡ u.results at
      → (if t then [] else flat_map word_refusals (words ++ (if b then record { word = Single; place = at } ∷ [] else []))) ≡ []
  word_complete words at b true plain h e = refl
  word_complete words at true false plain h e = absurd (true_false (ap (λ a. a || false) e ∙ h))
  word_complete words at false false plain h e = flat_append word_refusals words [] ∙ both_none _ _ plain refl

  result_complete : (r : NumberedResult) → IsPlainResult r → some_held u
      (reasons_if (not (marked_method u m).is_single) (result_reasons p m r)) ≡ false
      → result_refusals (marked_method u m).is_single (marked_result (u.results m.place) m.place r) ≡ []
  result_complete c.Void plain h = refl
  result_complete (c.Typed type) plain h = word_complete type.qualifiers m.place (u.results m.place) _ plain h refl

  pub method_complete : IsPlainResult m.result → some_held u (method_blamed p m u) ≡ false → method_single_refusals (marked u p) (marked_method u m) ≡ []
  method_complete plain h =
      let effects = reasons_if (not (marked_method u m).is_single) (effect_reasons p m [] (st.Block (numbered_stms m.body))) in
      let result = reasons_if (not (marked_method u m).is_single) (result_reasons p m m.result) in
      let f = held_both u (effects ++ result) (blamed_of_all p m u (parameters (marked_params u m.params)) [] (numbered_stms m.body)) h in
      let g = held_both u effects result f.0 in
      both_none _ _
      (both_none _ _ (rule_complete u _ _ S6 m.place (effect_reasons p m [] (st.Block (numbered_stms m.body))) (method_effects_held p m u) g.0) (result_complete m.result plain g.1))
      (ap (λ ss. wrong (marked u p) (inside_all (marked u p) (around_in u m (parameters (marked_method u m).params) None) ss)) (stms_of_map (marks_variable u m) u.variables m.body)
      ∙ stms_complete (numbered_stms m.body) _ None [] refl f.1)

methods_complete : (p : ProgramView) (u : Marks) (ms : List NumberedMethod) → HavePlainResults ms
    → some_held u (flat_map (λ m. method_blamed p m u) ms) ≡ false
    → flat_map (method_single_refusals (marked u p)) (map (marked_method u) ms) ≡ []
methods_complete p u [] plain h = refl
methods_complete p u (m ∷ ms) plain h =
    let f = held_both u (method_blamed p m u) (flat_map (λ m. method_blamed p m u) ms) h in
    both_none _ _ (method_complete p m u plain.0 f.0) (methods_complete p u ms plain.1 f.1)

-- where nothing is to blame, no rule of single values is broken
pub unblamed_complete : (p : ProgramView) (u : Marks) → HavePlainResults p.methods → some_held u (program_blamed p u) ≡ false → single_refusals (marked u p) ≡ []
unblamed_complete p u plain h = methods_complete p u p.methods plain h
