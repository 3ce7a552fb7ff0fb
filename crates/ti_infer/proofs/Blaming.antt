-- What is to blame under a marking is in no accepted subset of it, and if nothing is to blame, no rule is broken.
use Rattle.std.proofs.Common.{◌≡◌, ℕ, Bool, true, false, not, ◌&&◌, ◌||◌, if◌then◌else◌, List, [], ◌∷◌, ◌++◌, map, flat_map, Option, Some, None, option_map, unwrap_or, refl, ap, ap₂, sym, ◌∙◌}
use Rattle.std.specs.Option.{option_map_or}
use Rattle.ti_base.specs.declared.place.Place.{Place}
use Rattle.ti_syntax.specs.declared.tree.types.Qualifier.{Qualifier}
use Rattle.ti_syntax.specs.declared.tree.types.QualifierWord.TheVariants.{Single}
use Rattle.ti_lang.specs.Program.Expressions.{NumberedExp, NumberedExps}
use Rattle.ti_lang.specs.Program.Expressions as e
use Rattle.ti_lang.specs.Program.Statements.{NumberedInit, NumberedStm, MaybeNumbered, NumberedStms, numbered_stms}
use Rattle.ti_lang.specs.Program.Statements as st
use Rattle.ti_lang.specs.Program.Classes.{NumberedParam, NumberedParams, MainArgs, Params, NumberedResult, NumberedMethod, ProgramView}
use Rattle.ti_lang.specs.Program.Classes as c
use Rattle.ti_lang.specs.Program.Scope.{ScopeVariable, parameters, this_of}
use Rattle.ti_lang.specs.Typing.Called.{called_method, member_called}
use Rattle.ti_lang.specs.Typing.Singleness.{is_single_part}
use Rattle.ti_lang.specs.Typing.Effects.{doings_of_maybe}
use Rattle.ti_rules.specs.declared.rule.Rule.{Rule}
use Rattle.ti_rules.specs.declared.rule.Rule.TheVariants.{S1, S2, S3, S4, S5, S6, S7, S8}
use Rattle.ti_rules.specs.Refusals.{refused_if}
use Rattle.ti_rules.specs.StmtInContext.{scope_of, singles_in, loop_acts, variables_inside, inside, inside_maybe, inside_all}
use Rattle.ti_rules.specs.SingleRules.{is_plain_condition, argument_refusals, params_refusals, call_refusals, is_delete, whole_refusals, initial_refusals, single_refusals_at, word_refusals, result_refusals, method_single_refusals, single_refusals}
use Rattle.ti_blame.specs.Marks.{Marks, IsSubset}
use Rattle.ti_infer.specs.Marks.{variable_place, marks_variable}
use Rattle.ti_infer.specs.Marked.{marked_exp, marked_exps, marked_init, marked_stm, marked_maybe, marked_stms, marked_param, marked_params, marked_result, marked_method, marked}
use Rattle.ti_blame.specs.declared.reason.Reason.{Reason}
use Rattle.ti_blame.specs.declared.reason.Reason.TheVariants.{OfCollective, Always, OfResult, OfVariable}
use Rattle.ti_infer.specs.Reason.{reasons_if, target_reasons, result_reasons, loop_reasons, effect_reasons, blame_around, plain_here}
use Rattle.ti_infer.specs.Reason.{arguments_blamed, params_blamed, call_blamed, whole_blamed, initial_blamed, condition_plain, own_blamed}
use Rattle.ti_infer.specs.Reason.{blamed, blamed_of_maybe, blamed_of_all, method_blamed, program_blamed}
use Rattle.ti_infer.proofs.Truths.{Grows, true_false}
use Rattle.ti_infer.proofs.Same.{this_same, call_same, language_same}
use Rattle.ti_infer.proofs.Growing.{GrowAll}
use Rattle.ti_infer.proofs.Beside.{BesideAll, params_beside, around_in, part_at, single_at, initial_at, inside_beside}
use Rattle.ti_infer.proofs.Lists.{refused_none, none_refused, none_both, stms_of_map}
use Rattle.ti_infer.proofs.Lists.{wrong, wrong_both, flat_append}
use Rattle.ti_infer.proofs.Reasoning.{some_held, held_append, or_false, target_held, maybe_held, has_result_held, loop_held, effects_held, method_effects_held}

-- ---- what is held

or_both : (a b : Bool) → (a || b) ≡ false → (a ≡ false) × (b ≡ false)
or_both true b h = absurd (true_false h)
or_both false b h = (refl, h)

pub held_both : (marks : Marks) (xs ys : List Reason) → some_held marks (xs ++ ys) ≡ false → (some_held marks xs ≡ false) × (some_held marks ys ≡ false)
held_both marks xs ys h = or_both _ _ (sym (held_append marks xs ys) ∙ h)

pub both_held : (marks : Marks) (xs ys : List Reason) → some_held marks xs ≡ false → some_held marks ys ≡ false → some_held marks (xs ++ ys) ≡ false
both_held marks xs ys h k = held_append marks xs ys ∙ ap₂ (λ a b. a || b) h k

pub part_grows_variable : (v u : Marks) (m : NumberedMethod) → IsSubset v u → GrowAll (marks_variable v m) (marks_variable u m)
part_grows_variable v u m part number = by (variable_place m number)
  where
    by : (o : Option Place) → Grows (option_map_or v.variables o false) (option_map_or u.variables o false)
    by None = λ h. h
    by (Some at) = part.variables at

-- a rule that isn't broken under the part: where what it wants isn't there under the whole, nothing that makes it ask is in the part
rule_sound : (v : Marks) (dependencies s t : Bool) (r : Rule) (at : Place) (found : List Reason) → dependencies ≡ some_held v found → Grows s t
    → refused_if (dependencies && not s) r at ≡ [] → some_held v (reasons_if (not t) found) ≡ false
rule_sound v dependencies s true r at found e g h = refl
rule_sound v dependencies true false r at found e g h = absurd (true_false (sym (g refl)))
rule_sound v true false false r at found e g h = absurd (true_false (refused_none _ r at h))
rule_sound v false false false r at found e g h = sym e

-- a rule for which nothing is to blame isn't broken
pub rule_complete : (u : Marks) (dependencies s : Bool) (r : Rule) (at : Place) (found : List Reason) → dependencies ≡ some_held u found
    → some_held u (reasons_if (not s) found) ≡ false → refused_if (dependencies && not s) r at ≡ []
rule_complete u dependencies true r at found e h = none_refused _ r at (and_false dependencies)
  where
    and_false : (a : Bool) → (a && false) ≡ false
    and_false true = refl
    and_false false = refl
rule_complete u true false r at found e h = absurd (true_false (e ∙ h))
rule_complete u false false r at found e h = refl

-- ---- the part

module _ (p : ProgramView) (m : NumberedMethod) (v u : Marks) (part : IsSubset v u) where
  growth : GrowAll (marks_variable v m) (marks_variable u m)
  growth = part_grows_variable v u m part

  called_at : (marks : Marks) (x : NumberedExp) → called_method (marked marks p) (this_of (marked_method marks m))
      (marked_exp (marks_variable marks m) x) ≡ option_map (marked_method marks) (called_method p (this_of m) x)
  called_at marks x = ap (λ this. called_method (marked marks p) this (marked_exp (marks_variable marks m) x)) (this_same marks m) ∙ call_same marks p (this_of m) (marks_variable marks m) x

  delete_held : (marks : Marks) (a : NumberedExp) (name : ℕ) (at : Place)
      → is_delete (member_called (marked marks p) (this_of (marked_method marks m)) (marked_exp (marks_variable marks m) a) name)
      ≡ some_held marks (reasons_if (is_delete (member_called p (this_of m) a name)) (OfCollective at ∷ []))
  delete_held marks a name at =
      ap (λ this. is_delete (member_called (marked marks p) this (marked_exp (marks_variable marks m) a) name)) (this_same marks m)
      ∙ ap is_delete (language_same marks p (this_of m) (marks_variable marks m) a name)
      ∙ by (is_delete (member_called p (this_of m) a name))
    where
      by : (b : Bool) → b ≡ some_held marks (reasons_if b (OfCollective at ∷ []))
      by true = refl
      by false = refl

  module _ (vs ws : List ScopeVariable) (j : Option Bool) (jumping : List Reason) (beside : BesideAll vs ws) (jumps : unwrap_or j false ≡ some_held v jumping) where
    here : (x : NumberedExp) → Grows (is_single_part (marked v p) (this_of (marked_method v m)) (singles_in (scope_of (around_in v m vs j)))
        (marked_exp (marks_variable v m) x)) (is_single_part (marked u p) (this_of (marked_method u m))
        (singles_in (scope_of (blame_around p m u ws))) (marked_exp (marks_variable u m) x))
    here x = part_at p m v u part _ _ growth vs ws j None beside x

    arguments_sound : (params : List NumberedParam) (args : NumberedExps)
        → argument_refusals (marked v p) (around_in v m vs j) (map (marked_param v) params) (marked_exps (marks_variable v m) args) ≡ []
        → some_held v (arguments_blamed p m u ws params args) ≡ false
    arguments_sound [] e.NoExp h = refl
    arguments_sound [] (e.MoreExp a rest) h = refl
    arguments_sound (w ∷ params) e.NoExp h = refl
    arguments_sound (w ∷ params) (e.MoreExp a rest) h =
        let f = none_both _ _ h in
        both_held v (reasons_if (plain_here p m u ws a) (OfVariable w.place ∷ [])) (arguments_blamed p m u ws params rest)
        (rule_sound v (v.variables w.place) _ _ S5 _ (OfVariable w.place ∷ []) (or_false _) (here a) f.0)
        (arguments_sound params rest f.1)

    params_sound : (params : NumberedParams) (args : NumberedExps)
        → params_refusals (marked v p) (around_in v m vs j) (marked_params v params) (marked_exps (marks_variable v m) args) ≡ []
        → some_held v (params_blamed p m u ws params args) ≡ false
    params_sound MainArgs args h = refl
    params_sound (Params params) args h = arguments_sound params args h

    call_sound : (o : Option NumberedMethod) (args : NumberedExps)
        → call_refusals (marked v p) (around_in v m vs j) (option_map (marked_method v) o) (marked_exps (marks_variable v m) args) ≡ []
        → some_held v (call_blamed p m u ws o args) ≡ false
    call_sound None args h = refl
    call_sound (Some y) args h = params_sound y.params args h

    method_sound_at : (x : NumberedExp) (args : NumberedExps) → call_refusals (marked v p) (around_in v m vs j)
        (called_method (marked v p) (this_of (marked_method v m)) (marked_exp (marks_variable v m) x))
        (marked_exps (marks_variable v m) args) ≡ []
        → some_held v (call_blamed p m u ws (called_method p (this_of m) x) args) ≡ false
    method_sound_at x args h = call_sound (called_method p (this_of m) x) args
        (sym (ap (λ o. call_refusals (marked v p) (around_in v m vs j) o (marked_exps (marks_variable v m) args)) (called_at v x)) ∙ h)

    whole_sound : (x : NumberedExp) → whole_refusals (marked v p) (around_in v m vs j) (marked_exp (marks_variable v m) x) ≡ [] → some_held v (whole_blamed p m u ws x) ≡ false
    whole_sound (e.Call at method args) h = method_sound_at (e.Call at method args) args h
    whole_sound (e.OwnCall at method args) h = method_sound_at (e.OwnCall at method args) args h
    whole_sound (e.Member at a name args) h =
        let f = none_both _ _ h in
        both_held v (call_blamed p m u ws (called_method p (this_of m) (e.Member at a name args)) args) _ (method_sound_at (e.Member at a name args) args f.0)
        (rule_sound v _ _ _ S8 at (reasons_if (is_delete (member_called p (this_of m) a name)) (OfCollective at ∷ [])) (delete_held v a name at) (here a) f.1)
    whole_sound _ h = refl

    initial_sound : (x : NumberedInit) → initial_refusals (marked v p) (around_in v m vs j) (marked_init (marks_variable v m) x) ≡ [] → some_held v (initial_blamed p m u ws x) ≡ false
    initial_sound (st.Value x) h = whole_sound x h
    initial_sound (st.Broadcast at x root) h = rule_sound v true _ _ S8 at (OfCollective at ∷ []) refl (here root) h
    initial_sound (st.NewRegion at) h = refl
    initial_sound (st.NewObject at region class) h = refl
    initial_sound (st.NewGrid at region element dims_at dims) h = refl

    loop_sound : (r : Rule) (at : Place) (update : MaybeNumbered) (body : NumberedStm) (x : NumberedExp)
        → refused_if (loop_acts (marked v p) (marked_method v m) (marked_maybe (marks_variable v m) v.variables update)
        (marked_stm (marks_variable v m) v.variables body) && not
        (is_single_part (marked v p) (this_of (marked_method v m)) (singles_in (scope_of (around_in v m vs j)))
        (marked_exp (marks_variable v m) x))) r at ≡ []
        → some_held v (reasons_if (plain_here p m u ws x) (loop_reasons p m update body)) ≡ false
    loop_sound r at update body x h = rule_sound v _ _ _ r at (loop_reasons p m update body) (loop_held p m v update body) (here x) h

    condition_sound : (at : Place) (update : MaybeNumbered) (body : NumberedStm) (x : Option NumberedExp)
        → refused_if (loop_acts (marked v p) (marked_method v m) (marked_maybe (marks_variable v m) v.variables update)
        (marked_stm (marks_variable v m) v.variables body) && is_plain_condition (marked v p) (around_in v m vs j)
        (option_map (marked_exp (marks_variable v m)) x)) S2 at ≡ []
        → some_held v (reasons_if (condition_plain p m u ws x) (loop_reasons p m update body)) ≡ false
    condition_sound at update body None h = refl
    condition_sound at update body (Some x) h = loop_sound S2 at update body x h

    always_sound : (b d : Bool) (at : Place) → b ≡ d → refused_if b S2 at ≡ [] → some_held v (reasons_if d (Always ∷ [])) ≡ false
    always_sound b true at e h = absurd (true_false (sym e ∙ refused_none b S2 at h))
    always_sound b false at e h = refl

    own_sound : (s : NumberedStm) → single_refusals_at (marked v p) (around_in v m vs j) (marked_stm (marks_variable v m) v.variables s) ≡ [] → some_held v (own_blamed p m u ws jumping s) ≡ false
    own_sound (st.Declare at type variable value) h =
        let f = none_both _ _ h in
        both_held v (initial_blamed p m u ws value) _ (initial_sound value f.0)
        (rule_sound v (v.variables at) _ _ S4 at (OfVariable at ∷ []) (or_false _)
        (initial_at p m v u part _ _ growth vs ws j None beside value) f.1)
    own_sound (st.Assign at target value) h =
        let f = none_both _ _ h in
        both_held v (initial_blamed p m u ws value) _ (initial_sound value f.0)
        (rule_sound v _ _ _ S4 at (target_reasons p m target) (target_held p m v target)
        (initial_at p m v u part _ _ growth vs ws j None beside value) f.1)
    own_sound (st.Update at op target x) h =
        let f = none_both _ _ h in
        both_held v (whole_blamed p m u ws x) _ (whole_sound x f.0) (rule_sound v _ _ _ S4 at (target_reasons p m target)
        (target_held p m v target) (single_at p m v u part _ _ growth vs ws j None beside x) f.1)
    own_sound (st.Call x) h = whole_sound x h
    own_sound (st.If at c a) h = rule_sound v _ _ _ S1 at (effect_reasons p m jumping (st.If at c a)) (effects_held p m v vs j jumping (st.If at c a) jumps) (here c) h
    own_sound (st.IfElse at c a b) h = rule_sound v _ _ _ S1 at (effect_reasons p m jumping (st.IfElse at c a b)) (effects_held p m v vs j jumping (st.IfElse at c a b) jumps) (here c) h
    own_sound (st.While at c body) h = loop_sound S2 at st.NoStm body c h
    own_sound (st.For at first c update body) h =
        let f = none_both _ _ h in
        both_held v (reasons_if (condition_plain p m u ws c) (loop_reasons p m update body)) (reasons_if (doings_of_maybe p (this_of m) update).jumps (Always ∷ []))
        (condition_sound at update body c f.0) (always_sound _ _ at (maybe_held p m v update).jumps f.1)
    own_sound (st.Foreach at variable domain body) h = loop_sound S3 at st.NoStm body domain h
    own_sound (st.Return at None) h = refl
    own_sound (st.Return at (Some x)) h = rule_sound v _ _ _ S7 at (result_reasons p m m.result) (has_result_held p m v) (here x) h
    own_sound _ h = refl

  -- a jump out of a loop, under the part
  abbrev jump_in : MaybeNumbered → NumberedStm → Option Bool
  jump_in update body = Some (loop_acts (marked v p) (marked_method v m) (marked_maybe (marks_variable v m) v.variables update) (marked_stm (marks_variable v m) v.variables body))

  -- ---- statements where they stand, under the part

  mutual
    pub stm_sound : (s : NumberedStm) (vs ws : List ScopeVariable) (j : Option Bool) (jumping : List Reason) → BesideAll vs ws → unwrap_or j false ≡ some_held v jumping
        → wrong (marked v p) (inside (marked v p) (around_in v m vs j) (marked_stm (marks_variable v m) v.variables s)) ≡ [] → some_held v (blamed p m u ws jumping s) ≡ false
    stm_sound (st.Block body) vs ws j jumping b k h = stms_sound body vs ws j jumping b k h
    stm_sound (st.If at c a) vs ws j jumping b k h =
        let f = none_both _ _ h in
        both_held v (own_blamed p m u ws jumping (st.If at c a)) (blamed p m u ws jumping a) (own_sound vs ws j jumping b k (st.If at c a) f.0) (stm_sound a vs ws j jumping b k f.1)
    stm_sound (st.IfElse at c a d) vs ws j jumping b k h =
        let f = none_both _ _ h in
        let g = wrong_both (marked v p) (inside (marked v p) (around_in v m vs j) (marked_stm (marks_variable v m) v.variables a))
        (inside (marked v p) (around_in v m vs j) (marked_stm (marks_variable v m) v.variables d)) f.1 in
        both_held v (own_blamed p m u ws jumping (st.IfElse at c a d)) (blamed p m u ws jumping a ++ blamed p m u ws jumping d) (own_sound vs ws j jumping b k (st.IfElse at c a d) f.0)
        (both_held v (blamed p m u ws jumping a) (blamed p m u ws jumping d) (stm_sound a vs ws j jumping b k g.0) (stm_sound d vs ws j jumping b k g.1))
    stm_sound (st.While at c body) vs ws j jumping b k h =
        let f = none_both _ _ h in
        both_held v (own_blamed p m u ws jumping (st.While at c body)) (blamed p m u ws (loop_reasons p m st.NoStm body) body) (own_sound vs ws j jumping b k (st.While at c body) f.0)
        (stm_sound body vs ws (jump_in st.NoStm body) (loop_reasons p m st.NoStm body) b (loop_held p m v st.NoStm body) f.1)
    stm_sound (st.For at first c update body) vs ws j jumping b k h =
        let f = none_both _ _ h in
        let inner = inside (marked v p) (around_in v m vs (jump_in update body)) (marked_stm (marks_variable v m) v.variables body) in
        let updating = inside_maybe (marked v p) (around_in v m vs j) (marked_maybe (marks_variable v m) v.variables update) in
        let g = wrong_both (marked v p) (inside_maybe (marked v p) (around_in v m vs j) (marked_maybe (marks_variable v m) v.variables first)) (updating ++ inner) f.1 in
        let l = wrong_both (marked v p) updating inner g.1 in
        both_held v (own_blamed p m u ws jumping (st.For at first c update body)) (blamed_of_maybe p m u ws jumping first
        ++ (blamed_of_maybe p m u ws jumping update ++ blamed p m u ws (loop_reasons p m update body) body))
        (own_sound vs ws j jumping b k (st.For at first c update body) f.0)
        (both_held v (blamed_of_maybe p m u ws jumping first) (blamed_of_maybe p m u ws jumping update
        ++ blamed p m u ws (loop_reasons p m update body) body) (maybe_sound first vs ws j jumping b k g.0)
        (both_held v (blamed_of_maybe p m u ws jumping update) (blamed p m u ws (loop_reasons p m update body) body) (maybe_sound update vs ws j jumping b k l.0)
        (stm_sound body vs ws (jump_in update body) (loop_reasons p m update body) b (loop_held p m v update body) l.1)))
    stm_sound (st.Foreach at variable domain body) vs ws j jumping b k h =
        let f = none_both _ _ h in
        both_held v (own_blamed p m u ws jumping (st.Foreach at variable domain body))
        (blamed p m u (variables_inside (marked u p) (scope_of (blame_around p m u ws)) variable
        (marked_exp (marks_variable u m) domain)) (loop_reasons p m st.NoStm body) body)
        (own_sound vs ws j jumping b k (st.Foreach at variable domain body) f.0)
        (stm_sound body _ _ (jump_in st.NoStm body) (loop_reasons p m st.NoStm body) (inside_beside p m v u part _ _ growth vs ws j None b variable domain) (loop_held p m v st.NoStm body) f.1)
    stm_sound (st.Declare at type variable value) vs ws j jumping b k h = own_sound vs ws j jumping b k (st.Declare at type variable value) (none_both _ _ h).0
    stm_sound (st.Assign at target value) vs ws j jumping b k h = own_sound vs ws j jumping b k (st.Assign at target value) (none_both _ _ h).0
    stm_sound (st.Update at op target x) vs ws j jumping b k h = own_sound vs ws j jumping b k (st.Update at op target x) (none_both _ _ h).0
    stm_sound (st.Call x) vs ws j jumping b k h = own_sound vs ws j jumping b k (st.Call x) (none_both _ _ h).0
    stm_sound (st.Return at value) vs ws j jumping b k h = own_sound vs ws j jumping b k (st.Return at value) (none_both _ _ h).0
    stm_sound _ vs ws j jumping b k h = refl

    maybe_sound : (s : MaybeNumbered) (vs ws : List ScopeVariable) (j : Option Bool) (jumping : List Reason) → BesideAll vs ws → unwrap_or j false ≡ some_held v jumping
        → wrong (marked v p) (inside_maybe (marked v p) (around_in v m vs j) (marked_maybe (marks_variable v m) v.variables s)) ≡ [] → some_held v (blamed_of_maybe p m u ws jumping s) ≡ false
    maybe_sound st.NoStm vs ws j jumping b k h = refl
    maybe_sound (st.SomeStm s) vs ws j jumping b k h = stm_sound s vs ws j jumping b k h

    pub stms_sound : (ss : NumberedStms) (vs ws : List ScopeVariable) (j : Option Bool) (jumping : List Reason) → BesideAll vs ws → unwrap_or j false ≡ some_held v jumping
        → wrong (marked v p) (inside_all (marked v p) (around_in v m vs j) (marked_stms (marks_variable v m) v.variables ss)) ≡ [] → some_held v (blamed_of_all p m u ws jumping ss) ≡ false
    stms_sound st.Nil vs ws j jumping b k h = refl
    stms_sound (st.Cons s rest) vs ws j jumping b k h =
        let f = wrong_both (marked v p) (inside (marked v p) (around_in v m vs j) (marked_stm (marks_variable v m) v.variables s))
        (inside_all (marked v p) (around_in v m vs j) (marked_stms (marks_variable v m) v.variables rest)) h in
        both_held v (blamed p m u ws jumping s) (blamed_of_all p m u ws jumping rest) (stm_sound s vs ws j jumping b k f.0) (stms_sound rest vs ws j jumping b k f.1)

  -- ---- the method, under the part

  method_grows : Grows (marked_method v m).is_single (marked_method u m).is_single
  method_grows = by m.is_single
    where
      by : (b : Bool) → Grows (b || v.methods m.place) (b || u.methods m.place)
      by true h = refl
      by false h = part.methods m.place h

  word_sound : (words : List Qualifier) (at : Place) (b s t : Bool) → Grows s t
      → (if s then [] else flat_map word_refusals (words ++ (if b then record { word = Single; place = at } ∷ [] else []))) ≡ []
      → b ≡ v.results at → some_held v (reasons_if (not t) (OfResult at ∷ [])) ≡ false
  word_sound words at b s true g h e = refl
  word_sound words at b true false g h e = absurd (true_false (sym (g refl)))
  word_sound words at true false false g h e = absurd (some_word (none_both (flat_map word_refusals words) _ (sym (flat_append word_refusals words (record { word = Single; place = at } ∷ [])) ∙ h)).1)
    where
      some_word : flat_map word_refusals (record { word = Single; place = at } ∷ []) ≡ [] → ⊥
      some_word k = cc
  word_sound words at false false false g h e = ap (λ a. a || false) (sym e)

  result_sound : (r : NumberedResult) → result_refusals (marked_method v m).is_single (marked_result (v.results m.place) m.place r) ≡ []
      → some_held v (reasons_if (not (marked_method u m).is_single) (result_reasons p m r)) ≡ false
  result_sound c.Void h = by (marked_method u m).is_single
    where
      by : (b : Bool) → some_held v (reasons_if (not b) []) ≡ false
      by true = refl
      by false = refl
  result_sound (c.Typed type) h = word_sound type.qualifiers m.place (v.results m.place) _ _ method_grows h refl

  pub method_sound : method_single_refusals (marked v p) (marked_method v m) ≡ [] → some_held v (method_blamed p m u) ≡ false
  method_sound h =
      let f = none_both _ _ h in
      let g = none_both _ _ f.0 in
      let effects = reasons_if (not (marked_method u m).is_single) (effect_reasons p m [] (st.Block (numbered_stms m.body))) in
      let result = reasons_if (not (marked_method u m).is_single) (result_reasons p m m.result) in
      both_held v (effects ++ result) (blamed_of_all p m u (parameters (marked_params u m.params)) [] (numbered_stms m.body))
      (both_held v effects result (rule_sound v _ _ _ S6 m.place (effect_reasons p m [] (st.Block (numbered_stms m.body))) (method_effects_held p m v) method_grows g.0) (result_sound m.result g.1))
      (stms_sound (numbered_stms m.body) _ _ None [] (params_beside v u m.params part) refl
      (sym (ap (λ ss. wrong (marked v p) (inside_all (marked v p) (around_in v m (parameters (marked_method v m).params) None) ss)) (stms_of_map (marks_variable v m) v.variables m.body)) ∙ f.1))

methods_sound : (p : ProgramView) (v u : Marks) (ms : List NumberedMethod) → IsSubset v u
    → flat_map (method_single_refusals (marked v p)) (map (marked_method v) ms) ≡ [] → some_held v (flat_map (λ m. method_blamed p m u) ms)
    ≡ false
methods_sound p v u [] part h = refl
methods_sound p v u (m ∷ ms) part h =
    let f = none_both _ _ h in
    both_held v (method_blamed p m u) (flat_map (λ m. method_blamed p m u) ms) (method_sound p m v u part f.0) (methods_sound p v u ms part f.1)

-- nothing that is to blame under a marking is in a part of it that breaks no rule of single values
pub blamed_sound : (p : ProgramView) (v u : Marks) → IsSubset v u → single_refusals (marked v p) ≡ [] → some_held v (program_blamed p u) ≡ false
blamed_sound p v u part h = methods_sound p v u p.methods part h
