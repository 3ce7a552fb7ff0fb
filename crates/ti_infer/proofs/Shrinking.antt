-- What is to blame under a marking is to blame under each subset of it.
use Rattle.std.proofs.Common.{◌≡◌, Bool, true, false, not, ◌||◌, List, [], ◌∷◌, ◌++◌, flat_map, Option, Some, None, refl, ap, sym, ◌∙◌}
use Rattle.std.specs.List.{list_any}
use Rattle.std.proofs.lemmas.List.Folds.{list_any-append}
use Rattle.ti_lang.specs.Program.Expressions.{NumberedExp, NumberedExps}
use Rattle.ti_lang.specs.Program.Expressions as e
use Rattle.ti_lang.specs.Program.Statements.{NumberedInit, NumberedStm, MaybeNumbered, NumberedStms, numbered_stms}
use Rattle.ti_lang.specs.Program.Statements as st
use Rattle.ti_lang.specs.Program.Classes.{NumberedParam, NumberedParams, MainArgs, Params, NumberedMethod, ProgramView}
use Rattle.ti_lang.specs.Program.Scope.{ScopeVariable, this_of}
use Rattle.ti_lang.specs.Typing.Called.{called_method}
use Rattle.ti_rules.specs.StmtInContext.{scope_of, variables_inside}
use Rattle.ti_rules.specs.SingleRules.{is_plain_initial}
use Rattle.ti_blame.specs.Marks.{Marks, IsSubset}
use Rattle.ti_infer.specs.Marks.{marks_variable}
use Rattle.ti_infer.specs.Marked.{marked_exp, marked_init, marked_method, marked}
use Rattle.ti_blame.specs.declared.reason.Reason.{Reason}
use Rattle.ti_infer.specs.Reason.{reasons_if, effect_reasons, result_reasons, loop_reasons, target_reasons, blame_around, plain_here}
use Rattle.ti_infer.specs.Reason.{arguments_blamed, params_blamed, call_blamed, whole_blamed, initial_blamed, condition_plain, own_blamed}
use Rattle.ti_infer.specs.Reason.{blamed, blamed_of_maybe, blamed_of_all, method_blamed, program_blamed}
use Rattle.ti_infer.proofs.Truths.{Grows, true_false}
use Rattle.ti_infer.proofs.Growing.{GrowAll}
use Rattle.ti_infer.proofs.Beside.{BesideAll, params_beside, part_at, single_at, initial_at, inside_beside}
use Rattle.ti_infer.proofs.Blaming.{part_grows_variable}

module _ (q : Reason → Bool) where
  grows_or : (a b d f : Bool) → Grows a b → Grows d f → Grows (a || d) (b || f)
  grows_or true b d f g h k = rw (g refl) refl
  grows_or false b d f g h k = by b (h k)
    where
      by : (b : Bool) → f ≡ true → (b || f) ≡ true
      by true e = refl
      by false e = e

  appended : (xs ys zs ws : List Reason) → Grows (list_any q xs) (list_any q zs) → Grows (list_any q ys) (list_any q ws) → Grows (list_any q (xs ++ ys)) (list_any q (zs ++ ws))
  appended xs ys zs ws g h k = list_any-append q zs ws ∙ grows_or _ _ _ _ g h (sym (list_any-append q xs ys) ∙ k)

  -- of two tests the first of which is no stricter
  behind : (s t : Bool) (xs : List Reason) → Grows s t → Grows (list_any q (reasons_if (not t) xs)) (list_any q (reasons_if (not s) xs))
  behind true t xs g k = absurd (true_false (sym k ∙ ap (λ b. list_any q (reasons_if (not b) xs)) (g refl)))
  behind false true xs g k = absurd (true_false (sym k))
  behind false false xs g k = k

  same : (xs : List Reason) → Grows (list_any q xs) (list_any q xs)
  same xs k = k

  module _ (p : ProgramView) (m : NumberedMethod) (v u : Marks) (part : IsSubset v u) where
    growth : GrowAll (marks_variable v m) (marks_variable u m)
    growth = part_grows_variable v u m part

    module _ (vs ws : List ScopeVariable) (jumping : List Reason) (beside : BesideAll vs ws) where
      plain : (x : NumberedExp) (xs : List Reason) → Grows (list_any q (reasons_if (plain_here p m u ws x) xs)) (list_any q (reasons_if (plain_here p m v vs x) xs))
      plain x xs = behind _ _ xs (part_at p m v u part _ _ growth vs ws None None beside x)

      arguments_shrink : (params : List NumberedParam) (args : NumberedExps) → Grows (list_any q (arguments_blamed p m u ws params args)) (list_any q (arguments_blamed p m v vs params args))
      arguments_shrink [] e.NoExp = same []
      arguments_shrink [] (e.MoreExp a rest) = same []
      arguments_shrink (w ∷ params) e.NoExp = same []
      arguments_shrink (w ∷ params) (e.MoreExp a rest) =
          appended (reasons_if (plain_here p m u ws a) _) (arguments_blamed p m u ws params rest) (reasons_if (plain_here p m v vs a) _)
          (arguments_blamed p m v vs params rest) (plain a _) (arguments_shrink params rest)

      params_shrink : (params : NumberedParams) (args : NumberedExps) → Grows (list_any q (params_blamed p m u ws params args)) (list_any q (params_blamed p m v vs params args))
      params_shrink MainArgs args = same []
      params_shrink (Params params) args = arguments_shrink params args

      call_shrinks : (o : Option NumberedMethod) (args : NumberedExps) → Grows (list_any q (call_blamed p m u ws o args)) (list_any q (call_blamed p m v vs o args))
      call_shrinks None args = same []
      call_shrinks (Some y) args = params_shrink y.params args

      whole_shrinks : (x : NumberedExp) → Grows (list_any q (whole_blamed p m u ws x)) (list_any q (whole_blamed p m v vs x))
      whole_shrinks (e.Call at method args) = call_shrinks _ args
      whole_shrinks (e.OwnCall at method args) = call_shrinks _ args
      whole_shrinks (e.Member at a name args) =
          let o = called_method p (this_of m) (e.Member at a name args) in
          appended (call_blamed p m u ws o args) (reasons_if (plain_here p m u ws a) _) (call_blamed p m v vs o args) (reasons_if (plain_here p m v vs a) _) (call_shrinks o args) (plain a _)
      whole_shrinks _ = same []

      initial_shrinks : (x : NumberedInit) → Grows (list_any q (initial_blamed p m u ws x)) (list_any q (initial_blamed p m v vs x))
      initial_shrinks (st.Value x) = whole_shrinks x
      initial_shrinks (st.Broadcast at x root) = plain root _
      initial_shrinks (st.NewRegion at) = same []
      initial_shrinks (st.NewObject at region class) = same []
      initial_shrinks (st.NewGrid at region element dims_at dims) = same []

      condition_shrinks : (c : Option NumberedExp) (xs : List Reason) → Grows (list_any q (reasons_if (condition_plain p m u ws c) xs)) (list_any q (reasons_if (condition_plain p m v vs c) xs))
      condition_shrinks None xs = same []
      condition_shrinks (Some x) xs = plain x xs

      given : (value : NumberedInit) (xs : List Reason) → Grows (list_any q (initial_blamed p m u ws value
          ++ reasons_if (is_plain_initial (marked u p) (blame_around p m u ws) (marked_init (marks_variable u m) value)) xs))
          (list_any q (initial_blamed p m v vs value ++ reasons_if (is_plain_initial (marked v p) (blame_around p m v vs) (marked_init (marks_variable v m) value)) xs))
      given value xs = appended (initial_blamed p m u ws value) _ (initial_blamed p m v vs value) _ (initial_shrinks value)
          (behind _ _ xs (initial_at p m v u part _ _ growth vs ws None None beside value))

      own_shrinks : (s : NumberedStm) → Grows (list_any q (own_blamed p m u ws jumping s)) (list_any q (own_blamed p m v vs jumping s))
      own_shrinks (st.Declare at type variable value) = given value _
      own_shrinks (st.Assign at target value) = given value _
      own_shrinks (st.Update at op target x) = appended (whole_blamed p m u ws x) _ (whole_blamed p m v vs x) _ (whole_shrinks x)
          (behind _ _ (target_reasons p m target) (single_at p m v u part _ _ growth vs ws None None beside x))
      own_shrinks (st.Call x) = whole_shrinks x
      own_shrinks (st.If at c a) = plain c _
      own_shrinks (st.IfElse at c a b) = plain c _
      own_shrinks (st.While at c body) = plain c _
      own_shrinks (st.For at first c update body) = appended (reasons_if (condition_plain p m u ws c) _) _
          (reasons_if (condition_plain p m v vs c) _) _ (condition_shrinks c (loop_reasons p m update body)) (same _)
      own_shrinks (st.Foreach at variable domain body) = plain domain _
      own_shrinks (st.Return at None) = same []
      own_shrinks (st.Return at (Some x)) = plain x _
      own_shrinks _ = same []

    mutual
      stm_shrinks : (s : NumberedStm) (vs ws : List ScopeVariable) (jumping : List Reason) → BesideAll vs ws → Grows (list_any q (blamed p m u ws jumping s)) (list_any q (blamed p m v vs jumping s))
      stm_shrinks (st.Block body) vs ws jumping b = stms_shrink body vs ws jumping b
      stm_shrinks (st.If at c a) vs ws jumping b =
          appended (own_blamed p m u ws jumping (st.If at c a)) (blamed p m u ws jumping a) (own_blamed p m v vs jumping (st.If at c a))
          (blamed p m v vs jumping a) (own_shrinks vs ws jumping b (st.If at c a)) (stm_shrinks a vs ws jumping b)
      stm_shrinks (st.IfElse at c a d) vs ws jumping b =
          appended (own_blamed p m u ws jumping (st.IfElse at c a d)) (blamed p m u ws jumping a ++ blamed p m u ws jumping d)
          (own_blamed p m v vs jumping (st.IfElse at c a d)) (blamed p m v vs jumping a ++ blamed p m v vs jumping d)
          (own_shrinks vs ws jumping b (st.IfElse at c a d))
          (appended (blamed p m u ws jumping a) (blamed p m u ws jumping d) (blamed p m v vs jumping a) (blamed p m v vs jumping d) (stm_shrinks a vs ws jumping b) (stm_shrinks d vs ws jumping b))
      stm_shrinks (st.While at c body) vs ws jumping b =
          appended (own_blamed p m u ws jumping (st.While at c body)) (blamed p m u ws (loop_reasons p m st.NoStm body) body)
          (own_blamed p m v vs jumping (st.While at c body)) (blamed p m v vs (loop_reasons p m st.NoStm body) body)
          (own_shrinks vs ws jumping b (st.While at c body)) (stm_shrinks body vs ws (loop_reasons p m st.NoStm body) b)
      stm_shrinks (st.For at first c update body) vs ws jumping b =
          let inner_u = blamed p m u ws (loop_reasons p m update body) body in
          let inner_v = blamed p m v vs (loop_reasons p m update body) body in
          appended (own_blamed p m u ws jumping (st.For at first c update body)) (blamed_of_maybe p m u ws jumping first ++ (blamed_of_maybe p m u ws jumping update ++ inner_u))
          (own_blamed p m v vs jumping (st.For at first c update body)) (blamed_of_maybe p m v vs jumping first ++ (blamed_of_maybe p m v vs jumping update ++ inner_v))
          (own_shrinks vs ws jumping b (st.For at first c update body))
          (appended (blamed_of_maybe p m u ws jumping first) (blamed_of_maybe p m u ws jumping update ++ inner_u)
          (blamed_of_maybe p m v vs jumping first) (blamed_of_maybe p m v vs jumping update ++ inner_v)
          (maybe_shrinks first vs ws jumping b)
          (appended (blamed_of_maybe p m u ws jumping update) inner_u (blamed_of_maybe p m v vs jumping update) inner_v
          (maybe_shrinks update vs ws jumping b) (stm_shrinks body vs ws (loop_reasons p m update body) b)))
      stm_shrinks (st.Foreach at variable domain body) vs ws jumping b =
          let us = variables_inside (marked u p) (scope_of (blame_around p m u ws)) variable (marked_exp (marks_variable u m) domain) in
          let xs = variables_inside (marked v p) (scope_of (blame_around p m v vs)) variable (marked_exp (marks_variable v m) domain) in
          appended (own_blamed p m u ws jumping (st.Foreach at variable domain body))
          (blamed p m u us (loop_reasons p m st.NoStm body) body) (own_blamed p m v vs jumping (st.Foreach at variable domain body))
          (blamed p m v xs (loop_reasons p m st.NoStm body) body)
          (own_shrinks vs ws jumping b (st.Foreach at variable domain body))
          (stm_shrinks body xs us (loop_reasons p m st.NoStm body) (inside_beside p m v u part _ _ growth vs ws None None b variable
          domain))
      stm_shrinks (st.Declare at type variable value) vs ws jumping b = own_shrinks vs ws jumping b (st.Declare at type variable value)
      stm_shrinks (st.Assign at target value) vs ws jumping b = own_shrinks vs ws jumping b (st.Assign at target value)
      stm_shrinks (st.Update at op target x) vs ws jumping b = own_shrinks vs ws jumping b (st.Update at op target x)
      stm_shrinks (st.Call x) vs ws jumping b = own_shrinks vs ws jumping b (st.Call x)
      stm_shrinks (st.Return at value) vs ws jumping b = own_shrinks vs ws jumping b (st.Return at value)
      stm_shrinks _ vs ws jumping b = same []

      maybe_shrinks : (s : MaybeNumbered) (vs ws : List ScopeVariable) (jumping : List Reason) → BesideAll vs ws
          → Grows (list_any q (blamed_of_maybe p m u ws jumping s)) (list_any q (blamed_of_maybe p m v vs jumping s))
      maybe_shrinks st.NoStm vs ws jumping b = same []
      maybe_shrinks (st.SomeStm s) vs ws jumping b = stm_shrinks s vs ws jumping b

      stms_shrink : (ss : NumberedStms) (vs ws : List ScopeVariable) (jumping : List Reason) → BesideAll vs ws
          → Grows (list_any q (blamed_of_all p m u ws jumping ss)) (list_any q (blamed_of_all p m v vs jumping ss))
      stms_shrink st.Nil vs ws jumping b = same []
      stms_shrink (st.Cons s rest) vs ws jumping b =
          appended (blamed p m u ws jumping s) (blamed_of_all p m u ws jumping rest) (blamed p m v vs jumping s)
          (blamed_of_all p m v vs jumping rest) (stm_shrinks s vs ws jumping b) (stms_shrink rest vs ws jumping b)

    method_grows : Grows (marked_method v m).is_single (marked_method u m).is_single
    method_grows = by m.is_single
      where
        by : (b : Bool) → Grows (b || v.methods m.place) (b || u.methods m.place)
        by true h = refl
        by false h = part.methods m.place h

    pub method_shrinks : Grows (list_any q (method_blamed p m u)) (list_any q (method_blamed p m v))
    method_shrinks =
        appended _ (blamed_of_all p m u _ [] (numbered_stms m.body)) _ (blamed_of_all p m v _ [] (numbered_stms m.body))
        (appended (reasons_if (not (marked_method u m).is_single) _) (reasons_if (not (marked_method u m).is_single) _)
        (reasons_if (not (marked_method v m).is_single) _) (reasons_if (not (marked_method v m).is_single) _)
        (behind _ _ (effect_reasons p m [] (st.Block (numbered_stms m.body))) method_grows) (behind _ _ (result_reasons p m m.result) method_grows))
        (stms_shrink (numbered_stms m.body) _ _ [] (params_beside v u m.params part))

  methods_shrink : (p : ProgramView) (v u : Marks) (ms : List NumberedMethod) → IsSubset v u
      → Grows (list_any q (flat_map (λ m. method_blamed p m u) ms)) (list_any q (flat_map (λ m. method_blamed p m v) ms))
  methods_shrink p v u [] part = same []
  methods_shrink p v u (m ∷ ms) part =
      appended (method_blamed p m u) (flat_map (λ m. method_blamed p m u) ms) (method_blamed p m v) (flat_map (λ m. method_blamed p m v) ms)
      (method_shrinks p m v u part) (methods_shrink p v u ms part)

  pub program_shrinks : (p : ProgramView) (v u : Marks) → IsSubset v u → Grows (list_any q (program_blamed p u)) (list_any q (program_blamed p v))
  program_shrinks p v u part = methods_shrink p v u p.methods part
