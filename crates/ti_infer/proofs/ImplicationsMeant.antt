-- What is to blame in a method under a marking is what is ruled out by the constraints of the method whose premise the marking lacks.
use Rattle.std.proofs.Common.{◌≡◌, ℕ, ◌+◌, ◌-◌, ◌==◌, Bool, true, false, not, ◌&&◌, ◌||◌, if◌then◌else◌, List, [], ◌∷◌, ◌++◌, length, take, drop, map, find, Option, Some, None, is_some, option_and_then, refl, ap, ap₂, sym, subst, ◌∙◌, arith, length-append, append_assoc, append-nil}
use Rattle.std.proofs.Math.Seq.{drop-append_seam, take-append_seam}
use Rattle.std.specs.List.{list_any}
use Rattle.std.specs.Option.{option_map_or}
use Rattle.std.proofs.lemmas.List.Folds.{list_any-append}
use Rattle.ti_base.specs.declared.place.Place.{Place}
use Rattle.ti_lang.specs.Program.Expressions.{NumberedExp, NumberedExps}
use Rattle.ti_lang.specs.Program.Expressions as e
use Rattle.ti_lang.specs.Program.Statements.{NumberedInit, NumberedStm, MaybeNumbered, NumberedStms}
use Rattle.ti_lang.specs.Program.Statements as st
use Rattle.ti_lang.specs.Program.Classes.{NumberedParam, NumberedParams, MainArgs, Params, NumberedMethod, ProgramView}
use Rattle.ti_lang.specs.Program.Scope.{ScopeVariable, parameters_from, parameters, this_of}
use Rattle.ti_lang.specs.Typing.Kinds.{domain_dim}
use Rattle.ti_lang.specs.Typing.Called.{called_method, member_called}
use Rattle.ti_lang.specs.Typing.Effects.{doings, doings_of_maybe}
use Rattle.ti_rules.specs.StmtInContext.{scope_of, singles_in, with_foreach_variable, variables_inside}
use Rattle.ti_rules.specs.SingleRules.{is_delete}
use Rattle.ti_blame.specs.declared.reason.Reason.{Reason}
use Rattle.ti_blame.specs.declared.reason.Reason.TheVariants.{OfVariable, OfCollective, Always}
use Rattle.ti_blame.specs.declared.mark.Mark.{Mark}
use Rattle.ti_blame.specs.declared.implication.Conclusion.{Conclusion}
use Rattle.ti_blame.specs.declared.implication.Conclusion.TheVariants.{One, Between}
use Rattle.ti_blame.specs.declared.implication.Implication.{Implication}
use Rattle.ti_blame.specs.Marks.{Marks}
use Rattle.ti_blame.specs.Implications.{holds_conditionally, meaning, is_triggered}
use Rattle.ti_infer.specs.Marks.{marks_variable}
use Rattle.ti_infer.specs.Marked.{marked_exp, marked_param, marked_params, marked}
use Rattle.ti_infer.specs.Reason.{reasons_if, target_reasons, reasons, reasons_of_maybe, reasons_of_all, result_reasons, return_reasons}
use Rattle.ti_infer.specs.Reason.{loop_reasons, effect_reasons, blame_around, plain_here, arguments_blamed, params_blamed, call_blamed}
use Rattle.ti_infer.specs.Reason.{whole_blamed, initial_blamed, condition_plain, returned_blamed, own_blamed, blamed, blamed_of_maybe}
use Rattle.ti_infer.specs.Reason.{blamed_of_all}
use Rattle.ti_infer.specs.Mirrors.Dependencies.{dependencies, whole_dependencies, initial_dependencies}
use Rattle.ti_infer.specs.Mirrors.Implications.{inside_at, same_dependency, extend_distinct, params_inside, first_inside, one_each, each, ones, then_if}
use Rattle.ti_infer.specs.Mirrors.Implications.{loop_targets, effect_targets, arguments_edges, params_edges, call_edges, whole_edges}
use Rattle.ti_infer.specs.Mirrors.Implications.{initial_edges, condition_edges, own_edges, inside_foreach, variables_foreach, edges}
use Rattle.ti_infer.specs.Mirrors.Implications.{edges_of_maybe, edges_all}
use Rattle.ti_infer.proofs.Knowing.{SameTypes, operand_same}
use Rattle.ti_infer.proofs.Same.{this_same}
use Rattle.ti_infer.proofs.ErasingPrograms.{TypesAll, types_found, types_point}
use Rattle.ti_infer.proofs.Depending.{part_dependencies, whole_dependencies_open, initial_dependencies_open}

-- ---- truth values

pub and_none : (a : Bool) → (a && false) ≡ false
and_none true = refl
and_none false = refl

pub or_none : (a : Bool) → (a || false) ≡ a
or_none true = refl
or_none false = refl

or_assoc : (a b c : Bool) → ((a || b) || c) ≡ (a || (b || c))
or_assoc true b c = refl
or_assoc false b c = refl

and_left : (a b m : Bool) → ((a && m) || (b && m)) ≡ ((a || b) && m)
and_left true true true = refl
and_left true true false = refl
and_left true false true = refl
and_left true false false = refl
and_left false b m = refl

and_right : (p m n : Bool) → ((p && m) || (p && n)) ≡ (p && (m || n))
and_right true m n = refl
and_right false m n = refl

-- ---- parts of the list of reasons

pub record PartAt (items : List Reason) (i : ℕ) (xs : List Reason) : Type 0 where
  pub before : List Reason
  pub behind : List Reason
  pub is : items ≡ before ++ (xs ++ behind)
  pub at : length before ≡ i

module _ (items : List Reason) where
  pub part_first : (i : ℕ) (xs ys : List Reason) → PartAt items i (xs ++ ys) → PartAt items i xs
  part_first i xs ys h = record { before = h.before; behind = ys ++ h.behind; is = h.is ∙ ap (λ zs. h.before ++ zs) (append_assoc xs ys h.behind); at = h.at }

  pub part_second : (i : ℕ) (xs ys : List Reason) → PartAt items i (xs ++ ys) → PartAt items (i + length xs) ys
  part_second i xs ys h = record {
    before = h.before ++ xs;
    behind = h.behind;
    is = h.is ∙ ap (λ zs. h.before ++ zs) (append_assoc xs ys h.behind) ∙ sym (append_assoc h.before xs (ys ++ h.behind));
    at = length-append h.before xs ∙ ap (λ n. n + length xs) h.at;
  }

  pub part_meaning : (i : ℕ) (xs : List Reason) → PartAt items i xs → meaning items (Between i (i + length xs)) ≡ xs
  part_meaning i xs h =
      let less : (i + length xs) - i ≡ length xs = omega arith in
      ap (λ n. take n (drop i items)) less
      ∙ ap (λ zs. take (length xs) (drop i zs)) h.is
      ∙ ap (λ n. take (length xs) (drop n (h.before ++ (xs ++ h.behind)))) (sym h.at)
      ∙ ap (take (length xs)) (drop-append_seam h.before (xs ++ h.behind))
      ∙ take-append_seam xs h.behind

-- ---- foreach variables

module _ (counts : Place → Bool) (marks : Marks) where
  -- something of these isn't marked
  abbrev pub open_in : List (Option Mark) → Bool
  open_in xs = list_any (is_triggered (holds_conditionally counts marks)) xs

  -- what is inside asks for what is single there
  abbrev pub AlikeAll : List ScopeVariable → List (ℕ × List (Option Mark)) → Type 0
  AlikeAll [] [] = Unit {0}
  AlikeAll (v ∷ vs) (w ∷ ws) = (v.number ≡ w.0) × (open_in w.1 ≡ not v.is_single) × AlikeAll vs ws
  AlikeAll _ _ = ⊥

  pub alike_at : (this : Option ℕ) (vs : List ScopeVariable) (ws : List (ℕ × List (Option Mark))) → AlikeAll vs ws → (number : ℕ)
      → open_in (inside_at ws number) ≡ not (singles_in (record { this_class = this; variables = vs }) number)
  alike_at this [] [] h number = refl
  alike_at this [] (w ∷ ws) h number = absurd h
  alike_at this (v ∷ vs) [] h number = absurd h
  alike_at this (v ∷ vs) (w ∷ ws) h number = by (w.0 == number) (ap (λ k. k == number) h.0) (alike_at this vs ws h.2 number)
    where
      by : (b : Bool) → (v.number == number) ≡ b → open_in (inside_at ws number) ≡ not (option_map_or (λ (v : ScopeVariable). v.is_single) (find (λ (v : ScopeVariable). v.number == number) vs) false)
          → open_in (if b then w.1 else inside_at ws number) ≡ not (option_map_or (λ (v : ScopeVariable). v.is_single)
          (if v.number == number then Some v else find (λ (v : ScopeVariable). v.number == number) vs) false)
      by true k rest = h.1 ∙ sym (ap (λ b. not (option_map_or (λ (v : ScopeVariable). v.is_single) (if b then Some v else find (λ (v : ScopeVariable). v.number == number) vs) false)) k)
      by false k rest = rest ∙ sym (ap (λ b. not (option_map_or (λ (v : ScopeVariable). v.is_single) (if b then Some v else find (λ (v : ScopeVariable). v.number == number) vs) false)) k)

  alike_behind : (vs : List ScopeVariable) (ws : List (ℕ × List (Option Mark))) (v : ScopeVariable) (w : ℕ × List (Option Mark))
      → AlikeAll vs ws → v.number ≡ w.0 → open_in w.1 ≡ not v.is_single → AlikeAll (vs ++ v ∷ []) (ws ++ w ∷ [])
  alike_behind [] [] v w h k l = (k, l, tt)
  alike_behind [] (y ∷ ws) v w h k l = absurd h
  alike_behind (x ∷ vs) [] v w h k l = absurd h
  alike_behind (x ∷ vs) (y ∷ ws) v w h k l = (h.0, h.1, alike_behind vs ws v w h.2 k l)

  pub alike_point : (vs : List ScopeVariable) (ws : List (ℕ × List (Option Mark))) (number : ℕ) (b : Bool) (found : List (Option Mark))
      (o q : Option ℕ) → AlikeAll vs ws → open_in found ≡ not b → o ≡ q
      → AlikeAll (with_foreach_variable vs number b o) (ws ++ (if is_some q then (number, found) ∷ [] else []))
  alike_point vs ws number b found o q h k same = rw (sym same) (by o)
    where
      by : (o : Option ℕ) → AlikeAll (with_foreach_variable vs number b o) (ws ++ (if is_some o then (number, found) ∷ [] else []))
      by None = subst (AlikeAll vs) (sym (append-nil ws)) h
      by (Some n) = alike_behind vs ws _ (number, found) h refl k

  alike_params : (number : ℕ) (ws : List NumberedParam) → AlikeAll (parameters_from number (map (marked_param marks) ws)) (params_inside number ws)
  alike_params number [] = tt
  alike_params number (w ∷ ws) = (refl, or_none (not (marks.variables w.place)), alike_params (number + 1) ws)

  pub alike_first : (ws : NumberedParams) → AlikeAll (parameters (marked_params marks ws)) (first_inside ws)
  alike_first MainArgs = tt
  alike_first (Params ws) = alike_params 0 ws

  -- ---- each only once

  module _ (same : (a : Option Mark) (old : List (Option Mark)) → list_any (same_dependency a) old ≡ true → is_triggered (holds_conditionally counts marks) a ≡ true → open_in old ≡ true) where
    pub new_open : (old more : List (Option Mark)) → open_in (extend_distinct old more) ≡ (open_in old || open_in more)
    new_open old [] = sym (or_none (open_in old))
    new_open old (a ∷ more) = by (list_any (same_dependency a) old) refl (new_open old more) (new_open (old ++ a ∷ []) more)
      where
        there : (s t u : Bool) → (s ≡ true → t ≡ true) → (t || u) ≡ (t || (s || u))
        there true t u h = ap (λ z. z || u) (h refl) ∙ sym (ap (λ z. z || true) (h refl))
        there false t u h = refl

        by : (b : Bool) → list_any (same_dependency a) old ≡ b → open_in (extend_distinct old more) ≡ (open_in old || open_in more)
            → open_in (extend_distinct (old ++ a ∷ []) more) ≡ (open_in (old ++ a ∷ []) || open_in more)
            → open_in (extend_distinct (if b then old else old ++ a ∷ []) more) ≡ (open_in old || (is_triggered (holds_conditionally counts marks) a || open_in more))
        by true k first second = first ∙ there (is_triggered (holds_conditionally counts marks) a) (open_in old) (open_in more) (same a old k)
        by false k first second =
            second ∙ ap (λ z. z || open_in more) (list_any-append (is_triggered (holds_conditionally counts marks)) old (a ∷ []) ∙ ap (λ z. open_in old || z) (or_none (is_triggered (holds_conditionally counts marks) a)))
            ∙ or_assoc (open_in old) (is_triggered (holds_conditionally counts marks) a) (open_in more)

-- ---- edges

module _ (f : Reason → Bool) (counts : Place → Bool) (marks : Marks) (items : List Reason) where
  -- an edge starts and means what passes the test
  abbrev pub fires : Implication → Bool
  fires a = is_triggered (holds_conditionally counts marks) a.from && list_any f (meaning items a.then)

  abbrev pub fired : List Implication → Bool
  fired es = list_any fires es

  abbrev pub meant : List Conclusion → Bool
  meant ts = list_any (λ t. list_any f (meaning items t)) ts

  pub fired_one : (xs : List (Option Mark)) (t : Conclusion) → fired (one_each xs t) ≡ (list_any (is_triggered (holds_conditionally counts marks)) xs && list_any f (meaning items t))
  fired_one [] t = refl
  fired_one (a ∷ xs) t = ap (λ b. fires (record { from = a; then = t }) || b) (fired_one xs t)
      ∙ and_left (is_triggered (holds_conditionally counts marks) a) (list_any (is_triggered (holds_conditionally counts marks)) xs) (list_any f (meaning items t))

  pub fired_each : (xs : List (Option Mark)) (ts : List Conclusion) → fired (each xs ts) ≡ (list_any (is_triggered (holds_conditionally counts marks)) xs && meant ts)
  fired_each xs [] = sym (and_none (list_any (is_triggered (holds_conditionally counts marks)) xs))
  fired_each xs (t ∷ ts) = list_any-append fires (one_each xs t) (each xs ts) ∙ ap₂ (λ a b. a || b) (fired_one xs t) (fired_each xs ts)
      ∙ and_right (list_any (is_triggered (holds_conditionally counts marks)) xs) (list_any f (meaning items t)) (meant ts)

  meant_ones : (xs : List Reason) → meant (ones xs) ≡ list_any f xs
  meant_ones [] = refl
  meant_ones (x ∷ xs) = ap₂ (λ a b. a || b) (or_none (f x)) (meant_ones xs)

  meant_if : (b : Bool) (t : Conclusion) → meant (then_if b t) ≡ (b && list_any f (meaning items t))
  meant_if true t = or_none (list_any f (meaning items t))
  meant_if false t = refl

  pub any_guarded : (b : Bool) (xs : List Reason) → list_any f (reasons_if b xs) ≡ (b && list_any f xs)
  any_guarded true xs = refl
  any_guarded false xs = refl

  both_fired : (xs ys : List Reason) (es fs : List Implication) → list_any f xs ≡ fired es → list_any f ys ≡ fired fs → list_any f (xs ++ ys) ≡ fired (es ++ fs)
  both_fired xs ys es fs h k = list_any-append f xs ys ∙ ap₂ (λ a b. a || b) h k ∙ sym (list_any-append fires es fs)

  module _ (p : ProgramView) (m : NumberedMethod) (whole : Conclusion) (whole_is : list_any f (meaning items whole) ≡ list_any f (return_reasons p m))
      (same : (a : Option Mark) (old : List (Option Mark)) → list_any (same_dependency a) old ≡ true → is_triggered (holds_conditionally counts marks) a ≡ true → list_any (is_triggered (holds_conditionally counts marks)) old ≡ true) where
    returned : (b : Bool) → (b && list_any f (meaning items whole)) ≡ list_any f (reasons_if b (return_reasons p m))
    returned b = ap (λ z. b && z) whole_is ∙ sym (any_guarded b (return_reasons p m))

    pub loop_meant : (i : ℕ) (update : MaybeNumbered) (body : NumberedStm)
        → PartAt items i (reasons_of_maybe p m update ++ reasons p m body) → meant (loop_targets p m whole i update body)
        ≡ list_any f (loop_reasons p m update body)
    loop_meant i update body part =
        ap₂ (λ a b. a || b) (ap (list_any f) (part_meaning items i (reasons_of_maybe p m update ++ reasons p m body) part))
        (meant_if ((doings_of_maybe p (this_of m) update).returns || (doings p (this_of m) body).returns) whole
        ∙ sym (and_left (doings_of_maybe p (this_of m) update).returns (doings p (this_of m) body).returns (list_any f (meaning items whole)))
        ∙ ap₂ (λ a b. a || b) (returned (doings_of_maybe p (this_of m) update).returns) (returned (doings p (this_of m) body).returns)
        ∙ sym (list_any-append f (reasons_if (doings_of_maybe p (this_of m) update).returns (return_reasons p m)) (reasons_if (doings p (this_of m) body).returns (return_reasons p m))))
        ∙ sym (list_any-append f (reasons_of_maybe p m update ++ reasons p m body) _)

    effect_meant : (i : ℕ) (jump : List Conclusion) (jumping : List Reason) (s : NumberedStm) → PartAt items i (reasons p m s) → meant jump
        ≡ list_any f jumping → meant (effect_targets p m whole i jump s) ≡ list_any f (effect_reasons p m jumping s)
    effect_meant i jump jumping s part h =
        ap₂ (λ a b. a || b) (ap (list_any f) (part_meaning items i (reasons p m s) part))
        (list_any-append (λ t. list_any f (meaning items t)) (then_if (doings p (this_of m) s).returns whole) (if (doings p (this_of m) s).jumps then jump else [])
        ∙ ap₂ (λ a b. a || b) (meant_if (doings p (this_of m) s).returns whole ∙ returned (doings p (this_of m) s).returns) (jumps (doings p (this_of m) s).jumps))
        ∙ sym (or_assoc (list_any f (reasons p m s)) (list_any f (reasons_if (doings p (this_of m) s).returns (return_reasons p m))) (list_any f (reasons_if (doings p (this_of m) s).jumps jumping)))
        ∙ sym (list_any-append f (reasons p m s ++ reasons_if (doings p (this_of m) s).returns (return_reasons p m)) (reasons_if (doings p (this_of m) s).jumps jumping)
        ∙ ap (λ z. z || list_any f (reasons_if (doings p (this_of m) s).jumps jumping)) (list_any-append f (reasons p m s) (reasons_if (doings p (this_of m) s).returns (return_reasons p m))))
      where
        jumps : (b : Bool) → meant (if b then jump else []) ≡ list_any f (reasons_if b jumping)
        jumps true = h
        jumps false = refl

    module _ (vs : List ScopeVariable) (inside : List (ℕ × List (Option Mark))) (alike : AlikeAll counts marks vs inside) where
      there : (number : ℕ) → list_any (is_triggered (holds_conditionally counts marks)) (inside_at inside number) ≡ not (singles_in (record { this_class = this_of m; variables = vs }) number)
      there number = alike_at counts marks (this_of m) vs inside alike number

      -- what falls with a plain expression
      rule : (b : Bool) (xs : List (Option Mark)) (found : List Reason) (ts : List Conclusion) → list_any (is_triggered (holds_conditionally counts marks)) xs ≡ b
          → meant ts ≡ list_any f found → list_any f (reasons_if b found) ≡ fired (each xs ts)
      rule b xs found ts h k = any_guarded b found ∙ sym (fired_each xs ts ∙ ap₂ (λ a b. a && b) h k)

      rule_one : (b : Bool) (xs : List (Option Mark)) (x : Reason) → list_any (is_triggered (holds_conditionally counts marks)) xs ≡ b → list_any f (reasons_if b (x ∷ [])) ≡ fired (one_each xs (One x))
      rule_one b xs x h = any_guarded b (x ∷ []) ∙ sym (fired_one xs (One x) ∙ ap (λ a. a && (f x || false)) h)

      part : (x : NumberedExp) → list_any (is_triggered (holds_conditionally counts marks)) (dependencies p m (inside_at inside) x) ≡ plain_here p m marks vs x
      part x = part_dependencies counts p m marks (inside_at inside) vs there x

      arguments_meant : (params : List NumberedParam) (args : NumberedExps) → list_any f (arguments_blamed p m marks vs params args) ≡ fired (arguments_edges p m whole inside params args)
      arguments_meant [] e.NoExp = refl
      arguments_meant [] (e.MoreExp a rest) = refl
      arguments_meant (w ∷ params) e.NoExp = refl
      arguments_meant (w ∷ params) (e.MoreExp a rest) =
          both_fired (reasons_if (plain_here p m marks vs a) (OfVariable w.place ∷ [])) _
          (one_each (dependencies p m (inside_at inside) a) (One (OfVariable w.place))) _
          (rule_one _ (dependencies p m (inside_at inside) a) (OfVariable w.place) (part a)) (arguments_meant params rest)

      params_meant : (params : NumberedParams) (args : NumberedExps) → list_any f (params_blamed p m marks vs params args) ≡ fired (params_edges p m whole inside params args)
      params_meant MainArgs args = refl
      params_meant (Params params) args = arguments_meant params args

      call_meant : (o : Option NumberedMethod) (args : NumberedExps) → list_any f (call_blamed p m marks vs o args) ≡ fired (call_edges p m whole inside o args)
      call_meant None args = refl
      call_meant (Some y) args = params_meant y.params args

      delete_meant : (at : Place) (a : NumberedExp) (b : Bool) → list_any f
          (reasons_if (plain_here p m marks vs a) (reasons_if b (OfCollective at ∷ [])))
          ≡ fired (if b then one_each (dependencies p m (inside_at inside) a) (One (OfCollective at)) else [])
      delete_meant at a true = rule_one _ (dependencies p m (inside_at inside) a) (OfCollective at) (part a)
      delete_meant at a false = any_guarded (plain_here p m marks vs a) [] ∙ and_none (plain_here p m marks vs a)

      whole_meant : (x : NumberedExp) → list_any f (whole_blamed p m marks vs x) ≡ fired (whole_edges p m whole inside x)
      whole_meant (e.Call at method args) = call_meant (called_method p (this_of m) (e.Call at method args)) args
      whole_meant (e.OwnCall at method args) = call_meant (called_method p (this_of m) (e.OwnCall at method args)) args
      whole_meant (e.Member at a name args) =
          both_fired (call_blamed p m marks vs (called_method p (this_of m) (e.Member at a name args)) args) _
          (call_edges p m whole inside (called_method p (this_of m) (e.Member at a name args)) args) _
          (call_meant (called_method p (this_of m) (e.Member at a name args)) args) (delete_meant at a (is_delete (member_called p (this_of m) a name)))
      whole_meant _ = refl

      initial_meant : (v : NumberedInit) → list_any f (initial_blamed p m marks vs v) ≡ fired (initial_edges p m whole inside v)
      initial_meant (st.Value x) = whole_meant x
      initial_meant (st.Broadcast at x root) = rule_one _ (dependencies p m (inside_at inside) root) (OfCollective at) (part root)
      initial_meant (st.NewRegion at) = refl
      initial_meant (st.NewObject at region class) = refl
      initial_meant (st.NewGrid at region element dims_at dims) = refl

      condition_meant : (c : Option NumberedExp) (found : List Reason) (ts : List Conclusion) → meant ts ≡ list_any f found
          → list_any f (reasons_if (condition_plain p m marks vs c) found) ≡ fired (condition_edges p m whole inside c ts)
      condition_meant None found ts h = refl
      condition_meant (Some x) found ts h = rule _ (dependencies p m (inside_at inside) x) found ts (part x) h

      returned_meant : (value : Option NumberedExp) → list_any f (returned_blamed p m marks vs value) ≡ fired (condition_edges p m whole inside value (ones (result_reasons p m m.result)))
      returned_meant None = refl
      returned_meant (Some x) = rule _ (dependencies p m (inside_at inside) x) (result_reasons p m m.result) (ones (result_reasons p m m.result)) (part x) (meant_ones (result_reasons p m m.result))

      jumps_meant : (b : Bool) → list_any f (reasons_if b (Always ∷ [])) ≡ fired (if b then record { from = None; then = One Always } ∷ [] else [])
      jumps_meant true = sym (or_none (f Always || false))
      jumps_meant false = refl

      pub own_meant : (i : ℕ) (jump : List Conclusion) (jumping : List Reason) (s : NumberedStm) → PartAt items i (reasons p m s) → meant jump
          ≡ list_any f jumping → list_any f (own_blamed p m marks vs jumping s) ≡ fired (own_edges p m whole inside i jump s)
      own_meant i jump jumping (st.Declare at type variable value) h j =
          both_fired (initial_blamed p m marks vs value) _ (initial_edges p m whole inside value) _ (initial_meant value)
          (rule_one _ (initial_dependencies p m (inside_at inside) value) (OfVariable at) (initial_dependencies_open counts p m marks (inside_at inside) vs there value))
      own_meant i jump jumping (st.Assign at target value) h j =
          both_fired (initial_blamed p m marks vs value) _ (initial_edges p m whole inside value) _ (initial_meant value)
          (rule _ (initial_dependencies p m (inside_at inside) value) (target_reasons p m target) (ones (target_reasons p m target))
          (initial_dependencies_open counts p m marks (inside_at inside) vs there value) (meant_ones (target_reasons p m target)))
      own_meant i jump jumping (st.Update at op target x) h j =
          both_fired (whole_blamed p m marks vs x) _ (whole_edges p m whole inside x) _ (whole_meant x)
          (rule _ (whole_dependencies p m (inside_at inside) x) (target_reasons p m target) (ones (target_reasons p m target))
          (whole_dependencies_open counts p m marks (inside_at inside) vs there x) (meant_ones (target_reasons p m target)))
      own_meant i jump jumping (st.Call x) h j = whole_meant x
      own_meant i jump jumping (st.If at c a) h j = rule _ (dependencies p m (inside_at inside) c) (effect_reasons p m jumping (st.If at c a))
          (effect_targets p m whole i jump (st.If at c a)) (part c) (effect_meant i jump jumping (st.If at c a) h j)
      own_meant i jump jumping (st.IfElse at c a b) h j = rule _ (dependencies p m (inside_at inside) c)
          (effect_reasons p m jumping (st.IfElse at c a b)) (effect_targets p m whole i jump (st.IfElse at c a b)) (part c)
          (effect_meant i jump jumping (st.IfElse at c a b) h j)
      own_meant i jump jumping (st.While at c body) h j = rule _ (dependencies p m (inside_at inside) c) (loop_reasons p m st.NoStm body)
          (loop_targets p m whole i st.NoStm body) (part c) (loop_meant i st.NoStm body h)
      own_meant i jump jumping (st.For at first c update body) h j =
          both_fired (reasons_if (condition_plain p m marks vs c) (loop_reasons p m update body)) _
          (condition_edges p m whole inside c (loop_targets p m whole (i + length (reasons_of_maybe p m first)) update body)) _
          (condition_meant c (loop_reasons p m update body) (loop_targets p m whole (i + length (reasons_of_maybe p m first)) update body)
          (loop_meant (i + length (reasons_of_maybe p m first)) update body
          (part_second items i (reasons_of_maybe p m first) (reasons_of_maybe p m update ++ reasons p m body) h)))
          (jumps_meant (doings_of_maybe p (this_of m) update).jumps)
      own_meant i jump jumping (st.Foreach at variable domain body) h j =
          rule _ (dependencies p m (inside_at inside) domain) (loop_reasons p m st.NoStm body) (loop_targets p m whole i st.NoStm body)
          (part domain) (loop_meant i st.NoStm body h)
      own_meant i jump jumping (st.Return at value) h j = returned_meant value
      own_meant i jump jumping _ h j = refl

    -- in the body of a foreach
    same_types : (vs ws : List ScopeVariable) → TypesAll vs ws → SameTypes (scope_of (blame_around p m marks vs)) (record { this_class = this_of m; variables = ws })
    same_types vs ws t = record { this = this_same marks m; types = λ number. types_found vs ws number t }

    alike_inside : (vs ws : List ScopeVariable) (inside : List (ℕ × List (Option Mark))) (variable : ℕ) (domain : NumberedExp) → AlikeAll counts marks vs inside → TypesAll vs ws
        → AlikeAll counts marks (variables_inside (marked marks p) (scope_of (blame_around p m marks vs)) variable
        (marked_exp (marks_variable marks m) domain)) (inside_foreach p m whole ws inside variable domain)
    alike_inside vs ws inside variable domain alike t =
        alike_point counts marks vs inside variable _ (extend_distinct [] (dependencies p m (inside_at inside) domain)) _ _ alike
        (new_open counts marks same [] (dependencies p m (inside_at inside) domain) ∙ part vs inside alike domain)
        (ap (option_and_then domain_dim) (operand_same marks p (marks_variable marks m) _ _ (same_types vs ws t) domain))

    types_inside : (vs ws : List ScopeVariable) (variable : ℕ) (domain : NumberedExp) → TypesAll vs ws
        → TypesAll (variables_inside (marked marks p) (scope_of (blame_around p m marks vs)) variable (marked_exp (marks_variable marks m) domain)) (variables_foreach p m whole ws variable domain)
    types_inside vs ws variable domain t = types_point vs ws variable _ _ _ _ t (ap (option_and_then domain_dim) (operand_same marks p (marks_variable marks m) _ _ (same_types vs ws t) domain))

    mutual
      pub edges_meant : (vs ws : List ScopeVariable) (inside : List (ℕ × List (Option Mark))) → AlikeAll counts marks vs inside
          → TypesAll vs ws → (i : ℕ) (jump : List Conclusion) (jumping : List Reason) (s : NumberedStm)
          → PartAt items i (reasons p m s) → meant jump ≡ list_any f jumping → list_any f (blamed p m marks vs jumping s) ≡ fired (edges p m whole ws inside i jump s)
      edges_meant vs ws inside alike t i jump jumping (st.Block body) h j = all_meant vs ws inside alike t i jump jumping body h j
      edges_meant vs ws inside alike t i jump jumping (st.If at c a) h j =
          both_fired (own_blamed p m marks vs jumping (st.If at c a)) (blamed p m marks vs jumping a) (own_edges p m whole inside i jump (st.If at c a)) (edges p m whole ws inside i jump a)
          (own_meant vs inside alike i jump jumping (st.If at c a) h j) (edges_meant vs ws inside alike t i jump jumping a h j)
      edges_meant vs ws inside alike t i jump jumping (st.IfElse at c a b) h j =
          both_fired (own_blamed p m marks vs jumping (st.IfElse at c a b)) (blamed p m marks vs jumping a ++ blamed p m marks vs jumping b) (own_edges p m whole inside i jump (st.IfElse at c a b)) _
          (own_meant vs inside alike i jump jumping (st.IfElse at c a b) h j)
          (both_fired (blamed p m marks vs jumping a) (blamed p m marks vs jumping b) (edges p m whole ws inside i jump a) (edges p m whole ws inside (i + length (reasons p m a)) jump b)
          (edges_meant vs ws inside alike t i jump jumping a (part_first items i (reasons p m a) (reasons p m b) h) j)
          (edges_meant vs ws inside alike t (i + length (reasons p m a)) jump jumping b (part_second items i (reasons p m a) (reasons p m b) h) j))
      edges_meant vs ws inside alike t i jump jumping (st.While at c body) h j =
          both_fired (own_blamed p m marks vs jumping (st.While at c body)) (blamed p m marks vs (loop_reasons p m st.NoStm body) body) (own_edges p m whole inside i jump (st.While at c body)) _
          (own_meant vs inside alike i jump jumping (st.While at c body) h j)
          (edges_meant vs ws inside alike t i (loop_targets p m whole i st.NoStm body) (loop_reasons p m st.NoStm body) body h (loop_meant i st.NoStm body h))
      edges_meant vs ws inside alike t i jump jumping (st.For at first c update body) h j =
          let k = i + length (reasons_of_maybe p m first) in
          let g : PartAt items k (reasons_of_maybe p m update ++ reasons p m body) = part_second items i (reasons_of_maybe p m first) (reasons_of_maybe p m update ++ reasons p m body) h in
          both_fired (own_blamed p m marks vs jumping (st.For at first c update body)) _ (own_edges p m whole inside i jump (st.For at first c update body)) _
          (own_meant vs inside alike i jump jumping (st.For at first c update body) h j)
          (both_fired (blamed_of_maybe p m marks vs jumping first) _ (edges_of_maybe p m whole ws inside i jump first) _
          (maybe_meant vs ws inside alike t i jump jumping first (part_first items i (reasons_of_maybe p m first) (reasons_of_maybe p m update ++ reasons p m body) h) j)
          (both_fired (blamed_of_maybe p m marks vs jumping update) _ (edges_of_maybe p m whole ws inside k jump update) _
          (maybe_meant vs ws inside alike t k jump jumping update (part_first items k (reasons_of_maybe p m update) (reasons p m body) g) j)
          (edges_meant vs ws inside alike t (k + length (reasons_of_maybe p m update)) (loop_targets p m whole k update body)
          (loop_reasons p m update body) body (part_second items k (reasons_of_maybe p m update) (reasons p m body) g)
          (loop_meant k update body g))))
      edges_meant vs ws inside alike t i jump jumping (st.Foreach at variable domain body) h j =
          both_fired (own_blamed p m marks vs jumping (st.Foreach at variable domain body)) _ (own_edges p m whole inside i jump (st.Foreach at variable domain body)) _
          (own_meant vs inside alike i jump jumping (st.Foreach at variable domain body) h j)
          (edges_meant (variables_inside (marked marks p) (scope_of (blame_around p m marks vs)) variable
          (marked_exp (marks_variable marks m) domain)) (variables_foreach p m whole ws variable domain)
          (inside_foreach p m whole ws inside variable domain)
          (alike_inside vs ws inside variable domain alike t) (types_inside vs ws variable domain t) i
          (loop_targets p m whole i st.NoStm body) (loop_reasons p m st.NoStm body) body h (loop_meant i st.NoStm body h))
      edges_meant vs ws inside alike t i jump jumping (st.Declare at type variable value) h j = own_meant vs inside alike i jump jumping (st.Declare at type variable value) h j
      edges_meant vs ws inside alike t i jump jumping (st.Assign at target value) h j = own_meant vs inside alike i jump jumping (st.Assign at target value) h j
      edges_meant vs ws inside alike t i jump jumping (st.Update at op target x) h j = own_meant vs inside alike i jump jumping (st.Update at op target x) h j
      edges_meant vs ws inside alike t i jump jumping (st.Call x) h j = own_meant vs inside alike i jump jumping (st.Call x) h j
      edges_meant vs ws inside alike t i jump jumping (st.Return at value) h j = own_meant vs inside alike i jump jumping (st.Return at value) h j
      edges_meant vs ws inside alike t i jump jumping _ h j = refl

      maybe_meant : (vs ws : List ScopeVariable) (inside : List (ℕ × List (Option Mark))) → AlikeAll counts marks vs inside → TypesAll vs ws
          → (i : ℕ) (jump : List Conclusion) (jumping : List Reason) (s : MaybeNumbered)
          → PartAt items i (reasons_of_maybe p m s) → meant jump ≡ list_any f jumping → list_any f (blamed_of_maybe p m marks vs jumping s) ≡ fired (edges_of_maybe p m whole ws inside i jump s)
      maybe_meant vs ws inside alike t i jump jumping st.NoStm h j = refl
      maybe_meant vs ws inside alike t i jump jumping (st.SomeStm s) h j = edges_meant vs ws inside alike t i jump jumping s h j

      pub all_meant : (vs ws : List ScopeVariable) (inside : List (ℕ × List (Option Mark))) → AlikeAll counts marks vs inside
          → TypesAll vs ws → (i : ℕ) (jump : List Conclusion) (jumping : List Reason) (ss : NumberedStms)
          → PartAt items i (reasons_of_all p m ss) → meant jump ≡ list_any f jumping → list_any f (blamed_of_all p m marks vs jumping ss) ≡ fired (edges_all p m whole ws inside i jump ss)
      all_meant vs ws inside alike t i jump jumping st.Nil h j = refl
      all_meant vs ws inside alike t i jump jumping (st.Cons s rest) h j =
          both_fired (blamed p m marks vs jumping s) (blamed_of_all p m marks vs jumping rest) (edges p m whole ws inside i jump s)
          (edges_all p m whole ws inside (i + length (reasons p m s)) jump rest)
          (edges_meant vs ws inside alike t i jump jumping s (part_first items i (reasons p m s) (reasons_of_all p m rest) h) j)
          (all_meant vs ws inside alike t (i + length (reasons p m s)) jump jumping rest (part_second items i (reasons p m s) (reasons_of_all p m rest) h) j)
