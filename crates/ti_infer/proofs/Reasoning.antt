-- A statement has global effects under a marking if and only if one of its reasons holds.
use Rattle.std.proofs.Common.{◌≡◌, Bool, true, false, ◌&&◌, ◌||◌, if◌then◌else◌, List, [], ◌∷◌, ◌++◌, Option, Some, None, option_map, unwrap_or, refl, ap, ap₂, sym, ◌∙◌}
use Rattle.std.specs.List.{list_any}
use Rattle.std.specs.Option.{option_map_or}
use Rattle.std.proofs.lemmas.List.Folds.{list_any-append}
use Rattle.ti_base.specs.declared.place.Place.{Place}
use Rattle.ti_lang.specs.Program.Types.{Declaration, Typed, Foreach}
use Rattle.ti_lang.specs.Program.Expressions.{NumberedExp, place_of_numbered}
use Rattle.ti_lang.specs.Program.Expressions as e
use Rattle.ti_lang.specs.Program.Statements.{NumberedInit, NumberedStm, MaybeNumbered, NumberedStms, numbered_stms}
use Rattle.ti_lang.specs.Program.Statements as st
use Rattle.ti_lang.specs.Program.Classes.{NumberedResult, NumberedMethod, ProgramView}
use Rattle.ti_lang.specs.Program.Classes as c
use Rattle.ti_lang.specs.Program.Scope.{ScopeVariable, this_of}
use Rattle.ti_lang.specs.Typing.Called.{called_method}
use Rattle.ti_lang.specs.Typing.Singleness.{declared_single, single_result, has_single_result}
use Rattle.ti_lang.specs.Typing.Effects.{is_collective_call, acts, initial_acts, is_single_target, Doings, acting, together, kept_in_loop, doings, doings_of_maybe, doings_of_all, doings_of_method, return_acts, jump_acts, has_global_effects}
use Rattle.ti_rules.specs.StmtInContext.{loop_acts}
use Rattle.ti_rules.specs.SingleRules.{has_effects}
use Rattle.ti_blame.specs.Marks.{Marks}
use Rattle.ti_infer.specs.Marks.{variable_place, marks_variable}
use Rattle.ti_infer.specs.Marked.{marked_declaration, marked_exp, marked_init, marked_stm, marked_maybe, marked_stms, marked_result, marked_method, marked}
use Rattle.ti_blame.specs.declared.reason.Reason.{Reason}
use Rattle.ti_blame.specs.declared.reason.Reason.TheVariants.{OfCollective, Always, OfMethod}
use Rattle.ti_blame.specs.Marks.{holds}
use Rattle.ti_infer.specs.Limited.{every_one}
use Rattle.ti_infer.specs.Reason.{reasons_if, method_reasons, acts_reasons, initial_reasons, place_reasons, declared_reasons, target_reasons, reasons, reasons_of_maybe, reasons_of_all, result_reasons, return_reasons, loop_reasons, effect_reasons}
use Rattle.ti_infer.proofs.Same.{this_same, call_same}
use Rattle.ti_infer.proofs.Lists.{collective_same}
use Rattle.ti_infer.proofs.Beside.{around_in}
use Rattle.ti_infer.proofs.Lists.{stms_of_map}

-- one of them is there, where all collectives count
abbrev pub some_held : Marks → List Reason → Bool
some_held marks found = list_any (holds every_one marks) found

pub held_append : (marks : Marks) (xs ys : List Reason) → some_held marks (xs ++ ys) ≡ (some_held marks xs || some_held marks ys)
held_append marks xs ys = list_any-append (holds every_one marks) xs ys

pub held_guarded : (marks : Marks) (b : Bool) (xs : List Reason) → some_held marks (reasons_if b xs) ≡ (b && some_held marks xs)
held_guarded marks true xs = refl
held_guarded marks false xs = refl

pub or_false : (b : Bool) → b ≡ (b || false)
or_false true = refl
or_false false = refl

-- what a statement does under a marking is told by its reasons, and by what it does in any case
pub record Told (marks : Marks) (d : Doings) (found : List Reason) (plain : Doings) : Type 0 where
  pub acts : d.acts ≡ some_held marks found
  pub returns : d.returns ≡ plain.returns
  pub jumps : d.jumps ≡ plain.jumps

told_acting : (marks : Marks) (b a : Bool) (found : List Reason) → b ≡ some_held marks found → Told marks (acting b) found (acting a)
told_acting marks b a found h = record { acts = h; returns = refl; jumps = refl }

told_together : (marks : Marks) (a b d f : Doings) (xs ys : List Reason) → Told marks a xs b → Told marks d ys f → Told marks (together a d) (xs ++ ys) (together b f)
told_together marks a b d f xs ys h k = record {
  acts = ap₂ (λ s t. s || t) h.acts k.acts ∙ sym (held_append marks xs ys);
  returns = ap₂ (λ s t. s || t) h.returns k.returns;
  jumps = ap₂ (λ s t. s || t) h.jumps k.jumps;
}

told_loop : (marks : Marks) (a b : Doings) (xs : List Reason) → Told marks a xs b → Told marks (kept_in_loop a) xs (kept_in_loop b)
told_loop marks a b xs h = record { acts = h.acts; returns = h.returns; jumps = refl }

told_same : (marks : Marks) (a : Doings) → a.acts ≡ false → Told marks a [] a
told_same marks a h = record { acts = h; returns = refl; jumps = refl }

module _ (p : ProgramView) (m : NumberedMethod) (marks : Marks) where
  method_held : (o : Option NumberedMethod) → option_map_or (λ (y : NumberedMethod). y.is_single) (option_map (marked_method marks) o) false ≡ some_held marks (method_reasons o)
  method_held None = refl
  method_held (Some y) = by y.is_single
    where
      by : (b : Bool) → (b || marks.methods y.place) ≡ (holds every_one marks (if b then Always else OfMethod y.place) || false)
      by true = refl
      by false = or_false (marks.methods y.place)

  pub acts_held : (x : NumberedExp) → acts (marked marks p) (this_of m) (marked_exp (marks_variable marks m) x) ≡ some_held marks (acts_reasons p m x)
  acts_held x =
      ap₂ (λ a b. a || b) (ap (λ o. option_map_or (λ (y : NumberedMethod). y.is_single) o false)
      (call_same marks p (this_of m) (marks_variable marks m) x) ∙ method_held (called_method p (this_of m) x))
      (collective_same p (this_of m) marks (marks_variable marks m) x ∙ by (is_collective_call p (this_of m) x))
      ∙ sym (held_append marks (method_reasons (called_method p (this_of m) x)) _)
    where
      by : (b : Bool) → b ≡ some_held marks (reasons_if b (OfCollective (place_of_numbered x) ∷ []))
      by true = refl
      by false = refl

  initial_held : (v : NumberedInit) → initial_acts (marked marks p) (this_of m) (marked_init (marks_variable marks m) v) ≡ some_held marks (initial_reasons p m v)
  initial_held (st.Value x) = acts_held x
  initial_held (st.NewRegion at) = refl
  initial_held (st.NewObject at region class) = refl
  initial_held (st.NewGrid at region element dims_at dims) = refl
  initial_held (st.Broadcast at x root) = refl

  place_held : (o : Option Place) → option_map_or marks.variables o false ≡ some_held marks (place_reasons p m o)
  place_held None = refl
  place_held (Some at) = or_false (marks.variables at)

  pub target_held : (x : NumberedExp) → is_single_target (marked_exp (marks_variable marks m) x) ≡ some_held marks (target_reasons p m x)
  target_held (e.Variable at v) = by v.declared
    where
      by : (d : Declaration) → declared_single (λ number. false) v.number (marked_declaration (marks_variable marks m v.number) d) ≡ some_held marks (declared_reasons p m v.number d)
      by (Typed is_single type) = place_held (variable_place m v.number)
      by Foreach = refl
  target_held _ = refl

  -- ---- statements

  both_held : (a b : Bool) (xs ys : List Reason) → a ≡ some_held marks xs → b ≡ some_held marks ys → (a || b) ≡ some_held marks (xs ++ ys)
  both_held a b xs ys h k = ap₂ (λ s t. s || t) h k ∙ sym (held_append marks xs ys)

  mutual
    stm_told : (s : NumberedStm) → Told marks (doings (marked marks p) (this_of m) (marked_stm (marks_variable marks m) marks.variables s)) (reasons p m s) (doings p (this_of m) s)
    stm_told (st.Declare at type variable value) = told_acting marks _ _ _ (ap (λ b. marks.variables at || b) (initial_held value))
    stm_told (st.Assign at target value) = told_acting marks _ _ _ (both_held _ _ (target_reasons p m target) (initial_reasons p m value) (target_held target) (initial_held value))
    stm_told (st.Update at op target x) = told_acting marks _ _ _ (both_held _ _ (target_reasons p m target) (acts_reasons p m x) (target_held target) (acts_held x))
    stm_told (st.Step at op target) = told_acting marks _ _ _ (target_held target)
    stm_told (st.Call x) = told_acting marks _ _ _ (acts_held x)
    stm_told (st.Barrier at) = told_acting marks true true (OfCollective at ∷ []) refl
    stm_told (st.Block body) = stms_told body
    stm_told (st.If at c a) = stm_told a
    stm_told (st.IfElse at c a b) = told_together marks _ _ _ _ (reasons p m a) (reasons p m b) (stm_told a) (stm_told b)
    stm_told (st.While at c body) = told_loop marks _ _ _ (stm_told body)
    stm_told (st.For at first c update body) =
        told_together marks _ _ _ _ (reasons_of_maybe p m first) (reasons_of_maybe p m update ++ reasons p m body) (maybe_told first)
        (told_loop marks _ _ _ (told_together marks _ _ _ _ (reasons_of_maybe p m update) (reasons p m body) (maybe_told update) (stm_told body)))
    stm_told (st.Foreach at variable domain body) = told_loop marks _ _ _ (stm_told body)
    stm_told _ = told_same marks _ refl

    maybe_told : (s : MaybeNumbered) → Told marks (doings_of_maybe (marked marks p) (this_of m)
        (marked_maybe (marks_variable marks m) marks.variables s)) (reasons_of_maybe p m s) (doings_of_maybe p (this_of m) s)
    maybe_told st.NoStm = told_same marks _ refl
    maybe_told (st.SomeStm s) = stm_told s

    stms_told : (ss : NumberedStms) → Told marks (doings_of_all (marked marks p) (this_of m)
        (marked_stms (marks_variable marks m) marks.variables ss)) (reasons_of_all p m ss) (doings_of_all p (this_of m) ss)
    stms_told st.Nil = told_same marks _ refl
    stms_told (st.Cons s rest) = told_together marks _ _ _ _ (reasons p m s) (reasons_of_all p m rest) (stm_told s) (stms_told rest)

  -- ---- in the marked method

  told_by : (a b d : Doings) (xs : List Reason) → a ≡ b → Told marks b xs d → Told marks a xs d
  told_by a b d xs h t = rw h t

  pub stm_held : (s : NumberedStm) → Told marks (doings (marked marks p) (this_of (marked_method marks m))
      (marked_stm (marks_variable marks m) marks.variables s)) (reasons p m s) (doings p (this_of m) s)
  stm_held s = told_by _ _ _ _ (ap (λ this. doings (marked marks p) this (marked_stm (marks_variable marks m) marks.variables s)) (this_same marks m)) (stm_told s)

  pub maybe_held : (s : MaybeNumbered) → Told marks (doings_of_maybe (marked marks p) (this_of (marked_method marks m))
      (marked_maybe (marks_variable marks m) marks.variables s)) (reasons_of_maybe p m s) (doings_of_maybe p (this_of m) s)
  maybe_held s = told_by _ _ _ _ (ap (λ this. doings_of_maybe (marked marks p) this (marked_maybe (marks_variable marks m) marks.variables s)) (this_same marks m)) (maybe_told s)

  pub method_held_all : Told marks (doings_of_method (marked marks p) (marked_method marks m)) (reasons_of_all p m (numbered_stms m.body)) (doings_of_all p (this_of m) (numbered_stms m.body))
  method_held_all = told_by _ _ _ _ (ap₂ (λ this xs. doings_of_all (marked marks p) this xs) (this_same marks m)
      (stms_of_map (marks_variable marks m) marks.variables m.body)) (stms_told (numbered_stms m.body))

  result_held : (r : NumberedResult) → single_result (marked_result (marks.results m.place) m.place r) ≡ some_held marks (result_reasons p m r)
  result_held c.Void = refl
  result_held (c.Typed type) = or_false (marks.results m.place)

  pub has_result_held : has_single_result (marked_method marks m) ≡ some_held marks (result_reasons p m m.result)
  has_result_held = result_held m.result

  pub return_held : return_acts (marked marks p) (marked_method marks m) ≡ some_held marks (return_reasons p m)
  return_held = both_held _ _ (result_reasons p m m.result) (reasons_of_all p m (numbered_stms m.body)) has_result_held method_held_all.acts

  behind_held : (a b r : Bool) (xs : List Reason) → a ≡ b → r ≡ some_held marks xs → (a && r) ≡ some_held marks (reasons_if b xs)
  behind_held a b r xs h k = ap₂ (λ s t. s && t) h k ∙ sym (held_guarded marks b xs)

  or_and : (a b r : Bool) → ((a || b) && r) ≡ ((a && r) || (b && r))
  or_and true true true = refl
  or_and true false true = refl
  or_and false true true = refl
  or_and false false true = refl
  or_and true true false = refl
  or_and true false false = refl
  or_and false true false = refl
  or_and false false false = refl

  loop_by : (a b : Doings) (r : Bool) → jump_acts r (together a b) ≡ ((a.acts || b.acts) || ((a.returns && r) || (b.returns && r)))
  loop_by a b r = ap (λ t. (a.acts || b.acts) || t) (or_and a.returns b.returns r)

  pub loop_held : (update : MaybeNumbered) (body : NumberedStm) → loop_acts (marked marks p) (marked_method marks m)
      (marked_maybe (marks_variable marks m) marks.variables update) (marked_stm (marks_variable marks m) marks.variables body)
      ≡ some_held marks (loop_reasons p m update body)
  loop_held update body =
      let u = maybe_held update in
      let b = stm_held body in
      loop_by (doings_of_maybe (marked marks p) (this_of (marked_method marks m))
      (marked_maybe (marks_variable marks m) marks.variables update))
      (doings (marked marks p) (this_of (marked_method marks m)) (marked_stm (marks_variable marks m) marks.variables body))
      (return_acts (marked marks p) (marked_method marks m))
      ∙ both_held _ _ (reasons_of_maybe p m update ++ reasons p m body)
      (reasons_if (doings_of_maybe p (this_of m) update).returns (return_reasons p m)
      ++ reasons_if (doings p (this_of m) body).returns (return_reasons p m))
      (both_held _ _ (reasons_of_maybe p m update) (reasons p m body) u.acts b.acts)
      (both_held _ _ (reasons_if (doings_of_maybe p (this_of m) update).returns (return_reasons p m)) (reasons_if (doings p (this_of m) body).returns (return_reasons p m))
      (behind_held _ (doings_of_maybe p (this_of m) update).returns _ (return_reasons p m) u.returns return_held)
      (behind_held _ (doings p (this_of m) body).returns _ (return_reasons p m) b.returns return_held))

  global_held : (j : Bool) (d q : Doings) (xs jumping : List Reason) → Told marks d xs q → j ≡ some_held marks jumping
      → has_global_effects (return_acts (marked marks p) (marked_method marks m)) j d ≡ some_held marks ((xs ++ reasons_if q.returns (return_reasons p m)) ++ reasons_if q.jumps jumping)
  global_held j d q xs jumping t h =
      both_held _ _ (xs ++ reasons_if q.returns (return_reasons p m)) (reasons_if q.jumps jumping)
      (both_held _ _ xs (reasons_if q.returns (return_reasons p m)) t.acts (behind_held _ q.returns _ (return_reasons p m) t.returns return_held))
      (behind_held _ q.jumps _ jumping t.jumps h)

  pub effects_held : (vs : List ScopeVariable) (j : Option Bool) (jumping : List Reason) (s : NumberedStm) → unwrap_or j false ≡ some_held marks jumping
      → has_effects (marked marks p) (around_in marks m vs j) (marked_stm (marks_variable marks m) marks.variables s) ≡ some_held marks (effect_reasons p m jumping s)
  effects_held vs j jumping s h = global_held (unwrap_or j false) _ (doings p (this_of m) s) (reasons p m s) jumping (stm_held s) h

  pub method_effects_held : has_global_effects (return_acts (marked marks p) (marked_method marks m)) false
      (doings_of_method (marked marks p) (marked_method marks m)) ≡ some_held marks
      (effect_reasons p m [] (st.Block (numbered_stms m.body)))
  method_effects_held = global_held false _ (doings_of_all p (this_of m) (numbered_stms m.body)) (reasons_of_all p m (numbered_stms m.body)) [] method_held_all refl
