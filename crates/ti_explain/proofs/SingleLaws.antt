-- Each refusal by the rules of single values but S9 has a reason that names a plain part or a global effect: rule by rule, the operand
-- that the rule wants to be single is the one that the reasons look at, and it is plain.
use Rattle.std.proofs.Common.{◌≡◌, ◌⊎◌, inl, inr, ℕ, Bool, true, false, not, ◌&&◌, ◌||◌, if◌then◌else◌, List, [], ◌∷◌, ◌++◌, Contains, Option, Some, None, option_and_then, is_none, is_some, refl, ap, sym, ◌∙◌, subst}
use Rattle.std.specs.List.{list_any}
use Rattle.std.specs.Option.{option_map_or, option_or, unwrap_or}
use Rattle.std.proofs.lemmas.List.Elements.{Contains-append_cases}
use Rattle.std.proofs.lemmas.List.Folds.{list_any-append}
use Rattle.ti_base.specs.declared.place.Place.{Place}
use Rattle.ti_base.specs.Places.{same_place}
use Rattle.ti_syntax.specs.declared.tree.types.Qualifier.{Qualifier}
use Rattle.ti_lang.specs.Scopes.{is_single_word}
use Rattle.ti_lang.specs.Program.Expressions.{NumberedExp, NumberedExps, place_of_numbered}
use Rattle.ti_lang.specs.Program.Expressions as x
use Rattle.ti_lang.specs.Program.Statements.{NumberedInit, NumberedStm, MaybeNumbered, numbered_stms}
use Rattle.ti_lang.specs.Program.Statements as st
use Rattle.ti_lang.specs.Program.Classes.{NumberedParam, NumberedParams, MainArgs, Params, NumberedResult, NumberedMethod, ProgramView}
use Rattle.ti_lang.specs.Program.Classes as c
use Rattle.ti_lang.specs.Program.Scope.{this_of}
use Rattle.ti_lang.specs.Typing.Called.{called_method, member_called}
use Rattle.ti_lang.specs.Typing.Singleness.{has_single_result}
use Rattle.ti_lang.specs.Typing.Effects.{is_single_target, doings_of_maybe, doings_of_all, doings_of_method, return_acts, has_global_effects}
use Rattle.ti_rules.specs.declared.rule.Rule.{Rule}
use Rattle.ti_rules.specs.declared.rule.Rule.TheVariants.{S1, S2, S3, S4, S5, S6, S7, S8, S9}
use Rattle.ti_rules.specs.declared.refusal.Refusal.{Refusal}
use Rattle.ti_rules.specs.Refusals.{refused_if}
use Rattle.ti_rules.specs.StmtInContext.{StmtContext, StmtInContext, scope_of, singles_in, stands, loop_acts}
use Rattle.ti_rules.specs.SingleRules.{is_plain_part, is_plain, is_plain_initial, is_plain_condition, has_effects, argument_refusals, params_refusals, call_refusals, is_delete, delete_refusals, whole_refusals, initial_refusals, return_refusals, single_refusals_at, effect_refusals, word_refusals, result_refusals}
use Rattle.ti_explain.specs.declared.reason.PlainPart.{PlainPart}
use Rattle.ti_explain.specs.declared.reason.EffectAt.{EffectAt}
use Rattle.ti_explain.specs.declared.reason.RefusalReason.{RefusalReason}
use Rattle.ti_explain.specs.PlainParts.{plain_part, plain_whole, plain_initial}
use Rattle.ti_explain.specs.FirstEffects.{first_effect_of_maybe, first_effect_of_all, loop_effect}
use Rattle.ti_explain.specs.SingleReasons.{plain_for, plain_value, plain_argument, part_here, single_operand, root_of_whole, root_of_initial, arguments_in, arguments_of_whole, arguments_of_initial, effect_inside, plain_reasons, effect_reason, statement_reasons, single_head_refusals, head_reasons, AreSingleReasons, of_statement, of_head, is_cause, names_cause}
use Rattle.ti_explain.proofs.MainLaws.{nothing_in, of_refused, same_self}
use Rattle.ti_explain.proofs.MethodLaws.{flat_contains}
use Rattle.ti_explain.proofs.NamedLaws.{either, part_named, whole_named, initial_named, maybe_named, effects_named}

-- ---- tests

true_false : true ≡ false → ⊥
true_false is = cc

negated : (b : Bool) → not b ≡ true → b ≡ false
negated false is = refl
negated true is = absurd (true_false (sym is))

right_of : (a b : Bool) → a && b ≡ true → b ≡ true
right_of true b is = is
right_of false b is = absurd (true_false (sym is))

left_of : (a b : Bool) → a && b ≡ true → a ≡ true
left_of true b is = refl
left_of false b is = absurd (true_false (sym is))

none_second : {A : Type 0} (a b : Option A) → is_none b ≡ false → is_none (option_or a b) ≡ false
none_second None b is = is
none_second (Some a) b is = refl

none_first : {A : Type 0} (a b : Option A) → is_none a ≡ false → is_none (option_or a b) ≡ false
none_first (Some a) b is = refl
none_first None b is = absurd (true_false is)

or_true : (a : Bool) → a || true ≡ true
or_true true = refl
or_true false = refl

-- ---- reasons

-- a plain part is a cause
with_part : (m : NumberedMethod) (o : Option PlainPart) (more : List RefusalReason) → is_none o ≡ false
    → names_cause (plain_reasons m o ++ more) ≡ true
with_part m (Some part) more is = refl
with_part m None more is = absurd (true_false is)

-- an effect is a cause
an_effect : (o : Option EffectAt) → is_some o ≡ true → names_cause (effect_reason o) ≡ true
an_effect (Some found) is = refl
an_effect None is = absurd (true_false (sym is))

with_effect : (before : List RefusalReason) (o : Option EffectAt) → is_some o ≡ true → names_cause (before ++ effect_reason o) ≡ true
with_effect before o is =
    list_any-append (λ (r : RefusalReason). is_cause r.kind) before (effect_reason o)
    ∙ ap (λ b. names_cause before || b) (an_effect o is) ∙ or_true (names_cause before)

-- ---- statements

module _ (p : ProgramView) (around : StmtContext) where
  -- the part of the statement that the rule wants to be single is plain
  abbrev HasPart : NumberedStm → Refusal → Type 0
  HasPart s r = is_none (plain_for p around r.rule r.place s) ≡ false

  part_plain : (e : NumberedExp) → is_plain_part p around e ≡ true → is_none (part_here p around e) ≡ false
  part_plain e is = part_named p (this_of around.method) (singles_in (scope_of around)) e ∙ negated _ is

  whole_plain : (e : NumberedExp) → is_plain p around e ≡ true → is_none (plain_whole p (this_of around.method) (singles_in (scope_of around)) e) ≡ false
  whole_plain e is = whole_named p (this_of around.method) (singles_in (scope_of around)) e ∙ negated _ is

  initial_plain : (value : NumberedInit) → is_plain_initial p around value ≡ true
      → is_none (plain_initial p (this_of around.method) (singles_in (scope_of around)) value) ≡ false
  initial_plain value is = initial_named p (this_of around.method) (singles_in (scope_of around)) value ∙ negated _ is

  -- the condition of a `for`
  condition_plain : (o : Option NumberedExp) → is_plain_condition p around o ≡ true → is_none (option_and_then (part_here p around) o) ≡ false
  condition_plain (Some e) is = part_plain e is
  condition_plain None is = absurd (true_false (sym is))

  -- ---- arguments

  here : (at : Place) (e : NumberedExp) (rest : Option PlainPart) → same_place at (place_of_numbered e) ≡ true → is_plain_part p around e ≡ true
      → is_none (option_or (if same_place at (place_of_numbered e) then part_here p around e else None) rest) ≡ false
  here at e rest same is =
      ap (λ b. is_none (option_or (if b then part_here p around e else None) rest)) same ∙ none_first (part_here p around e) rest (part_plain e is)

  argument_plain : (params : List NumberedParam) (args : NumberedExps) (r : Refusal) → Contains (argument_refusals p around params args) r
      → (r.rule ≡ S5) × (is_none (plain_argument p around r.place args) ≡ false)
  argument_plain [] args r among = absurd (nothing_in r among)
  argument_plain (w ∷ params) x.NoExp r among = absurd (nothing_in r among)
  argument_plain (w ∷ params) (x.MoreExp e rest) r among =
      elim (Contains-append_cases (refused_if (w.ty.is_single && is_plain_part p around e) S5 (place_of_numbered e)) (argument_refusals p around params rest) r among) [
        | inl own ↦ first (of_refused (w.ty.is_single && is_plain_part p around e) S5 (place_of_numbered e) r own)
        | inr later ↦ second (argument_plain params rest r later)
      ]
    where
      first : (w.ty.is_single && is_plain_part p around e ≡ true) × (record { rule = S5; place = place_of_numbered e } ≡ r)
          → (r.rule ≡ S5) × (is_none (plain_argument p around r.place (x.MoreExp e rest)) ≡ false)
      first (broken, is) = (
        sym (ap (λ (u : Refusal). u.rule) is),
        here r.place e (plain_argument p around r.place rest)
            (sym (ap (λ (u : Refusal). same_place u.place (place_of_numbered e)) is) ∙ same_self (place_of_numbered e))
            (right_of w.ty.is_single (is_plain_part p around e) broken),
      )

      second : (r.rule ≡ S5) × (is_none (plain_argument p around r.place rest) ≡ false)
          → (r.rule ≡ S5) × (is_none (plain_argument p around r.place (x.MoreExp e rest)) ≡ false)
      second (rule, some) = (rule, none_second (if same_place r.place (place_of_numbered e) then part_here p around e else None) _ some)

  params_plain : (params : NumberedParams) (args : NumberedExps) (r : Refusal) → Contains (params_refusals p around params args) r
      → (r.rule ≡ S5) × (is_none (plain_argument p around r.place args) ≡ false)
  params_plain MainArgs args r among = absurd (nothing_in r among)
  params_plain (Params params) args r among = argument_plain params args r among

  call_plain : (m : Option NumberedMethod) (args : NumberedExps) (r : Refusal) → Contains (call_refusals p around m args) r
      → (r.rule ≡ S5) × (is_none (plain_argument p around r.place args) ≡ false)
  call_plain None args r among = absurd (nothing_in r among)
  call_plain (Some m) args r among = params_plain m.params args r among

  -- ---- whole right sides

  -- the reason why a whole right side is refused is an argument, or else the root of a broadcast or the region that is deleted
  abbrev IsWholePart : Refusal → NumberedExps → Option NumberedExp → Type 0
  IsWholePart r args root =
      ((r.rule ≡ S5) × (is_none (plain_argument p around r.place args) ≡ false))
      ⊎ ((r.rule ≡ S8) × (is_none (option_and_then (part_here p around) root) ≡ false))

  -- a plain operand by which the rule of roots and regions is broken
  rooted : (test : Bool) (at : Place) (a : NumberedExp) (r : Refusal) (args : NumberedExps)
      → Contains (refused_if (test && is_plain_part p around a) S8 at) r → IsWholePart r args (Some a)
  rooted test at a r args among = by (of_refused (test && is_plain_part p around a) S8 at r among)
    where
      by : (test && is_plain_part p around a ≡ true) × (record { rule = S8; place = at } ≡ r) → IsWholePart r args (Some a)
      by (broken, is) = inr (sym (ap (λ (u : Refusal). u.rule) is), part_plain a (right_of test (is_plain_part p around a) broken))

  whole_part : (e : NumberedExp) (r : Refusal) → Contains (whole_refusals p around e) r → IsWholePart r (arguments_of_whole e) (root_of_whole e)
  whole_part (x.Call at method args) r among = inl (call_plain (called_method p (this_of around.method) (x.Call at method args)) args r among)
  whole_part (x.OwnCall at method args) r among = inl (call_plain (called_method p (this_of around.method) (x.OwnCall at method args)) args r among)
  whole_part (x.Member at a name args) r among =
      elim (Contains-append_cases (call_refusals p around (called_method p (this_of around.method) (x.Member at a name args)) args) (delete_refusals p around at a name) r among) [
        | inl call ↦ inl (call_plain (called_method p (this_of around.method) (x.Member at a name args)) args r call)
        | inr region ↦ rooted (is_delete (member_called p (this_of around.method) a name)) at a r args region
      ]
  whole_part (x.Int at n) r among = absurd (nothing_in r among)
  whole_part (x.Long at n) r among = absurd (nothing_in r among)
  whole_part (x.Truth at b) r among = absurd (nothing_in r among)
  whole_part (x.NumProcs at) r among = absurd (nothing_in r among)
  whole_part (x.Variable at v) r among = absurd (nothing_in r among)
  whole_part (x.Point at xs) r among = absurd (nothing_in r among)
  whole_part (x.Rect at ranges) r among = absurd (nothing_in r among)
  whole_part (x.Unary at op a) r among = absurd (nothing_in r among)
  whole_part (x.Binary at op a b) r among = absurd (nothing_in r among)
  whole_part (x.Cast at to a) r among = absurd (nothing_in r among)
  whole_part (x.Index at a xs) r among = absurd (nothing_in r among)
  whole_part (x.Null at) r among = absurd (nothing_in r among)
  whole_part (x.This at) r among = absurd (nothing_in r among)
  whole_part (x.OwnField at field) r among = absurd (nothing_in r among)
  whole_part (x.Select at a name) r among = absurd (nothing_in r among)
  whole_part (x.ThisProc at) r among = absurd (nothing_in r among)

  initial_part : (value : NumberedInit) (r : Refusal) → Contains (initial_refusals p around value) r
      → IsWholePart r (arguments_of_initial value) (root_of_initial value)
  initial_part (st.Value e) r among = whole_part e r among
  initial_part (st.Broadcast at e root) r among = rooted true at root r x.NoExp among
  initial_part (st.NewRegion at) r among = absurd (nothing_in r among)
  initial_part (st.NewObject at region class) r among = absurd (nothing_in r among)
  initial_part (st.NewGrid at region element dims_at dims) r among = absurd (nothing_in r among)

  -- ---- the reasons for a statement

  -- the reasons for the refusal of a statement name a cause
  abbrev IsCaused : NumberedStm → Refusal → Type 0
  IsCaused s r = names_cause (statement_reasons p (stands around s) r) ≡ true

  by_part : (s : NumberedStm) (r : Refusal) (rule : Rule) → r.rule ≡ rule → is_none (plain_for p around rule r.place s) ≡ false → IsCaused s r
  by_part s r rule is some =
      with_part around.method (plain_for p around r.rule r.place s) (effect_reason (effect_inside p around s))
      (ap (λ z. is_none (plain_for p around z r.place s)) is ∙ some)

  by_whole : (s : NumberedStm) (r : Refusal) → IsWholePart r (arguments_in s) (single_operand s) → IsCaused s r
  by_whole s r (inl (rule, some)) = by_part s r S5 rule some
  by_whole s r (inr (rule, some)) = by_part s r S8 rule some

  -- a refusal by this rule, which wants what is plain by the second test to be single
  by_rule : (s : NumberedStm) (r : Refusal) (rule : Rule) (at : Place) (test plain : Bool) → Contains (refused_if (test && plain) rule at) r
      → (plain ≡ true → is_none (plain_for p around rule r.place s) ≡ false) → IsCaused s r
  by_rule s r rule at test plain among some = by (of_refused (test && plain) rule at r among)
    where
      by : (test && plain ≡ true) × (record { rule = rule; place = at } ≡ r) → IsCaused s r
      by (broken, is) = by_part s r rule (sym (ap (λ (u : Refusal). u.rule) is)) (some (right_of test plain broken))

  -- a jump in the update of a `for`
  by_jump : (at : Place) (init : MaybeNumbered) (o : Option NumberedExp) (update : MaybeNumbered) (body : NumberedStm) (r : Refusal)
      → (doings_of_maybe p (this_of around.method) update).jumps ≡ true → IsCaused (st.For at init o update body) r
  by_jump at init o update body r jumps =
      with_effect (plain_reasons around.method (plain_for p around r.rule r.place (st.For at init o update body)))
      (effect_inside p around (st.For at init o update body))
      (either (loop_effect p around.method (st.For at init o update body)) (first_effect_of_maybe p around.method true update)
      ∙ ap (λ z. is_some (loop_effect p around.method (st.For at init o update body)) || z)
      (maybe_named p around.method true update
      ∙ ap (λ z. ((doings_of_maybe p (this_of around.method) update).acts || ((doings_of_maybe p (this_of around.method) update).returns && return_acts p around.method)) || (z && true)) jumps
      ∙ or_true _)
      ∙ or_true (is_some (loop_effect p around.method (st.For at init o update body))))

  statement_caused : (s : NumberedStm) (r : Refusal) → Contains (single_refusals_at p around s) r → IsCaused s r
  statement_caused (st.Declare at type variable value) r among =
      elim (Contains-append_cases (initial_refusals p around value) (refused_if (type.is_single && is_plain_initial p around value) S4 at) r among) [
        | inl right ↦ by_whole (st.Declare at type variable value) r (initial_part value r right)
        | inr own ↦ by_rule (st.Declare at type variable value) r S4 at type.is_single (is_plain_initial p around value) own (initial_plain value)
      ]
  statement_caused (st.Assign at target value) r among =
      elim (Contains-append_cases (initial_refusals p around value) (refused_if (is_single_target target && is_plain_initial p around value) S4 at) r among) [
        | inl right ↦ by_whole (st.Assign at target value) r (initial_part value r right)
        | inr own ↦ by_rule (st.Assign at target value) r S4 at (is_single_target target) (is_plain_initial p around value) own (initial_plain value)
      ]
  statement_caused (st.Update at op target e) r among =
      elim (Contains-append_cases (whole_refusals p around e) (refused_if (is_single_target target && is_plain p around e) S4 at) r among) [
        | inl right ↦ by_whole (st.Update at op target e) r (whole_part e r right)
        | inr own ↦ by_rule (st.Update at op target e) r S4 at (is_single_target target) (is_plain p around e) own (whole_plain e)
      ]
  statement_caused (st.Call e) r among = by_whole (st.Call e) r (whole_part e r among)
  statement_caused (st.If at cond a) r among =
      by_rule (st.If at cond a) r S1 at (has_effects p around (st.If at cond a)) (is_plain_part p around cond) among (part_plain cond)
  statement_caused (st.IfElse at cond a b) r among =
      by_rule (st.IfElse at cond a b) r S1 at (has_effects p around (st.IfElse at cond a b)) (is_plain_part p around cond) among (part_plain cond)
  statement_caused (st.While at cond body) r among =
      by_rule (st.While at cond body) r S2 at (loop_acts p around.method st.NoStm body) (is_plain_part p around cond) among (part_plain cond)
  statement_caused (st.For at init o update body) r among =
      elim (Contains-append_cases (refused_if (loop_acts p around.method update body && is_plain_condition p around o) S2 at)
      (refused_if (doings_of_maybe p (this_of around.method) update).jumps S2 at) r among) [
        | inl own ↦ by_rule (st.For at init o update body) r S2 at (loop_acts p around.method update body) (is_plain_condition p around o) own (condition_plain o)
        | inr jump ↦ by_jump at init o update body r (of_refused (doings_of_maybe p (this_of around.method) update).jumps S2 at r jump).0
      ]
  statement_caused (st.Foreach at number domain body) r among =
      by_rule (st.Foreach at number domain body) r S3 at (loop_acts p around.method st.NoStm body) (is_plain_part p around domain) among (part_plain domain)
  statement_caused (st.Return at (Some e)) r among =
      by_rule (st.Return at (Some e)) r S7 at (has_single_result around.method) (is_plain_part p around e) among (part_plain e)
  statement_caused (st.Return at None) r among = absurd (nothing_in r among)
  statement_caused (st.Step at op target) r among = absurd (nothing_in r among)
  statement_caused (st.Barrier at) r among = absurd (nothing_in r among)
  statement_caused (st.Block body) r among = absurd (nothing_in r among)
  statement_caused (st.Break at) r among = absurd (nothing_in r among)
  statement_caused (st.Continue at) r among = absurd (nothing_in r among)
  statement_caused st.Empty r among = absurd (nothing_in r among)
  statement_caused (st.Print at what) r among = absurd (nothing_in r among)

-- ---- heads of methods

-- a refused result is refused by S9
result_rule : (is_single : Bool) (result : NumberedResult) (r : Refusal) → Contains (result_refusals is_single result) r → r.rule ≡ S9
result_rule is_single c.Void r among = absurd (nothing_in r among)
result_rule true (c.Typed t) r among = absurd (nothing_in r among)
result_rule false (c.Typed t) r among = by (flat_contains word_refusals t.qualifiers r among)
  where
    by : ((q : Qualifier) × Contains t.qualifiers q × Contains (word_refusals q) r) → r.rule ≡ S9
    by (q, found, own) = sym (ap (λ (u : Refusal). u.rule) (of_refused (is_single_word q.word) S9 q.place r own).1)

head_caused : (p : ProgramView) (m : NumberedMethod) (r : Refusal) → Contains (single_head_refusals p m) r → (r.rule ≡ S9 → ⊥)
    → names_cause (head_reasons p m r.rule) ≡ true
head_caused p m r among not_nine =
    elim (Contains-append_cases (effect_refusals p m) (result_refusals m.is_single m.result) r among) [
      | inl effect ↦ by (of_refused (has_global_effects (return_acts p m) false (doings_of_method p m) && not m.is_single) S6 m.place r effect)
      | inr result ↦ absurd (not_nine (result_rule m.is_single m.result r result))
    ]
  where
    by : (has_global_effects (return_acts p m) false (doings_of_method p m) && not m.is_single ≡ true) × (record { rule = S6; place = m.place } ≡ r)
        → names_cause (head_reasons p m r.rule) ≡ true
    by (broken, is) =
        ap (λ (u : Refusal). names_cause (head_reasons p m u.rule)) (sym is)
        ∙ an_effect (first_effect_of_all p m false (numbered_stms m.body))
        (effects_named p m false (numbered_stms m.body)
        ∙ left_of (has_global_effects (return_acts p m) false (doings_of_method p m)) (not m.is_single) broken)

-- ---- programs

pub singles_caused : (p : ProgramView) (refusal : Refusal) (reasons : List RefusalReason) → AreSingleReasons p refusal reasons
    → (refusal.rule ≡ S9 → ⊥) → names_cause reasons ≡ true
singles_caused p refusal reasons (of_statement {x = s} standing broken) not_nine = statement_caused p s.around s.statement refusal broken
singles_caused p refusal reasons (of_head {m = m} among broken) not_nine = head_caused p m refusal broken not_nine
