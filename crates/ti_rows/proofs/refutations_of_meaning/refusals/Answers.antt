use Rattle.std.proofs.Common.{◌≡◌, ℕ, true, false, List, [], ◌∷◌, Option, Some, None, refl, ap, arith}
use Rattle.ti_lang.specs.Typing.BuiltIn.{built_in}
use Rattle.ti_lang.specs.Typing.Declared.{named_field_type, instance_method}
use Rattle.ti_rules.specs.declared.refusal.Refusal.{Refusal}
use Rattle.ti_rules.specs.declared.rule.Rule.TheVariants.{Y1, Y7}
use Rattle.ti_rules.specs.Mirrors.First.{earlier_of, earliest}
use Rattle.ti_rows.specs.Refuted.Things.{later, earlier}
use Rattle.ti_rows.proofs.refutations_of_meaning.refusals.Goals as goal

-- ---- statements

some_more : (x : Refusal) (xs : List Refusal) → x ∷ xs ≡ [] → ⊥
some_more x xs e = cc

pub returns-clause-a_statement_breaks_a_rule : goal.returns-clause-a_statement_breaks_a_rule
unfolding built_in named_field_type instance_method
returns-clause-a_statement_breaks_a_rule c = λ f. some_more _ _ (f _ (0, omega arith, refl))

pub returns-clause-a_barrier_stands_under_the_own_number : goal.returns-clause-a_barrier_stands_under_the_own_number
unfolding built_in named_field_type instance_method
returns-clause-a_barrier_stands_under_the_own_number c = λ f. some_more _ _ (f _ (0, omega arith, refl))

another_rule : Y1 ≡ Y7 → ⊥
another_rule e = cc

pub returns-clause-a_sum_of_a_boolean : goal.returns-clause-a_sum_of_a_boolean
unfolding built_in named_field_type instance_method
returns-clause-a_sum_of_a_boolean c = λ f. another_rule (f 0 earlier (omega arith))

-- ---- which counts

true_false : true ≡ false → ⊥
true_false e = cc

pub returns-clause-the_earlier_one : goal.returns-clause-the_earlier_one
unfolding earliest earlier_of
returns-clause-the_earlier_one c = refl

pub returns-clause-the_later_one : goal.returns-clause-the_later_one
returns-clause-the_later_one c = λ f. true_false (f.none_before earlier (1, omega arith, refl))

some_none : (r : Refusal) → ◌≡◌ {A = Option Refusal} (Some r) None → ⊥
some_none r e = cc

pub returns-clause-none_of_one : goal.returns-clause-none_of_one
unfolding earliest earlier_of
returns-clause-none_of_one c = some_none later

column_of : Option Refusal → ℕ
column_of None = 0
column_of (Some r) = r.place.col

pub returns-clause-the_first_list_alone : goal.returns-clause-the_first_list_alone
unfolding earliest earlier_of column_of
returns-clause-the_first_list_alone c = λ e.
    let k : 3 ≡ 9 = ap column_of e in
    omega (arith, k)
