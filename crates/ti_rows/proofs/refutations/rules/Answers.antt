use Rattle.std.proofs.Common.{◌≡◌, List, [], ◌∷◌, Option, None, Some}
use Rattle.ti_lang.specs.Program.Types.{ValueType}
use Rattle.ti_lang.specs.Typing.BuiltIn.{built_in}
use Rattle.ti_lang.specs.Typing.Declared.{named_field_type, instance_method}
use Rattle.ti_rules.specs.declared.refusal.Refusal.{Refusal}
use Rattle.ti_rules.specs.Mirrors.First.{earlier_of, earliest}
use Rattle.ti_rows.proofs.refutations.rules.Goals as goal

some_more : (x : Refusal) (xs : List Refusal) → x ∷ xs ≡ [] → ⊥
some_more x xs e = cc

pub returns-clause-a_barrier_under_the_own_number : goal.returns-clause-a_barrier_under_the_own_number
unfolding earliest earlier_of built_in named_field_type instance_method
returns-clause-a_barrier_under_the_own_number c = λ unbroken. some_more _ _ unbroken.single

pub returns-clause-operands_of_two_kinds : goal.returns-clause-operands_of_two_kinds
unfolding earliest earlier_of built_in named_field_type instance_method
returns-clause-operands_of_two_kinds c = λ unbroken. some_more _ _ unbroken.types

no_type : (t : ValueType) → ◌≡◌ {A = Option ValueType} None (Some t) → ⊥
no_type t e = cc

pub returns-clause-a_sum_of_a_boolean : goal.returns-clause-a_sum_of_a_boolean
unfolding earliest earlier_of built_in named_field_type instance_method
returns-clause-a_sum_of_a_boolean c = λ there. no_type there.0 there.1
