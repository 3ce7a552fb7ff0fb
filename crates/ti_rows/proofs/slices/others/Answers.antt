use mathlib.Core.Path.{refl}
use Rattle.std.specs.Int.{int_wrap}
use Rattle.ti_lang.specs.Typing.BuiltIn.{built_in}
use Rattle.ti_lang.specs.Typing.Declared.{named_field_type, instance_method}
use Rattle.ti_rows.proofs.SliceSimulated.{comes}
use Rattle.ti_rows.proofs.slices.others.Goals as goal

pub returns-clause-a_single_method : goal.returns-clause-a_single_method
unfolding int_wrap built_in named_field_type instance_method
returns-clause-a_single_method c = comes _ _ _ refl

pub returns-clause-a_single_method_turns : goal.returns-clause-a_single_method_turns
unfolding int_wrap built_in named_field_type instance_method
returns-clause-a_single_method_turns c = comes _ _ _ refl

pub returns-clause-a_single_method_ends : goal.returns-clause-a_single_method_ends
unfolding int_wrap built_in named_field_type instance_method
returns-clause-a_single_method_ends c = comes _ _ _ refl

pub returns-clause-a_plain_recursion : goal.returns-clause-a_plain_recursion
unfolding int_wrap built_in named_field_type instance_method
returns-clause-a_plain_recursion c = comes _ _ _ refl

pub returns-clause-no_collective : goal.returns-clause-no_collective
unfolding int_wrap built_in named_field_type instance_method
returns-clause-no_collective c = comes _ _ _ refl

pub returns-clause-an_outcome_without_a_collective : goal.returns-clause-an_outcome_without_a_collective
unfolding int_wrap built_in named_field_type instance_method
returns-clause-an_outcome_without_a_collective c = comes _ _ _ refl

pub returns-clause-a_zero_divisor_in_plain_values : goal.returns-clause-a_zero_divisor_in_plain_values
unfolding int_wrap built_in named_field_type instance_method
returns-clause-a_zero_divisor_in_plain_values c = comes _ _ _ refl

pub returns-clause-a_single_recursion : goal.returns-clause-a_single_recursion
unfolding int_wrap built_in named_field_type instance_method
returns-clause-a_single_recursion c = comes _ _ _ refl
