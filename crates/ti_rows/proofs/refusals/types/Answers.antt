use mathlib.Core.Path.{refl}
use Rattle.ti_lang.specs.Typing.BuiltIn.{built_in}
use Rattle.ti_lang.specs.Typing.Declared.{named_field_type, instance_method}
use Rattle.ti_rules.specs.Mirrors.First.{earlier_of, earliest}
use Rattle.ti_rows.proofs.refusals.types.Goals as goal

pub returns-clause-operands_of_two_kinds : goal.returns-clause-operands_of_two_kinds
unfolding earliest earlier_of built_in named_field_type instance_method
returns-clause-operands_of_two_kinds c = refl

pub returns-clause-an_unknown_member : goal.returns-clause-an_unknown_member
unfolding earliest earlier_of built_in named_field_type instance_method
returns-clause-an_unknown_member c = refl

pub returns-clause-a_coordinate_is_assigned : goal.returns-clause-a_coordinate_is_assigned
unfolding earliest earlier_of built_in named_field_type instance_method
returns-clause-a_coordinate_is_assigned c = refl

pub returns-clause-a_call_over_an_operand_without_a_type : goal.returns-clause-a_call_over_an_operand_without_a_type
unfolding earliest earlier_of built_in named_field_type instance_method
returns-clause-a_call_over_an_operand_without_a_type c = refl

pub returns-clause-the_rule_listed_first : goal.returns-clause-the_rule_listed_first
unfolding earliest earlier_of built_in named_field_type instance_method
returns-clause-the_rule_listed_first c = refl

pub returns-clause-a_number_for_a_boolean : goal.returns-clause-a_number_for_a_boolean
unfolding earliest earlier_of built_in named_field_type instance_method
returns-clause-a_number_for_a_boolean c = refl

pub returns-clause-a_long_for_an_int : goal.returns-clause-a_long_for_an_int
unfolding earliest earlier_of built_in named_field_type instance_method
returns-clause-a_long_for_an_int c = refl

pub returns-clause-a_foreach_variable_is_assigned : goal.returns-clause-a_foreach_variable_is_assigned
unfolding earliest earlier_of built_in named_field_type instance_method
returns-clause-a_foreach_variable_is_assigned c = refl

pub returns-clause-an_argument_of_the_wrong_type : goal.returns-clause-an_argument_of_the_wrong_type
unfolding earliest earlier_of built_in named_field_type instance_method
returns-clause-an_argument_of_the_wrong_type c = refl

pub returns-clause-a_call_of_main : goal.returns-clause-a_call_of_main
unfolding earliest earlier_of built_in named_field_type instance_method
returns-clause-a_call_of_main c = refl

pub returns-clause-a_number_as_a_condition : goal.returns-clause-a_number_as_a_condition
unfolding earliest earlier_of built_in named_field_type instance_method
returns-clause-a_number_as_a_condition c = refl

pub returns-clause-too_few_arguments : goal.returns-clause-too_few_arguments
unfolding earliest earlier_of built_in named_field_type instance_method
returns-clause-too_few_arguments c = refl

pub returns-clause-a_point_of_another_dimension : goal.returns-clause-a_point_of_another_dimension
unfolding earliest earlier_of built_in named_field_type instance_method
returns-clause-a_point_of_another_dimension c = refl

pub returns-clause-too_many_indices : goal.returns-clause-too_many_indices
unfolding earliest earlier_of built_in named_field_type instance_method
returns-clause-too_many_indices c = refl

pub returns-clause-a_slice_of_one_dimension : goal.returns-clause-a_slice_of_one_dimension
unfolding earliest earlier_of built_in named_field_type instance_method
returns-clause-a_slice_of_one_dimension c = refl

pub returns-clause-a_call_in_an_expression : goal.returns-clause-a_call_in_an_expression
unfolding earliest earlier_of built_in named_field_type instance_method
returns-clause-a_call_in_an_expression c = refl

pub returns-clause-nothing_as_a_value : goal.returns-clause-nothing_as_a_value
unfolding earliest earlier_of built_in named_field_type instance_method
returns-clause-nothing_as_a_value c = refl

pub returns-clause-no_last_return : goal.returns-clause-no_last_return
unfolding earliest earlier_of built_in named_field_type instance_method
returns-clause-no_last_return c = refl

pub returns-clause-a_value_from_main : goal.returns-clause-a_value_from_main
unfolding earliest earlier_of built_in named_field_type instance_method
returns-clause-a_value_from_main c = refl

pub returns-clause-a_local_number : goal.returns-clause-a_local_number
unfolding earliest earlier_of built_in named_field_type instance_method
returns-clause-a_local_number c = refl

pub returns-clause-a_word_twice : goal.returns-clause-a_word_twice
unfolding earliest earlier_of built_in named_field_type instance_method
returns-clause-a_word_twice c = refl

pub returns-clause-a_single_parameter_of_a_plain_method : goal.returns-clause-a_single_parameter_of_a_plain_method
unfolding earliest earlier_of built_in named_field_type instance_method
returns-clause-a_single_parameter_of_a_plain_method c = refl

pub returns-clause-a_static_field : goal.returns-clause-a_static_field
unfolding earliest earlier_of built_in named_field_type instance_method
returns-clause-a_static_field c = refl

pub returns-clause-a_break_outside_a_loop : goal.returns-clause-a_break_outside_a_loop
unfolding earliest earlier_of built_in named_field_type instance_method
returns-clause-a_break_outside_a_loop c = refl

pub returns-clause-a_global_reference_for_a_local_one : goal.returns-clause-a_global_reference_for_a_local_one
unfolding earliest earlier_of built_in named_field_type instance_method
returns-clause-a_global_reference_for_a_local_one c = refl

pub returns-clause-a_local_field_written_through_a_global_reference : goal.returns-clause-a_local_field_written_through_a_global_reference
unfolding earliest earlier_of built_in named_field_type instance_method
returns-clause-a_local_field_written_through_a_global_reference c = refl

pub returns-clause-a_copy_of_local_elements : goal.returns-clause-a_copy_of_local_elements
unfolding earliest earlier_of built_in named_field_type instance_method
returns-clause-a_copy_of_local_elements c = refl

pub returns-clause-an_exchange_into_local_elements : goal.returns-clause-an_exchange_into_local_elements
unfolding earliest earlier_of built_in named_field_type instance_method
returns-clause-an_exchange_into_local_elements c = refl

pub returns-clause-types_come_before_single_values : goal.returns-clause-types_come_before_single_values
unfolding earliest earlier_of built_in named_field_type instance_method
returns-clause-types_come_before_single_values c = refl
