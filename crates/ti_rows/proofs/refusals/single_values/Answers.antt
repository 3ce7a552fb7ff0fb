use mathlib.Core.Path.{refl}
use Rattle.ti_lang.specs.Typing.BuiltIn.{built_in}
use Rattle.ti_lang.specs.Typing.Declared.{named_field_type, instance_method}
use Rattle.ti_rules.specs.Mirrors.First.{earlier_of, earliest}
use Rattle.ti_rows.proofs.refusals.single_values.Goals as goal

pub returns-clause-a_barrier_under_the_own_number : goal.returns-clause-a_barrier_under_the_own_number
unfolding earliest earlier_of built_in named_field_type instance_method
returns-clause-a_barrier_under_the_own_number c = refl

pub returns-clause-a_barrier_under_a_field : goal.returns-clause-a_barrier_under_a_field
unfolding earliest earlier_of built_in named_field_type instance_method
returns-clause-a_barrier_under_a_field c = refl

pub returns-clause-a_single_variable_changed_under_the_own_number : goal.returns-clause-a_single_variable_changed_under_the_own_number
unfolding earliest earlier_of built_in named_field_type instance_method
returns-clause-a_single_variable_changed_under_the_own_number c = refl

pub returns-clause-a_break_under_the_own_number : goal.returns-clause-a_break_under_the_own_number
unfolding earliest earlier_of built_in named_field_type instance_method
returns-clause-a_break_under_the_own_number c = refl

pub returns-clause-a_break_that_decides_a_return : goal.returns-clause-a_break_that_decides_a_return
unfolding earliest earlier_of built_in named_field_type instance_method
returns-clause-a_break_that_decides_a_return c = refl

pub returns-clause-a_loop_under_the_own_number : goal.returns-clause-a_loop_under_the_own_number
unfolding earliest earlier_of built_in named_field_type instance_method
returns-clause-a_loop_under_the_own_number c = refl

pub returns-clause-a_single_update : goal.returns-clause-a_single_update
unfolding earliest earlier_of built_in named_field_type instance_method
returns-clause-a_single_update c = refl

pub returns-clause-a_barrier_in_a_foreach_over_a_plain_domain : goal.returns-clause-a_barrier_in_a_foreach_over_a_plain_domain
unfolding earliest earlier_of built_in named_field_type instance_method
returns-clause-a_barrier_in_a_foreach_over_a_plain_domain c = refl

pub returns-clause-a_plain_value_for_a_single_variable : goal.returns-clause-a_plain_value_for_a_single_variable
unfolding earliest earlier_of built_in named_field_type instance_method
returns-clause-a_plain_value_for_a_single_variable c = refl

pub returns-clause-a_plain_value_is_added : goal.returns-clause-a_plain_value_is_added
unfolding earliest earlier_of built_in named_field_type instance_method
returns-clause-a_plain_value_is_added c = refl

pub returns-clause-a_plain_argument : goal.returns-clause-a_plain_argument
unfolding earliest earlier_of built_in named_field_type instance_method
returns-clause-a_plain_argument c = refl

pub returns-clause-global_effects_in_a_plain_method : goal.returns-clause-global_effects_in_a_plain_method
unfolding earliest earlier_of built_in named_field_type instance_method
returns-clause-global_effects_in_a_plain_method c = refl

pub returns-clause-a_plain_value_returned_as_single : goal.returns-clause-a_plain_value_returned_as_single
unfolding earliest earlier_of built_in named_field_type instance_method
returns-clause-a_plain_value_returned_as_single c = refl

pub returns-clause-a_plain_root : goal.returns-clause-a_plain_root
unfolding earliest earlier_of built_in named_field_type instance_method
returns-clause-a_plain_root c = refl

pub returns-clause-a_plain_region_is_deleted : goal.returns-clause-a_plain_region_is_deleted
unfolding earliest earlier_of built_in named_field_type instance_method
returns-clause-a_plain_region_is_deleted c = refl

pub returns-clause-a_single_result_of_a_plain_method : goal.returns-clause-a_single_result_of_a_plain_method
unfolding earliest earlier_of built_in named_field_type instance_method
returns-clause-a_single_result_of_a_plain_method c = refl
