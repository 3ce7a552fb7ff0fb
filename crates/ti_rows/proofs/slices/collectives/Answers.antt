use mathlib.Core.Path.{refl}
use Rattle.std.specs.Int.{int_wrap}
use Rattle.ti_lang.specs.Typing.BuiltIn.{built_in}
use Rattle.ti_lang.specs.Typing.Declared.{named_field_type, instance_method}
use Rattle.ti_rows.proofs.SliceSimulated.{comes}
use Rattle.ti_rows.proofs.slices.collectives.Goals as goal

pub returns-clause-barriers : goal.returns-clause-barriers
unfolding int_wrap built_in named_field_type instance_method
returns-clause-barriers c = comes _ _ _ refl

pub returns-clause-barriers_end : goal.returns-clause-barriers_end
unfolding int_wrap built_in named_field_type instance_method
returns-clause-barriers_end c = comes _ _ _ refl

pub returns-clause-barriers_with_one_too_many : goal.returns-clause-barriers_with_one_too_many
unfolding int_wrap built_in named_field_type instance_method
returns-clause-barriers_with_one_too_many c = comes _ _ _ refl

pub returns-clause-barriers_with_a_value : goal.returns-clause-barriers_with_a_value
unfolding int_wrap built_in named_field_type instance_method
returns-clause-barriers_with_a_value c = comes _ _ _ refl

pub returns-clause-a_break_under_a_single_condition : goal.returns-clause-a_break_under_a_single_condition
unfolding int_wrap built_in named_field_type instance_method
returns-clause-a_break_under_a_single_condition c = comes _ _ _ refl

pub returns-clause-a_break_under_a_single_condition_ends : goal.returns-clause-a_break_under_a_single_condition_ends
unfolding int_wrap built_in named_field_type instance_method
returns-clause-a_break_under_a_single_condition_ends c = comes _ _ _ refl

pub returns-clause-a_broadcast_decides_a_loop : goal.returns-clause-a_broadcast_decides_a_loop
unfolding int_wrap built_in named_field_type instance_method
returns-clause-a_broadcast_decides_a_loop c = comes _ _ _ refl

pub returns-clause-a_broadcast_decides_a_loop_behind_six : goal.returns-clause-a_broadcast_decides_a_loop_behind_six
unfolding int_wrap built_in named_field_type instance_method
returns-clause-a_broadcast_decides_a_loop_behind_six c = comes _ _ _ refl

pub returns-clause-a_broadcast_decides_a_loop_to_its_end : goal.returns-clause-a_broadcast_decides_a_loop_to_its_end
unfolding int_wrap built_in named_field_type instance_method
returns-clause-a_broadcast_decides_a_loop_to_its_end c = comes _ _ _ refl

pub returns-clause-a_broadcast_decides_a_loop_behind_zero : goal.returns-clause-a_broadcast_decides_a_loop_behind_zero
unfolding int_wrap built_in named_field_type instance_method
returns-clause-a_broadcast_decides_a_loop_behind_zero c = comes _ _ _ refl

pub returns-clause-a_broadcast_without_a_value : goal.returns-clause-a_broadcast_without_a_value
unfolding int_wrap built_in named_field_type instance_method
returns-clause-a_broadcast_without_a_value c = comes _ _ _ refl

pub returns-clause-a_broadcast_of_another_type : goal.returns-clause-a_broadcast_of_another_type
unfolding int_wrap built_in named_field_type instance_method
returns-clause-a_broadcast_of_another_type c = comes _ _ _ refl

pub returns-clause-a_broadcast_out_of_range : goal.returns-clause-a_broadcast_out_of_range
unfolding int_wrap built_in named_field_type instance_method
returns-clause-a_broadcast_out_of_range c = comes _ _ _ refl

pub returns-clause-a_broadcast_decides_how_many_come : goal.returns-clause-a_broadcast_decides_how_many_come
unfolding int_wrap built_in named_field_type instance_method
returns-clause-a_broadcast_decides_how_many_come c = comes _ _ _ refl

pub returns-clause-a_broadcast_of_a_reference : goal.returns-clause-a_broadcast_of_a_reference
unfolding int_wrap built_in named_field_type instance_method
returns-clause-a_broadcast_of_a_reference c = comes _ _ _ refl

pub returns-clause-a_broadcast_of_null : goal.returns-clause-a_broadcast_of_null
unfolding int_wrap built_in named_field_type instance_method
returns-clause-a_broadcast_of_null c = comes _ _ _ refl

pub returns-clause-a_broadcast_of_a_grid_for_an_object : goal.returns-clause-a_broadcast_of_a_grid_for_an_object
unfolding int_wrap built_in named_field_type instance_method
returns-clause-a_broadcast_of_a_grid_for_an_object c = comes _ _ _ refl

pub returns-clause-a_broadcast_of_a_foreach_variable : goal.returns-clause-a_broadcast_of_a_foreach_variable
unfolding int_wrap built_in named_field_type instance_method
returns-clause-a_broadcast_of_a_foreach_variable c = comes _ _ _ refl

pub returns-clause-a_broadcast_in_the_next_turn : goal.returns-clause-a_broadcast_in_the_next_turn
unfolding int_wrap built_in named_field_type instance_method
returns-clause-a_broadcast_in_the_next_turn c = comes _ _ _ refl

pub returns-clause-a_broadcast_of_a_foreach_variable_ends : goal.returns-clause-a_broadcast_of_a_foreach_variable_ends
unfolding int_wrap built_in named_field_type instance_method
returns-clause-a_broadcast_of_a_foreach_variable_ends c = comes _ _ _ refl

pub returns-clause-a_broadcast_of_another_dimension : goal.returns-clause-a_broadcast_of_another_dimension
unfolding int_wrap built_in named_field_type instance_method
returns-clause-a_broadcast_of_another_dimension c = comes _ _ _ refl

pub returns-clause-a_barrier_in_a_foreach : goal.returns-clause-a_barrier_in_a_foreach
unfolding int_wrap built_in named_field_type instance_method
returns-clause-a_barrier_in_a_foreach c = comes _ _ _ refl

pub returns-clause-a_barrier_in_a_foreach_ends : goal.returns-clause-a_barrier_in_a_foreach_ends
unfolding int_wrap built_in named_field_type instance_method
returns-clause-a_barrier_in_a_foreach_ends c = comes _ _ _ refl

pub returns-clause-a_root_that_is_no_process : goal.returns-clause-a_root_that_is_no_process
unfolding int_wrap built_in named_field_type instance_method
returns-clause-a_root_that_is_no_process c = comes _ _ _ refl

pub returns-clause-an_outcome_behind_a_fault : goal.returns-clause-an_outcome_behind_a_fault
unfolding int_wrap built_in named_field_type instance_method
returns-clause-an_outcome_behind_a_fault c = comes _ _ _ refl

pub returns-clause-an_exchange : goal.returns-clause-an_exchange
unfolding int_wrap built_in named_field_type instance_method
returns-clause-an_exchange c = comes _ _ _ refl

pub returns-clause-a_barrier_behind_an_exchange : goal.returns-clause-a_barrier_behind_an_exchange
unfolding int_wrap built_in named_field_type instance_method
returns-clause-a_barrier_behind_an_exchange c = comes _ _ _ refl

pub returns-clause-an_exchange_ends : goal.returns-clause-an_exchange_ends
unfolding int_wrap built_in named_field_type instance_method
returns-clause-an_exchange_ends c = comes _ _ _ refl

pub returns-clause-an_exchange_into_another_size : goal.returns-clause-an_exchange_into_another_size
unfolding int_wrap built_in named_field_type instance_method
returns-clause-an_exchange_into_another_size c = comes _ _ _ refl
