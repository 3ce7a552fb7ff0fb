use mathlib.Core.Path.{refl}
use Rattle.std.specs.Fmt.{digits}
use Rattle.std.specs.Int.{int_wrap}
use Rattle.ti_lang.specs.Typing.BuiltIn.{built_in}
use Rattle.ti_lang.specs.Typing.Declared.{named_field_type, instance_method}
use Rattle.ti_rows.proofs.rows.collectives.Goals as goal

pub returns-clause-barriers : goal.returns-clause-barriers
unfolding digits int_wrap built_in named_field_type instance_method
returns-clause-barriers c = refl

pub returns-clause-a_break_under_a_single_condition : goal.returns-clause-a_break_under_a_single_condition
unfolding digits int_wrap built_in named_field_type instance_method
returns-clause-a_break_under_a_single_condition c = refl

pub returns-clause-a_broadcast_decides_a_loop : goal.returns-clause-a_broadcast_decides_a_loop
unfolding digits int_wrap built_in named_field_type instance_method
returns-clause-a_broadcast_decides_a_loop c = refl

pub returns-clause-a_broadcast_of_a_reference : goal.returns-clause-a_broadcast_of_a_reference
unfolding digits int_wrap built_in named_field_type instance_method
returns-clause-a_broadcast_of_a_reference c = refl

pub returns-clause-a_broadcast_of_a_foreach_variable : goal.returns-clause-a_broadcast_of_a_foreach_variable
unfolding digits int_wrap built_in named_field_type instance_method
returns-clause-a_broadcast_of_a_foreach_variable c = refl

pub returns-clause-a_barrier_in_a_foreach : goal.returns-clause-a_barrier_in_a_foreach
unfolding digits int_wrap built_in named_field_type instance_method
returns-clause-a_barrier_in_a_foreach c = refl

pub returns-clause-a_root_that_is_no_process : goal.returns-clause-a_root_that_is_no_process
unfolding digits int_wrap built_in named_field_type instance_method
returns-clause-a_root_that_is_no_process c = refl

pub returns-clause-an_exchange : goal.returns-clause-an_exchange
unfolding digits int_wrap built_in named_field_type instance_method
returns-clause-an_exchange c = refl

pub returns-clause-an_exchange_widens : goal.returns-clause-an_exchange_widens
unfolding digits int_wrap built_in named_field_type instance_method
returns-clause-an_exchange_widens c = refl

pub returns-clause-an_exchange_into_another_size : goal.returns-clause-an_exchange_into_another_size
unfolding digits int_wrap built_in named_field_type instance_method
returns-clause-an_exchange_into_another_size c = refl
