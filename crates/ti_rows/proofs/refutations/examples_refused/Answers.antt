use mathlib.Core.Path.{refl}
use Rattle.ti_lang.specs.Typing.BuiltIn.{built_in}
use Rattle.ti_lang.specs.Typing.Declared.{named_field_type, instance_method}
use Rattle.ti_rules.specs.Mirrors.First.{earlier_of, earliest}
use Rattle.ti_rows.proofs.refutations.examples_refused.Goals as goal

pub returns-clause-barriers_at_two_places : goal.returns-clause-barriers_at_two_places
unfolding earliest earlier_of built_in named_field_type instance_method
returns-clause-barriers_at_two_places c = refl

pub returns-clause-a_barrier_behind_own_numbers : goal.returns-clause-a_barrier_behind_own_numbers
unfolding earliest earlier_of built_in named_field_type instance_method
returns-clause-a_barrier_behind_own_numbers c = refl

pub returns-clause-no_region_is_deleted : goal.returns-clause-no_region_is_deleted
unfolding earliest earlier_of built_in named_field_type instance_method
returns-clause-no_region_is_deleted c = refl

pub returns-clause-a_local_variable_of_another_process : goal.returns-clause-a_local_variable_of_another_process
unfolding earliest earlier_of built_in named_field_type instance_method
returns-clause-a_local_variable_of_another_process c = refl

pub returns-clause-a_region_is_deleted_by_one : goal.returns-clause-a_region_is_deleted_by_one
unfolding earliest earlier_of built_in named_field_type instance_method
returns-clause-a_region_is_deleted_by_one c = refl

pub returns-clause-a_truth_in_a_number : goal.returns-clause-a_truth_in_a_number
unfolding earliest earlier_of built_in named_field_type instance_method
returns-clause-a_truth_in_a_number c = refl

pub returns-clause-an_object_for_a_grid : goal.returns-clause-an_object_for_a_grid
unfolding earliest earlier_of built_in named_field_type instance_method
returns-clause-an_object_for_a_grid c = refl

pub returns-clause-two_broadcasts : goal.returns-clause-two_broadcasts
unfolding earliest earlier_of built_in named_field_type instance_method
returns-clause-two_broadcasts c = refl
