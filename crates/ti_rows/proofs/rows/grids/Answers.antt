use mathlib.Core.Path.{refl}
use Rattle.std.specs.Fmt.{digits}
use Rattle.std.specs.Int.{int_wrap}
use Rattle.ti_lang.specs.Typing.BuiltIn.{built_in}
use Rattle.ti_lang.specs.Typing.Declared.{named_field_type, instance_method}
use Rattle.ti_rows.proofs.rows.grids.Goals as goal

pub returns-clause-elements : goal.returns-clause-elements
unfolding digits int_wrap built_in named_field_type instance_method
returns-clause-elements c = refl

pub returns-clause-grids_of_grids : goal.returns-clause-grids_of_grids
unfolding digits int_wrap built_in named_field_type instance_method
returns-clause-grids_of_grids c = refl

pub returns-clause-a_member_form_alone : goal.returns-clause-a_member_form_alone
unfolding digits int_wrap built_in named_field_type instance_method
returns-clause-a_member_form_alone c = refl

pub returns-clause-the_domain_of_a_grid : goal.returns-clause-the_domain_of_a_grid
unfolding digits int_wrap built_in named_field_type instance_method
returns-clause-the_domain_of_a_grid c = refl

pub returns-clause-views : goal.returns-clause-views
unfolding digits int_wrap built_in named_field_type instance_method
returns-clause-views c = refl

pub returns-clause-a_translated_view : goal.returns-clause-a_translated_view
unfolding digits int_wrap built_in named_field_type instance_method
returns-clause-a_translated_view c = refl

pub returns-clause-a_translation_too_far : goal.returns-clause-a_translation_too_far
unfolding digits int_wrap built_in named_field_type instance_method
returns-clause-a_translation_too_far c = refl

pub returns-clause-a_slice_outside : goal.returns-clause-a_slice_outside
unfolding digits int_wrap built_in named_field_type instance_method
returns-clause-a_slice_outside c = refl

pub returns-clause-a_write_outside : goal.returns-clause-a_write_outside
unfolding digits int_wrap built_in named_field_type instance_method
returns-clause-a_write_outside c = refl

pub returns-clause-a_copy : goal.returns-clause-a_copy
unfolding digits int_wrap built_in named_field_type instance_method
returns-clause-a_copy c = refl

pub returns-clause-a_copy_of_null : goal.returns-clause-a_copy_of_null
unfolding digits int_wrap built_in named_field_type instance_method
returns-clause-a_copy_of_null c = refl

pub returns-clause-a_grid_that_is_too_large : goal.returns-clause-a_grid_that_is_too_large
unfolding digits int_wrap built_in named_field_type instance_method
returns-clause-a_grid_that_is_too_large c = refl
