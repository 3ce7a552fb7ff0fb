use mathlib.Core.Path.{refl}
use Rattle.std.specs.Fmt.{digits}
use Rattle.std.specs.Int.{int_wrap}
use Rattle.ti_lang.specs.Typing.BuiltIn.{built_in}
use Rattle.ti_lang.specs.Typing.Declared.{named_field_type, instance_method}
use Rattle.ti_rows.proofs.rows.domains.Goals as goal

pub returns-clause-points : goal.returns-clause-points
unfolding digits int_wrap built_in named_field_type instance_method
returns-clause-points c = refl

pub returns-clause-a_coordinate_out_of_bounds : goal.returns-clause-a_coordinate_out_of_bounds
unfolding digits int_wrap built_in named_field_type instance_method
returns-clause-a_coordinate_out_of_bounds c = refl

pub returns-clause-a_meet : goal.returns-clause-a_meet
unfolding digits int_wrap built_in named_field_type instance_method
returns-clause-a_meet c = refl

pub returns-clause-a_difference_and_a_union : goal.returns-clause-a_difference_and_a_union
unfolding digits int_wrap built_in named_field_type instance_method
returns-clause-a_difference_and_a_union c = refl

pub returns-clause-equal_domains : goal.returns-clause-equal_domains
unfolding digits int_wrap built_in named_field_type instance_method
returns-clause-equal_domains c = refl

pub returns-clause-least_and_greatest : goal.returns-clause-least_and_greatest
unfolding digits int_wrap built_in named_field_type instance_method
returns-clause-least_and_greatest c = refl

pub returns-clause-the_least_point_of_no_points : goal.returns-clause-the_least_point_of_no_points
unfolding digits int_wrap built_in named_field_type instance_method
returns-clause-the_least_point_of_no_points c = refl

pub returns-clause-a_bad_stride : goal.returns-clause-a_bad_stride
unfolding digits int_wrap built_in named_field_type instance_method
returns-clause-a_bad_stride c = refl

pub returns-clause-too_many_points_to_count : goal.returns-clause-too_many_points_to_count
unfolding digits int_wrap built_in named_field_type instance_method
returns-clause-too_many_points_to_count c = refl

pub returns-clause-too_many_points_for_a_domain : goal.returns-clause-too_many_points_for_a_domain
unfolding digits int_wrap built_in named_field_type instance_method
returns-clause-too_many_points_for_a_domain c = refl
