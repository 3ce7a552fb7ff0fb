use mathlib.Core.Path.{refl}
use Rattle.std.specs.Fmt.{digits}
use Rattle.std.specs.Int.{int_wrap}
use Rattle.ti_lang.specs.Typing.BuiltIn.{built_in}
use Rattle.ti_lang.specs.Typing.Declared.{named_field_type, instance_method}
use Rattle.ti_rows.proofs.rows.regions.Goals as goal

pub returns-clause-a_region_is_deleted : goal.returns-clause-a_region_is_deleted
unfolding digits int_wrap built_in named_field_type instance_method
returns-clause-a_region_is_deleted c = refl

pub returns-clause-two_regions : goal.returns-clause-two_regions
unfolding digits int_wrap built_in named_field_type instance_method
returns-clause-two_regions c = refl

pub returns-clause-a_region_in_use_by_a_variable : goal.returns-clause-a_region_in_use_by_a_variable
unfolding digits int_wrap built_in named_field_type instance_method
returns-clause-a_region_in_use_by_a_variable c = refl

pub returns-clause-a_region_in_use_by_a_cell : goal.returns-clause-a_region_in_use_by_a_cell
unfolding digits int_wrap built_in named_field_type instance_method
returns-clause-a_region_in_use_by_a_cell c = refl

pub returns-clause-a_region_deleted_twice : goal.returns-clause-a_region_deleted_twice
unfolding digits int_wrap built_in named_field_type instance_method
returns-clause-a_region_deleted_twice c = refl
