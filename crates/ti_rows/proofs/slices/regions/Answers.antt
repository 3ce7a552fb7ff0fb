use mathlib.Core.Path.{refl}
use Rattle.std.specs.Int.{int_wrap}
use Rattle.ti_lang.specs.Typing.BuiltIn.{built_in}
use Rattle.ti_lang.specs.Typing.Declared.{named_field_type, instance_method}
use Rattle.ti_rows.proofs.SliceSimulated.{comes}
use Rattle.ti_rows.proofs.slices.regions.Goals as goal

pub returns-clause-a_region_is_made : goal.returns-clause-a_region_is_made
unfolding int_wrap built_in named_field_type instance_method
returns-clause-a_region_is_made c = comes _ _ _ refl

pub returns-clause-a_region_is_deleted : goal.returns-clause-a_region_is_deleted
unfolding int_wrap built_in named_field_type instance_method
returns-clause-a_region_is_deleted c = comes _ _ _ refl

pub returns-clause-a_region_was_deleted : goal.returns-clause-a_region_was_deleted
unfolding int_wrap built_in named_field_type instance_method
returns-clause-a_region_was_deleted c = comes _ _ _ refl

pub returns-clause-a_second_region : goal.returns-clause-a_second_region
unfolding int_wrap built_in named_field_type instance_method
returns-clause-a_second_region c = comes _ _ _ refl

pub returns-clause-the_first_region_is_deleted : goal.returns-clause-the_first_region_is_deleted
unfolding int_wrap built_in named_field_type instance_method
returns-clause-the_first_region_is_deleted c = comes _ _ _ refl

pub returns-clause-a_region_deleted_once : goal.returns-clause-a_region_deleted_once
unfolding int_wrap built_in named_field_type instance_method
returns-clause-a_region_deleted_once c = comes _ _ _ refl

pub returns-clause-a_region_deleted_twice : goal.returns-clause-a_region_deleted_twice
unfolding int_wrap built_in named_field_type instance_method
returns-clause-a_region_deleted_twice c = comes _ _ _ refl

pub returns-clause-an_outcome_behind_a_gone_region : goal.returns-clause-an_outcome_behind_a_gone_region
unfolding int_wrap built_in named_field_type instance_method
returns-clause-an_outcome_behind_a_gone_region c = comes _ _ _ refl
