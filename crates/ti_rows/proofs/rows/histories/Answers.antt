use mathlib.Core.Path.{refl}
use Rattle.std.specs.Int.{int_wrap}
use Rattle.ti_lang.specs.Typing.BuiltIn.{built_in}
use Rattle.ti_lang.specs.Typing.Declared.{named_field_type, instance_method}
use Rattle.ti_rows.proofs.rows.histories.Goals as goal

pub returns-clause-grids_are_exchanged : goal.returns-clause-grids_are_exchanged
unfolding int_wrap built_in named_field_type instance_method
returns-clause-grids_are_exchanged c = refl

pub returns-clause-a_region_is_deleted : goal.returns-clause-a_region_is_deleted
unfolding int_wrap built_in named_field_type instance_method
returns-clause-a_region_is_deleted c = refl
