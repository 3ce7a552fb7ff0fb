use mathlib.Core.Path.{refl}
use Rattle.std.specs.Fmt.{digits}
use Rattle.std.specs.Int.{int_wrap}
use Rattle.ti_lang.specs.Typing.BuiltIn.{built_in}
use Rattle.ti_lang.specs.Typing.Declared.{named_field_type, instance_method}
use Rattle.ti_rows.proofs.rows.programs.Goals as goal

pub returns-clause-grids_are_exchanged : goal.returns-clause-grids_are_exchanged
unfolding digits int_wrap built_in named_field_type instance_method
returns-clause-grids_are_exchanged c = refl

pub returns-clause-grids_are_exchanged_by_four : goal.returns-clause-grids_are_exchanged_by_four
unfolding digits int_wrap built_in named_field_type instance_method
returns-clause-grids_are_exchanged_by_four c = refl
