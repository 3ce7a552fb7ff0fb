use mathlib.Core.Path.{refl}
use Rattle.std.specs.Fmt.{digits}
use Rattle.std.specs.Int.{int_wrap}
use Rattle.ti_lang.specs.Typing.BuiltIn.{built_in}
use Rattle.ti_lang.specs.Typing.Declared.{named_field_type, instance_method}
use Rattle.ti_rows.proofs.rows.statements.Goals as goal

pub returns-clause-blocks : goal.returns-clause-blocks
unfolding digits int_wrap built_in named_field_type instance_method
returns-clause-blocks c = refl

pub returns-clause-loops : goal.returns-clause-loops
unfolding digits int_wrap built_in named_field_type instance_method
returns-clause-loops c = refl

pub returns-clause-jumps : goal.returns-clause-jumps
unfolding digits int_wrap built_in named_field_type instance_method
returns-clause-jumps c = refl

pub returns-clause-jumps_in_foreach : goal.returns-clause-jumps_in_foreach
unfolding digits int_wrap built_in named_field_type instance_method
returns-clause-jumps_in_foreach c = refl

pub returns-clause-an_endless_loop_is_left : goal.returns-clause-an_endless_loop_is_left
unfolding digits int_wrap built_in named_field_type instance_method
returns-clause-an_endless_loop_is_left c = refl

pub returns-clause-fuel_in_a_loop : goal.returns-clause-fuel_in_a_loop
unfolding digits int_wrap built_in named_field_type instance_method
returns-clause-fuel_in_a_loop c = refl
