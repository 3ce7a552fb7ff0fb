use mathlib.Core.Path.{refl}
use Rattle.std.specs.Fmt.{digits}
use Rattle.std.specs.Int.{int_wrap}
use Rattle.ti_lang.specs.Typing.BuiltIn.{built_in}
use Rattle.ti_lang.specs.Typing.Declared.{named_field_type, instance_method}
use Rattle.ti_rows.proofs.rows.objects.Goals as goal

pub returns-clause-a_local_field : goal.returns-clause-a_local_field
unfolding digits int_wrap built_in named_field_type instance_method
returns-clause-a_local_field c = refl

pub returns-clause-a_field_of_null : goal.returns-clause-a_field_of_null
unfolding digits int_wrap built_in named_field_type instance_method
returns-clause-a_field_of_null c = refl

pub returns-clause-a_write_to_null : goal.returns-clause-a_write_to_null
unfolding digits int_wrap built_in named_field_type instance_method
returns-clause-a_write_to_null c = refl

pub returns-clause-a_cast_to_local : goal.returns-clause-a_cast_to_local
unfolding digits int_wrap built_in named_field_type instance_method
returns-clause-a_cast_to_local c = refl
