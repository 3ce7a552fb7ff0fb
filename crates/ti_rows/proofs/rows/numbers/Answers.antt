use mathlib.Core.Path.{refl}
use Rattle.std.specs.Fmt.{digits}
use Rattle.std.specs.Int.{int_wrap}
use Rattle.ti_lang.specs.Typing.BuiltIn.{built_in}
use Rattle.ti_lang.specs.Typing.Declared.{named_field_type, instance_method}
use Rattle.ti_rows.proofs.rows.numbers.Goals as goal

pub returns-clause-sums_and_quotients : goal.returns-clause-sums_and_quotients
unfolding digits int_wrap built_in named_field_type instance_method
returns-clause-sums_and_quotients c = refl

pub returns-clause-shifts : goal.returns-clause-shifts
unfolding digits int_wrap built_in named_field_type instance_method
returns-clause-shifts c = refl

pub returns-clause-bits : goal.returns-clause-bits
unfolding digits int_wrap built_in named_field_type instance_method
returns-clause-bits c = refl

pub returns-clause-long_sums : goal.returns-clause-long_sums
unfolding digits int_wrap built_in named_field_type instance_method
returns-clause-long_sums c = refl

pub returns-clause-long_shifts : goal.returns-clause-long_shifts
unfolding digits int_wrap built_in named_field_type instance_method
returns-clause-long_shifts c = refl

pub returns-clause-an_update_narrows : goal.returns-clause-an_update_narrows
unfolding digits int_wrap built_in named_field_type instance_method
returns-clause-an_update_narrows c = refl

pub returns-clause-remainders : goal.returns-clause-remainders
unfolding digits int_wrap built_in named_field_type instance_method
returns-clause-remainders c = refl

pub returns-clause-an_empty_print : goal.returns-clause-an_empty_print
unfolding digits int_wrap built_in named_field_type instance_method
returns-clause-an_empty_print c = refl

pub returns-clause-a_literal_and_a_value : goal.returns-clause-a_literal_and_a_value
unfolding digits int_wrap built_in named_field_type instance_method
returns-clause-a_literal_and_a_value c = refl

pub returns-clause-a_literal_alone : goal.returns-clause-a_literal_alone
unfolding digits int_wrap built_in named_field_type instance_method
returns-clause-a_literal_alone c = refl

pub returns-clause-a_right_side_is_not_needed : goal.returns-clause-a_right_side_is_not_needed
unfolding digits int_wrap built_in named_field_type instance_method
returns-clause-a_right_side_is_not_needed c = refl

pub returns-clause-a_zero_divisor : goal.returns-clause-a_zero_divisor
unfolding digits int_wrap built_in named_field_type instance_method
returns-clause-a_zero_divisor c = refl

pub returns-clause-an_update_by_zero : goal.returns-clause-an_update_by_zero
unfolding digits int_wrap built_in named_field_type instance_method
returns-clause-an_update_by_zero c = refl
