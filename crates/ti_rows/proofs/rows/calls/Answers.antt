use mathlib.Core.Path.{refl}
use Rattle.std.specs.Fmt.{digits}
use Rattle.std.specs.Int.{int_wrap}
use Rattle.ti_lang.specs.Typing.BuiltIn.{built_in}
use Rattle.ti_lang.specs.Typing.Declared.{named_field_type, instance_method}
use Rattle.ti_rows.proofs.rows.calls.Goals as goal

pub returns-clause-an_early_return : goal.returns-clause-an_early_return
unfolding digits int_wrap built_in named_field_type instance_method
returns-clause-an_early_return c = refl

pub returns-clause-a_return_out_of_loops : goal.returns-clause-a_return_out_of_loops
unfolding digits int_wrap built_in named_field_type instance_method
returns-clause-a_return_out_of_loops c = refl

pub returns-clause-a_return_of_nothing : goal.returns-clause-a_return_of_nothing
unfolding digits int_wrap built_in named_field_type instance_method
returns-clause-a_return_of_nothing c = refl

pub returns-clause-recursion : goal.returns-clause-recursion
unfolding digits int_wrap built_in named_field_type instance_method
returns-clause-recursion c = refl

pub returns-clause-instance_methods : goal.returns-clause-instance_methods
unfolding digits int_wrap built_in named_field_type instance_method
returns-clause-instance_methods c = refl

pub returns-clause-a_method_of_the_own_object : goal.returns-clause-a_method_of_the_own_object
unfolding digits int_wrap built_in named_field_type instance_method
returns-clause-a_method_of_the_own_object c = refl

pub returns-clause-long_parameters : goal.returns-clause-long_parameters
unfolding digits int_wrap built_in named_field_type instance_method
returns-clause-long_parameters c = refl

pub returns-clause-a_domain_as_parameter : goal.returns-clause-a_domain_as_parameter
unfolding digits int_wrap built_in named_field_type instance_method
returns-clause-a_domain_as_parameter c = refl

pub returns-clause-a_call_comes_before_its_target : goal.returns-clause-a_call_comes_before_its_target
unfolding digits int_wrap built_in named_field_type instance_method
returns-clause-a_call_comes_before_its_target c = refl

pub returns-clause-a_single_method : goal.returns-clause-a_single_method
unfolding digits int_wrap built_in named_field_type instance_method
returns-clause-a_single_method c = refl

pub returns-clause-too_deep : goal.returns-clause-too_deep
unfolding digits int_wrap built_in named_field_type instance_method
returns-clause-too_deep c = refl

pub returns-clause-fuel_at_a_call : goal.returns-clause-fuel_at_a_call
unfolding digits int_wrap built_in named_field_type instance_method
returns-clause-fuel_at_a_call c = refl

pub returns-clause-a_call_on_null : goal.returns-clause-a_call_on_null
unfolding digits int_wrap built_in named_field_type instance_method
returns-clause-a_call_on_null c = refl
