use Rattle.std.proofs.Common.{refl}
use Rattle.ti_lang.specs.Typing.BuiltIn.{built_in}
use Rattle.ti_lang.specs.Typing.Declared.{named_field_type, instance_method}
use Rattle.ti_rows_of_laws.proofs.Each.{some_more}
use Rattle.ti_rows_of_laws.proofs.markings.markings_accepted.Goals as goal

pub returns-clause-the_variable : goal.returns-clause-the_variable
unfolding built_in named_field_type instance_method
returns-clause-the_variable c = record { types = refl; single = refl }

pub returns-clause-nothing : goal.returns-clause-nothing
unfolding built_in named_field_type instance_method
returns-clause-nothing c = λ h. some_more _ _ h.single

pub returns-clause-each_of_two : goal.returns-clause-each_of_two
unfolding built_in named_field_type instance_method
returns-clause-each_of_two c = record { types = refl; single = refl }

pub returns-clause-both : goal.returns-clause-both
unfolding built_in named_field_type instance_method
returns-clause-both c = record { types = refl; single = refl }

pub returns-clause-a_union_with_main : goal.returns-clause-a_union_with_main
unfolding built_in named_field_type instance_method
returns-clause-a_union_with_main c = λ h. some_more _ _ h.types
