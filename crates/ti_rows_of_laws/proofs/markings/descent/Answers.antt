use Rattle.std.proofs.Common.{refl, sym}
use Rattle.ti_lang.specs.Typing.BuiltIn.{built_in}
use Rattle.ti_lang.specs.Typing.Declared.{named_field_type, instance_method}
use Rattle.ti_rows_of_laws.specs.Texts.{pl}
use Rattle.ti_rows_of_laws.proofs.Places.{true_false, and_true}
use Rattle.ti_rows_of_laws.proofs.markings.descent.Goals as goal

pub returns-clause-the_variable_falls : goal.returns-clause-the_variable_falls
unfolding built_in named_field_type instance_method
returns-clause-the_variable_falls c = λ part. true_false (sym (part.variables (pl 1 66) refl))

pub returns-clause-the_variable_stays : goal.returns-clause-the_variable_stays
unfolding built_in named_field_type instance_method
returns-clause-the_variable_stays c = record { methods = λ at h. and_true _ h; results = λ at h. and_true _ h; variables = λ at h. and_true _ h }

pub returns-clause-a_barrier_is_fixed : goal.returns-clause-a_barrier_is_fixed
unfolding built_in named_field_type instance_method
returns-clause-a_barrier_is_fixed c = refl

pub returns-clause-a_jump_is_always : goal.returns-clause-a_jump_is_always
unfolding built_in named_field_type instance_method
returns-clause-a_jump_is_always c = refl
