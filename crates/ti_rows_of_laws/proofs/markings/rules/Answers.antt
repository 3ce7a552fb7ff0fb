use Rattle.std.proofs.Common.{refl}
use Rattle.ti_lang.specs.Typing.BuiltIn.{built_in}
use Rattle.ti_lang.specs.Typing.Declared.{named_field_type, instance_method}
use Rattle.ti_rows_of_laws.proofs.Places.{true_false}
use Rattle.ti_rows_of_laws.proofs.Each.{some_more}
use Rattle.ti_rows_of_laws.proofs.markings.rules.Goals as goal

pub returns-clause-by_reasons : goal.returns-clause-by_reasons
unfolding built_in named_field_type instance_method
returns-clause-by_reasons c = refl

pub returns-clause-against_reasons : goal.returns-clause-against_reasons
unfolding built_in named_field_type instance_method
returns-clause-against_reasons c = λ h. true_false h

pub returns-clause-by_rules : goal.returns-clause-by_rules
unfolding built_in named_field_type instance_method
returns-clause-by_rules c = refl

pub returns-clause-against_rules : goal.returns-clause-against_rules
unfolding built_in named_field_type instance_method
returns-clause-against_rules c = λ h. some_more _ _ h

pub returns-clause-no_collective_counts : goal.returns-clause-no_collective_counts
unfolding built_in named_field_type instance_method
returns-clause-no_collective_counts c = refl

pub returns-clause-no_reason_counts : goal.returns-clause-no_reason_counts
unfolding built_in named_field_type instance_method
returns-clause-no_reason_counts c = refl
