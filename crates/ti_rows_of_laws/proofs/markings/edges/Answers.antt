use Rattle.std.proofs.Common.{refl}
use Rattle.ti_lang.specs.Typing.BuiltIn.{built_in}
use Rattle.ti_lang.specs.Typing.Declared.{named_field_type, instance_method}
use Rattle.ti_rows_of_laws.proofs.Places.{true_false}
use Rattle.ti_rows_of_laws.proofs.Each.{some_more}
use Rattle.ti_rows_of_laws.proofs.markings.edges.Goals as goal

pub returns-clause-a_mark_fits : goal.returns-clause-a_mark_fits
unfolding built_in named_field_type instance_method
returns-clause-a_mark_fits c = ((refl, (refl, ((tt, (tt, tt)), tt))), tt)

pub returns-clause-main_is_marked : goal.returns-clause-main_is_marked
unfolding built_in named_field_type instance_method
returns-clause-main_is_marked c = λ f. some_more _ _ f.0.0

pub returns-clause-kept : goal.returns-clause-kept
unfolding built_in named_field_type instance_method
returns-clause-kept c = refl

pub returns-clause-broken : goal.returns-clause-broken
unfolding built_in named_field_type instance_method
returns-clause-broken c = λ h. true_false h

pub returns-clause-main_falls : goal.returns-clause-main_falls
unfolding built_in named_field_type instance_method
returns-clause-main_falls c = λ h. true_false h
