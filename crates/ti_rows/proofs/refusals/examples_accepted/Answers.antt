use mathlib.Core.Path.{refl}
use Rattle.ti_lang.specs.Typing.BuiltIn.{built_in}
use Rattle.ti_lang.specs.Typing.Declared.{named_field_type, instance_method}
use Rattle.ti_rules.specs.Mirrors.First.{earlier_of, earliest}
use Rattle.ti_rows.proofs.refusals.examples_accepted.Goals as goal

pub returns-clause-numbers : goal.returns-clause-numbers
unfolding earliest earlier_of built_in named_field_type instance_method
returns-clause-numbers c = refl

pub returns-clause-statements : goal.returns-clause-statements
unfolding earliest earlier_of built_in named_field_type instance_method
returns-clause-statements c = refl

pub returns-clause-calls : goal.returns-clause-calls
unfolding earliest earlier_of built_in named_field_type instance_method
returns-clause-calls c = refl

pub returns-clause-objects : goal.returns-clause-objects
unfolding earliest earlier_of built_in named_field_type instance_method
returns-clause-objects c = refl

pub returns-clause-domains : goal.returns-clause-domains
unfolding earliest earlier_of built_in named_field_type instance_method
returns-clause-domains c = refl

pub returns-clause-grids : goal.returns-clause-grids
unfolding earliest earlier_of built_in named_field_type instance_method
returns-clause-grids c = refl

pub returns-clause-collectives : goal.returns-clause-collectives
unfolding earliest earlier_of built_in named_field_type instance_method
returns-clause-collectives c = refl

pub returns-clause-regions : goal.returns-clause-regions
unfolding earliest earlier_of built_in named_field_type instance_method
returns-clause-regions c = refl

pub returns-clause-programs : goal.returns-clause-programs
unfolding earliest earlier_of built_in named_field_type instance_method
returns-clause-programs c = refl
