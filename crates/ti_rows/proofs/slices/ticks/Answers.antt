use mathlib.Core.Path.{refl}
use Rattle.std.specs.Int.{int_wrap}
use Rattle.ti_lang.specs.Typing.BuiltIn.{built_in}
use Rattle.ti_lang.specs.Typing.Declared.{named_field_type, instance_method}
use Rattle.ti_rows.proofs.SliceSimulated.{comes}
use Rattle.ti_rows.proofs.slices.ticks.Goals as goal

pub returns-clause-no_tick_for_an_arrival : goal.returns-clause-no_tick_for_an_arrival
unfolding int_wrap built_in named_field_type instance_method
returns-clause-no_tick_for_an_arrival c = comes _ _ _ refl

pub returns-clause-a_tick_for_an_arrival : goal.returns-clause-a_tick_for_an_arrival
unfolding int_wrap built_in named_field_type instance_method
returns-clause-a_tick_for_an_arrival c = comes _ _ _ refl

pub returns-clause-no_tick_for_a_departure : goal.returns-clause-no_tick_for_a_departure
unfolding int_wrap built_in named_field_type instance_method
returns-clause-no_tick_for_a_departure c = comes _ _ _ refl

pub returns-clause-ticks_for_a_barrier : goal.returns-clause-ticks_for_a_barrier
unfolding int_wrap built_in named_field_type instance_method
returns-clause-ticks_for_a_barrier c = comes _ _ _ refl

pub returns-clause-a_tick_for_a_turn : goal.returns-clause-a_tick_for_a_turn
unfolding int_wrap built_in named_field_type instance_method
returns-clause-a_tick_for_a_turn c = comes _ _ _ refl

pub returns-clause-ticks_for_a_turn : goal.returns-clause-ticks_for_a_turn
unfolding int_wrap built_in named_field_type instance_method
returns-clause-ticks_for_a_turn c = comes _ _ _ refl

pub returns-clause-a_tick_for_a_call : goal.returns-clause-a_tick_for_a_call
unfolding int_wrap built_in named_field_type instance_method
returns-clause-a_tick_for_a_call c = comes _ _ _ refl

pub returns-clause-ticks_for_a_call : goal.returns-clause-ticks_for_a_call
unfolding int_wrap built_in named_field_type instance_method
returns-clause-ticks_for_a_call c = comes _ _ _ refl
