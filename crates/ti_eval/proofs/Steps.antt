-- Proves that a computation followed by another one is their composition.
use Rattle.std.proofs.Common.{◌≡◌, ap, Some}
use Rattle.ti_lang.specs.Meaning.Comp.{Comp, CompResult, Gives, Asks, Fails, bind_result}
use Rattle.ti_eval.specs.declared.interrupt.Interrupt.{Interrupt}
use Rattle.ti_eval.specs.declared.interrupt.Interrupt.TheVariants as stop
use Rattle.ti_eval.specs.Comes.{Stops, asked_in}

asks_on : {A B : Type 0} (m : CompResult A) (go : A → Comp B) (x : _) → asked_in m ≡ Some x → asked_in (bind_result m go) ≡ Some x
asks_on (Gives a rest) go x h = cc
asks_on (Asks q) go x h = h
asks_on (Fails kind at) go x h = cc

-- where the first gives nothing yet, neither do both
pub then_stops : {A B : Type 0} (s : Interrupt) (m : CompResult A) (go : A → Comp B) → Stops s m → Stops s (bind_result m go)
then_stops (stop.Request at a) m go h = asks_on m go _ h
then_stops (stop.Fault kind at) m go h = ap (λ g. bind_result g go) h
then_stops stop.Memory m go h = tt

pub ruleset steps = (then_stops)
