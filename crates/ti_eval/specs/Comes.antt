-- How results of the code correspond to computations of the semantics.
use Rattle.std.specs.Prelude.{◌≡◌, List, Option, Some, None, Result, Ok, Err}
use Rattle.std.specs.Borrow.{Bor}
use Rattle.ti_base.specs.declared.place.Place.{Place}
use Rattle.ti_base.specs.declared.action.Action.{Action}
use Rattle.ti_base.specs.declared.entry.Answer.{Answer}
use Rattle.ti_lang.specs.Meaning.Comp.{CompResult, Gives, Asks, Fails}
use Rattle.ti_eval.specs.declared.interrupt.Interrupt.{Interrupt}
use Rattle.ti_eval.specs.declared.interrupt.Interrupt.TheVariants as stop

-- The action that a computation requests, and its place, if it requests one.
abbrev pub asked_in : {A : Type 0} → CompResult A → Option (Place × Action)
asked_in (Gives a rest) = None
asked_in (Asks q) = Some (q.place, q.action)
asked_in (Fails kind at) = None

-- The code's account of a computation that is interrupted. It doesn't say what an action's answer is for.
abbrev pub Stops : {A : Type 0} → Interrupt → CompResult A → Type 0
Stops (stop.Request at a) got = asked_in got ≡ Some (at, a)
Stops (stop.Fault kind at) got = got ≡ Fails kind at
Stops stop.Memory got = Unit {0}

-- The code's result is that of a computation, with the answers that are left.
abbrev pub Comes : {A : Type 0} → Result (A × Bor (List Answer)) Interrupt → CompResult A → Type 0
Comes (Ok p) got = got ≡ Gives p.0 p.1.now
Comes (Err s) got = Stops s got

-- The code's result is that of a computation, if contracts see its value through a view.
abbrev pub ComesAs : {A B : Type 0} → (A → B) → Result (A × Bor (List Answer)) Interrupt → CompResult B → Type 0
ComesAs view (Ok p) got = got ≡ Gives (view p.0) p.1.now
ComesAs view (Err s) got = Stops s got
