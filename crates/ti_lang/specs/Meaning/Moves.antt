-- Moves: the outcome of one item of work, that is, how it changes the control state of its process.
use Rattle.std.specs.Prelude.{ℕ, List, [], Option}
use Rattle.ti_base.specs.declared.place.Place.{Place}
use Rattle.ti_base.specs.declared.value.Id.{Id}
use Rattle.ti_base.specs.declared.action.Deposit.{Deposit}
use Rattle.ti_lang.specs.Program.Classes.{NumberedMethod}
use Rattle.ti_lang.specs.Meaning.Held.{Held}
use Rattle.ti_lang.specs.Meaning.Comp.{Comp, ◌>>=◌, gives}
use Rattle.ti_lang.specs.Meaning.Processes.{Variable, Receiver, ContItem, Wait}
use Rattle.ti_lang.specs.Meaning.Scoping.{Env}
use Rattle.ti_lang.specs.Meaning.Targets.{into}

-- what an item of work has its process do next
pub data Move : Type 0 where
  -- continues with these variables in scope, and with this work before the rest of the continuation
  Goes : (variables : List Variable) (works : List ContItem) → Move
  -- enters an iteration of a loop: as `Goes`, and costs a tick, charged at this position
  Turns : (at : Place) (variables : List Variable) (works : List ContItem) → Move
  -- `break` and `continue`, which refer to the innermost loop
  Breaks : Move
  Continues : Move
  -- a call, with the object that `this` will be, the parameters bound to their values, and the receiver of the result
  Calls : (at : Place) (method : NumberedMethod) (this : Option Id) (parameters : List Variable) (receiver : Receiver) → Move
  -- returns from the method, with a value or without one
  Returns : (value : Option Held) → Move
  -- arrives at a collective with this deposit; `behind` is the work to do right after the departure
  Meets : (wait : Wait) (deposit : Deposit) (behind : List ContItem) → Move
  -- arrives at the delete of a region; its deposit, a count over all frames, is computed by the step
  Deletes : (at : Place) (region : ℕ) → Move

-- continues with the rest of the continuation, with the variables unchanged
abbrev pub goes_on : Env → Comp Move
goes_on env = gives (Goes env.variables [])

-- stores the value of a right side in its receiver, then continues
abbrev pub receives : Env → Receiver → Comp Held → Comp Move
receives env receiver right = do
  variables ← into env receiver right
  gives (Goes variables [])
