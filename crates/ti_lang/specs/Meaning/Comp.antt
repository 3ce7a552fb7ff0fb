-- Computations that perform actions. A computation is a function of the answers that its actions have received so far: replayed
-- on them, it yields a result, the next request or a fault. So a process that is suspended at an action keeps no closure, only
-- the answers.
use Rattle.std.specs.Prelude.{Bool, if◌then◌else◌, List, [], ◌∷◌, Option, None, Some}
use Rattle.ti_base.specs.declared.place.Place.{Place}
use Rattle.ti_base.specs.declared.value.Id.{Id}
use Rattle.ti_base.specs.declared.fault.FaultKind.{FaultKind}
use Rattle.ti_base.specs.declared.fault.FaultKind.TheVariants.{NullRef}
use Rattle.ti_base.specs.declared.action.Action.{Action}
use Rattle.ti_base.specs.declared.entry.Answer.{Answer}
use Rattle.ti_base.specs.declared.entry.Answer.TheVariants.{Done, Val}
use Rattle.ti_lang.specs.Program.Types.{ValueType, Void}
use Rattle.ti_lang.specs.Meaning.Held.{Held, Plain, no_value, referent_of}

infixl 1 ◌>>=◌
-- ---- requests

-- what an action requests: only that it be done, a value of a type, or a new object or grid of a type
pub data Wanted : Type 0 where
  ToBeDone : Wanted
  ValueOf : (type : ValueType) → Wanted
  NewThing : (type : ValueType) → Wanted

-- a request: the position in the source, the action, the static type of the reference that the action goes through (`Void` if
-- it goes through none), and what it requests
pub record Request : Type 0 where
  pub place : Place
  pub action : Action
  pub through : ValueType
  pub wanted : Wanted

-- an object or grid, with the static type of the expression that named it
pub record Reference : Type 0 where
  pub thing : Id
  pub type : ValueType

-- a request of an action that goes through no reference
abbrev pub request : Place → Action → Wanted → Request
request at action wanted = record { place = at; action = action; through = Void; wanted = wanted }

-- a request of an action that goes through a reference
abbrev pub request_through : Reference → Place → Action → Wanted → Request
request_through r at action wanted = record { place = at; action = action; through = r.type; wanted = wanted }

-- ---- computations

-- a result with the answers that are left over, or the next request, or a fault
pub data CompResult (A : Type 0) : Type 0 where
  Gives : (a : A) (rest : List Answer) → CompResult A
  Asks : (request : Request) → CompResult A
  Fails : (kind : FaultKind) (at : Place) → CompResult A

-- a computation, as a function of the answers to its actions so far
abbrev pub Comp : Type 0 → Type 0
Comp A = List Answer → CompResult A

-- continues with the result, if there is one already
abbrev pub bind_result : {A B : Type 0} → CompResult A → (A → Comp B) → CompResult B
bind_result (Gives a rest) go = go a rest
bind_result (Asks request) go = Asks request
bind_result (Fails kind at) go = Fails kind at

-- sequencing: one computation, then the next on the answers that the first leaves over
abbrev pub ◌>>=◌ : {A B : Type 0} → Comp A → (A → Comp B) → Comp B
◌>>=◌ m go rest = bind_result (m rest) go

-- a result, without an action
abbrev pub gives : {A : Type 0} → A → Comp A
gives a rest = Gives a rest

-- a fault
abbrev pub fails : {A : Type 0} → FaultKind → Place → Comp A
fails kind at rest = Fails kind at

-- the result if the test holds, and otherwise a fault
abbrev pub guard : {A : Type 0} → Bool → FaultKind → Place → A → Comp A
guard test kind at a = if test then gives a else fails kind at

-- the contents of the option, and a fault if it is empty
abbrev pub found_or : {A : Type 0} → FaultKind → Place → Option A → Comp A
found_or kind at None = fails kind at
found_or kind at (Some a) = gives a

-- the value in an answer; `no_value` if it has none
abbrev pub told : Answer → Held
told (Val value) = Plain value
told Done = no_value

-- performs an action: its result is the value in the action's answer
abbrev pub asked : Request → Comp Held
asked request [] = Asks request
asked request (answer ∷ rest) = Gives (told answer) rest

-- the object or grid that a value of this type refers to; a fault if it is `null`
abbrev pub needed : Place → ValueType → Held → Comp Reference
needed at type h = do
  id ← found_or NullRef at (referent_of h)
  gives (record { thing = id; type = type })
