-- Calls of declared methods.
use Rattle.std.specs.Prelude.{ℕ, ◌+◌, List, [], ◌∷◌, option_map, Option, None, Some}
use Rattle.ti_base.specs.declared.place.Place.{Place}
use Rattle.ti_base.specs.declared.value.Id.{Id}
use Rattle.ti_lang.specs.Program.Types.{VariableUse, Typed, Void}
use Rattle.ti_lang.specs.Program.Expressions.{NumberedExp, NumberedExps, place_of_numbered}
use Rattle.ti_lang.specs.Program.Expressions as e
use Rattle.ti_lang.specs.Program.Classes.{NumberedMethod, NumberedParam, NumberedParams, MainArgs, Params}
use Rattle.ti_lang.specs.Program.Scope.{this_of}
use Rattle.ti_lang.specs.Typing.Called.{called_method}
use Rattle.ti_lang.specs.Meaning.Held.{Held}
use Rattle.ti_lang.specs.Meaning.Comp.{Comp, ◌>>=◌, gives, needed}
use Rattle.ti_lang.specs.Meaning.Conversions.{converted}
use Rattle.ti_lang.specs.Meaning.Processes.{Variable, Receiver}
use Rattle.ti_lang.specs.Meaning.Scoping.{Env, with_new, declared_type}
use Rattle.ti_lang.specs.Meaning.Evaluation.{eval}
use Rattle.ti_lang.specs.Meaning.Moves.{Move, Calls}

-- ---- which call

-- a call of a declared method: its position, the method, the receiver of an instance method, and the arguments
pub record Call : Type 0 where
  pub place : Place
  pub method : NumberedMethod
  pub object : Option NumberedExp
  pub args : NumberedExps

-- the call of a method
abbrev pub call_of : Place → Option NumberedExp → NumberedExps → NumberedMethod → Call
call_of at object args method = record { place = at; method = method; object = object; args = args }

-- the call that an expression denotes, given the method that it calls; None if it calls none
abbrev pub call_by : NumberedExp → Option NumberedMethod → Option Call
call_by (e.Call at method args) m = option_map (call_of at None args) m
call_by (e.OwnCall at method args) m = option_map (call_of at (Some (e.This at)) args) m
call_by (e.Member at x name args) m = option_map (call_of at (Some x) args) m
call_by other m = None

-- the call that an expression denotes; None if it is no call of a declared method
abbrev pub called : Env → NumberedExp → Option Call
called env x = call_by x (called_method env.program (this_of env.method) x)

-- ---- parameters

-- parameters as variables, numbered from `number` on
abbrev pub parameters_from : ℕ → List NumberedParam → List VariableUse
parameters_from number [] = []
parameters_from number (p ∷ rest) =
    record { number = number; declared = Typed p.ty.is_single p.ty.type } ∷ parameters_from (number + 1) rest

-- the parameters of a method; the `String[] x` of `main` is no variable
abbrev pub parameters_of : NumberedParams → List VariableUse
parameters_of MainArgs = []
parameters_of (Params params) = parameters_from 0 params

-- the parameters bound to the values of their arguments, each converted to the parameter's type before the next is evaluated
abbrev pub bind_params : Env → List VariableUse → NumberedExps → List Variable → Comp (List Variable)
bind_params env (p ∷ ps) (e.MoreExp x xs) found = do
  h ← eval env x
  k ← converted (place_of_numbered x) (declared_type p.declared) h
  bind_params env ps xs (with_new p k found)
bind_params env ps xs found = gives found

-- ---- the call

-- the value of an optional expression
abbrev pub maybe_eval : Env → Option NumberedExp → Comp (Option Held)
maybe_eval env None = gives None
maybe_eval env (Some x) = do
  h ← eval env x
  gives (Some h)

-- the object on which an instance method is called; a fault if it is `null`
abbrev pub maybe_needed : Place → Option Held → Comp (Option Id)
maybe_needed at None = gives None
maybe_needed at (Some h) = do
  r ← needed at Void h
  gives (Some r.thing)

-- evaluates the receiver and the arguments in order, and only then faults if the receiver is `null`
abbrev pub calling : Env → Receiver → Call → Comp Move
calling env receiver c = do
  object ← maybe_eval env c.object
  parameters ← bind_params env (parameters_of c.method.params) c.args []
  this ← maybe_needed c.place object
  gives (Calls c.place c.method this parameters receiver)
