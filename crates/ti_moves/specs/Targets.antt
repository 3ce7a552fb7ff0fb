-- What contracts see of the targets of assignments in the code.
use Rattle.std.specs.Prelude.{List}
use Rattle.ti_base.specs.declared.place.Place.{Place}
use Rattle.ti_base.specs.declared.value.Id.{Id}
use Rattle.ti_base.specs.declared.action.Action.{Action}
use Rattle.ti_lang.specs.Program.Types.{ValueType, Void}
use Rattle.ti_lang.specs.Program.Expressions.{NumberedExp}
use Rattle.ti_lang.specs.Program.Expressions as e
use Rattle.ti_lang.specs.Program.Views.{variable_of}
use Rattle.ti_lang.specs.Meaning.Held.{Held}
use Rattle.ti_lang.specs.Meaning.Comp.{ToBeDone, request_through, Comp, ◌>>=◌, gives, asked, needed}
use Rattle.ti_lang.specs.Meaning.Processes.{Variable}
use Rattle.ti_lang.specs.Meaning.CellRefs.{Field, Element}
use Rattle.ti_lang.specs.Meaning.Scoping.{Env, type_of}
use Rattle.ti_lang.specs.Meaning.Targets as target
use Rattle.ti_moves.specs.declared.targets.Target.{Target}
use Rattle.ti_moves.specs.declared.targets.Target.TheVariants as t

-- A target whose reference has this static type.
abbrev pub target_of : ValueType → Target → target.Target
target_of through (t.Variable variable) = target.InVariable (variable_of variable.now)
target_of through (t.Field object field) = target.InPart (Field object through field)
target_of through (t.Element grid index) = target.InPart (Element grid through index)

-- The static type of the reference in an expression that is a target; `Void` if it has none.
abbrev pub through_of : Env → NumberedExp → ValueType
through_of env (e.OwnField at field) = type_of env (e.This at)
through_of env (e.Select at x name) = type_of env x
through_of env (e.Index at x parts) = type_of env x
through_of env x = Void

-- A write to a field or an element through a reference of this type, which leaves these variables in scope.
abbrev pub write_through : Place → ValueType → Held → (Id → Action) → List Variable → Comp (List Variable)
write_through at through h put ws = do
  r ← needed at through h
  done ← asked (request_through r at (put r.thing) ToBeDone)
  gives ws
