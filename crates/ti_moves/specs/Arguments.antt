-- The arguments of calls.
use Rattle.ti_lang.specs.Program.Types.{VariableUse}
use Rattle.ti_lang.specs.Program.Expressions.{NumberedExp, place_of_numbered}
use Rattle.ti_lang.specs.Meaning.Held.{Held}
use Rattle.ti_lang.specs.Meaning.Comp.{Comp, ◌>>=◌, gives}
use Rattle.ti_lang.specs.Meaning.Conversions.{converted}
use Rattle.ti_lang.specs.Meaning.Processes.{Variable}
use Rattle.ti_lang.specs.Meaning.Scoping.{Env, declared_type}
use Rattle.ti_lang.specs.Meaning.Evaluation.{eval}

-- The value of an argument, converted to its parameter's type.
abbrev pub argument : Env → VariableUse → NumberedExp → Comp Held
argument env p x = do
  h ← eval env x
  converted (place_of_numbered x) (declared_type p.declared) h

-- A parameter with the value of its argument.
abbrev pub bound_argument : Env → VariableUse → NumberedExp → Comp Variable
bound_argument env p x = do
  h ← argument env p x
  gives (record { named = p; held = h })
