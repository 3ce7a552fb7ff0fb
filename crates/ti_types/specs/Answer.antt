-- What `type_of` returns, as its public contract states it.
use Rattle.std.specs.Prelude.{◌≡◌, [], Contains, Some, Result, Ok, Err}
use Rattle.ti_lang.specs.declared.program.types.Ty.{Ty}
use Rattle.ti_lang.specs.Program.Expressions.{NumberedExp}
use Rattle.ti_lang.specs.Program.Classes.{ProgramView}
use Rattle.ti_lang.specs.Program.Scope.{ScopeContents}
use Rattle.ti_lang.specs.Program.Views.{value_type_of}
use Rattle.ti_lang.specs.Typing.Expressions.{expr_type}
use Rattle.ti_rules.specs.Refusals.{IsFirstRefusal}
use Rattle.ti_rules.specs.Broken.Expressions.{exp_refusals}
use Rattle.ti_types.specs.declared.error.TypeErr.{TypeErr}
use Rattle.ti_types.specs.declared.error.TypeErr.TheVariants.{Refused, Memory}

-- the type is that of an expression without type errors, the refusal is the first type error; out of memory is always possible
abbrev pub GivesType : ProgramView → ScopeContents → NumberedExp → Result Ty TypeErr → Type 0
GivesType p s e (Ok type) = (exp_refusals p s e ≡ []) × (expr_type p s e ≡ Some (value_type_of type))
GivesType p s e (Err (Refused refusal)) = IsFirstRefusal (Contains (exp_refusals p s e)) refusal
GivesType p s e (Err Memory) = Unit {0}
