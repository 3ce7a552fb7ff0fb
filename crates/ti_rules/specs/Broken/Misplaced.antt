-- Calls where none is allowed, and void values.
use Rattle.std.specs.Prelude.{Bool, false, ◌||◌, List, [], ◌++◌, Option}
use Rattle.std.specs.Option.{option_map_or}
use Rattle.ti_base.specs.declared.place.Place.{Place}
use Rattle.ti_lang.specs.Program.Types.{ValueType}
use Rattle.ti_lang.specs.Program.Expressions.{NumberedExp, NumberedExps, NumberedRange, NumberedRanges, place_of_numbered}
use Rattle.ti_lang.specs.Program.Expressions as x
use Rattle.ti_lang.specs.Program.Classes.{ProgramView}
use Rattle.ti_lang.specs.Program.Scope.{ScopeContents}
use Rattle.ti_lang.specs.Typing.Kinds.{is_void}
use Rattle.ti_lang.specs.Typing.Expressions.{ExprTyping, type_result}
use Rattle.ti_rules.specs.declared.rule.Rule.TheVariants.{Y6}
use Rattle.ti_rules.specs.declared.refusal.Refusal.{Refusal}
use Rattle.ti_rules.specs.Refusals.{refused_if}

-- the type, if any, is that of a call without a result
abbrev pub gives_nothing : Option ValueType → Bool
gives_nothing t = option_map_or is_void t false

-- the error of an operand with this typing: it must not be a call of a declared method, and not void
abbrev pub misplaced_at : Place → ExprTyping → List Refusal
misplaced_at at t = refused_if (t.is_call || gives_nothing t.type) Y6 at

-- the error of an expression as an operand
abbrev pub misplaced : ProgramView → ScopeContents → NumberedExp → List Refusal
misplaced p s e = misplaced_at (place_of_numbered e) (type_result p s e)

-- the errors of a list of expressions as operands
abbrev pub all_misplaced : ProgramView → ScopeContents → NumberedExps → List Refusal
all_misplaced p s x.NoExp = []
all_misplaced p s (x.MoreExp e rest) = misplaced p s e ++ all_misplaced p s rest

-- the errors of the bounds and the stride of a range as operands
abbrev pub bound_misplaced : ProgramView → ScopeContents → NumberedRange → List Refusal
bound_misplaced p s (x.Plain low high) = misplaced p s low ++ misplaced p s high
bound_misplaced p s (x.Stepped low high step) = (misplaced p s low ++ misplaced p s high) ++ misplaced p s step

-- the errors of the bounds and strides of ranges as operands
abbrev pub bounds_misplaced : ProgramView → ScopeContents → NumberedRanges → List Refusal
bounds_misplaced p s x.NoRange = []
bounds_misplaced p s (x.MoreRange r rest) = bound_misplaced p s r ++ bounds_misplaced p s rest
