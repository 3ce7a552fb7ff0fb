-- For proofs only: what the type checker's results for lists of operands mean, and which operands ranges have.
use Rattle.std.specs.Prelude.{◌≡◌, List, flat_map, Option, option_map}
use Rattle.ti_lang.specs.Program.Types.{ValueType}
use Rattle.ti_lang.specs.Program.Expressions.{NumberedExp, NumberedExps, NoExp, MoreExp, NumberedRange, Plain, Stepped, NumberedRanges, NoRange, MoreRange}
use Rattle.ti_lang.specs.Program.Classes.{ProgramView}
use Rattle.ti_lang.specs.declared.program.scope.Scope.{Scope}
use Rattle.ti_lang.specs.Program.Scope.{ScopeContents, contents_of}
use Rattle.ti_lang.specs.Program.Views.{program_of}
use Rattle.ti_lang.specs.Typing.Expressions.{operands}
use Rattle.ti_rules.specs.declared.refusal.Refusal.{Refusal}
use Rattle.ti_rules.specs.Mirrors.First.{earliest}
use Rattle.ti_rules.specs.Parts.{parts_of_all}
use Rattle.ti_rules.specs.Broken.Misplaced.{all_misplaced}
use Rattle.ti_rules.specs.Broken.Expressions.{places_of, refusals_at}
use Rattle.ti_types.specs.declared.exprs.TypeChecker.{TypeChecker}
use Rattle.ti_types.specs.declared.typed_expr.TypedExpr.{TypedExpr}
use Rattle.ti_types.specs.declared.operands.OperandsTyping.{OperandsTyping}
use Rattle.ti_types.specs.declared.operands.OperandTypes.{OperandTypes}
use Rattle.ti_types.specs.Results.{IsTypedExpr}
use Rattle.ti_types.specs.Mirrors.Arguments.{summary, summary_of}

-- the errors and the type summary of operands are right, with parameters of these types
abbrev pub AreOperandResults : ProgramView → ScopeContents → NumberedExps → List ValueType
    → Option Refusal → Option Refusal → Option OperandTypes
    → Type 0
AreOperandResults p s xs us inner placed types =
    (inner ≡ earliest (flat_map (refusals_at p s) (parts_of_all xs)))
    × (placed ≡ earliest (all_misplaced p s xs))
    × (option_map summary_of types ≡ option_map (summary (places_of xs) us) (operands p s xs))

-- the typing result of operands is right
abbrev pub AreTypedOperands : ProgramView → ScopeContents → NumberedExps → List ValueType → OperandsTyping
    → Type 0
AreTypedOperands p s xs us a = AreOperandResults p s xs us a.inner a.misplaced a.types

-- the same in a scope of the checked program, for an expression and for operands
abbrev pub IsTyped : TypeChecker → Scope → NumberedExp → TypedExpr → Type 0
IsTyped c s e j = IsTypedExpr (program_of c.program.now) (contents_of s) e j

abbrev pub AreTyped : TypeChecker → Scope → NumberedExps → List ValueType → OperandsTyping → Type 0
AreTyped c s xs us a = AreTypedOperands (program_of c.program.now) (contents_of s) xs us a

-- the bounds and the step of a range, and further operands
abbrev pub operands_before : NumberedRange → NumberedExps → NumberedExps
operands_before (Plain low high) rest = MoreExp low (MoreExp high rest)
operands_before (Stepped low high step) rest = MoreExp low (MoreExp high (MoreExp step rest))

-- the bounds and steps of ranges
abbrev pub operands_in : NumberedRanges → NumberedExps
operands_in NoRange = NoExp
operands_in (MoreRange r rest) = operands_before r (operands_in rest)
