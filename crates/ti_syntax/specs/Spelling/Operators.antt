-- The operators, qualifiers and modifiers that tokens denote.
use Rattle.std.specs.Prelude.{ℕ, Option, Some, None}
use Rattle.ti_syntax.specs.declared.token.TokenKind.{TokenKind}
use Rattle.ti_syntax.specs.declared.token.TokenKind.TheVariants as k
use Rattle.ti_syntax.specs.declared.tree.exprs.UnaryOperator.{UnaryOperator}
use Rattle.ti_syntax.specs.declared.tree.exprs.UnaryOperator.TheVariants as unary
use Rattle.ti_syntax.specs.declared.tree.exprs.BinaryOperator.{BinaryOperator}
use Rattle.ti_syntax.specs.declared.tree.exprs.BinaryOperator.TheVariants as binary
use Rattle.ti_syntax.specs.declared.tree.stmts.StepOperator.{StepOperator}
use Rattle.ti_syntax.specs.declared.tree.stmts.StepOperator.TheVariants as step
use Rattle.ti_syntax.specs.declared.tree.types.QualifierWord.{QualifierWord}
use Rattle.ti_syntax.specs.declared.tree.types.QualifierWord.TheVariants as qualifier
use Rattle.ti_syntax.specs.declared.tree.classes.ModifierWord.{ModifierWord}
use Rattle.ti_syntax.specs.declared.tree.classes.ModifierWord.TheVariants as modifier

-- the unary operators
abbrev pub prefix_of : TokenKind → Option UnaryOperator
prefix_of k.Minus = Some unary.Minus
prefix_of k.Plus = Some unary.Plus
prefix_of k.Exclamation = Some unary.Not
prefix_of k.Tilde = Some unary.Complement
prefix_of _ = None

-- the binary operators
abbrev pub infix_of : TokenKind → Option BinaryOperator
infix_of k.OrOr = Some binary.OrElse
infix_of k.AndAnd = Some binary.AndThen
infix_of k.Bar = Some binary.Or
infix_of k.Caret = Some binary.Xor
infix_of k.Ampersand = Some binary.And
infix_of k.Equal = Some binary.Equal
infix_of k.NotEqual = Some binary.NotEqual
infix_of k.Less = Some binary.Less
infix_of k.LessEqual = Some binary.LessEqual
infix_of k.Greater = Some binary.Greater
infix_of k.GreaterEqual = Some binary.GreaterEqual
infix_of k.ShiftLeft = Some binary.ShiftLeft
infix_of k.ShiftRight = Some binary.ShiftRight
infix_of k.UnsignedShiftRight = Some binary.UnsignedShiftRight
infix_of k.Plus = Some binary.Add
infix_of k.Minus = Some binary.Subtract
infix_of k.Star = Some binary.Multiply
infix_of k.Slash = Some binary.Divide
infix_of k.Percent = Some binary.Remainder
infix_of _ = None

-- the precedence level of a binary operator, from 1 (loosest) to 10
abbrev pub strength : BinaryOperator → ℕ
strength binary.OrElse = 1
strength binary.AndThen = 2
strength binary.Or = 3
strength binary.Xor = 4
strength binary.And = 5
strength binary.Equal = 6
strength binary.NotEqual = 6
strength binary.Less = 7
strength binary.LessEqual = 7
strength binary.Greater = 7
strength binary.GreaterEqual = 7
strength binary.ShiftLeft = 8
strength binary.ShiftRight = 8
strength binary.UnsignedShiftRight = 8
strength binary.Add = 9
strength binary.Subtract = 9
strength binary.Multiply = 10
strength binary.Divide = 10
strength binary.Remainder = 10

-- the operator of the compound assignment `t op= e`
abbrev pub update_of : TokenKind → Option BinaryOperator
update_of k.PlusAssign = Some binary.Add
update_of k.MinusAssign = Some binary.Subtract
update_of k.StarAssign = Some binary.Multiply
update_of k.SlashAssign = Some binary.Divide
update_of k.PercentAssign = Some binary.Remainder
update_of k.AmpersandAssign = Some binary.And
update_of k.BarAssign = Some binary.Or
update_of k.CaretAssign = Some binary.Xor
update_of k.ShiftLeftAssign = Some binary.ShiftLeft
update_of k.ShiftRightAssign = Some binary.ShiftRight
update_of k.UnsignedShiftRightAssign = Some binary.UnsignedShiftRight
update_of _ = None

abbrev pub step_of : TokenKind → Option StepOperator
step_of k.PlusPlus = Some step.Increment
step_of k.MinusMinus = Some step.Decrement
step_of _ = None

abbrev pub qualifier_of : TokenKind → Option QualifierWord
qualifier_of k.KeywordSingle = Some qualifier.Single
qualifier_of k.KeywordLocal = Some qualifier.Local
qualifier_of _ = None

-- the modifiers of a member
abbrev pub modifier_of : TokenKind → Option ModifierWord
modifier_of k.KeywordPublic = Some modifier.Public
modifier_of k.KeywordPrivate = Some modifier.Private
modifier_of k.KeywordProtected = Some modifier.Protected
modifier_of k.KeywordStatic = Some modifier.Static
modifier_of k.KeywordFinal = Some modifier.Final
modifier_of k.KeywordSingle = Some modifier.Single
modifier_of _ = None

-- the modifiers of a class
abbrev pub class_modifier_of : TokenKind → Option ModifierWord
class_modifier_of k.KeywordPublic = Some modifier.Public
class_modifier_of k.KeywordFinal = Some modifier.Final
class_modifier_of _ = None
