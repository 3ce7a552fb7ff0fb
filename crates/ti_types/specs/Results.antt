-- The typing result of an expression, of a target, and of ranges as in a domain literal.
use Rattle.std.specs.Prelude.{◌≡◌, ℕ, Bool, List, map, Option, None, is_some}
use Rattle.std.specs.Option.{option_map}
use Rattle.ti_lang.specs.Program.Types.{ValueType}
use Rattle.ti_lang.specs.Program.Expressions.{NumberedExp}
use Rattle.ti_lang.specs.Program.Expressions as x
use Rattle.ti_lang.specs.Program.Classes.{ProgramView}
use Rattle.ti_lang.specs.Program.Scope.{ScopeContents}
use Rattle.ti_lang.specs.Typing.Alike.{erase_dims}
use Rattle.ti_lang.specs.Typing.Expressions.{ExprTyping, type_result, operand_type, rect_literal}
use Rattle.ti_lang.specs.Typing.TyRef.{ty_view}
use Rattle.ti_rules.specs.Mirrors.First.{earliest}
use Rattle.ti_rules.specs.Broken.Expressions.{exp_refusals}
use Rattle.ti_types.specs.declared.typed_expr.TypedExpr.{TypedExpr}
use Rattle.ti_types.specs.declared.rects.Literal.{Literal}

-- ---- expressions

-- the model of a typing result: the type, and whether it is a call of a declared method all of whose operands have types
abbrev pub typed_of : TypedExpr → ExprTyping
typed_of j = record { type = option_map ty_view j.ty; is_call = j.is_call }

-- the typing result of an expression is right: its type, and its first type error
abbrev pub IsTypedExpr : ProgramView → ScopeContents → NumberedExp → TypedExpr → Type 0
IsTypedExpr p s e j = (typed_of j ≡ type_result p s e) × (j.first ≡ earliest (exp_refusals p s e))

-- the type of the receiver of a field of an object or of an element; None if there is no receiver, or if it has no type
abbrev pub receiver_type : ProgramView → ScopeContents → NumberedExp → Option ValueType
receiver_type p s (x.Select at a name) = operand_type p s a
receiver_type p s (x.Index at a parts) = operand_type p s a
receiver_type p s e = None

-- ---- ranges

-- what the typing rules need of a domain literal: its type, if its bounds and steps are accepted, and whether they would be with
-- dimensions ignored
pub record LiteralTypes : Type 0 where
  pub type : Option ValueType
  pub fits_other_dims : Bool

-- the literal with `count` ranges whose bounds and steps have these types
abbrev pub literal : ℕ → List ValueType → LiteralTypes
literal count ts = record { type = rect_literal count ts; fits_other_dims = is_some (rect_literal count (map erase_dims ts)) }

-- the model of a literal's type
abbrev pub literal_of : Literal → LiteralTypes
literal_of l = record { type = option_map ty_view l.ty; fits_other_dims = l.fits_other_dims }
