-- What is statically known of a value, whatever the process holds: if it makes a conversion idle, that needs no instruction.
use Rattle.std.specs.Prelude.{◌≡◌, ℕ, Bool, true, false, Option, Some}
use Rattle.ti_syntax.specs.declared.tree.exprs.BinaryOperator.{BinaryOperator}
use Rattle.ti_syntax.specs.declared.tree.exprs.BinaryOperator.TheVariants as op
use Rattle.ti_syntax.specs.declared.tree.exprs.UnaryOperator.{UnaryOperator}
use Rattle.ti_syntax.specs.declared.tree.exprs.UnaryOperator.TheVariants as un
use Rattle.ti_lang.specs.Program.Types.{ValueType, Declaration, Typed, Foreach}
use Rattle.ti_lang.specs.Program.Types as t
use Rattle.ti_lang.specs.Program.Expressions.{NumberedExp}
use Rattle.ti_lang.specs.Program.Expressions as e
use Rattle.ti_lang.specs.Program.Classes.{ProgramView}
use Rattle.ti_lang.specs.Typing.Kinds.{is_point_type}
use Rattle.ti_lang.specs.Typing.BuiltIn as b
use Rattle.ti_lang.specs.Typing.Called.{member_called}
use Rattle.ti_lang.specs.Typing.TextTypes.{syntactic_type}
use Rattle.ti_lang.specs.Meaning.Held.{Held, Plain, referent_of, as_type}
use Rattle.ti_base.specs.declared.value.Value.TheVariants as v
use Rattle.ti_lower_expr.specs.declared.kinds.StaticRepr.{StaticRepr}
use Rattle.ti_lower_expr.specs.declared.kinds.StaticRepr.TheVariants as known

-- What holds of a value of which this is known: converting it to int, to long, to an object or to a grid doesn't change it. So what is
-- known to be an int is no long, whatever else it is.
abbrev pub HasRepr : StaticRepr → Held → Type 0
HasRepr known.Int h = as_type t.Int h ≡ h
HasRepr known.Long h = as_type t.Long h ≡ h
HasRepr known.Object h = Plain (v.Obj (referent_of h)) ≡ h
HasRepr known.Grid h = Plain (v.Grid (referent_of h)) ≡ h
HasRepr known.Other h = Unit {0}

-- What is known of each value that has been converted to a type.
abbrev pub known_of_type : ValueType → StaticRepr
known_of_type t.Int = known.Int
known_of_type t.Long = known.Long
known_of_type (t.Class class is_local) = known.Object
known_of_type (t.Grid element dim is_local) = known.Grid
known_of_type type = known.Other

-- What is known of each value of a variable with this declaration.
abbrev pub known_declared : Declaration → StaticRepr
known_declared (Typed is_single type) = known_of_type type
known_declared Foreach = known.Other

-- The result of an operator that yields a long if an operand is one.
abbrev pub joined_known : StaticRepr → StaticRepr → StaticRepr
joined_known known.Long y = known.Long
joined_known x known.Long = known.Long
joined_known known.Int known.Int = known.Int
joined_known x y = known.Other

-- The result of an operator that yields no long unless the operand is one. Nothing is known for a long operand.
abbrev pub narrow_known : StaticRepr → StaticRepr
narrow_known known.Int = known.Int
narrow_known x = known.Other

-- What is known of the result of a binary operator.
abbrev pub operated_known : BinaryOperator → StaticRepr → StaticRepr → StaticRepr
operated_known op.Add x y = joined_known x y
operated_known op.Subtract x y = joined_known x y
operated_known op.Multiply x y = joined_known x y
operated_known op.Divide x y = joined_known x y
operated_known op.Remainder x y = joined_known x y
operated_known op.And x y = joined_known x y
operated_known op.Or x y = joined_known x y
operated_known op.Xor x y = joined_known x y
operated_known op.ShiftLeft x y = narrow_known x
operated_known op.ShiftRight x y = narrow_known x
operated_known op.UnsignedShiftRight x y = narrow_known x
operated_known o x y = known.Other

abbrev pub unary_known : UnaryOperator → StaticRepr → StaticRepr
unary_known un.Minus x = narrow_known x
unary_known un.Complement x = narrow_known x
unary_known un.Plus x = x
unary_known un.Not x = known.Other

-- `size` yields an int.
abbrev pub member_known : Option b.BuiltIn → StaticRepr
member_known (Some b.Size) = known.Int
member_known m = known.Other

-- A coordinate of a point is an int; nothing is known of an element of a grid.
abbrev pub index_known : Bool → StaticRepr
index_known true = known.Int
index_known false = known.Other

module _ (program : ProgramView) (this : Option ℕ) where
  -- What is known of the value of an expression.
  abbrev pub known_of : NumberedExp → StaticRepr
  known_of (e.Int p n) = known.Int
  known_of (e.Long p n) = known.Long
  known_of (e.Null p) = known.Object
  known_of (e.This p) = known.Object
  known_of (e.Variable p x) = known_declared x.declared
  known_of (e.ThisProc p) = known.Int
  known_of (e.NumProcs p) = known.Int
  known_of (e.Unary p op x) = unary_known op (known_of x)
  known_of (e.Binary p op x y) = operated_known op (known_of x) (known_of y)
  known_of (e.Cast p type x) = known_of_type type.type
  known_of (e.Member p x name args) = member_known (member_called program this x name)
  known_of (e.Index p x parts) = index_known (is_point_type (syntactic_type program this x))
  known_of other = known.Other
