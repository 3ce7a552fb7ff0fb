-- The typing rules of operators.
use Rattle.std.specs.Prelude.{ℕ, Bool, true, ◌&&◌, ◌||◌, ◌==◌, Option, Some, None, option_map}
use Rattle.std.specs.Option.{option_or}
use Rattle.ti_syntax.specs.declared.tree.exprs.UnaryOperator.{UnaryOperator}
use Rattle.ti_syntax.specs.declared.tree.exprs.UnaryOperator.TheVariants as u
use Rattle.ti_syntax.specs.declared.tree.exprs.BinaryOperator.{BinaryOperator}
use Rattle.ti_syntax.specs.declared.tree.exprs.BinaryOperator.TheVariants as b
use Rattle.ti_lang.specs.Program.Types.{ValueType, Int, Long, Boolean, Pt, Rc, Dm, Region}
use Rattle.ti_lang.specs.Typing.Kinds.{where_true, same_type, is_whole, is_null, is_reference, as_global, domain_dim}

-- ---- common types of two operands

-- the type of two integers: `int` if both are, and otherwise `long`
abbrev pub wider : ValueType → ValueType → ValueType
wider Int Int = Int
wider _ _ = Long

-- the common type of two integers
abbrev pub whole_type : ValueType → ValueType → Option ValueType
whole_type t u = where_true (is_whole t && is_whole u) (wider t u)

-- the common type of two booleans
abbrev pub truth_type : ValueType → ValueType → Option ValueType
truth_type Boolean Boolean = Some Boolean
truth_type _ _ = None

-- the common type of two points of the same dimension
abbrev pub point_type : ValueType → ValueType → Option ValueType
point_type (Pt n) (Pt m) = where_true (n == m) (Pt n)
point_type _ _ = None

-- the common type of two rectangular domains of the same dimension
abbrev pub rect_type : ValueType → ValueType → Option ValueType
rect_type (Rc n) (Rc m) = where_true (n == m) (Rc n)
rect_type _ _ = None

-- the common dimension; None if they differ
abbrev pub same_dim : Option ℕ → Option ℕ → Option ℕ
same_dim (Some n) (Some m) = where_true (n == m) n
same_dim _ _ = None

-- the common type of two domains of the same dimension, rectangular or not
abbrev pub domain_type : ValueType → ValueType → Option ValueType
domain_type t u = option_map Dm (same_dim (domain_dim t) (domain_dim u))

-- two references of the same type up to `local`, or null
abbrev pub are_references : ValueType → ValueType → Bool
are_references t u =
    ((is_reference t || is_null t) && (is_reference u || is_null u)) && ((is_null t || is_null u) || same_type (as_global t) (as_global u))

-- ---- the table

-- classes of operators with the same typing rule
pub data Row : Type 0 where
  Sum : Row
  Product : Row
  Quotient : Row
  Shift : Row
  Bits : Row
  Logic : Row
  Order : Row
  Equality : Row

-- the row of an operator
abbrev pub row_of : BinaryOperator → Row
row_of b.Add = Sum
row_of b.Subtract = Sum
row_of b.Multiply = Product
row_of b.Divide = Quotient
row_of b.Remainder = Quotient
row_of b.ShiftLeft = Shift
row_of b.ShiftRight = Shift
row_of b.UnsignedShiftRight = Shift
row_of b.Or = Bits
row_of b.Xor = Bits
row_of b.And = Bits
row_of b.OrElse = Logic
row_of b.AndThen = Logic
row_of b.Less = Order
row_of b.LessEqual = Order
row_of b.Greater = Order
row_of b.GreaterEqual = Order
row_of b.Equal = Equality
row_of b.NotEqual = Equality

-- operands of these types can be compared for equality
abbrev pub are_comparable : ValueType → ValueType → Bool
are_comparable Boolean Boolean = true
are_comparable (Pt n) (Pt m) = n == m
are_comparable (Rc n) (Rc m) = n == m
are_comparable (Rc n) (Dm m) = n == m
are_comparable (Dm n) (Rc m) = n == m
are_comparable (Dm n) (Dm m) = n == m
are_comparable Region Region = true
are_comparable t u = (is_whole t && is_whole u) || are_references t u

-- operands of these types can be ordered
abbrev pub are_ordered : ValueType → ValueType → Bool
are_ordered (Pt n) (Pt m) = n == m
are_ordered t u = is_whole t && is_whole u

-- the result type of the operators of a row; None if they don't accept the operands
abbrev pub row_type : Row → ValueType → ValueType → Option ValueType
row_type Sum t u = option_or (whole_type t u) (option_or (point_type t u) (domain_type t u))
row_type Product t u = option_or (whole_type t u) (option_or (rect_type t u) (domain_type t u))
row_type Quotient t u = whole_type t u
row_type Shift t u = where_true (is_whole t && is_whole u) t
row_type Bits t u = option_or (whole_type t u) (truth_type t u)
row_type Logic t u = truth_type t u
row_type Order t u = where_true (are_ordered t u) Boolean
row_type Equality t u = where_true (are_comparable t u) Boolean

-- the result type of a binary operator; None if it doesn't accept the operands
abbrev pub binary_type : BinaryOperator → ValueType → ValueType → Option ValueType
binary_type op t u = row_type (row_of op) t u

-- the result type of a unary operator; None if it doesn't accept the operand
abbrev pub unary_type : UnaryOperator → ValueType → Option ValueType
unary_type u.Not Boolean = Some Boolean
unary_type u.Not _ = None
unary_type _ t = where_true (is_whole t) t
