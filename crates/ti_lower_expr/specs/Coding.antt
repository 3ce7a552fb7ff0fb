-- The code of expressions.
use Rattle.std.specs.Prelude.{ℕ, zero, suc, ◌+◌, Bool, true, false, List, [], ◌∷◌, ◌++◌, Option, Some, None}
use Rattle.ti_base.specs.declared.place.Place.{Place}
use Rattle.ti_base.specs.declared.value.Value.TheVariants as v
use Rattle.ti_syntax.specs.declared.tree.exprs.BinaryOperator.{BinaryOperator}
use Rattle.ti_syntax.specs.declared.tree.exprs.BinaryOperator.TheVariants as op
use Rattle.ti_syntax.specs.declared.tree.exprs.UnaryOperator.{UnaryOperator}
use Rattle.ti_syntax.specs.declared.tree.exprs.UnaryOperator.TheVariants as un
use Rattle.ti_lang.specs.Program.Types.{ValueType, VariableUse}
use Rattle.ti_lang.specs.Program.Types as t
use Rattle.ti_lang.specs.Program.Expressions.{NumberedExp, NumberedExps, NumberedRange, NumberedRanges}
use Rattle.ti_lang.specs.Program.Expressions as e
use Rattle.ti_lang.specs.Program.Classes.{ProgramView}
use Rattle.ti_lang.specs.Typing.Kinds.{is_local, is_point_type, class_of_type}
use Rattle.ti_lang.specs.Typing.Declared.{field_numbered}
use Rattle.ti_lang.specs.Typing.BuiltIn as b
use Rattle.ti_lang.specs.Typing.Called.{member_called}
use Rattle.ti_lang.specs.Typing.TextTypes.{syntactic_type, how_many}
use Rattle.ti_lang.specs.Meaning.Held.{Held, Plain, Dm}
use Rattle.ti_lang.specs.Meaning.Scoping.{zero_declared}
use Rattle.std.specs.Prelude.{unwrap_or, option_and_then}
use Rattle.ti_code.specs.declared.instr.Instr.{Instr}
use Rattle.ti_code.specs.declared.instr.Instr.TheVariants as i
use Rattle.ti_code.specs.declared.instr.Operation.{Operation}
use Rattle.ti_code.specs.declared.instr.Operation.TheVariants as o
use Rattle.ti_code.specs.declared.instr.OneOperand.TheVariants as one
use Rattle.ti_code.specs.declared.instr.ValueMember.{ValueMember}
use Rattle.ti_code.specs.declared.instr.ValueMember.TheVariants as kind
use Rattle.ti_code.specs.Leading.{pc_after}
use Rattle.ti_lower_expr.specs.declared.kinds.OperandClass.{OperandClass}
use Rattle.ti_lower_expr.specs.declared.kinds.OperandClass.TheVariants.{Numbers, Points, Rects, Domains}
use Rattle.ti_lower_expr.specs.declared.kinds.StaticRepr.{StaticRepr}
use Rattle.ti_lower_expr.specs.declared.kinds.StaticRepr.TheVariants as known
use Rattle.ti_lower_expr.specs.declared.kinds.ShortCircuit.{ShortCircuit}
use Rattle.ti_lower_expr.specs.declared.kinds.ShortCircuit.TheVariants.{Never, Where}
use Rattle.ti_lower_expr.specs.Knowing.{known_of}
use Rattle.ti_lower_expr.specs.Slots.{Name, find_slot, has_this}

-- Pushes a constant.
abbrev pub constant : Held → Instr
constant (Plain value) = i.Const value
constant (Dm dim points) = i.EmptyDom dim

-- Pushes the value of a variable: that of its slot, or the zero of its type if it has no slot.
abbrev pub load_variable : Option ℕ → VariableUse → Instr
load_variable (Some k) x = i.Load k
load_variable None x = constant (zero_declared x.declared)

-- Pushes `this`, which is in slot 0, if there is one.
abbrev pub load_this : Bool → Instr
load_this true = i.Load 0
load_this false = i.Const (v.Obj None)

-- Conversions to int, long, object and grid. A value that is known to have the type already needs no instruction.
abbrev pub into_int : StaticRepr → List Instr
into_int known.Int = []
into_int k = i.Narrow ∷ []

abbrev pub into_long : StaticRepr → List Instr
into_long known.Long = []
into_long k = i.Widen ∷ []

abbrev pub into_object : StaticRepr → List Instr
into_object known.Object = []
into_object k = i.AsObj ∷ []

abbrev pub into_grid : StaticRepr → List Instr
into_grid known.Grid = []
into_grid k = i.AsGrid ∷ []

-- Converts a value of which this is known to a type.
abbrev pub conversion : Place → ValueType → StaticRepr → List Instr
conversion at (t.Dm dim) k = i.ToDom at ∷ []
conversion at t.Long k = into_long k
conversion at t.Int k = into_int k
conversion at (t.Class class is_local) k = into_object k
conversion at (t.Grid element dim is_local) k = into_grid k
conversion at type k = []

-- Checks that a reference of local type is null or refers to an object or array of the process itself.
abbrev pub local_test : Place → Bool → List Instr
local_test at true = i.CastLocal at ∷ []
local_test at false = []

-- ---- names of operators

-- The kind of a type, as far as the names of operators depend on it.
abbrev pub kind_of_type : ValueType → OperandClass
kind_of_type (t.Pt dim) = Points
kind_of_type (t.Rc dim) = Rects
kind_of_type (t.Dm dim) = Domains
kind_of_type type = Numbers

-- The name of an operator for operands of these kinds.
abbrev pub operation : BinaryOperator → OperandClass → OperandClass → Operation
operation op.Add Numbers y = o.Add
operation op.Add Points y = o.PtAdd
operation op.Add x y = o.DomUnion
operation op.Subtract Numbers y = o.Sub
operation op.Subtract Points y = o.PtSub
operation op.Subtract x y = o.DomMinus
operation op.Multiply Rects Rects = o.RectMeet
operation op.Multiply Rects y = o.DomMeet
operation op.Multiply Domains y = o.DomMeet
operation op.Multiply x y = o.Mul
operation op.Divide x y = o.Div
operation op.Remainder x y = o.Rem
operation op.ShiftLeft x y = o.Shl
operation op.ShiftRight x y = o.Shr
operation op.UnsignedShiftRight x y = o.Ushr
operation op.And x y = o.And
operation op.Or x y = o.Or
operation op.Xor x y = o.Xor
operation op.Equal x y = o.Eq
operation op.NotEqual x y = o.Ne
operation op.Less x y = o.Lt
operation op.LessEqual x y = o.Le
operation op.Greater x y = o.Gt
operation op.GreaterEqual x y = o.Ge
operation op.AndThen x y = o.AndThen
operation op.OrElse x y = o.OrElse

-- A unary operator; `+` changes nothing.
abbrev pub unary_code : UnaryOperator → List Instr
unary_code un.Minus = i.Alone one.Neg ∷ []
unary_code un.Plus = []
unary_code un.Not = i.Alone one.Not ∷ []
unary_code un.Complement = i.Alone one.Com ∷ []

-- ---- short-circuit operators

-- The value of the left operand for which the right one isn't evaluated.
abbrev pub short_circuit_of : BinaryOperator → ShortCircuit
short_circuit_of op.OrElse = Where true
short_circuit_of op.AndThen = Where false
short_circuit_of other = Never

-- Jumps if the operand has this value.
abbrev pub jump_where : Bool → ℕ → Instr
jump_where true target = i.JumpIf target
jump_where false target = i.JumpIfNot target

-- A short-circuit operator after its left operand, given the code of its right operand from any position on. If the right operand isn't
-- evaluated, the result is pushed after it.
abbrev pub lazy_code : Bool → ℕ → (ℕ → List Instr) → List Instr
lazy_code left at right =
    jump_where left (pc_after (at + 1) (right (at + 1)) + 1) ∷ right (at + 1)
    ++ i.Jump (pc_after (at + 1) (right (at + 1)) + 1 + 1) ∷ i.Const (v.Bool left) ∷ []

abbrev pub operator_code : ShortCircuit → Operation → Place → ℕ → (ℕ → List Instr) → List Instr
operator_code Never name p at right = right at ++ i.Operate name p ∷ []
operator_code (Where left) name p at right = lazy_code left at right

-- ---- members

-- The member as an instruction knows it, if it has a value.
abbrev pub member_kind : b.BuiltIn → Option ValueMember
member_kind b.Size = Some kind.Size
member_kind b.Min = Some kind.Min
member_kind b.Max = Some kind.Max
member_kind b.Contains = Some kind.Contains
member_kind b.Domain = Some kind.DomainOf
member_kind b.Restrict = Some kind.Restrict
member_kind b.Translate = Some kind.Translate
member_kind b.Slice = Some kind.Slice
member_kind _ = None

-- Drops n operands.
abbrev pub pops : ℕ → List Instr
pops zero = []
pops (suc n) = i.Pop ∷ pops n

abbrev pub kind_code : Option ValueMember → ℕ → Place → List Instr
kind_code (Some k) n at = i.Member k n at ∷ []
kind_code None n at = pops (suc n) ++ i.Const (v.Bool false) ∷ []

abbrev pub shown_member : Option b.BuiltIn → Option ValueMember
shown_member (Some m) = member_kind m
shown_member None = None

abbrev pub member_code : Option b.BuiltIn → ℕ → Place → List Instr
member_code m n at = kind_code (shown_member m) n at

-- Indexing, after a point or a grid and its indices.
abbrev pub index_code : Bool → ℕ → Place → List Instr
index_code true n at = i.Coord n at ∷ []
index_code false n at = i.MakePt n ∷ i.GetElem at ∷ []

-- ---- ranges

-- Makes the rectangular domain of n ranges: of numbers, or of points, if there is one range of these.
abbrev pub rect_instr : OperandClass → ℕ → Place → Instr
rect_instr Points (suc zero) at = i.RectOfPts at
rect_instr kind n at = i.MakeRect n at

-- The low bound of a range.
abbrev pub low_bound : NumberedRange → NumberedExp
low_bound (e.Plain low high) = low
low_bound (e.Stepped low high step) = low

abbrev pub how_many_ranges : NumberedRanges → ℕ
how_many_ranges e.NoRange = 0
how_many_ranges (e.MoreRange r rs) = how_many_ranges rs + 1

-- ---- expressions

-- The kind of an expression's static type.
abbrev pub kind_in : ProgramView → Option ℕ → NumberedExp → OperandClass
kind_in program this x = kind_of_type (syntactic_type program this x)

-- The name of an operator for these operands.
abbrev pub operation_in : ProgramView → Option ℕ → BinaryOperator → NumberedExp → NumberedExp → Operation
operation_in program this op x y = operation op (kind_in program this x) (kind_in program this y)

abbrev pub kind_of_ranges : ProgramView → Option ℕ → NumberedRanges → OperandClass
kind_of_ranges program this e.NoRange = Numbers
kind_of_ranges program this (e.MoreRange r rs) = kind_in program this (low_bound r)

module _ (program : ProgramView) (this : Option ℕ) (names : List Name) where
  abbrev mutual
    -- The code of an expression from a position on.
    pub code_of : NumberedExp → ℕ → List Instr
    code_of (e.Int p n) at = i.Const (v.Int n) ∷ []
    code_of (e.Long p n) at = i.Const (v.Long n) ∷ []
    code_of (e.Truth p x) at = i.Const (v.Bool x) ∷ []
    code_of (e.Null p) at = i.Const (v.Obj None) ∷ []
    code_of (e.This p) at = load_this (has_this names) ∷ []
    code_of (e.Variable p x) at = load_variable (find_slot x names) x ∷ []
    code_of (e.OwnField p field) at = load_this (has_this names) ∷ i.GetField field p ∷ []
    code_of (e.ThisProc p) at = i.ThisProc ∷ []
    code_of (e.NumProcs p) at = i.NumProcs ∷ []
    code_of (e.Point p parts) at = code_of_all parts at ++ i.MakePt (how_many parts) ∷ []
    code_of (e.Rect p ranges) at =
        code_of_ranges ranges at ++ rect_instr (kind_of_ranges program this ranges) (how_many_ranges ranges) p ∷ []
    code_of (e.Unary p op x) at = code_of x at ++ unary_code op
    code_of (e.Binary p op x y) at =
        code_of x at ++ operator_code (short_circuit_of op) (operation_in program this op x y) p (pc_after at (code_of x at)) (code_of y)
    code_of (e.Cast p type x) at = code_of x at ++ (conversion p type.type (known_of program this x) ++ local_test p (is_local type.type))
    code_of (e.Select p x name) at =
        code_of x at ++ i.GetField (unwrap_or (option_and_then (field_numbered program name) (class_of_type (syntactic_type program this x)))
        0) p ∷ []
    code_of (e.Member p x name args) at =
        code_of x at ++ (code_of_all args (pc_after at (code_of x at)) ++ member_code (member_called program this x name) (how_many args) p)
    code_of (e.Index p x parts) at =
        code_of x at ++ (code_of_all parts (pc_after at (code_of x at))
        ++ index_code (is_point_type (syntactic_type program this x)) (how_many parts) p)
    code_of (e.Call p method args) at = i.Const (v.Bool false) ∷ []
    code_of (e.OwnCall p method args) at = i.Const (v.Bool false) ∷ []

    -- The code of expressions, in order.
    pub code_of_all : NumberedExps → ℕ → List Instr
    code_of_all e.NoExp at = []
    code_of_all (e.MoreExp x xs) at = code_of x at ++ code_of_all xs (pc_after at (code_of x at))

    -- The code of the bounds of a range and of its step.
    pub code_of_range : NumberedRange → ℕ → List Instr
    code_of_range (e.Plain low high) at = code_of low at ++ (code_of high (pc_after at (code_of low at)) ++ i.Step ∷ [])
    code_of_range (e.Stepped low high step) at =
        code_of low at ++ (code_of high (pc_after at (code_of low at))
        ++ code_of step (pc_after (pc_after at (code_of low at)) (code_of high (pc_after at (code_of low at)))))

    -- The code of ranges, in order.
    pub code_of_ranges : NumberedRanges → ℕ → List Instr
    code_of_ranges e.NoRange at = []
    code_of_ranges (e.MoreRange r rs) at = code_of_range r at ++ code_of_ranges rs (pc_after at (code_of_range r at))
