-- Static types without checking: the declared type of a name, and what an operator or a member yields from the types of its operands.
-- Every expression has one, but it is meaningful only in a program that breaks no typing rule.
use Rattle.std.specs.Prelude.{◌≡◌, ℕ, ◌-◌, ◌+◌, false, Option, Some, option_map, option_and_then, unwrap_or, slice_get}
use Rattle.std.specs.Option.{option_map_or}
use Rattle.ti_syntax.specs.declared.tree.exprs.BinaryOperator.{BinaryOperator}
use Rattle.ti_syntax.specs.declared.tree.exprs.BinaryOperator.TheVariants as op
use Rattle.ti_lang.specs.Program.Types.{ValueType, Declaration, Typed, Foreach}
use Rattle.ti_lang.specs.Program.Types as t
use Rattle.ti_lang.specs.Program.Expressions.{NumberedExp, NumberedExps, NumberedRange, NumberedRanges}
use Rattle.ti_lang.specs.Program.Expressions as e
use Rattle.ti_lang.specs.Program.Classes.{ProgramView}
use Rattle.ti_lang.specs.Program.Scope.{ScopeContents}
use Rattle.ti_lang.specs.Typing.Kinds.{read_through, as_global, dim_of_type}
use Rattle.ti_lang.specs.Typing.BuiltIn.{BuiltIn, Size, Min, Max, Contains, Domain, Restrict, Translate, Slice, built_in}
use Rattle.ti_lang.specs.Typing.Declared.{declared_type, field_type, named_field_type, instance_method, result_type}
use Rattle.ti_lang.specs.Typing.Expressions.{range_count}

-- ---- names

-- the type of a variable: the declared one; a foreach variable is a point, of the number of dimensions that `dims` gives it
abbrev pub used_type : (ℕ → ℕ) → ℕ → Declaration → ValueType
used_type dims number (Typed is_single type) = type
used_type dims number Foreach = t.Pt (dims number)

-- ---- operators

-- the common type of two operands: an int with a long is a long, a rectangular domain with any domain is a domain
abbrev pub joined_type : ValueType → ValueType → ValueType
joined_type t.Int t.Long = t.Long
joined_type (t.Rc n) y = t.Dm n
joined_type x y = x

-- the type of a product: the intersection of two rectangular domains is rectangular
abbrev pub product_type : ValueType → ValueType → ValueType
product_type (t.Rc n) (t.Rc m) = t.Rc n
product_type x y = joined_type x y

-- the result type of an operator: of a shift, that of its left operand; of a comparison, boolean
abbrev pub operator_type : BinaryOperator → ValueType → ValueType → ValueType
operator_type op.Add x y = joined_type x y
operator_type op.Subtract x y = joined_type x y
operator_type op.Multiply x y = product_type x y
operator_type op.Divide x y = joined_type x y
operator_type op.Remainder x y = joined_type x y
operator_type op.And x y = joined_type x y
operator_type op.Or x y = joined_type x y
operator_type op.Xor x y = joined_type x y
operator_type op.ShiftLeft x y = x
operator_type op.ShiftRight x y = x
operator_type op.UnsignedShiftRight x y = x
operator_type o x y = t.Boolean

-- ---- parts and members

-- the type of the field of this name, read from an object; global if the reference is
abbrev pub static_field_type : ProgramView → ℕ → ValueType → ValueType
static_field_type program name (t.Class class is_local) = option_map_or (read_through is_local) (named_field_type program class name) t.Void
static_field_type program name type = t.Void

-- the type of an index expression: a coordinate of a point, or an element of a grid, global if the reference is
abbrev pub static_element_type : ValueType → ValueType
static_element_type (t.Pt n) = t.Int
static_element_type (t.Grid element n is_local) = read_through is_local element
static_element_type type = t.Void

-- the type of a slice of a grid, which has one dimension less
abbrev pub slice_type : ValueType → ValueType
slice_type (t.Grid element n is_local) = t.Grid element (n - 1) is_local
slice_type type = type

-- the type of a built-in member, from the type of its receiver
abbrev pub built_in_type : Option BuiltIn → ValueType → ValueType
built_in_type (Some Size) x = t.Int
built_in_type (Some Min) x = t.Pt (dim_of_type x)
built_in_type (Some Max) x = t.Pt (dim_of_type x)
built_in_type (Some Contains) x = t.Boolean
built_in_type (Some Domain) x = t.Rc (dim_of_type x)
built_in_type (Some Restrict) x = x
built_in_type (Some Translate) x = x
built_in_type (Some Slice) x = slice_type x
built_in_type _ x = t.Void

-- the type of `x.f(..)`: on an object of a method, on any other value of a built-in member
abbrev pub static_member_type : ProgramView → ℕ → ValueType → ValueType
static_member_type program name (t.Class class is_local) = option_map_or result_type (instance_method program class name) t.Void
static_member_type program name x = built_in_type (built_in program name) x

-- ---- expressions

-- the number of expressions
abbrev pub how_many : NumberedExps → ℕ
how_many e.NoExp = 0
how_many (e.MoreExp x xs) = how_many xs + 1

module _ (program : ProgramView) (this : Option ℕ) (dims : ℕ → ℕ) where
  abbrev mutual
    -- the type of an expression in a method with `this` of a class, or with none, given the dimensions of foreach variables
    pub type_at : NumberedExp → ValueType
    type_at (e.Int at n) = t.Int
    type_at (e.Long at n) = t.Long
    type_at (e.Truth at b) = t.Boolean
    type_at (e.Null at) = t.Null
    type_at (e.This at) = option_map_or (λ class. t.Class class false) this t.Void
    type_at (e.Variable at v) = used_type dims v.number v.declared
    type_at (e.OwnField at field) = unwrap_or (option_map as_global (option_and_then (λ class. field_type program class field) this)) t.Void
    type_at (e.Call at method args) = option_map_or result_type (slice_get program.methods method) t.Void
    type_at (e.OwnCall at method args) = option_map_or result_type (slice_get program.methods method) t.Void
    type_at (e.ThisProc at) = t.Int
    type_at (e.NumProcs at) = t.Int
    type_at (e.Point at parts) = t.Pt (how_many parts)
    type_at (e.Rect at ranges) = t.Rc (dims_of_ranges ranges)
    type_at (e.Unary at o x) = type_at x
    type_at (e.Binary at o x y) = operator_type o (type_at x) (type_at y)
    type_at (e.Cast at to x) = to.type
    type_at (e.Select at x name) = static_field_type program name (type_at x)
    type_at (e.Member at x name args) = static_member_type program name (type_at x)
    type_at (e.Index at x parts) = static_element_type (type_at x)

    -- the dimensions of a range: one for a range of numbers, those of the points for a range of points
    pub dims_of_range : NumberedRange → ℕ
    dims_of_range (e.Plain low high) = dim_of_type (type_at low)
    dims_of_range (e.Stepped low high step) = dim_of_type (type_at low)

    -- the dimensions of a literal with these ranges: a single range determines them; of several, which are of numbers, each counts one
    pub dims_of_ranges : NumberedRanges → ℕ
    dims_of_ranges (e.MoreRange r e.NoRange) = dims_of_range r
    dims_of_ranges rs = range_count rs

-- The static type of an expression independently of its scope. The dimensions of foreach variables aren't known here and are taken to
-- be 1: no class, field, element type or form of a node depends on them.
abbrev pub syntactic_type : ProgramView → Option ℕ → NumberedExp → ValueType
syntactic_type program this x = type_at program this (λ number. 1) x

-- if a foreach variable is in scope, `dims` gives its number of dimensions there
abbrev pub IsDimOf : ScopeContents → (ℕ → ℕ) → ℕ → Declaration → Type 0
IsDimOf s dims number (Typed is_single type) = Unit {0}
IsDimOf s dims number Foreach = (type : ValueType) → declared_type s number Foreach ≡ Some type → type ≡ t.Pt (dims number)

module _ (s : ScopeContents) (dims : ℕ → ℕ) where
  abbrev mutual
    -- for the foreach variables on which the type of an expression depends, `dims` gives their dimensions in the scope; it doesn't depend
    -- on those in arguments, indices, coordinates and casts
    pub AreDims : NumberedExp → Type 0
    AreDims (e.Variable at v) = IsDimOf s dims v.number v.declared
    AreDims (e.Rect at ranges) = AreRangesDims ranges
    AreDims (e.Unary at o x) = AreDims x
    AreDims (e.Binary at o x y) = AreDims x × AreDims y
    AreDims (e.Select at x name) = AreDims x
    AreDims (e.Member at x name args) = AreDims x
    AreDims (e.Index at x parts) = AreDims x
    AreDims x = Unit {0}

    -- `dims` is right for the lower bound of a range, which determines the dimensions of the range
    pub IsRangeDims : NumberedRange → Type 0
    IsRangeDims (e.Plain low high) = AreDims low
    IsRangeDims (e.Stepped low high step) = AreDims low

    pub AreRangesDims : NumberedRanges → Type 0
    AreRangesDims e.NoRange = Unit {0}
    AreRangesDims (e.MoreRange r rs) = IsRangeDims r × AreRangesDims rs
