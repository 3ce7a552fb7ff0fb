-- The typing rules of expressions: an expression has a type if its operands do and the rule of its form accepts these.
use Rattle.std.specs.Prelude.{ℕ, ◌+◌, Bool, true, false, not, ◌&&◌, ◌==◌, if◌then◌else◌, List, [], ◌∷◌, ◌++◌, length, Option, Some, None, is_some, option_map, option_and_then, slice_get}
use Rattle.std.specs.List.{list_all}
use Rattle.ti_lang.specs.Members.{only_if}
use Rattle.ti_lang.specs.Program.Types.{ValueType, Int, Long, Boolean, Pt, Rc, Class, Grid, Null}
use Rattle.ti_lang.specs.Program.Expressions.{NumberedExp, NumberedExps, NumberedRange, NumberedRanges}
use Rattle.ti_lang.specs.Program.Expressions as x
use Rattle.ti_lang.specs.Program.Classes.{NumberedParams, MainArgs, Params, NumberedMethod, ProgramView}
use Rattle.ti_lang.specs.Program.Scope.{ScopeContents}
use Rattle.ti_lang.specs.Typing.Kinds.{where_true, same_type, is_void, as_global, read_through}
use Rattle.ti_lang.specs.Typing.Fits.{fits, casts}
use Rattle.ti_lang.specs.Typing.Operators.{unary_type, binary_type}
use Rattle.ti_lang.specs.Typing.BuiltIn.{BuiltIn, built_in, member_type}
use Rattle.ti_lang.specs.Typing.Declared.{variable_type, field_type, named_field_type, instance_method, result_type, types_of}

-- the result of typing an expression: its type, if it has one, and whether it is a call of a declared method whose operands all have
-- types
pub record ExprTyping : Type 0 where
  pub type : Option ValueType
  pub is_call : Bool

-- the result for anything but a call of a declared method
abbrev pub plain : Option ValueType → ExprTyping
plain type = record { type = type; is_call = false }

-- the type of an operand: it must not be a call of a declared method, and not void
abbrev pub operand : ExprTyping → Option ValueType
operand t = if t.is_call then None else only_if (λ u. not (is_void u)) t.type

-- ---- both, and all

-- the function of the contents of two options, if both have any
abbrev pub and_then_both : {A B C : Type 0} → Option A → Option B → (A → B → Option C) → Option C
and_then_both (Some a) (Some b) f = f a b
and_then_both (Some a) None f = None
and_then_both None b f = None

-- the concatenation of two lists, if both are there
abbrev pub append_both : {A : Type 0} → Option (List A) → Option (List A) → Option (List A)
append_both (Some xs) (Some ys) = Some (xs ++ ys)
append_both (Some xs) None = None
append_both None ys = None

-- a list of one element, if it is there
abbrev pub one : {A : Type 0} → Option A → Option (List A)
one None = None
one (Some a) = Some (a ∷ [])

-- ---- literals in brackets

-- the type is `int`
abbrev pub is_int : ValueType → Bool
is_int Int = true
is_int _ = false

-- all types are `int`
abbrev pub all_ints : List ValueType → Bool
all_ints ts = list_all is_int ts

-- a point literal has as many dimensions as coordinates, which must be ints
abbrev pub point_literal : List ValueType → Option ValueType
point_literal ts = where_true (all_ints ts) (Pt (length ts))

-- all types are points of this dimension
abbrev pub all_points : ℕ → List ValueType → Bool
all_points n ts = list_all (same_type (Pt n)) ts

-- the type of a literal with one range of points, from the types of its bounds and stride
abbrev pub range_of_points : List ValueType → Option ValueType
range_of_points (Pt n ∷ ts) = where_true (all_points n ts) (Rc n)
range_of_points _ = None

-- the type of a literal with this number of ranges, from the types of their bounds and strides: either integers, with one range for each
-- dimension, or a single range of points
abbrev pub rect_literal : ℕ → List ValueType → Option ValueType
rect_literal ranges ts =
    if all_ints ts then Some (Rc ranges) else
    if ranges == 1 then range_of_points ts else None

-- ---- indices

-- the type of `e[..]`: a coordinate of a point, or an element of a grid
abbrev pub index_type : ValueType → List ValueType → Option ValueType
index_type (Pt n) (Int ∷ []) = Some Int
index_type (Grid t n local) (Pt m ∷ []) = where_true (n == m) (read_through local t)
index_type (Grid t n local) ts = where_true (all_ints ts && (length ts == n)) (read_through local t)
index_type _ _ = None

-- ---- members

-- the type of `x.f`, from the type of `x`
abbrev pub select_type : ProgramView → ValueType → ℕ → Option ValueType
select_type p (Class c local) name = option_map (read_through local) (named_field_type p c name)
select_type p _ name = None

-- ---- calls

-- each argument fits its parameter
abbrev pub all_fit : List ValueType → List ValueType → Bool
all_fit (t ∷ ts) (u ∷ us) = fits t u && all_fit ts us
all_fit [] [] = true
all_fit _ _ = false

-- the parameters accept arguments of these types; `String[] x` accepts none
abbrev pub takes : NumberedParams → List ValueType → Bool
takes MainArgs ts = false
takes (Params params) ts = all_fit ts (types_of params)

-- the type of a call of a method with arguments of these types
abbrev pub call_type : Option NumberedMethod → List ValueType → Option ValueType
call_type None ts = None
call_type (Some m) ts = where_true (takes m.params ts) (result_type m)

-- the result for a call of a declared method, if all its operands have types
abbrev pub called : Option NumberedMethod → Option (List ValueType) → ExprTyping
called m None = record { type = None; is_call = false }
called m (Some ts) = record { type = call_type m ts; is_call = is_some m }

-- `x.f(..)`: on an object a call of an instance method, on any other value a built-in member
abbrev pub member_given : ProgramView → ValueType → ℕ → List ValueType → ExprTyping
member_given p (Class c local) name ts = called (instance_method p c name) (Some ts)
member_given p t name ts = plain (option_and_then (λ (b : BuiltIn). member_type b t ts) (built_in p name))

-- the result for `x.f(..)`, from the types of the receiver and the arguments, if they have any
abbrev pub member_typing : ProgramView → Option ValueType → ℕ → Option (List ValueType) → ExprTyping
member_typing p (Some t) name (Some ts) = member_given p t name ts
member_typing p (Some t) name None = plain None
member_typing p None name ts = plain None

-- ---- expressions

-- the number of ranges
abbrev pub range_count : NumberedRanges → ℕ
range_count x.NoRange = 0
range_count (x.MoreRange r rest) = 1 + range_count rest

abbrev mutual
  -- the result of typing an expression in a scope
  pub type_result : ProgramView → ScopeContents → NumberedExp → ExprTyping
  type_result p s (x.Int at n) = plain (Some Int)
  type_result p s (x.Long at n) = plain (Some Long)
  type_result p s (x.Truth at b) = plain (Some Boolean)
  type_result p s (x.Null at) = plain (Some Null)
  -- `this` is a global reference
  type_result p s (x.This at) = plain (option_map (λ c. Class c false) s.this_class)
  type_result p s (x.Variable at v) = plain (variable_type s v)
  type_result p s (x.OwnField at field) = plain (option_map as_global (option_and_then (λ c. field_type p c field) s.this_class))
  type_result p s (x.Call at method args) = called (slice_get p.methods method) (operands p s args)
  type_result p s (x.OwnCall at method args) = called (slice_get p.methods method) (operands p s args)
  type_result p s (x.ThisProc at) = plain (Some Int)
  type_result p s (x.NumProcs at) = plain (Some Int)
  type_result p s (x.Point at parts) = plain (option_and_then point_literal (operands p s parts))
  type_result p s (x.Rect at ranges) = plain (option_and_then (rect_literal (range_count ranges)) (bounds p s ranges))
  type_result p s (x.Unary at op a) = plain (option_and_then (unary_type op) (operand (type_result p s a)))
  type_result p s (x.Binary at op a b) = plain (and_then_both (operand (type_result p s a)) (operand (type_result p s b)) (binary_type op))
  type_result p s (x.Cast at to a) = plain (option_and_then (λ t. where_true (casts to.type t) to.type) (operand (type_result p s a)))
  type_result p s (x.Select at a name) = plain (option_and_then (λ t. select_type p t name) (operand (type_result p s a)))
  type_result p s (x.Member at a name args) = member_typing p (operand (type_result p s a)) name (operands p s args)
  type_result p s (x.Index at a parts) = plain (and_then_both (operand (type_result p s a)) (operands p s parts) index_type)

  -- the types of a list of operands, if all have one
  pub operands : ProgramView → ScopeContents → NumberedExps → Option (List ValueType)
  operands p s x.NoExp = Some []
  operands p s (x.MoreExp a rest) = append_both (one (operand (type_result p s a))) (operands p s rest)

  -- the types of the bounds and the stride of a range
  pub bound_types : ProgramView → ScopeContents → NumberedRange → Option (List ValueType)
  bound_types p s (x.Plain low high) = append_both (one (operand (type_result p s low))) (one (operand (type_result p s high)))
  bound_types p s (x.Stepped low high step) =
      append_both (append_both (one (operand (type_result p s low))) (one (operand (type_result p s high)))) (one (operand (type_result p s step)))

  -- the types of the bounds and strides of ranges
  pub bounds : ProgramView → ScopeContents → NumberedRanges → Option (List ValueType)
  bounds p s x.NoRange = Some []
  bounds p s (x.MoreRange r rest) = append_both (bound_types p s r) (bounds p s rest)

-- the type of an expression in a scope; None if a typing rule is broken in it
abbrev pub expr_type : ProgramView → ScopeContents → NumberedExp → Option ValueType
expr_type p s e = (type_result p s e).type

-- the type of an expression in a scope as an operand of another
abbrev pub operand_type : ProgramView → ScopeContents → NumberedExp → Option ValueType
operand_type p s e = operand (type_result p s e)
