-- Kinds of types, and equality of types.
use Rattle.std.specs.Prelude.{ℕ, Bool, true, false, not, ◌&&◌, ◌==◌, if◌then◌else◌, Option, Some, None}
use Rattle.ti_lang.specs.Program.Types.{ValueType, Int, Long, Boolean, Pt, Rc, Dm, Region, Class, Grid, Null, Void}

-- the value, if the test holds
abbrev pub where_true : {A : Type 0} → Bool → A → Option A
where_true test a = if test then Some a else None

-- both or neither
abbrev pub same_truth : Bool → Bool → Bool
same_truth a b = if a then b else not b

-- equality of types, including `local` and dimensions
abbrev pub same_type : ValueType → ValueType → Bool
same_type Int Int = true
same_type Long Long = true
same_type Boolean Boolean = true
same_type (Pt n) (Pt m) = n == m
same_type (Rc n) (Rc m) = n == m
same_type (Dm n) (Dm m) = n == m
same_type Region Region = true
same_type (Class c local) (Class d global) = (c == d) && same_truth local global
same_type (Grid t n local) (Grid u m global) = (same_type t u && (n == m)) && same_truth local global
same_type Null Null = true
same_type Void Void = true
same_type _ _ = false

-- `int` or `long`
abbrev pub is_whole : ValueType → Bool
is_whole Int = true
is_whole Long = true
is_whole _ = false

-- the type of `null`
abbrev pub is_null : ValueType → Bool
is_null Null = true
is_null _ = false

-- the type of a call without a result
abbrev pub is_void : ValueType → Bool
is_void Void = true
is_void _ = false

-- a class or a grid
abbrev pub is_reference : ValueType → Bool
is_reference (Class c local) = true
is_reference (Grid t n local) = true
is_reference _ = false

-- a local reference
abbrev pub is_local : ValueType → Bool
is_local (Class c local) = local
is_local (Grid t n local) = local
is_local _ = false

-- an object of a class
abbrev pub is_object : ValueType → Bool
is_object (Class c local) = true
is_object _ = false

-- a point
abbrev pub is_point_type : ValueType → Bool
is_point_type (Pt n) = true
is_point_type _ = false

-- the class of an object
abbrev pub class_of_type : ValueType → Option ℕ
class_of_type (Class c local) = Some c
class_of_type _ = None

-- the declared element type of a grid; `Void` for other types
abbrev pub element_of : ValueType → ValueType
element_of (Grid t n local) = t
element_of _ = Void

-- the number of dimensions of a type; 1 if it has none
abbrev pub dim_of_type : ValueType → ℕ
dim_of_type (Pt n) = n
dim_of_type (Rc n) = n
dim_of_type (Dm n) = n
dim_of_type (Grid t n local) = n
dim_of_type _ = 1

-- the type with the reference itself made global
abbrev pub as_global : ValueType → ValueType
as_global (Class c local) = Class c false
as_global (Grid t n local) = Grid t n false
as_global t = t

-- the type of a field or an element of this type, read through a reference: through a global one, it is global
abbrev pub read_through : Bool → ValueType → ValueType
read_through local t = if local then t else as_global t

-- the dimension of a domain; None for other types
abbrev pub domain_dim : ValueType → Option ℕ
domain_dim (Rc n) = Some n
domain_dim (Dm n) = Some n
domain_dim _ = None
