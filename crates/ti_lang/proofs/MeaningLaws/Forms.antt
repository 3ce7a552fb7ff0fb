-- No form of an expression hangs on the dimensions of foreach variables.
use Rattle.std.proofs.Common.{◌≡◌, ℕ, Option, Some, None, refl, sym, ◌∙◌, ap}
use Rattle.ti_syntax.specs.declared.tree.exprs.BinaryOperator.{BinaryOperator}
use Rattle.ti_syntax.specs.declared.tree.exprs.BinaryOperator.TheVariants as op
use Rattle.ti_lang.specs.Program.Types.{ValueType, Declaration, Typed, Foreach}
use Rattle.ti_lang.specs.Program.Types as t
use Rattle.ti_lang.specs.Program.Expressions.{NumberedExp}
use Rattle.ti_lang.specs.Program.Expressions as e
use Rattle.ti_lang.specs.Program.Classes.{ProgramView}
use Rattle.ti_lang.specs.Typing.Kinds.{is_point_type, class_of_type}
use Rattle.ti_lang.specs.Typing.BuiltIn.{BuiltIn, Size, Min, Max, Contains, Domain, Restrict, Translate, Slice, Copy, Exchange, Delete, built_in}
use Rattle.ti_lang.specs.Typing.TextTypes.{used_type, joined_type, product_type, operator_type, static_field_type, static_element_type, slice_type, built_in_type, static_member_type, type_at}

-- the type without the dimensions of a point or a domain
abbrev flat : ValueType → ValueType
flat (t.Pt n) = t.Pt 0
flat (t.Rc n) = t.Rc 0
flat (t.Dm n) = t.Dm 0
flat type = type

flat_twice : (x : ValueType) → flat (flat x) ≡ flat x
flat_twice t.Int = refl
flat_twice t.Long = refl
flat_twice t.Boolean = refl
flat_twice (t.Pt n) = refl
flat_twice (t.Rc n) = refl
flat_twice (t.Dm n) = refl
flat_twice t.Region = refl
flat_twice (t.Class c is_local) = refl
flat_twice (t.Grid element n is_local) = refl
flat_twice t.Null = refl
flat_twice t.Void = refl

-- ---- operators

int_joined : (y : ValueType) → flat (joined_type t.Int y) ≡ flat (joined_type t.Int (flat y))
int_joined t.Int = refl
int_joined t.Long = refl
int_joined t.Boolean = refl
int_joined (t.Pt n) = refl
int_joined (t.Rc n) = refl
int_joined (t.Dm n) = refl
int_joined t.Region = refl
int_joined (t.Class c is_local) = refl
int_joined (t.Grid element n is_local) = refl
int_joined t.Null = refl
int_joined t.Void = refl

joined_flat : (x y : ValueType) → flat (joined_type x y) ≡ flat (joined_type (flat x) (flat y))
joined_flat t.Int y = int_joined y
joined_flat t.Long y = refl
joined_flat t.Boolean y = refl
joined_flat (t.Pt n) y = refl
joined_flat (t.Rc n) y = refl
joined_flat (t.Dm n) y = refl
joined_flat t.Region y = refl
joined_flat (t.Class c is_local) y = refl
joined_flat (t.Grid element n is_local) y = refl
joined_flat t.Null y = refl
joined_flat t.Void y = refl

rect_product : (k : ℕ) (y : ValueType) → flat (product_type (t.Rc k) y) ≡ flat (product_type (t.Rc 0) (flat y))
rect_product k t.Int = refl
rect_product k t.Long = refl
rect_product k t.Boolean = refl
rect_product k (t.Pt n) = refl
rect_product k (t.Rc n) = refl
rect_product k (t.Dm n) = refl
rect_product k t.Region = refl
rect_product k (t.Class c is_local) = refl
rect_product k (t.Grid element n is_local) = refl
rect_product k t.Null = refl
rect_product k t.Void = refl

product_flat : (x y : ValueType) → flat (product_type x y) ≡ flat (product_type (flat x) (flat y))
product_flat t.Int y = int_joined y
product_flat t.Long y = refl
product_flat t.Boolean y = refl
product_flat (t.Pt n) y = refl
product_flat (t.Rc n) y = rect_product n y
product_flat (t.Dm n) y = refl
product_flat t.Region y = refl
product_flat (t.Class c is_local) y = refl
product_flat (t.Grid element n is_local) y = refl
product_flat t.Null y = refl
product_flat t.Void y = refl

operator_flat : (o : BinaryOperator) (x y : ValueType) → flat (operator_type o x y) ≡ flat (operator_type o (flat x) (flat y))
operator_flat op.OrElse x y = refl
operator_flat op.AndThen x y = refl
operator_flat op.Or x y = joined_flat x y
operator_flat op.Xor x y = joined_flat x y
operator_flat op.And x y = joined_flat x y
operator_flat op.Equal x y = refl
operator_flat op.NotEqual x y = refl
operator_flat op.Less x y = refl
operator_flat op.LessEqual x y = refl
operator_flat op.Greater x y = refl
operator_flat op.GreaterEqual x y = refl
operator_flat op.ShiftLeft x y = sym (flat_twice x)
operator_flat op.ShiftRight x y = sym (flat_twice x)
operator_flat op.UnsignedShiftRight x y = sym (flat_twice x)
operator_flat op.Add x y = joined_flat x y
operator_flat op.Subtract x y = joined_flat x y
operator_flat op.Multiply x y = product_flat x y
operator_flat op.Divide x y = joined_flat x y
operator_flat op.Remainder x y = joined_flat x y

-- ---- parts and members

field_flat : (p : ProgramView) (name : ℕ) (x : ValueType) → static_field_type p name x ≡ static_field_type p name (flat x)
field_flat p name t.Int = refl
field_flat p name t.Long = refl
field_flat p name t.Boolean = refl
field_flat p name (t.Pt n) = refl
field_flat p name (t.Rc n) = refl
field_flat p name (t.Dm n) = refl
field_flat p name t.Region = refl
field_flat p name (t.Class c is_local) = refl
field_flat p name (t.Grid element n is_local) = refl
field_flat p name t.Null = refl
field_flat p name t.Void = refl

element_flat : (x : ValueType) → static_element_type x ≡ static_element_type (flat x)
element_flat t.Int = refl
element_flat t.Long = refl
element_flat t.Boolean = refl
element_flat (t.Pt n) = refl
element_flat (t.Rc n) = refl
element_flat (t.Dm n) = refl
element_flat t.Region = refl
element_flat (t.Class c is_local) = refl
element_flat (t.Grid element n is_local) = refl
element_flat t.Null = refl
element_flat t.Void = refl

sliced_flat : (x : ValueType) → flat (slice_type x) ≡ flat (slice_type (flat x))
sliced_flat t.Int = refl
sliced_flat t.Long = refl
sliced_flat t.Boolean = refl
sliced_flat (t.Pt n) = refl
sliced_flat (t.Rc n) = refl
sliced_flat (t.Dm n) = refl
sliced_flat t.Region = refl
sliced_flat (t.Class c is_local) = refl
sliced_flat (t.Grid element n is_local) = refl
sliced_flat t.Null = refl
sliced_flat t.Void = refl

built_in_flat : (o : Option BuiltIn) (x : ValueType) → flat (built_in_type o x) ≡ flat (built_in_type o (flat x))
built_in_flat (Some Size) x = refl
built_in_flat (Some Min) x = refl
built_in_flat (Some Max) x = refl
built_in_flat (Some Contains) x = refl
built_in_flat (Some Domain) x = refl
built_in_flat (Some Restrict) x = sym (flat_twice x)
built_in_flat (Some Translate) x = sym (flat_twice x)
built_in_flat (Some Slice) x = sliced_flat x
built_in_flat (Some Copy) x = refl
built_in_flat (Some Exchange) x = refl
built_in_flat (Some Delete) x = refl
built_in_flat None x = refl

member_flat : (p : ProgramView) (name : ℕ) (x : ValueType) → flat (static_member_type p name x) ≡ flat (static_member_type p name (flat x))
member_flat p name t.Int = built_in_flat (built_in p name) t.Int
member_flat p name t.Long = built_in_flat (built_in p name) t.Long
member_flat p name t.Boolean = built_in_flat (built_in p name) t.Boolean
member_flat p name (t.Pt n) = built_in_flat (built_in p name) (t.Pt n)
member_flat p name (t.Rc n) = built_in_flat (built_in p name) (t.Rc n)
member_flat p name (t.Dm n) = built_in_flat (built_in p name) (t.Dm n)
member_flat p name t.Region = built_in_flat (built_in p name) t.Region
member_flat p name (t.Class c is_local) = refl
member_flat p name (t.Grid element n is_local) = built_in_flat (built_in p name) (t.Grid element n is_local)
member_flat p name t.Null = built_in_flat (built_in p name) t.Null
member_flat p name t.Void = built_in_flat (built_in p name) t.Void

used_flat : (dims other : ℕ → ℕ) (number : ℕ) (d : Declaration) → flat (used_type dims number d) ≡ flat (used_type other number d)
used_flat dims other number (Typed is_single type) = refl
used_flat dims other number Foreach = refl

-- ---- expressions

module _ (p : ProgramView) (this : Option ℕ) (dims other : ℕ → ℕ) where
  type_flat : (x : NumberedExp) → flat (type_at p this dims x) ≡ flat (type_at p this other x)
  type_flat (e.Int at n) = refl
  type_flat (e.Long at n) = refl
  type_flat (e.Truth at b) = refl
  type_flat (e.Null at) = refl
  type_flat (e.This at) = refl
  type_flat (e.Variable at v) = used_flat dims other v.number v.declared
  type_flat (e.OwnField at field) = refl
  type_flat (e.Call at method args) = refl
  type_flat (e.OwnCall at method args) = refl
  type_flat (e.ThisProc at) = refl
  type_flat (e.NumProcs at) = refl
  type_flat (e.Point at parts) = refl
  type_flat (e.Rect at ranges) = refl
  type_flat (e.Unary at o x) = type_flat x
  type_flat (e.Binary at o x y) =
      operator_flat o (type_at p this dims x) (type_at p this dims y)
      ∙ ap (λ a. flat (operator_type o a (flat (type_at p this dims y)))) (type_flat x)
      ∙ ap (λ b. flat (operator_type o (flat (type_at p this other x)) b)) (type_flat y)
      ∙ sym (operator_flat o (type_at p this other x) (type_at p this other y))
  type_flat (e.Cast at to x) = refl
  type_flat (e.Select at x name) =
      ap flat (field_flat p name (type_at p this dims x) ∙ ap (static_field_type p name) (type_flat x) ∙ sym (field_flat p name (type_at p this other x)))
  type_flat (e.Member at x name args) =
      member_flat p name (type_at p this dims x) ∙ ap (λ a. flat (static_member_type p name a)) (type_flat x) ∙ sym (member_flat p name (type_at p this other x))
  type_flat (e.Index at x parts) =
      ap flat (element_flat (type_at p this dims x) ∙ ap static_element_type (type_flat x) ∙ sym (element_flat (type_at p this other x)))

-- ---- forms

point_flat : (x : ValueType) → is_point_type x ≡ is_point_type (flat x)
point_flat t.Int = refl
point_flat t.Long = refl
point_flat t.Boolean = refl
point_flat (t.Pt n) = refl
point_flat (t.Rc n) = refl
point_flat (t.Dm n) = refl
point_flat t.Region = refl
point_flat (t.Class c is_local) = refl
point_flat (t.Grid element n is_local) = refl
point_flat t.Null = refl
point_flat t.Void = refl

class_flat : (x : ValueType) → class_of_type x ≡ class_of_type (flat x)
class_flat t.Int = refl
class_flat t.Long = refl
class_flat t.Boolean = refl
class_flat (t.Pt n) = refl
class_flat (t.Rc n) = refl
class_flat (t.Dm n) = refl
class_flat t.Region = refl
class_flat (t.Class c is_local) = refl
class_flat (t.Grid element n is_local) = refl
class_flat t.Null = refl
class_flat t.Void = refl

pub point_told : (p : ProgramView) (this : Option ℕ) (dims other : ℕ → ℕ) (x : NumberedExp) → is_point_type (type_at p this dims x) ≡ is_point_type (type_at p this other x)
point_told p this dims other x = point_flat (type_at p this dims x) ∙ ap is_point_type (type_flat p this dims other x) ∙ sym (point_flat (type_at p this other x))

pub class_told : (p : ProgramView) (this : Option ℕ) (dims other : ℕ → ℕ) (x : NumberedExp) → class_of_type (type_at p this dims x) ≡ class_of_type (type_at p this other x)
class_told p this dims other x = class_flat (type_at p this dims x) ∙ ap class_of_type (type_flat p this dims other x) ∙ sym (class_flat (type_at p this other x))

pub element_told : (p : ProgramView) (this : Option ℕ) (dims other : ℕ → ℕ) (x : NumberedExp) → static_element_type (type_at p this dims x) ≡ static_element_type (type_at p this other x)
element_told p this dims other x = element_flat (type_at p this dims x) ∙ ap static_element_type (type_flat p this dims other x) ∙ sym (element_flat (type_at p this other x))
