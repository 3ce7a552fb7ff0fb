-- The views of the code's types and members as the data types of specifications.
use Rattle.std.specs.Prelude.{Bool, if◌then◌else◌}
use Rattle.ti_lang.specs.Program.Types.{ValueType}
use Rattle.ti_lang.specs.Program.Types as ty
use Rattle.ti_lang.specs.Program.Views.{value_type_of}
use Rattle.ti_lang.specs.Typing.Alike.{erase_dims}
use Rattle.ti_lang.specs.Typing.BuiltIn as member
use Rattle.ti_lang.specs.declared.typing.ty_ref.TyRef.{TyRef}
use Rattle.ti_lang.specs.declared.typing.ty_ref.TyRef.TheVariants as t
use Rattle.ti_lang.specs.declared.typing.members.BuiltIn.{BuiltIn}
use Rattle.ti_lang.specs.declared.typing.members.BuiltIn.TheVariants as b

-- a type, with its numbers of dimensions replaced by 1 if `any` holds
abbrev pub erase_dims_if : Bool → ValueType → ValueType
erase_dims_if any type = if any then erase_dims type else type

-- the type that a value of the code represents
abbrev pub ty_view : TyRef → ValueType
ty_view t.Int = ty.Int
ty_view t.Long = ty.Long
ty_view t.Bool = ty.Boolean
ty_view (t.Pt n) = ty.Pt n
ty_view (t.Rc n) = ty.Rc n
ty_view (t.Dm n) = ty.Dm n
ty_view t.Region = ty.Region
ty_view (t.Class class local) = ty.Class class local
ty_view (t.Grid elem any dim local) = ty.Grid (erase_dims_if any (value_type_of elem.now)) dim local
ty_view t.Null = ty.Null
ty_view t.Void = ty.Void

-- the built-in member that a value of the code represents
abbrev pub built_in_of : BuiltIn → member.BuiltIn
built_in_of b.Size = member.Size
built_in_of b.Min = member.Min
built_in_of b.Max = member.Max
built_in_of b.Contains = member.Contains
built_in_of b.Domain = member.Domain
built_in_of b.Restrict = member.Restrict
built_in_of b.Translate = member.Translate
built_in_of b.Slice = member.Slice
built_in_of b.Copy = member.Copy
built_in_of b.Exchange = member.Exchange
built_in_of b.Delete = member.Delete
