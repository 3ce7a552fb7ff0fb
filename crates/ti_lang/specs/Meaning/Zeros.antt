-- The initial values of fields and elements.
use Rattle.std.specs.Prelude.{ℕ, List, map, slice_get, Option}
use Rattle.std.specs.Option.{option_map}
use Rattle.ti_base.specs.declared.value.Zero.{Zero}
use Rattle.ti_base.specs.declared.value.Zero.TheVariants as z
use Rattle.ti_lang.specs.Program.Types.{ValueType}
use Rattle.ti_lang.specs.Program.Types as type
use Rattle.ti_lang.specs.Program.Classes.{NumberedField, NumberedClass, ProgramView}

-- the zero of a field or an element of a type; fields and elements have no type but these and class types
abbrev pub zero_of_type : ValueType → Zero
zero_of_type type.Int = z.Int
zero_of_type type.Long = z.Long
zero_of_type type.Boolean = z.Bool
zero_of_type (type.Pt dim) = z.Pt dim
zero_of_type (type.Rc dim) = z.Rc dim
zero_of_type (type.Grid element dim is_local) = z.Grid
zero_of_type other = z.Obj

-- the zeros of the fields of a class, in order; None if there is no such class
abbrev pub zeros_of_class : ProgramView → ℕ → Option (List Zero)
zeros_of_class program class =
    option_map (λ (c : NumberedClass). map (λ (f : NumberedField). zero_of_type f.ty.type) c.fields) (slice_get program.classes class)
