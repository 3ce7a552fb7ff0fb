-- What contracts see of the generator's table of slots.
use Rattle.std.specs.Prelude.{List, map, reverse}
use Rattle.ti_lang.specs.Program.Types.{Typed}
use Rattle.ti_lang.specs.Program.Views.{value_type_of}
use Rattle.ti_lower_expr.specs.declared.slots.SlotName.{SlotName}
use Rattle.ti_lower_expr.specs.declared.slots.SlotName.TheVariants as slot
use Rattle.ti_lower_expr.specs.Slots.{Name, This, Of, Point, Hidden}

abbrev pub slot_name_of : SlotName → Name
slot_name_of slot.This = This
slot_name_of (slot.Of number single ty) = Of (record { number = number; declared = Typed single (value_type_of ty.now) })
slot_name_of (slot.Point number) = Point number
slot_name_of slot.Hidden = Hidden

-- The names, the newest first.
abbrev pub slot_names_of : List SlotName → List Name
slot_names_of names = map slot_name_of (reverse names)
