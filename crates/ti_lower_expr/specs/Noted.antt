-- The index by which the slots of variables are found at once.
use Rattle.std.specs.Prelude.{◌≡◌, ℕ, ◌<◌, List, length, get_or, Option, Some, None}
use Rattle.ti_lower_expr.specs.declared.slots.SlotName.{SlotName}
use Rattle.ti_lower_expr.specs.declared.slots.SlotName.TheVariants as slot

-- The number of the variable that a slot is for.
abbrev pub variable_number : SlotName → Option ℕ
variable_number slot.This = None
variable_number (slot.Of number single ty) = Some number
variable_number (slot.Point number) = Some number
variable_number slot.Hidden = None

-- Each slot for a variable is before the position noted for the variable's number.
abbrev pub AreNoted : List SlotName → List ℕ → Type 0
AreNoted names noted = (k n : ℕ) → k < length names → variable_number (get_or names k slot.Hidden) ≡ Some n → k < get_or noted n 0
