-- What contracts see of the slots of a frame, and of code that is being generated.
use Rattle.std.specs.Prelude.{◌≡◌, List, ◌++◌}
use Rattle.ti_code.specs.declared.instr.Instr.{Instr}
use Rattle.ti_lower_expr.specs.declared.slots.Slots.{Slots}
use Rattle.ti_lower_expr.specs.Slots.{Name}
use Rattle.ti_lower_expr.specs.Views.{slot_names_of}

-- The names of the slots, the newest first.
abbrev pub names_in : Slots → List Name
names_in slots = slot_names_of slots.names.items

-- `first` is a prefix of the code.
pub record BeginsWith (code first : List Instr) : Type 0 where
  pub more : List Instr
  pub is : code ≡ first ++ more
