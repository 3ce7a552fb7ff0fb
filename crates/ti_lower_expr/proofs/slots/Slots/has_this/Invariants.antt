use Rattle.std.proofs.Common.{◌≡◌, take, false}
use Rattle.ti_lower_expr.specs.Slots.{has_this}
use Rattle.ti_lower_expr.specs.Views.{slot_names_of}
use Rattle.ti_lower_expr.proofs.slots.Slots.has_this.Given as goal

abbrev pub invariant-loop-name : goal.invariant-loop-name
invariant-loop-name l = has_this (slot_names_of (take l.name-index l.self.names.items)) ≡ false
