use Rattle.std.proofs.Common.{◌≡◌, ◌≤◌, take, length}
use Rattle.ti_lang.specs.Program.Views.{variable_of}
use Rattle.ti_lower_expr.specs.Slots.{find_slot}
use Rattle.ti_lower_expr.specs.Views.{slot_names_of}
use Rattle.ti_lower_expr.proofs.slots.Slots.find.Given as goal

abbrev pub invariant-loop-n : goal.invariant-loop-n
invariant-loop-n l = record {
  within : l.n ≤ length l.self.names.items;
  same : find_slot (variable_of l.variable) (slot_names_of l.self.names.items) ≡ find_slot (variable_of l.variable) (slot_names_of (take l.n l.self.names.items));
}

abbrev pub decreases-loop-n : goal.decreases-loop-n
decreases-loop-n l = l.n
