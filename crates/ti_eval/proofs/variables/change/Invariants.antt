use Rattle.std.proofs.Common.{◌≡◌, ◌≤◌, ◌++◌, take, drop, length}
use Rattle.ti_lang.specs.Program.Views.{variable_of}
use Rattle.ti_lang.specs.Meaning.Scoping.{with_changed}
use Rattle.ti_eval.specs.Frames.{slots_of}
use Rattle.ti_eval.proofs.variables.change.Given as goal

abbrev pub invariant-loop-n : goal.invariant-loop-n
invariant-loop-n l = record {
  within : l.n ≤ length l.slots.items;
  stays : l.slots ≡ l.initial.slots;
  held_stays : l.held ≡ l.initial.held;
  same : with_changed (variable_of l.variable) l.held (slots_of l.slots.items) ≡ slots_of (drop l.n l.slots.items) ++ with_changed (variable_of l.variable) l.held (slots_of (take l.n l.slots.items));
}

abbrev pub decreases-loop-n : goal.decreases-loop-n
decreases-loop-n l = l.n
