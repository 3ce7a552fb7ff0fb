use Rattle.std.proofs.Common.{◌≡◌, ℕ, length}
use Rattle.ti_lang.specs.Program.Views.{program_of}
use Rattle.ti_lang.specs.Meaning.Jumps.{from_mark, variables_at_mark}
use Rattle.ti_eval.specs.Frames.{slots_of}
use Rattle.ti_exec.specs.States.{left_in, rest}
use Rattle.ti_exec.proofs.process.CallFrame.to_mark.Given as goal

abbrev pub invariant-up : goal.invariant-up
invariant-up l = record {
  method : l.self.method ≡ l.fn.self.method;
  this : l.self.this ≡ l.fn.self.this;
  left : (procs : ℕ) → from_mark (left_in (program_of l.program) procs l.self l.left) ≡ from_mark (rest (program_of l.program) procs l.fn.self);
  variables : (procs : ℕ) →
      variables_at_mark (left_in (program_of l.program) procs l.self l.left) (slots_of l.self.variables.slots.items)
      ≡ variables_at_mark (rest (program_of l.program) procs l.fn.self) (slots_of l.fn.self.variables.slots.items);
}

abbrev pub decreases-up : goal.decreases-up
decreases-up l = length l.self.levels.items
