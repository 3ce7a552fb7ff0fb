use Rattle.std.proofs.Common.{[]}
use Rattle.ti_base.specs.declared.entry.Next.{Next}
use Rattle.ti_code.specs.Follows.{HasNext}
use Rattle.ti_machine.specs.Mirrors.Machines.{machine_of, RunsSilentlyCounted}
use Rattle.ti_machine.proofs.Weights.{weight}
use Rattle.ti_machine.proofs.machine.Machine.run_to_suspension.Given as goal

abbrev pub invariant-steps : goal.invariant-steps
invariant-steps l = record {
  way : RunsSilentlyCounted l.code (machine_of l.code l.initial.self) l.count (machine_of l.code l.self);
  goes : (n : Next) × HasNext l.code (machine_of l.code l.self) [] n;
}

abbrev pub decreases-steps : goal.decreases-steps
decreases-steps l = weight l.code (machine_of l.code l.self)
