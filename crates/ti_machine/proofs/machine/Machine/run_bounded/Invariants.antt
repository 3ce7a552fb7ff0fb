use Rattle.std.proofs.Common.{◌≤◌}
use Rattle.ti_machine.specs.Mirrors.Machines.{machine_of, RunsSilentlyCounted}
use Rattle.ti_machine.proofs.machine.Machine.run_bounded.Given as goal

abbrev pub invariant-loop-next_step : goal.invariant-loop-next_step
invariant-loop-next_step l = record { way : RunsSilentlyCounted l.code (machine_of l.code l.initial.self) l.count (machine_of l.code l.self); many : l._next_step ≤ l.count }
