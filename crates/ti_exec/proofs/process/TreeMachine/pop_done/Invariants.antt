use Rattle.std.proofs.Common.{◌≡◌, length}
use Rattle.ti_lang.specs.Program.Classes.{ProgramView}
use Rattle.ti_exec.specs.States.{process_of}
use Rattle.ti_exec.proofs.process.TreeMachine.pop_done.Given as goal

abbrev pub invariant-pop : goal.invariant-pop
invariant-pop l = (c : ProgramView) → process_of c l.self ≡ process_of c l.initial.self

abbrev pub decreases-pop : goal.decreases-pop
decreases-pop l = length l.self.top.levels.items
