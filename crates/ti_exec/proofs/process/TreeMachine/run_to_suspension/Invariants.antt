use Rattle.std.proofs.Common.{ℕ, ◌+◌}
use Rattle.ti_lang.specs.Program.Views.{program_of}
use Rattle.ti_lang.specs.Meaning.Processes.{Process}
use Rattle.ti_lang.specs.Meaning.NextStep.{Reaches}
use Rattle.ti_lang.proofs.Lemmas.{needs_all, most, Fitting, weight}
use Rattle.ti_exec.specs.States.{process_of}
use Rattle.ti_exec.proofs.process.TreeMachine.run_to_suspension.Given as goal

-- how much a tick pays for
abbrev pub pays : Process → ℕ
pays p = needs_all p.frames + most p.setting.program.methods

abbrev pub invariant-steps : goal.invariant-steps
invariant-steps l = record {
  fitting : Fitting (pays (process_of (program_of l.program) l.initial.self)) (process_of (program_of l.program) l.self);
  reaches : Reaches (process_of (program_of l.program) l.initial.self) (process_of (program_of l.program) l.self);
}

abbrev pub decreases-steps : goal.decreases-steps
decreases-steps l = weight (pays (process_of (program_of l.program) l.initial.self)) (process_of (program_of l.program) l.self)
