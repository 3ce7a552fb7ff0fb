use Rattle.std.proofs.Common.{ℕ, ◌+◌}
use Rattle.ti_lang.specs.Program.Views.{program_of}
use Rattle.ti_lang.specs.Meaning.Processes.{Process}
use Rattle.ti_lang.proofs.Lemmas.{needs_all, most, Fitting, weight}
use Rattle.ti_exec.specs.States.{process_of}
use Rattle.ti_slice.specs.Mirrors.Answer.{IsFree, Leads}
use Rattle.ti_slice.proofs.slice_stop.run_to_stop.Given as goal

-- how much a tick pays for
abbrev pub pays : Process → ℕ
pays p = needs_all p.frames + most p.setting.program.methods

abbrev pub invariant-steps : goal.invariant-steps
invariant-steps l = record {
  free : IsFree (program_of l.checked.program.parts) (process_of (program_of l.checked.program.parts) l.machine);
  leads : Leads (process_of (program_of l.checked.program.parts) l.initial.machine) (process_of (program_of l.checked.program.parts) l.machine);
  fitting : Fitting (pays (process_of (program_of l.checked.program.parts) l.initial.machine)) (process_of (program_of l.checked.program.parts) l.machine);
}

abbrev pub decreases-steps : goal.decreases-steps
decreases-steps l = weight (pays (process_of (program_of l.checked.program.parts) l.initial.machine)) (process_of (program_of l.checked.program.parts) l.machine)
