use Rattle.std.proofs.Common.{◌≡◌, subst}
use Rattle.ti_lang.specs.Program.Views.{program_of}
use Rattle.ti_lang.specs.Meaning.Steps.{To, step}
use Rattle.ti_lang.specs.Meaning.NextStep.{here}
use Rattle.ti_lang.proofs.Lemmas.{fits_bound}
use Rattle.ti_exec.specs.States.{process_of, IsStepOutcome}
use Rattle.ti_exec.proofs.Advances.{reaches_on, falls_on}
use Rattle.ti_exec.proofs.process.TreeMachine.run_to_suspension.Invariants.{pays}
use Rattle.ti_exec.proofs.process.TreeMachine.run_to_suspension.Goals as goal

pub steps-init : goal.steps-init
steps-init c = record { fitting = fits_bound (process_of (program_of c.args.program.now) c.args.self.now); reaches = here }

pub steps-smaller : goal.steps-smaller
steps-smaller c =
    let g = program_of c.args.program.now in
    let e : step (process_of g c.steps.self) ≡ To (process_of g c.step.new.self) = subst (λ t. IsStepOutcome g c.steps.self t c.step.new.self) c.in-Continue.is c.in_ok-step.ensures in
    (falls_on (pays (process_of g c.args.self.now)) (process_of g c.steps.self) (process_of g c.step.new.self) c.steps.invariant.fitting e).0

pub steps-preserved : goal.steps-preserved
steps-preserved c =
    let g = program_of c.args.program.now in
    let e : step (process_of g c.steps.self) ≡ To (process_of g c.step.new.self) = subst (λ t. IsStepOutcome g c.steps.self t c.step.new.self) c.in-Continue.is c.in_ok-step.ensures in
    record {
      fitting = (falls_on (pays (process_of g c.args.self.now)) (process_of g c.steps.self) (process_of g c.step.new.self) c.steps.invariant.fitting e).1;
      reaches = reaches_on (process_of g c.args.self.now) (process_of g c.steps.self) (process_of g c.step.new.self) c.steps.invariant.reaches e;
    }
