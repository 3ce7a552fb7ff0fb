use Rattle.ti_lang.specs.Program.Views.{program_of}
use Rattle.ti_exec.specs.States.{IsStepOutcome}
use Rattle.ti_exec.proofs.Lemmas.{of_result}
use Rattle.ti_slice.specs.Mirrors.Step.{IsSliceTurn}
use Rattle.ti_slice.proofs.Stepping.{begun_unless, begun_turn}
use Rattle.ti_slice.proofs.step.acts.Goals as goal

pub returns-in_default-resume : goal.returns-in_default-resume
returns-in_default-resume c =
    let p = program_of c.args.parts.now in
    let w = c.args.machine.now in
    of_result c.resume_stmt.result (λ t. IsStepOutcome p w t c.resume_stmt.new.self) (λ t. IsSliceTurn p w t c.resume_stmt.new.self)
    (λ t h. begun_turn p w c.resume_stmt.new.self t c.requires.inner c.requires.settled
    (begun_unless p w _ c.requires.inner c.in-Walks.is c.requires.settled c.in_default-resume.not-Here) c.requires.acts c.requires.new
    h) c.resume_stmt.ensures
