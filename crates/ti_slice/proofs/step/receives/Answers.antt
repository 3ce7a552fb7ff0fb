use Rattle.std.proofs.Common.{◌∙◌, sym}
use Rattle.ti_lang.specs.Program.Views.{program_of}
use Rattle.ti_exec.specs.States.{IsStepOutcome}
use Rattle.ti_exec.proofs.Lemmas.{of_result}
use Rattle.ti_slice.specs.Mirrors.Step.{IsSliceTurn}
use Rattle.ti_slice.proofs.Stepping.{taken, dropped}
use Rattle.ti_slice.proofs.step.receives.Goals as goal

pub returns-then-receives_single : goal.returns-then-receives_single
returns-then-receives_single c =
    let p = program_of c.args.checked.now.program.parts in
    let w = c.args.machine.now in
    let new = c.receive.new.self in
    of_result c.receive.result (λ t. IsStepOutcome p w t new) (λ t. IsSliceTurn p w t new)
    (λ t h. taken p w new t c.requires.mode (sym c.receives_single.ensures ∙ c.if-receives_single.true) c.requires.new h)
    c.receive.ensures

pub returns : goal.returns
returns c =
    let p = program_of c.args.checked.now.program.parts in
    dropped p c.args.machine.now c.complete_with.new.self c.requires.mode (sym c.receives_single.ensures ∙ c.if-receives_single.false) (c.complete_with.ensures p)
