use Rattle.std.proofs.Common.{◌∙◌, ap}
use Rattle.ti_lang.specs.Program.Views.{program_of}
use Rattle.ti_lang.specs.Meaning.Processes.{Process}
use Rattle.ti_exec.proofs.Lemmas.{of_result}
use Rattle.ti_slice.specs.Mirrors.Step.{IsSliceTurn}
use Rattle.ti_slice.proofs.Stepping.{same_slice_turn}
use Rattle.ti_slice.proofs.step.slice_step.Goals as goal

pub act-requires-clause-new : goal.act-requires-clause-new
act-requires-clause-new c = ap (λ (p : Process). p.answers) c.in_ok-normalize.ensures.same ∙ c.requires

pub returns : goal.returns
returns c =
    let p = program_of c.args.checked.now.program.parts in
    let mid = c.normalize.new.self in
    let new = c.act.new.machine in
    of_result c.act.result (λ t. IsSliceTurn p mid t new) (λ t. IsSliceTurn p c.args.machine.now t new) (λ t h. same_slice_turn p c.args.machine.now mid new t c.in_ok-normalize.ensures.same h) c.act.ensures
