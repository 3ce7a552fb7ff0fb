use Rattle.std.proofs.Common.{refl}
use Rattle.ti_lang.specs.Program.Views.{program_of}
use Rattle.ti_exec.proofs.Lemmas.{of_result}
use Rattle.ti_slice.specs.Mirrors.Step.{IsSliceTurn}
use Rattle.ti_slice.proofs.Stepping.{slice_turn_at, waits_alike, expects_alike}
use Rattle.ti_slice.proofs.step.act.Goals as goal

pub returns-in-Waits : goal.returns-in-Waits
returns-in-Waits c =
    let p = program_of c.args.checked.now.program.parts in
    let w = c.args.machine.now in
    of_result c.leaves.result _ (λ r. IsSliceTurn p w r w) (λ r h. slice_turn_at p w w _ r (waits_alike p w _ _ c.in-Waits.is) (h p _ _ c.in-Waits.is refl)) c.leaves.ensures.waits

pub returns-in-Expects : goal.returns-in-Expects
returns-in-Expects c =
    let p = program_of c.args.checked.now.program.parts in
    let w = c.args.machine.now in
    of_result c.leaves-in-Expects.result _ (λ r. IsSliceTurn p w r w)
    (λ r h. slice_turn_at p w w _ r (expects_alike p w _ c.in-Expects.is) (h p _ c.in-Expects.is refl))
    c.leaves-in-Expects.ensures.expects
