use Rattle.std.proofs.Common.{◌≡◌, ap, subst}
use Rattle.ti_lang.specs.Program.Views.{program_of}
use Rattle.ti_lang.specs.Meaning.Steps.{To}
use Rattle.ti_lang.proofs.Lemmas.{fits_bound}
use Rattle.ti_align.specs.Slice.{slice_step, fault_if_deleted}
use Rattle.ti_exec.specs.States.{process_of}
use Rattle.ti_slice.specs.Mirrors.Step.{IsSliceTurn}
use Rattle.ti_slice.proofs.Coming.{checked, goes_free, no_answers, free_falls}
use Rattle.ti_slice.proofs.Meeting.{leads_here, leads_on, asks_arrival, stands_as, goes_there, step_of}
use Rattle.ti_slice.proofs.slice_stop.run_to_stop.Invariants.{pays}
use Rattle.ti_slice.proofs.slice_stop.run_to_stop.Goals as goal

pub steps-init : goal.steps-init
steps-init c =
    let p = process_of (program_of c.args.checked.now.program.parts) c.args.machine.now in
    record { free = c.requires; leads = leads_here p; fitting = fits_bound p }

pub slice_step-requires : goal.slice_step-requires
slice_step-requires c =
    let g = program_of c.args.checked.now.program.parts in
    no_answers g (process_of g c.steps.machine) (checked c.args.checked.now) c.steps.invariant.free

pub steps-smaller : goal.steps-smaller
steps-smaller c =
    let g = program_of c.args.checked.now.program.parts in
    let e : slice_step (process_of g c.steps.machine) ≡ To (process_of g c.slice_step.new.machine) = subst (λ t. IsSliceTurn g c.steps.machine t c.slice_step.new.machine) c.in-Continue.is c.in_ok-slice_step.ensures in
    (free_falls g (pays (process_of g c.args.machine.now)) (process_of g c.steps.machine) (process_of g c.slice_step.new.machine) (checked c.args.checked.now) c.steps.invariant.free c.steps.invariant.fitting e).0

pub steps-preserved : goal.steps-preserved
steps-preserved c =
    let g = program_of c.args.checked.now.program.parts in
    let e : slice_step (process_of g c.steps.machine) ≡ To (process_of g c.slice_step.new.machine) = subst (λ t. IsSliceTurn g c.steps.machine t c.slice_step.new.machine) c.in-Continue.is c.in_ok-slice_step.ensures in
    record {
      free = goes_free g (process_of g c.steps.machine) (process_of g c.slice_step.new.machine) e c.steps.invariant.free;
      leads = leads_on (process_of g c.args.machine.now) (process_of g c.steps.machine) (process_of g c.slice_step.new.machine) c.steps.invariant.leads e;
      fitting = (free_falls g (pays (process_of g c.args.machine.now)) (process_of g c.steps.machine) (process_of g c.slice_step.new.machine)
          (checked c.args.checked.now) c.steps.invariant.free c.steps.invariant.fitting e).1;
    }

pub stop_at-requires : goal.stop_at-requires
stop_at-requires c =
    let g = program_of c.args.checked.now.program.parts in
    let t = subst (λ t. IsSliceTurn g c.steps.machine t c.slice_step.new.machine) c.in-Request.is c.in_ok-slice_step.ensures in
    asks_arrival g (process_of g c.steps.machine) _ _ _ (checked c.args.checked.now) c.steps.invariant.free t.1

pub returns-in-Request : goal.returns-in-Request
returns-in-Request c =
    let g = program_of c.args.checked.now.program.parts in
    let mid = c.steps.machine in
    let new = c.slice_step.new.machine in
    let t = subst (λ t. IsSliceTurn g mid t new) c.in-Request.is c.in_ok-slice_step.ensures in
    goes_there g c.args.machine.now mid new c.args.gone.now c.stop_at.result c.steps.invariant.free c.steps.invariant.leads t.0 (c.stop_at.ensures g (stands_as g mid new _ _ _ t.0 t.1))

pub returns-in-End : goal.returns-in-End
returns-in-End c =
    let g = program_of c.args.checked.now.program.parts in
    let mid = c.steps.machine in
    let new = c.slice_step.new.machine in
    let t = subst (λ t. IsSliceTurn g mid t new) c.in-End.is c.in_ok-slice_step.ensures in
    goes_there g c.args.machine.now mid new c.args.gone.now _ c.steps.invariant.free c.steps.invariant.leads t.0 (_, ap (fault_if_deleted c.args.gone.now) (step_of g mid new _ t.0 t.1))

pub returns-in-Fault : goal.returns-in-Fault
returns-in-Fault c =
    let g = program_of c.args.checked.now.program.parts in
    let mid = c.steps.machine in
    let new = c.slice_step.new.machine in
    let t = subst (λ t. IsSliceTurn g mid t new) c.in-Fault.is c.in_ok-slice_step.ensures in
    goes_there g c.args.machine.now mid new c.args.gone.now _ c.steps.invariant.free c.steps.invariant.leads t.0 (ap (fault_if_deleted c.args.gone.now) (step_of g mid new _ t.0 t.1))
