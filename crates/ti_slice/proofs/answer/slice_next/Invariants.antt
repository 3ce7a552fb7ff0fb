use Rattle.std.proofs.Common.{drop}
use Rattle.ti_align.specs.declared.slices.SliceStep.{SliceStep}
use Rattle.ti_align.specs.Slice.{SliceComes, SliceAnswers}
use Rattle.ti_lang.specs.Program.Views.{program_of}
use Rattle.ti_exec.specs.States.{process_of}
use Rattle.ti_slice.specs.Mirrors.Answer.{IsFree}
use Rattle.ti_slice.proofs.answer.slice_next.Given as goal

abbrev pub invariant-loop-k : goal.invariant-loop-k
invariant-loop-k l = record {
  free : IsFree (program_of l.checked.program.parts) (process_of (program_of l.checked.program.parts) l.slice.machine);
  leads : (x : SliceStep) → SliceComes (process_of (program_of l.checked.program.parts) l.slice.machine) l.slice.gone.items l.k (drop l.k l.outcomes) x
      → SliceAnswers (record { program = program_of l.checked.program.parts; procs = l.procs; fuel = l.fuel }) l.outcomes x;
}
