use Rattle.std.proofs.Common.{ℕ, sym, subst, []}
use Rattle.ti_lang.specs.Program.Views.{program_of}
use Rattle.ti_align.specs.Slice.{SliceComes}
use Rattle.ti_exec.specs.States.{process_of}
use Rattle.ti_slice.proofs.Meeting.{gone_as, comes_there, comes_end, comes_fault, comes_ok}
use Rattle.ti_slice.proofs.answer.Slice.comes_to.Goals.{in-Arrives, in-Ends, in-Fails}
use Rattle.ti_slice.proofs.answer.Slice.comes_to.Goals as goal

pub returns : goal.returns
returns c =
    let p = program_of c.args.checked.now.program.parts in
    let old = c.args.self.now in
    let new = c.run_to_stop.new.machine in
    elim c.match-branch-2.branch [
      | in-Arrives w ↦ comes_ok p old _ _ w.result-is (comes_there p old new _ _ _ _ (gone_as p old.machine new _ _ _ _ c.deref.ensures.value w.in-Arrives.is c.in_ok-kind.ensures))
      | in-Ends w ↦ comes_ok p old _ _ w.result-is (comes_end p old new (gone_as p old.machine new _ _ _ _ c.deref.ensures.value w.in-Ends.is c.in_ok-kind.ensures))
      | in-Fails w ↦ comes_ok p old _ _ w.result-is (subst (λ x. (k : ℕ) → SliceComes (process_of p old.machine) old.gone.items k [] x)
          (sym w.at_fault.ensures)
          (comes_fault p old new _ _ (gone_as p old.machine new _ _ _ _ c.deref.ensures.value w.in-Fails.is c.in_ok-kind.ensures)))
    ]
