use Rattle.std.proofs.Common.{refl, Some}
use Rattle.ti_lang.specs.Program.Views.{program_of}
use Rattle.ti_top.specs.Run.{run_of}
use Rattle.ti_top.specs.Mirrors.JobView.{Artifacts}
use Rattle.ti_top.proofs.Leaving.{leaves_then}
use Rattle.ti_top.proofs.RunCounted.{by_code}
use Rattle.ti_top.proofs.RunWritten.{wrote_cut, wrote_all, run_says, said_of}
use Rattle.ti_top.proofs.run_job.run_program.Goals as goal

pub ending_of_run-ended-requires : goal.ending_of_run-ended-requires
ending_of_run-ended-requires g c = (run_of (program_of c.args.checked.now.program.parts) c.args.job.now, c.args.job.now.workers, c.run_by_code-end.ensures.ran)

pub returns-in-Ok-clause-says : goal.returns-in-Ok-clause-says
returns-in-Ok-clause-says g c =
    let program = program_of c.args.checked.now.program.parts in
    let job = c.args.job.now in
    let ran = c.run_by_code-end.ensures.ran in
    let ends = c.ending_of_run-ended.ensures (run_of program job) job.workers ran in
    let artifacts : Artifacts = record { code = Some c.args.code; history = c.run_by_code-end.result.history.items; done = c.run_by_code-end.result.done.items } in
    rw c.of_run.ensures.ending (said_of program job _ _ _ artifacts _ _ c.of_run.ensures.artifacts
    (run_says c.ending_of_run-ended.result program job _ _ _ artifacts c.report_after-ending.result c.requires.mode ran.run ran.solo c.run_by_code-end.ensures.determines c.run_by_code-end.ensures.told ends
    (by_code program job c.args.code c.run_by_code-end.result artifacts c.requires.code c.requires.follows ran refl)
    (wrote_all _ _ _ _ _ _ _ _ _ c.in-Ok.ensures.written c.report_after-ending.ensures.reports)))

pub returns-in-Ok-clause-leaves : goal.returns-in-Ok-clause-leaves
returns-in-Ok-clause-leaves g c = rw c.of_run.ensures.ending (leaves_then _ _ _ _ c.in-Ok.ensures.unfailed c.report_after-ending.ensures.leaves)

pub returns-in-Err-clause-says : goal.returns-in-Err-clause-says
returns-in-Err-clause-says g c =
    let program = program_of c.args.checked.now.program.parts in
    let job = c.args.job.now in
    let ran = c.run_by_code-end.ensures.ran in
    let ends = c.ending_of_run-ended.ensures (run_of program job) job.workers ran in
    let artifacts : Artifacts = record { code = Some c.args.code; history = c.run_by_code-end.result.history.items; done = c.run_by_code-end.result.done.items } in
    rw c.of_run-in-Err.ensures.ending (said_of program job _ _ _ artifacts _ _ c.of_run-in-Err.ensures.artifacts
    (run_says c.ending_of_run-ended.result program job _ _ _ artifacts _ c.requires.mode ran.run ran.solo c.run_by_code-end.ensures.determines c.run_by_code-end.ensures.told ends
    (by_code program job c.args.code c.run_by_code-end.result artifacts c.requires.code c.requires.follows ran refl)
    (wrote_cut _ _ _ _ _ _ _ c.in-Err.ensures.written)))
