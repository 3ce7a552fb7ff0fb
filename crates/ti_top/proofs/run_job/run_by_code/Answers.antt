use Rattle.std.proofs.Common.{sym}
use Rattle.ti_lang.specs.Program.Views.{program_of}
use Rattle.ti_top.specs.Run.{run_of}
use Rattle.ti_top.proofs.run_job.run_by_code.Goals as goal

pub returns-clause-determines : goal.returns-clause-determines
returns-clause-determines g c = c.determinate.ensures

pub returns-clause-told : goal.returns-clause-told
returns-clause-told g c =
    let job = c.args.job.now in
    let within = c.requires.ranges.within in
    sym (c.races_are_told.ensures (run_of (program_of c.args.checked.now.program.parts) job) c.run-end.result.history.items c.run-end.ensures.run
    (λ ds run. c.actions_formed.ensures job.procs job.fuel ds within.some within.few within.fueled within.limited run))
