use Rattle.std.proofs.Common.{Ok}
use Rattle.ti_lang.specs.Program.Views.{program_of}
use Rattle.ti_top.specs.Mirrors.JobView.{artifacts_of}
use Rattle.ti_top.proofs.TextsDone.{ran_text}
use Rattle.ti_top.proofs.run_job.run_text.Goals as goal

pub returns-clause-says : goal.returns-clause-says
returns-clause-says g c =
    ran_text c.run_program.result.ending (program_of c.in_ok-checked.checked.program.parts) c.args.job.now _ c.args.text.now (g.K.Sink.state c.args.out.now)
    (g.K.Sink.state c.run_program.new.out) (artifacts_of (Ok c.run_program.result)) c.in_ok-checked.ensures c.run_program.ensures.says
