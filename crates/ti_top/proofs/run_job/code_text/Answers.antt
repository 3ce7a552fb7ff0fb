use Rattle.ti_lang.specs.Program.Views.{program_of}
use Rattle.ti_top.specs.Mirrors.JobView.{artifacts_of, ending_of}
use Rattle.ti_top.proofs.TextsDone.{coded_text}
use Rattle.ti_top.proofs.run_job.code_text.Goals as goal

pub returns-clause-says : goal.returns-clause-says
returns-clause-says g c =
    coded_text (ending_of c.write_code.result) (program_of c.in_ok-checked.checked.program.parts) c.args.text.now (g.K.Sink.state c.args.out.now)
    (g.K.Sink.state c.write_code.new.out) (artifacts_of c.write_code.result) c.in_ok-checked.ensures c.write_code.ensures.no_entry c.write_code.ensures.no_count
    c.write_code.ensures.says
