use Rattle.ti_lang.specs.Program.Views.{program_of}
use Rattle.ti_top.specs.Mirrors.Verifying.{ending_by, run_by}
use Rattle.ti_top.proofs.TraceHeld.{held_text}
use Rattle.ti_top.proofs.verifying.verify_text.Goals as goal

pub returns-clause-says : goal.returns-clause-says
returns-clause-says g c =
    held_text (ending_by c.verify_named.result) (program_of c.in_ok-checked.checked.program.parts) c.args.job.now c.args.text.now (g.S.Source.state c.args.source.now)
    (g.S.Source.state c.verify_named.new.source) (run_by c.verify_named.result) c.in_ok-checked.ensures c.verify_named.ensures.says
