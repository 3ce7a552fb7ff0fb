use Rattle.std.proofs.Common.{arith}
use Rattle.ti_lang.specs.Program.Views.{program_of}
use Rattle.ti_top.specs.Mirrors.Verifying.{ending_by, run_by}
use Rattle.ti_top.specs.Run.{run_of}
use Rattle.ti_top.proofs.TraceRead.{held_before}
use Rattle.ti_top.proofs.verifying.verify_named.Goals as goal

pub returns-in-Ok-true : goal.returns-in-Ok-true
returns-in-Ok-true g c =
    let job = c.args.job.now in
    held_before (ending_by c.verify_found.result) (run_of (program_of c.args.checked.now.program.parts) job) job.against (g.S.Source.state c.args.source.now)
    (g.S.Source.state c.find.new.self) (g.S.Source.state c.verify_found.new.source) (run_by c.verify_found.result)
    (record { never_falls = omega (arith, c.in-Ok-true.ensures.still); same = c.in-Ok-true.ensures.same }) c.in-Ok-true.ensures.still c.verify_found.ensures
