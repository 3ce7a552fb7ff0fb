use Rattle.std.proofs.Common.{sym, ◌∙◌}
use Rattle.ti_top.proofs.FaultFound.{run_faulted, fault_found}
use Rattle.ti_top.proofs.run_job.ending_of_run.Goals as goal

pub unreachable-requires : goal.unreachable-requires
unreachable-requires c =
    fault_found c.args.code.now c.requires.0 c.requires.1 c.args.end.now c.requires.2 c.in-Faulted.is (λ fault last. sym c.in-None.is ∙ c.at_end.ensures fault last)

pub returns-in-Some : goal.returns-in-Some
returns-in-Some c = λ s workers ran.
    run_faulted c.args.code.now s workers c.args.end.now c.in-Some.fault ran c.in-Faulted.is (λ fault last. sym c.in-Some.is ∙ c.at_end.ensures fault last)
