use Rattle.std.proofs.Common.{refl}
use Rattle.ti_top.proofs.TextsDone.{done_by_file, done_by_seed}
use Rattle.ti_top.proofs.run_job.run_job.Goals as goal

pub returns-in-Run-clause-says : goal.returns-in-Run-clause-says
returns-in-Run-clause-says g c = done_by_file _ _ _ _ c.in-Run.is (rw c.keep_wanted.ensures at c.run_file_job.ensures.done)

pub returns-in-Gen-clause-says : goal.returns-in-Gen-clause-says
returns-in-Gen-clause-says g c = done_by_seed _ _ _ _ c.in-Gen.is (record { unread = refl; says = rw c.keep_wanted.ensures at c.run_seed_job.ensures.says })
