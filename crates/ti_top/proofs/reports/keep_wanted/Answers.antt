use Rattle.std.proofs.Common.{rules}
use Rattle.ti_top.proofs.ReportsKept.{kept_wanted}
use Rattle.ti_top.proofs.reports.keep_wanted.Goals as goal

pub returns : goal.returns
returns g c = kept_wanted _ _ c.args.job.now _ (λ x b q h. search rules) _ _ c.retain.ensures.filtered
