use Rattle.ti_runtime.proofs.Endings.{ran}
use Rattle.ti_runtime.proofs.runner.finish.Goals as goal

pub returns : goal.returns
returns g c = λ workers first.
    ran g.J.CodeOf.code g.J.RunConfigOf.config workers _ c.args.joined.store.entries c.go_on-how.new.store.entries c.go_on-how.new.scheduler.processes.items
    c.into_history.ensures.entries c.go_on-how.ensures first c.finished_counts.ensures.count c.finished_counts.ensures.each
