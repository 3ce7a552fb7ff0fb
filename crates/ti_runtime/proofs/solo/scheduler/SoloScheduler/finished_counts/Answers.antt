use Rattle.std.proofs.Common.{◌∙◌, arith, length-set}
use Rattle.ti_runtime.proofs.Endings.{finished_on}
use Rattle.ti_runtime.proofs.solo.scheduler.SoloScheduler.finished_counts.Goals as goal

pub loop-n-preserved : goal.loop-n-preserved
loop-n-preserved c =
    let processes = c.args.self.now.processes.items in
    let done = c.loop-n.done.items in
    let n = c.loop-n.n in
    record {
      count = length-set done n c.finished.result ∙ c.loop-n.invariant.count;
      each = finished_on processes done n c.finished.result c.index.result.now (omega arith) c.loop-n.invariant.count c.index.ensures c.finished.ensures c.loop-n.invariant.each;
    }
