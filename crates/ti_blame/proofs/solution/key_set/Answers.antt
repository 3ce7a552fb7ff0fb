use Rattle.std.proofs.Common.{◌≡◌}
use Rattle.ti_blame.proofs.Solving.{name_more}
use Rattle.ti_blame.proofs.solution.key_set.Goals as goal

pub loop-m-preserved : goal.loop-m-preserved
loop-m-preserved c = λ n. name_more c.args.names.now c.loop-m.m-index _ c.of.result n _ _ c.loop-m-test.true c.of.ensures (c.loop-m.invariant n) (c.in_ok-insert.ensures.updates.0 n)
