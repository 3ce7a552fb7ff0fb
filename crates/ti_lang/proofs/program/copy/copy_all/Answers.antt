use Rattle.std.proofs.Common.{arith}
use Rattle.ti_lang.proofs.Copies.{same_next}
use Rattle.ti_lang.proofs.program.copy.copy_all.Goals as goal

pub loop-x-preserved : goal.loop-x-preserved
loop-x-preserved g c =
    same_next g.T.TryClone.same c.loop-x.found.items c.push.new.self.items c.args.items.now c.loop-x.x-index c.in_ok-copy.field-0 c.x-item.result
    c.loop-x.invariant (omega arith) c.x-item.is c.in_ok-copy.ensures c.in_ok-push.ensures.items
