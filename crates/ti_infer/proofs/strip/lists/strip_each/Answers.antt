use Rattle.std.proofs.Common.{arith}
use Rattle.ti_infer.proofs.PlainLists.{all_same}
use Rattle.ti_infer.proofs.strip.lists.strip_each.Goals as goal

pub returns : goal.returns
returns g c =
    all_same g.T.Stripped.plain _ _ c.loop-i.invariant.len (λ k d lt. c.loop-i.invariant.done k d (omega (arith, c.len-i-end.ensures)))
