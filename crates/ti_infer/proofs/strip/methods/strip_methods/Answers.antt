use Rattle.std.proofs.Common.{arith}
use Rattle.ti_infer.proofs.PlainLists.{all_methods_plain}
use Rattle.ti_infer.proofs.strip.methods.strip_methods.Goals as goal

pub returns : goal.returns
returns c =
    all_methods_plain c.args.main _ _ c.loop-i.invariant.len (λ k d lt. c.loop-i.invariant.done k d (omega (arith, c.len-i-end.ensures)))
