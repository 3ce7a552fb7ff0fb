use Rattle.std.proofs.Common.{◌++◌, length, ap, ◌∙◌, arith, length-append}
use Rattle.ti_domain.specs.Pieces.{IsInSome}
use Rattle.ti_domain.proofs.StepLaws.{pieces_more}
use Rattle.ti_domain.proofs.meets.meets.Goals as goal

pub loop-r-preserved : goal.loop-r-preserved
loop-r-preserved c =
    let e = c.in_ok-common.ensures ∙ ap (λ l. c.loop-r.common.items ++ l) c.as_slice.ensures.value in
    record {
      pieces = pieces_more c.args.dim c.args.rects.now c.loop-r.r-index c.loop-r-test.true c.requires.pieces (IsInSome c.args.others.now)
          c.loop-r.common.items c.in_ok-more.more.items c.in_ok-common.common.items c.loop-r.invariant.pieces c.in_ok-more.ensures.pieces e;
      number = let l = ap length e ∙ length-append c.loop-r.common.items c.in_ok-more.more.items in let n = c.in_ok-more.ensures.number in let m = c.loop-r.invariant.number in omega arith;
    }
