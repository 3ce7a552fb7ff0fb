use Rattle.std.proofs.Common.{refl, length, ap, ◌∙◌, arith, length-append}
use Rattle.ti_domain.specs.Domains.{one_piece}
use Rattle.ti_domain.proofs.SetLaws.{alone_length}
use Rattle.ti_domain.proofs.StepLaws.{meets_more}
use Rattle.ti_domain.proofs.meets.meets_with.Goals as goal

pub loop-other-preserved : goal.loop-other-preserved
loop-other-preserved c =
    let both = c.rect_meet.result in
    let m = c.rect_meet.ensures in
    record {
      pieces = meets_more c.args.rect.now.dim c.args.others.now c.loop-other.other-index c.loop-other-test.true c.requires.others c.args.rect.now both
          c.loop-other.common.items c.in_ok-common.common.items refl c.loop-other.invariant.pieces m.form m.dim m.points c.in_ok-common.ensures;
      number = let l = ap length c.in_ok-common.ensures ∙ length-append c.loop-other.common.items (one_piece both) in let n =
          alone_length both m.form in let k = c.loop-other.invariant.number in omega arith;
    }
