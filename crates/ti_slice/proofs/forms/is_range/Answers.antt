use Rattle.std.proofs.Common.{FitsSigned, ◌≡◌, pos, ◌+ℤ◌, arith, rules}
use Rattle.std.specs.Int.{w32}
use Rattle.ti_rect.specs.Axes.{range}
use Rattle.ti_rect.proofs.Lemmas.{span_of}
use Rattle.ti_slice.proofs.Ranging.{spans}
use Rattle.ti_slice.proofs.forms.is_range.Goals as goal

pub returns-else-far-eq0 : goal.returns-else-far-eq0
returns-else-far-eq0 c =
    let r = range c.args.axis in
    let low : FitsSigned w32 c.args.axis.low = search rules in
    let high : FitsSigned w32 c.args.axis.high = search rules in
    let at : c.args.axis.high ≡ c.args.axis.low +ℤ pos c.distance-far.result = span_of r.low r.high c.from.result c.distance-far.result low high c.from.ensures c.distance-far.ensures.value in
    spans r c.distance-far.result c.from-else-far-eq0.result at c.from-else-far-eq0.ensures (omega arith) c.if-far-eq0.false
