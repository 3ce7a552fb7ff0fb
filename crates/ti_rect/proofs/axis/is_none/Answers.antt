use Rattle.std.proofs.Common.{FitsSigned, rules}
use Rattle.std.specs.Int.{w32}
use Rattle.ti_rect.proofs.ReadBack.{less_iff}
use Rattle.ti_rect.proofs.axis.is_none.Goals as goal

pub returns : goal.returns
returns c =
    let low : FitsSigned w32 c.args.axis.low = search rules in
    let high : FitsSigned w32 c.args.axis.high = search rules in
    less_iff c.args.axis.high c.args.axis.low high low
