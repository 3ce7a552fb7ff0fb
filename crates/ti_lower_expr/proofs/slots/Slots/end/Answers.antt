use Rattle.std.proofs.Common.{arith}
use Rattle.ti_lower_expr.proofs.Naming.{past_end}
use Rattle.ti_lower_expr.proofs.slots.Slots.end.Goals as goal

pub returns-else-number-len-clause-none_behind : goal.returns-else-number-len-clause-none_behind
returns-else-number-len-clause-none_behind c = λ k from h is.
    omega (arith, c.args.self.now.noted k c.args.number h is, past_end c.args.self.now.latest.items c.args.number (omega (arith, c.len.ensures, c.if-number-len.false)))
