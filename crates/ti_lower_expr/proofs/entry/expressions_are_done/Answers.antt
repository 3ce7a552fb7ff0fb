use Rattle.ti_lower_expr.proofs.Expressions.{does}
use Rattle.ti_lower_expr.proofs.entry.expressions_are_done.Goals as goal

pub returns : goal.returns
returns c = λ code env names slots holds x at stack stands. does code env names slots holds x at stack stands
