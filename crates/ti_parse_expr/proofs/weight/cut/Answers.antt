use Rattle.std.proofs.Common.{sym, subst}
use Rattle.ti_parse_expr.specs.Mirrors.Reach.{IsCut}
use Rattle.ti_parse_expr.proofs.Weights.{front_is, cut_of, ending_some, first_cut}
use Rattle.ti_parse_expr.proofs.weight.cut.Goals as goal

pub returns-then-weight-gt-MOST_WEIGHT : goal.returns-then-weight-gt-MOST_WEIGHT
returns-then-weight-gt-MOST_WEIGHT c = first_cut c.args.weight c.args.list.now c.requires c.if-weight-gt-MOST_WEIGHT.true

pub returns : goal.returns
returns c =
    subst (IsCut c.args.weight c.args.list.now) (sym c.front_of.ensures.front)
    (cut_of c.args.weight c.args.list.now _ c.requires (front_is c.args.weight c.args.list.now c.if-weight-gt-MOST_WEIGHT.false (ending_some c.args.list.now c.requires)))
