use Rattle.std.proofs.Common.{sym, subst, take, ◌+◌, ◌≤◌}
use Rattle.ti_syntax.specs.Spelling.{most_weight}
use Rattle.ti_syntax.specs.Spelling.Weights.{weigh}
use Rattle.ti_parse_expr.proofs.Weights.{front_small}
use Rattle.ti_parse_expr.proofs.weight.front_of.Goals as goal

pub returns-clause-light : goal.returns-clause-light
returns-clause-light c =
    subst (λ n. c.args.weight + weigh (take n c.args.list.now) ≤ most_weight + 1) (sym c.reach.ensures.value) (front_small c.args.weight c.args.list.now c.requires)
