use Rattle.ti_parse_expr.proofs.Answered.{one_tree}
use Rattle.ti_parse_expr.proofs.parse.one_tree.Goals as goal

pub returns : goal.returns
returns c = λ form list a b s q. one_tree form list b a q s
