use Rattle.std.proofs.Common.{rules, of_calls}
use Rattle.ti_parse_expr.specs.Mirrors.Seen.{operand_of}
use Rattle.ti_parse_expr.specs.Mirrors.Exprs.{expr, operand}
use Rattle.ti_parse_expr.proofs.ByFront.{front_reads}
use Rattle.ti_parse_expr.proofs.FullLaws.{operand_same}
use Rattle.ti_parse_expr.proofs.full.full_operand.Goals as goal

pub returns : goal.returns
returns c = front_reads operand_of 0 (λ n. operand n (expr n)) _ c.args.tokens.now _ _ _ (operand_same c.args.tokens.now) (λ before after n r h. search (rules, of_calls)) c.with_weight_limit.ensures
