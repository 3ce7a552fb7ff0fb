use Rattle.std.proofs.Common.{rules, of_calls}
use Rattle.ti_parse_expr.specs.Mirrors.Seen.{operand_of}
use Rattle.ti_parse_expr.specs.Mirrors.Exprs.{behind_name}
use Rattle.ti_parse_expr.proofs.ByFront.{front_reads}
use Rattle.ti_parse_expr.proofs.FullLaws.{behind_name_same}
use Rattle.ti_parse_expr.proofs.full.behind_name_phrase.Goals as goal

pub returns : goal.returns
returns c = front_reads operand_of 0 (λ n. behind_name n c.args.place c.args.name) _ c.args.tokens.now _ _ _
    (behind_name_same c.args.place c.args.name c.args.tokens.now) (λ before after n r h. search (rules, of_calls)) c.with_weight_limit.ensures
