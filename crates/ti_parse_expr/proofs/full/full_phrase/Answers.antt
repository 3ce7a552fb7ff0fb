use Rattle.std.proofs.Common.{rules, of_calls}
use Rattle.ti_syntax.specs.Trees.Views.{exp_of}
use Rattle.ti_parse_expr.specs.Mirrors.Exprs.{phrase}
use Rattle.ti_parse_expr.proofs.ByFront.{front_reads}
use Rattle.ti_parse_expr.proofs.FullLaws.{full_same}
use Rattle.ti_parse_expr.proofs.full.full_phrase.Goals as goal

pub returns : goal.returns
returns c = front_reads exp_of 0 (λ n. phrase n c.args.form) _ c.args.tokens.now _ _ _ (full_same c.args.form c.args.tokens.now) (λ before after n r h. search (rules, of_calls)) c.with_weight_limit.ensures
