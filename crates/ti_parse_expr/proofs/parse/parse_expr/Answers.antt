use Rattle.ti_parse_expr.proofs.Only.{only_tree, only_refusal}
use Rattle.ti_parse_expr.proofs.parse.parse_expr.Goals as goal

pub returns-clause-only_tree : goal.returns-clause-only_tree
returns-clause-only_tree c = only_tree c.args.toks.now c.args.at c.args.form c.args.weight c.read_phrase.result c.read_phrase.ensures

pub returns-clause-only_refusal : goal.returns-clause-only_refusal
returns-clause-only_refusal c = only_refusal c.args.toks.now c.args.at c.args.form c.args.weight c.read_phrase.result c.read_phrase.ensures
