use Rattle.ti_parse.proofs.Only.{only_tree, only_refusal}
use Rattle.ti_parse.proofs.text.parse.Goals as goal

pub returns-clause-only_tree : goal.returns-clause-only_tree
returns-clause-only_tree c = only_tree c.args.toks.now c.read_tree.result c.read_tree.ensures

pub returns-clause-only_refusal : goal.returns-clause-only_refusal
returns-clause-only_refusal c = only_refusal c.args.toks.now c.read_tree.result c.read_tree.ensures
