use Rattle.ti_parse.proofs.Decided.{decided}
use Rattle.ti_parse.proofs.OneTree.{one_tree}
use Rattle.ti_parse.proofs.Unique.{one_refusal}
use Rattle.ti_parse.proofs.text.one_text.Goals as goal

pub returns-clause-one_tree : goal.returns-clause-one_tree
returns-clause-one_tree c = λ list a b s q. one_tree list a b s q

pub returns-clause-some : goal.returns-clause-some
returns-clause-some c = λ list closed. decided list closed

pub returns-clause-only : goal.returns-clause-only
returns-clause-only c = λ list a b s q. one_refusal {list = list} {a = a} {b = b} s q
