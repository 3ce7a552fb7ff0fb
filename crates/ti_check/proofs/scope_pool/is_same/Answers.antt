use Rattle.std.proofs.Common.{sym, ◌∙◌}
use Rattle.ti_check.proofs.Copies.{variables, word}
use Rattle.ti_check.proofs.scope_pool.is_same.Goals as goal

pub returns : goal.returns
returns c = λ same.
    variables c.args.first.now c.args.second.now c.if-first-second.false (word c.args.first.now.single c.args.second.now.single c.if-first-second-2.false) (sym c.same_elements.ensures ∙ same)
