use Rattle.std.proofs.Common.{sym, ap, ◌∙◌, arith}
use Rattle.ti_rules.specs.Mirrors.First.{earlier_of}
use Rattle.ti_rules.specs.SingleRules.{word_refusals}
use Rattle.ti_types.proofs.Lemmas.{none_sooner, each_step, each_end}
use Rattle.ti_explain.proofs.methods.single_words.Goals as goal

pub loop-q-init : goal.loop-q-init
loop-q-init c = none_sooner _

pub loop-q-preserved : goal.loop-q-preserved
loop-q-preserved c = c.loop-q.invariant ∙ each_step word_refusals c.args.words.now c.loop-q.q-index _ c.loop-q.found c.earlier_of-found.result
    (omega arith) (c.earlier_of-found.ensures ∙ ap (earlier_of c.loop-q.found) c.single_word.ensures)

pub returns : goal.returns
returns c = sym (c.loop-q.invariant ∙ each_end word_refusals c.args.words.now c.loop-q.q-index c.loop-q.found (omega arith))
