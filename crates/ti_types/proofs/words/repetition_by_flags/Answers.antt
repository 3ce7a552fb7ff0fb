use Rattle.std.proofs.Common.{sym, ap, ◌∙◌, arith, not, ◌||◌}
use Rattle.ti_rules.specs.Mirrors.First.{earlier_of}
use Rattle.ti_types.proofs.Loops.{none_sooner, again_step, again_end}
use Rattle.ti_types.proofs.words.repetition_by_flags.Goals as goal

pub loop-q-init : goal.loop-q-init
loop-q-init c = none_sooner _

pub loop-q-preserved : goal.loop-q-preserved
loop-q-preserved c = c.loop-q.invariant ∙ again_step c.loop-q.had_single c.loop-q.had_local c.any_flag-had_single.result
    c.any_flag-had_local.result c.args.words.now c.loop-q.q-index _ c.loop-q.found c.earlier_of-found.result (omega arith)
    (c.earlier_of-found.ensures ∙ ap (earlier_of c.loop-q.found) c.word_repetition.ensures) (c.any_flag-had_single.ensures
    ∙ ap (λ b. c.loop-q.had_single || b) c.is_single_word-single.ensures) (c.any_flag-had_local.ensures
    ∙ ap (λ b. c.loop-q.had_local || not b) c.is_single_word-single.ensures)

pub returns : goal.returns
returns c = sym (c.loop-q.invariant ∙ again_end c.loop-q.had_single c.loop-q.had_local c.args.words.now c.loop-q.q-index c.loop-q.found (omega arith))
