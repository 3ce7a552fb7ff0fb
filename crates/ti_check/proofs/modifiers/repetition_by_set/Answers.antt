use Rattle.std.proofs.Common.{sym, ap, ◌∙◌, arith}
use Rattle.ti_rules.specs.Mirrors.First.{earlier_of}
use Rattle.ti_check.proofs.Again.{met_init, met_step, met_end}
use Rattle.ti_check.proofs.modifiers.repetition_by_set.Goals as goal

pub loop-m-init : goal.loop-m-init
loop-m-init c = met_init c.args.words.now c.none-met.result c.none-met.ensures

pub loop-m-preserved : goal.loop-m-preserved
loop-m-preserved c =
    c.loop-m.invariant ∙ met_step c.loop-m.met c.with-met.result c.args.words.now c.loop-m.m-index _ c.has.result c.loop-m.found c.earlier_of-found.result (omega arith) c.has.ensures
    (c.earlier_of-found.ensures ∙ ap (earlier_of c.loop-m.found) c.refused_if.ensures) c.with-met.ensures

pub returns : goal.returns
returns c = sym (c.loop-m.invariant ∙ met_end c.loop-m.met c.args.words.now c.loop-m.m-index c.loop-m.found (omega arith))
