use Rattle.std.proofs.Common.{sym, ap, ◌∙◌, arith}
use Rattle.ti_rules.specs.Mirrors.First.{earlier_of}
use Rattle.ti_rules.specs.Broken.Words.{field_modifier_refusals}
use Rattle.ti_types.proofs.Lemmas.{none_sooner, each_step, each_end}
use Rattle.ti_check.proofs.modifiers.field_modifiers.Goals as goal

pub loop-m-init : goal.loop-m-init
loop-m-init c = none_sooner _

pub loop-m-preserved : goal.loop-m-preserved
loop-m-preserved c = c.loop-m.invariant ∙ each_step field_modifier_refusals c.args.words.now c.loop-m.m-index _ c.loop-m.found
    c.earlier_of-found.result (omega arith) (c.earlier_of-found.ensures ∙ ap (earlier_of c.loop-m.found) c.field_modifier.ensures)

pub returns : goal.returns
returns c = sym (c.loop-m.invariant ∙ each_end field_modifier_refusals c.args.words.now c.loop-m.m-index c.loop-m.found (omega arith))
