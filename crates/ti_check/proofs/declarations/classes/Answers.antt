use Rattle.std.proofs.Common.{sym, ap, ◌∙◌, arith}
use Rattle.ti_rules.specs.Mirrors.First.{earlier_of, earliest}
use Rattle.ti_rules.specs.TypeRules.{class_refusals}
use Rattle.ti_lang.specs.Program.Views.{numbered_class_of}
use Rattle.ti_types.proofs.Lemmas.{none_sooner, seen_step, seen_end}
use Rattle.ti_check.proofs.declarations.classes.Goals as goal

pub loop-c-init : goal.loop-c-init
loop-c-init c = none_sooner _

pub loop-c-preserved : goal.loop-c-preserved
loop-c-preserved c = c.loop-c.invariant ∙ seen_step numbered_class_of class_refusals c.args.classes.now c.loop-c.c-index c.c-item.result
    c.loop-c.found c.earlier_of-found.result (omega arith) (c.earlier_of-found.ensures
    ∙ ap (earlier_of c.loop-c.found) (c.class.ensures ∙ ap (λ z. earliest (class_refusals (numbered_class_of z))) c.c-item.is))

pub returns : goal.returns
returns c = sym (c.loop-c.invariant ∙ seen_end numbered_class_of class_refusals c.args.classes.now c.loop-c.c-index c.loop-c.found (omega arith))
