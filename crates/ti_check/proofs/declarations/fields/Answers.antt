use Rattle.std.proofs.Common.{sym, ap, ◌∙◌, arith}
use Rattle.ti_rules.specs.Mirrors.First.{earlier_of, earliest}
use Rattle.ti_rules.specs.TypeRules.{field_refusals}
use Rattle.ti_lang.specs.Program.Views.{numbered_field_of}
use Rattle.ti_types.proofs.Lemmas.{none_sooner, seen_step, seen_end}
use Rattle.ti_check.proofs.declarations.fields.Goals as goal

pub loop-f-init : goal.loop-f-init
loop-f-init c = none_sooner _

pub loop-f-preserved : goal.loop-f-preserved
loop-f-preserved c = c.loop-f.invariant ∙ seen_step numbered_field_of field_refusals c.args.fields.now c.loop-f.f-index c.f-item.result
    c.loop-f.found c.earlier_of-found.result (omega arith) (c.earlier_of-found.ensures
    ∙ ap (earlier_of c.loop-f.found) (c.field.ensures ∙ ap (λ z. earliest (field_refusals (numbered_field_of z))) c.f-item.is))

pub returns : goal.returns
returns c = sym (c.loop-f.invariant ∙ seen_end numbered_field_of field_refusals c.args.fields.now c.loop-f.f-index c.loop-f.found (omega arith))
