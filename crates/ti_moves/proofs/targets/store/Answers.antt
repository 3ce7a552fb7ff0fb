use Rattle.std.proofs.Common.{sym, subst}
use Rattle.ti_lang.specs.Meaning.Targets.{stored}
use Rattle.ti_eval.specs.Comes.{ComesAs}
use Rattle.ti_moves.specs.declared.outcomes.VarUpdate.{VarUpdate}
use Rattle.ti_moves.specs.declared.targets.Target.{Target}
use Rattle.ti_moves.specs.Outcomes.{update_variables}
use Rattle.ti_moves.specs.Targets.{target_of}
use Rattle.ti_moves.proofs.targets.store.Goals as goal

pub returns-in-Field : goal.returns-in-Field
returns-in-Field c = λ E through.
    subst (λ (t : Target). ComesAs (λ (d : VarUpdate). update_variables d E.variables) c.put_field.result (stored E c.args.place (target_of through t) c.args.value c.args.answers.now)) (sym c.in-Field.is)
    (c.put_field.ensures through E.variables)

pub returns : goal.returns
returns c = λ E through.
    subst (λ (t : Target). ComesAs (λ (d : VarUpdate). update_variables d E.variables) c.put_element.result (stored E c.args.place (target_of through t) c.args.value c.args.answers.now)) (sym c.in-Element.is)
    (c.put_element.ensures through E.variables)
