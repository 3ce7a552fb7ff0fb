use Rattle.std.proofs.Common.{sym, ap, ◌∙◌, refl}
use Rattle.std.proofs.lemmas.List.{append-nil}
use Rattle.ti_gen.specs.Source.{next, number_at, steps_text}
use Rattle.ti_gen.proofs.StepsMore.{next_twice, step_added}
use Rattle.ti_gen.proofs.source.add_steps.Goals as goal

pub loop-step-init : goal.loop-step-init
unfolding number_at steps_text
loop-step-init c = record { number = refl; text = sym (append-nil c.args.text.now.items) }

pub loop-step-preserved : goal.loop-step-preserved
loop-step-preserved c =
    let kept = c.loop-step.invariant in
    record {
      number = c.next_number-x.ensures ∙ ap next (c.next_number-first.ensures ∙ ap next kept.number) ∙ sym (next_twice c.args.seed c.loop-step.step);
      text = step_added c.args.text.now.items c.loop-step.text.items c.add_step.new.text.items c.args.seed c.loop-step.step c.loop-step.x c.next_number-first.result
          c.next_number-x.result kept.number c.next_number-first.ensures c.next_number-x.ensures c.in_ok-add_step.ensures kept.text;
    }
