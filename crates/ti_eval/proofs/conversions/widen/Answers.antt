use Rattle.std.proofs.Common.{◌∙◌, ap, Err}
use Rattle.ti_eval.proofs.Sizes.{widens, too_wide}
use Rattle.ti_eval.proofs.conversions.widen.Goals as goal

pub returns-in-Ok-clause-came : goal.returns-in-Ok-clause-came
returns-in-Ok-clause-came c =
    widens c.args.place c.args.rect.now c.in-Ok.d c.args.answers.now (λ h. let e = c.in-Ok.ensures.large.1 h in cc) c.in-Ok.ensures.dim c.in-Ok.ensures.points

pub returns-in-Err-TooLarge-clause-came : goal.returns-in-Err-TooLarge-clause-came
returns-in-Err-TooLarge-clause-came c =
    too_wide c.args.place c.args.rect.now c.args.answers.now (c.dom_of.ensures.large.0 (c.in-Err-TooLarge.is ∙ ap Err c.in-Err-TooLarge.field-0-is))
