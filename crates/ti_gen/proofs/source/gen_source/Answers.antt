use Rattle.std.proofs.Common.{◌++◌, ap, ◌∙◌}
use Rattle.ti_gen.specs.Source.{first_lines, last_lines, step_total, steps_text, source_text}
use Rattle.ti_gen.proofs.source.gen_source.Goals as goal

pub returns : goal.returns
unfolding source_text
returns c =
    c.in_ok-extend_from_slice-2.ensures.items
    ∙ ap (λ text. text ++ last_lines) (c.in_ok-add_steps.ensures
    ∙ ap (λ text. text ++ steps_text c.args.seed step_total) (c.in_ok-extend_from_slice.ensures.items
    ∙ ap (λ text. text ++ first_lines) c.new-text.ensures.items))
