use Rattle.std.proofs.Common.{◌++◌, codes, decimal, ap, ◌∙◌}
use Rattle.ti_gen.specs.Source.{step_text}
use Rattle.ti_gen.proofs.StepsMore.{step_parts}
use Rattle.ti_gen.proofs.source.add_step.Goals as goal

pub returns : goal.returns
unfolding step_text
returns c =
    step_parts c.args.text.now.items
    c.extend_from_slice.new.self.items
    c.extend_from_slice-2.new.self.items
    c.extend_from_slice-3.new.self.items
    c.extend_from_slice-4.new.self.items
    c.extend_from_slice-5.new.self.items
    c.extend_from_slice-6.new.self.items
    (codes "    foreach (p in a.domain()) a[p] = a[p] + ")
    (decimal c.args.factor)
    (codes " * (me + p[1]);\n")
    (codes "    Ti.barrier();\n")
    (codes "    s = s + all[(me + 1) % n][")
    (decimal c.args.index)
    (codes "];\n")
    (codes "    Ti.barrier();\n")
    c.in_ok-extend_from_slice.ensures.items
    (c.in_ok-extend_from_slice-2.ensures.items ∙ ap (λ digits. c.extend_from_slice.new.self.items ++ digits) (c.as_bytes.ensures.value ∙ c.format.ensures.text))
    c.in_ok-extend_from_slice-3.ensures.items
    c.in_ok-extend_from_slice-4.ensures.items
    (c.in_ok-extend_from_slice-5.ensures.items ∙ ap (λ digits. c.extend_from_slice-4.new.self.items ++ digits) (c.as_bytes-2.ensures.value ∙ c.format-2.ensures.text))
    c.in_ok-extend_from_slice-6.ensures.items
