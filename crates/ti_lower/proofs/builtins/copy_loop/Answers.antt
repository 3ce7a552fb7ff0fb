use Rattle.std.proofs.Common.{◌∙◌, ◌++◌, ap, arith}
use Rattle.ti_lower.proofs.Elementwise.{elements_copied}
use Rattle.ti_lower.proofs.builtins.copy_loop.Goals as goal

pub returns : goal.returns
returns c =
    c.in_ok-extend_from_slice.ensures.items
    ∙ ap (λ z. c.args.out.now.items ++ z)
    (elements_copied c.args.place c.args.first _ c.in_ok-read.read c.in_ok-written.written c.in_ok-point.point c.in_ok-u32_sum.field-0 c.in_ok-u32_sum-2.field-0 c.in_ok-u32_sum-3.field-0
    (omega (arith, c.in_ok-read.ensures.value)) (omega (arith, c.in_ok-written.ensures.value)) (omega (arith, c.in_ok-point.ensures.value))
    (omega (arith, c.len-at.ensures, c.in_ok-u32_sum.ensures.value)) (omega (arith, c.len-at.ensures, c.in_ok-u32_sum-2.ensures.value))
    (omega (arith, c.len-at.ensures, c.in_ok-u32_sum-3.ensures.value)))
