use Rattle.std.proofs.Common.{◌∙◌, ap, sym, subst, is_err}
use Rattle.ti_base.specs.declared.point.Point.{Point}
use Rattle.ti_base.specs.Rects.{HasBadStride}
use Rattle.ti_lang.specs.Meaning.Literals.{point_of_numbers}
use Rattle.ti_eval.specs.Bounds.{bounds_of}
use Rattle.ti_eval.proofs.LiteralLaws.{no_bad_stride}
use Rattle.ti_eval.proofs.literals.rect_of.Goals as goal

pub unreachable-requires : goal.unreachable-requires
unreachable-requires c =
    let e = c.point_of_numbers-step.ensures.value ∙ ap point_of_numbers c.deref-3.ensures.value in
    let bad = c.rect_make.ensures.stride.0 (ap is_err c.in-Err.is) in
    no_bad_stride (bounds_of c.args.bounds.now) (sym c.is_even.ensures ∙ c.if-not-is_even.false) c.requires (subst (λ (p : Point). HasBadStride p) e bad)
