use Rattle.std.proofs.Common.{◌∙◌, ap, arith}
use Rattle.ti_base.specs.Rects.{points_of}
use Rattle.ti_lang.specs.Meaning.Copies.{element_at}
use Rattle.ti_lang.specs.Meaning.Operands.{same_points}
use Rattle.ti_eval.proofs.SameRects.{rects_told}
use Rattle.ti_eval.proofs.TeamRects.{of_none, of_some}
use Rattle.ti_eval.proofs.proc_domain.is_rect_of_procs.Goals as goal

pub returns-then-procs-eq0 : goal.returns-then-procs-eq0
returns-then-procs-eq0 c = of_none c.is_empty.result c.args.rect.now c.args.procs c.requires.form c.if-procs-eq0.true c.is_empty.ensures

pub returns-else-procs-eq0 : goal.returns-else-procs-eq0
returns-else-procs-eq0 c =
    let r = c.args.rect.now in
    let s = c.rect_of_procs.result in
    of_some c.eq.result r s (element_at 0) c.requires.form c.rect_of_procs.ensures.form (c.rect_of_procs.ensures.first (omega (arith, c.if-procs-eq0.false))) (rects_told c.eq.result r s c.eq.ensures)
    ∙ ap (λ t. same_points (points_of r) (points_of t)) c.rect_of_procs.ensures.value
