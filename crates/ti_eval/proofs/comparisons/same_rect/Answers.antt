use Rattle.std.proofs.Common.{◌∙◌, sym}
use Rattle.ti_eval.proofs.Points.{rects_differ, rects_same, rect_from, low_differs, high_differs, step_differs}
use Rattle.ti_eval.proofs.comparisons.same_rect.Goals as goal

pub returns-then-not-same_point : goal.returns-then-not-same_point
returns-then-not-same_point c =
    let r = c.args.rect.now in
    let s = c.args.other.now in
    rects_differ r s c.requires.first c.requires.second c.requires.dim (low_differs r s (sym c.same_point.ensures ∙ c.if-not-same_point.true))

pub returns-then-not-same_point-2 : goal.returns-then-not-same_point-2
returns-then-not-same_point-2 c =
    let r = c.args.rect.now in
    let s = c.args.other.now in
    rects_differ r s c.requires.first c.requires.second c.requires.dim (high_differs r s (sym c.same_point-2.ensures ∙ c.if-not-same_point-2.true))

pub returns-then-rect-other : goal.returns-then-rect-other
returns-then-rect-other c =
    let r = c.args.rect.now in
    let s = c.args.other.now in
    rects_differ r s c.requires.first c.requires.second c.requires.dim (step_differs r s 0 c.if-rect-other.true)

pub returns-then-rect-other-2 : goal.returns-then-rect-other-2
returns-then-rect-other-2 c =
    let r = c.args.rect.now in
    let s = c.args.other.now in
    rects_differ r s c.requires.first c.requires.second c.requires.dim (step_differs r s 1 c.if-rect-other-2.true)

pub returns-then-rect-other-3 : goal.returns-then-rect-other-3
returns-then-rect-other-3 c =
    let r = c.args.rect.now in
    let s = c.args.other.now in
    rects_differ r s c.requires.first c.requires.second c.requires.dim (step_differs r s 2 c.if-rect-other-3.true)

pub returns : goal.returns
returns c =
    let r = c.args.rect.now in
    let s = c.args.other.now in
    let e = rect_from r s c.requires.first c.requires.second c.requires.dim (sym c.same_point.ensures ∙ c.if-not-same_point.false)
    (sym c.same_point-2.ensures ∙ c.if-not-same_point-2.false) c.if-rect-other.false c.if-rect-other-2.false c.if-rect-other-3.false in
    rects_same r s e
