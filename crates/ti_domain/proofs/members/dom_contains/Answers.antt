use Rattle.std.proofs.Common.{◌≡◌, true, false, ⊎_elim, refl, sym, ◌∙◌}
use Rattle.ti_base.specs.Rects.{IsIn}
use Rattle.ti_rect.proofs.Lemmas.{in_at, in_more}
use Rattle.ti_domain.proofs.StepLaws.{no_rect}
use Rattle.ti_domain.proofs.members.dom_contains.Goals as goal

pub returns-then-rect_contains : goal.returns-then-rect_contains
returns-then-rect_contains c = (
  λ t. (c.dom_pieces-pieces.ensures.members c.args.point.now).1
      (in_at IsIn c.dom_pieces-pieces.result.now c.loop-r.r-index no_rect c.loop-r-test.true c.args.point.now (c.rect_contains.ensures.0 c.if-rect_contains.true)),
  λ m. refl,
)

pub loop-r-preserved : goal.loop-r-preserved
loop-r-preserved c = λ m. ⊎_elim c.loop-r.invariant
    (λ w. let t = c.rect_contains.ensures.1 w in let f = c.if-rect_contains.false in let e : true ≡ false = sym t ∙ f in cc)
    ((in_more IsIn c.dom_pieces-pieces.result.now c.loop-r.r-index no_rect c.loop-r-test.true c.args.point.now).0 m)
