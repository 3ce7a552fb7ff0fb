use Rattle.std.proofs.Common.{to_z, of_z, FitsSigned, refl, sym, subst, arith, rules}
use Rattle.std.proofs.lemmas.Int.{ints, to_z-of_z}
use Rattle.std.specs.Int.{w32, w64}
use Rattle.ti_base.specs.Ranges.{IsTidy}
use Rattle.ti_base.specs.Rects.{first_range}
use Rattle.ti_rect.specs.Axes.{range}
use Rattle.ti_rect.proofs.NextLaws.{next_same, first_beyond}
use Rattle.ti_rect.proofs.ReadBack.{clash, widened}
use Rattle.ti_rect.proofs.RectLaws.{tidy_first, full, on_same}
use Rattle.ti_rect.proofs.next.in_later_plane.Goals as goal

pub next_above-requires : goal.next_above-requires
next_above-requires c = subst IsTidy (sym c.first.ensures) (tidy_first c.args.rect.now c.requires.form)

pub returns-in-Some : goal.returns-in-Some
returns-in-Some c =
    let r = c.args.rect.now in
    let p = c.args.point.now in
    let fits : FitsSigned w32 c.in-Some.x1 = search rules in
    let f : FitsSigned w32 p.x1 = search rules in
    let g : FitsSigned w32 r.lo.x2 = search rules in
    let k : FitsSigned w32 r.lo.x3 = search rules in
    let h = full c.args.rect.now c.requires.form (λ e. clash c.is_empty.result (c.is_empty.ensures.1 e) c.if-is_empty.false) in
    first_beyond r p _ refl h (to_z-of_z w32 r.lo.x2 g) (to_z-of_z w32 r.lo.x3 k)
    (next_same (range c.first.result) (first_range r) (to_z w64 (of_z w64 c.from.result)) p.x1 c.in-Some.x1
    (to_z w32 (of_z w32 c.in-Some.x1)) c.first.ensures (widened p.x1 c.from.result f c.from.ensures)
    (sym (to_z-of_z w32 c.in-Some.x1 fits)) c.in-Some.ensures)

pub returns-in-None : goal.returns-in-None
returns-in-None c = λ q w less. let l = c.in-None.ensures q.x1 (on_same _ _ _ _ (sym c.first.ensures) refl w.first) in omega (arith, ints)
