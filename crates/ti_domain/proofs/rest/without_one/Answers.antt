use Rattle.std.proofs.Common.{IfOk, sym, subst}
use Rattle.ti_base.specs.Rects.{IsIn}
use Rattle.ti_domain.specs.Pieces.{IsNonEmptyRect, ArePiecesOf, IsInSome}
use Rattle.ti_rect.proofs.Lemmas.{covers_same, covers_list}
use Rattle.ti_domain.proofs.rest.without_one.Goals as goal

pub returns-then-all_lie_apart : goal.returns-then-all_lie_apart
returns-then-all_lie_apart c =
    let rects = c.args.rects.items in
    let other = c.args.other.now in
    covers_same (IsNonEmptyRect other.dim) IsIn rects (IsInSome rects) (λ p. IsInSome rects p × (IsIn other p → ⊥))
    (covers_list (IsNonEmptyRect other.dim) IsIn rects c.requires.pieces.each c.requires.pieces.apart)
    (λ p. (λ m. (m, c.all_lie_apart.ensures c.if-all_lie_apart.true p (subst (λ l. IsInSome l p) (sym c.as_slice.ensures.value) m)), λ h. h.0))

pub returns : goal.returns
returns c =
    let other = c.args.other.now in
    subst (λ l. IfOk c.minus_one.result (λ v. ArePiecesOf other.dim v.items (λ p. IsInSome l p × (IsIn other p → ⊥)))) c.as_slice-2.ensures.value c.minus_one.ensures
