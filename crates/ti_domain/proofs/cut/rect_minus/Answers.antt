use Rattle.std.proofs.Common.{◌≡◌, sym, subst}
use Rattle.std.proofs.lemmas.Result.{IfOk-weaker}
use Rattle.ti_base.specs.Rects.{IsIn}
use Rattle.ti_rect.proofs.Lemmas.{none_in, covers_same}
use Rattle.ti_domain.specs.Domains.{one_piece}
use Rattle.ti_domain.specs.Pieces.{IsNonEmptyRect, ArePiecesOf}
use Rattle.ti_domain.proofs.SetLaws.{alone_covers}
use Rattle.ti_domain.proofs.cut.rect_minus.Goals as goal

pub cut-requires-clause-inside : goal.cut-requires-clause-inside
cut-requires-clause-inside c = λ p w. ((c.rect_meet-common.ensures.points p).0 w).0

pub returns-then-is_empty : goal.returns-then-is_empty
returns-then-is_empty c =
    let r = c.args.rect.now in
    let other = c.args.other.now in
    let e = c.is_empty.ensures.0 c.if-is_empty.true in
    IfOk-weaker c.piece_of.result (λ v. v.items ≡ one_piece r) (λ v. ArePiecesOf r.dim v.items (λ p. IsIn r p × (IsIn other p → ⊥)))
    (λ v is. subst (λ l. ArePiecesOf r.dim l (λ p. IsIn r p × (IsIn other p → ⊥))) (sym is)
    (covers_same (IsNonEmptyRect r.dim) IsIn (one_piece r) (IsIn r) (λ p. IsIn r p × (IsIn other p → ⊥)) (alone_covers r.dim r c.requires.piece.shape)
    (λ p. (λ w. (w, λ o. none_in c.rect_meet-common.result e p ((c.rect_meet-common.ensures.points p).1 (w, o))), λ h. h.0))))
    c.piece_of.ensures

pub returns-else-is_empty : goal.returns-else-is_empty
returns-else-is_empty c =
    let r = c.args.rect.now in
    let other = c.args.other.now in
    let common = c.rect_meet-common.result in
    IfOk-weaker c.cut.result (λ v. ArePiecesOf r.dim v.items (λ p. IsIn r p × (IsIn common p → ⊥))) (λ v. ArePiecesOf r.dim v.items (λ p. IsIn r p × (IsIn other p → ⊥)))
    (λ v h. covers_same (IsNonEmptyRect r.dim) IsIn v.items (λ p. IsIn r p × (IsIn common p → ⊥)) (λ p. IsIn r p × (IsIn other p → ⊥)) h
    (λ p. let t = c.rect_meet-common.ensures.points p in (λ x. (x.0, λ o. x.1 (t.1 (x.0, o))), λ x. (x.0, λ m. x.1 (t.0 m).1))))
    c.cut.ensures
