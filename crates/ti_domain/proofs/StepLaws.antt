-- What the loops over lists of rectangles keep from one iteration to the next.
use Rattle.std.proofs.Common.{◌≡◌, inl, inr, ⊎_elim, ◌↔◌, ℕ, ◌+◌, ◌<◌, pos, List, [], ◌++◌, All, length, get_or, take, refl, sym, subst, ◌∙◌}
use Rattle.ti_base.specs.declared.point.Point.{Point}
use Rattle.ti_base.specs.declared.point.Rect.{Rect}
use Rattle.ti_base.specs.Rects.{IsRect, IsIn}
use Rattle.ti_domain.specs.Domains.{one_piece}
use Rattle.ti_domain.specs.Pieces.{IsNonEmptyRect, IsInSome, ArePieces, ArePiecesOf}
use Rattle.ti_rect.proofs.Lemmas.{in_more, apart_more, covers_append, covers_same}
use Rattle.ti_domain.proofs.SetLaws.{alone_covers}

-- what stands for an item beyond the end of a list
abbrev pub no_rect : Rect
no_rect = record {
  dim = 0;
  lo = record { dim = 0; x1 = pos 0; x2 = pos 0; x3 = pos 0 };
  hi = record { dim = 0; x1 = pos 0; x2 = pos 0; x3 = pos 0 };
  step = [];
}

module _ (d : ℕ) (rs : List Rect) (i : ℕ) (h : i < length rs) where
  -- the members of one more rectangle that meet a condition
  pub pieces_more : ArePieces d rs → (K : Point → Type 0) (so_far parts v : List Rect) → ArePiecesOf d so_far (λ p. IsInSome (take i rs) p × K p)
      → ArePiecesOf (get_or rs i no_rect).dim parts (λ p. IsIn (get_or rs i no_rect) p × K p) → v ≡ so_far ++ parts → ArePiecesOf d v (λ p. IsInSome (take (i + 1) rs) p × K p)
  pieces_more is K so_far parts v a b e =
      let r = get_or rs i no_rect in
      let b' : ArePiecesOf d parts (λ p. IsIn r p × K p) = subst (λ n. ArePiecesOf n parts (λ p. IsIn r p × K p)) (is.each i no_rect h).shape.one_dim b in
      subst (λ l. ArePiecesOf d l (λ p. IsInSome (take (i + 1) rs) p × K p)) (sym e)
      (covers_append (IsNonEmptyRect d) IsIn so_far parts (λ p. IsInSome (take i rs) p × K p) (λ p. IsIn r p × K p) (λ p. IsInSome (take (i + 1) rs) p × K p) a b'
      (λ p x y. apart_more IsIn rs i no_rect h is.apart p x.0 y.0)
      (λ p. let m = in_more IsIn rs i no_rect h p in (
        ⊎_elim (λ x. (m.1 (inl x.0), x.1)) (λ y. (m.1 (inr y.0), y.1)),
        λ k. ⊎_elim (λ x. inl (x, k.1)) (λ y. inr (y, k.1)) (m.0 k.0),
      )))

  -- the meet with one more rectangle
  pub meets_more : ArePieces d rs → (r both : Rect) (so_far v : List Rect) → r.dim ≡ d → ArePiecesOf d so_far (λ p. IsIn r p × IsInSome (take i rs) p)
      → IsRect both → both.dim ≡ r.dim → ((p : Point) → IsIn both p ↔ (IsIn r p × IsIn (get_or rs i no_rect) p)) → v ≡ so_far ++ one_piece both
      → ArePiecesOf d v (λ p. IsIn r p × IsInSome (take (i + 1) rs) p)
  meets_more is r both so_far v rd a form dim has e =
      let item = get_or rs i no_rect in
      let turned = covers_same (IsNonEmptyRect d) IsIn so_far (λ p. IsIn r p × IsInSome (take i rs) p) (λ p. IsInSome (take i rs) p × IsIn r p) a (λ p. (λ x. (x.1, x.0), λ x. (x.1, x.0))) in
      let more : ArePiecesOf item.dim (one_piece both) (λ p. IsIn item p × IsIn r p) =
      subst (λ n. ArePiecesOf n (one_piece both) (λ p. IsIn item p × IsIn r p)) (dim ∙ rd ∙ sym (is.each i no_rect h).shape.one_dim)
      (covers_same (IsNonEmptyRect both.dim) IsIn (one_piece both) (IsIn both) (λ p. IsIn item p × IsIn r p) (alone_covers both.dim both record { one_dim = refl; form = form })
      (λ p. let t = has p in (λ w. let k = t.0 w in (k.1, k.0), λ k. t.1 (k.1, k.0)))) in
      covers_same (IsNonEmptyRect d) IsIn v (λ p. IsInSome (take (i + 1) rs) p × IsIn r p) (λ p. IsIn r p × IsInSome (take (i + 1) rs) p)
      (pieces_more is (IsIn r) so_far (one_piece both) v turned more e) (λ p. (λ x. (x.1, x.0), λ x. (x.1, x.0)))

  -- without the members of one more rectangle
  pub less_more : All (IsNonEmptyRect d) rs → (K : Point → Type 0) (left v : List Rect) → ArePiecesOf d left (λ p. K p × (IsInSome (take i rs) p → ⊥))
      → ArePiecesOf (get_or rs i no_rect).dim v (λ p. IsInSome left p × (IsIn (get_or rs i no_rect) p → ⊥)) → ArePiecesOf d v (λ p. K p × (IsInSome (take (i + 1) rs) p → ⊥))
  less_more each K left v a b =
      let r = get_or rs i no_rect in
      let b' : ArePiecesOf d v (λ p. IsInSome left p × (IsIn r p → ⊥)) = subst (λ n. ArePiecesOf n v (λ p. IsInSome left p × (IsIn r p → ⊥))) (each i no_rect h).shape.one_dim b in
      covers_same (IsNonEmptyRect d) IsIn v (λ p. IsInSome left p × (IsIn r p → ⊥)) (λ p. K p × (IsInSome (take (i + 1) rs) p → ⊥)) b'
      (λ p. let m = in_more IsIn rs i no_rect h p in (
        λ x. let l = (a.has p).0 x.0 in (l.0, λ n. ⊎_elim l.1 x.1 (m.0 n)),
        λ y. ((a.has p).1 (y.0, λ n. y.1 (m.1 (inl n))), λ w. y.1 (m.1 (inr w))),
      ))
