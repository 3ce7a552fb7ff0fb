-- Proves that the points of rectangular domains are those in their lists.
use Rattle.std.proofs.Common.{◌≡◌, inl, inr, ℕ, List, [], ◌∷◌, Option, IfSome, refl}
use Rattle.ti_base.specs.declared.point.Point.{Point}
use Rattle.ti_base.specs.declared.point.Rect.{Rect}
use Rattle.ti_base.specs.Points.{IsPoint}
use Rattle.ti_base.specs.PointSets.{IsAmong, AllOf, IsDomain}
use Rattle.ti_base.specs.Rects.{IsRect, IsIn, points_of}
use Rattle.ti_rect.proofs.Lemmas.{points_listed, point_in}
use Rattle.ti_domain.specs.Walks.{IsNextPoint}
use Rattle.ti_domain.proofs.Lemmas as next

all_dim : (d : ℕ) (ps : List Point) → ((p : Point) → IsAmong ps p → p.dim ≡ d) → AllOf d ps
all_dim d [] h = tt
all_dim d (p ∷ ps) h = (h p (inl refl), all_dim d ps (λ q m. h q (inr m)))

module _ (r : Rect) (f : IsRect r) where
  pub list_of_rect : IsDomain r.dim (points_of r)
  list_of_rect =
      let l = points_listed r f in
      record { one_dim = all_dim r.dim (points_of r) (λ p m. ((l.has p).0 m).one_dim); rises = l.rises }

  pub next_listed : (p q : Option Point) → IsNextPoint (IsIn r) p q → IsNextPoint (IsAmong (points_of r)) p q
  next_listed p q n =
      let l = points_listed r f in
      next.next_same (IsIn r) (IsAmong (points_of r)) p q (λ x. ((l.has x).1, (l.has x).0)) n

  pub next_formed : (p q : Option Point) → IsNextPoint (IsIn r) p q → IfSome q IsPoint
  next_formed p q n = next.next_point (IsIn r) p q (λ x w. point_in r x f w) n
