-- The slabs that are cut off a rectangle have exactly the points that aren't in the other.
use Rattle.std.proofs.Common.{◌≡◌, ◌⊎◌, inl, inr, ⊎_elim, ◌↔◌, ℕ, ◌<◌, ◌≤◌, ℤ, pos, Bool, true, false, List, ◌++◌, map, refl, sym, subst, ◌∙◌, arith}
use Rattle.ti_base.specs.declared.point.Point.{Point}
use Rattle.ti_base.specs.declared.point.Rect.{Rect}
use Rattle.ti_base.specs.Ranges.{Range, IsOn, is_on, IsRange, unused_range}
use Rattle.ti_base.specs.Rects.{HasPoints, IsIn, first_range, second_range, third_range}
use Rattle.ti_rect.specs.declared.axis.Axis.{Axis}
use Rattle.ti_rect.specs.Axes.{range}
use Rattle.ti_rect.proofs.Lemmas.{low_on, high_on, zero_on, unused_second, unused_third, at_first, at_second, at_third, on_from, on_to}
use Rattle.ti_rect.proofs.Lemmas.{covers_append, covers_same, covers_map}
use Rattle.ti_domain.specs.declared.cut.Coordinate.{Coordinate}
use Rattle.ti_domain.specs.declared.cut.Coordinate.TheVariants.{First, Second, Third}
use Rattle.ti_rect.specs.Parts.{IsOff, IsPart, IsOnPart, AreParts}
use Rattle.ti_domain.specs.Pieces.{IsNonEmptyRect, ArePiecesOf}
use Rattle.ti_domain.specs.Slabs.{coordinate_of, range_at, IsBeside, with_range}

-- ---- a number is on a range or not

pub decide_on : (r : Range) (x : ℤ) → 0 < r.step → IsOn r x ⊎ (IsOn r x → ⊥)
decide_on r x positive = by (is_on r x) refl
  where
    by : (b : Bool) → is_on r x ≡ b → IsOn r x ⊎ (IsOn r x → ⊥)
    by true e = inl (on_from r x positive e)
    by false e = inr (λ o. let f = on_to r x positive o in let c : true ≡ false = sym f ∙ e in cc)

-- ---- one coordinate

zero_ends : (g r : Range) → IsRange g → ((x : ℤ) → IsOn g x → IsOn r x) → r ≡ unused_range → (g.low ≡ pos 0) × (g.high ≡ pos 0)
zero_ends g r full sub e = (
  zero_on (pos 0) (pos 0) 1 g.low refl refl (subst (λ q. IsOn q g.low) e (sub g.low (low_on g full))),
  zero_on (pos 0) (pos 0) 1 g.high refl refl (subst (λ q. IsOn q g.high) e (sub g.high (high_on g full))),
)

-- a part of a piece in one coordinate alone
module _ (d : ℕ) (r : Rect) (is : IsNonEmptyRect d r) where
  filled_with : (k : Coordinate) (g : Range) → IsRange g → ((x : ℤ) → IsOn g x → IsOn (range_at k r) x) → HasPoints (with_range k g r)
  filled_with First g full sub =
      let h = is.filled in
      record {
        low = record { dim = h.low.dim; second = h.low.second; third = h.low.third };
        low_dim = h.low_dim;
        high = record { dim = h.high.dim; second = h.high.second; third = h.high.third };
        high_dim = h.high_dim;
        steps = refl;
        first = full;
        second = h.second;
        third = h.third;
      }
  filled_with Second g full sub =
      let h = is.filled in
      let zero : r.dim < 2 → (g.low ≡ pos 0) × (g.high ≡ pos 0) = λ l. zero_ends g (second_range r) full sub (unused_second r is.shape.form l) in
      record {
        low = record { dim = h.low.dim; second = λ l. (zero (omega (arith, h.low_dim))).0; third = h.low.third };
        low_dim = h.low_dim;
        high = record { dim = h.high.dim; second = λ l. (zero (omega (arith, h.high_dim))).1; third = h.high.third };
        high_dim = h.high_dim;
        steps = refl;
        first = h.first;
        second = full;
        third = h.third;
      }
  filled_with Third g full sub =
      let h = is.filled in
      let zero : r.dim < 3 → (g.low ≡ pos 0) × (g.high ≡ pos 0) = λ l. zero_ends g (third_range r) full sub (unused_third r is.shape.form l) in
      record {
        low = record { dim = h.low.dim; second = h.low.second; third = λ l. (zero (omega (arith, h.low_dim))).0 };
        low_dim = h.low_dim;
        high = record { dim = h.high.dim; second = h.high.second; third = λ l. (zero (omega (arith, h.high_dim))).1 };
        high_dim = h.high_dim;
        steps = refl;
        first = h.first;
        second = h.second;
        third = full;
      }

  same_dim : (k : Coordinate) (g : Range) → (with_range k g r).dim ≡ r.dim
  same_dim First g = refl
  same_dim Second g = refl
  same_dim Third g = refl

  pub piece_with : (k : Coordinate) (g : Range) → IsRange g → ((x : ℤ) → IsOn g x → IsOn (range_at k r) x) → IsNonEmptyRect d (with_range k g r)
  piece_with k g full sub =
      let h = filled_with k g full sub in
      record {
        shape = record {
          one_dim = same_dim k g ∙ is.shape.one_dim;
          form = (subst (λ n. (1 ≤ n) × (n ≤ 3)) (sym (same_dim k g)) is.shape.form.0, inr h);
        };
        filled = h;
      }

  in_with : (k : Coordinate) (g : Range) (p : Point) → IsIn (with_range k g r) p ↔ (IsOn g (coordinate_of k p) × IsBeside k r p)
  in_with First g p = (λ w. (w.first, (w.one_dim, w.second, w.third)), λ h. record { one_dim = h.1.0; first = h.0; second = h.1.1; third = h.1.2 })
  in_with Second g p = (λ w. (w.second, (w.one_dim, w.first, w.third)), λ h. record { one_dim = h.1.0; first = h.1.1; second = h.0; third = h.1.2 })
  in_with Third g p = (λ w. (w.third, (w.one_dim, w.first, w.second)), λ h. record { one_dim = h.1.0; first = h.1.1; second = h.1.2; third = h.0 })

  in_at : (k : Coordinate) (p : Point) → IsIn r p ↔ (IsOn (range_at k r) (coordinate_of k p) × IsBeside k r p)
  in_at First p = (λ w. (w.first, (w.one_dim, w.second, w.third)), λ h. record { one_dim = h.1.0; first = h.0; second = h.1.1; third = h.1.2 })
  in_at Second p = (λ w. (w.second, (w.one_dim, w.first, w.third)), λ h. record { one_dim = h.1.0; first = h.1.1; second = h.0; third = h.1.2 })
  in_at Third p = (λ w. (w.third, (w.one_dim, w.first, w.second)), λ h. record { one_dim = h.1.0; first = h.1.1; second = h.1.2; third = h.0 })

  pub range_full : (k : Coordinate) → IsRange (range_at k r)
  range_full First = is.filled.first
  range_full Second = is.filled.second
  range_full Third = is.filled.third

  pub slab_pieces : (k : Coordinate) (c : Range) (parts : List Axis) → AreParts parts (IsOff (range_at k r) c)
      → ArePiecesOf d (map (λ g. with_range k (range g) r) parts) (λ p. IsIn r p × (IsOn c (coordinate_of k p) → ⊥))
  slab_pieces k c parts cover = covers_same (IsNonEmptyRect d) IsIn (map (λ g. with_range k (range g) r) parts)
      (λ p. IsOff (range_at k r) c (coordinate_of k p) × IsBeside k r p) (λ p. IsIn r p × (IsOn c (coordinate_of k p) → ⊥))
      (covers_map IsPart IsOnPart (IsNonEmptyRect d) IsIn (λ g. with_range k (range g) r) (coordinate_of k) (IsBeside k r) parts (IsOff (range_at k r) c) cover
      (λ a full sub. record { good = piece_with k (range a) full (λ x o. (sub x o).0); has = in_with k (range a) }))
      (λ p. (
        λ h. ((in_at k p).1 (h.0.0, h.1), h.0.1),
        λ h. let s = (in_at k p).0 h.0 in ((s.0, h.1), s.1),
      ))

-- ---- a piece that is a part of another

module _ (d : ℕ) (r m : Rect) (is : IsNonEmptyRect d r) (part : IsNonEmptyRect d m) (inside : (p : Point) → IsIn m p → IsIn r p) where
  pub inside_first : (x : ℤ) → IsOn (first_range m) x → IsOn (first_range r) x
  inside_first x o = (inside _ (at_first m part.filled x o)).first

  pub inside_second : (x : ℤ) → IsOn (second_range m) x → IsOn (second_range r) x
  inside_second x o = (inside _ (at_second m part.filled x o)).second

  pub inside_third : (x : ℤ) → IsOn (third_range m) x → IsOn (third_range r) x
  inside_third x o = (inside _ (at_third m part.filled x o)).third

  abbrev pub the_plane : Rect
  the_plane = with_range First (first_range m) r

  abbrev pub the_row : Rect
  the_row = with_range Second (second_range m) the_plane

  pub plane_piece : IsNonEmptyRect d the_plane
  plane_piece = piece_with d r is First (first_range m) part.filled.first inside_first

  pub row_piece : IsNonEmptyRect d the_row
  row_piece = piece_with d the_plane plane_piece Second (second_range m) part.filled.second inside_second

  -- the points that leave the part in the first coordinate, in the second and in the third are all outside of it
  pub cut_pieces : (planes rows points : List Rect) → ArePiecesOf d planes (λ p. IsIn r p × (IsOn (first_range m) p.x1 → ⊥))
      → ArePiecesOf d rows (λ p. IsIn the_plane p × (IsOn (second_range m) p.x2 → ⊥)) → ArePiecesOf d points (λ p. IsIn the_row p × (IsOn (third_range m) p.x3 → ⊥))
      → ArePiecesOf d ((planes ++ rows) ++ points) (λ p. IsIn r p × (IsIn m p → ⊥))
  cut_pieces planes rows points a b c =
      let P : Point → Type 0 = λ p. IsIn r p × (IsOn (first_range m) p.x1 → ⊥) in
      let Q : Point → Type 0 = λ p. IsIn the_plane p × (IsOn (second_range m) p.x2 → ⊥) in
      let S : Point → Type 0 = λ p. IsIn the_row p × (IsOn (third_range m) p.x3 → ⊥) in
      covers_append (IsNonEmptyRect d) IsIn (planes ++ rows) points (λ p. P p ⊎ Q p) S (λ p. IsIn r p × (IsIn m p → ⊥))
      (covers_append (IsNonEmptyRect d) IsIn planes rows P Q (λ p. P p ⊎ Q p) a b (λ p x y. x.1 y.0.first) (λ p. (λ h. h, λ h. h)))
      c
      (λ p x y. ⊎_elim (λ h. h.1 y.0.first) (λ h. h.1 y.0.second) x)
      (λ p. (forth p, λ h. back p h.0 h.1))
    where
      forth : (p : Point) → ((IsIn r p × (IsOn (first_range m) p.x1 → ⊥)) ⊎ (IsIn the_plane p × (IsOn (second_range m) p.x2 → ⊥))) ⊎ (IsIn the_row p × (IsOn (third_range m) p.x3 → ⊥))
          → IsIn r p × (IsIn m p → ⊥)
      forth p (inl (inl h)) = (h.0, λ w. h.1 w.first)
      forth p (inl (inr h)) = (record { one_dim = h.0.one_dim; first = inside_first p.x1 h.0.first; second = h.0.second; third = h.0.third }, λ w. h.1 w.second)
      forth p (inr h) =
          (record { one_dim = h.0.one_dim; first = inside_first p.x1 h.0.first; second = inside_second p.x2 h.0.second; third = h.0.third }, λ w. h.1 w.third)

      back : (p : Point) → IsIn r p → (IsIn m p → ⊥)
          → ((IsIn r p × (IsOn (first_range m) p.x1 → ⊥)) ⊎ (IsIn the_plane p × (IsOn (second_range m) p.x2 → ⊥))) ⊎ (IsIn the_row p × (IsOn (third_range m) p.x3 → ⊥))
      back p w out = ⊎_elim
          (λ f. ⊎_elim
          (λ g. ⊎_elim
          (λ h. absurd (out record { one_dim = w.one_dim ∙ is.shape.one_dim ∙ sym part.shape.one_dim; first = f; second = g; third = h }))
          (λ n. inr (record { one_dim = w.one_dim; first = f; second = g; third = w.third }, n))
          (decide_on (third_range m) p.x3 part.filled.third.forward))
          (λ n. inl (inr (record { one_dim = w.one_dim; first = f; second = w.second; third = w.third }, n)))
          (decide_on (second_range m) p.x2 part.filled.second.forward))
          (λ n. inl (inl (w, n)))
          (decide_on (first_range m) p.x1 part.filled.first.forward)
