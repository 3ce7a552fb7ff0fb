-- Lists of rectangles for unions, differences and intersections have the points that they should.
use Rattle.std.proofs.Common.{◌≡◌, ◌⊎◌, inl, inr, ⊎_elim, ◌↔◌, ℕ, ◌+◌, ◌≤◌, Bool, true, false, not, List, [], ◌∷◌, ◌++◌, All, map, length, sum_by, if◌then◌else◌, ◌≤ℤ◌, refl, sym, ap, subst, ◌∙◌, arith}
use Rattle.std.proofs.lemmas.Int.{ints}
use Rattle.std.specs.List.{flat_map}
use Rattle.std.proofs.lemmas.List.Elements.{All-head, All-tail}
use Rattle.std.proofs.lemmas.List.Sums.{sum_by-cons, sum_by-append}
use Rattle.ti_base.specs.declared.point.Point.{Point}
use Rattle.ti_base.specs.declared.point.Rect.{Rect}
use Rattle.ti_base.specs.Points.{IsDim}
use Rattle.ti_base.specs.PointSets.{IsAmong, IsListOf, is_among, union, minus}
use Rattle.ti_base.specs.PointSets as sets
use Rattle.ti_base.specs.Rects.{IsRect, HasPoints, IsIn, is_in, meet, points_of, empty_rect, first_range, second_range, third_range}
use Rattle.ti_base.specs.Ranges.{Range, IsRange}
use Rattle.ti_base.proofs.Lemmas.{union_lists, meet_lists, minus_lists}
use Rattle.ti_rect.proofs.Lemmas.{meet_points, points_listed, none_in, full_of, in_tests, covers_none, covers_one, covers_append}
use Rattle.ti_rect.proofs.Lemmas.{covers_map, covers_list}
use Rattle.ti_rect.specs.Families.{AreApart, Covers}
use Rattle.ti_domain.specs.Pieces.{IsShape, IsNonEmptyRect, IsInSome, ArePieces, ArePiecesOf, points_in, point_count, total_count}
use Rattle.ti_domain.specs.Domains.{Domain, IsDom, IsKept, one_piece}
use Rattle.ti_domain.proofs.PieceLaws.{one_of, listed, shapes, length_in, length_filter}

-- ---- a point is in one of the rectangles or in none

decide_in : (r : Rect) (p : Point) (d : ℕ) → IsShape d r → IsIn r p ⊎ (IsIn r p → ⊥)
decide_in r p d s = by (is_in r p) refl
  where
    by : (b : Bool) → is_in r p ≡ b → IsIn r p ⊎ (IsIn r p → ⊥)
    by true e = inl ((in_tests r p s.form).0 e)
    by false e = inr (λ w. let f = (in_tests r p s.form).1 w in let c : true ≡ false = sym f ∙ e in cc)

pub decide_some : (d : ℕ) (rs : List Rect) (p : Point) → All (IsShape d) rs → IsInSome rs p ⊎ (IsInSome rs p → ⊥)
decide_some d [] p h = inr (λ m. m)
decide_some d (r ∷ rs) p h = ⊎_elim (λ w. inl (inl w))
    (λ n. ⊎_elim (λ m. inl (inr m)) (λ k. inr (⊎_elim n k)) (decide_some d rs p (All-tail (IsShape d) r rs h)))
    (decide_in r p d (All-head (IsShape d) r rs h))

-- ---- lists of the points

module _ (d : ℕ) (a b : List Rect) (left : ArePieces d a) (right : ArePieces d b) where
  abbrev list_a : IsListOf (IsInSome a) (points_in a)
  list_a = (listed d a (shapes d a left.each)).0

  abbrev list_b : IsListOf (IsInSome b) (points_in b)
  list_b = (listed d b (shapes d b right.each)).0

  pub points_minus : (v : List Rect) → ArePiecesOf d v (λ p. IsInSome a p × (IsInSome b p → ⊥)) → points_in v ≡ minus (points_in a) (points_in b)
  points_minus v c = one_of (IsInSome v) (λ p. IsAmong (points_in a) p × (IsAmong (points_in b) p → ⊥)) (points_in v) (minus (points_in a) (points_in b))
      (λ p. (
        λ m. let h = (c.has p).0 m in ((list_a.has p).1 h.0, λ n. h.1 ((list_b.has p).0 n)),
        λ h. (c.has p).1 ((list_a.has p).0 h.0, λ n. h.1 ((list_b.has p).1 n)),
      ))
      (listed d v (shapes d v c.good)).0 (minus_lists (points_in a) (points_in b) list_a.rises)

  pub points_meet : (v : List Rect) → All (IsShape d) v → ((p : Point) → IsInSome v p ↔ (IsInSome a p × IsInSome b p)) → points_in v ≡ sets.meet (points_in a) (points_in b)
  points_meet v good has = one_of (IsInSome v) (λ p. IsAmong (points_in a) p × IsAmong (points_in b) p) (points_in v) (sets.meet (points_in a) (points_in b))
      (λ p. (
        λ m. let h = (has p).0 m in ((list_a.has p).1 h.0, (list_b.has p).1 h.1),
        λ h. (has p).1 ((list_a.has p).0 h.0, (list_b.has p).0 h.1),
      ))
      (listed d v good).0 (meet_lists (points_in a) (points_in b) list_a.rises)

  -- the pieces of the first and what the second has beyond it
  pub union_covers : (more : List Rect) → ArePiecesOf d more (λ p. IsInSome b p × (IsInSome a p → ⊥)) → ArePiecesOf d (a ++ more) (λ p. IsInSome a p ⊎ IsInSome b p)
  union_covers more c = covers_append (IsNonEmptyRect d) IsIn a more (IsInSome a) (λ p. IsInSome b p × (IsInSome a p → ⊥)) (λ p. IsInSome a p ⊎ IsInSome b p)
      (covers_list (IsNonEmptyRect d) IsIn a left.each left.apart) c
      (λ p m n. n.1 m)
      (λ p. (
        ⊎_elim inl (λ n. inr n.0),
        ⊎_elim inl (λ n. ⊎_elim inl (λ out. inr (n, out)) (decide_some d a p (shapes d a left.each))),
      ))

  pub points_union : (v : List Rect) → ArePiecesOf d v (λ p. IsInSome a p ⊎ IsInSome b p) → points_in v ≡ union (points_in a) (points_in b)
  points_union v c = one_of (IsInSome v) (λ p. IsAmong (points_in a) p ⊎ IsAmong (points_in b) p) (points_in v) (union (points_in a) (points_in b))
      (λ p. (
        λ m. ⊎_elim (λ x. inl ((list_a.has p).1 x)) (λ x. inr ((list_b.has p).1 x)) ((c.has p).0 m),
        λ h. (c.has p).1 (⊎_elim (λ x. inl ((list_a.has p).0 x)) (λ x. inr ((list_b.has p).0 x)) h),
      ))
      (listed d v (shapes d v c.good)).0
      (union_lists d (points_in a) (points_in b) (listed d a (shapes d a left.each)).1 (listed d b (shapes d b right.each)).1 list_a.rises)

pub pieces_of : (d : ℕ) (v : List Rect) (P : Point → Type 0) → ArePiecesOf d v P → ArePieces d v
pieces_of d v P c = record { each = c.good; apart = c.apart }

pub count_of : (d : ℕ) (v : List Rect) → ArePieces d v → length (points_in v) ≡ total_count v
count_of d v c = length_in d v (shapes d v c.each) c.apart

pub kept_minus : (d : ℕ) (a b v : List Rect) → IsDim d → ArePieces d a → ArePieces d b → length (points_in a) ≤ 1048576
    → ArePiecesOf d v (λ p. IsInSome a p × (IsInSome b p → ⊥)) → IsKept d v
kept_minus d a b v is left right small c = record {
  dim_is = is;
  pieces_are = pieces_of d v (λ p. IsInSome a p × (IsInSome b p → ⊥)) c;
  bound = let e = ap length (points_minus d a b left right v c) in let l = length_filter (λ p. not (is_among (points_in b) p)) (points_in a) in omega arith;
}

pub kept_meet : (d : ℕ) (a b v : List Rect) → IsDim d → ArePieces d a → ArePieces d b → length (points_in a) ≤ 1048576
    → ArePiecesOf d v (λ p. IsInSome a p × IsInSome b p) → IsKept d v
kept_meet d a b v is left right small c = record {
  dim_is = is;
  pieces_are = pieces_of d v (λ p. IsInSome a p × IsInSome b p) c;
  bound = let e = ap length (points_meet d a b left right v (shapes d v c.good) c.has) in let l = length_filter (is_among (points_in b)) (points_in a) in omega arith;
}

-- ---- one rectangle

alone_cases : (r : Rect) → IsRect r → ((r ≡ empty_rect r.dim) × (one_piece r ≡ [])) ⊎ (HasPoints r × (one_piece r ≡ r ∷ []))
alone_cases r (d, inl e) = inl (e, ap one_piece e)
alone_cases r (d, inr h) = inr (
  h,
  ap (λ t. if t then [] else r ∷ [])
      (full_of r.dim (first_range r) (second_range r) (third_range r) (ends_rise (first_range r) h.first)
      (ends_rise (second_range r) h.second) (ends_rise (third_range r) h.third)),
)
  where
    ends_rise : (q : Range) → IsRange q → q.low ≤ℤ q.high
    ends_rise q is = omega (arith, ints, is.reached)

pub alone_full : (r : Rect) → IsRect r → (r ≡ empty_rect r.dim → ⊥) → one_piece r ≡ r ∷ []
alone_full r is not = ⊎_elim (λ h. absurd (not h.0)) (λ h. h.1) (alone_cases r is)

-- the rectangle where it has points
pub alone_covers : (d : ℕ) (r : Rect) → IsShape d r → ArePiecesOf d (one_piece r) (IsIn r)
alone_covers d r s = ⊎_elim
    (λ h. subst (λ l. ArePiecesOf d l (IsIn r)) (sym h.1) (covers_none (IsNonEmptyRect d) IsIn (IsIn r) (λ p w. none_in r h.0 p w)))
    (λ h. subst (λ l. ArePiecesOf d l (IsIn r)) (sym h.1) (covers_one (IsNonEmptyRect d) IsIn r (IsIn r) record { shape = s; filled = h.0 } (λ p. (λ w. w, λ w. w))))
    (alone_cases r s.form)

pub alone_length : (r : Rect) → IsRect r → length (one_piece r) ≤ 1
alone_length r is = ⊎_elim (λ h. let e = ap length h.1 in omega arith) (λ h. let e = ap length h.1 in omega arith) (alone_cases r is)

pub points_alone : (r : Rect) → IsRect r → points_in (one_piece r) ≡ points_of r
points_alone r is =
    let s : IsShape r.dim r = record { one_dim = refl; form = is } in
    let c = alone_covers r.dim r s in
    one_of (IsInSome (one_piece r)) (IsIn r) (points_in (one_piece r)) (points_of r) c.has (listed r.dim (one_piece r) (shapes r.dim (one_piece r) c.good)).0 (points_listed r is)

pub kept_alone : (r : Rect) → IsRect r → length (points_of r) ≤ 1048576 → IsKept r.dim (one_piece r)
kept_alone r is small =
    let s : IsShape r.dim r = record { one_dim = refl; form = is } in
    record { dim_is = is.0; pieces_are = pieces_of r.dim (one_piece r) (IsIn r) (alone_covers r.dim r s); bound = let e = ap length (points_alone r is) in omega arith }

-- ---- how many points two lists have in common

module _ (d : ℕ) where
  row_covers : (r : Rect) (others : List Rect) → IsShape d r → All (IsShape d) others → AreApart IsIn others
      → Covers (IsShape d) IsIn (map (meet r) others) (λ p. IsInSome others p × IsIn r p)
  row_covers r others s each apart = covers_map (IsShape d) IsIn (IsShape d) IsIn (meet r) (λ p. p) (IsIn r) others (IsInSome others)
      (covers_list (IsShape d) IsIn others each apart)
      (λ t good sub.
      let m = meet_points r t s.form good.form (good.one_dim ∙ sym s.one_dim) in
      record { good = record { one_dim = m.1 ∙ s.one_dim; form = m.0 }; has = λ p. let h = m.2 p in (λ w. let k = h.0 w in (k.1, k.0), λ w. h.1 (w.1, w.0)) })

  meets_cover : (rs others : List Rect) → All (IsShape d) rs → AreApart IsIn rs → All (IsShape d) others → AreApart IsIn others
      → Covers (IsShape d) IsIn (flat_map (λ r. map (meet r) others) rs) (λ p. IsInSome rs p × IsInSome others p)
  meets_cover [] others a b each apart = covers_none (IsShape d) IsIn (λ p. IsInSome [] p × IsInSome others p) (λ p h. h.0)
  meets_cover (r ∷ rs) others a b each apart = covers_append (IsShape d) IsIn (map (meet r) others) (flat_map (λ r. map (meet r) others) rs)
      (λ p. IsInSome others p × IsIn r p) (λ p. IsInSome rs p × IsInSome others p) (λ p. IsInSome (r ∷ rs) p × IsInSome others p)
      (row_covers r others (All-head (IsShape d) r rs a) each apart)
      (meets_cover rs others (All-tail (IsShape d) r rs a) b.1 each apart)
      (λ p x y. b.0 p x.1 y.0)
      (λ p. (
        ⊎_elim (λ h. (inl h.1, h.0)) (λ h. (inr h.0, h.1)),
        λ h. ⊎_elim (λ w. inl (h.1, w)) (λ m. inr (m, h.1)) h.0,
      ))

sum_map : (f : Rect → ℕ) (g : Rect → Rect) (xs : List Rect) → sum_by f (map g xs) ≡ sum_by (λ x. f (g x)) xs
sum_map f g [] = refl
sum_map f g (x ∷ xs) = sum_by-cons f (g x) (map g xs) ∙ ap (λ n. f (g x) + n) (sum_map f g xs) ∙ sym (sum_by-cons (λ y. f (g y)) x xs)

sum_flat : (f : Rect → ℕ) (g : Rect → List Rect) (xs : List Rect) → sum_by f (flat_map g xs) ≡ sum_by (λ x. sum_by f (g x)) xs
sum_flat f g [] = refl
sum_flat f g (x ∷ xs) =
    sum_by-append f (g x) (flat_map g xs) ∙ ap (λ n. sum_by f (g x) + n) (sum_flat f g xs) ∙ sym (sum_by-cons (λ y. sum_by f (g y)) x xs)

-- how many points each rectangle of the first list has in common with those of the second, together
abbrev pub common_count : List Rect → List Rect → ℕ
common_count rs others = sum_by (λ r. sum_by (λ s. point_count (meet r s)) others) rs

sums_same : (others rs : List Rect) → sum_by (λ r. sum_by point_count (map (meet r) others)) rs ≡ common_count rs others
sums_same others [] = refl
sums_same others (r ∷ rs) = sum_by-cons (λ r. sum_by point_count (map (meet r) others)) r rs
    ∙ (λ i. sum_map point_count (meet r) others i + sums_same others rs i)
    ∙ sym (sum_by-cons (λ r. sum_by (λ s. point_count (meet r s)) others) r rs)

pub common_is : (d : ℕ) (a b : List Rect) → ArePieces d a → ArePieces d b → common_count a b ≡ length (sets.meet (points_in a) (points_in b))
common_is d a b left right =
    let c = meets_cover d a b (shapes d a left.each) left.apart (shapes d b right.each) right.apart in
    let v = flat_map (λ r. map (meet r) b) a in
    sym (sums_same b a) ∙ sym (sum_flat point_count (λ r. map (meet r) b) a) ∙ sym (length_in d v c.good c.apart)
    ∙ ap length (points_meet d a b left right v c.good c.has)

-- ---- what the calls on domains make

-- of two domains of one dimension, and their pieces
module _ (a b : Domain) (rs ss : List Rect) (is : IsDom a) (left : ArePieces a.dim rs) (list : a.points ≡ points_in rs) (is' : IsDom b) (right : ArePieces b.dim ss)
    (list' : b.points ≡ points_in ss) (same : b.dim ≡ a.dim) (d : ℕ) (e : d ≡ a.dim) where
  first_pieces : ArePieces d rs
  first_pieces = subst (λ n. ArePieces n rs) (sym e) left

  second_pieces : ArePieces d ss
  second_pieces = subst (λ n. ArePieces n ss) (same ∙ sym e) right

  the_dim : IsDim d
  the_dim = subst IsDim (sym e) is.dim

  first_bound : length (points_in rs) ≤ 1048576
  first_bound = let l = ap length list in let b = is.bound in omega arith

  second_bound : length (points_in ss) ≤ 1048576
  second_bound = let l = ap length list' in let b = is'.bound in omega arith

  pub minus_kept : (v : List Rect) → ArePiecesOf d v (λ p. IsInSome rs p × (IsInSome ss p → ⊥)) → IsKept d v
  minus_kept v c = kept_minus d rs ss v the_dim first_pieces second_pieces first_bound c

  pub minus_points : (v : List Rect) → ArePiecesOf d v (λ p. IsInSome rs p × (IsInSome ss p → ⊥)) → points_in v ≡ minus a.points b.points
  minus_points v c = points_minus d rs ss first_pieces second_pieces v c ∙ (λ i. minus (sym list i) (sym list' i))

  pub meet_kept : (v : List Rect) → ArePiecesOf d v (λ p. IsInSome rs p × IsInSome ss p) → IsKept d v
  meet_kept v c = kept_meet d rs ss v the_dim first_pieces second_pieces first_bound c

  pub meet_points_in : (v : List Rect) → ArePiecesOf d v (λ p. IsInSome rs p × IsInSome ss p) → points_in v ≡ sets.meet a.points b.points
  meet_points_in v c = points_meet d rs ss first_pieces second_pieces v (shapes d v c.good) c.has ∙ (λ i. sets.meet (sym list i) (sym list' i))

  pub first_count : total_count rs ≡ length a.points
  first_count = sym (count_of d rs first_pieces) ∙ ap length (sym list)

  pub second_count : total_count ss ≡ length b.points
  second_count = sym (count_of d ss second_pieces) ∙ ap length (sym list')

  pub counts_common : common_count rs ss ≡ length (sets.meet a.points b.points)
  counts_common = common_is d rs ss first_pieces second_pieces ∙ ap length (λ i. sets.meet (sym list i) (sym list' i))

  pub common_small : common_count rs ss ≤ 1048576
  common_small = let c = counts_common in let l = length_filter (is_among b.points) a.points in let b = is.bound in omega arith

  module _ (more : List Rect) (c : ArePiecesOf d more (λ p. IsInSome ss p × (IsInSome rs p → ⊥))) where
    pub more_small : total_count more ≤ 1048576
    more_small =
        let k = kept_minus d ss rs more the_dim second_pieces first_pieces second_bound c in
        let n = count_of d more k.pieces_are in
        let b = k.bound in
        omega arith

    union_pieces : ArePieces d (rs ++ more)
    union_pieces = pieces_of d (rs ++ more) (λ p. IsInSome rs p ⊎ IsInSome ss p) (union_covers d rs ss first_pieces second_pieces more c)

    pub union_points : points_in (rs ++ more) ≡ union a.points b.points
    union_points = points_union d rs ss first_pieces second_pieces (rs ++ more) (union_covers d rs ss first_pieces second_pieces more c) ∙ (λ i. union (sym list i) (sym list' i))

    pub union_count : total_count rs + total_count more ≡ length (union a.points b.points)
    union_count = sym (sum_by-append point_count rs more) ∙ sym (count_of d (rs ++ more) union_pieces) ∙ ap length union_points

    pub union_kept : total_count rs + total_count more ≤ 1048576 → IsKept d (rs ++ more)
    union_kept small = record {
      dim_is = the_dim;
      pieces_are = union_pieces;
      bound = let n = count_of d (rs ++ more) union_pieces in let s = sum_by-append point_count rs more in omega arith;
    }
