-- The sorted lists of points of rectangles, and how long they are.
use Rattle.std.proofs.Common.{◌≡◌, ◌⊎◌, inl, inr, ⊎_elim, ◌↔◌, ℕ, suc, ◌+◌, ◌≤◌, Bool, true, false, cond, if◌then◌else◌, List, [], ◌∷◌, filter, All, length, refl, sym, ap, ◌∙◌, arith}
use Rattle.std.proofs.lemmas.List.Elements.{All-head, All-tail, All-weaker}
use Rattle.std.proofs.lemmas.List.Sums.{sum_by-cons}
use Rattle.ti_base.specs.declared.point.Point.{Point}
use Rattle.ti_base.specs.declared.point.Rect.{Rect}
use Rattle.ti_base.specs.Points.{IsPoint}
use Rattle.ti_base.specs.PointSets.{IsAmong, Rises, AllOf, IsListOf, same_point, is_lex_lt, with_point, union, is_among, meet}
use Rattle.ti_base.specs.Rects.{IsRect, IsIn, points_of}
use Rattle.ti_base.proofs.Lemmas.{same_from, from_below, union_in, union_dim, union_lists, meet_lists, one_list, irreflexive}
use Rattle.ti_rect.proofs.Lemmas.{points_listed, point_in}
use Rattle.ti_rect.specs.Families.{AreApart}
use Rattle.ti_domain.specs.Pieces.{IsShape, IsNonEmptyRect, IsInSome, points_in, point_count, total_count}

-- ---- the list of a set

pub listed_same : (M N : Point → Type 0) (ps : List Point) → ((p : Point) → M p ↔ N p) → IsListOf M ps → IsListOf N ps
listed_same M N ps same l = record { rises = l.rises; has = λ p. (λ m. (same p).0 ((l.has p).0 m), λ n. (l.has p).1 ((same p).1 n)) }

pub one_of : (M N : Point → Type 0) (ps qs : List Point) → ((p : Point) → M p ↔ N p) → IsListOf M ps → IsListOf N qs → ps ≡ qs
one_of M N ps qs same a b =
    one_list ps qs a.rises b.rises (λ p. (λ m. (b.has p).1 ((same p).0 ((a.has p).0 m)), λ m. (a.has p).1 ((same p).1 ((b.has p).0 m))))

all_dim : (d : ℕ) (ps : List Point) → ((p : Point) → IsAmong ps p → p.dim ≡ d) → AllOf d ps
all_dim d [] h = tt
all_dim d (p ∷ ps) h = (h p (inl refl), all_dim d ps (λ q m. h q (inr m)))

pub dim_of : (d : ℕ) (ps : List Point) (p : Point) → AllOf d ps → IsAmong ps p → p.dim ≡ d
dim_of d [] p a m = elim m [ ]
dim_of d (q ∷ ps) p a (inl e) = ap (λ (x : Point). x.dim) e ∙ a.0
dim_of d (q ∷ ps) p a (inr m) = dim_of d ps p a.1 m

-- ---- the points of rectangles

rect_dim : (d : ℕ) (r : Rect) → IsShape d r → AllOf d (points_of r)
rect_dim d r s = all_dim d (points_of r) (λ p m. (((points_listed r s.form).has p).0 m).one_dim ∙ s.one_dim)

pub listed : (d : ℕ) (rs : List Rect) → All (IsShape d) rs → IsListOf (IsInSome rs) (points_in rs) × AllOf d (points_in rs)
listed d [] h = (record { rises = tt; has = λ p. (λ m. m, λ m. m) }, tt)
listed d (r ∷ rs) h =
    let s = All-head (IsShape d) r rs h in
    let l = points_listed r s.form in
    let m = listed d rs (All-tail (IsShape d) r rs h) in
    let a = rect_dim d r s in (
      listed_same (λ p. IsAmong (points_of r) p ⊎ IsAmong (points_in rs) p) (IsInSome (r ∷ rs)) (union (points_of r) (points_in rs))
          (λ p. (
            ⊎_elim (λ x. inl ((l.has p).0 x)) (λ x. inr ((m.0.has p).0 x)),
            ⊎_elim (λ x. inl ((l.has p).1 x)) (λ x. inr ((m.0.has p).1 x)),
          ))
          (union_lists d (points_of r) (points_in rs) a m.1 l.rises),
      union_dim d (points_of r) (points_in rs) a m.1,
    )

pub shapes : (d : ℕ) (rs : List Rect) → All (IsNonEmptyRect d) rs → All (IsShape d) rs
shapes d rs = All-weaker (IsNonEmptyRect d) (IsShape d) (λ r p. p.shape) rs

pub forms : (d : ℕ) (rs : List Rect) → All (IsShape d) rs → All IsRect rs
forms d rs = All-weaker (IsShape d) IsRect (λ r p. p.form) rs

pub point_in_some : (d : ℕ) (rs : List Rect) (p : Point) → All (IsShape d) rs → IsInSome rs p → IsPoint p
point_in_some d [] p h m = elim m [ ]
point_in_some d (r ∷ rs) p h (inl w) = point_in r p (All-head (IsShape d) r rs h).form w
point_in_some d (r ∷ rs) p h (inr m) = point_in_some d rs p (All-tail (IsShape d) r rs h) m

-- ---- how many

length_with : (p : Point) (qs : List Point) → (IsAmong qs p → ⊥) → length (with_point p qs) ≡ suc (length qs)
length_with p [] h = refl
length_with p (q ∷ qs) h = by (is_lex_lt p q) (same_point p q) refl (length_with p qs (λ m. h (inr m)))
  where
    by : (t u : Bool) → same_point p q ≡ u → length (with_point p qs) ≡ suc (length qs)
        → length (if t then p ∷ q ∷ qs else if u then q ∷ qs else q ∷ with_point p qs) ≡ suc (suc (length qs))
    by true u e k = refl
    by false true e k = absurd (h (inl (same_from p q e)))
    by false false e k = ap suc k

length_union : (ps qs : List Point) → Rises qs → ((p : Point) → IsAmong ps p → IsAmong qs p → ⊥) → length (union ps qs) ≡ length ps + length qs
length_union ps [] r h = omega arith
length_union ps (q ∷ qs) r h =
    let out : IsAmong (union ps qs) q → ⊥ = λ m. ⊎_elim (λ a. h q a (inl refl)) (λ b. irreflexive q (from_below q q qs r.0 b)) ((union_in ps qs q).0 m) in
    length_with q (union ps qs) out ∙ omega (arith, length_union ps qs r.1 (λ p m n. h p m (inr n)))

pub length_in : (d : ℕ) (rs : List Rect) → All (IsShape d) rs → AreApart IsIn rs → length (points_in rs) ≡ total_count rs
length_in d [] h a = refl
length_in d (r ∷ rs) h a =
    let s = All-head (IsShape d) r rs h in
    let t = All-tail (IsShape d) r rs h in
    let l = points_listed r s.form in
    let m = (listed d rs t).0 in
    length_union (points_of r) (points_in rs) m.rises (λ p x y. a.0 p ((l.has p).0 x) ((m.has p).0 y))
    ∙ ap (λ n. point_count r + n) (length_in d rs t a.1) ∙ sym (sum_by-cons point_count r rs)

pub length_filter : (t : Point → Bool) (ps : List Point) → length (filter t ps) ≤ length ps
length_filter t [] = omega arith
length_filter t (p ∷ ps) = by (t p) (length_filter t ps)
  where
    by : (u : Bool) → length (filter t ps) ≤ length ps → length (cond u (p ∷ filter t ps) (filter t ps)) ≤ suc (length ps)
    by true h = omega arith
    by false h = omega arith

-- a filter that keeps as many keeps all
filter_full : (t : Point → Bool) (ps : List Point) → length (filter t ps) ≡ length ps → filter t ps ≡ ps
filter_full t [] e = refl
filter_full t (p ∷ ps) e = by (t p) e (filter_full t ps) (length_filter t ps)
  where
    by : (u : Bool) → length (cond u (p ∷ filter t ps) (filter t ps)) ≡ suc (length ps) → (length (filter t ps) ≡ length ps → filter t ps ≡ ps)
        → length (filter t ps) ≤ length ps → cond u (p ∷ filter t ps) (filter t ps) ≡ p ∷ ps
    by true e h l = ap (λ qs. p ∷ qs) (h (omega arith))
    by false e h l = absurd (omega arith)

-- two lists are the same where they have as many points each as in common
pub same_counts : (ps qs : List Point) → Rises ps → Rises qs → length (meet ps qs) ≡ length ps → length qs ≡ length ps → ps ≡ qs
same_counts ps qs a b e f =
    let left : meet ps qs ≡ ps = filter_full (is_among qs) ps e in
    let turn : meet qs ps ≡ meet ps qs = one_of (λ p. IsAmong qs p × IsAmong ps p) (λ p. IsAmong ps p × IsAmong qs p) (meet qs ps) (meet ps qs)
    (λ p. (λ m. (m.1, m.0), λ m. (m.1, m.0))) (meet_lists qs ps b) (meet_lists ps qs a) in
    let right : meet qs ps ≡ qs = filter_full (is_among ps) qs (ap length turn ∙ e ∙ sym f) in
    sym left ∙ sym turn ∙ right

pub counts_same : (ps : List Point) → Rises ps → meet ps ps ≡ ps
counts_same ps a =
    one_of (λ p. IsAmong ps p × IsAmong ps p) (IsAmong ps) (meet ps ps) ps (λ p. (λ m. m.0, λ m. (m, m))) (meet_lists ps ps a) record { rises = a; has = λ p. (λ m. m, λ m. m) }
