-- Proves which points of a domain come after another point.
use Rattle.std.proofs.Common.{◌≡◌, ◌∙◌, inl, inr, ⊎_elim, ◌↔◌, refl, sym, ap, subst, ◌==◌, ℤ, ◌≤ℤ◌, ◌<ℤ◌, Bool, true, false, cond, ◌&&◌, ◌||◌, if◌then◌else◌, List, [], ◌∷◌, filter, Option, Some, None, IfSome, MatchOption, arith}
use Rattle.std.specs.Bool.{Decides}
use Rattle.std.specs.Int.RustNames.{int_lt, int_le}
use Rattle.std.proofs.lemmas.Bool.{eq-eqb, eqb-true}
use Rattle.std.proofs.lemmas.Bool.Decides.{Decides-like, Decides-and, Decides-or}
use Rattle.std.proofs.lemmas.Int.{ints}
use Rattle.ti_base.specs.declared.point.Point.{Point}
use Rattle.ti_base.specs.Points.{pt_lex_lt}
use Rattle.ti_base.specs.PointSets.{same_number, is_lex_lt, IsAmong, Rises, IsAbove, IsDomain, IsNextAfter, NoneAfter}
use Rattle.ti_base.proofs.Lemmas.{filter_in, below_from, from_below, below_trans, one_list}
use Rattle.ti_domain.proofs.Lemmas.{dim_of as dim_among}
use Rattle.ti_lang.specs.Meaning.Held.{Held, points_in, dim_of}
use Rattle.ti_eval.specs.Frames.{points_above, from_point}

-- ---- the test of the order

less : (x y : ℤ) → Decides (int_lt x y) (x <ℤ y)
less x y = (λ e. grind (arith, ints), λ h. grind (arith, ints))

at_most : (x y : ℤ) → Decides (int_le x y) (x ≤ℤ y)
at_most x y = (λ e. grind (arith, ints), λ h. grind (arith, ints))

same : (x y : ℤ) → Decides (same_number x y) (x ≡ y)
same x y =
    Decides-like (same_number x y) (λ h. let a = h.0 in let b = h.1 in omega (arith, ints)) (λ e. (omega (arith, ints), omega (arith, ints)))
    (Decides-and (int_le x y) (int_le y x) (at_most x y) (at_most y x))

below : (p q : Point) → Decides (is_lex_lt p q) (pt_lex_lt p q)
below p q =
    let last = Decides-and (same_number p.x2 q.x2) (int_lt p.x3 q.x3) (same p.x2 q.x2) (less p.x3 q.x3) in
    let behind = Decides-or (int_lt p.x2 q.x2) (same_number p.x2 q.x2 && int_lt p.x3 q.x3) (less p.x2 q.x2) last in
    let rest = Decides-and (same_number p.x1 q.x1) (int_lt p.x2 q.x2 || (same_number p.x2 q.x2 && int_lt p.x3 q.x3)) (same p.x1 q.x1) behind in
    Decides-or (int_lt p.x1 q.x1) (same_number p.x1 q.x1 && (int_lt p.x2 q.x2 || (same_number p.x2 q.x2 && int_lt p.x3 q.x3))) (less p.x1 q.x1) rest

-- ---- the points of a list above a point, where one is given

abbrev above : Option Point → List Point → List Point
above None ps = ps
above (Some p) ps = filter (is_lex_lt p) ps

above_in : (p : Option Point) (ps : List Point) (x : Point) → IsAmong (above p ps) x ↔ (IsAmong ps x × IsAbove p x)
above_in None ps x = (λ m. (m, tt), λ m. m.0)
above_in (Some p) ps x =
    let f = filter_in (is_lex_lt p) x ps in
    let d = below p x in
    (λ m. ((f.0 m).0, d.0 (f.0 m).1), λ m. f.1 (m.0, d.1 m.1))

filter_rises : (t : Point → Bool) (ps : List Point) → Rises ps → Rises (filter t ps)
filter_rises t [] r = tt
filter_rises t (p ∷ ps) r = by (t p) (filter_rises t ps r.1)
  where
    by : (u : Bool) → Rises (filter t ps) → Rises (cond u (p ∷ filter t ps) (filter t ps))
    by true h = (below_from p (filter t ps) (λ q m. from_below p q ps r.0 ((filter_in t q ps).0 m).0), h)
    by false h = h

above_rises : (p : Option Point) (ps : List Point) → Rises ps → Rises (above p ps)
above_rises None ps r = r
above_rises (Some p) ps r = filter_rises (is_lex_lt p) ps r

above_still : (p : Option Point) (q x : Point) → IsAbove p q → pt_lex_lt q x → IsAbove p x
above_still None q x a b = tt
above_still (Some p) q x a b = below_trans p q x a b

-- the points above another begin with the first of them, and behind that come those above it
begins : (p : Option Point) (q : Point) (ps : List Point) → Rises ps → IsNextAfter (IsAmong ps) p q → above p ps ≡ q ∷ above (Some q) ps
begins p q ps r n =
    let rest = above (Some q) ps in
    one_list (above p ps) (q ∷ rest) (above_rises p ps r)
    (below_from q rest (λ x m. ((above_in (Some q) ps x).0 m).1), above_rises (Some q) ps r)
    (λ x.
    let a = above_in p ps x in
    let b = above_in (Some q) ps x in (
      λ m. let h = a.0 m in ⊎_elim (λ e. inl (sym e)) (λ l. inr (b.1 (h.0, l))) (n.first x h.0 h.1),
      ⊎_elim
          (λ e. a.1 (subst (λ y. IsAmong ps y × IsAbove p y) (sym e) (n.member, n.above)))
          (λ m. let h = b.0 m in a.1 (h.0, above_still p q x n.above h.1)),
    ))

none_among : (ps : List Point) → ((x : Point) → IsAmong ps x → ⊥) → ps ≡ []
none_among [] h = refl
none_among (x ∷ ps) h = absurd (h x (inl refl))

none_above : (p : Option Point) (ps : List Point) → NoneAfter (IsAmong ps) p → above p ps ≡ []
none_above p ps n = none_among (above p ps) (λ x m. let h = (above_in p ps x).0 m in n x h.0 h.1)

-- ---- the points of a domain

points_are : (h : Held) (p : Option Point) → IfSome p (λ x. x.dim ≡ dim_of h) → points_above h p ≡ above p (points_in h)
points_are h None d = refl
points_are h (Some p) d = ap (λ t. if t then filter (is_lex_lt p) (points_in h) else []) (eq-eqb p.dim (dim_of h) d)

pub from_next : (h : Held) (p q : Option Point) → IfSome p (λ x. x.dim ≡ dim_of h) → IsDomain (dim_of h) (points_in h)
    → MatchOption q (NoneAfter (IsAmong (points_in h)) p) (λ x. IsNextAfter (IsAmong (points_in h)) p x) → points_above h p ≡ from_point h q
from_next h p None d is n = points_are h p d ∙ none_above p (points_in h) n
from_next h p (Some q) d is n =
    let e : q.dim ≡ dim_of h = dim_among (dim_of h) (points_in h) q is.one_dim n.member in
    points_are h p d ∙ begins p q (points_in h) is.rises n ∙ ap (λ ps. q ∷ ps) (sym (points_are h (Some q) e))

-- a point of another dimension has none above it
pub other_dim : (h : Held) (p : Point) → (p.dim ≡ dim_of h → ⊥) → points_above h (Some p) ≡ []
other_dim h p n = by (p.dim == dim_of h) refl
  where
    by : (t : Bool) → (p.dim == dim_of h) ≡ t → (if t then filter (is_lex_lt p) (points_in h) else []) ≡ []
    by true e = absurd (n (eqb-true p.dim (dim_of h) e))
    by false e = refl

pub ruleset points = (from_next, other_dim)
