-- Sets of points as lists: a domain is the strictly increasing list of its points, in lexicographic order.
use Rattle.std.specs.Prelude.{◌≡◌, ◌⊎◌, ◌↔◌, ℕ, Bool, not, ◌&&◌, ◌||◌, ◌==◌, ℤ, int_lt, int_le, if◌then◌else◌, List, [], ◌∷◌, filter, Option, Some, None}
use Rattle.std.specs.List.{list_any}
use Rattle.ti_base.specs.declared.point.Point.{Point}
use Rattle.ti_base.specs.Points.{pt_le, pt_lex_lt}

-- ---- tests

abbrev pub same_number : ℤ → ℤ → Bool
same_number x y = int_le x y && int_le y x

abbrev pub same_point : Point → Point → Bool
same_point p q = p.dim == q.dim && same_number p.x1 q.x1 && same_number p.x2 q.x2 && same_number p.x3 q.x3

abbrev pub is_lex_lt : Point → Point → Bool
is_lex_lt p q = int_lt p.x1 q.x1 || (same_number p.x1 q.x1 && (int_lt p.x2 q.x2 || (same_number p.x2 q.x2 && int_lt p.x3 q.x3)))

-- ---- lists of points

abbrev pub IsAmong : List Point → Point → Type 0
IsAmong [] p = ⊥
IsAmong (q ∷ qs) p = (p ≡ q) ⊎ IsAmong qs p

-- the point is less than each of these
abbrev pub IsBelow : Point → List Point → Type 0
IsBelow p [] = Unit {0}
IsBelow p (q ∷ qs) = pt_lex_lt p q × IsBelow p qs

-- the list is strictly increasing
abbrev pub Rises : List Point → Type 0
Rises [] = Unit {0}
Rises (p ∷ ps) = IsBelow p ps × Rises ps

-- all points have this dimension
abbrev pub AllOf : ℕ → List Point → Type 0
AllOf dim [] = Unit {0}
AllOf dim (p ∷ ps) = (p.dim ≡ dim) × AllOf dim ps

-- a domain: points of one dimension, in a strictly increasing list
pub record IsDomain (dim : ℕ) (ps : List Point) : Type 0 where
  pub one_dim : AllOf dim ps
  pub rises : Rises ps

-- the list of a set: it is strictly increasing, and has exactly the points of the set
pub record IsListOf (members : Point → Type 0) (ps : List Point) : Type 0 where
  pub rises : Rises ps
  pub has : (p : Point) → IsAmong ps p ↔ members p

-- ---- intersection, difference and union of domains

abbrev pub is_among : List Point → Point → Bool
is_among ps p = list_any (same_point p) ps

abbrev pub meet : List Point → List Point → List Point
meet ps qs = filter (is_among qs) ps

abbrev pub minus : List Point → List Point → List Point
minus ps qs = filter (λ p. not (is_among qs p)) ps

-- the increasing list with this point inserted
abbrev pub with_point : Point → List Point → List Point
with_point p [] = p ∷ []
with_point p (q ∷ qs) = if is_lex_lt p q then p ∷ q ∷ qs else if same_point p q then q ∷ qs else q ∷ with_point p qs

abbrev pub union : List Point → List Point → List Point
union ps [] = ps
union ps (q ∷ qs) = with_point q (union ps qs)

-- ---- the next point, the minimum and the maximum

-- above the point, if one is given
abbrev pub IsAbove : Option Point → Point → Type 0
IsAbove None q = Unit {0}
IsAbove (Some p) q = pt_lex_lt p q

-- q is the least point of the set above the given one, or the least of all
pub record IsNextAfter (members : Point → Type 0) (p : Option Point) (q : Point) : Type 0 where
  pub member : members q
  pub above : IsAbove p q
  pub first : (other : Point) → members other → IsAbove p other → (q ≡ other) ⊎ pt_lex_lt q other

-- no point of the set is above the given one
abbrev pub NoneAfter : (Point → Type 0) → Option Point → Type 0
NoneAfter members p = (q : Point) → members q → IsAbove p q → ⊥

-- the member that is least in every coordinate
pub record IsLeast (members : Point → Type 0) (q : Point) : Type 0 where
  pub member : members q
  pub least : (other : Point) → members other → pt_le q other

-- the member that is greatest in every coordinate
pub record IsGreatest (members : Point → Type 0) (q : Point) : Type 0 where
  pub member : members q
  pub greatest : (other : Point) → members other → pt_le other q
