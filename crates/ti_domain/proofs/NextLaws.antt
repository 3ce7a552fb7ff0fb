-- The next point of a union of two sets is the smaller of the next points of each.
use Rattle.std.proofs.Common.{◌≡◌, ◌⊎◌, inl, inr, ⊎_elim, ◌↔◌, ℕ, Bool, true, false, List, [], ◌∷◌, Option, Some, None, IfSome, All, refl, sym, subst, ◌∙◌}
use Rattle.std.proofs.lemmas.List.Elements.{All-head, All-tail}
use Rattle.ti_base.specs.declared.point.Point.{Point}
use Rattle.ti_base.specs.declared.point.Rect.{Rect}
use Rattle.ti_base.specs.Points.{IsPoint, pt_lex_lt}
use Rattle.ti_base.specs.PointSets.{same_point, IsAbove, IsNextAfter}
use Rattle.ti_base.proofs.Lemmas.{same_from, same_self, other_below, below_trans}
use Rattle.ti_domain.specs.Pieces.{IsShape, IsInSome}
use Rattle.ti_domain.specs.Walks.{IsSooner, AgreeInDim, IsNextPoint}

-- of two points of one dimension the one that isn't above the other is the other or below it
at_most : (p q : Point) → p.dim ≡ q.dim → (pt_lex_lt q p → ⊥) → (p ≡ q) ⊎ pt_lex_lt p q
at_most p q d out = by (same_point p q) refl
  where
    by : (b : Bool) → same_point p q ≡ b → (p ≡ q) ⊎ pt_lex_lt p q
    by true e = inl (same_from p q e)
    by false e = inr (other_below q p (sym d) out
        (λ f. let s = subst (λ x. same_point p x ≡ true) (sym f) (same_self p) in let c : true ≡ false = sym s ∙ e in cc))

before : (p q r : Point) → (p ≡ q) ⊎ pt_lex_lt p q → (q ≡ r) ⊎ pt_lex_lt q r → (p ≡ r) ⊎ pt_lex_lt p r
before p q r (inl e) h = subst (λ x. (x ≡ r) ⊎ pt_lex_lt x r) (sym e) h
before p q r (inr l) (inl e) = inr (subst (pt_lex_lt p) e l)
before p q r (inr l) (inr m) = inr (below_trans p q r l m)

module _ (M N : Point → Type 0) (p : Option Point) where
  abbrev Either : Point → Type 0
  Either q = M q ⊎ N q

  first_left : (x : Point) → IsNextAfter M p x → ((q : Point) → N q → IsAbove p q → (x ≡ q) ⊎ pt_lex_lt x q) → IsNextAfter (λ q. M q ⊎ N q) p x
  first_left x a other = record {
    member = inl a.member;
    above = a.above;
    first = λ q m up. ⊎_elim (λ l. a.first q l up) (λ r. other q r up) m;
  }

  first_right : (x : Point) → IsNextAfter N p x → ((q : Point) → M q → IsAbove p q → (x ≡ q) ⊎ pt_lex_lt x q) → IsNextAfter (λ q. M q ⊎ N q) p x
  first_right x b other = record {
    member = inr b.member;
    above = b.above;
    first = λ q m up. ⊎_elim (λ l. other q l up) (λ r. b.first q r up) m;
  }

  pub sooner_is_next : (a b r : Option Point) → AgreeInDim a b → IsNextPoint M p a → IsNextPoint N p b → IsSooner a b r → IsNextPoint (λ q. M q ⊎ N q) p r
  sooner_is_next None None r d x y s = subst (IsNextPoint (λ q. M q ⊎ N q) p) (sym s) (λ q m up. ⊎_elim (λ l. x q l up) (λ k. y q k up) m)
  sooner_is_next None (Some q) r d x y s = subst (IsNextPoint (λ q. M q ⊎ N q) p) (sym s) (first_right q y (λ o m up. absurd (x o m up)))
  sooner_is_next (Some q) None r d x y s = subst (IsNextPoint (λ q. M q ⊎ N q) p) (sym s) (first_left q x (λ o m up. absurd (y o m up)))
  sooner_is_next (Some u) (Some v) r d x y (inl s) = subst (IsNextPoint (λ q. M q ⊎ N q) p) (sym s.1)
      (first_right v y (λ o m up. before v u o (inr s.0) (x.first o m up)))
  sooner_is_next (Some u) (Some v) r d x y (inr s) = subst (IsNextPoint (λ q. M q ⊎ N q) p) (sym s.1)
      (first_left u x (λ o m up. before u v o (at_most u v (sym d) s.0) (y.first o m up)))

  pub agree : (d : ℕ) (a b : Option Point) → ((q : Point) → M q → q.dim ≡ d) → ((q : Point) → N q → q.dim ≡ d) → IsNextPoint M p a → IsNextPoint N p b → AgreeInDim a b
  agree d None b f g x y = tt
  agree d (Some u) None f g x y = tt
  agree d (Some u) (Some v) f g x y = g v y.member ∙ sym (f u x.member)

-- the next point of a set is that of the same set
pub next_same : (M N : Point → Type 0) (p r : Option Point) → ((q : Point) → M q ↔ N q) → IsNextPoint M p r → IsNextPoint N p r
next_same M N p None same x = λ q n up. x q ((same q).1 n) up
next_same M N p (Some u) same x = record {
  member = (same u).0 x.member;
  above = x.above;
  first = λ q n up. x.first q ((same q).1 n) up;
}

pub dim_in_some : (d : ℕ) (rs : List Rect) (p : Point) → All (IsShape d) rs → IsInSome rs p → p.dim ≡ d
dim_in_some d [] p h m = elim m [ ]
dim_in_some d (r ∷ rs) p h (inl w) = w.one_dim ∙ (All-head (IsShape d) r rs h).one_dim
dim_in_some d (r ∷ rs) p h (inr m) = dim_in_some d rs p (All-tail (IsShape d) r rs h) m

pub next_point : (M : Point → Type 0) (p r : Option Point) → ((q : Point) → M q → IsPoint q) → IsNextPoint M p r → IfSome r IsPoint
next_point M p None f x = tt
next_point M p (Some u) f x = f u x.member
