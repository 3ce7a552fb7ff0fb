-- The solution of constraints.
use Rattle.std.specs.Prelude.{◌≡◌, Bool, false, List, map, Option, IfSome}
use Rattle.std.specs.List.Sorted.{IsStrictlySortedBy}
use Rattle.ti_base.specs.declared.place.Place.{Place}
use Rattle.ti_blame.specs.declared.reason.Reason.{Reason}
use Rattle.ti_blame.specs.declared.mark.Mark.{Mark}
use Rattle.ti_blame.specs.declared.implication.Implication.{Implication}
use Rattle.ti_blame.specs.Keys.{key_of, key_cmp}
use Rattle.ti_blame.specs.Marks.{Marks, IsSubset, marks_of}
use Rattle.ti_blame.specs.Implications.{holds_conditionally, Satisfies, before}

-- of some annotations and constraints: the remaining annotations, and the first collective that is ruled out
pub record IsSolution (names : List Mark) (items : List Reason) (edges : List Implication) (marks : List Mark) (blamed : Option Place) : Type 0 where
  -- the solution violates no constraint, if the collectives before the first one that is ruled out hold
  pub keeps : Satisfies (holds_conditionally (before blamed) (marks_of marks)) items edges
  pub part : IsSubset (marks_of marks) (marks_of names)
  -- each subset of the annotations that violates no constraint, whichever collectives hold, is a subset of the solution, and under it the
  -- first collective that is ruled out doesn't hold
  pub greatest : (counts : Place → Bool) (a : Marks) → IsSubset a (marks_of names) → Satisfies (holds_conditionally counts a) items edges
      → IsSubset a (marks_of marks)
  pub first : (counts : Place → Bool) (a : Marks) → IsSubset a (marks_of names) → Satisfies (holds_conditionally counts a) items edges
      → IfSome blamed (λ at. counts at ≡ false)
  -- sorted
  pub rises : IsStrictlySortedBy key_cmp (map key_of marks)
