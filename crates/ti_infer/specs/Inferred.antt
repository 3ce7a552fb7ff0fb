-- The greatest marking of a program, and the first collective that no marking aligns.
use Rattle.std.specs.Prelude.{◌≡◌, true, List, [], Option, Some, None, IfSome, Contains}
use Rattle.ti_base.specs.declared.place.Place.{Place}
use Rattle.ti_base.specs.Places.{place_before}
use Rattle.ti_lang.specs.Program.Classes.{ProgramView}
use Rattle.ti_rules.specs.TypeRules.{type_refusals}
use Rattle.ti_blame.specs.declared.mark.Mark.{Mark}
use Rattle.ti_blame.specs.Marks.{Marks, IsSubset, marks_of}
use Rattle.ti_infer.specs.Marked.{marked}
use Rattle.ti_infer.specs.Accepted.{IsAccepted}
use Rattle.ti_infer.specs.Collectives.{collectives}
use Rattle.ti_infer.specs.Limited.{counts_to, limited_refusals}

-- the marked program breaks no rule of types and qualifiers, and none of single values if only the collectives up to this one are
-- considered
pub record IsAcceptedTo (last : Option Place) (p : ProgramView) (a : Marks) : Type 0 where
  pub types : type_refusals (marked a p) ≡ []
  pub single : limited_refusals (counts_to last) (marked a p) ≡ []

-- among the subsets of some annotations: the greatest accepted one, and the first collective up to which none is accepted, if there is
-- one
pub record IsInferred (p : ProgramView) (names : List Mark) (marks : List Mark) (first : Option Place) : Type 0 where
  -- if there is no such collective, the marking is accepted
  pub accepted : first ≡ None → IsAccepted p (marks_of marks)
  -- each accepted marking is a subset of it
  pub greatest : (a : Marks) → IsSubset a (marks_of names) → IsAccepted p a → IsSubset a (marks_of marks)
  -- up to that collective, which is one of the program, none is accepted; up to each place before it, this one is
  pub none : IfSome first (λ at. (a : Marks) → IsSubset a (marks_of names) → IsAcceptedTo (Some at) p a → ⊥)
  pub sooner : IfSome first (λ at. (c : Place) → place_before c at ≡ true → IsAcceptedTo (Some c) p (marks_of marks))
  pub collective : IfSome first (λ at. Contains (collectives p) at)
