-- What inference returns.
use Rattle.std.specs.Prelude.{◌≡◌, true, List, map, Some, Result, Ok, Err, Contains}
use Rattle.std.specs.List.Sorted.{IsStrictlySortedBy}
use Rattle.ti_base.specs.declared.place.Place.{Place}
use Rattle.ti_base.specs.Places.{place_before}
use Rattle.ti_lang.specs.Program.Classes.{ProgramView}
use Rattle.ti_blame.specs.declared.mark.Mark.{Mark}
use Rattle.ti_blame.specs.Keys.{key_of, key_cmp}
use Rattle.ti_blame.specs.Marks.{Marks, IsSubset, marks_of}
use Rattle.ti_infer.specs.declared.inference.InferErr.{InferErr}
use Rattle.ti_infer.specs.declared.inference.InferErr.TheVariants.{NoMarking, Memory}
use Rattle.ti_infer.specs.Candidates.{candidate_marks}
use Rattle.ti_infer.specs.Accepted.{IsAccepted}
use Rattle.ti_infer.specs.Collectives.{collectives}
use Rattle.ti_infer.specs.Inferred.{IsAcceptedTo}

-- the marking annotates only what can be annotated in the program
abbrev pub MarksCandidates : ProgramView → Marks → Type 0
MarksCandidates p a = IsSubset a (marks_of (candidate_marks p))

-- the greatest accepted marking of a program, sorted by place, a method before its result
pub record IsGreatestMarking (p : ProgramView) (marks : List Mark) : Type 0 where
  pub names : MarksCandidates p (marks_of marks)
  pub accepted : IsAccepted p (marks_of marks)
  -- each accepted marking is a subset of it
  pub greatest : (a : Marks) → MarksCandidates p a → IsAccepted p a → IsSubset a (marks_of marks)
  pub rises : IsStrictlySortedBy key_cmp (map key_of marks)

-- no marking of a program is accepted, and this place is that of the first collective up to which none is
pub record IsFirstUnaligned (p : ProgramView) (at : Place) : Type 0 where
  pub never : (a : Marks) → MarksCandidates p a → IsAccepted p a → ⊥
  pub collective : Contains (collectives p) at
  pub none : (a : Marks) → MarksCandidates p a → IsAcceptedTo (Some at) p a → ⊥
  -- up to each place before it, some marking is
  pub sooner : (c : Place) → place_before c at ≡ true → (a : Marks) × MarksCandidates p a × IsAcceptedTo (Some c) p a

-- what is promised of the result; nothing of an allocation failure
abbrev pub GivesInferred : ProgramView → Result (List Mark) InferErr → Type 0
GivesInferred p (Ok marks) = IsGreatestMarking p marks
GivesInferred p (Err (NoMarking at)) = IsFirstUnaligned p at
GivesInferred p (Err Memory) = Unit {0}
