-- Chains of constraints: how a collective comes to be ruled out, from a premise that can't hold.
use Rattle.std.specs.Prelude.{◌≡◌, Bool, true, not, List, [], ◌∷◌, Contains, Option, Some, None}
use Rattle.std.specs.List.{list_any}
use Rattle.std.specs.declared.vec.Vec.{Vec}
use Rattle.std.specs.declared.alloc.Global.{Global}
use Rattle.ti_base.specs.declared.place.Place.{Place}
use Rattle.ti_blame.specs.declared.reason.Reason.{Reason}
use Rattle.ti_blame.specs.declared.reason.Reason.TheVariants.{OfCollective}
use Rattle.ti_blame.specs.declared.mark.Mark.{Mark}
use Rattle.ti_blame.specs.declared.implication.Implication.{Implication}
use Rattle.ti_blame.specs.declared.chains.ChainStep.{ChainStep}
use Rattle.ti_blame.specs.Keys.{reason_of}
use Rattle.ti_blame.specs.Marks.{Marks, IsSubset, matches_mark, marks_of}
use Rattle.ti_blame.specs.Implications.{holds_conditionally, meaning, Satisfies}

-- no marking of these names has the premise: there is none, or it is an annotation that isn't one of them
abbrev pub never_holds : List Mark → Option Mark → Bool
never_holds names None = true
never_holds names (Some m) = not (list_any (matches_mark m.kind m.place) names)

-- the premise is the annotation that this reason is
abbrev pub IsPremise : Reason → Option Mark → Type 0
IsPremise b from = (m : Mark) × (from ≡ Some m) × (reason_of m ≡ b)

module _ (items : List Reason) (edges : List Implication) where
  -- the constraint of the step is one of these, and rules out the reason of the step
  abbrev pub IsStep : ChainStep → Type 0
  IsStep s = Contains edges s.implication × Contains (meaning items s.implication.then) s.ruled_out

  -- the steps lead from one reason to another: the premise of each is what was ruled out before it
  abbrev pub LeadsTo : Reason → Reason → List ChainStep → Type 0
  LeadsTo last b [] = b ≡ last
  LeadsTo last b (s ∷ steps) = IsPremise b s.implication.from × IsStep s × LeadsTo last s.ruled_out steps

-- the steps are a chain to a collective: no marking of these names has the premise of the first, and they lead from what that rules out to
-- the collective
abbrev pub IsChain : List Mark → List Reason → List Implication → Place → List ChainStep → Type 0
IsChain names items edges at [] = ⊥
IsChain names items edges at (s ∷ steps) =
    (never_holds names s.implication.from ≡ true) × IsStep items edges s × LeadsTo items edges (OfCollective at) s.ruled_out steps

-- some marking of these names satisfies all constraints while the collective is considered
abbrev pub CanHold : List Mark → List Reason → List Implication → Place → Type 0
CanHold names items edges at =
    (counts : Place → Bool) × (a : Marks) × IsSubset a (marks_of names) × Satisfies (holds_conditionally counts a) items edges × (counts at ≡ true)

-- a chain to the collective, or none if the collective can hold
abbrev pub GivesChain : List Mark → List Reason → List Implication → Place → Option (Vec ChainStep Global) → Type 0
GivesChain names items edges at None = CanHold names items edges at
GivesChain names items edges at (Some steps) = IsChain names items edges at steps.items
