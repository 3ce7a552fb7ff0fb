-- What constraints mean.
use Rattle.std.specs.Prelude.{◌≡◌, ℕ, ◌-◌, Bool, true, false, not, ◌&&◌, List, [], ◌∷◌, Option, Some, None, take, drop}
use Rattle.std.specs.List.{list_any}
use Rattle.ti_base.specs.declared.place.Place.{Place}
use Rattle.ti_base.specs.Places.{place_before}
use Rattle.ti_blame.specs.declared.reason.Reason.{Reason}
use Rattle.ti_blame.specs.declared.reason.Reason.TheVariants.{OfMethod, OfResult, OfVariable, OfCollective, Always}
use Rattle.ti_blame.specs.declared.mark.Mark.{Mark}
use Rattle.ti_blame.specs.declared.implication.Conclusion.{Conclusion}
use Rattle.ti_blame.specs.declared.implication.Conclusion.TheVariants.{One, Between}
use Rattle.ti_blame.specs.declared.implication.Implication.{Implication}
use Rattle.ti_blame.specs.Keys.{reason_of}
use Rattle.ti_blame.specs.Marks.{Marks}

-- an annotation that a marking has, or a collective that isn't ruled out; an unconditional reason never holds here
abbrev pub holds_conditionally : (Place → Bool) → Marks → Reason → Bool
holds_conditionally counts marks (OfMethod at) = marks.methods at
holds_conditionally counts marks (OfResult at) = marks.results at
holds_conditionally counts marks (OfVariable at) = marks.variables at
holds_conditionally counts marks (OfCollective at) = counts at
holds_conditionally counts marks Always = false

-- the reasons that a conclusion rules out, of a list
abbrev pub meaning : List Reason → Conclusion → List Reason
meaning items (One b) = b ∷ []
meaning items (Between from to) = take (to - from) (drop from items)

-- the constraint applies: its premise doesn't hold
abbrev pub is_triggered : (Reason → Bool) → Option Mark → Bool
is_triggered held None = true
is_triggered held (Some m) = not (held (reason_of m))

-- the constraint is violated: it applies, and something that it rules out holds
abbrev pub is_violated : (Reason → Bool) → List Reason → Implication → Bool
is_violated held items e = is_triggered held e.from && list_any held (meaning items e.then)

-- no constraint is violated
abbrev pub Satisfies : (Reason → Bool) → List Reason → List Implication → Type 0
Satisfies held items edges = list_any (is_violated held items) edges ≡ false

-- the collectives before the first one that is ruled out, or all if none is
abbrev pub before : Option Place → Place → Bool
before None at = true
before (Some first) at = place_before at first
