-- Markings: sets of methods, results and variables of a program, by the places of their names.
use Rattle.std.specs.Prelude.{◌≡◌, Bool, true, false, ◌&&◌, ◌||◌, List}
use Rattle.std.specs.List.{list_any}
use Rattle.ti_base.specs.declared.place.Place.{Place}
use Rattle.ti_base.specs.Places.{same_place}
use Rattle.ti_blame.specs.declared.reason.Reason.{Reason}
use Rattle.ti_blame.specs.declared.reason.Reason.TheVariants.{OfMethod, OfResult, OfVariable, OfCollective, Always}
use Rattle.ti_blame.specs.declared.mark.MarkKind.{MarkKind}
use Rattle.ti_blame.specs.declared.mark.MarkKind.TheVariants as kind
use Rattle.ti_blame.specs.declared.mark.Mark.{Mark}

-- the places at which a method, a result or a variable is annotated
pub record Marks : Type 0 where
  pub methods : Place → Bool
  pub results : Place → Bool
  pub variables : Place → Bool

-- ---- subsets and unions

-- the first predicate implies the second
abbrev pub Within : (Place → Bool) → (Place → Bool) → Type 0
Within a b = (at : Place) → a at ≡ true → b at ≡ true

-- the first marking is a subset of the second
pub record IsSubset (m n : Marks) : Type 0 where
  pub methods : Within m.methods n.methods
  pub results : Within m.results n.results
  pub variables : Within m.variables n.variables

-- the annotations of both
abbrev pub marks_union : Marks → Marks → Marks
marks_union m n = record {
  methods = λ at. m.methods at || n.methods at;
  results = λ at. m.results at || n.results at;
  variables = λ at. m.variables at || n.variables at;
}

-- ---- markings as lists of annotations

abbrev pub same_mark_kind : MarkKind → MarkKind → Bool
same_mark_kind kind.Method kind.Method = true
same_mark_kind kind.Result kind.Result = true
same_mark_kind kind.Variable kind.Variable = true
same_mark_kind _ _ = false

-- the annotation has this kind and this place
abbrev pub matches_mark : MarkKind → Place → Mark → Bool
matches_mark k at m = same_mark_kind k m.kind && same_place at m.place

-- the set of the annotations of a list
abbrev pub marks_of : List Mark → Marks
marks_of ms = record {
  methods = λ at. list_any (matches_mark kind.Method at) ms;
  results = λ at. list_any (matches_mark kind.Result at) ms;
  variables = λ at. list_any (matches_mark kind.Variable at) ms;
}

-- ---- reasons

-- the reason holds under a marking, if these collectives are considered
abbrev pub holds : (Place → Bool) → Marks → Reason → Bool
holds counts marks (OfMethod at) = marks.methods at
holds counts marks (OfResult at) = marks.results at
holds counts marks (OfVariable at) = marks.variables at
holds counts marks (OfCollective at) = counts at
holds counts marks Always = true
