-- Removing from a marking what is to blame.
use Rattle.std.specs.Prelude.{Bool, true, false, not, ◌&&◌, List}
use Rattle.std.specs.List.{list_any}
use Rattle.ti_base.specs.declared.place.Place.{Place}
use Rattle.ti_base.specs.Places.{same_place}
use Rattle.ti_blame.specs.Marks.{Marks}
use Rattle.ti_blame.specs.declared.reason.Reason.{Reason}
use Rattle.ti_blame.specs.declared.reason.Reason.TheVariants.{OfMethod, OfResult, OfVariable, OfCollective, Always}

-- the annotation of a method, a result or a variable at this place
abbrev pub is_method : Place → Reason → Bool
is_method at (OfMethod place) = same_place at place
is_method at b = false

abbrev pub is_result : Place → Reason → Bool
is_result at (OfResult place) = same_place at place
is_result at b = false

abbrev pub is_variable : Place → Reason → Bool
is_variable at (OfVariable place) = same_place at place
is_variable at b = false

-- the marking without these annotations
abbrev pub marks_without : List Reason → Marks → Marks
marks_without found m = record {
  methods = λ at. m.methods at && not (list_any (is_method at) found);
  results = λ at. m.results at && not (list_any (is_result at) found);
  variables = λ at. m.variables at && not (list_any (is_variable at) found);
}

-- what isn't removed with any annotation: a collective that is considered, or what holds unconditionally
abbrev pub is_fixed : (Place → Bool) → Reason → Bool
is_fixed counts (OfCollective at) = counts at
is_fixed counts Always = true
is_fixed counts b = false

-- it holds unconditionally
abbrev pub is_always : Reason → Bool
is_always Always = true
is_always b = false
