-- What is kept of an entry: its head, and what each column gets.
use Rattle.std.specs.Prelude.{◌≡◌, ℕ, zero, suc, ◌==◌, if◌then◌else◌, Bool, true, false, ℤ, pos, negsuc, List, [], ◌∷◌, ◌++◌, map, Option, Some, None}
use Rattle.std.specs.List.{flat_map}
use Rattle.ti_base.specs.declared.action.Action.{Action}
use Rattle.ti_base.specs.declared.action.Action.TheVariants as a
use Rattle.ti_base.specs.declared.entry.Answer.{Answer}
use Rattle.ti_base.specs.declared.entry.Answer.TheVariants.{Done, Val}
use Rattle.ti_base.specs.declared.entry.Entry.{Entry}
use Rattle.ti_base.specs.declared.point.Point.{Point}
use Rattle.ti_base.specs.declared.value.Id.{Id}
use Rattle.ti_base.specs.declared.value.Value.{Value}
use Rattle.ti_base.specs.declared.value.Value.TheVariants as v
use Rattle.ti_history.specs.declared.head.Form.{Form}
use Rattle.ti_history.specs.declared.head.Form.TheVariants as f
use Rattle.ti_history.specs.declared.head.PointForm.{PointForm}
use Rattle.ti_history.specs.declared.head.PointForm.TheVariants as p
use Rattle.ti_history.specs.declared.head.ValueForm.{ValueForm}
use Rattle.ti_history.specs.declared.head.ValueForm.TheVariants as w
use Rattle.ti_history.specs.declared.head.Head.{Head}

-- ---- heads

abbrev pub is_zero : ℤ → Bool
is_zero (pos zero) = true
is_zero (pos (suc n)) = false
is_zero (negsuc n) = false

abbrev pub point_form : Point → PointForm
point_form at =
    if at.dim == 3 then p.Three else
    if is_zero at.x3 then
    (if at.dim == 2 then p.Two else if is_zero at.x2 then (if at.dim == 1 then p.One else p.Other) else p.Other)
    else p.Other

abbrev pub value_form : Value → ValueForm
value_form (v.Int x) = w.Int
value_form (v.Long x) = w.Long
value_form (v.Bool true) = w.True
value_form (v.Bool false) = w.False
value_form (v.Pt at) = w.Other
value_form (v.Rc domain) = w.Other
value_form (v.Obj (Some id)) = w.Object
value_form (v.Obj None) = w.NullObject
value_form (v.Grid (Some id)) = w.Grid
value_form (v.Grid None) = w.NullGrid
value_form (v.Region region) = w.Other

abbrev pub head_by : Entry → Form → PointForm → ValueForm → Head
head_by e form point value = record { proc = e.proc; place = e.place; form = form; point = point; value = value }

abbrev pub whole_head : Entry → Head
whole_head e = head_by e f.Whole p.Absent w.Absent

abbrev pub head_from : Entry → Action → Answer → Head
head_from e (a.GetField obj field) (Val value) = head_by e f.GetField p.Absent (value_form value)
head_from e (a.PutField obj field value) Done = head_by e f.PutField p.Absent (value_form value)
head_from e (a.GetElem grid at) (Val value) = head_by e f.GetElem (point_form at) (value_form value)
head_from e (a.PutElem grid at value) Done = head_by e f.PutElem (point_form at) (value_form value)
head_from e act answer = whole_head e

abbrev pub head_of : Entry → Head
head_of e = head_from e e.act e.answer

-- ---- columns

-- what the columns have
pub record Lists : Type 0 where
  pub things : List Id
  pub fields : List ℕ
  pub integers : List ℤ
  pub longs : List ℤ
  pub values : List Value
  pub whole : List Entry

abbrev pub joined : Lists → Lists → Lists
joined a b = record {
  things = a.things ++ b.things;
  fields = a.fields ++ b.fields;
  integers = a.integers ++ b.integers;
  longs = a.longs ++ b.longs;
  values = a.values ++ b.values;
  whole = a.whole ++ b.whole;
}

abbrev pub no_lists : Lists
no_lists = record { things = []; fields = []; integers = []; longs = []; values = []; whole = [] }

abbrev pub lists_of_value : Value → Lists
lists_of_value (v.Int x) = record no_lists { integers = x ∷ [] }
lists_of_value (v.Long x) = record no_lists { longs = x ∷ [] }
lists_of_value (v.Bool b) = no_lists
lists_of_value (v.Pt at) = record no_lists { values = v.Pt at ∷ [] }
lists_of_value (v.Rc domain) = record no_lists { values = v.Rc domain ∷ [] }
lists_of_value (v.Obj (Some id)) = record no_lists { things = id ∷ [] }
lists_of_value (v.Obj None) = no_lists
lists_of_value (v.Grid (Some id)) = record no_lists { things = id ∷ [] }
lists_of_value (v.Grid None) = no_lists
lists_of_value (v.Region region) = record no_lists { values = v.Region region ∷ [] }

abbrev pub coordinates_in : PointForm → Point → List ℤ
coordinates_in p.Absent at = []
coordinates_in p.One at = at.x1 ∷ []
coordinates_in p.Two at = at.x1 ∷ at.x2 ∷ []
coordinates_in p.Three at = at.x1 ∷ at.x2 ∷ at.x3 ∷ []
coordinates_in p.Other at = []

abbrev pub point_value_in : PointForm → Point → List Value
point_value_in p.Absent at = []
point_value_in p.One at = []
point_value_in p.Two at = []
point_value_in p.Three at = []
point_value_in p.Other at = v.Pt at ∷ []

abbrev pub lists_of_field : Id → ℕ → Lists
lists_of_field obj field = record no_lists { things = obj ∷ []; fields = field ∷ [] }

abbrev pub lists_of_elem : Id → Point → Lists
lists_of_elem grid at =
    record no_lists { things = grid ∷ []; integers = coordinates_in (point_form at) at; values = point_value_in (point_form at) at }

abbrev pub lists_from : Entry → Action → Answer → Lists
lists_from e (a.GetField obj field) (Val value) = joined (lists_of_field obj field) (lists_of_value value)
lists_from e (a.PutField obj field value) Done = joined (lists_of_field obj field) (lists_of_value value)
lists_from e (a.GetElem grid at) (Val value) = joined (lists_of_elem grid at) (lists_of_value value)
lists_from e (a.PutElem grid at value) Done = joined (lists_of_elem grid at) (lists_of_value value)
lists_from e act answer = record no_lists { whole = e ∷ [] }

-- what an entry adds to the columns
abbrev pub lists_of : Entry → Lists
lists_of e = lists_from e e.act e.answer

-- what a list of entries has in the columns
abbrev pub all_lists : List Entry → Lists
all_lists entries = record {
  things = flat_map (λ e. (lists_of e).things) entries;
  fields = flat_map (λ e. (lists_of e).fields) entries;
  integers = flat_map (λ e. (lists_of e).integers) entries;
  longs = flat_map (λ e. (lists_of e).longs) entries;
  values = flat_map (λ e. (lists_of e).values) entries;
  whole = flat_map (λ e. (lists_of e).whole) entries;
}
