-- How source locations, points, domains, references and values are written in reports.
use Rattle.std.specs.Prelude.{ℕ, true, false, if◌then◌else◌, List, [], ◌∷◌, ◌++◌, take, Some, None, codes, decimal}
use Rattle.std.specs.Fmt.{signed_decimal}
use Rattle.ti_base.specs.declared.place.Place.{Place}
use Rattle.ti_base.specs.declared.point.Point.{Point}
use Rattle.ti_base.specs.declared.point.Rect.{Rect}
use Rattle.ti_base.specs.declared.value.Id.{Id}
use Rattle.ti_base.specs.declared.value.Value.{Value}
use Rattle.ti_base.specs.declared.value.Value.TheVariants as v
use Rattle.ti_base.specs.declared.value.Zero.{Zero}
use Rattle.ti_base.specs.declared.value.Zero.TheVariants as z
use Rattle.ti_base.specs.Ranges.{Range}
use Rattle.ti_base.specs.Rects.{first_range, second_range, third_range, is_empty}

-- line and column
abbrev pub place_text : Place → List ℕ
place_text p = decimal p.line ++ codes ":" ++ decimal p.col

-- byte strings with `,` between them
abbrev pub comma_list : List (List ℕ) → List ℕ
comma_list [] = []
comma_list (t ∷ []) = t
comma_list (t ∷ next ∷ rest) = t ++ codes "," ++ comma_list (next ∷ rest)

-- ---- points and domains

-- as many coordinates as there are dimensions
abbrev pub coordinate_texts : Point → List (List ℕ)
coordinate_texts p = take p.dim (signed_decimal p.x1 ∷ signed_decimal p.x2 ∷ signed_decimal p.x3 ∷ [])

abbrev pub point_text : Point → List ℕ
point_text p = codes "[" ++ comma_list (coordinate_texts p) ++ codes "]"

-- lower bound, upper bound and stride
abbrev pub range_text : Range → List ℕ
range_text r = signed_decimal r.low ++ codes ":" ++ signed_decimal r.high ++ codes ":" ++ decimal r.step

-- as many ranges as there are dimensions
abbrev pub range_texts : Rect → List (List ℕ)
range_texts r = take r.dim (range_text (first_range r) ∷ range_text (second_range r) ∷ range_text (third_range r) ∷ [])

-- of an empty domain only the number of dimensions is written
abbrev pub rect_text : Rect → List ℕ
rect_text r = if is_empty r then codes "empty" ++ decimal r.dim else codes "[" ++ comma_list (range_texts r) ++ codes "]"

-- ---- references and values

-- the number of the creating process, and the serial number
abbrev pub id_text : Id → List ℕ
id_text id = decimal id.maker ++ codes "." ++ decimal id.serial

abbrev pub object_text : Id → List ℕ
object_text id = codes "obj" ++ id_text id

abbrev pub grid_text : Id → List ℕ
grid_text id = codes "grid" ++ id_text id

abbrev pub trace_value_text : Value → List ℕ
trace_value_text (v.Int n) = signed_decimal n
trace_value_text (v.Long n) = signed_decimal n ++ codes "L"
trace_value_text (v.Bool true) = codes "true"
trace_value_text (v.Bool false) = codes "false"
trace_value_text (v.Pt p) = point_text p
trace_value_text (v.Rc r) = rect_text r
trace_value_text (v.Obj None) = codes "null"
trace_value_text (v.Obj (Some id)) = object_text id
trace_value_text (v.Grid None) = codes "null"
trace_value_text (v.Grid (Some id)) = grid_text id
trace_value_text (v.Region n) = codes "region" ++ decimal n

-- the type of the initial value of elements
abbrev pub zero_text : Zero → List ℕ
zero_text z.Int = codes "int"
zero_text z.Long = codes "long"
zero_text z.Bool = codes "boolean"
zero_text (z.Pt dim) = codes "point" ++ decimal dim
zero_text (z.Rc dim) = codes "rect" ++ decimal dim
zero_text z.Obj = codes "object"
zero_text z.Grid = codes "grid"
