-- For proofs only: the model of the summary of a new grid's domain.
use Rattle.std.specs.Prelude.{Bool, true, false, ◌&&◌, if◌then◌else◌, Option, Some, None, option_and_then}
use Rattle.ti_lang.specs.Program.Types.{ValueType, Rc}
use Rattle.ti_rules.specs.InitialTypes.{is_region_type, Spread, Over, Ranged, grid_over}
use Rattle.ti_types.specs.Results.{LiteralTypes, literal}

-- whether the type is that of a rectangular domain
abbrev pub is_rect_type : ValueType → Bool
is_rect_type (Rc n) = true
is_rect_type t = false

-- the summary of a domain; an expression would be accepted with dimensions ignored if it is a rectangular domain
abbrev pub extent_summary : Spread → LiteralTypes
extent_summary (Over t) = record { type = Some t; fits_other_dims = is_rect_type t }
extent_summary (Ranged ranges ts) = literal ranges ts

-- the type of a new grid with these elements, if the region is one
abbrev pub summary_grid_type : ValueType → ValueType → LiteralTypes → Option ValueType
summary_grid_type element region l = if is_region_type region then option_and_then (grid_over element) l.type else None

-- whether there would be a type with dimensions ignored
abbrev pub summary_fits_other_dims : ValueType → LiteralTypes → Bool
summary_fits_other_dims region l = is_region_type region && l.fits_other_dims
