-- Names in a text, and how what is known of them is sent.
use Rattle.std.specs.Prelude.{◌≡◌, ◌≤◌, ◌<◌, ℕ, List, length, slice_range, string_bytes}
use Rattle.serde_json.specs.Data.{Data}
use Rattle.ti_lsp.specs.declared.name.KnownName.{KnownName}
use Rattle.ti_lsp.specs.declared.position.PositionEncoding.{PositionEncoding}
use Rattle.ti_lsp.specs.Diagnostics.{bytes_range, hover_data, location_data, range_data}

-- the name is at the offset, or ends there, and what is declared is in the text and has the same spelling
pub record IsKnownAt (text : List ℕ) (offset : ℕ) (name : KnownName) : Type 0 where
  pub from : name.start ≤ offset
  pub to : offset ≤ name.end
  pub nonempty : name.start < name.end
  pub within : name.end ≤ length text
  pub declared_within : name.declared_end ≤ length text
  pub same_spelling : slice_range text name.start name.end ≡ slice_range text name.declared_start name.declared_end

-- the hover at a name: its description, and its range
abbrev pub name_hover : PositionEncoding → List ℕ → KnownName → Data
name_hover encoding text name = hover_data (string_bytes name.description) (range_data (bytes_range encoding text name.start name.end))

-- the location of the name in its declaration
abbrev pub declaration_data : PositionEncoding → List ℕ → List ℕ → KnownName → Data
declaration_data encoding uri text name = location_data encoding uri text name.declared_start name.declared_end
