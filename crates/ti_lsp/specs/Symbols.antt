-- Symbols, and how they are sent. The members of each object are in the order of their names.
use Rattle.std.specs.Prelude.{◌≡◌, ℕ, List, slice_range, codes, map, string_bytes}
use Rattle.serde_json.specs.Data.{Data, number, unsigned, string, array, object, member, no_members}
use Rattle.serde_json.specs.View.{items_of}
use Rattle.ti_lsp.specs.declared.position.PositionEncoding.{PositionEncoding}
use Rattle.ti_lsp.specs.declared.symbol.Symbol.{Symbol}
use Rattle.ti_lsp.specs.declared.symbol.SymbolKind.{SymbolKind}
use Rattle.ti_lsp.specs.declared.symbol.SymbolKind.TheVariants.{Class, Method, Field}
use Rattle.ti_lsp.specs.Diagnostics.{bytes_range, range_data}

-- the name of the symbol is what is at its offsets in the text
abbrev pub IsSymbolOf : List ℕ → Symbol → Type 0
IsSymbolOf text s = string_bytes s.name ≡ slice_range text s.start s.end

-- the numbers of the protocol
abbrev pub kind_number : SymbolKind → ℕ
kind_number Class = 5
kind_number Method = 6
kind_number Field = 8

abbrev pub symbol_data : PositionEncoding → List ℕ → List ℕ → Symbol → Data
symbol_data encoding uri text s = object
    (member (codes "kind") (number (unsigned (kind_number s.kind)))
    (member (codes "location") (object
    (member (codes "range") (range_data (bytes_range encoding text s.start s.end))
    (member (codes "uri") (string uri) no_members)))
    (member (codes "name") (string (string_bytes s.name)) no_members)))

abbrev pub symbols_of : PositionEncoding → List ℕ → List ℕ → List Symbol → Data
symbols_of encoding uri text symbols = array (items_of (map (symbol_data encoding uri text) symbols))
