-- Positions and offsets. A text is its bytes in UTF-8.
use Rattle.std.specs.Prelude.{ℕ, ◌+◌, ◌-◌, ◌==◌, ◌&&◌, ◌||◌, Bool, not, nat_lt, nat_le, if◌then◌else◌, List, [], ◌∷◌, length, drop, take_while, reverse, count_by}
use Rattle.ti_lsp.specs.declared.position.PositionEncoding.{PositionEncoding}
use Rattle.ti_lsp.specs.declared.position.PositionEncoding.TheVariants.{Utf8, Utf16, Utf32}
use Rattle.ti_lsp.specs.declared.position.Position.{Position}
use Rattle.ti_lsp.specs.declared.position.TextRange.{TextRange}

-- whether the byte ends a line: byte 10
abbrev pub ends_line : ℕ → Bool
ends_line b = b == 10

-- whether the byte begins a character
abbrev pub is_lead : ℕ → Bool
is_lead b = nat_lt b 128 || nat_le 192 b

-- whether the byte begins a character of two code units of UTF-16
abbrev pub is_long : ℕ → Bool
is_long b = nat_le 240 b

-- the number of code units in some bytes of a line
abbrev pub units_of : PositionEncoding → List ℕ → ℕ
units_of Utf8 bytes = length bytes
units_of Utf16 bytes = count_by is_lead bytes + count_by is_long bytes
units_of Utf32 bytes = count_by is_lead bytes

-- the number of bytes after the last line end, and these bytes
abbrev pub line_prefix_len : List ℕ → ℕ
line_prefix_len front = length (take_while (λ b. not (ends_line b)) (reverse front))

abbrev pub line_prefix : List ℕ → List ℕ
line_prefix front = drop (length front - line_prefix_len front) front

-- the position after this prefix of a text
abbrev pub position_of : PositionEncoding → List ℕ → Position
position_of encoding front = record { line = count_by ends_line front; character = units_of encoding (line_prefix front) }

-- whether p is before q
abbrev pub position_before : Position → Position → Bool
position_before p q = nat_lt p.line q.line || ((p.line == q.line) && nat_lt p.character q.character)

-- whether a position is in a range or at one of its ends
abbrev pub touches : TextRange → Position → Bool
touches range at = not (position_before at range.start) && not (position_before range.end at)

-- whether two ranges have a position in common, be it at their ends
abbrev pub intersects : TextRange → TextRange → Bool
intersects range other = not (position_before other.end range.start) && not (position_before range.end other.start)

-- ---- from positions to offsets

-- the number of bytes in the first n lines, or in all if there are fewer
abbrev pub lines_len : ℕ → List ℕ → ℕ
lines_len n [] = 0
lines_len n (b ∷ bs) = if n == 0 then 0 else lines_len (if ends_line b then n - 1 else n) bs + 1

-- the number of code units in the character that this byte begins
abbrev pub width_of : PositionEncoding → ℕ → ℕ
width_of Utf8 b = if nat_lt b 128 then 1 else if nat_lt b 224 then 2 else if nat_lt b 240 then 3 else 4
width_of Utf16 b = if nat_lt b 240 then 1 else 2
width_of Utf32 b = 1

-- the number of code units that a byte adds: those of its character at the first byte, and none at the others
abbrev pub cost : PositionEncoding → ℕ → ℕ
cost encoding b = if is_lead b then width_of encoding b else 0

-- whether the byte is not among the first `units` code units of its line
abbrev pub exceeds_units : PositionEncoding → ℕ → ℕ → Bool
exceeds_units encoding units b = ends_line b || nat_lt units (cost encoding b)

-- the number of bytes in the whole characters within the first `units` code units of a line
abbrev pub units_len : PositionEncoding → ℕ → List ℕ → ℕ
units_len encoding units [] = 0
units_len encoding units (b ∷ bs) = if exceeds_units encoding units b then 0 else units_len encoding (units - cost encoding b) bs + 1

-- the offset of a position in a text
abbrev pub offset_of : PositionEncoding → Position → List ℕ → ℕ
offset_of encoding at text = let start = lines_len at.line text in start + units_len encoding at.character (drop start text)
