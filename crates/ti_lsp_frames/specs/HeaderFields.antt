-- What a line of a header says. A line is given without its end.
use Rattle.std.specs.Prelude.{ℕ, ◌+◌, ◌-◌, ◌*◌, ◌==◌, min, if◌then◌else◌, Bool, Option, Some, None, List, [], ◌∷◌, take, drop, map, position, codes, bytes_eq}
use Rattle.std.specs.List.{list_all}
use Rattle.std.specs.Char.{is_ascii_digit, to_ascii_lowercase}
use Rattle.ti_lsp_frames.specs.declared.header_field.HeaderField.{HeaderField}
use Rattle.ti_lsp_frames.specs.declared.header_field.HeaderField.TheVariants.{ContentLength, Other, Malformed}

-- the value of a field without the spaces before it
abbrev pub without_spaces : List ℕ → List ℕ
without_spaces [] = []
without_spaces (b ∷ bs) = if b == 32 then without_spaces bs else b ∷ bs

-- the number with the digits of n and then these; it stops at the maximum length of a content plus one
abbrev pub number_after : ℕ → List ℕ → ℕ
number_after n [] = n
number_after n (d ∷ ds) = number_after (min (n * 10 + (d - 48)) 16777217) ds

-- the number with these digits, if there is one and all are digits
abbrev pub decimal_of : List ℕ → Option ℕ
decimal_of [] = None
decimal_of (d ∷ ds) = if list_all is_ascii_digit (d ∷ ds) then Some (number_after 0 (d ∷ ds)) else None

-- whether the name of a field is that of the content length, in any case
abbrev pub is_length_name : List ℕ → Bool
is_length_name name = bytes_eq (map to_ascii_lowercase name) (codes "content-length")

-- the field of a content length with this value, if that is a number
abbrev pub length_field : Option ℕ → HeaderField
length_field None = Malformed
length_field (Some n) = ContentLength n

-- the field on a line whose first colon is at this index
abbrev pub field_at : List ℕ → Option ℕ → HeaderField
field_at line None = Malformed
field_at line (Some colon) =
    if is_length_name (take colon line) then length_field (decimal_of (without_spaces (drop (colon + 1) line))) else Other

-- the field on a line: 58 is the colon
abbrev pub header_field_of : List ℕ → HeaderField
header_field_of line = field_at line (position (λ b. b == 58) line)
