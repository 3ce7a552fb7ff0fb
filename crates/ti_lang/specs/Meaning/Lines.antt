-- The output of a run.
use Rattle.std.specs.Prelude.{ℕ, ℤ, true, false, codes, List, [], ◌∷◌, ◌++◌, slice_index_or, Option, None, Some}
use Rattle.std.specs.List.{flat_map}
use Rattle.std.specs.Fmt.{signed_decimal}
use Rattle.ti_base.specs.declared.value.Value.{Value}
use Rattle.ti_base.specs.declared.value.Value.TheVariants as v
use Rattle.ti_base.specs.declared.action.Action.{Action}
use Rattle.ti_base.specs.declared.action.Action.TheVariants as act
use Rattle.ti_base.specs.declared.entry.Entry.{Entry}
use Rattle.ti_lang.specs.Program.Classes.{ProgramView}
use Rattle.ti_lang.specs.Meaning.Literals.{coordinates_of}

-- numbers in decimal, separated by `,`
abbrev pub listed_text : List ℤ → List ℕ
listed_text [] = []
listed_text (x ∷ []) = signed_decimal x
listed_text (x ∷ y ∷ rest) = signed_decimal x ++ codes "," ++ listed_text (y ∷ rest)

-- the output of a printed value: an integer in decimal, with `-` if it is negative; `true` or `false`; the coordinates of a point
-- in brackets; no other value can be printed
abbrev pub value_text : Value → List ℕ
value_text (v.Int n) = signed_decimal n
value_text (v.Long n) = signed_decimal n
value_text (v.Bool true) = codes "true"
value_text (v.Bool false) = codes "false"
value_text (v.Pt p) = codes "[" ++ listed_text (coordinates_of p) ++ codes "]"
value_text other = []

-- the output of the optional value of a print
abbrev pub printed_text : Option Value → List ℕ
printed_text None = []
printed_text (Some value) = value_text value

-- the contents of the optional literal, by its number; empty if there is no such literal
abbrev pub literal_text : List (List ℕ) → Option ℕ → List ℕ
literal_text literals None = []
literal_text literals (Some n) = slice_index_or literals n []

-- the line of a print: its literal, its value and a newline; every other action prints nothing
abbrev pub line_of : List (List ℕ) → Action → List ℕ
line_of literals (act.Print literal value) = literal_text literals literal ++ printed_text value ++ 10 ∷ []
line_of literals a = []

-- the output of a run: the lines of its prints in the order of the entries
abbrev pub lines_of : ProgramView → List Entry → List ℕ
lines_of program es = flat_map (λ e. line_of program.literals e.act) es
