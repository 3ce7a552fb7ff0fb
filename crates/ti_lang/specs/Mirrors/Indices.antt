-- The tables of first fields and first methods, as association lists. They aren't part of what has to be believed: a lookup in them
-- is proved to yield what the program declares.
use Rattle.std.specs.Prelude.{ℕ, Bool, ◌+◌, ◌==◌, ◌&&◌, if◌then◌else◌, List, [], ◌∷◌, ◌++◌, is_some}
use Rattle.std.specs.Map.{lookup}
use Rattle.ti_lang.specs.declared.program.classes.Class.{Class}
use Rattle.ti_lang.specs.declared.program.classes.Field.{Field}
use Rattle.ti_lang.specs.declared.program.classes.Method.{Method}

-- the number of a class and the number of a name
abbrev pub Key : Type 0
Key = ℕ × ℕ

abbrev pub same_key : Key → Key → Bool
same_key a b = (a.0 == b.0) && (a.1 == b.1)

-- the table with one more row, unless it has one with this key
abbrev pub with_first : List (Key × ℕ) → Key → ℕ → List (Key × ℕ)
with_first table key number = if is_some (lookup (same_key key) table) then table else table ++ (key, number) ∷ []

-- the table with these rows, each unless there is one with its key
abbrev pub with_firsts : List (Key × ℕ) → List (Key × ℕ) → List (Key × ℕ)
with_firsts table [] = table
with_firsts table (row ∷ rest) = with_firsts (with_first table row.0 row.1) rest

-- the rows of the fields of a class, numbered from `number` on
abbrev pub numbered_fields : ℕ → ℕ → List Field → List (Key × ℕ)
numbered_fields class number [] = []
numbered_fields class number (f ∷ rest) = ((class, f.name), number) ∷ numbered_fields class (number + 1) rest

-- the rows of the fields of classes, numbered from `class` on
abbrev pub field_rows : ℕ → List Class → List (Key × ℕ)
field_rows class [] = []
field_rows class (c ∷ rest) = numbered_fields class 0 c.fields.items ++ field_rows (class + 1) rest

-- the rows of methods, numbered from `number` on
abbrev pub method_rows : ℕ → List Method → List (Key × ℕ)
method_rows number [] = []
method_rows number (m ∷ rest) = ((m.class, m.name), number) ∷ method_rows (number + 1) rest
