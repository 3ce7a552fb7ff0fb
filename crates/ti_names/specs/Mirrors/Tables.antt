-- For proofs only: symbol tables as association lists, and those of a program.
use Rattle.std.specs.Prelude.{ℕ, Bool, ◌+◌, if◌then◌else◌, List, [], ◌∷◌, ◌++◌, map, length, Option, is_some, slice_get, bytes_eq}
use Rattle.std.specs.Map.{lookup}
use Rattle.std.specs.Option.{option_and_then}
use Rattle.ti_syntax.specs.Trees.Classes.{FieldTree, MemberTree, FieldMember, MethodMember, ClassTree, TextTree}
use Rattle.ti_lang.specs.Members.{fields_in, OwnMethod, is_static, names_of}

-- the table with this pair appended, unless its name is in the table already
abbrev pub with_new_name : {V : Type 0} → List (List ℕ × V) → List ℕ → V → List (List ℕ × V)
with_new_name table name value = if is_some (lookup (bytes_eq name) table) then table else table ++ (name, value) ∷ []

-- the table with these names added, numbered consecutively from `number` on; names that it has already are skipped
abbrev pub with_numbered : List (List ℕ × ℕ) → ℕ → List (List ℕ) → List (List ℕ × ℕ)
with_numbered table number [] = table
with_numbered table number (name ∷ rest) = with_numbered (with_new_name table name number) (number + 1) rest

-- the names, numbered consecutively from `number` on
abbrev pub with_indices : ℕ → List (List ℕ) → List (List ℕ × ℕ)
with_indices number [] = []
with_indices number (name ∷ rest) = (name, number) ∷ with_indices (number + 1) rest

-- the value of a name in one of several tables
abbrev pub lookup_in : List (List (List ℕ × ℕ)) → ℕ → List ℕ → Option ℕ
lookup_in tables number name = option_and_then (λ table. lookup (bytes_eq name) table) (slice_get tables number)

-- ---- the tables of a program

abbrev pub class_names : List ClassTree → List (List ℕ)
class_names cs = map (λ (c : ClassTree). c.name) cs

abbrev pub field_names : List FieldTree → List (List ℕ)
field_names fs = map (λ (f : FieldTree). f.name) fs

-- the names of the methods among members
abbrev pub names_of_methods : List MemberTree → List (List ℕ)
names_of_methods [] = []
names_of_methods (FieldMember f ∷ rest) = names_of_methods rest
names_of_methods (MethodMember m ∷ rest) = m.name ∷ names_of_methods rest

abbrev pub class_table : TextTree → List (List ℕ × ℕ)
class_table text = with_numbered [] 0 (class_names text)

-- the field table of each class
abbrev pub field_tables : List ClassTree → List (List (List ℕ × ℕ))
field_tables cs = map (λ (c : ClassTree). with_numbered [] 0 (field_names (fields_in c.members))) cs

-- the method table of each class, with methods numbered from `number` on throughout
abbrev pub method_tables : ℕ → List ClassTree → List (List (List ℕ × ℕ))
method_tables number [] = []
method_tables number (c ∷ rest) =
    with_numbered [] number (names_of_methods c.members) ∷ method_tables (number + length (names_of_methods c.members)) rest

-- for each method, whether it is static
abbrev pub static_table : List OwnMethod → List Bool
static_table ms = map (λ (own : OwnMethod). is_static own.method) ms

-- the interned member names with their numbers
abbrev pub name_table : TextTree → List (List ℕ × ℕ)
name_table text = with_indices 0 (names_of text)
