-- The views of stripped lists, and the tables of fields and methods of a program, which don't change.
use Rattle.std.proofs.Common.{◌≡◌, ℕ, ◌+◌, List, [], ◌∷◌, ◌++◌, map, refl, ap, ap₂, sym, ◌∙◌}
use Rattle.ti_syntax.specs.declared.tree.types.Brackets.{Brackets}
use Rattle.ti_syntax.specs.Trees.Views.{grid_of}
use Rattle.ti_lang.specs.declared.program.classes.Field.{Field}
use Rattle.ti_lang.specs.declared.program.classes.Class.{Class}
use Rattle.ti_lang.specs.declared.program.classes.Param.{Param}
use Rattle.ti_lang.specs.declared.program.classes.Method.{Method}
use Rattle.ti_lang.specs.Program.Classes.{NumberedField, NumberedClass, NumberedParam, NumberedMethod}
use Rattle.ti_lang.specs.Program.Views.{numbered_field_of, numbered_class_of, numbered_param_of, numbered_method_of}
use Rattle.ti_lang.specs.Mirrors.Copies.{AreSame}
use Rattle.ti_lang.specs.Mirrors.Indices.{Key, with_firsts, numbered_fields, field_rows, method_rows}
use Rattle.ti_infer.specs.Stripped.{plain_grid, plain_type, plain_field, plain_class, plain_methods}
use Rattle.ti_infer.proofs.PlainLists.{all_plain}

-- ---- lists

pub plain_grids : (xs ys : List Brackets) → AreSame (λ a b. grid_of b ≡ plain_grid (grid_of a)) xs ys
    → map grid_of ys ≡ map plain_grid (map grid_of xs)
plain_grids = all_plain grid_of plain_grid

pub plain_fields : (xs ys : List Field) → AreSame (λ a b. numbered_field_of b ≡ plain_field (numbered_field_of a)) xs ys
    → map numbered_field_of ys ≡ map plain_field (map numbered_field_of xs)
plain_fields = all_plain numbered_field_of plain_field

pub plain_classes : (xs ys : List Class) → AreSame (λ a b. numbered_class_of b ≡ plain_class (numbered_class_of a)) xs ys
    → map numbered_class_of ys ≡ map plain_class (map numbered_class_of xs)
plain_classes = all_plain numbered_class_of plain_class

pub plain_all_params : (xs ys : List Param)
    → AreSame (λ a b. numbered_param_of b ≡ record (numbered_param_of a) { ty = plain_type (numbered_param_of a).ty }) xs ys
    → map numbered_param_of ys ≡ map (λ (w : NumberedParam). record w { ty = plain_type w.ty }) (map numbered_param_of xs)
plain_all_params = all_plain numbered_param_of (λ (w : NumberedParam). record w { ty = plain_type w.ty })

pub ruleset plain_lists = (plain_grids, plain_fields, plain_classes, plain_all_params)

-- ---- the table of fields

abbrev rows_of_fields : ℕ → ℕ → List NumberedField → List (Key × ℕ)
rows_of_fields class number [] = []
rows_of_fields class number (f ∷ rest) = ((class, f.name), number) ∷ rows_of_fields class (number + 1) rest

abbrev rows_of_classes : ℕ → List NumberedClass → List (Key × ℕ)
rows_of_classes class [] = []
rows_of_classes class (c ∷ rest) = rows_of_fields class 0 c.fields ++ rows_of_classes (class + 1) rest

fields_seen : (class number : ℕ) (fs : List Field)
    → numbered_fields class number fs ≡ rows_of_fields class number (map numbered_field_of fs)
fields_seen class number [] = refl
fields_seen class number (f ∷ fs) = ap (λ rest. ((class, f.name), number) ∷ rest) (fields_seen class (number + 1) fs)

classes_seen : (class : ℕ) (cs : List Class) → field_rows class cs ≡ rows_of_classes class (map numbered_class_of cs)
classes_seen class [] = refl
classes_seen class (c ∷ cs) = ap₂ (λ a b. a ++ b) (fields_seen class 0 c.fields.items) (classes_seen (class + 1) cs)

fields_stay : (class number : ℕ) (fs : List NumberedField)
    → rows_of_fields class number (map plain_field fs) ≡ rows_of_fields class number fs
fields_stay class number [] = refl
fields_stay class number (f ∷ fs) = ap (λ rest. ((class, f.name), number) ∷ rest) (fields_stay class (number + 1) fs)

classes_stay : (class : ℕ) (cs : List NumberedClass) → rows_of_classes class (map plain_class cs) ≡ rows_of_classes class cs
classes_stay class [] = refl
classes_stay class (c ∷ cs) = ap₂ (λ a b. a ++ b) (fields_stay class 0 c.fields) (classes_stay (class + 1) cs)

pub field_rows_stay : (old new : List Class) → map numbered_class_of new ≡ map plain_class (map numbered_class_of old)
    → with_firsts [] (field_rows 0 new) ≡ with_firsts [] (field_rows 0 old)
field_rows_stay old new h =
    ap (with_firsts [])
    (classes_seen 0 new ∙ ap (rows_of_classes 0) h ∙ classes_stay 0 (map numbered_class_of old) ∙ sym (classes_seen 0 old))

-- ---- the table of methods

abbrev rows_of_methods : ℕ → List NumberedMethod → List (Key × ℕ)
rows_of_methods number [] = []
rows_of_methods number (m ∷ rest) = ((m.class, m.name), number) ∷ rows_of_methods (number + 1) rest

methods_seen : (number : ℕ) (ms : List Method) → method_rows number ms ≡ rows_of_methods number (map numbered_method_of ms)
methods_seen number [] = refl
methods_seen number (m ∷ ms) = ap (λ rest. ((m.class, m.name), number) ∷ rest) (methods_seen (number + 1) ms)

methods_stay : (main k number : ℕ) (ms : List NumberedMethod)
    → rows_of_methods number (plain_methods main k ms) ≡ rows_of_methods number ms
methods_stay main k number [] = refl
methods_stay main k number (m ∷ ms) = ap (λ rest. ((m.class, m.name), number) ∷ rest) (methods_stay main (k + 1) (number + 1) ms)

pub method_rows_stay : (main : ℕ) (old new : List Method) → map numbered_method_of new ≡ plain_methods main 0 (map numbered_method_of old)
    → with_firsts [] (method_rows 0 new) ≡ with_firsts [] (method_rows 0 old)
method_rows_stay main old new h =
    ap (with_firsts [])
    (methods_seen 0 new ∙ ap (rows_of_methods 0) h ∙ methods_stay main 0 0 (map numbered_method_of old) ∙ sym (methods_seen 0 old))
