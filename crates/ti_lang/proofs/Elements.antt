-- Indexing the view of a list of classes, fields or methods yields the view of the element, and None past the end.
use Rattle.std.proofs.Common.{◌≡◌, ℕ, ◌<◌, ◌≤◌, map, length, get_or, slice_get, List, Some, None, option_map, ap, ◌∙◌}
use Rattle.std.proofs.lemmas.Option.{slice_get-map, slice_get-get_or, slice_get_past}
use Rattle.ti_lang.specs.declared.program.classes.Class.{Class}
use Rattle.ti_lang.specs.declared.program.classes.Field.{Field}
use Rattle.ti_lang.specs.declared.program.classes.Method.{Method}
use Rattle.ti_lang.specs.Program.Views.{numbered_class_of, numbered_field_of, numbered_method_of}

here : {A B : Type 0} (view : A → B) (xs : List A) (i : ℕ) (d : A) → i < length xs → slice_get (map view xs) i ≡ Some (view (get_or xs i d))
here view xs i d lt = slice_get-map view xs i ∙ ap (option_map view) (slice_get-get_or xs i d lt)

past : {A B : Type 0} (view : A → B) (xs : List A) (i : ℕ) → length xs ≤ i → slice_get (map view xs) i ≡ None
past view xs i le = slice_get-map view xs i ∙ ap (option_map view) (slice_get_past xs i le)

pub class_here : (classes : List Class) (i : ℕ) (d : Class) → i < length classes → slice_get (map numbered_class_of classes) i ≡ Some (numbered_class_of (get_or classes i d))
class_here = here numbered_class_of

pub no_class_here : (classes : List Class) (i : ℕ) → length classes ≤ i → slice_get (map numbered_class_of classes) i ≡ None
no_class_here = past numbered_class_of

pub ruleset class_lookups = (class_here, no_class_here)

pub field_here : (fields : List Field) (i : ℕ) (d : Field) → i < length fields → slice_get (map numbered_field_of fields) i ≡ Some (numbered_field_of (get_or fields i d))
field_here = here numbered_field_of

pub no_field_here : (fields : List Field) (i : ℕ) → length fields ≤ i → slice_get (map numbered_field_of fields) i ≡ None
no_field_here = past numbered_field_of

pub ruleset field_lookups = (field_here, no_field_here)

pub method_here : (methods : List Method) (i : ℕ) (d : Method) → i < length methods → slice_get (map numbered_method_of methods) i ≡ Some (numbered_method_of (get_or methods i d))
method_here = here numbered_method_of

pub no_method_here : (methods : List Method) (i : ℕ) → length methods ≤ i → slice_get (map numbered_method_of methods) i ≡ None
no_method_here = past numbered_method_of

pub ruleset method_lookups = (method_here, no_method_here)
