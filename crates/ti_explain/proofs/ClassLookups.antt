-- Indexing the view of a list of classes of a tree yields the view of the class, and None past the end.
use Rattle.std.proofs.Common.{◌≡◌, ℕ, ◌<◌, ◌≤◌, map, length, get_or, slice_get, List, Some, None, option_map, ap, ◌∙◌}
use Rattle.std.proofs.lemmas.Option.{slice_get-map, slice_get-get_or, slice_get_past}
use Rattle.ti_syntax.specs.declared.tree.classes.Class.{Class}
use Rattle.ti_syntax.specs.Trees.Views.{class_of}

pub class_here : (classes : List Class) (i : ℕ) (d : Class) → i < length classes → slice_get (map class_of classes) i ≡ Some (class_of (get_or classes i d))
class_here classes i d lt = slice_get-map class_of classes i ∙ ap (option_map class_of) (slice_get-get_or classes i d lt)

pub no_class_here : (classes : List Class) (i : ℕ) → length classes ≤ i → slice_get (map class_of classes) i ≡ None
no_class_here classes i le = slice_get-map class_of classes i ∙ ap (option_map class_of) (slice_get_past classes i le)

pub ruleset class_lookups = (class_here, no_class_here)
