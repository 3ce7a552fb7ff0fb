-- Indexing the table of member names yields the element, and None past the end.
use Rattle.std.proofs.Common.{◌≡◌, ℕ, ◌<◌, ◌≤◌, length, get_or, slice_get, List, Some, None}
use Rattle.std.proofs.lemmas.Option.{slice_get-get_or, slice_get_past}

pub name_here : (names : List (List ℕ)) (i : ℕ) (d : List ℕ) → i < length names → slice_get names i ≡ Some (get_or names i d)
name_here names i d lt = slice_get-get_or names i d lt

pub no_name_here : (names : List (List ℕ)) (i : ℕ) → length names ≤ i → slice_get names i ≡ None
no_name_here names i le = slice_get_past names i le

pub ruleset name_lookups = (name_here, no_name_here)
