-- Mirrors the code, for contracts of private functions: the places at which variables are declared, by their numbers.
use Rattle.std.specs.Prelude.{◌≡◌, ℕ, ◌==◌, if◌then◌else◌, List, map, Option, Some, None, slice_get, unwrap_or}
use Rattle.std.specs.Option.{option_or}
use Rattle.ti_base.specs.declared.place.Place.{Place}
use Rattle.ti_lang.specs.Program.Classes.{NumberedParam}

abbrev pub listed_place : List (Option Place) → ℕ → Option Place
listed_place places number = unwrap_or (slice_get places number) None

-- parameters are the variables from number 0 on
abbrev pub places_of_params : List NumberedParam → List (Option Place)
places_of_params ws = map (λ (w : NumberedParam). Some w.place) ws

-- this place for this number, none for others
abbrev pub place_if : ℕ → Place → ℕ → Option Place
place_if number at n = if number == n then Some at else None

-- each entry is the place that was there, or else the one that is found
abbrev pub AreAdded : List (Option Place) → List (Option Place) → (ℕ → Option Place) → Type 0
AreAdded old new found = (number : ℕ) → listed_place new number ≡ option_or (listed_place old number) (found number)
