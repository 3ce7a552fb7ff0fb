-- What contracts see of a history.
use Rattle.std.specs.Prelude.{ℕ, Bool, List, refl}
use Rattle.std.specs.Coded.{Coded, code_by, coded×, coded_bool, coded_list}
use Rattle.ti_base.specs.declared.entry.Entry.{Entry}

-- the entries in order, and whether there is capacity for one more
pub record Recorded : Type 0 where
  pub items : List Entry
  pub has_room : Bool

-- How the logic encodes it; no contract depends on it.
abbrev pub recorded_code : Coded Entry → Coded Recorded
recorded_code entry =
    code_by (List Entry × Bool) (coded× (coded_list entry) coded_bool)
    (λ h. (h.items, h.has_room))
    (λ t. record { items = t.0; has_room = t.1 })
    (λ _. refl)
