-- Nobody has to believe this: it mirrors code, and only contracts of private functions speak of it.
-- Lines of a run, which are formed without taking memory.
use Rattle.std.specs.Prelude.{ℕ, ◌+◌, ◌≤◌, List, [], length, slice_index_or}

-- the text of a printed value and a line end have at most so many bytes
abbrev pub value_room : ℕ
value_room = 38

-- a line of a run, by its bytes and by how many it has room for
pub record RoomyLine : Type 0 where
  pub taken : List ℕ
  pub room : ℕ

-- there is room for each of these literals, a value and a line end
abbrev pub HasLineRoom : List (List ℕ) → RoomyLine → Type 0
HasLineRoom literals line = (n : ℕ) → length (slice_index_or literals n []) + value_room ≤ line.room
