-- Room for the lines of a run.
use Rattle.std.proofs.Common.{ℕ, ◌+◌, ◌≤◌, List, length, Option, Some, None, arith}
use Rattle.ti_lang.specs.Meaning.Lines.{literal_text}
use Rattle.ti_top.specs.Mirrors.Line.{value_room, RoomyLine, HasLineRoom}

-- behind each literal, or none, there is room for a value and a line end
pub room_behind : (literals : List (List ℕ)) (literal : Option ℕ) (line : RoomyLine) → HasLineRoom literals line → length (literal_text literals literal) + value_room ≤ line.room
room_behind literals None line room = let some = room 0 in omega arith
room_behind literals (Some n) line room = room n
