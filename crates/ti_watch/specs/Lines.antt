-- The buffer for one line.
use Rattle.std.specs.Prelude.{ℕ}

-- the size of the buffer in bytes
abbrev pub line_room : ℕ
line_room = 512
