-- Mirrors the code; only contracts of private functions cite it, so nobody has to believe it.
-- Reading a source line by line.
use Rattle.std.specs.Prelude.{◌≡◌, ◌⊎◌, ℕ, ◌≤◌, List, [], ◌++◌, length, slice_range}
use Rattle.ti_watch.specs.Lines.{line_room}
use Rattle.ti_trace_check.specs.declared.line_reader.LineReader.{LineReader}
use Rattle.ti_trace_check.specs.Lines.{first_line}

-- the bytes that are left of the block
abbrev pub held : LineReader → List ℕ
held p = slice_range p.bytes p.at p.end

-- they lie in the block
pub record IsRoom (p : LineReader) : Type 0 where
  pub at : p.at ≤ p.end
  pub end : p.end ≤ 4096
  pub bytes : length p.bytes ≡ 4096

-- the next block was read if nothing was left of the last one; now something is, unless the source is at its end
pub record Fills (held left held_now left_now : List ℕ) : Type 0 where
  pub same : held ++ left ≡ held_now ++ left_now
  pub at_end : held_now ≡ [] → left_now ≡ []

-- the line is the first one of the source, or as much of it as is held
pub record IsFirstLine (text line : List ℕ) : Type 0 where
  pub more : List ℕ
  pub begins : first_line text ≡ line ++ more
  pub whole : (more ≡ []) ⊎ (line_room ≤ length line)

-- the line was consumed
pub record TakesLine (text line left : List ℕ) : Type 0 where
  pub off : text ≡ line ++ left
  pub first : IsFirstLine text line
