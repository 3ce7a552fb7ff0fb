-- The lines of a report.
use Rattle.std.specs.Prelude.{ℕ, ◌≤◌, List, ◌++◌, codes, decimal}
use Rattle.timeline.specs.declared.entry.TraceEntry.{TraceEntry}
use Rattle.timeline.specs.declared.entry.SourcePlace.{SourcePlace}

-- a source location: line and column
abbrev pub source_place_text : SourcePlace → List ℕ
source_place_text p = decimal p.line ++ (codes ":" ++ decimal p.column)

-- a printable byte: neither a control character nor above 126
abbrev pub IsShown : ℕ → Type 0
IsShown byte = (32 ≤ byte) × (byte ≤ 126)

-- what follows the source location of an entry: the operation and its result
abbrev pub done_text : TraceEntry → List ℕ
done_text e = e.done.now ++ (codes " -> " ++ e.answer.now)

-- what follows the number of an entry
abbrev pub rest_text : TraceEntry → List ℕ
rest_text e = codes "p" ++ (decimal e.process ++ (codes " " ++ (decimal e.place.line
    ++ (codes ":" ++ (decimal e.place.column ++ (codes " " ++ done_text e))))))

-- the line of an entry with its number
abbrev pub timeline_line : ℕ → TraceEntry → List ℕ
timeline_line number e = decimal number ++ (codes " " ++ rest_text e)
