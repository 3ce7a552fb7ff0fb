-- How text is written in SVG.
use Rattle.std.specs.Prelude.{ℕ, ◌==◌, if◌then◌else◌, List, ◌++◌, flat_map, codes}
use Rattle.std.specs.Char.{encode_utf8}
use Rattle.timeline.specs.declared.entry.TraceEntry.{TraceEntry}
use Rattle.timeline.specs.Lines.{timeline_line}

-- the four bytes with a meaning in SVG are written as character entities, each other as its character
abbrev pub escape_of : ℕ → List ℕ
escape_of byte =
    if byte == 38 then codes "&amp;" else if byte == 60 then codes "&lt;" else if byte == 62 then codes "&gt;" else if byte == 34 then codes
    "&quot;" else encode_utf8 byte

abbrev pub svg_text : List ℕ → List ℕ
svg_text text = flat_map escape_of text

-- the tooltip of an entry: its line in the trace
abbrev pub title_text : ℕ → TraceEntry → List ℕ
title_text number e = codes "<title>" ++ (svg_text (timeline_line number e) ++ codes "</title>")
