use Rattle.std.proofs.Common.{◌≡◌, take, string_bytes}
use Rattle.timeline.specs.Shapes.{svg_text}
use Rattle.timeline.proofs.shapes.svg_text.Given as goal

abbrev pub invariant-loop-byte : goal.invariant-loop-byte
invariant-loop-byte l = string_bytes l.out ≡ svg_text (take l.byte-index l.initial.text)
