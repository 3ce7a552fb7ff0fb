use Rattle.std.proofs.Common.{◌≡◌, ◌++◌, flat_map, drop}
use Rattle.ti_top.specs.Inference.{mark_line}
use Rattle.ti_top.proofs.inferring.push_lines.Given as goal

abbrev pub invariant-loop-mark : goal.invariant-loop-mark
invariant-loop-mark l = l.text.items ++ flat_map mark_line (drop l.mark-index l.marks) ≡ l.fn.text.items ++ flat_map mark_line l.marks
