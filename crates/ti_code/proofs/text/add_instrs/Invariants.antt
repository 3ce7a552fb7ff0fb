use Rattle.std.proofs.Common.{◌≡◌, ◌++◌, drop}
use Rattle.ti_code.specs.CodeText.{instr_lines}
use Rattle.ti_code.proofs.text.add_instrs.Given as goal

abbrev pub invariant-loop-n : goal.invariant-loop-n
invariant-loop-n l = l.out.items ++ instr_lines l.n (drop l.n l.instrs) ≡ l.initial.out.items ++ instr_lines 0 l.instrs
