use Rattle.std.proofs.Common.{◌≡◌, ◌++◌, drop}
use Rattle.ti_code.specs.CodeText.{method_lines}
use Rattle.ti_code.proofs.text.add_methods.Given as goal

abbrev pub invariant-loop-k : goal.invariant-loop-k
invariant-loop-k l = l.out.items ++ method_lines l.k (drop l.k l.methods) ≡ l.initial.out.items ++ method_lines 0 l.methods
