use Rattle.std.proofs.Common.{◌≡◌, [], drop}
use Rattle.ti_lang.specs.Mirrors.Indices.{with_firsts, method_rows}
use Rattle.ti_lang.proofs.program.index.first_methods.Given as goal

abbrev pub invariant-loop-i : goal.invariant-loop-i
invariant-loop-i l = with_firsts l.found (method_rows l.i (drop l.i l.methods)) ≡ with_firsts [] (method_rows 0 l.methods)
