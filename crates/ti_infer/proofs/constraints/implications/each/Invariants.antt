use Rattle.std.proofs.Common.{◌≡◌, ◌++◌, drop}
use Rattle.ti_infer.specs.Mirrors.Implications.{each}
use Rattle.ti_infer.proofs.constraints.implications.each.Given as goal

abbrev pub invariant-loop-what : goal.invariant-loop-what
invariant-loop-what l = l.out.items ++ each l.found (drop l.what-index l.whats) ≡ l.fn.out.items ++ each l.found l.whats
