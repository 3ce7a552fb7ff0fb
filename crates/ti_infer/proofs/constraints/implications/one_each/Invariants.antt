use Rattle.std.proofs.Common.{◌≡◌, ◌++◌, drop}
use Rattle.ti_infer.specs.Mirrors.Implications.{one_each}
use Rattle.ti_infer.proofs.constraints.implications.one_each.Given as goal

abbrev pub invariant-loop-from : goal.invariant-loop-from
invariant-loop-from l = l.out.items ++ one_each (drop l.from-index l.found) l.what ≡ l.fn.out.items ++ one_each l.found l.what
