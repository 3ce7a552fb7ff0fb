use Rattle.std.proofs.Common.{◌≡◌, drop}
use Rattle.ti_infer.specs.Mirrors.Implications.{extend_distinct}
use Rattle.ti_infer.proofs.constraints.copies.extend_distinct.Given as goal

abbrev pub invariant-loop-a : goal.invariant-loop-a
invariant-loop-a l = extend_distinct l.old.items (drop l.a-index l.more) ≡ extend_distinct l.fn.old.items l.more
