use Rattle.std.proofs.Common.{take}
use Rattle.ti_lang.specs.Mirrors.Copies.{AreSame}
use Rattle.ti_lang.proofs.program.copy.copy_all.Given as goal

abbrev pub invariant-loop-x : goal.invariant-loop-x
invariant-loop-x g l = AreSame g.T.TryClone.same l.found.items (take l.x-index l.items)
