use Rattle.std.proofs.Common.{◌≡◌, take}
use Rattle.ti_infer.specs.Mirrors.Sites.{inside_of}
use Rattle.ti_infer.proofs.constraints.copies.insides.Given as goal

abbrev pub invariant-loop-v : goal.invariant-loop-v
invariant-loop-v l = inside_of l.copied.items ≡ inside_of (take l.v-index l.found)
