use Rattle.std.proofs.Common.{◌≡◌, ◌++◌, drop}
use Rattle.ti_infer.specs.Mirrors.Locals.{local_candidates}
use Rattle.ti_infer.proofs.constraints.candidates.of_locals.Given as goal

abbrev pub invariant-loop-l : goal.invariant-loop-l
invariant-loop-l l = l.out.items ++ local_candidates (drop l.l-index l.found) ≡ l.fn.out.items ++ local_candidates l.found
