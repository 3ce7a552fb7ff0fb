use Rattle.std.proofs.Common.{◌≡◌, ◌++◌, drop}
use Rattle.ti_infer.specs.Mirrors.Locals.{local_edges}
use Rattle.ti_infer.proofs.constraints.fits.of_locals.Given as goal

abbrev pub invariant-loop-l : goal.invariant-loop-l
invariant-loop-l l = l.out.items ++ local_edges (drop l.l-index l.found) ≡ l.fn.out.items ++ local_edges l.found
