use Rattle.std.proofs.Common.{◌≡◌, drop}
use Rattle.std.specs.List.{list_any}
use Rattle.ti_infer.specs.Mirrors.Implications.{same_dependency}
use Rattle.ti_infer.proofs.constraints.copies.has_dependency.Given as goal

abbrev pub invariant-loop-b : goal.invariant-loop-b
invariant-loop-b l = list_any (same_dependency l.dependency) l.old ≡ list_any (same_dependency l.dependency) (drop l.b-index l.old)
