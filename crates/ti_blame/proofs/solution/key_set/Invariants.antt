use Rattle.std.proofs.Common.{◌≡◌, take}
use Rattle.std.specs.BTreeSet.{contains}
use Rattle.ti_blame.specs.declared.mark.MarkKey.{MarkKey}
use Rattle.ti_blame.specs.Keys.{key_cmp}
use Rattle.ti_blame.specs.Mirrors.Starts.{has_key}
use Rattle.ti_blame.proofs.solution.key_set.Given as goal

abbrev pub invariant-loop-m : goal.invariant-loop-m
invariant-loop-m l = (n : MarkKey) → contains key_cmp l.found n ≡ has_key (take l.m-index l.names) n
