use Rattle.std.proofs.Common.{◌≡◌, drop}
use Rattle.std.specs.List.{list_any}
use Rattle.ti_blame.specs.Mirrors.Search.{same_reason}
use Rattle.ti_blame.proofs.search.has_reason.Given as goal

abbrev pub invariant-loop-b : goal.invariant-loop-b
invariant-loop-b l = list_any (same_reason l.reason) l.found ≡ list_any (same_reason l.reason) (drop l.b-index l.found)
