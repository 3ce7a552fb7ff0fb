use Rattle.std.proofs.Common.{◌≡◌, ◌++◌, map, drop}
use Rattle.ti_explain.specs.NameReasons.{near_reasons}
use Rattle.ti_explain.specs.Mirrors.Names.{name_at_of}
use Rattle.ti_explain.proofs.name_reasons.near_reasons.Given as goal

abbrev pub invariant-loop-d : goal.invariant-loop-d
invariant-loop-d l =
    l.found.items ++ near_reasons l.two l.name (map name_at_of (drop l.d-index l.names))
    ≡ near_reasons l.two l.name (map name_at_of l.names)
