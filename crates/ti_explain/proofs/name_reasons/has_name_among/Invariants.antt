use Rattle.std.proofs.Common.{◌≡◌, map, drop}
use Rattle.ti_explain.specs.NameReasons.{has_name_among}
use Rattle.ti_explain.specs.Mirrors.Names.{name_at_of}
use Rattle.ti_explain.proofs.name_reasons.has_name_among.Given as goal

abbrev pub invariant-loop-d : goal.invariant-loop-d
invariant-loop-d l =
    has_name_among l.name (map name_at_of l.names) ≡ has_name_among l.name (map name_at_of (drop l.d-index l.names))
