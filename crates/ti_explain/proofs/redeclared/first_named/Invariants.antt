use Rattle.std.proofs.Common.{◌≡◌, map, drop}
use Rattle.ti_explain.specs.Redeclared.{first_named}
use Rattle.ti_explain.specs.Mirrors.Names.{name_at_of}
use Rattle.ti_explain.proofs.redeclared.first_named.Given as goal

abbrev pub invariant-loop-d : goal.invariant-loop-d
invariant-loop-d l =
    first_named l.name (map name_at_of l.names) ≡ first_named l.name (map name_at_of (drop l.d-index l.names))
