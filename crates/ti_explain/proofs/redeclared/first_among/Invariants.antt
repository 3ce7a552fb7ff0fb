use Rattle.std.proofs.Common.{◌≡◌, map, take, drop}
use Rattle.ti_explain.specs.Redeclared.{first_among, first_before}
use Rattle.ti_explain.specs.Mirrors.Names.{name_at_of}
use Rattle.ti_explain.proofs.redeclared.first_among.Given as goal

abbrev pub invariant-loop-i : goal.invariant-loop-i
invariant-loop-i l =
    first_among l.place (map name_at_of l.names)
    ≡ first_before l.place (map name_at_of (take l.i l.names)) (map name_at_of (drop l.i l.names))
