use Rattle.std.proofs.Common.{◌≡◌, map, drop}
use Rattle.ti_explain.specs.Redeclared.{is_declared_at}
use Rattle.ti_explain.specs.Mirrors.Names.{name_at_of}
use Rattle.ti_explain.proofs.redeclared.is_declared_at.Given as goal

abbrev pub invariant-loop-d : goal.invariant-loop-d
invariant-loop-d l =
    is_declared_at l.place (map name_at_of l.variables) ≡ is_declared_at l.place (map name_at_of (drop l.d-index l.variables))
