use Rattle.std.proofs.Common.{◌≡◌, ◌-◌}
use Rattle.ti_parse_expr.specs.Mirrors.Types.{grids}
use Rattle.ti_parse_expr.specs.Mirrors.Seen.{grids_of}
use Rattle.ti_parse_expr.proofs.types.grids.Given as goal

abbrev pub invariant-loop-turn : goal.invariant-loop-turn
invariant-loop-turn l = grids l.fuel l.room (grids_of l.fn.found) l.fn.tokens ≡ grids l.fuel (l.room - l._turn) (grids_of l.found) l.tokens
