use Rattle.std.proofs.Common.{◌≡◌, filter, take}
use Rattle.ti_race.specs.Mirrors.AccessTable.{racing_by}
use Rattle.ti_race.proofs.table.racing_among.Given as goal

abbrev pub invariant-loop-number : goal.invariant-loop-number
invariant-loop-number l = l.racing.items ≡ filter (racing_by l.table) (take l.number l.initial.uses)
