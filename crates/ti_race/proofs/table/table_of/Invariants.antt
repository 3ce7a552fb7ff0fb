use Rattle.std.proofs.Common.{take}
use Rattle.ti_race.specs.Mirrors.AccessTable.{IsTableOf}
use Rattle.ti_race.proofs.table.table_of.Given as goal

abbrev pub invariant-loop-u : goal.invariant-loop-u
invariant-loop-u l = IsTableOf l.table (take l.u-index l.initial.uses)
