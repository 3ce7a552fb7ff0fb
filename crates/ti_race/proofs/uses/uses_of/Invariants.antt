use Rattle.std.proofs.Common.{take}
use Rattle.ti_race.specs.Mirrors.HistoryIndex.{Gathers}
use Rattle.ti_race.proofs.uses.uses_of.Given as goal

-- the entries so far are told
abbrev pub invariant-loop-e : goal.invariant-loop-e
invariant-loop-e l = Gathers l.uses (take l.e-index l.initial.entries)
