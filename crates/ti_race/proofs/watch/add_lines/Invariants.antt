use Rattle.std.proofs.Common.{◌≡◌, ◌++◌, take}
use Rattle.std.specs.List.{flat_map}
use Rattle.ti_race.specs.Mirrors.HistoryIndex.{use_line}
use Rattle.ti_race.proofs.watch.add_lines.Given as goal

-- the lines so far are added
abbrev pub invariant-loop-u : goal.invariant-loop-u
invariant-loop-u l = l.out.items ≡ l.initial.out.items ++ flat_map use_line (take l.u-index l.uses)
