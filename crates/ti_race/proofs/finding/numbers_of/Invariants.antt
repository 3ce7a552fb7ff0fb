use Rattle.std.proofs.Common.{◌≡◌, map, take}
use Rattle.ti_race.specs.declared.spots.Use.{Use}
use Rattle.ti_race.proofs.finding.numbers_of.Given as goal

abbrev pub invariant-loop-u : goal.invariant-loop-u
invariant-loop-u l = l.numbers.items ≡ map (λ (u : Use). u.number) (take l.u-index l.uses)
