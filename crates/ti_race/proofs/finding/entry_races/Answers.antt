use Rattle.std.proofs.Common.{map, ap, ◌∙◌}
use Rattle.ti_race.specs.declared.spots.Use.{Use}
use Rattle.ti_race.specs.Mirrors.AccessTable.{racing_in}
use Rattle.ti_race.proofs.SameSpots.{races_like}
use Rattle.ti_race.proofs.finding.entry_races.Goals as goal

pub returns : goal.returns
returns c =
    c.in_ok-numbers.ensures ∙ ap (map (λ (u : Use). u.number)) (c.deref-2.ensures.value ∙ c.in_ok-racing.ensures ∙ ap racing_in c.deref.ensures.value)
    ∙ races_like c.args.entries.now c.in_ok-uses.uses.found.items c.in_ok-uses.ensures.uses
