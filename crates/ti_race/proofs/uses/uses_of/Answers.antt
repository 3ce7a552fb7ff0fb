use Rattle.std.proofs.Common.{take, sym, subst}
use Rattle.std.proofs.lemmas.List.{take_more}
use Rattle.ti_race.specs.Mirrors.HistoryIndex.{Gathers}
use Rattle.ti_race.proofs.uses.uses_of.Goals as goal

pub loop-e-preserved : goal.loop-e-preserved
loop-e-preserved c =
    subst (Gathers c.see.new.self) (sym (take_more c.args.entries.now c.loop-e.e-index _ c.loop-e-test.true))
    (c.in_ok-see.ensures.told (take c.loop-e.e-index c.args.entries.now) c.loop-e.invariant)
