use Rattle.std.proofs.Common.{take, sym, subst}
use Rattle.std.proofs.lemmas.List.{take_more}
use Rattle.ti_race.specs.Mirrors.AccessTable.{IsTableOf}
use Rattle.ti_race.proofs.Noting.{tells_more}
use Rattle.ti_race.proofs.table.table_of.Goals as goal

pub loop-u-preserved : goal.loop-u-preserved
loop-u-preserved c =
    subst (IsTableOf c.note.new.table) (sym (take_more c.args.uses.now c.loop-u.u-index _ c.loop-u-test.true))
    (tells_more c.loop-u.table c.note.new.table (take c.loop-u.u-index c.args.uses.now) _ c.in_ok-place.ensures.users c.in_ok-place.ensures.writers c.loop-u.invariant)
