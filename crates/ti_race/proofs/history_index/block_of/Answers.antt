use Rattle.std.proofs.Common.{◌∙◌, sym}
use Rattle.ti_race.proofs.IndexedObjects.{block_lies}
use Rattle.ti_race.proofs.history_index.block_of.Goals as goal

pub returns : goal.returns
returns c e h zero counted made =
    block_lies e h c.args.number c.args.id zero c.args.domain.now c.view_of.result counted made (sym c.is_block_domain.ensures.value
    ∙ c.if-not-is_block_domain.false) c.view_of.ensures.domain c.view_of.ensures.cells
