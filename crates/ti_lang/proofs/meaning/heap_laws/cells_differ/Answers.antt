use Rattle.ti_lang.proofs.MeaningLaws.Grids.{cells_differ}
use Rattle.ti_lang.proofs.meaning.heap_laws.cells_differ.Goals as goal

pub returns : goal.returns
returns c = cells_differ
