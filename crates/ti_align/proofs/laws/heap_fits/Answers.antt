use Rattle.ti_align.proofs.RunTypes.Heaping.{keeps_types}
use Rattle.ti_align.proofs.laws.heap_fits.Goals as goal

pub returns : goal.returns
returns c p elements h i a wanted s q f k = keeps_types p elements h i a wanted s q f k
