use Rattle.ti_infer.proofs.MarkedNumbers.{marked_numbered}
use Rattle.ti_infer.proofs.MainKept.{main_unmarked}
use Rattle.ti_infer.proofs.laws.marked_is_numbered.Goals as goal

pub returns : goal.returns
returns c = record { numbered = marked_numbered; main = main_unmarked }
