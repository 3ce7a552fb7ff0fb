use Rattle.std.proofs.Common.{refl}
use Rattle.ti_runtime.proofs.Endings.{unbegun}
use Rattle.ti_runtime.proofs.runner.out_of_memory_end.Goals as goal

pub returns : goal.returns
returns c = λ code s workers some. unbegun code s workers _ some refl c.new.ensures
