use Rattle.ti_machine.specs.ProcView.{initial_machine}
use Rattle.ti_machine.proofs.Paths.{next_same}
use Rattle.ti_machine.proofs.laws.next_is_unique.Goals as goal

pub returns : goal.returns
returns c = λ s m n x y. next_same s.code (initial_machine s) s.answers m n x y
