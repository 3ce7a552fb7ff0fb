use Rattle.ti_infer.proofs.NoMainCalls.{none_always}
use Rattle.ti_infer.proofs.laws.nothing_blamed_in_any_case.Goals as goal

pub returns : goal.returns
returns c = λ p m numbered types plain. none_always p numbered types plain m
