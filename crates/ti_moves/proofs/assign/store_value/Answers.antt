use Rattle.std.proofs.Common.{ap, List, []}
use Rattle.ti_lang.specs.Meaning.Comp.{CompResult, bind_result, gives}
use Rattle.ti_lang.specs.Meaning.Processes.{Variable}
use Rattle.ti_lang.specs.Meaning.Moves.{Goes}
use Rattle.ti_moves.proofs.assign.store_value.Goals as goal

pub returns : goal.returns
returns c = λ x. ap (λ (g : CompResult (List Variable)). bind_result g (λ ws. gives (Goes ws []))) c.in_ok-change.ensures
