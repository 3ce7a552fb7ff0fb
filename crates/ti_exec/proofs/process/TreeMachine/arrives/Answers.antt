use Rattle.std.proofs.Common.{refl}
use Rattle.ti_exec.proofs.Asked.{arrived}
use Rattle.ti_exec.proofs.Works.{of_result}
use Rattle.ti_exec.proofs.process.TreeMachine.arrives.Goals as goal

pub returns : goal.returns
returns c = of_result c.asks.result _ _ (λ t asks p frames wanted receiver f e. asks p _ _ refl refl (arrived p c.args.self.now c.args.mode frames _ f e)) c.asks.ensures
