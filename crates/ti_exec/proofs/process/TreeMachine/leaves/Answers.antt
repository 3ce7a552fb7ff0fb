use Rattle.std.proofs.Common.{refl}
use Rattle.ti_exec.proofs.Asked.{waits_at, left_behind, expects_at, handed_on}
use Rattle.ti_exec.proofs.Works.{turn_at, of_result}
use Rattle.ti_exec.proofs.process.TreeMachine.leaves.Goals as goal

pub returns-clause-waits : goal.returns-clause-waits
returns-clause-waits c =
    let w = c.args.self.now in
    of_result c.asks.result _ _ (λ r asks p m t e h. turn_at p w w _ r (waits_at p w m t e) (asks p _ _ h refl (left_behind p w m t e))) c.asks.ensures

pub returns-clause-expects : goal.returns-clause-expects
returns-clause-expects c =
    let w = c.args.self.now in
    of_result c.asks.result _ _ (λ r asks p m e h. turn_at p w w _ r (expects_at p w m e) (asks p _ _ h refl (handed_on p w m e))) c.asks.ensures
