use Rattle.std.proofs.Common.{sym, subst, IfOk}
use Rattle.ti_base.specs.declared.action.CollKind.{CollKind}
use Rattle.ti_code.specs.Programs.{Code}
use Rattle.ti_machine.specs.Mirrors.Machines.{IsArrivalPayload}
use Rattle.ti_machine.proofs.machine.Machine.arrival_payload.Goals as goal

pub returns-in-Broadcast-clause-gift : goal.returns-in-Broadcast-clause-gift
returns-in-Broadcast-clause-gift c =
    let m = c.args.self.now in
    subst (λ (k : CollKind). IfOk c.broadcast_payload.result (λ g. (p : Code) → IsArrivalPayload p k m g c.broadcast_payload.new.self)) (sym c.in-Broadcast.is) c.broadcast_payload.ensures.gift

pub returns-in-Exchange-clause-gift : goal.returns-in-Exchange-clause-gift
returns-in-Exchange-clause-gift c =
    let m = c.args.self.now in
    subst (λ (k : CollKind). IfOk c.exchange_payload.result (λ g. (p : Code) → IsArrivalPayload p k m g c.exchange_payload.new.self)) (sym c.in-Exchange.is) c.exchange_payload.ensures.gift
