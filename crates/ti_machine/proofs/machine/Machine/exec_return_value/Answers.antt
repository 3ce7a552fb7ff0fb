use Rattle.std.proofs.Common.{◌≡◌, length, [], ◌∷◌, arith}
use Rattle.ti_code.specs.Effects.{top}
use Rattle.ti_machine.specs.Mirrors.FrameStates.{local_state_of}
use Rattle.ti_machine.specs.Mirrors.Machines.{machine_of}
use Rattle.ti_machine.proofs.Withins.{back_stuck, empty_list}
use Rattle.ti_machine.proofs.machine.Machine.exec_return_value.Goals as goal

pub returns-in-None : goal.returns-in-None
returns-in-None c p =
    let m = c.args.self.now in
    let none : length m.below.items ≡ 0 = omega (arith, m.below.ok.0, c.in-None.ensures.cases.0) in
    back_stuck p m (machine_of p m) (top (local_state_of m.top.state).stack ∷ []) (empty_list m.below.items none)
