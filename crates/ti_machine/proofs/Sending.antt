-- Proves that the parts of a process can be sent to another thread.
use denote.Param.Send.{IsSend, owning_send, sendable}
use Rattle.std.proofs.Crossing.{crosses}
use Rattle.ti_eval.proofs.var_value.VarValue.TheSendSync as held
use Rattle.ti_eval.proofs.rank.Rank.TheSendSync as team
use Rattle.ti_machine.specs.contracts.frame.state.FrameState as FrameState
use Rattle.ti_machine.specs.contracts.machine.Frame as Frame
use Rattle.ti_machine.specs.contracts.machine.Machine as Machine
use Rattle.ti_machine.specs.contracts.history.ProcHistory as ProcHistory
use Rattle.ti_machine.specs.contracts.proc.Proc as Proc
use Rattle.ti_machine.proofs.frame.operand.StackOperand.TheSendSync as operand
use Rattle.ti_machine.proofs.proc.ProcState.TheSendSync as state

-- what only clauses see owns nothing
pub past_sent : IsSend ProcHistory.the_row
past_sent = owning_send ProcHistory.the_type tt (λ d. tt) (λ k x w. tt)

desk_kept : IsSend (FrameState.the_field).row
desk_kept = search (crosses, sendable, held.the_send, operand.the_send) depth 60 fits 20000

desk_sent : IsSend FrameState.the_row
desk_sent = search (crosses, sendable, held.the_send, operand.the_send) depth 60 fits 20000

frame_sent : IsSend Frame.the_row
frame_sent = search (crosses, sendable, desk_kept) depth 60 fits 20000

frame_kept : IsSend (Frame.the_field).row
frame_kept = search (crosses, sendable, desk_kept) depth 60 fits 20000

machine_kept : IsSend (Machine.the_field).row
machine_kept = search (crosses, sendable, desk_sent, frame_sent, frame_kept, team.the_field_send) depth 60 fits 20000

pub process_send : IsSend (Proc.the_field).row
process_send = search (crosses, sendable, past_sent, machine_kept, state.the_field_send) depth 60 fits 20000
