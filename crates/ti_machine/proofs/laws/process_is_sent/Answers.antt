use denote.Param.Send.{sendable}
use Rattle.ti_machine.proofs.Sending.{process_send}
use Rattle.ti_machine.proofs.laws.process_is_sent.Goals as goal

pub require_send-requires-send-T : goal.require_send-requires-send-T
require_send-requires-send-T c κs = search (sendable, process_send) depth 4
