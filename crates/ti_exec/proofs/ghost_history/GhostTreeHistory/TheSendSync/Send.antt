use denote.Param.Send.{IsSend}
use Rattle.ti_exec.specs.contracts.ghost_history.GhostTreeHistory.{the_row}
use Rattle.ti_exec.proofs.Sending.{past_sent}

pub send : IsSend the_row
send = past_sent
