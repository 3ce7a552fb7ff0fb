use denote.Param.Send.{IsSend}
use Rattle.ti_machine.specs.contracts.history.ProcHistory.{the_row}
use Rattle.ti_machine.proofs.Sending.{past_sent}

pub send : IsSend the_row
send = past_sent
