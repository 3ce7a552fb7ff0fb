-- A history may be sent from one thread to another.
use denote.Param.Send.{IsSend, sendable}
use Rattle.std.proofs.Crossing.{crosses}
use Rattle.ti_base.specs.contracts.action.Action as action
use Rattle.ti_base.specs.contracts.action.Deposit as deposit
use Rattle.ti_base.specs.contracts.action.ViewHow as how
use Rattle.ti_base.specs.contracts.value.Value as value
use Rattle.ti_base.specs.contracts.value.Zero as zero
use Rattle.ti_base.specs.contracts.fault.FaultKind as fault
use Rattle.ti_base.specs.contracts.entry.Answer as answer
use Rattle.ti_base.specs.contracts.entry.Entry as entry
use Rattle.ti_base.specs.contracts.place.Place as place
use Rattle.ti_history.specs.contracts.head.Form as form
use Rattle.ti_history.specs.contracts.head.PointForm as point_form
use Rattle.ti_history.specs.contracts.head.ValueForm as value_form
use Rattle.ti_history.specs.contracts.head.Head as head
use Rattle.ti_history.specs.contracts.columns.Columns as columns
use Rattle.ti_history.specs.contracts.packed_history.PackedHistory as history

place_send : IsSend place.the_field.row
place_send = search sendable depth 20

value_send : IsSend value.the_field.row
value_send = search sendable depth 60 fits 40000

fault_send : IsSend fault.the_field.row
fault_send = search sendable depth 60 fits 40000

zero_send : IsSend zero.the_field.row
zero_send = search sendable depth 60 fits 40000

deposit_send : IsSend deposit.the_field.row
deposit_send = search (sendable, value_send) depth 20

how_send : IsSend how.the_field.row
how_send = search sendable depth 20

action_send : IsSend action.the_field.row
action_send = search (sendable, value_send, fault_send, zero_send, deposit_send, how_send) depth 60 fits 40000

answer_send : IsSend answer.the_field.row
answer_send = search sendable depth 60 fits 40000

entry_send : IsSend entry.the_field.row
entry_send = search (sendable, place_send, action_send, answer_send) depth 20

form_send : IsSend form.the_field.row
form_send = search sendable depth 20

point_form_send : IsSend point_form.the_field.row
point_form_send = search sendable depth 20

value_form_send : IsSend value_form.the_field.row
value_form_send = search sendable depth 20

head_send : IsSend head.the_field.row
head_send = search (sendable, place_send, form_send, point_form_send, value_form_send) depth 20

columns_send : IsSend columns.the_field.row
columns_send = search (sendable, crosses, value_send, entry_send) depth 40 fits 40000

pub history_send : IsSend history.the_field.row
history_send = search (sendable, crosses, head_send, columns_send) depth 40 fits 40000
