-- Messages of the code as messages of the specification.
use Rattle.std.specs.Prelude.{map, string_bytes}
use Rattle.serde_json.specs.View.{view}
use Rattle.ti_lsp.specs.declared.edit.Change.{Change}
use Rattle.ti_lsp.specs.declared.message.Request.{Request}
use Rattle.ti_lsp.specs.declared.message.Request.TheVariants as requests
use Rattle.ti_lsp.specs.declared.message.Notification.{Notification}
use Rattle.ti_lsp.specs.declared.message.Notification.TheVariants as notifications
use Rattle.ti_lsp.specs.declared.message.Message.{Message}
use Rattle.ti_lsp.specs.declared.message.Message.TheVariants as messages
use Rattle.ti_lsp.specs.Messages.{ChangeView, RequestView, NotificationView, MessageView, initialize, shutdown, hover, definition, code_action, document_symbol, invalid_params, unknown_method, exit, opened, changed, closed, other, request, notification, response, invalid}

abbrev pub change_view : Change → ChangeView
change_view c = record { range = c.range; new_text = string_bytes c.text }

abbrev pub request_view : Request → RequestView
request_view (requests.Initialize client) = initialize client
request_view requests.Shutdown = shutdown
request_view (requests.Hover uri at) = hover (string_bytes uri) at
request_view (requests.Definition uri at) = definition (string_bytes uri) at
request_view (requests.CodeAction uri filter) = code_action (string_bytes uri) filter
request_view (requests.DocumentSymbol uri) = document_symbol (string_bytes uri)
request_view requests.InvalidParams = invalid_params
request_view requests.UnknownMethod = unknown_method

abbrev pub notification_view : Notification → NotificationView
notification_view notifications.Exit = exit
notification_view (notifications.Opened uri version text) = opened (string_bytes uri) version (string_bytes text)
notification_view (notifications.Changed uri version changes) = changed (string_bytes uri) version (map change_view changes.items)
notification_view (notifications.Closed uri) = closed (string_bytes uri)
notification_view notifications.Other = other

abbrev pub message_view : Message → MessageView
message_view (messages.Request id r) = request (view id) (request_view r)
message_view (messages.Notification n) = notification (notification_view n)
message_view messages.Response = response
message_view messages.Invalid = invalid
