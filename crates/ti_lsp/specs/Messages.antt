-- Messages of a client, and how a JSON value is one.
use Rattle.std.specs.Prelude.{ℕ, ℤ, ◌||◌, Bool, false, List, [], ◌∷◌, Option, Some, None, is_some, is_none, codes, if◌then◌else◌, option_map, option_and_then, unwrap_or}
use Rattle.std.specs.Str.{bytes_eq}
use Rattle.serde_json.specs.Data.{Data, null, Items, item, no_items}
use Rattle.serde_json.specs.Find.{get, pointer, as_bool, as_str, as_number, as_u64, as_i64, as_array}
use Rattle.ti_lsp.specs.declared.client.Client.{Client}
use Rattle.ti_lsp.specs.declared.message.ActionFilter.{ActionFilter}
use Rattle.ti_lsp.specs.declared.position.PositionEncoding.{PositionEncoding}
use Rattle.ti_lsp.specs.declared.position.PositionEncoding.TheVariants.{Utf8, Utf16, Utf32}
use Rattle.ti_lsp.specs.declared.position.Position.{Position}
use Rattle.ti_lsp.specs.declared.position.TextRange.{TextRange}

-- a change of a text: of a range or of all of it, and what stands there afterwards
pub record ChangeView : Type 0 where
  pub range : Option TextRange
  pub new_text : List ℕ

-- what a request asks for
pub data RequestView : Type 0 where
  initialize : Client → RequestView
  shutdown : RequestView
  hover : List ℕ → Position → RequestView
  definition : List ℕ → Position → RequestView
  document_symbol : List ℕ → RequestView
  -- the code actions for a document that are wanted
  code_action : List ℕ → ActionFilter → RequestView
  invalid_params : RequestView
  unknown_method : RequestView

-- what a notification says
pub data NotificationView : Type 0 where
  exit : NotificationView
  -- a document's URI, version and text
  opened : List ℕ → Option ℤ → List ℕ → NotificationView
  changed : List ℕ → Option ℤ → List ChangeView → NotificationView
  closed : List ℕ → NotificationView
  other : NotificationView

-- a message; a request has an id
pub data MessageView : Type 0 where
  request : Data → RequestView → MessageView
  notification : NotificationView → MessageView
  response : MessageView
  invalid : MessageView

-- ---- parts of messages

abbrev pub string_at : List ℕ → Data → Option (List ℕ)
string_at path d = option_and_then as_str (pointer path d)

abbrev pub unsigned_member : List ℕ → Data → Option ℕ
unsigned_member key d = option_and_then as_u64 (option_and_then as_number (get key d))

abbrev pub position_from : Option ℕ → Option ℕ → Option Position
position_from None character = None
position_from (Some line) None = None
position_from (Some line) (Some character) = Some (record { line = line; character = character })

abbrev pub position_in : Data → Option Position
position_in d = position_from (unsigned_member (codes "line") d) (unsigned_member (codes "character") d)

abbrev pub position_at : List ℕ → Data → Option Position
position_at path d = option_and_then position_in (pointer path d)

abbrev pub range_from : Option Position → Option Position → Option TextRange
range_from None end = None
range_from (Some start) None = None
range_from (Some start) (Some end) = Some (record { start = start; end = end })

abbrev pub text_range_of : Data → Option TextRange
text_range_of d = range_from (position_at (codes "/start") d) (position_at (codes "/end") d)

abbrev pub text_range_at : List ℕ → Data → Option TextRange
text_range_at path d = option_and_then text_range_of (pointer path d)

abbrev pub is_string : List ℕ → Data → Bool
is_string wanted d = unwrap_or (option_map (λ t. bytes_eq t wanted) (as_str d)) false

abbrev pub any_is_string : List ℕ → Items → Bool
any_is_string wanted no_items = false
any_is_string wanted (item d ds) = is_string wanted d || any_is_string wanted ds

-- whether the array at a path contains this string
abbrev pub has_string : List ℕ → List ℕ → Data → Bool
has_string path wanted d = unwrap_or (option_map (any_is_string wanted) (option_and_then as_array (pointer path d))) false

-- the position encoding that is chosen: UTF-8 or UTF-32 if the client supports it, otherwise UTF-16, which every client does
abbrev pub encoding_of : Data → PositionEncoding
encoding_of params =
    if has_string (codes "/capabilities/general/positionEncodings") (codes "utf-8") params then Utf8
    else if has_string (codes "/capabilities/general/positionEncodings") (codes "utf-32") params then Utf32
    else Utf16

-- whether the value at a path is the boolean true
abbrev pub is_true : List ℕ → Data → Bool
is_true path d = unwrap_or (option_and_then as_bool (pointer path d)) false

-- what the client supports
abbrev pub client_of : Data → Client
client_of params = record {
  encoding = encoding_of params;
  accepts_related = is_true (codes "/capabilities/textDocument/publishDiagnostics/relatedInformation") params;
}

abbrev pub uri_of : Data → Option (List ℕ)
uri_of params = string_at (codes "/textDocument/uri") params

abbrev pub version_of : Data → Option ℤ
version_of params = option_and_then as_i64 (option_and_then as_number (pointer (codes "/textDocument/version") params))

-- ---- requests

abbrev pub hover_from : Option (List ℕ) → Option Position → RequestView
hover_from (Some uri) (Some at) = hover uri at
hover_from (Some uri) None = invalid_params
hover_from None at = invalid_params

abbrev pub definition_from : Option (List ℕ) → Option Position → RequestView
definition_from (Some uri) (Some at) = definition uri at
definition_from (Some uri) None = invalid_params
definition_from None at = invalid_params

-- whether quick fixes are wanted: `only` is absent, or names them, or all kinds by the empty string
abbrev pub wants_quick_fix : Data → Bool
wants_quick_fix params = has_string (codes "/context/only") (codes "quickfix") params
    || has_string (codes "/context/only") (codes "") params || is_none (pointer (codes "/context/only") params)

-- whether fixes of the whole document are wanted: `only` names them, or what they are part of
abbrev pub wants_fix_all : Data → Bool
wants_fix_all params = has_string (codes "/context/only") (codes "source.fixAll") params
    || has_string (codes "/context/only") (codes "source") params || has_string (codes "/context/only") (codes "") params

abbrev pub action_filter : Data → Option ActionFilter
action_filter params =
    option_map (λ (range : TextRange). record { range = range; quick_fix = wants_quick_fix params; fix_all = wants_fix_all params }) (text_range_at (codes "/range") params)

abbrev pub action_from : Option (List ℕ) → Option ActionFilter → RequestView
action_from (Some uri) (Some filter) = code_action uri filter
action_from (Some uri) None = invalid_params
action_from None filter = invalid_params

abbrev pub symbol_from : Option (List ℕ) → RequestView
symbol_from None = invalid_params
symbol_from (Some uri) = document_symbol uri

abbrev pub request_of : List ℕ → Data → RequestView
request_of method params =
    if bytes_eq method (codes "initialize") then initialize (client_of params)
    else if bytes_eq method (codes "shutdown") then shutdown
    else if bytes_eq method (codes "textDocument/hover") then hover_from (uri_of params) (position_at (codes "/position") params)
    else if bytes_eq method (codes "textDocument/definition") then definition_from (uri_of params) (position_at (codes "/position") params)
    else if bytes_eq method (codes "textDocument/codeAction") then action_from (uri_of params) (action_filter params)
    else if bytes_eq method (codes "textDocument/documentSymbol") then symbol_from (uri_of params)
    else unknown_method

-- ---- notifications

abbrev pub opened_from : Option (List ℕ) → Option ℤ → Option (List ℕ) → NotificationView
opened_from (Some uri) version (Some t) = opened uri version t
opened_from (Some uri) version None = other
opened_from None version t = other

-- the range of a change; none at all if the member is there and is no range
abbrev pub range_of_member : Option Data → Option (Option TextRange)
range_of_member None = Some None
range_of_member (Some d) = option_map Some (text_range_of d)

abbrev pub change_range : Data → Option (Option TextRange)
change_range d = range_of_member (get (codes "range") d)

abbrev pub change_from : Option (Option TextRange) → Option (List ℕ) → Option ChangeView
change_from None text = None
change_from (Some range) None = None
change_from (Some range) (Some text) = Some (record { range = range; new_text = text })

abbrev pub change_of : Data → Option ChangeView
change_of d = change_from (change_range d) (string_at (codes "/text") d)

abbrev pub and_changes : Option ChangeView → Option (List ChangeView) → Option (List ChangeView)
and_changes None rest = None
and_changes (Some c) None = None
and_changes (Some c) (Some cs) = Some (c ∷ cs)

-- the changes of a list, if each of its items is one
abbrev pub changes_of : Items → Option (List ChangeView)
changes_of no_items = Some []
changes_of (item d ds) = and_changes (change_of d) (changes_of ds)

abbrev pub content_changes : Data → Option (List ChangeView)
content_changes params = option_and_then changes_of (option_and_then as_array (get (codes "contentChanges") params))

abbrev pub changed_from : Option (List ℕ) → Option ℤ → Option (List ChangeView) → NotificationView
changed_from (Some uri) version (Some changes) = changed uri version changes
changed_from (Some uri) version None = other
changed_from None version changes = other

abbrev pub closed_from : Option (List ℕ) → NotificationView
closed_from None = other
closed_from (Some uri) = closed uri

abbrev pub notification_of : List ℕ → Data → NotificationView
notification_of method params =
    if bytes_eq method (codes "exit") then exit
    else if bytes_eq method (codes "textDocument/didOpen") then opened_from (uri_of params) (version_of params) (string_at (codes "/textDocument/text") params)
    else if bytes_eq method (codes "textDocument/didChange") then changed_from (uri_of params) (version_of params) (content_changes params)
    else if bytes_eq method (codes "textDocument/didClose") then closed_from (uri_of params)
    else other

-- ---- messages

-- whether a value can be an id: a string or an integer
abbrev pub is_id : Data → Bool
is_id id = is_some (as_str id) || is_some (option_and_then as_i64 (as_number id)) || is_some (option_and_then as_u64 (as_number id))

abbrev pub message_params : Data → Data
message_params d = unwrap_or (get (codes "params") d) null

abbrev pub request_or_notification : Option Data → List ℕ → Data → MessageView
request_or_notification None method params = notification (notification_of method params)
request_or_notification (Some id) method params = if is_id id then request id (request_of method params) else invalid

abbrev pub is_response : Data → Bool
is_response d = is_some (get (codes "result") d) || is_some (get (codes "error") d)

abbrev pub by_name : Option (List ℕ) → Data → MessageView
by_name None d = invalid
by_name (Some name) d = request_or_notification (get (codes "id") d) name (message_params d)

abbrev pub by_method : Option Data → Data → MessageView
by_method None d = if is_response d then response else invalid
by_method (Some method) d = by_name (as_str method) d

-- the message that a value is; a value that is no object has no members
abbrev pub message_of : Data → MessageView
message_of d = by_method (get (codes "method") d) d
