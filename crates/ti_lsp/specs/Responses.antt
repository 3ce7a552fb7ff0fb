-- Responses as JSON. The members of each object are in the order of their names.
use Rattle.std.specs.Prelude.{ℕ, ℤ, negsuc, List, true, codes}
use Rattle.serde_json.specs.Data.{Data, number, unsigned, negative, string, boolean, array, object, item, no_items, member, no_members}
use Rattle.ti_lsp.specs.declared.position.PositionEncoding.{PositionEncoding}
use Rattle.ti_lsp.specs.declared.position.PositionEncoding.TheVariants.{Utf8, Utf16, Utf32}
use Rattle.ti_lsp.specs.declared.response.ErrorCode.{ErrorCode}
use Rattle.ti_lsp.specs.declared.response.ErrorCode.TheVariants.{ParseError, InvalidRequest, MethodNotFound, InvalidParams, ServerNotInitialized}

-- the error codes of the protocol; `negsuc 0` is -1
abbrev pub error_code : ErrorCode → ℤ
error_code ParseError = negsuc 32699
error_code InvalidRequest = negsuc 32599
error_code MethodNotFound = negsuc 32600
error_code InvalidParams = negsuc 32601
error_code ServerNotInitialized = negsuc 32001

abbrev pub message_text : ErrorCode → List ℕ
message_text ParseError = codes "the content is not JSON"
message_text InvalidRequest = codes "the request is invalid in this state"
message_text MethodNotFound = codes "the method is not supported"
message_text InvalidParams = codes "the parameters are invalid"
message_text ServerNotInitialized = codes "the server is not initialized"

-- the response that the request with this id has this result
abbrev pub success_of : Data → Data → Data
success_of id outcome = object
    (member (codes "id") id
    (member (codes "jsonrpc") (string (codes "2.0"))
    (member (codes "result") outcome no_members)))

-- the response that the request with this id failed
abbrev pub error_of : Data → ErrorCode → Data
error_of id error = object
    (member (codes "error") (object
    (member (codes "code") (number (negative (error_code error)))
    (member (codes "message") (string (message_text error)) no_members)))
    (member (codes "id") id
    (member (codes "jsonrpc") (string (codes "2.0")) no_members)))

abbrev pub encoding_name : PositionEncoding → List ℕ
encoding_name Utf8 = codes "utf-8"
encoding_name Utf16 = codes "utf-16"
encoding_name Utf32 = codes "utf-32"

-- what the server can do: 2 is incremental synchronization
abbrev pub capabilities_of : PositionEncoding → Data
capabilities_of encoding = object
    (member (codes "capabilities") (object
    (member (codes "codeActionProvider") (object
    (member (codes "codeActionKinds") (array
    (item (string (codes "quickfix")) (item (string (codes "source.fixAll")) no_items))) no_members))
    (member (codes "definitionProvider") (boolean true)
    (member (codes "documentSymbolProvider") (boolean true)
    (member (codes "hoverProvider") (boolean true)
    (member (codes "positionEncoding") (string (encoding_name encoding))
    (member (codes "textDocumentSync") (object
    (member (codes "change") (number (unsigned 2))
    (member (codes "openClose") (boolean true) no_members))) no_members)))))))
    (member (codes "serverInfo") (object (member (codes "name") (string (codes "titan_lsp")) no_members)) no_members))
