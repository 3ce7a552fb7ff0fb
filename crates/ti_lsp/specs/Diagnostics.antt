-- Positions, diagnostics and hovers as JSON. The members of each object are in the order of their names.
use Rattle.std.specs.Prelude.{ℕ, ℤ, ◌++◌, min, max, List, [], ◌∷◌, Option, Some, None, length, take, codes, if◌then◌else◌, map, string_bytes}
use Rattle.serde_json.specs.Data.{Data, Members, number, unsigned, string, array, object, item, no_items, member, no_members}
use Rattle.serde_json.specs.Find.{of_integer}
use Rattle.serde_json.specs.View.{items_of}
use Rattle.ti_lsp.specs.declared.client.Client.{Client}
use Rattle.ti_lsp.specs.declared.diagnostic.Diagnostic.{Diagnostic}
use Rattle.ti_lsp.specs.declared.diagnostic.Related.{Related}
use Rattle.ti_lsp.specs.declared.position.PositionEncoding.{PositionEncoding}
use Rattle.ti_lsp.specs.declared.position.Position.{Position}
use Rattle.ti_lsp.specs.declared.position.TextRange.{TextRange}
use Rattle.ti_lsp.specs.Positions.{position_of}

-- the range of the bytes from one offset up to another, cut at the text's end, and empty if the end is before the start
abbrev pub bytes_range : PositionEncoding → List ℕ → ℕ → ℕ → TextRange
bytes_range encoding text start end =
    let from = min start (length text) in
    let to = max (min end (length text)) from in
    record { start = position_of encoding (take from text); end = position_of encoding (take to text) }

abbrev pub position_data : Position → Data
position_data at = object
    (member (codes "character") (number (unsigned at.character))
    (member (codes "line") (number (unsigned at.line)) no_members))

abbrev pub range_data : TextRange → Data
range_data range = object
    (member (codes "end") (position_data range.end)
    (member (codes "start") (position_data range.start) no_members))

-- some bytes of a document as a location
abbrev pub location_data : PositionEncoding → List ℕ → List ℕ → ℕ → ℕ → Data
location_data encoding uri text start end = object
    (member (codes "range") (range_data (bytes_range encoding text start end))
    (member (codes "uri") (string uri) no_members))

-- ---- diagnostics

-- the range of a diagnostic in its text
abbrev pub diagnostic_range : PositionEncoding → List ℕ → Diagnostic → TextRange
diagnostic_range encoding text d = bytes_range encoding text d.start d.end

-- a related place of a document, with what is said of it
abbrev pub related_data : PositionEncoding → List ℕ → List ℕ → Related → Data
related_data encoding uri text r = object
    (member (codes "location") (location_data encoding uri text r.start r.end)
    (member (codes "message") (string (string_bytes r.message)) no_members))

abbrev pub related_list : PositionEncoding → List ℕ → List ℕ → List Related → Data
related_list encoding uri text places = array (items_of (map (related_data encoding uri text) places))

-- what follows the range of a diagnostic: it is an error (severity 1)
abbrev pub severity_members : Members
severity_members = member (codes "severity") (number (unsigned 1)) (member (codes "source") (string (codes "titan")) no_members)

-- the related places, if the client accepts them, and the severity
abbrev pub related_members : Client → List ℕ → List ℕ → Diagnostic → Members
related_members client uri text d =
    if client.accepts_related
    then member (codes "relatedInformation") (related_list client.encoding uri text d.related.items) severity_members
    else severity_members

-- a diagnostic of a document: an error with the code and the message of the rule, and with its related places
abbrev pub diagnostic_of : Client → List ℕ → List ℕ → Diagnostic → Data
diagnostic_of client uri text d = object
    (member (codes "code") (string d.code.now)
    (member (codes "message") (string d.message.now)
    (member (codes "range") (range_data (diagnostic_range client.encoding text d)) (related_members client uri text d))))

-- the diagnostics of a document: none or one
abbrev pub diagnostics_of : Client → List ℕ → List ℕ → Option Diagnostic → Data
diagnostics_of client uri text None = array no_items
diagnostics_of client uri text (Some d) = array (item (diagnostic_of client uri text d) no_items)

-- the version of a document is sent if it is known
abbrev pub publication_params : List ℕ → Option ℤ → Data → Data
publication_params uri None diagnostics = object
    (member (codes "diagnostics") diagnostics
    (member (codes "uri") (string uri) no_members))
publication_params uri (Some version) diagnostics = object
    (member (codes "diagnostics") diagnostics
    (member (codes "uri") (string uri)
    (member (codes "version") (number (of_integer version)) no_members)))

-- the notification that these are the diagnostics of a document
abbrev pub publication_of : List ℕ → Option ℤ → Data → Data
publication_of uri version diagnostics = object
    (member (codes "jsonrpc") (string (codes "2.0"))
    (member (codes "method") (string (codes "textDocument/publishDiagnostics"))
    (member (codes "params") (publication_params uri version diagnostics) no_members)))

-- ---- hover

-- a hover: what is said of a range, as Markdown
abbrev pub hover_data : List ℕ → Data → Data
hover_data said range = object
    (member (codes "contents") (object
    (member (codes "kind") (string (codes "markdown"))
    (member (codes "value") (string said) no_members)))
    (member (codes "range") range no_members))

-- a paragraph that begins with these words, if there is one
abbrev pub paragraph : List ℕ → List ℕ → List ℕ
paragraph words [] = []
paragraph words (b ∷ bs) = (codes "\n\n" ++ words) ++ (b ∷ bs)

-- what is said at an error: its rule, what is wrong, and how to fix it
abbrev pub hover_text : Diagnostic → List ℕ
hover_text d = (codes "**" ++ d.code.now ++ codes "** " ++ d.message.now ++ paragraph [] (string_bytes d.label)) ++ paragraph (codes "Help: ") (string_bytes d.help)

-- the hover at an error
abbrev pub diagnostic_hover : PositionEncoding → List ℕ → Diagnostic → Data
diagnostic_hover encoding text d = hover_data (hover_text d) (range_data (diagnostic_range encoding text d))
