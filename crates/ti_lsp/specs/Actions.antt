-- Code actions: which suggestions are wanted, and how they are sent. The members of each object are in the order of their names.
use Rattle.std.specs.Prelude.{ℕ, ◌&&◌, ◌||◌, Bool, false, if◌then◌else◌, List, [], ◌∷◌, Option, Some, None, codes, map, string_bytes}
use Rattle.serde_json.specs.Data.{Data, string, boolean, array, object, item, no_items, member, no_members}
use Rattle.serde_json.specs.View.{items_of}
use Rattle.ti_lsp.specs.declared.client.Client.{Client}
use Rattle.ti_lsp.specs.declared.diagnostic.Diagnostic.{Diagnostic}
use Rattle.ti_lsp.specs.declared.edit.TextEdit.{TextEdit}
use Rattle.ti_lsp.specs.declared.message.ActionFilter.{ActionFilter}
use Rattle.ti_lsp.specs.declared.message.ActionKind.{ActionKind}
use Rattle.ti_lsp.specs.declared.message.ActionKind.TheVariants.{QuickFix, FixAll}
use Rattle.ti_lsp.specs.declared.position.PositionEncoding.{PositionEncoding}
use Rattle.ti_lsp.specs.declared.position.TextRange.{TextRange}
use Rattle.ti_lsp.specs.declared.suggestion.Suggestion.{Suggestion}
use Rattle.ti_lsp.specs.Diagnostics.{bytes_range, diagnostic_of, diagnostic_range, range_data}
use Rattle.ti_lsp.specs.Positions.{intersects}

-- ---- which are wanted

-- whether one of the edits intersects the range
abbrev pub any_intersects : PositionEncoding → List ℕ → List TextEdit → TextRange → Bool
any_intersects encoding text [] range = false
any_intersects encoding text (e ∷ es) range = intersects (bytes_range encoding text e.start e.end) range || any_intersects encoding text es range

-- whether the error or one of the edits intersects the range
abbrev pub concerns_range : PositionEncoding → List ℕ → Diagnostic → List TextEdit → TextRange → Bool
concerns_range encoding text d edits range = intersects (diagnostic_range encoding text d) range || any_intersects encoding text edits range

-- the kind of action as which a suggestion is wanted: a quick fix if it is near the range of the request, a fix of the whole document if it needs no choice
abbrev pub kind_for : PositionEncoding → List ℕ → Diagnostic → Suggestion → ActionFilter → Option ActionKind
kind_for encoding text d s filter =
    if filter.quick_fix && concerns_range encoding text d s.edits.items filter.range then Some QuickFix
    else if filter.fix_all && s.is_automatic then Some FixAll
    else None

-- ---- how they are sent

abbrev pub action_kind_name : ActionKind → List ℕ
action_kind_name QuickFix = codes "quickfix"
action_kind_name FixAll = codes "source.fixAll"

-- an edit: its range, and what stands there afterwards
abbrev pub edit_data : PositionEncoding → List ℕ → TextEdit → Data
edit_data encoding text e = object
    (member (codes "newText") (string (string_bytes e.new_text))
    (member (codes "range") (range_data (bytes_range encoding text e.start e.end)) no_members))

abbrev pub edits_data : PositionEncoding → List ℕ → List TextEdit → Data
edits_data encoding text edits = array (items_of (map (edit_data encoding text) edits))

-- the code action of this kind for a document with an error: it applies the edits of a suggestion
abbrev pub action_data : Client → List ℕ → List ℕ → Diagnostic → Suggestion → ActionKind → Data
action_data client uri text d s kind = object
    (member (codes "diagnostics") (array (item (diagnostic_of client uri text d) no_items))
    (member (codes "edit") (object
    (member (codes "changes") (object
    (member uri (edits_data client.encoding text s.edits.items) no_members)) no_members))
    (member (codes "isPreferred") (boolean s.is_automatic)
    (member (codes "kind") (string (action_kind_name kind))
    (member (codes "title") (string (string_bytes s.title)) no_members)))))
