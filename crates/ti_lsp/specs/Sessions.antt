-- A session, as contracts see it.
use Rattle.std.specs.BTreeMap.{get_by_text}
use Rattle.ti_lsp.specs.declared.session.Session.{Session}
use Rattle.ti_lsp.specs.Handling.{State, Documents}

-- the phase, and what the client supports
abbrev pub server_state_of : {A : Type 0} → Session A → State
server_state_of s = record { phase = s.phase; client = s.client }

-- the open documents
abbrev pub documents_of : {A : Type 0} → Session A → Documents
documents_of s = get_by_text s.documents
