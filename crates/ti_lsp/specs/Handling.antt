-- What a session does with a message: the message that it sends, and its state and documents after it.
use Rattle.std.specs.Prelude.{◌≡◌, ◌⊎◌, ℕ, ℤ, Bool, true, false, int_le, if◌then◌else◌, All, List, [], ◌∷◌, ◌++◌, Option, Some, None, IsSomeAnd, IsUtf8, string_bytes}
use Rattle.std.specs.Str.{bytes_eq}
use Rattle.serde_json.specs.Data.{Data, null, array, no_items}
use Rattle.serde_json.specs.View.{items_of}
use Rattle.ti_lsp.specs.declared.client.Client.{Client}
use Rattle.ti_lsp.specs.declared.diagnostic.Diagnostic.{Diagnostic}
use Rattle.ti_lsp.specs.declared.document.Document.{Document}
use Rattle.ti_lsp.specs.declared.message.ActionFilter.{ActionFilter}
use Rattle.ti_lsp.specs.declared.message.ActionKind.{ActionKind}
use Rattle.ti_lsp.specs.declared.name.KnownName.{KnownName}
use Rattle.ti_lsp.specs.declared.position.PositionEncoding.{PositionEncoding}
use Rattle.ti_lsp.specs.declared.position.Position.{Position}
use Rattle.ti_lsp.specs.declared.response.ErrorCode.TheVariants.{InvalidRequest, MethodNotFound, InvalidParams, ServerNotInitialized}
use Rattle.ti_lsp.specs.declared.session.Phase.{Phase}
use Rattle.ti_lsp.specs.declared.suggestion.Suggestion.{Suggestion}
use Rattle.ti_lsp.specs.declared.symbol.Symbol.{Symbol}
use Rattle.ti_lsp.specs.declared.session.Phase.TheVariants.{Uninitialized, Running, ShutDown, Exited, Aborted}
use Rattle.ti_lsp.specs.Actions.{action_data, kind_for}
use Rattle.ti_lsp.specs.Analysis.{IsAnalysis, IsFix, IsWholeFix}
use Rattle.ti_lsp.specs.Diagnostics.{diagnostic_hover, diagnostic_range, diagnostics_of, publication_of}
use Rattle.ti_lsp.specs.Edits.{all_changed}
use Rattle.ti_lsp.specs.Messages.{ChangeView, RequestView, NotificationView, MessageView, initialize, shutdown, hover, definition, code_action, document_symbol, invalid_params, unknown_method, exit, opened, changed, closed, other, request, notification, response, invalid}
use Rattle.ti_lsp.specs.Names.{IsKnownAt, declaration_data, name_hover}
use Rattle.ti_lsp.specs.Positions.{offset_of, touches}
use Rattle.ti_lsp.specs.Symbols.{IsSymbolOf, symbols_of}
use Rattle.ti_lsp.specs.Responses.{success_of, error_of, capabilities_of}

-- the phase of a session, and what its client supports
pub record State : Type 0 where
  pub phase : Phase
  pub client : Client

-- the open document with a URI, if there is one
abbrev pub Documents : Type 0
Documents = List ℕ → Option Document

-- ---- requests

-- the request fails with this response, and the state stays
pub record RespondsError (old new : State) (sent response : Data) : Type 0 where
  pub same : new ≡ old
  pub sent_is : sent ≡ response

-- the request returns such a result, and the state stays
pub record Returns (id : Data) (old new : State) (sent : Data) (fits : Data → Type 0) : Type 0 where
  pub outcome : Data
  pub same : new ≡ old
  pub sent_is : sent ≡ success_of id outcome
  pub is_such : fits outcome

-- ---- names

-- a name that is known at a position of a text is shown
pub record ShowsName (encoding : PositionEncoding) (text : List ℕ) (at : Position) (shown : KnownName → Data) (outcome : Data) : Type 0 where
  pub name : KnownName
  pub is_known : IsKnownAt text (offset_of encoding at text) name
  pub outcome_is : outcome ≡ shown name

-- what is known of the name at a position of a text is shown, or null
abbrev pub ShowsKnown : PositionEncoding → List ℕ → Position → (KnownName → Data) → Data → Type 0
ShowsKnown encoding text at shown outcome = (outcome ≡ null) ⊎ ShowsName encoding text at shown outcome

-- the hover at a position of a text, which is at this error or not: that of the error, else that of a name, or null
abbrev pub HoversNear : Bool → PositionEncoding → List ℕ → Diagnostic → Position → Data → Type 0
HoversNear true encoding text d at outcome = outcome ≡ diagnostic_hover encoding text d
HoversNear false encoding text d at outcome = ShowsKnown encoding text at (name_hover encoding text) outcome

-- the hover at a position of a text with this error, or none
abbrev pub HoversIn : PositionEncoding → List ℕ → Option Diagnostic → Position → Data → Type 0
HoversIn encoding text None at outcome = ShowsKnown encoding text at (name_hover encoding text) outcome
HoversIn encoding text (Some d) at outcome = HoversNear (touches (diagnostic_range encoding text d) at) encoding text d at outcome

-- the hover at a position of a document, or null if it isn't open
abbrev pub Hovers : PositionEncoding → Option Document → Position → Data → Type 0
Hovers encoding None at outcome = outcome ≡ null
Hovers encoding (Some document) at outcome = HoversIn encoding (string_bytes document.text) document.diagnostic at outcome

-- the location at which the name at a position of a document is declared, or null
abbrev pub Locates : PositionEncoding → List ℕ → Option Document → Position → Data → Type 0
Locates encoding uri None at outcome = outcome ≡ null
Locates encoding uri (Some document) at outcome =
    ShowsKnown encoding (string_bytes document.text) at (declaration_data encoding uri (string_bytes document.text)) outcome

-- ---- code actions

-- a suggestion is offered: it is wanted, and fixes the error
pub record OffersFix (rejects : List ℕ → Diagnostic → Type 0) (client : Client) (uri : List ℕ) (filter : ActionFilter) (text : List ℕ) (d : Diagnostic)
    (s : Suggestion) (action : Data) : Type 0 where
  pub kind : ActionKind
  pub wanted : kind_for client.encoding text d s filter ≡ Some kind
  pub is_fix : IsFix rejects text d s
  pub action_is : action ≡ action_data client uri text d s kind

-- a suggestion is offered as this action, or not; it is offered if it is wanted and no error is left after it
abbrev pub OffersOne : (List ℕ → Diagnostic → Type 0) → Client → List ℕ → ActionFilter → List ℕ → Diagnostic → Suggestion → Option Data → Type 0
OffersOne rejects client uri filter text d s (Some action) = OffersFix rejects client uri filter text d s action
OffersOne rejects client uri filter text d s None = (kind_for client.encoding text d s filter ≡ None) ⊎ (IsWholeFix rejects text s → ⊥)

-- these actions are offered, in the order of the suggestions
pub data OffersEach (rejects : List ℕ → Diagnostic → Type 0) (client : Client) (uri : List ℕ) (filter : ActionFilter) (text : List ℕ) (d : Diagnostic)
    : List Suggestion → List Data → Type 0 where
  no_suggestion : OffersEach rejects client uri filter text d [] []
  offered : {ss : List Suggestion} {s : Suggestion} {actions : List Data} {action : Data} → OffersEach rejects client uri filter text d ss actions
      → OffersOne rejects client uri filter text d s (Some action) → OffersEach rejects client uri filter text d (ss ++ s ∷ []) (actions ++ action ∷ [])
  not_offered : {ss : List Suggestion} {s : Suggestion} {actions : List Data} → OffersEach rejects client uri filter text d ss actions
      → OffersOne rejects client uri filter text d s None → OffersEach rejects client uri filter text d (ss ++ s ∷ []) actions

-- the actions of a document with this error are offered
pub record OffersAll (rejects : List ℕ → Diagnostic → Type 0) (client : Client) (uri : List ℕ) (filter : ActionFilter) (document : Document) (d : Diagnostic)
    (outcome : Data) : Type 0 where
  pub actions : List Data
  pub offers : OffersEach rejects client uri filter (string_bytes document.text) d document.suggestions.items actions
  pub outcome_is : outcome ≡ array (items_of actions)

abbrev pub OffersFor : (List ℕ → Diagnostic → Type 0) → Client → List ℕ → ActionFilter → Document → Option Diagnostic → Data → Type 0
OffersFor rejects client uri filter document None outcome = outcome ≡ null
OffersFor rejects client uri filter document (Some d) outcome = OffersAll rejects client uri filter document d outcome

-- the code actions of a document that are wanted, or null if it isn't open or has no error
abbrev pub Offers : (List ℕ → Diagnostic → Type 0) → Client → List ℕ → ActionFilter → Option Document → Data → Type 0
Offers rejects client uri filter None outcome = outcome ≡ null
Offers rejects client uri filter (Some document) outcome = OffersFor rejects client uri filter document document.diagnostic outcome

-- ---- symbols

-- the symbols of a document: each name is what is at its offsets in the text
pub record ListsSymbols (encoding : PositionEncoding) (uri : List ℕ) (document : Document) (outcome : Data) : Type 0 where
  pub symbols : List Symbol
  pub are_symbols : All (IsSymbolOf (string_bytes document.text)) symbols
  pub outcome_is : outcome ≡ symbols_of encoding uri (string_bytes document.text) symbols

-- the symbols of a document, or null if it isn't open
abbrev pub Lists : PositionEncoding → List ℕ → Option Document → Data → Type 0
Lists encoding uri None outcome = outcome ≡ null
Lists encoding uri (Some document) outcome = ListsSymbols encoding uri document outcome

-- ---- requests

-- the response before the session is initialized
abbrev pub Initializes : Data → State → RequestView → State → Data → Type 0
Initializes id s (initialize client) t sent = (t ≡ record { phase = Running; client = client }) × (sent ≡ success_of id (capabilities_of client.encoding))
Initializes id s shutdown t sent = RespondsError s t sent (error_of id ServerNotInitialized)
Initializes id s (hover uri at) t sent = RespondsError s t sent (error_of id ServerNotInitialized)
Initializes id s (definition uri at) t sent = RespondsError s t sent (error_of id ServerNotInitialized)
Initializes id s (code_action uri filter) t sent = RespondsError s t sent (error_of id ServerNotInitialized)
Initializes id s (document_symbol uri) t sent = RespondsError s t sent (error_of id ServerNotInitialized)
Initializes id s invalid_params t sent = RespondsError s t sent (error_of id ServerNotInitialized)
Initializes id s unknown_method t sent = RespondsError s t sent (error_of id ServerNotInitialized)

-- the response of a running session
abbrev pub Responds : (List ℕ → Diagnostic → Type 0) → Documents → Data → State → RequestView → State → Data → Type 0
Responds rejects documents id s (initialize client) t sent = RespondsError s t sent (error_of id InvalidRequest)
Responds rejects documents id s shutdown t sent = (t ≡ record { phase = ShutDown; client = s.client }) × (sent ≡ success_of id null)
Responds rejects documents id s (hover uri at) t sent = Returns id s t sent (Hovers s.client.encoding (documents uri) at)
Responds rejects documents id s (definition uri at) t sent = Returns id s t sent (Locates s.client.encoding uri (documents uri) at)
Responds rejects documents id s (code_action uri filter) t sent = Returns id s t sent (Offers rejects s.client uri filter (documents uri))
Responds rejects documents id s (document_symbol uri) t sent = Returns id s t sent (Lists s.client.encoding uri (documents uri))
Responds rejects documents id s invalid_params t sent = RespondsError s t sent (error_of id InvalidParams)
Responds rejects documents id s unknown_method t sent = RespondsError s t sent (error_of id MethodNotFound)

-- the response in a phase
abbrev pub RespondsInPhase : Phase → (List ℕ → Diagnostic → Type 0) → Documents → Data → State → RequestView → State → Data → Type 0
RespondsInPhase Uninitialized rejects documents id s r t sent = Initializes id s r t sent
RespondsInPhase Running rejects documents id s r t sent = Responds rejects documents id s r t sent
RespondsInPhase ShutDown rejects documents id s r t sent = RespondsError s t sent (error_of id InvalidRequest)
RespondsInPhase Exited rejects documents id s r t sent = RespondsError s t sent (error_of id InvalidRequest)
RespondsInPhase Aborted rejects documents id s r t sent = RespondsError s t sent (error_of id InvalidRequest)

-- ---- notifications

-- the phase after `exit`
abbrev pub after_exit : Phase → Phase
after_exit ShutDown = Exited
after_exit Exited = Exited
after_exit Uninitialized = Aborted
after_exit Running = Aborted
after_exit Aborted = Aborted

-- the document with this URI has this text and version, and the error of the text, which is published; other documents stay
pub record Publishes (rejects : List ℕ → Diagnostic → Type 0) (client : Client) (uri : List ℕ) (version : Option ℤ) (text : List ℕ)
    (before after : Documents) (sent : Option Data) : Type 0 where
  pub document : Document
  pub analyzed : IsAnalysis (rejects text) document.diagnostic
  pub text_is : string_bytes document.text ≡ text
  pub version_is : document.version ≡ version
  pub published : sent ≡ Some (publication_of uri version (diagnostics_of client uri text document.diagnostic))
  pub is_open : after uri ≡ Some document
  pub others : (q : List ℕ) → bytes_eq uri q ≡ false → after q ≡ before q

-- whether a change to the version `new` comes too late for a document with the version `old`: it must be greater, if both are known
abbrev pub is_stale : Option ℤ → Option ℤ → Bool
is_stale None new = false
is_stale (Some old) None = false
is_stale (Some old) (Some new) = int_le new old

-- the text after changes, if the document is open and the changes don't come too late
abbrev pub changed_text : PositionEncoding → Option ℤ → List ChangeView → Option Document → Option (List ℕ)
changed_text encoding version changes None = None
changed_text encoding version changes (Some d) =
    if is_stale d.version version then None else Some (all_changed encoding (string_bytes d.text) changes)

-- the document is changed
pub record ChangesText (rejects : List ℕ → Diagnostic → Type 0) (client : Client) (uri : List ℕ) (version : Option ℤ) (changes : List ChangeView)
    (before after : Documents) (sent : Option Data) : Type 0 where
  pub text : List ℕ
  pub text_is : changed_text client.encoding version changes (before uri) ≡ Some text
  pub publishes : Publishes rejects client uri version text before after sent

-- the changes are ignored, since there is no text after them, or none in UTF-8
pub record IgnoresChanges (client : Client) (uri : List ℕ) (version : Option ℤ) (changes : List ChangeView) (before after : Documents)
    (sent : Option Data) : Type 0 where
  pub no_text : (text : List ℕ) → changed_text client.encoding version changes (before uri) ≡ Some text → IsUtf8 text → ⊥
  pub kept : after ≡ before
  pub silent : sent ≡ None

abbrev pub Changes : (List ℕ → Diagnostic → Type 0) → Client → List ℕ → Option ℤ → List ChangeView → Documents → Documents → Option Data → Type 0
Changes rejects client uri version changes before after sent =
    ChangesText rejects client uri version changes before after sent ⊎ IgnoresChanges client uri version changes before after sent

-- the document with this URI is closed, and an empty list of diagnostics is published for it; other documents stay
pub record Clears (uri : List ℕ) (before after : Documents) (sent : Option Data) : Type 0 where
  pub published : sent ≡ Some (publication_of uri None (array no_items))
  pub gone : after uri ≡ None
  pub others : (q : List ℕ) → bytes_eq uri q ≡ false → after q ≡ before q

-- nothing is sent, and no document changes
pub record Passes (before after : Documents) (sent : Option Data) : Type 0 where
  pub kept : after ≡ before
  pub silent : sent ≡ None

-- what a running session does with a notification other than `exit`
abbrev pub Updates : (List ℕ → Diagnostic → Type 0) → Client → NotificationView → Documents → Documents → Option Data → Type 0
Updates rejects client exit before after sent = Passes before after sent
Updates rejects client (opened uri version text) before after sent = Publishes rejects client uri version text before after sent
Updates rejects client (changed uri version changes) before after sent = Changes rejects client uri version changes before after sent
Updates rejects client (closed uri) before after sent = Clears uri before after sent
Updates rejects client other before after sent = Passes before after sent

-- the notification is handled in a phase: any but a running session ignores it
abbrev pub UpdatesInPhase : Phase → (List ℕ → Diagnostic → Type 0) → Client → NotificationView → Documents → Documents → Option Data → Type 0
UpdatesInPhase Running rejects client n before after sent = Updates rejects client n before after sent
UpdatesInPhase Uninitialized rejects client n before after sent = Passes before after sent
UpdatesInPhase ShutDown rejects client n before after sent = Passes before after sent
UpdatesInPhase Exited rejects client n before after sent = Passes before after sent
UpdatesInPhase Aborted rejects client n before after sent = Passes before after sent

-- the state after a notification
abbrev pub state_after_notification : State → NotificationView → State
state_after_notification s exit = record { phase = after_exit s.phase; client = s.client }
state_after_notification s (opened uri version text) = s
state_after_notification s (changed uri version changes) = s
state_after_notification s (closed uri) = s
state_after_notification s other = s

-- what is done with a notification
pub record Receives (rejects : List ℕ → Diagnostic → Type 0) (before : Documents) (s : State) (n : NotificationView) (t : State) (after : Documents)
    (sent : Option Data) : Type 0 where
  pub state : t ≡ state_after_notification s n
  pub updates : UpdatesInPhase s.phase rejects s.client n before after sent

-- ---- messages

-- what is done with a message: a request has one response, and nothing else has one; documents change by notifications alone
abbrev pub Handles : (List ℕ → Diagnostic → Type 0) → Documents → State → MessageView → State → Documents → Option Data → Type 0
Handles rejects before s (request id r) t after sent = (after ≡ before) × IsSomeAnd sent (RespondsInPhase s.phase rejects before id s r t)
Handles rejects before s (notification n) t after sent = Receives rejects before s n t after sent
Handles rejects before s response t after sent = (t ≡ s) × Passes before after sent
Handles rejects before s invalid t after sent = (t ≡ s) × (after ≡ before) × (sent ≡ Some (error_of null InvalidRequest))
