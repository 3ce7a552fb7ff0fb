-- What a server writes for what it reads.
use Rattle.std.specs.Prelude.{◌≡◌, ◌⊎◌, ◌≤◌, ℕ, Bool, true, false, List, [], ◌++◌, Option, Some, None, IsUtf8}
use Rattle.std.specs.Io.KnownBytes.{Appends, Consumes, Keeps, IsAtEnd}
use Rattle.serde_json.specs.Data.{Data, null, depth}
use Rattle.serde_json.specs.Read.{read, max_depth}
use Rattle.ti_lsp.specs.declared.diagnostic.Diagnostic.{Diagnostic}
use Rattle.ti_lsp.specs.declared.position.PositionEncoding.TheVariants.{Utf16}
use Rattle.ti_lsp.specs.declared.response.ErrorCode.TheVariants.{ParseError}
use Rattle.ti_lsp.specs.declared.session.Phase.TheVariants.{Uninitialized, Exited, Aborted}
use Rattle.ti_lsp.specs.Messages.{message_of}
use Rattle.ti_lsp.specs.Responses.{error_of}
use Rattle.ti_lsp.specs.Handling.{State, Documents, Handles}
use Rattle.ti_lsp_frames.specs.Messages.{IsMessage, written_message}
use Rattle.ti_lsp_frames.specs.Reading.{TakesMessage}

-- the content is JSON, and the session handles the message
pub record AnswersJson (rejects : List ℕ → Diagnostic → Type 0) (before : Documents) (s : State) (content : List ℕ) (t : State) (after : Documents)
    (sent : Option Data) : Type 0 where
  pub value : Data
  pub is_text : IsUtf8 content
  pub is_json : read content ≡ Some value
  pub handles : Handles rejects before s (message_of value) t after sent

-- the content isn't JSON: an error response is sent, and the session stays
pub record AnswersInvalid (before : Documents) (s : State) (content : List ℕ) (t : State) (after : Documents) (sent : Option Data) : Type 0 where
  pub not_json : IsUtf8 content → read content ≡ None
  pub same : t ≡ s
  pub kept : after ≡ before
  pub sent_is : sent ≡ Some (error_of null ParseError)

-- what a session sends for a content, if anything
abbrev pub AnswersContent : (List ℕ → Diagnostic → Type 0) → Documents → State → List ℕ → State → Documents → Option Data → Type 0
AnswersContent rejects before s content t after sent = AnswersJson rejects before s content t after sent ⊎ AnswersInvalid before s content t after sent

-- the bytes are a message whose content reads as this value, unless the value is nested deeper than is read
pub record IsSent (bytes : List ℕ) (value : Data) : Type 0 where
  pub content : List ℕ
  pub bytes_are : bytes ≡ written_message content
  pub reads : depth value ≤ max_depth → read content ≡ Some value

-- a writer accepted the message, if there is one
pub record SendsOne (old new : Option (List ℕ)) (value : Data) : Type 0 where
  pub bytes : List ℕ
  pub is_sent : IsSent bytes value
  pub wrote : Appends old new bytes

abbrev pub Sends : Option (List ℕ) → Option (List ℕ) → Option Data → Type 0
Sends old new None = Keeps old new
Sends old new (Some value) = SendsOne old new value

-- a session in this state read these bytes, message by message, for which those were written in order, and is now in that state
pub data Serves (rejects : List ℕ → Diagnostic → Type 0) (before : Documents) (s : State) : List ℕ → List ℕ → Documents → State → Type 0 where
  begun : Serves rejects before s [] [] before s
  answered : {xs ys message content written : List ℕ} {mid after : Documents} {t u : State} {value : Data} → Serves rejects before s xs ys mid t
      → IsMessage message content → AnswersContent rejects mid t content u after (Some value) → IsSent written value
      → Serves rejects before s (xs ++ message) (ys ++ written) after u
  silent : {xs ys message content : List ℕ} {mid after : Documents} {t u : State} → Serves rejects before s xs ys mid t
      → IsMessage message content → AnswersContent rejects mid t content u after None
      → Serves rejects before s (xs ++ message) ys after u

-- the next message was read and handled, and what is sent for it was written
pub record ServesMessage (rejects : List ℕ → Diagnostic → Type 0) (before : Documents) (s : State) (in_old in_new out_old out_new : Option (List ℕ)) (t : State)
    (after : Documents) : Type 0 where
  pub content : List ℕ
  pub taken : TakesMessage in_old in_new content
  pub sent : Option Data
  pub answers : AnswersContent rejects before s content t after sent
  pub sends : Sends out_old out_new sent

-- the state of a session before its first message
abbrev pub initial : State
initial = record { phase = Uninitialized; client = record { encoding = Utf16; accepts_related = false } }

-- all that was read and written since a session began without documents, if the bytes of reader and writer are known
pub record HasServed (rejects : List ℕ → Diagnostic → Type 0) (in_old in_new out_old out_new : Option (List ℕ)) (after : Documents) (t : State) : Type 0 where
  pub before : Documents
  pub empty : (uri : List ℕ) → before uri ≡ None
  pub xs : List ℕ
  pub ys : List ℕ
  pub serves : Serves rejects before initial xs ys after t
  pub taken : Consumes in_old in_new xs
  pub written : Appends out_old out_new ys

-- the server ended at `exit` or at the end of the input; it tells whether the client said `shutdown` before `exit`
pub record Ends (rejects : List ℕ → Diagnostic → Type 0) (in_old in_new out_old out_new : Option (List ℕ)) (asked : Bool) : Type 0 where
  pub after : Documents
  pub state : State
  pub served : HasServed rejects in_old in_new out_old out_new after state
  pub asked_first : asked ≡ true → state.phase ≡ Exited
  pub not_asked : asked ≡ false → (state.phase ≡ Aborted) ⊎ IsAtEnd in_new
