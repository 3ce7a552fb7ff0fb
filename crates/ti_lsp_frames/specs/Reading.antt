-- What was read of a reader whose remaining bytes are known: `old` are those before the call, `new` those after it.
use Rattle.std.specs.Prelude.{◌≡◌, ◌⊎◌, ℕ, ◌<◌, ⊤, Option, Some, None, List, [], ◌∷◌, ◌++◌, length}
use Rattle.std.specs.Io.KnownBytes.{Consumes, IsAtEnd}
use Rattle.ti_lsp_frames.specs.declared.error.FrameErr.{FrameErr}
use Rattle.ti_lsp_frames.specs.declared.error.FrameErr.TheVariants.{LineTooLong, TooManyFields, MalformedField, NoContentLength, DuplicateContentLength, ContentTooLong, UnexpectedEnd, Read, Interrupted, Memory}
use Rattle.ti_lsp_frames.specs.Messages.{IsLine, IsHeader, IsMessage, IsInvalid, IsInvalidLine, line_end}

-- the reader was at its end
abbrev pub AtEnd : Option (List ℕ) → Option (List ℕ) → Type 0
AtEnd old new = Consumes old new [] × IsAtEnd new

-- the next byte was read, or the reader was at its end
abbrev pub TakesByte : Option (List ℕ) → Option (List ℕ) → Option ℕ → Type 0
TakesByte old new None = AtEnd old new
TakesByte old new (Some b) = Consumes old new (b ∷ [])

-- a line was read with its end
pub record TakesHeaderLine (old new : Option (List ℕ)) (line : List ℕ) : Type 0 where
  pub is_line : IsLine line
  pub taken : Consumes old new (line ++ line_end)

-- a header was read that gives this content length
pub record TakesHeader (old new : Option (List ℕ)) (n : ℕ) : Type 0 where
  pub header : List ℕ
  pub is_header : IsHeader header n
  pub taken : Consumes old new header

-- exactly a message with this content was read
pub record TakesMessage (old new : Option (List ℕ)) (content : List ℕ) : Type 0 where
  pub message : List ℕ
  pub is_message : IsMessage message content
  pub taken : Consumes old new message

-- ---- errors

-- the cause is outside of the bytes: a read failed or was interrupted too often, or memory ran out
abbrev pub IsOutside : FrameErr → Type 0
IsOutside (Read e) = ⊤
IsOutside Interrupted = ⊤
IsOutside Memory = ⊤
IsOutside LineTooLong = ⊥
IsOutside TooManyFields = ⊥
IsOutside MalformedField = ⊥
IsOutside NoContentLength = ⊥
IsOutside DuplicateContentLength = ⊥
IsOutside ContentTooLong = ⊥
IsOutside UnexpectedEnd = ⊥

-- the bytes that were read at the start of a line have this error
pub record ReadsInvalidLine (old new : Option (List ℕ)) (e : FrameErr) : Type 0 where
  pub bytes : List ℕ
  pub invalid : IsInvalidLine bytes e
  pub taken : Consumes old new bytes
  pub last : e ≡ UnexpectedEnd → IsAtEnd new

-- no line was read, for this reason
abbrev pub FailsLine : Option (List ℕ) → Option (List ℕ) → FrameErr → Type 0
FailsLine old new e = IsOutside e ⊎ ReadsInvalidLine old new e

-- the input ended within a content of this length
pub record CutsContent (old new : Option (List ℕ)) (n : ℕ) (e : FrameErr) : Type 0 where
  pub part : List ℕ
  pub short : length part < n
  pub taken : Consumes old new part
  pub is : e ≡ UnexpectedEnd
  pub last : IsAtEnd new

-- no content of this length was read, for this reason
abbrev pub FailsContent : Option (List ℕ) → Option (List ℕ) → ℕ → FrameErr → Type 0
FailsContent old new n e = IsOutside e ⊎ CutsContent old new n e

-- the bytes that were read have this error; after an unexpected end none is left
pub record ReadsInvalid (old new : Option (List ℕ)) (e : FrameErr) : Type 0 where
  pub bytes : List ℕ
  pub invalid : IsInvalid bytes e
  pub taken : Consumes old new bytes
  pub last : e ≡ UnexpectedEnd → IsAtEnd new

-- no message was read, for this reason
abbrev pub FailsToRead : Option (List ℕ) → Option (List ℕ) → FrameErr → Type 0
FailsToRead old new e = IsOutside e ⊎ ReadsInvalid old new e
