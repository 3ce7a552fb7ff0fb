-- Messages byte by byte, and the byte sequences at which no message can be read.
use Rattle.std.specs.Prelude.{◌≡◌, ◌==◌, ℕ, ◌+◌, ◌≤◌, ◌<◌, Bool, true, not, Option, Some, None, List, [], ◌∷◌, ◌++◌, length, codes, decimal}
use Rattle.std.specs.List.{list_all}
use Rattle.ti_lsp_frames.specs.declared.error.FrameErr.{FrameErr}
use Rattle.ti_lsp_frames.specs.declared.error.FrameErr.TheVariants.{LineTooLong, TooManyFields, MalformedField, NoContentLength, DuplicateContentLength, ContentTooLong, UnexpectedEnd}
use Rattle.ti_lsp_frames.specs.declared.header_field.HeaderField.TheVariants.{ContentLength, Other, Malformed}
use Rattle.ti_lsp_frames.specs.HeaderFields.{header_field_of}

-- the maximum number of bytes in a line of a header, without its end
abbrev pub max_line : ℕ
max_line = 1000

-- the maximum number of fields in a header
abbrev pub max_fields : ℕ
max_fields = 31

-- the maximum number of bytes in a content
abbrev pub max_content : ℕ
max_content = 16777216

-- the end of a line of a header: CR LF
abbrev pub line_end : List ℕ
line_end = 13 ∷ 10 ∷ []

-- whether no byte is a LF
abbrev pub has_no_feed : List ℕ → Bool
has_no_feed bytes = list_all (λ b. not (b == 10)) bytes

-- a line of a header, without its end
pub record IsLine (line : List ℕ) : Type 0 where
  pub one_line : has_no_feed line ≡ true
  pub short : length line ≤ max_line

-- the bytes are `count` fields of a header, with their ends, and give this content length, or none
pub data AreFields : ℕ → List ℕ → Option ℕ → Type 0 where
  no_field : AreFields 0 [] None
  length_field : {count : ℕ} {before line : List ℕ} {n : ℕ} → AreFields count before None → IsLine line
      → header_field_of line ≡ ContentLength n → AreFields (count + 1) (before ++ (line ++ line_end)) (Some n)
  other_field : {count : ℕ} {before line : List ℕ} {given : Option ℕ} → AreFields count before given → IsLine line
      → header_field_of line ≡ Other → AreFields (count + 1) (before ++ (line ++ line_end)) given

-- the bytes are a header that gives this content length: fields and an empty line
pub record IsHeader (bytes : List ℕ) (n : ℕ) : Type 0 where
  pub count : ℕ
  pub fields : List ℕ
  pub are_fields : AreFields count fields (Some n)
  pub few : count ≤ max_fields
  pub bytes_are : bytes ≡ fields ++ line_end

-- the bytes are a message with this content
pub record IsMessage (bytes content : List ℕ) : Type 0 where
  pub header : List ℕ
  pub is_header : IsHeader header (length content)
  pub bytes_are : bytes ≡ header ++ content
  pub short : length content ≤ max_content

-- ---- input that is no message

-- the line doesn't end with CR
pub data IsUnended : List ℕ → Type 0 where
  empty : IsUnended []
  other_end : (front : List ℕ) (b : ℕ) → (b ≡ 13 → ⊥) → IsUnended (front ++ b ∷ [])

-- the bytes at the start of a line are no line, with this error: they are too many without a LF, or end with a LF without a CR, or are all
-- that there is
pub data IsInvalidLine : List ℕ → FrameErr → Type 0 where
  long : {line : List ℕ} → has_no_feed line ≡ true → length line ≡ max_line + 2 → IsInvalidLine line LineTooLong
  unended : {line : List ℕ} → has_no_feed line ≡ true → length line ≤ max_line + 1 → IsUnended line
      → IsInvalidLine (line ++ 10 ∷ []) MalformedField
  cut : {line : List ℕ} → has_no_feed line ≡ true → length line ≤ max_line + 1 → (line ≡ [] → ⊥) → IsInvalidLine line UnexpectedEnd

-- the bytes are no message and can't become one by bytes after them, with this error; for an unexpected end they are all that there is
pub data IsInvalid : List ℕ → FrameErr → Type 0 where
  in_line : {count : ℕ} {before line : List ℕ} {given : Option ℕ} {e : FrameErr} → AreFields count before given → count ≤ max_fields
      → IsInvalidLine line e → IsInvalid (before ++ line) e
  no_next : {count : ℕ} {before : List ℕ} {given : Option ℕ} → AreFields count before given → count ≤ max_fields → (count ≡ 0 → ⊥)
      → IsInvalid before UnexpectedEnd
  malformed : {count : ℕ} {before line : List ℕ} {given : Option ℕ} → AreFields count before given → count ≤ max_fields → IsLine line
      → (line ≡ [] → ⊥) → header_field_of line ≡ Malformed → IsInvalid (before ++ (line ++ line_end)) MalformedField
  second_length : {count n m : ℕ} {before line : List ℕ} → AreFields count before (Some n) → count ≤ max_fields → IsLine line
      → header_field_of line ≡ ContentLength m → IsInvalid (before ++ (line ++ line_end)) DuplicateContentLength
  no_length : {count : ℕ} {before : List ℕ} → AreFields count before None → count ≤ max_fields
      → IsInvalid (before ++ line_end) NoContentLength
  too_many : {before : List ℕ} {given : Option ℕ} → AreFields (max_fields + 1) before given → IsInvalid before TooManyFields
  too_long : {header : List ℕ} {n : ℕ} → IsHeader header n → max_content < n → IsInvalid header ContentTooLong
  cut_content : {header : List ℕ} (part : List ℕ) {n : ℕ} → IsHeader header n → n ≤ max_content → length part < n
      → IsInvalid (header ++ part) UnexpectedEnd

-- ---- what is written

-- the message that is written for a content
abbrev pub written_message : List ℕ → List ℕ
written_message content = codes "Content-Length: " ++ decimal (length content) ++ codes "\r\n\r\n" ++ content
