-- What the bytes of a reader hold, as a function of them: the message at their start, or what is wrong with them. By it they have one meaning.
use Rattle.std.proofs.Common.{◌≡◌, ◌==◌, ◌≤◌, ◌+◌, ◌-◌, ℕ, zero, suc, Bool, true, false, not, nat_lt, if◌then◌else◌, List, [], ◌∷◌, ◌++◌, length, take, drop, Option, None, Some, option_map, refl, sym, ap, ◌∙◌, append_assoc, arith, length-append}
use Rattle.std.proofs.lemmas.Bool.Decides.{nat_tests}
use Rattle.ti_lsp_frames.specs.declared.error.FrameErr.{FrameErr}
use Rattle.ti_lsp_frames.specs.declared.error.FrameErr.TheVariants.{LineTooLong, TooManyFields, MalformedField, NoContentLength, DuplicateContentLength, ContentTooLong, UnexpectedEnd}
use Rattle.ti_lsp_frames.specs.declared.header_field.HeaderField.{HeaderField}
use Rattle.ti_lsp_frames.specs.declared.header_field.HeaderField.TheVariants.{ContentLength, Other, Malformed}
use Rattle.ti_lsp_frames.specs.HeaderFields.{header_field_of}
use Rattle.ti_lsp_frames.specs.Messages.{AreFields, no_field, length_field, other_field, IsLine, IsHeader, IsUnended, empty, other_end, has_no_feed, line_end, max_content}
use Rattle.ti_lsp_frames.proofs.Lines.{both_true, one_more}

-- a message with its content and the bytes after it, or an error
pub data Front : Type 0 where
  whole : List ℕ → List ℕ → Front
  wrong : FrameErr → Front

-- the bytes before the first LF, and those from it on
abbrev pub before_feed : List ℕ → List ℕ
before_feed [] = []
before_feed (b ∷ bs) = if b == 10 then [] else b ∷ before_feed bs

abbrev pub from_feed : List ℕ → List ℕ
from_feed [] = []
from_feed (b ∷ bs) = if b == 10 then b ∷ bs else from_feed bs

-- a line without the CR at its end, if one is there
abbrev pub unreturned : List ℕ → Option (List ℕ)
unreturned [] = None
unreturned (b ∷ []) = if b == 13 then Some [] else None
unreturned (b ∷ (x ∷ xs)) = option_map (λ (l : List ℕ). b ∷ l) (unreturned (x ∷ xs))

abbrev pub on_empty : Option ℕ → List ℕ → Front
on_empty None rest = wrong NoContentLength
on_empty (Some n) rest =
    if nat_lt max_content n then wrong ContentTooLong else if nat_lt (length rest) n then wrong UnexpectedEnd else whole (take n rest) (drop n rest)

abbrev pub on_length : (Option ℕ → List ℕ → Front) → Option ℕ → ℕ → List ℕ → Front
on_length go None n rest = go (Some n) rest
on_length go (Some m) n rest = wrong DuplicateContentLength

abbrev pub on_field : (Option ℕ → List ℕ → Front) → Option ℕ → HeaderField → List ℕ → Front
on_field go given (ContentLength n) rest = on_length go given n rest
on_field go given Other rest = go given rest
on_field go given Malformed rest = wrong MalformedField

abbrev pub on_line : (Option ℕ → List ℕ → Front) → Option ℕ → Option (List ℕ) → List ℕ → Front
on_line go given None rest = wrong MalformedField
on_line go given (Some []) rest = on_empty given rest
on_line go given (Some (b ∷ bs)) rest = on_field go given (header_field_of (b ∷ bs)) rest

abbrev pub on_end : (Option ℕ → List ℕ → Front) → Option ℕ → List ℕ → List ℕ → Front
on_end go given line [] = wrong UnexpectedEnd
on_end go given line (b ∷ rest) = on_line go given (unreturned line) rest

abbrev pub on_bytes : (Option ℕ → List ℕ → Front) → Option ℕ → List ℕ → List ℕ → Front
on_bytes go given line after = if nat_lt 1001 (length line) then wrong LineTooLong else on_end go given line after

-- the bytes from the start of a line on, where this many lines may follow and this length was given
abbrev pub scan : ℕ → Option ℕ → List ℕ → Front
scan zero given bytes = wrong TooManyFields
scan (suc k) given bytes = on_bytes (scan k) given (before_feed bytes) (from_feed bytes)

-- ---- lines

is_other : (b : ℕ) → not (b == 10) ≡ true → (b == 10) ≡ false
is_other b h = flip (b == 10) h
  where
    flip : (x : Bool) → not x ≡ true → x ≡ false
    flip true h = absurd (cc)
    flip false h = refl

pub before_feed-line : (line rest : List ℕ) → has_no_feed line ≡ true → before_feed (line ++ 10 ∷ rest) ≡ line
before_feed-line [] rest h = refl
before_feed-line (b ∷ bs) rest h =
    let e = both_true _ _ h in
    rw (is_other b e.0) (ap (λ (l : List ℕ). b ∷ l) (before_feed-line bs rest e.1))

pub from_feed-line : (line rest : List ℕ) → has_no_feed line ≡ true → from_feed (line ++ 10 ∷ rest) ≡ 10 ∷ rest
from_feed-line [] rest h = refl
from_feed-line (b ∷ bs) rest h =
    let e = both_true _ _ h in
    rw (is_other b e.0) (from_feed-line bs rest e.1)

pub before_feed-all : (line : List ℕ) → has_no_feed line ≡ true → before_feed line ≡ line
before_feed-all [] h = refl
before_feed-all (b ∷ bs) h =
    let e = both_true _ _ h in
    rw (is_other b e.0) (ap (λ (l : List ℕ). b ∷ l) (before_feed-all bs e.1))

pub from_feed-none : (line : List ℕ) → has_no_feed line ≡ true → from_feed line ≡ []
from_feed-none [] h = refl
from_feed-none (b ∷ bs) h =
    let e = both_true _ _ h in
    rw (is_other b e.0) (from_feed-none bs e.1)

pub before_feed-long : (line rest : List ℕ) → has_no_feed line ≡ true → length line ≤ length (before_feed (line ++ rest))
before_feed-long [] rest h = omega arith
before_feed-long (b ∷ bs) rest h =
    let e = both_true _ _ h in
    let more : length bs ≤ length (before_feed (bs ++ rest)) = before_feed-long bs rest e.1 in
    rw (is_other b e.0) (omega arith)

pub unreturned-end : (line : List ℕ) (b : ℕ) → unreturned (line ++ b ∷ []) ≡ (if b == 13 then Some line else None)
unreturned-end [] b = refl
unreturned-end (x ∷ []) b = ap (option_map (λ (l : List ℕ). x ∷ l)) (unreturned-end [] b) ∙ pushed x [] (b == 13)
  where
    pushed : (y : ℕ) (l : List ℕ) (t : Bool) → option_map (λ (r : List ℕ). y ∷ r) (if t then Some l else None) ≡ (if t then Some (y ∷ l) else None)
    pushed y l true = refl
    pushed y l false = refl
unreturned-end (x ∷ (y ∷ ys)) b = ap (option_map (λ (l : List ℕ). x ∷ l)) (unreturned-end (y ∷ ys) b) ∙ pushed x (y ∷ ys) (b == 13)
  where
    pushed : (z : ℕ) (l : List ℕ) (t : Bool) → option_map (λ (r : List ℕ). z ∷ r) (if t then Some l else None) ≡ (if t then Some (z ∷ l) else None)
    pushed z l true = refl
    pushed z l false = refl

pub unreturned-unended : (line : List ℕ) → IsUnended line → unreturned line ≡ None
unreturned-unended _ empty = refl
unreturned-unended _ (other_end front b other) = unreturned-end front b ∙ rw (apart b other) refl
  where
    apart : (x : ℕ) → (x ≡ 13 → ⊥) → (x == 13) ≡ false
    apart x h = grind (arith, nat_tests)

-- a step over the bytes up to a LF
pub step_line : (k : ℕ) (given : Option ℕ) (line rest : List ℕ) → has_no_feed line ≡ true → length line ≤ 1001
    → scan (suc k) given (line ++ 10 ∷ rest) ≡ on_line (scan k) given (unreturned line) rest
step_line k given line rest h short =
    let few : nat_lt 1001 (length line) ≡ false = grind (arith, nat_tests) in
    rw (before_feed-line line rest h, from_feed-line line rest h, few) refl

-- a step over a line
pub step : (k : ℕ) (given : Option ℕ) (line rest : List ℕ) → IsLine line
    → scan (suc k) given ((line ++ line_end) ++ rest) ≡ on_line (scan k) given (Some line) rest
step k given line rest is =
    let whole_line : has_no_feed (line ++ 13 ∷ []) ≡ true = one_more line 13 is.one_line refl in
    let few : length (line ++ 13 ∷ []) ≤ 1001 = omega (arith, is.short, length-append line (13 ∷ [])) in
    let shape : (line ++ line_end) ++ rest ≡ (line ++ 13 ∷ []) ++ 10 ∷ rest =
    append_assoc line line_end rest ∙ sym (append_assoc line (13 ∷ []) (10 ∷ rest)) in
    ap (scan (suc k) given) shape ∙ step_line k given (line ++ 13 ∷ []) rest whole_line few ∙ ap (λ (o : Option (List ℕ)). on_line (scan k) given o rest) (unreturned-end line 13)

-- a step over a field
pub step_field : (k : ℕ) (given : Option ℕ) (line rest : List ℕ) (field : HeaderField) → IsLine line → (line ≡ [] → ⊥) → header_field_of line ≡ field
    → scan (suc k) given ((line ++ line_end) ++ rest) ≡ on_field (scan k) given field rest
step_field k given [] rest field is some e = absurd (some refl)
step_field k given (b ∷ bs) rest field is some e = step k given (b ∷ bs) rest is ∙ ap (λ (f : HeaderField). on_field (scan k) given f rest) e

-- a step over an empty line
pub step_empty : (k : ℕ) (given : Option ℕ) (rest : List ℕ) → scan (suc k) given (line_end ++ rest) ≡ on_empty given rest
step_empty k given rest = refl

not_empty : (line : List ℕ) (field : HeaderField) → header_field_of line ≡ field → (field ≡ Malformed → ⊥) → line ≡ [] → ⊥
not_empty line field e other none = other (sym e ∙ ap header_field_of none)

-- the fields at the start of some bytes
pub scan-fields : (count : ℕ) (bytes : List ℕ) (given : Option ℕ) (k total : ℕ) (rest : List ℕ) → AreFields count bytes given → k + count ≡ total
    → scan total None (bytes ++ rest) ≡ scan k given rest
scan-fields count bytes given k total rest no_field e = ap (λ (n : ℕ). scan n None rest) (omega arith)
scan-fields count bytes given k total rest (length_field {count = c} {before = before} {line = line} {n = n} fields is field) e =
    let earlier : scan total None (before ++ ((line ++ line_end) ++ rest)) ≡ scan (suc k) None ((line ++ line_end) ++ rest) =
    scan-fields c before None (suc k) total ((line ++ line_end) ++ rest) fields (omega arith) in
    ap (scan total None) (append_assoc before (line ++ line_end) rest) ∙ earlier
    ∙ step_field k None line rest (ContentLength n) is (not_empty line (ContentLength n) field (λ x. absurd (cc))) field
scan-fields count bytes given k total rest (other_field {count = c} {before = before} {line = line} {given = g} fields is field) e =
    let earlier : scan total None (before ++ ((line ++ line_end) ++ rest)) ≡ scan (suc k) g ((line ++ line_end) ++ rest) =
    scan-fields c before g (suc k) total ((line ++ line_end) ++ rest) fields (omega arith) in
    ap (scan total None) (append_assoc before (line ++ line_end) rest) ∙ earlier
    ∙ step_field k g line rest Other is (not_empty line Other field (λ x. absurd (cc))) field

-- fields, and then more bytes
pub scan-after : (count : ℕ) (bytes more : List ℕ) (given : Option ℕ) (rest : List ℕ) → AreFields count bytes given → count ≤ 31
    → scan 32 None ((bytes ++ more) ++ rest) ≡ scan (suc (31 - count)) given (more ++ rest)
scan-after count bytes more given rest fields few =
    ap (scan 32 None) (append_assoc bytes more rest) ∙ scan-fields count bytes given (suc (31 - count)) 32 (more ++ rest) fields (omega arith)

-- a header, and then more bytes
pub scan-header : (header : List ℕ) (n : ℕ) (rest : List ℕ) → IsHeader header n → scan 32 None (header ++ rest) ≡ on_empty (Some n) rest
scan-header header n rest is =
    ap (λ (h : List ℕ). scan 32 None (h ++ rest)) is.bytes_are ∙ scan-after is.count is.fields line_end (Some n) rest is.are_fields is.few
