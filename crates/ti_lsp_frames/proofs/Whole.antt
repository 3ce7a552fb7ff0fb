-- Bytes that begin with a message begin with no other message and with nothing invalid.
use Rattle.std.proofs.Common.{◌≡◌, ℕ, suc, true, false, nat_lt, List, [], ◌∷◌, ◌++◌, length, Option, None, Some, Result, Ok, Err, IfOk, IfErr, IfSome, IsSomeAnd, MatchResult, refl, sym, ap, ◌∙◌, append_assoc, append-nil, length-append, arith, inl, inr, ◌-◌}
use Rattle.std.proofs.lemmas.Bool.Decides.{nat_tests}
use Rattle.std.proofs.Math.Seq.{take-append_seam, drop-append_seam}
use Rattle.std.specs.Io.KnownBytes.{Consumes, IsAtEnd}
use Rattle.ti_lsp_frames.specs.declared.error.FrameErr.{FrameErr}
use Rattle.ti_lsp_frames.specs.declared.error.FrameErr.TheVariants.{UnexpectedEnd}
use Rattle.ti_lsp_frames.specs.declared.header_field.HeaderField.TheVariants.{ContentLength, Malformed}
use Rattle.ti_lsp_frames.specs.HeaderFields.{header_field_of}
use Rattle.ti_lsp_frames.specs.Messages.{IsMessage, IsInvalidLine, long, unended, cut, IsInvalid, in_line, no_next, malformed, second_length, no_length, too_many, too_long, cut_content, line_end, max_content}
use Rattle.ti_lsp_frames.specs.Reading.{AtEnd, TakesMessage, FailsToRead, ReadsInvalid, IsOutside}
use Rattle.ti_lsp_frames.proofs.Scanning.{whole, wrong, scan, on_line, on_empty, before_feed, before_feed-all, from_feed-none, before_feed-long, unreturned-unended, step_line, step_field, step_empty, scan-fields, scan-after, scan-header}

-- a message
pub scan-message : (message content rest : List ℕ) → IsMessage message content → scan 32 None (message ++ rest) ≡ whole content rest
scan-message message content rest is =
    ap (λ (m : List ℕ). scan 32 None (m ++ rest)) is.bytes_are ∙ ap (scan 32 None) (append_assoc is.header content rest)
    ∙ scan-header is.header (length content) (content ++ rest) is.is_header ∙ all
  where
    all : on_empty (Some (length content)) (content ++ rest) ≡ whole content rest
    all = let short : nat_lt max_content (length content) ≡ false = grind (arith, nat_tests, is.short) in
        let there : nat_lt (length (content ++ rest)) (length content) ≡ false = grind (arith, nat_tests, length-append content rest) in
        rw (short, there, take-append_seam content rest, drop-append_seam content rest) refl

-- ---- what is invalid

scan-line : (k : ℕ) (given : Option ℕ) (bytes rest : List ℕ) (e : FrameErr) → IsInvalidLine bytes e → (e ≡ UnexpectedEnd → rest ≡ [])
    → scan (suc k) given (bytes ++ rest) ≡ wrong e
scan-line k given bytes rest _ (long h is) last =
    let many : nat_lt 1001 (length (before_feed (bytes ++ rest))) ≡ true = let l = before_feed-long bytes rest h in grind (arith, nat_tests) in
    rw many refl
scan-line k given _ rest _ (unended {line = line} h short u) last =
    ap (scan (suc k) given) (append_assoc line (10 ∷ []) rest) ∙ step_line k given line rest h short
    ∙ ap (λ (o : Option (List ℕ)). on_line (scan k) given o rest) (unreturned-unended line u)
scan-line k given bytes rest _ (cut h short some) last =
    let few : nat_lt 1001 (length bytes) ≡ false = grind (arith, nat_tests) in
    ap (λ (r : List ℕ). scan (suc k) given (bytes ++ r)) (last refl) ∙ ap (scan (suc k) given) (append-nil bytes)
    ∙ rw (before_feed-all bytes h, from_feed-none bytes h, few) refl

field_present : (line : List ℕ) (n : ℕ) → header_field_of line ≡ ContentLength n → line ≡ [] → ⊥
field_present line n e none = let h : Malformed ≡ ContentLength n = sym (ap header_field_of none) ∙ e in absurd (cc)

pub scan-invalid : (bytes rest : List ℕ) (e : FrameErr) → IsInvalid bytes e → (e ≡ UnexpectedEnd → rest ≡ []) → scan 32 None (bytes ++ rest) ≡ wrong e
scan-invalid _ rest e (in_line {count = c} {before = b} {line = l} {given = g} fields few bad) last =
    scan-after c b l g rest fields few ∙ scan-line (31 - c) g l rest e bad last
scan-invalid bytes rest _ (no_next {count = c} {given = g} fields few some) last =
    ap (λ (r : List ℕ). scan 32 None (bytes ++ r)) (last refl) ∙ scan-fields c bytes g (suc (31 - c)) 32 [] fields (omega arith)
scan-invalid _ rest _ (malformed {count = c} {before = b} {line = l} {given = g} fields few is some field) last =
    scan-after c b (l ++ line_end) g rest fields few ∙ step_field (31 - c) g l rest Malformed is some field
scan-invalid _ rest _ (second_length {count = c} {n = n} {m = m} {before = b} {line = l} fields few is field) last =
    scan-after c b (l ++ line_end) (Some n) rest fields few ∙ step_field (31 - c) (Some n) l rest (ContentLength m) is (field_present l m field) field
scan-invalid _ rest _ (no_length {count = c} {before = b} fields few) last =
    scan-after c b line_end None rest fields few ∙ step_empty (31 - c) None rest
scan-invalid bytes rest _ (too_many {given = g} fields) last = scan-fields 32 bytes g 0 32 rest fields refl
scan-invalid bytes rest _ (too_long {n = n} is over) last =
    let more : nat_lt max_content n ≡ true = grind (arith, nat_tests) in
    scan-header bytes n rest is ∙ rw more refl
scan-invalid _ rest _ (cut_content {header = h} part {n = n} is short less) last =
    let fits : nat_lt max_content n ≡ false = grind (arith, nat_tests) in
    let cut : nat_lt (length part) n ≡ true = grind (arith, nat_tests) in
    ap (λ (r : List ℕ). scan 32 None ((h ++ part) ++ r)) (last refl) ∙ ap (scan 32 None) (append-nil (h ++ part))
    ∙ scan-header h n part is ∙ rw (fits, cut) refl

-- ---- a whole message is read

consumed : (old new : Option (List ℕ)) (taken bytes : List ℕ) → Consumes old new taken → old ≡ Some bytes → (rest : List ℕ) × (new ≡ Some rest) × (bytes ≡ taken ++ rest)
consumed None new taken bytes p e = absurd (cc)
consumed (Some xs) None taken bytes p e = absurd p
consumed (Some xs) (Some ys) taken bytes p e = let same : xs ≡ bytes = cc in (ys, refl, sym same ∙ p)

at_end : (new : Option (List ℕ)) (rest : List ℕ) → new ≡ Some rest → IsAtEnd new → rest ≡ []
at_end None rest e end = absurd (cc)
at_end (Some xs) rest e end = let same : xs ≡ rest = cc in sym same ∙ end

content_same : (message content rest other_message other more : List ℕ) → IsMessage message content → IsMessage other_message other
    → message ++ rest ≡ other_message ++ more → other ≡ content
content_same message content rest other_message other more is also e =
    let p : whole other more ≡ whole content rest =
    sym (scan-message other_message other more also) ∙ sym (ap (scan 32 None) e) ∙ scan-message message content rest is in cc

pub read_whole : (old new : Option (List ℕ)) (message content rest other : List ℕ) → IsMessage message content → old ≡ Some (message ++ rest)
    → TakesMessage old new other → other ≡ content
read_whole old new message content rest other is e t =
    let c = consumed old new t.message (message ++ rest) t.taken e in
    content_same message content rest t.message other c.0 is t.is_message c.2

pub not_at_end : (old new : Option (List ℕ)) (message content rest : List ℕ) → IsMessage message content → old ≡ Some (message ++ rest) → AtEnd old new → ⊥
not_at_end old new message content rest is e end =
    let c = consumed old new [] (message ++ rest) end.0 e in
    let none : c.0 ≡ [] = at_end new c.0 c.1 end.1 in
    let p : wrong UnexpectedEnd ≡ whole content rest = sym (ap (scan 32 None) (c.2 ∙ none)) ∙ scan-message message content rest is in absurd (cc)

pub not_invalid : (old new : Option (List ℕ)) (message content rest : List ℕ) (err : FrameErr) → IsMessage message content → old ≡ Some (message ++ rest)
    → ReadsInvalid old new err → ⊥
not_invalid old new message content rest err is e r =
    let c = consumed old new r.bytes (message ++ rest) r.taken e in
    let p : wrong err ≡ whole content rest =
    sym (scan-invalid r.bytes c.0 err r.invalid (λ x. at_end new c.0 c.1 (r.last x))) ∙ sym (ap (scan 32 None) c.2) ∙ scan-message message content rest is in absurd (cc)

pub outside_only : (old new : Option (List ℕ)) (message content rest : List ℕ) (err : FrameErr) → IsMessage message content → old ≡ Some (message ++ rest)
    → FailsToRead old new err → IsOutside err
outside_only old new message content rest err is e (inl o) = o
outside_only old new message content rest err is e (inr r) = absurd (not_invalid old new message content rest err is e r)

-- what a read gives of a reader that has a whole message
pub reads_whole : {X : Type 0} (bytes_of : X → List ℕ) (old new : Option (List ℕ)) (r : Result (Option X) FrameErr)
    → IfOk r (λ o. IfSome o (λ x. TakesMessage old new (bytes_of x))) → (r ≡ Ok None → AtEnd old new) → IfErr r (FailsToRead old new)
    → (message content rest : List ℕ) → IsMessage message content → old ≡ Some (message ++ rest)
    → MatchResult r (λ o. IsSomeAnd o (λ x. bytes_of x ≡ content)) IsOutside
reads_whole bytes_of old new (Ok (Some x)) took end fails message content rest is e = read_whole old new message content rest (bytes_of x) is e took
reads_whole bytes_of old new (Ok None) took end fails message content rest is e = absurd (not_at_end old new message content rest is e (end refl))
reads_whole bytes_of old new (Err err) took end fails message content rest is e = outside_only old new message content rest err is e fails
