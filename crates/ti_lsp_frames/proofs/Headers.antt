-- The fields of a header, one after the other, and what comes after them.
use Rattle.std.proofs.Common.{◌≡◌, ◌≤◌, ◌+◌, ◌<◌, ℕ, List, [], ◌++◌, length, Option, None, Some, is_some, true, refl, sym, ap, append-nil, subst, arith, inl, inr}
use Rattle.std.specs.Io.KnownBytes.{Consumes}
use Rattle.std.proofs.lemmas.List.{nil_from_length}
use Rattle.std.proofs.KnownBytes.{Consumes-nil, Consumes-trans}
use Rattle.ti_lsp_frames.specs.declared.error.FrameErr.{FrameErr}
use Rattle.ti_lsp_frames.specs.declared.error.FrameErr.TheVariants.{TooManyFields, MalformedField, NoContentLength, DuplicateContentLength, ContentTooLong, UnexpectedEnd}
use Rattle.ti_lsp_frames.specs.declared.header_field.HeaderField.TheVariants.{ContentLength, Other, Malformed}
use Rattle.ti_lsp_frames.specs.HeaderFields.{header_field_of}
use Rattle.ti_lsp_frames.specs.Messages.{AreFields, no_field, length_field, other_field, IsHeader, IsInvalid, in_line, no_next, malformed, second_length, no_length, too_many, too_long, cut_content, line_end, max_content}
use Rattle.ti_lsp_frames.specs.Reading.{AtEnd, TakesHeaderLine, TakesHeader, TakesMessage, FailsToRead, FailsLine, FailsContent}

-- this many fields were read, and they give this length
pub record HasRead (old new : Option (List ℕ)) (given : Option ℕ) (count : ℕ) : Type 0 where
  pub bytes : List ℕ
  pub are_fields : AreFields count bytes given
  pub taken : Consumes old new bytes
  pub first : count ≡ 0 → bytes ≡ []

pub nothing_read : (a : Option (List ℕ)) → HasRead a a None 0
nothing_read a = record { bytes = []; are_fields = no_field; taken = Consumes-nil a; first = λ _. refl }

pub length_read : (a b c : Option (List ℕ)) (k n : ℕ) (line : List ℕ) → HasRead a b None k → TakesHeaderLine b c line → header_field_of line ≡ ContentLength n
    → HasRead a c (Some n) (k + 1)
length_read a b c k n line r t is = record {
  bytes = r.bytes ++ (line ++ line_end);
  are_fields = length_field r.are_fields t.is_line is;
  taken = Consumes-trans a b c _ _ r.taken t.taken;
  first = λ none. absurd (omega arith);
}

pub other_read : (a b c : Option (List ℕ)) (given : Option ℕ) (k : ℕ) (line : List ℕ) → HasRead a b given k → TakesHeaderLine b c line → header_field_of line ≡ Other
    → HasRead a c given (k + 1)
other_read a b c given k line r t is = record {
  bytes = r.bytes ++ (line ++ line_end);
  are_fields = other_field r.are_fields t.is_line is;
  taken = Consumes-trans a b c _ _ r.taken t.taken;
  first = λ none. absurd (omega arith);
}

-- the empty line was read after fields
empty_taken : (a b c : Option (List ℕ)) (line bytes : List ℕ) → Consumes a b bytes → TakesHeaderLine b c line → length line ≡ 0 → Consumes a c (bytes ++ line_end)
empty_taken a b c line bytes p t none =
    Consumes-trans a b c _ _ p (subst (λ (l : List ℕ). Consumes b c (l ++ line_end)) (nil_from_length line none) t.taken)

pub header_read : (a b c : Option (List ℕ)) (n k : ℕ) (given : Option ℕ) (line : List ℕ) → HasRead a b given k → given ≡ Some n → k ≤ 31
    → TakesHeaderLine b c line → length line ≡ 0 → TakesHeader a c n
header_read a b c n k given line r is few t none = record {
  header = r.bytes ++ line_end;
  is_header = record {
    count = k;
    fields = r.bytes;
    are_fields = subst (λ (o : Option ℕ). AreFields k r.bytes o) is r.are_fields;
    few = few;
    bytes_are = refl;
  };
  taken = empty_taken a b c line r.bytes r.taken t none;
}

pub end_at_once : (a b c : Option (List ℕ)) (given : Option ℕ) (k : ℕ) → HasRead a b given k → k ≡ 0 → AtEnd b c → AtEnd a c
end_at_once a b c given k r none end = (Consumes-trans a b c [] [] (subst (Consumes a b) (r.first none) r.taken) end.0, end.1)

-- ---- errors in the header

pub fails_line : (a b c : Option (List ℕ)) (given : Option ℕ) (k : ℕ) (e : FrameErr) → HasRead a b given k → k ≤ 31 → FailsLine b c e → FailsToRead a c e
fails_line a b c given k e r few (inl o) = inl o
fails_line a b c given k e r few (inr x) = inr (record {
  bytes = r.bytes ++ x.bytes;
  invalid = in_line r.are_fields few x.invalid;
  taken = Consumes-trans a b c _ _ r.taken x.taken;
  last = x.last;
})

pub fails_no_next : (a b c : Option (List ℕ)) (given : Option ℕ) (k : ℕ) → HasRead a b given k → k ≤ 31 → (k ≡ 0 → ⊥) → AtEnd b c
    → FailsToRead a c UnexpectedEnd
fails_no_next a b c given k r few some end = inr (record {
  bytes = r.bytes;
  invalid = no_next r.are_fields few some;
  taken = subst (Consumes a c) (append-nil r.bytes) (Consumes-trans a b c r.bytes [] r.taken end.0);
  last = λ _. end.1;
})

pub fails_malformed : (a b c : Option (List ℕ)) (given : Option ℕ) (k : ℕ) (line : List ℕ) → HasRead a b given k → k ≤ 31 → TakesHeaderLine b c line
    → (length line ≡ 0 → ⊥) → header_field_of line ≡ Malformed → FailsToRead a c MalformedField
fails_malformed a b c given k line r few t some is = inr (record {
  bytes = r.bytes ++ (line ++ line_end);
  invalid = malformed r.are_fields few t.is_line (λ e. some (ap length e)) is;
  taken = Consumes-trans a b c _ _ r.taken t.taken;
  last = λ e. absurd (cc);
})

pub fails_second : (a b c : Option (List ℕ)) (given : Option ℕ) (k n m : ℕ) (line : List ℕ) → HasRead a b given k → k ≤ 31 → TakesHeaderLine b c line
    → given ≡ Some n → header_field_of line ≡ ContentLength m → FailsToRead a c DuplicateContentLength
fails_second a b c given k n m line r few t is field = inr (record {
  bytes = r.bytes ++ (line ++ line_end);
  invalid = second_length (subst (λ (o : Option ℕ). AreFields k r.bytes o) is r.are_fields) few t.is_line field;
  taken = Consumes-trans a b c _ _ r.taken t.taken;
  last = λ e. absurd (cc);
})

pub fails_again : (a b c : Option (List ℕ)) (given : Option ℕ) (k m : ℕ) (line : List ℕ) → HasRead a b given k → k ≤ 31 → TakesHeaderLine b c line
    → is_some given ≡ true → header_field_of line ≡ ContentLength m → FailsToRead a c DuplicateContentLength
fails_again a b c None k m line r few t some field = absurd (cc)
fails_again a b c (Some n) k m line r few t some field = fails_second a b c (Some n) k n m line r few t refl field

pub fails_no_length : (a b c : Option (List ℕ)) (given : Option ℕ) (k : ℕ) (line : List ℕ) → HasRead a b given k → given ≡ None → k ≤ 31 → TakesHeaderLine b c line
    → length line ≡ 0 → FailsToRead a c NoContentLength
fails_no_length a b c given k line r is few t none = inr (record {
  bytes = r.bytes ++ line_end;
  invalid = no_length (subst (λ (o : Option ℕ). AreFields k r.bytes o) is r.are_fields) few;
  taken = empty_taken a b c line r.bytes r.taken t none;
  last = λ e. absurd (cc);
})

pub fails_many : (a b : Option (List ℕ)) (given : Option ℕ) (k : ℕ) → HasRead a b given k → k ≡ 32 → FailsToRead a b TooManyFields
fails_many a b given k r is = inr (record {
  bytes = r.bytes;
  invalid = too_many (subst (λ (n : ℕ). AreFields n r.bytes given) is r.are_fields);
  taken = r.taken;
  last = λ e. absurd (cc);
})

-- ---- the content

pub message_read : (a b c : Option (List ℕ)) (n : ℕ) (content : List ℕ) → TakesHeader a b n → Consumes b c content → length content ≡ n
    → n ≤ max_content → TakesMessage a c content
message_read a b c n content t p e short = record {
  message = t.header ++ content;
  is_message = record {
    header = t.header;
    is_header = subst (IsHeader t.header) (sym e) t.is_header;
    bytes_are = refl;
    short = subst (λ (k : ℕ). k ≤ max_content) (sym e) short;
  };
  taken = Consumes-trans a b c t.header content t.taken p;
}

pub fails_long : (a b : Option (List ℕ)) (n : ℕ) → TakesHeader a b n → max_content < n → FailsToRead a b ContentTooLong
fails_long a b n t long = inr (record { bytes = t.header; invalid = too_long t.is_header long; taken = t.taken; last = λ e. absurd (cc) })

pub fails_content : (a b c : Option (List ℕ)) (n : ℕ) (e : FrameErr) → TakesHeader a b n → n ≤ max_content → FailsContent b c n e → FailsToRead a c e
fails_content a b c n e t short (inl o) = inl o
fails_content a b c n e t short (inr x) = inr (record {
  bytes = t.header ++ x.part;
  invalid = subst (IsInvalid (t.header ++ x.part)) (sym x.is) (cut_content x.part t.is_header short x.short);
  taken = Consumes-trans a b c _ _ t.taken x.taken;
  last = λ _. x.last;
})
