-- Lines and contents, byte by byte.
use Rattle.std.proofs.Common.{◌≡◌, ◌==◌, ◌&&◌, ◌≤◌, ◌<◌, ℕ, Bool, true, false, not, List, [], ◌∷◌, ◌++◌, length, Option, refl, sym, ap, ◌∙◌, append_assoc, subst, arith, inl, inr, length-append}
use Rattle.std.specs.Io.KnownBytes.{Consumes}
use Rattle.std.proofs.lemmas.List.{nil_from_length}
use Rattle.std.proofs.lemmas.List.Folds.{list_all-append}
use Rattle.std.proofs.KnownBytes.{Consumes-trans}
use Rattle.ti_lsp_frames.specs.declared.error.FrameErr.{FrameErr}
use Rattle.ti_lsp_frames.specs.declared.error.FrameErr.TheVariants.{LineTooLong, MalformedField, UnexpectedEnd}
use Rattle.ti_lsp_frames.specs.Messages.{IsUnended, empty, other_end, long, unended, cut, has_no_feed}
use Rattle.ti_lsp_frames.specs.Reading.{AtEnd, TakesHeaderLine, FailsLine, FailsContent, IsOutside}

pub both_true : (a b : Bool) → (a && b) ≡ true → (a ≡ true) × (b ≡ true)
both_true true b h = (refl, h)
both_true false b h = absurd (cc)

-- the byte is no LF
not_feed : (b : ℕ) → (b == 10) ≡ false → has_no_feed (b ∷ []) ≡ true
not_feed b h = rw h refl

pub one_more : (line : List ℕ) (b : ℕ) → has_no_feed line ≡ true → (b == 10) ≡ false → has_no_feed (line ++ b ∷ []) ≡ true
one_more line b h other = list_all-append (λ (x : ℕ). not (x == 10)) line (b ∷ []) ∙ rw (h, not_feed b other) refl

pub unended_empty : (line : List ℕ) → length line ≡ 0 → IsUnended line
unended_empty line none = subst IsUnended (sym (nil_from_length line none)) empty

pub unended_other : (line front : List ℕ) (b : ℕ) → line ≡ front ++ b ∷ [] → (b == 13) ≡ false → IsUnended line
unended_other line front b e other = subst IsUnended (sym e) (other_end front b (λ is. apart b is other))
  where
    apart : (x : ℕ) → x ≡ 13 → (x == 13) ≡ false → ⊥
    apart x is other = let h : true ≡ false = sym (ap (λ (y : ℕ). y == 13) is) ∙ other in absurd (cc)

-- a line without the CR at its end
pub front_has_no_feed : (front : List ℕ) (b : ℕ) → has_no_feed (front ++ b ∷ []) ≡ true → has_no_feed front ≡ true
front_has_no_feed front b h = (both_true _ _ (sym (list_all-append (λ (x : ℕ). not (x == 10)) front (b ∷ [])) ∙ h)).0

pub line_taken : (a b c : Option (List ℕ)) (line front : List ℕ) → Consumes a b line → has_no_feed line ≡ true → length line ≤ 1001
    → line ≡ front ++ 13 ∷ [] → Consumes b c (10 ∷ []) → TakesHeaderLine a c front
line_taken a b c line front p h short e q = record {
  is_line = record {
    one_line = front_has_no_feed front 13 (sym (ap has_no_feed e) ∙ h);
    short = omega (arith, ap length e, length-append front (13 ∷ []));
  };
  taken = subst (Consumes a c) (ap (λ (l : List ℕ). l ++ 10 ∷ []) e ∙ append_assoc front (13 ∷ []) (10 ∷ [])) (Consumes-trans a b c line (10 ∷ []) p q);
}

pub line_malformed : (a b c : Option (List ℕ)) (line : List ℕ) → Consumes a b line → has_no_feed line ≡ true → length line ≤ 1001
    → IsUnended line → Consumes b c (10 ∷ []) → FailsLine a c MalformedField
line_malformed a b c line p h short u q = inr (record {
  bytes = line ++ 10 ∷ [];
  invalid = unended h short u;
  taken = Consumes-trans a b c line (10 ∷ []) p q;
  last = λ e. absurd (cc);
})

pub line_long : (a b : Option (List ℕ)) (line : List ℕ) → Consumes a b line → has_no_feed line ≡ true → length line ≡ 1002
    → FailsLine a b LineTooLong
line_long a b line p h is = inr (record { bytes = line; invalid = long h is; taken = p; last = λ e. absurd (cc) })

pub line_cut : (a b c : Option (List ℕ)) (line : List ℕ) → Consumes a b line → has_no_feed line ≡ true → length line ≤ 1001
    → (length line ≡ 0 → ⊥) → AtEnd b c → FailsLine a c UnexpectedEnd
line_cut a b c line p h short some end = inr (record {
  bytes = line;
  invalid = cut h short (λ e. some (ap length e));
  taken = (subst (Consumes a c) (nil_right line) (Consumes-trans a b c line [] p end.0));
  last = λ e. end.1;
})
  where
    nil_right : (l : List ℕ) → l ++ [] ≡ l
    nil_right [] = refl
    nil_right (x ∷ xs) = ap (λ (r : List ℕ). x ∷ r) (nil_right xs)

pub end_at_once : (a b c : Option (List ℕ)) (line : List ℕ) → Consumes a b line → length line ≡ 0 → AtEnd b c → AtEnd a c
end_at_once a b c line p none end = (Consumes-trans a b c [] [] (subst (Consumes a b) (nil_from_length line none) p) end.0, end.1)

pub outside_line : (a b : Option (List ℕ)) (e : FrameErr) → IsOutside e → FailsLine a b e
outside_line a b e o = inl o

pub outside_content : (a b : Option (List ℕ)) (n : ℕ) (e : FrameErr) → IsOutside e → FailsContent a b n e
outside_content a b n e o = inl o

pub content_cut : (a b c : Option (List ℕ)) (n : ℕ) (part : List ℕ) → Consumes a b part → length part < n → AtEnd b c
    → FailsContent a c n UnexpectedEnd
content_cut a b c n part p short end = inr (record {
  part = part;
  short = short;
  taken = subst (Consumes a c) (nil_right part) (Consumes-trans a b c part [] p end.0);
  is = refl;
  last = end.1;
})
  where
    nil_right : (l : List ℕ) → l ++ [] ≡ l
    nil_right [] = refl
    nil_right (x ∷ xs) = ap (λ (r : List ℕ). x ∷ r) (nil_right xs)
