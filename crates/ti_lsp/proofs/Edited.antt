-- The edits of a text, one after the other.
use Rattle.std.proofs.Common.{◌≡◌, ◌≤◌, ℕ, true, false, List, [], ◌∷◌, ◌++◌, length, drop, slice_range, Option, None, Some, option_map, refl, sym, ap, ◌∙◌, append_assoc, string_bytes, subst, arith}
use Rattle.std.proofs.lemmas.Bool.Decides.{nat_tests}
use Rattle.ti_lsp.specs.declared.edit.TextEdit.{TextEdit}
use Rattle.ti_lsp.specs.Edits.{edited, is_next}

-- the new text so far is a prefix of the whole
pub record Edits (text : List ℕ) (edits left : List TextEdit) (new : List ℕ) (from : ℕ) : Type 0 where
  pub whole : option_map (λ (rest : List ℕ). new ++ rest) (edited from left text) ≡ edited 0 edits text

same_rest : (o : Option (List ℕ)) → option_map (λ (rest : List ℕ). [] ++ rest) o ≡ o
same_rest None = refl
same_rest (Some x) = refl

pub none_yet : (text : List ℕ) (edits : List TextEdit) → Edits text edits edits [] 0
none_yet text edits = record { whole = same_rest (edited 0 edits text) }

joined : (new piece : List ℕ) (o : Option (List ℕ)) → option_map (λ (rest : List ℕ). new ++ rest) (option_map (λ (rest : List ℕ). piece ++ rest) o)
    ≡ option_map (λ (rest : List ℕ). (new ++ piece) ++ rest) o
joined new piece None = refl
joined new piece (Some x) = ap Some (sym (append_assoc new piece x))

pub next_within : (from : ℕ) (e : TextEdit) (len : ℕ) → is_next from e len ≡ true → e.end ≤ len
next_within from e len fits = grind (arith, nat_tests)

more : (text : List ℕ) (edits left : List TextEdit) (e : TextEdit) (new : List ℕ) (from : ℕ) → Edits text edits (e ∷ left) new from
    → is_next from e (length text) ≡ true → Edits text edits left ((new ++ slice_range text from e.start) ++ string_bytes e.new_text) e.end
more text edits left e new from before fits = record { whole = shape ∙ before.whole }
  where
    tail : Option (List ℕ)
    tail = edited e.end left text

    piece : List ℕ
    piece = slice_range text from e.start ++ string_bytes e.new_text

    here : edited from (e ∷ left) text ≡ option_map (λ (rest : List ℕ). piece ++ rest) tail
    here = rw fits refl

    shape : option_map (λ (rest : List ℕ). ((new ++ slice_range text from e.start) ++ string_bytes e.new_text) ++ rest) tail
        ≡ option_map (λ (rest : List ℕ). new ++ rest) (edited from (e ∷ left) text)
    shape = ap (λ (l : List ℕ). option_map (λ (rest : List ℕ). l ++ rest) tail) (append_assoc new (slice_range text from e.start) (string_bytes e.new_text))
        ∙ sym (joined new piece tail) ∙ sym (ap (option_map (λ (rest : List ℕ). new ++ rest)) here)

pub one_more : (text : List ℕ) (edits these left : List TextEdit) (e : TextEdit) (new longer : List ℕ) (from : ℕ) → Edits text edits these new from
    → these ≡ e ∷ left → is_next from e (length text) ≡ true → longer ≡ (new ++ slice_range text from e.start) ++ string_bytes e.new_text
    → Edits text edits left longer e.end
one_more text edits these left e new longer from before first fits is =
    let start = subst (λ (l : List TextEdit). Edits text edits l new from) first before in
    subst (λ (l : List ℕ). Edits text edits left l e.end) (sym is) (more text edits left e new from start fits)

pub not_next : (text : List ℕ) (edits left : List TextEdit) (e : TextEdit) (new : List ℕ) (from : ℕ) → Edits text edits (e ∷ left) new from
    → is_next from e (length text) ≡ false → None ≡ edited 0 edits text
not_next text edits left e new from before fails = sym (ap (option_map (λ (rest : List ℕ). new ++ rest)) here) ∙ before.whole
  where
    here : edited from (e ∷ left) text ≡ None
    here = rw fails refl

pub all : (text : List ℕ) (edits : List TextEdit) (new : List ℕ) (from : ℕ) → Edits text edits [] new from → Some (new ++ drop from text) ≡ edited 0 edits text
all text edits new from before = before.whole
