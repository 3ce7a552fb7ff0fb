-- The report of one more entry, and of two parts, is the concatenation of the parts.
use Rattle.std.proofs.Common.{◌≡◌, ℕ, suc, ◌+◌, ◌<◌, List, [], ◌∷◌, ◌++◌, length, get_or, take, sym, ap, ◌∙◌, append_assoc, arith}
use Rattle.std.specs.List.{flat_map}
use Rattle.std.proofs.lemmas.List.{append-nil, take_more, flat_map_more}
use Rattle.ti_base.specs.declared.entry.Entry.{Entry}
use Rattle.ti_watch.specs.Reports.{entry_text, lines_from, trace_text}

-- the lines of one entry more
pub lines_more : (from : ℕ) (es : List Entry) (e : Entry)
    → lines_from from (es ++ e ∷ []) ≡ lines_from from es ++ entry_text (from + length es) e
lines_more from [] e = let same : from ≡ from + 0 = omega arith in append-nil (entry_text from e) ∙ ap (λ n. entry_text n e) same
lines_more from (x ∷ xs) e =
    let same : from + 1 + length xs ≡ from + suc (length xs) = omega arith in
    ap (λ rest. entry_text from x ++ rest) (lines_more (from + 1) xs e)
    ∙ sym (append_assoc (entry_text from x) (lines_from (from + 1) xs) (entry_text (from + 1 + length xs) e))
    ∙ ap (λ n. entry_text from x ++ lines_from (from + 1) xs ++ entry_text n e) same

pub trace_more : (es : List Entry) (e : Entry) → trace_text (es ++ e ∷ []) ≡ trace_text es ++ entry_text (length es) e
trace_more es e = let same : 0 + length es ≡ length es = omega arith in lines_more 0 es e ∙ ap (λ n. trace_text es ++ entry_text n e) same

-- two parts, one after the other
pub two_parts : (first second third head counts : List ℕ) → third ≡ second ++ counts → second ≡ first ++ head → third ≡ first ++ (head ++ counts)
two_parts first second third head counts b a =
    b
    ∙ ap (λ s. s ++ counts) a
    ∙ append_assoc first head counts

-- the part of one element more is added
pub part_added : {X : Type 0} (part : X → List ℕ) (first middle last : List ℕ) (xs : List X) (i : ℕ) (d : X) → i < length xs → last ≡ middle ++ part (get_or xs i d)
    → middle ≡ first ++ flat_map part (take i xs) → last ≡ first ++ flat_map part (take (i + 1) xs)
part_added part first middle last xs i d within added before =
    added
    ∙ ap (λ s. s ++ part (get_or xs i d)) before
    ∙ flat_map_more part first (take i xs) (get_or xs i d)
    ∙ ap (λ ys. first ++ flat_map part ys) (sym (take_more xs i d within))
