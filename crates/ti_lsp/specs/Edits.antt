-- Texts with edits and changes.
use Rattle.std.specs.Prelude.{ℕ, ◌&&◌, nat_le, max, Bool, if◌then◌else◌, List, [], ◌∷◌, ◌++◌, length, take, drop, slice_range, Option, Some, None, option_map, string_bytes}
use Rattle.ti_lsp.specs.declared.edit.TextEdit.{TextEdit}
use Rattle.ti_lsp.specs.declared.position.PositionEncoding.{PositionEncoding}
use Rattle.ti_lsp.specs.declared.position.TextRange.{TextRange}
use Rattle.ti_lsp.specs.Messages.{ChangeView}
use Rattle.ti_lsp.specs.Positions.{offset_of}

-- ---- edits of a server

-- whether the edit's range is in a text of this length and not before this offset
abbrev pub is_next : ℕ → TextEdit → ℕ → Bool
is_next from edit len = nat_le from edit.start && (nat_le edit.start edit.end && nat_le edit.end len)

-- the text from an offset on with these edits; none if their ranges aren't in it, ordered and disjoint
abbrev pub edited : ℕ → List TextEdit → List ℕ → Option (List ℕ)
edited from [] text = Some (drop from text)
edited from (e ∷ es) text =
    if is_next from e (length text)
    then option_map (λ rest. (slice_range text from e.start ++ string_bytes e.new_text) ++ rest) (edited e.end es text)
    else None

-- ---- changes of a client

-- the text with this range, or all of it, replaced
abbrev pub replaced : PositionEncoding → List ℕ → Option TextRange → List ℕ → List ℕ
replaced encoding text None new = new
replaced encoding text (Some range) new =
    let start = offset_of encoding range.start text in
    let end = max (offset_of encoding range.end text) start in
    (take start text ++ new) ++ drop end text

abbrev pub changed_by : PositionEncoding → List ℕ → ChangeView → List ℕ
changed_by encoding text change = replaced encoding text change.range change.new_text

-- the text after all changes, one after the other
abbrev pub all_changed : PositionEncoding → List ℕ → List ChangeView → List ℕ
all_changed encoding text [] = text
all_changed encoding text (c ∷ cs) = all_changed encoding (changed_by encoding text c) cs
