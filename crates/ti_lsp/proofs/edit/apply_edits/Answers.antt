use Rattle.std.proofs.Common.{◌≡◌, ◌+◌, ◌∷◌, ◌++◌, true, ℕ, ap, ap₂, sym, List, drop, slice_range, string_bytes, length, slice_index_or, ◌∙◌, arith}
use Rattle.std.proofs.lemmas.Grind.{common_steps}
use Rattle.ti_lsp.specs.declared.edit.TextEdit.{TextEdit}
use Rattle.ti_lsp.specs.Edits.{is_next}
use Rattle.ti_lsp.proofs.Edited.{one_more, next_within}
use Rattle.ti_lsp.proofs.edit.apply_edits.Goals as goal

pub loop-edit-preserved : goal.loop-edit-preserved
loop-edit-preserved c =
    let text = c.args.text.now in
    let edits = c.args.edits.now in
    let i = c.loop-edit.edit-index in
    let e = c.edit-item.result in
    let there = slice_index_or edits i e in
    let fits : is_next c.loop-edit.from e (length text) ≡ true = grind (arith, common_steps) in
    let front : drop i edits ≡ there ∷ drop (i + 1) edits = grind (arith, common_steps) in
    let first : drop i edits ≡ e ∷ drop (i + 1) edits = front ∙ ap (λ (x : TextEdit). x ∷ drop (i + 1) edits) (sym c.edit-item.is) in
    let piece : c.extend_from_slice.new.self.items ≡ c.loop-edit.new.items ++ slice_range text c.loop-edit.from e.start =
    c.in_ok-extend_from_slice.ensures.items in
    let bytes : c.as_bytes.result.now ≡ string_bytes e.new_text = grind (arith, common_steps) in
    let longer : c.extend_from_slice-in-loop-edit.new.self.items ≡ (c.loop-edit.new.items ++ slice_range text c.loop-edit.from e.start) ++ string_bytes e.new_text =
    c.in_ok-extend_from_slice-2.ensures.items ∙ ap₂ (λ (a b : List ℕ). a ++ b) piece bytes in
    record {
      within = next_within c.loop-edit.from e (length text) fits;
      edits = one_more text edits (drop i edits) (drop (i + 1) edits) e c.loop-edit.new.items _ c.loop-edit.from c.loop-edit.invariant.edits first fits longer;
    }
