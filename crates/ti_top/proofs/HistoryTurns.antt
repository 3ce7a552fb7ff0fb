-- A turn of a loop over the entries of a history.
use Rattle.std.proofs.Common.{◌≡◌, List, [], ◌∷◌, ◌++◌, ap, sym, ◌∙◌, append_assoc, append-nil}
use Rattle.ti_base.specs.declared.entry.Entry.{Entry}

-- what is left loses its first entry
pub entry_turn : (all seen left rest : List Entry) (e : Entry) → all ≡ seen ++ left → left ≡ e ∷ rest → all ≡ (seen ++ e ∷ []) ++ rest
entry_turn all seen left rest e split next = split ∙ ap (λ t. seen ++ t) next ∙ sym (append_assoc seen (e ∷ []) rest)

-- nothing is left
pub entries_end : (all seen left : List Entry) → all ≡ seen ++ left → left ≡ [] → seen ≡ all
entries_end all seen left split none = sym (append-nil seen) ∙ ap (λ t. seen ++ t) (sym none) ∙ sym split

-- so all were told
pub told_all : (all seen left old new : List Entry) → all ≡ seen ++ left → left ≡ [] → new ≡ old ++ seen → new ≡ old ++ all
told_all all seen left old new split none told = told ∙ ap (λ t. old ++ t) (entries_end all seen left split none)
