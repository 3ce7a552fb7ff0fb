-- Lemmas on a lookup in a table, row by row.
use Rattle.std.proofs.Common.{◌≡◌, ℕ, ◌+◌, Bool, true, false, cond, List, ◌∷◌, drop, Some, slice_get, sym, ap, ◌∙◌}
use Rattle.std.proofs.lemmas.List.{drop_more}
use Rattle.std.proofs.lemmas.Option.{slice_get_within, get_or_from_slice_get}
use Rattle.std.specs.Map.{lookup}

module _ {K X : Type 0} (test : K → Bool) (rows : List (K × X)) (i : ℕ) (row : K × X) where
  drop-row : slice_get rows i ≡ Some row → drop i rows ≡ row ∷ drop (i + 1) rows
  drop-row h =
      drop_more rows i row (slice_get_within rows i row h) ∙ ap (λ r. r ∷ drop (i + 1) rows) (get_or_from_slice_get rows i row row h)

  -- the first row that passes
  pub found : slice_get rows i ≡ Some row → test row.0 ≡ true → lookup test (drop i rows) ≡ Some row.1
  found h passes =
      ap (lookup test) (drop-row h) ∙ ap (λ b. cond b (Some row.1) (lookup test (drop (i + 1) rows))) passes

  -- a row that fails is passed over
  pub passed : slice_get rows i ≡ Some row → test row.0 ≡ false → lookup test (drop (i + 1) rows) ≡ lookup test (drop i rows)
  passed h fails =
      sym (ap (lookup test) (drop-row h) ∙ ap (λ b. cond b (Some row.1) (lookup test (drop (i + 1) rows))) fails)
