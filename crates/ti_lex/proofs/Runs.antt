-- Lemmas on the longest prefix of bytes that pass a test.
use Rattle.std.proofs.Common.{◌≡◌, ℕ, suc, ◌+◌, ◌≤◌, Bool, true, false, ◌&&◌, cond, List, [], ◌∷◌, ◌++◌, length, take, drop, refl, sym, ap, ◌∙◌, subst, arith}
use Rattle.std.specs.List.{list_all, prefix_len}
use Rattle.std.proofs.lemmas.Bool.{and_parts}
use Rattle.ti_syntax.specs.Tokenizing.{first_passes}

module _ (p : ℕ → Bool) where
  -- a run goes at least as far as bytes that all pass
  pub run_covers : (bytes rest : List ℕ) → list_all p bytes ≡ true → length bytes ≤ prefix_len p (bytes ++ rest)
  run_covers [] rest h = omega arith
  run_covers (b ∷ bytes) rest h =
      let (first, others) = and_parts (p b) (list_all p bytes) h in
      let more = run_covers bytes rest others in
      rw first (omega arith)

  -- and no further, where the next byte doesn't pass
  pub run_ends : (bytes rest : List ℕ) → list_all p bytes ≡ true → first_passes p rest ≡ false → prefix_len p (bytes ++ rest) ≡ length bytes
  run_ends [] [] h stop = refl
  run_ends [] (c ∷ rest) h stop = rw stop refl
  run_ends (b ∷ bytes) rest h stop =
      let (first, others) = and_parts (p b) (list_all p bytes) h in
      let more = run_ends bytes rest others stop in
      rw first (omega arith)

  one_more : (n : ℕ) → 1 + n ≡ suc n
  one_more n = omega arith

  passes_by : (b : ℕ) (l : List ℕ) (n : ℕ) → list_all p (take n l) ≡ true → (t : Bool) → p b ≡ t → list_all p (take (cond t (1 + n) 0) (b ∷ l)) ≡ true
  passes_by b l n all true h =
      subst (λ m. list_all p (take m (b ∷ l)) ≡ true) (sym (one_more n)) (ap (λ t. t && list_all p (take n l)) h ∙ all)
  passes_by b l n all false h = refl

  -- the bytes of a run all pass
  pub run_passes : (l : List ℕ) → list_all p (take (prefix_len p l) l) ≡ true
  run_passes [] = refl
  run_passes (b ∷ l) = passes_by b l (prefix_len p l) (run_passes l) (p b) refl

  stops_by : (b : ℕ) (l : List ℕ) (n : ℕ) → first_passes p (drop n l) ≡ false → (t : Bool) → p b ≡ t → first_passes p (drop (cond t (1 + n) 0) (b ∷ l)) ≡ false
  stops_by b l n stops true h =
      subst (λ m. first_passes p (drop m (b ∷ l)) ≡ false) (sym (one_more n)) stops
  stops_by b l n stops false h = h

  -- the byte behind a run doesn't pass
  pub run_stops : (l : List ℕ) → first_passes p (drop (prefix_len p l) l) ≡ false
  run_stops [] = refl
  run_stops (b ∷ l) = stops_by b l (prefix_len p l) (run_stops l) (p b) refl
