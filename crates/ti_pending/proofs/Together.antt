-- What an entry of one process makes of all processes.
use Rattle.std.proofs.Common.{◌≡◌, ℕ, ◌+◌, ◌<◌, ◌==◌, Bool, true, false, nat_lt, List, [], ◌∷◌, ◌++◌, length, get_or, slice_set, refl, sym, ap, ◌∙◌, subst, arith, eqb-true, ltb-true, length-set, get_or-set_same, get_or-set_other, length-append}
use Rattle.std.proofs.lemmas.Bool.{eqb-false, ltb-false}
use Rattle.std.proofs.lemmas.List.{get_or_append_left, get_or_push}
use Rattle.std.proofs.lemmas.List.Sums.{sum_by-set}
use Rattle.ti_base.specs.declared.entry.Entry.{Entry}
use Rattle.ti_lang.specs.Meaning.Processes.{RunConfig}
use Rattle.ti_lang.specs.Meaning.Histories.{entries_of}
use Rattle.ti_lang.proofs.Lemmas.{taker}
use Rattle.ti_store.proofs.Lemmas.{other_more}
use Rattle.ti_code.specs.Programs.{Code}
use Rattle.ti_pending.specs.declared.pending.PendingProc.{PendingProc}
use Rattle.ti_pending.specs.UpToDate.{IsUpToDate, AllUpToDate}
use Rattle.ti_pending.specs.Acting.{TakesEntry, steps_left, all_steps_left}
use Rattle.ti_pending.proofs.Acted.{seated_still}

-- an entry changes nothing for another
pub other_on : (s : RunConfig) (es all : List Entry) (i : ℕ) (t : TakesEntry s es i all) (j : ℕ) → (i == j) ≡ false → entries_of j all ≡ entries_of j es
other_on s es all i t j h = ap (entries_of j) t.after ∙ other_more j es t.entry (ap (λ k. k == j) (taker s es i t.entry t.can) ∙ h)

module _ (code : Code) (s : RunConfig) (es all : List Entry) (processes : List PendingProc) (i : ℕ) (new : PendingProc) (y : IsUpToDate code s all i new) (inside : i < length processes) where
  -- one process is replaced, and the others are up to date with more entries
  seated_set : ((d : PendingProc) (j : ℕ) → j < length processes → (i == j) ≡ false → IsUpToDate code s all j (get_or processes j d)) → AllUpToDate code s all (slice_set processes i new)
  seated_set others d j l = by (i == j) refl
    where
      by : (b : Bool) → (i == j) ≡ b → IsUpToDate code s all j (get_or (slice_set processes i new) j d)
      by true h =
          let same : i ≡ j = eqb-true i j h in
          subst (λ k. IsUpToDate code s all k (get_or (slice_set processes i new) k d)) same (subst (IsUpToDate code s all i) (sym (get_or-set_same processes i new d inside)) y)
      by false h =
          subst (IsUpToDate code s all j) (sym (get_or-set_other processes i j new d (λ e. eqb-false i j h (sym e)))) (others d j (subst (λ n. j < n) (length-set processes i new) l) h)

  pub seated_on : TakesEntry s es i all → AllUpToDate code s es processes → AllUpToDate code s all (slice_set processes i new)
  seated_on t seated = seated_set (λ d j l h. seated_still code s es all j (get_or processes j d) (other_on s es all i t j h) (seated d j l))

  -- by no entry
  pub seated_kept : all ≡ es → AllUpToDate code s es processes → AllUpToDate code s all (slice_set processes i new)
  seated_kept same seated = seated_set (λ d j l h. subst (λ xs. IsUpToDate code s xs j (get_or processes j d)) (sym same) (seated d j l))

-- what the replaced one had left goes, and what the new one has left comes
pub steps_set : (s : RunConfig) (processes : List PendingProc) (i : ℕ) (old new : PendingProc) → i < length processes → old ≡ get_or processes i old
    → all_steps_left s (slice_set processes i new) + steps_left s old ≡ all_steps_left s processes + steps_left s new
steps_set s processes i old new inside is =
    subst (λ (x : PendingProc). all_steps_left s (slice_set processes i new) + steps_left s x ≡ all_steps_left s processes + steps_left s new) (sym is)
    (sum_by-set (steps_left s) processes i new old inside)

-- one process more, before the first entry
pub seated_more : (code : Code) (s : RunConfig) (xs : List PendingProc) (x : PendingProc) → IsUpToDate code s [] (length xs) x → AllUpToDate code s [] xs → AllUpToDate code s [] (xs ++ x ∷ [])
seated_more code s xs x y seated d i l = by (nat_lt i (length xs)) refl
  where
    by : (b : Bool) → nat_lt i (length xs) ≡ b → IsUpToDate code s [] i (get_or (xs ++ x ∷ []) i d)
    by true h =
        let before = ltb-true i (length xs) h in
        subst (IsUpToDate code s [] i) (sym (get_or_append_left xs (x ∷ []) d i before)) (seated d i before)
    by false h =
        let last : length xs ≡ i = omega (arith, ltb-false i (length xs) h, length-append xs (x ∷ [])) in
        subst (IsUpToDate code s [] i) (sym (get_or_push xs x d i last)) (subst (λ k. IsUpToDate code s [] k x) last y)
