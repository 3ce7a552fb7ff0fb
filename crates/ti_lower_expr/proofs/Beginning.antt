-- Proves that code that was generated so far is a prefix of the code after more is appended.
use Rattle.std.proofs.Common.{◌≡◌, ◌∙◌, ◌⊎◌, inl, inr, sym, ap, subst, ℕ, List, [], ◌∷◌, ◌++◌, length, take, drop, set, append_assoc, Result, Ok, Err, OnErr}
use Rattle.std.proofs.Math.Seq.{take-append_seam}
use Rattle.std.proofs.lemmas.List.{append-nil, take-append-drop, take-set}
use Rattle.ti_lang.specs.Program.Expressions.{NumberedExp, NumberedExps, NumberedRange, NumberedRanges}
use Rattle.ti_lang.specs.Program.Views.{program_of}
use Rattle.ti_code.specs.declared.instr.Instr.{Instr}
use Rattle.ti_lower_expr.specs.declared.context.LoweringContext.{LoweringContext}
use Rattle.ti_lower_expr.specs.Contents.{names_in, BeginsWith}
use Rattle.ti_lower_expr.specs.Coding.{code_of, code_of_all, code_of_range, code_of_ranges}
use Rattle.ti_lower_expr.specs.Mirrors.Sites.{walked_in, all_in, range_in, ranges_in}
use Rattle.ti_lower_expr.proofs.Walked.{walked_is, all_is, range_is, ranges_is}

-- what holds in any case holds where there is an error
pub on_any_err : {T E P : Type 0} (r : Result T E) → P → OnErr r P
on_any_err (Ok x) p = tt
on_any_err (Err e) p = p

-- where nothing is written
pub same_begins : {m n : List Instr} → n ≡ m → BeginsWith n m
same_begins {m} e = record { more = []; is = e ∙ sym (append-nil m) }

-- where some instructions are written
pub added_begins : {m n : List Instr} (xs : List Instr) → n ≡ m ++ xs → BeginsWith n m
added_begins xs e = record { more = xs; is = e }

-- one after the other
pub both_begin : {k m n : List Instr} → BeginsWith m k → BeginsWith n m → BeginsWith n k
both_begin {k} x y = record { more = x.more ++ y.more; is = y.is ∙ ap (λ z. z ++ y.more) x.is ∙ append_assoc k x.more y.more }

-- where at most one instruction is replaced, those before it stay
pub replaced_begins : (m n : List Instr) (at : ℕ) → (n ≡ m) ⊎ ((i : Instr) × (n ≡ set m at i)) → BeginsWith n (take at m)
replaced_begins m n at (inl e) = record { more = drop at m; is = e ∙ sym (take-append-drop at m) }
replaced_begins m n at (inr (i, e)) = record {
  more = drop at (set m at i);
  is = e ∙ sym (take-append-drop at (set m at i)) ∙ ap (λ z. z ++ drop at (set m at i)) (take-set m at i);
}

-- where the code before a jump is kept
pub jump_begins : (o m n : List Instr) (i : Instr) → BeginsWith m (o ++ i ∷ []) → BeginsWith n (take (length o) m) → BeginsWith n o
jump_begins o m n i x y =
    subst (BeginsWith n) (ap (take (length o)) (x.is ∙ append_assoc o (i ∷ []) x.more) ∙ take-append_seam o (i ∷ [] ++ x.more)) y

-- ---- expressions

module _ (s : LoweringContext) where
  pub walked_begins : (x : NumberedExp) {m n : List Instr} → n ≡ walked_in s x m → BeginsWith n m
  walked_begins x {m} e = record {
    more = code_of (program_of s.program.now) s.this (names_in s.slots.now) x (length m);
    is = e ∙ walked_is (program_of s.program.now) s.this (names_in s.slots.now) x m;
  }

  pub all_begin : (xs : NumberedExps) {m n : List Instr} → n ≡ all_in s xs m → BeginsWith n m
  all_begin xs {m} e = record {
    more = code_of_all (program_of s.program.now) s.this (names_in s.slots.now) xs (length m);
    is = e ∙ all_is (program_of s.program.now) s.this (names_in s.slots.now) xs m;
  }

  pub range_begins : (r : NumberedRange) {m n : List Instr} → n ≡ range_in s r m → BeginsWith n m
  range_begins r {m} e = record {
    more = code_of_range (program_of s.program.now) s.this (names_in s.slots.now) r (length m);
    is = e ∙ range_is (program_of s.program.now) s.this (names_in s.slots.now) r m;
  }

  pub ranges_begin : (rs : NumberedRanges) {m n : List Instr} → n ≡ ranges_in s rs m → BeginsWith n m
  ranges_begin rs {m} e = record {
    more = code_of_ranges (program_of s.program.now) s.this (names_in s.slots.now) rs (length m);
    is = e ∙ ranges_is (program_of s.program.now) s.this (names_in s.slots.now) rs m;
  }
