-- A list whose elements are stripped one after the other is stripped.
use Rattle.std.proofs.Common.{◌≡◌, ℕ, suc, ◌+◌, ◌<◌, ◌==◌, List, [], ◌∷◌, length, map, get_or, refl, ap, ap₂, ◌∙◌, arith}
use Rattle.ti_lang.specs.declared.program.classes.Method.{Method}
use Rattle.ti_lang.specs.Program.Views.{numbered_method_of}
use Rattle.ti_lang.specs.Mirrors.Copies.{AreSame}
use Rattle.ti_infer.specs.Stripped.{plain_method, plain_methods}

-- each is what the other's at its place says
pub all_same : {A : Type 0} (plain : A → A → Type 0) (old new : List A) → length new ≡ length old
    → ((k : ℕ) (d : A) → k < length old → plain (get_or old k d) (get_or new k d)) → AreSame plain old new
all_same plain [] [] len done = tt
all_same plain (y ∷ ys) [] len done = absurd (by len)
  where
    by : 0 ≡ suc (length ys) → ⊥
    by e = cc
all_same plain [] (x ∷ xs) len done = absurd (by len)
  where
    by : suc (length xs) ≡ 0 → ⊥
    by e = cc
all_same plain (y ∷ ys) (x ∷ xs) len done =
    (done 0 x (omega arith), all_same plain ys xs (omega (arith, len)) (λ k d lt. done (suc k) d (omega (arith, lt))))

-- what is seen of each is changed
pub all_plain : {A B : Type 0} (seen : A → B) (change : B → B) (old new : List A)
    → AreSame (λ a b. seen b ≡ change (seen a)) old new → map seen new ≡ map change (map seen old)
all_plain seen change [] [] same = refl
all_plain seen change [] (x ∷ xs) same = absurd same
all_plain seen change (y ∷ ys) [] same = absurd same
all_plain seen change (y ∷ ys) (x ∷ xs) same = ap₂ (λ z l. z ∷ l) same.0 (all_plain seen change ys xs same.1)

-- methods, from a number on
methods_plain : (main n : ℕ) (old new : List Method) → length new ≡ length old
    → ((k : ℕ) (d : Method) → k < length old
    → numbered_method_of (get_or new k d) ≡ plain_method (n + k == main) (numbered_method_of (get_or old k d)))
    → map numbered_method_of new ≡ plain_methods main n (map numbered_method_of old)
methods_plain main n [] [] len done = refl
methods_plain main n (y ∷ ys) [] len done = absurd (by len)
  where
    by : 0 ≡ suc (length ys) → ⊥
    by e = cc
methods_plain main n [] (x ∷ xs) len done = absurd (by len)
  where
    by : suc (length xs) ≡ 0 → ⊥
    by e = cc
methods_plain main n (y ∷ ys) (x ∷ xs) len done =
    let here : n + 0 ≡ n = omega arith in
    ap₂ (λ z l. z ∷ l) (done 0 x (omega arith) ∙ ap (λ k. plain_method (k == main) (numbered_method_of y)) here)
    (methods_plain main (n + 1) ys xs (omega (arith, len)) (λ k d lt.
    let next : n + suc k ≡ n + 1 + k = omega arith in
    done (suc k) d (omega (arith, lt)) ∙ ap (λ i. plain_method (i == main) (numbered_method_of (get_or ys k d))) next))

pub all_methods_plain : (main : ℕ) (old new : List Method) → length new ≡ length old
    → ((k : ℕ) (d : Method) → k < length old
    → numbered_method_of (get_or new k d) ≡ plain_method (k == main) (numbered_method_of (get_or old k d)))
    → map numbered_method_of new ≡ plain_methods main 0 (map numbered_method_of old)
all_methods_plain main old new len done =
    methods_plain main 0 old new len (λ k d lt.
    let same : k ≡ 0 + k = omega arith in
    done k d lt ∙ ap (λ i. plain_method (i == main) (numbered_method_of (get_or old k d))) same)
