-- The first line of a text.
use Rattle.std.proofs.Common.{◌≡◌, ◌∙◌, ◌==◌, ◌<◌, ◌≤◌, ◌+◌, ℕ, Bool, true, false, not, ◌&&◌, cond, List, [], ◌∷◌, ◌++◌, length, take, get_or, drop, refl, sym, ap, append-nil}
use Rattle.std.proofs.lemmas.Bool.{eqb-true, eqb-false}
use Rattle.std.proofs.lemmas.List.Folds.{list_all-append}
use Rattle.std.proofs.lemmas.List.{take-append-drop, take_more, take_all, drop_more}
use Rattle.ti_trace_check.specs.Lines.{has_no_end, first_line}

pub same_byte : (x y : ℕ) (xs ys : List ℕ) → x ∷ xs ≡ y ∷ ys → x ≡ y
same_byte x y xs ys e = cc

pub same_rest : (x y : ℕ) (xs ys : List ℕ) → x ∷ xs ≡ y ∷ ys → xs ≡ ys
same_rest x y xs ys e = cc

pub none_more : (x : ℕ) (xs : List ℕ) → [] ≡ x ∷ xs → ⊥
none_more x xs e = cc

no_some : (xs ys : List ℕ) → [] ≡ xs ++ 10 ∷ ys → ⊥
no_some [] ys z = none_more 10 ys z
no_some (x ∷ xs) ys z = none_more x (xs ++ 10 ∷ ys) z

-- the first line of a text that begins so is that of the rest, with this before it
pub past : (xs ys : List ℕ) → has_no_end xs ≡ true → first_line (xs ++ ys) ≡ xs ++ first_line ys
past [] ys h = refl
past (c ∷ cs) ys h = go (c == 10) h (past cs ys)
  where
    go : (b : Bool) → (not b && has_no_end cs) ≡ true → (has_no_end cs ≡ true → first_line (cs ++ ys) ≡ cs ++ first_line ys) → cond b (c ∷ []) (c ∷ first_line (cs ++ ys)) ≡ c ∷ (cs ++ first_line ys)
    go true h ih = cc
    go false h ih = ap (λ (zs : List ℕ). c ∷ zs) (ih h)

-- neither is one in two texts together
pub plus_none : (xs ys : List ℕ) → has_no_end xs ≡ true → has_no_end ys ≡ true → has_no_end (xs ++ ys) ≡ true
plus_none xs ys h k = list_all-append (λ (c : ℕ). not (c == 10)) xs ys ∙ both (has_no_end xs) (has_no_end ys) h k
  where
    both : (a b : Bool) → a ≡ true → b ≡ true → (a && b) ≡ true
    both true b x y = y
    both false b x y = cc

-- it ends at the first line end
pub at_end : (xs ys : List ℕ) → has_no_end xs ≡ true → first_line (xs ++ 10 ∷ ys) ≡ xs ++ 10 ∷ []
at_end xs ys h = past xs (10 ∷ ys) h

-- without one it is the text
pub no_end : (xs : List ℕ) → has_no_end xs ≡ true → first_line xs ≡ xs
no_end xs h = ap first_line (sym (append-nil xs)) ∙ past xs [] h ∙ append-nil xs

-- nothing of it stands behind a line end
pub one_end : (text xs ys : List ℕ) → first_line text ≡ xs ++ 10 ∷ ys → ys ≡ []
one_end [] xs ys z = absurd (no_some xs ys z)
one_end (c ∷ cs) [] ys z = go (c == 10) refl z
  where
    go : (b : Bool) → (c == 10) ≡ b → cond b (c ∷ []) (c ∷ first_line cs) ≡ 10 ∷ ys → ys ≡ []
    go true e z = sym (same_rest c 10 [] ys z)
    go false e z = absurd (eqb-false c 10 e (same_byte c 10 (first_line cs) ys z))
one_end (c ∷ cs) (x ∷ xs) ys z = go (c == 10) z (one_end cs xs ys)
  where
    go : (b : Bool) → cond b (c ∷ []) (c ∷ first_line cs) ≡ x ∷ (xs ++ 10 ∷ ys) → (first_line cs ≡ xs ++ 10 ∷ ys → ys ≡ []) → ys ≡ []
    go true z ih = absurd (no_some xs ys (same_rest c x [] (xs ++ 10 ∷ ys) z))
    go false z ih = ih (same_rest c x (first_line cs) (xs ++ 10 ∷ ys) z)

-- that of some text isn't empty
pub some_line : (text : List ℕ) → first_line text ≡ [] → text ≡ []
some_line [] z = refl
some_line (c ∷ cs) z = go (c == 10) z
  where
    go : (b : Bool) → cond b (c ∷ []) (c ∷ first_line cs) ≡ [] → c ∷ cs ≡ []
    go true z = absurd (none_more c [] (sym z))
    go false z = absurd (none_more c (first_line cs) (sym z))

-- a line that has a line end is the first one of each text that goes on from it; one that has none is what stands before the rest
pub line_whole : (text : List ℕ) → has_no_end (first_line text) ≡ false → (more : List ℕ) → first_line (text ++ more) ≡ first_line text
line_whole [] h more = cc
line_whole (c ∷ cs) h more = go (c == 10) refl h (line_whole cs)
  where
    inner : (b d : Bool) → b ≡ false → (not b && d) ≡ false → d ≡ false
    inner true d e h = cc
    inner false d e h = h

    go : (b : Bool) → (c == 10) ≡ b → has_no_end (cond b (c ∷ []) (c ∷ first_line cs)) ≡ false → (has_no_end (first_line cs) ≡ false → (more : List ℕ) → first_line (cs ++ more) ≡ first_line cs)
        → cond b (c ∷ []) (c ∷ first_line (cs ++ more)) ≡ cond b (c ∷ []) (c ∷ first_line cs)
    go true e h ih = refl
    go false e h ih = ap (λ (zs : List ℕ). c ∷ zs) (ih (inner (c == 10) (has_no_end (first_line cs)) e h) more)

pub line_front : (text : List ℕ) → (rest : List ℕ) × (text ≡ first_line text ++ rest)
line_front [] = ([], refl)
line_front (c ∷ cs) = go (c == 10) (line_front cs)
  where
    go : (b : Bool) → (rest : List ℕ) × (cs ≡ first_line cs ++ rest) → (rest : List ℕ) × (c ∷ cs ≡ cond b (c ∷ []) (c ∷ first_line cs) ++ rest)
    go true r = (cs, refl)
    go false r = (r.0, ap (λ (zs : List ℕ). c ∷ zs) r.1)

pub line_all : (text : List ℕ) → has_no_end (first_line text) ≡ true → first_line text ≡ text
line_all [] h = refl
line_all (c ∷ cs) h = go (c == 10) refl h (line_all cs)
  where
    last : (b : Bool) → b ≡ true → (not b && true) ≡ true → ⊥
    last true e h = cc
    last false e h = cc

    go : (b : Bool) → (c == 10) ≡ b → has_no_end (cond b (c ∷ []) (c ∷ first_line cs)) ≡ true → (has_no_end (first_line cs) ≡ true → first_line cs ≡ cs) → cond b (c ∷ []) (c ∷ first_line cs) ≡ c ∷ cs
    go true e h ih = absurd (last (c == 10) e h)
    go false e h ih = ap (λ (zs : List ℕ). c ∷ zs) (ih (rest (c == 10) (has_no_end (first_line cs)) h))
      where
        rest : (b d : Bool) → (not b && d) ≡ true → d ≡ true
        rest true d h = cc
        rest false d h = h

-- ---- in a slice

-- the first bytes without a line end, and one behind them
pub ends_there : (xs : List ℕ) (i : ℕ) (d : ℕ) → i < length xs → has_no_end (take i xs) ≡ true → get_or xs i d ≡ 10 → take (i + 1) xs ≡ first_line xs
ends_there xs i d within h is =
    take_more xs i d within
    ∙ ap (λ x. take i xs ++ x ∷ []) is
    ∙ sym (at_end (take i xs) (drop (i + 1) xs) h)
    ∙ ap first_line (ap (λ x. take i xs ++ x ∷ drop (i + 1) xs) (sym is) ∙ ap (λ ys. take i xs ++ ys) (sym (drop_more xs i d within)) ∙ take-append-drop i xs)

pub ends_with : (xs : List ℕ) → has_no_end (xs ++ 10 ∷ []) ≡ false
ends_with [] = refl
ends_with (x ∷ xs) = go (x == 10) (ends_with xs)
  where
    go : (b : Bool) → has_no_end (xs ++ 10 ∷ []) ≡ false → (not b && has_no_end (xs ++ 10 ∷ [])) ≡ false
    go true h = refl
    go false h = h

-- so it has a line end there
pub ended_there : (xs : List ℕ) (i : ℕ) (d : ℕ) → i < length xs → has_no_end (take i xs) ≡ true → get_or xs i d ≡ 10 → has_no_end (first_line xs) ≡ false
ended_there xs i d within h is =
    ap has_no_end (sym (ends_there xs i d within h is) ∙ take_more xs i d within ∙ ap (λ x. take i xs ++ x ∷ []) is) ∙ ends_with (take i xs)

-- one byte more that is no line end
pub goes_past : (xs : List ℕ) (i : ℕ) (d : ℕ) → i < length xs → has_no_end (take i xs) ≡ true → (get_or xs i d ≡ 10 → ⊥) → has_no_end (take (i + 1) xs) ≡ true
goes_past xs i d within h other =
    ap has_no_end (take_more xs i d within) ∙ list_all-append (λ (c : ℕ). not (c == 10)) (take i xs) (get_or xs i d ∷ []) ∙ both (has_no_end (take i xs)) (get_or xs i d == 10) refl h
  where
    both : (a b : Bool) → (get_or xs i d == 10) ≡ b → a ≡ true → (a && (not b && true)) ≡ true
    both true false e h = refl
    both true true e h = absurd (other (eqb-true (get_or xs i d) 10 e))
    both false b e h = cc

-- without one the line is all of them
pub all_there : (xs : List ℕ) (i : ℕ) → length xs ≤ i → has_no_end (take i xs) ≡ true → has_no_end xs ≡ true
all_there xs i l h = ap has_no_end (sym (take_all i xs l)) ∙ h
