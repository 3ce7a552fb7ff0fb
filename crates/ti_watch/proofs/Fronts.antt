-- What a buffer held before bytes were appended is a prefix of what it holds afterwards.
use Rattle.std.proofs.Common.{◌≡◌, ℕ, ◌≤◌, List, ◌++◌, length, take, sym, ap, ◌∙◌, arith, length-append}
use Rattle.std.proofs.lemmas.List.{take-take, take_at}

-- the first front of a list that keeps a longer one
pub kept_front : (first middle last more : List ℕ) (m n : ℕ) → m ≡ length first → n ≡ length middle → take n last ≡ middle → middle ≡ first ++ more → take m last ≡ first
kept_front first middle last more m n lm ln kept is =
    let le : m ≤ n = omega (arith, lm, ln, ap length is, length-append first more) in
    sym (take-take m n last le) ∙ ap (take m) kept ∙ ap (take m) is ∙ take_at first more m (sym lm)

-- the front of a list to which more was added
pub added_front : (first last more : List ℕ) (m : ℕ) → m ≡ length first → last ≡ first ++ more → take m last ≡ first
added_front first last more m lm is = ap (take m) is ∙ take_at first more m (sym lm)
