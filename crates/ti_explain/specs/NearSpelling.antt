-- Names that are spelled nearly the same: at most two letters are put in, left out or replaced.
use Rattle.std.specs.Prelude.{ℕ, Bool, ◌&&◌, ◌||◌, ◌==◌, nat_lt, if◌then◌else◌, List, [], ◌∷◌, drop, length, bytes_eq}

-- two lists of letters
pub record Letters : Type 0 where
  pub left : List ℕ
  pub right : List ℕ

abbrev pub letter_pair : List ℕ → List ℕ → Letters
letter_pair left right = record { left = left; right = right }

-- what is left of the two behind the letters with which both begin
abbrev pub differing : List ℕ → List ℕ → Letters
differing (x ∷ xs) (y ∷ ys) = if x == y then differing xs ys else letter_pair (x ∷ xs) (y ∷ ys)
differing xs ys = letter_pair xs ys

-- at the first letter in which they differ one is replaced, put in or left out, and then the rest passes the test
abbrev pub passes_edited : (List ℕ → List ℕ → Bool) → Letters → Bool
passes_edited test rest =
    test (drop 1 rest.left) (drop 1 rest.right) || (test rest.left (drop 1 rest.right) || test (drop 1 rest.left) rest.right)

-- they are equal but for at most one letter
abbrev pub within_one : List ℕ → List ℕ → Bool
within_one xs ys = passes_edited bytes_eq (differing xs ys)

-- they are equal but for at most two letters
abbrev pub within_two : List ℕ → List ℕ → Bool
within_two xs ys = passes_edited within_one (differing xs ys)

-- they are equal but for one letter, or for two if that is looked for, and that is less than half of the name
abbrev pub is_near : Bool → List ℕ → List ℕ → Bool
is_near two name other = if two then nat_lt 4 (length name) && within_two name other else nat_lt 2 (length name) && within_one name other
