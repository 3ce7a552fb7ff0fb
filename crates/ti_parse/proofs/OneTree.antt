-- A token list is proved to have at most one tree: two trees are both what the parser returns with limits that neither exceeds.
use Rattle.std.proofs.Common.{◌≡◌, ℕ, suc, ◌+◌, ◌<◌, ◌≤◌, List, [], ◌∷◌, ◌++◌, length, nat_lt, if◌then◌else◌, Ok, Err, refl, sym, ap, ◌∙◌, arith}
use Rattle.std.proofs.lemmas.Bool.{le-ltb}
use Rattle.ti_syntax.specs.declared.token.Token.{Token}
use Rattle.ti_syntax.specs.Trees.Classes.{TextTree}
use Rattle.ti_syntax.specs.Spelling.{Spells}
use Rattle.ti_syntax.specs.Spelling.Loads.{Load, Free, Level, Weight, classes_loads}
use Rattle.ti_parse_expr.specs.Mirrors.Input.{Over, ParseOutcome, Parser, after_next}
use Rattle.ti_parse_expr.specs.Mirrors.Full.{Limits, limited_to}
use Rattle.ti_parse.specs.Mirrors.ParserParams.{up_to}
use Rattle.ti_parse.specs.Mirrors.Classes.{classes}
use Rattle.ti_parse.proofs.ReadsClasses.{classes_read}

-- the same limit on levels and on weights
abbrev alike : ℕ → Limits
alike n = record { level = n; weight = n }

-- all levels and weights together
abbrev sum : List Load → ℕ
sum [] = 0
sum (Free ∷ loads) = sum loads
sum (Level n ∷ loads) = n + sum loads
sum (Weight n ∷ loads) = n + sum loads

goes_on : {A : Type 0} (n v : ℕ) (l : List Token) (rest out : ParseOutcome A) → v ≤ n → rest ≡ out → (if nat_lt n v then Err (Over l) else rest) ≡ out
goes_on n v l rest out small is = ap (λ c. if c then Err (Over l) else rest) (le-ltb n v small) ∙ is

-- no load is above limits that are no less than all together
none_above : {A : Type 0} (n : ℕ) (loads : List Load) (l : List Token) (out : ParseOutcome A) → sum loads ≤ n → limited_to (alike n) loads l out ≡ out
none_above n [] l out small = refl
none_above n (Free ∷ loads) l out small = none_above n loads (after_next l) out small
none_above n (Level v ∷ loads) l out small = goes_on n v l (limited_to (alike n) loads (after_next l) out) out (omega (arith, small)) (none_above n loads (after_next l) out (omega (arith, small)))
none_above n (Weight v ∷ loads) l out small = goes_on n v l (limited_to (alike n) loads (after_next l) out) out (omega (arith, small)) (none_above n loads (after_next l) out (omega (arith, small)))

abbrev reading : ℕ → ℕ → Parser TextTree
reading n fuel = classes (up_to (alike n)) fuel fuel []

reads_text : (list : List Token) (tree : TextTree) (s : Spells list tree) (n : ℕ) → 0 < n → sum (classes_loads s.classes) ≤ n → reading n (suc (length list)) list ≡ Ok (tree, s.last ∷ [])
reads_text list tree s n some small =
    let whole : List Token = s.front ++ s.last ∷ [] in
    let fuel : ℕ = suc (length list) in
    ap (reading n fuel) s.is
    ∙ classes_read (alike n) some s.classes fuel (s.last ∷ []) s.ends (omega (arith, ap length s.is))
    ∙ none_above n (classes_loads s.classes) whole (Ok (tree, s.last ∷ [])) small

abbrev tree_or : TextTree → ParseOutcome TextTree → TextTree
tree_or d (Ok p) = p.0
tree_or d (Err h) = d

pub one_tree : (list : List Token) (a b : TextTree) → Spells list a → Spells list b → a ≡ b
one_tree list a b s q =
    let n : ℕ = suc (sum (classes_loads s.classes) + sum (classes_loads q.classes)) in
    ap (tree_or a) (sym (reads_text list a s n (omega arith) (omega arith)) ∙ reads_text list b q n (omega arith) (omega arith))
