-- The parser's result is proved to determine whether the token list has a tree or an error.
use Rattle.std.proofs.Common.{◌≡◌, ℕ, ◌+◌, ◌<◌, ◌≤◌, List, [], ◌++◌, length, Option, Some, Ok, Err, arith}
use Rattle.ti_base.specs.declared.place.Place.{Place}
use Rattle.ti_syntax.specs.declared.token.Token.{Token}
use Rattle.ti_syntax.specs.declared.token.TokenKind.TheVariants as k
use Rattle.ti_syntax.specs.Trees.Classes.{ClassTree, TextTree}
use Rattle.ti_syntax.specs.Spelling.{Spells, IsShallow, Misfit, Unexpected, TooDeep, IsGrammarRefusal}
use Rattle.ti_syntax.specs.Spelling.Classes.{AllClasses}
use Rattle.ti_syntax.specs.Spelling.Loads.{classes_loads}
use Rattle.ti_parse_expr.specs.Answers.{EndsAtEnd}
use Rattle.ti_parse_expr.specs.Mirrors.Input.{At, Over, OutOfFuel, kind, place}
use Rattle.ti_parse_expr.specs.Mirrors.Full.{language_limits, limit_outcome}
use Rattle.ti_parse_expr.proofs.Lemmas.{Near, full_near, operand_near_full, behind_name_near, behind_bracket_near}
use Rattle.ti_parse.specs.Mirrors.ParserParams.{language_params}
use Rattle.ti_parse.specs.Mirrors.Classes.{classes, text}
use Rattle.ti_parse.proofs.SoundClasses.{classes_say}
use Rattle.ti_parse.proofs.ReadsClasses.{classes_read}
use Rattle.ti_parse.proofs.Near.{classes_near}
use Rattle.ti_parse.proofs.Answered as answered

reads : (l : List Token) (xs : List ClassTree) (s : AllClasses l xs) (fuel : ℕ) (r : List Token) → kind r ≡ k.End → length (l ++ r) < fuel
    → classes language_params fuel fuel [] (l ++ r) ≡ limit_outcome (classes_loads s) (l ++ r) (Ok (xs, r))
reads l xs s fuel r ends lt = classes_read language_limits (omega arith) s fuel r ends lt

near : (t : Token) (w v : List Token) (fuel more : ℕ) → fuel ≤ more → Near t w v (classes language_params fuel fuel []) (classes language_params more more [])
near t w v fuel more le = classes_near t w v (full_near t w v) (operand_near_full t w v) (behind_name_near t w v) (behind_bracket_near t w v) fuel more le

-- ---- the outcomes of reading a list that ends at its end

pub spelled : (list : List Token) → EndsAtEnd list → (tree : TextTree) (r : List Token) → text language_params (length list + 1) list ≡ Ok (tree, r) → Spells list tree × IsShallow list
spelled list closed tree r is = answered.ok_answer classes_say reads near (length list + 1) list closed (omega arith) tree r is

pub is_unexpected : (list : List Token) → EndsAtEnd list → (r : List Token) → text language_params (length list + 1) list ≡ Err (At r) → IsGrammarRefusal list (Some (Unexpected, place r))
is_unexpected list closed r is = (answered.refused_answer classes_say reads near (length list + 1) list closed (omega arith) r is).1

pub is_too_deep : (list : List Token) → EndsAtEnd list → (r : List Token) → text language_params (length list + 1) list ≡ Err (Over r) → IsGrammarRefusal list (Some (TooDeep, place r))
is_too_deep list closed r is = (answered.deep_answer classes_say reads near (length list + 1) list closed (omega arith) r is).1

pub never_spent : (list : List Token) → EndsAtEnd list → text language_params (length list + 1) list ≡ Err OutOfFuel → ⊥
never_spent list closed is = answered.never_spent classes_say reads near (length list + 1) list closed (omega arith) is

-- each list that ends at its end has an answer
pub decided : (list : List Token) → EndsAtEnd list → (a : Option (Misfit × Place)) × IsGrammarRefusal list a
decided list closed = answered.has_refusal classes_say reads near (length list + 1) list closed (omega arith)
