-- The parser for each form of phrase is proved sound and complete, and its errors viable-prefix errors.
use Rattle.std.proofs.Common.{◌≡◌, ◌⊎◌, inl, inr, ℕ, suc, ◌<◌, ◌≤◌, List, [], ◌∷◌, ◌++◌, length, Ok, ◌∙◌, arith}
use Rattle.ti_syntax.specs.declared.token.Token.{Token}
use Rattle.ti_syntax.specs.Trees.Expressions.{Exp}
use Rattle.ti_syntax.specs.Spelling.Expressions.{Ending, Postfixed}
use Rattle.ti_parse_expr.specs.declared.parse.Form.{Form}
use Rattle.ti_parse_expr.specs.declared.parse.Form.TheVariants as form
use Rattle.ti_parse_expr.specs.Answers.{Phrase, BeginsPhrase}
use Rattle.ti_parse_expr.specs.Mirrors.Input.{and_then, take_token}
use Rattle.ti_parse_expr.specs.Mirrors.Exprs.{phrase, operand, expr}
use Rattle.ti_parse_expr.proofs.Law.{BeginsIn, Said, Any, then_said, as_said, done_said, ended}
use Rattle.ti_parse_expr.proofs.Phrases.{Post, binds_small}
use Rattle.ti_parse_expr.proofs.Sound.{expr_says, operand_says}
use Rattle.ti_parse_expr.proofs.Follows.{then_ok, Stops}
use Rattle.ti_parse_expr.proofs.Complete.{expr_reads, no_dimension, postfixed_law, postfix_stops}
use Rattle.ti_parse_expr.proofs.Local.{Near, near_then, near_pure, readers_near}
use Rattle.ti_parse_expr.proofs.Enough.{Enough, enough_then, enough_pure, readers_enough}
use Rattle.ti_parse_expr.proofs.GoesOn.{AnyPostfix, Halts, postfix_goes, whole_stops}

-- ---- soundness

-- the tree of an operand alone
postfix_says : (fuel : ℕ) (l : List Token) → Said fuel AnyPostfix Any l (and_then (operand fuel (expr fuel) l) (λ y j. Ok (y.0, j)))
postfix_says fuel l =
    then_said {m = fuel} {S = Post} {Q = Any} (λ f x s. omega arith) (λ f y s. ([], y.0, (y.1, ended (Postfixed y.1) f y.0 s))) _
    (as_said {m = suc fuel} (omega arith) (λ g y s. s) (λ _ _. tt) (operand_says fuel (expr fuel) (expr_says fuel) l))
    (λ f r y s _. done_said (y.1, ended (Postfixed y.1) f y.0 s) tt)

pub phrase_says : (f : Form) (fuel : ℕ) (l : List Token) → Said fuel (Phrase f) Any l (phrase fuel f l)
phrase_says form.Whole fuel l = as_said {m = fuel} (omega arith) (λ g y s. s) (λ _ _. tt) (expr_says fuel 1 (omega arith) (omega arith) l)
phrase_says form.Mul fuel l = as_said {m = fuel} (omega arith) (λ g y s. s) (λ _ _. tt) (expr_says fuel 10 (omega arith) (omega arith) l)
phrase_says form.Postfix fuel l = postfix_says fuel l

-- ---- completeness

-- the level of a form, at which nothing looser follows
abbrev pub level_of : Form → ℕ
level_of form.Whole = 1
level_of form.Mul = 10
level_of form.Postfix = 11

pub postfix_reads : (fuel : ℕ) (ending : Ending) (l r : List Token) (x : Exp) → Postfixed ending l x → Stops 11 l r
    → length (l ++ r) < fuel → operand fuel (expr fuel) (l ++ r) ≡ Ok ((x, ending), r)
postfix_reads fuel ending l r x s stops lt =
    let loop = postfixed_law fuel (expr fuel) (expr_reads fuel) (no_dimension fuel) s r stops.call (omega arith) in
    loop.operand ∙ postfix_stops fuel (expr fuel) (expr_reads fuel) loop.left (x, ending) r stops.operand (omega (arith, loop.enough))

pub phrase_reads : (f : Form) (fuel : ℕ) (l r : List Token) (x : Exp) → Phrase f l x → Stops (level_of f) l r → length (l ++ r) < fuel → phrase fuel f (l ++ r) ≡ Ok (x, r)
phrase_reads form.Whole fuel l r x s stops lt = expr_reads fuel 1 l r x (omega arith) (omega arith) s stops lt
phrase_reads form.Mul fuel l r x s stops lt = expr_reads fuel 10 l r x (omega arith) (omega arith) s stops lt
phrase_reads form.Postfix fuel l r x (ending, s) stops lt = then_ok (λ y j. Ok (y.0, j)) (postfix_reads fuel ending l r x s stops lt)

-- ---- locality, and more turns

pub phrase_near : (t : Token) (w v : List Token) (f : Form) (fuel more : ℕ) → fuel ≤ more → Near t w v (phrase fuel f) (phrase more f)
phrase_near t w v form.Whole fuel more le = (readers_near t w v fuel more le).expr 1
phrase_near t w v form.Mul fuel more le = (readers_near t w v fuel more le).expr 10
phrase_near t w v form.Postfix fuel more le = near_then t w v (readers_near t w v fuel more le).operand (λ y. near_pure t w v y.0)

pub phrase_enough : (f : Form) (fuel more : ℕ) → fuel ≤ more → Enough (phrase fuel f) (phrase more f)
phrase_enough form.Whole fuel more le = (readers_enough fuel more le).expr 1
phrase_enough form.Mul fuel more le = (readers_enough fuel more le).expr 10
phrase_enough form.Postfix fuel more le = enough_then (readers_enough fuel more le).operand (λ y. enough_pure y.0)

-- ---- a phrase can end before a token, or goes on with it

postfix_stops_of : (l : List Token) (t : Token) (r : List Token) → Halts l t ⊎ BeginsIn AnyPostfix (l ++ t ∷ []) → Stops 11 l (t ∷ r) ⊎ BeginsPhrase form.Postfix (l ++ t ∷ [])
postfix_stops_of l t r (inl halts) = let small = binds_small t.kind in inl (record { operand = halts.operand; call = halts.call; operators = omega arith })
postfix_stops_of l t r (inr b) = inr b

pub phrase_stops : (f : Form) (l : List Token) (x : Exp) → Phrase f l x → (t : Token) (r : List Token) → Stops (level_of f) l (t ∷ r) ⊎ BeginsPhrase f (l ++ t ∷ [])
phrase_stops form.Whole l x s t r = whole_stops (omega arith) s t r
phrase_stops form.Mul l x s t r = whole_stops (omega arith) s t r
phrase_stops form.Postfix l x (ending, s) t r = postfix_stops_of l t r (postfix_goes ending l x s t)
