-- Lemmas on phrases of the grammar with their closing brackets, and on their parts.
use Rattle.std.proofs.Common.{◌≡◌, ℕ, ◌<◌, ◌≤◌, List, [], ◌∷◌, ◌++◌, length, Option, Some, None, sym, ap, subst, append_assoc, arith, length-append, true}
use Rattle.std.specs.Cmp.Lexicographic.{same_text}
use Rattle.ti_syntax.specs.declared.token.Token.{Token}
use Rattle.ti_syntax.specs.declared.token.TokenKind.{TokenKind}
use Rattle.ti_syntax.specs.declared.token.TokenKind.TheVariants as k
use Rattle.ti_syntax.specs.declared.tree.exprs.BinaryOperator.{BinaryOperator}
use Rattle.ti_syntax.specs.declared.tree.exprs.BinaryOperator.TheVariants as binary
use Rattle.ti_syntax.specs.Trees.Expressions.{Exp, RangeTree}
use Rattle.ti_syntax.specs.Trees.Expressions as e
use Rattle.ti_syntax.specs.Spelling.Operators.{infix_of, strength}
use Rattle.ti_syntax.specs.Spelling.Expressions.{Ending, Target, Call, Other, Whole, Prefixed, Postfixed, Args, Listed, Ranges, Range}
use Rattle.ti_syntax.specs.Spelling.Expressions as grammar
use Rattle.ti_parse_expr.specs.Mirrors.Input.{spells}
use Rattle.ti_parse_expr.specs.Mirrors.Exprs.{Operand}

-- ---- operators

-- how tightly what a token stands for binds, and 0 for what is no operator of two operands
abbrev pub bound : Option BinaryOperator → ℕ
bound None = 0
bound (Some op) = strength op

abbrev pub binds : TokenKind → ℕ
binds q = bound (infix_of q)

pub strength_small : (op : BinaryOperator) → strength op ≤ 10
strength_small binary.OrElse = omega arith
strength_small _ = omega arith

pub strength_some : (op : BinaryOperator) → 1 ≤ strength op
strength_some binary.OrElse = omega arith
strength_some _ = omega arith

pub bound_small : (q : Option BinaryOperator) → bound q ≤ 10
bound_small None = omega arith
bound_small (Some op) = strength_small op

pub binds_small : (q : TokenKind) → binds q ≤ 10
binds_small q = bound_small (infix_of q)

pub binds_of : (q : TokenKind) (op : BinaryOperator) → infix_of q ≡ Some op → binds q ≡ strength op
binds_of q op h = ap bound h

-- ---- names by their spelling

pub spells_is : (word : List ℕ) (q : TokenKind) → spells word q ≡ true → q ≡ k.Name word
spells_is word (k.Name name) h = ap k.Name (same_text name word (sym h))
spells_is word _ h = cc

-- ---- phrases

-- a Postfix with what it ends with
abbrev pub Post : List Token → Operand → Type 0
Post f x = Postfixed x.1 f x.0

-- arguments with the closing parenthesis
pub data ArgsClosed : List Token → List Exp → Type 0 where
  args_closed : {l : List Token} {xs : List Exp} (c : Token) → Args l xs → c.kind ≡ k.RightParen → ArgsClosed (l ++ c ∷ []) xs

-- one to three expressions with the closing bracket
pub data PartsClosed : List Token → List Exp → Type 0 where
  parts_closed : {l : List Token} {xs : List Exp} (c : Token) → Listed l xs → length xs ≤ 3 → c.kind ≡ k.RightBracket → PartsClosed (l ++ c ∷ []) xs

-- one to three ranges with the closing bracket
pub data RangesClosed : List Token → List RangeTree → Type 0 where
  ranges_closed : {l : List Token} {rs : List RangeTree} (c : Token) → Ranges l rs → length rs ≤ 3 → c.kind ≡ k.RightBracket → RangesClosed (l ++ c ∷ []) rs

pub call_made : {l : List Token} {name : List ℕ} {xs : List Exp} (t o : Token) → t.kind ≡ k.Name name → o.kind ≡ k.LeftParen → ArgsClosed l xs → Postfixed Call (t ∷ o ∷ l) (e.call t.place name xs)
call_made t o ht ho (args_closed c s hc) = grammar.call t o c ht ho s hc

pub member_made : {ending : Ending} {a l : List Token} {left : Exp} {name : List ℕ} {xs : List Exp} (d t o : Token)
    → Postfixed ending a left → d.kind ≡ k.Dot → t.kind ≡ k.Name name → o.kind ≡ k.LeftParen
    → ArgsClosed l xs → Postfixed Call (a ++ d ∷ t ∷ o ∷ l) (e.member t.place left name xs)
member_made d t o s hd ht ho (args_closed c q hc) = grammar.member d t o c s hd ht ho q hc

pub index_made : {ending : Ending} {a l : List Token} {left : Exp} {xs : List Exp} (o : Token) → Postfixed ending a left → o.kind ≡ k.LeftBracket → PartsClosed l xs
    → Postfixed Target (a ++ o ∷ l) (e.index o.place left xs)
index_made o s ho (parts_closed c q few hc) = grammar.index o c s ho q few hc

pub point_made : {l : List Token} {xs : List Exp} (o : Token) → o.kind ≡ k.LeftBracket → PartsClosed l xs → Postfixed Other (o ∷ l) (e.point o.place xs)
point_made o ho (parts_closed c q few hc) = grammar.point o c ho q few hc

pub rect_made : {l : List Token} {rs : List RangeTree} (o : Token) → o.kind ≡ k.LeftBracket → RangesClosed l rs → Postfixed Other (o ∷ l) (e.rect o.place rs)
rect_made o ho (ranges_closed c q few hc) = grammar.rect o c ho q few hc

pub listed_snoc : {l m : List Token} {xs : List Exp} {x : Exp} (t : Token) → Listed l xs → t.kind ≡ k.Comma → Whole 1 m x → Listed (l ++ t ∷ m) (xs ++ x ∷ [])
listed_snoc t (grammar.last s) h q = grammar.more t s h (grammar.last q)
listed_snoc {m = m} {x = x} t (grammar.more {l = a} {m = b} u {x = y} {xs = ys} s h2 rest) h q =
    subst (λ z. Listed z (y ∷ (ys ++ x ∷ []))) (sym (append_assoc a (u ∷ b) (t ∷ m))) (grammar.more u s h2 (listed_snoc t rest h q))

pub ranges_snoc : {l m : List Token} {rs : List RangeTree} {r : RangeTree} (t : Token) → Ranges l rs → t.kind ≡ k.Comma → Range m r → Ranges (l ++ t ∷ m) (rs ++ r ∷ [])
ranges_snoc t (grammar.last_range s) h q = grammar.more_ranges t s h (grammar.last_range q)
ranges_snoc {m = m} {r = r} t (grammar.more_ranges {l = a} {m = b} u {r = y} {rs = ys} s h2 rest) h q =
    subst (λ z. Ranges z (y ∷ (ys ++ r ∷ []))) (sym (append_assoc a (u ∷ b) (t ∷ m))) (grammar.more_ranges u s h2 (ranges_snoc t rest h q))

pub weaken : {n m : ℕ} {l : List Token} {x : Exp} → n ≤ m → Whole m l x → Whole n l x
weaken le (grammar.operand p) = grammar.operand p
weaken le (grammar.operation t {op = op} is above a b) = grammar.operation t is (omega arith) a b

-- an operand is what binds more tightly than any operator
pub whole_prefixed : {l : List Token} {x : Exp} → Whole 11 l x → Prefixed l x
whole_prefixed (grammar.operand p) = p
whole_prefixed (grammar.operation t {op = op} is above a b) = absurd (omega (arith, strength_small op))

-- ---- each phrase has a token

pub postfixed_some : {ending : Ending} {l : List Token} {x : Exp} → Postfixed ending l x → 0 < length l
postfixed_some (grammar.int t h) = omega arith
postfixed_some (grammar.long t h) = omega arith
postfixed_some (grammar.truth t h) = omega arith
postfixed_some (grammar.falsehood t h) = omega arith
postfixed_some (grammar.null t h) = omega arith
postfixed_some (grammar.this t h) = omega arith
postfixed_some (grammar.name t h) = omega arith
postfixed_some (grammar.call t o c h h2 s h3) = omega arith
postfixed_some (grammar.group o c h s h2) = omega arith
postfixed_some (grammar.rect o c h s few h2) = omega arith
postfixed_some (grammar.point o c h s few h2) = omega arith
postfixed_some (grammar.this_proc t d n o c h h2 h3 h4 h5) = omega arith
postfixed_some (grammar.num_procs t d n o c h h2 h3 h4 h5) = omega arith
postfixed_some (grammar.select {l = l} d t s h h2) = omega (arith, length-append l (d ∷ t ∷ []))
postfixed_some (grammar.member {l = l} {m = m} d t o c s h h2 h3 q h4) = omega (arith, length-append l (d ∷ t ∷ o ∷ (m ++ c ∷ [])))
postfixed_some (grammar.index {l = l} {m = m} o c s h q few h2) = omega (arith, length-append l (o ∷ (m ++ c ∷ [])))

pub prefixed_some : {l : List Token} {x : Exp} → Prefixed l x → 0 < length l
prefixed_some (grammar.unary t h s) = omega arith
prefixed_some (grammar.cast o c h s h2 q) = omega arith
prefixed_some (grammar.postfixed s) = postfixed_some s

pub whole_some : {n : ℕ} {l : List Token} {x : Exp} → Whole n l x → 0 < length l
whole_some (grammar.operand p) = prefixed_some p
whole_some (grammar.operation {a = a} {b = b} t is above s q) = omega (arith, length-append a (t ∷ b))
