-- The grammar of expressions.
use Rattle.std.specs.Prelude.{◌≡◌, ℕ, ℤ, ◌+◌, ◌≤◌, true, false, List, [], ◌∷◌, ◌++◌, length, Some, codes}
use Rattle.ti_syntax.specs.declared.token.Token.{Token}
use Rattle.ti_syntax.specs.declared.token.TokenKind.TheVariants as k
use Rattle.ti_syntax.specs.declared.tree.exprs.UnaryOperator.{UnaryOperator}
use Rattle.ti_syntax.specs.declared.tree.exprs.BinaryOperator.{BinaryOperator}
use Rattle.ti_syntax.specs.Trees.Types.{TypeTree}
use Rattle.ti_syntax.specs.Trees.Expressions.{Exp, RangeTree}
use Rattle.ti_syntax.specs.Trees.Expressions as e
use Rattle.ti_syntax.specs.Spelling.Operators.{prefix_of, infix_of, strength}
use Rattle.ti_syntax.specs.Spelling.Types.{CastType}

-- The last part of a Postfix, which determines how the Postfix may be used: Target for a simple name, a member's name or an
-- index, which can be assigned to; Call for an argument list, which makes it a statement; Other for the rest, also for a group.
pub data Ending : Type 0 where
  Target : Ending
  Call : Ending
  Other : Ending

mutual
  -- An expression whose binary operators, outside of groups, have at least the given precedence level. An Expr has level 1 and a
  -- Mul level 10.
  pub data Whole : ℕ → List Token → Exp → Type 0 where
    operand : {n : ℕ} {l : List Token} {x : Exp} → Prefixed l x → Whole n l x
    -- left-associative: the left operand may have operators of the same level, the right one may not
    operation : {n : ℕ} {a b : List Token} (t : Token) {op : BinaryOperator} {x y : Exp} → infix_of t.kind ≡ Some op → n ≤ strength op
        → Whole (strength op) a x → Whole (strength op + 1) b y → Whole n (a ++ t ∷ b) (e.Binary t.place op x y)

  -- a Unary: unary operators or casts before a Postfix
  pub data Prefixed : List Token → Exp → Type 0 where
    unary : {l : List Token} (t : Token) {op : UnaryOperator} {x : Exp} → prefix_of t.kind ≡ Some op → Prefixed l x
        → Prefixed (t ∷ l) (e.Unary t.place op x)
    cast : {l m : List Token} {ty : TypeTree} (o c : Token) {x : Exp} → o.kind ≡ k.LeftParen → CastType l ty → c.kind ≡ k.RightParen
        → Prefixed m x → Prefixed (o ∷ (l ++ c ∷ m)) (e.Cast o.place ty x)
    postfixed : {ending : Ending} {l : List Token} {x : Exp} → Postfixed ending l x → Prefixed l x

  -- a Postfix: a primary expression with its postfix parts
  pub data Postfixed : Ending → List Token → Exp → Type 0 where
    int : (t : Token) {n : ℤ} → t.kind ≡ k.Int n → Postfixed Other (t ∷ []) (e.Int t.place n)
    long : (t : Token) {n : ℤ} → t.kind ≡ k.LongInt n → Postfixed Other (t ∷ []) (e.Long t.place n)
    truth : (t : Token) → t.kind ≡ k.KeywordTrue → Postfixed Other (t ∷ []) (e.Truth t.place true)
    falsehood : (t : Token) → t.kind ≡ k.KeywordFalse → Postfixed Other (t ∷ []) (e.Truth t.place false)
    null : (t : Token) → t.kind ≡ k.KeywordNull → Postfixed Other (t ∷ []) (e.Null t.place)
    this : (t : Token) → t.kind ≡ k.KeywordThis → Postfixed Other (t ∷ []) (e.This t.place)
    name : (t : Token) {name : List ℕ} → t.kind ≡ k.Name name → Postfixed Target (t ∷ []) (e.Name t.place name)
    call : {l : List Token} (t o c : Token) {name : List ℕ} {xs : List Exp} → t.kind ≡ k.Name name → o.kind ≡ k.LeftParen → Args l xs
        → c.kind ≡ k.RightParen
        → Postfixed Call (t ∷ o ∷ (l ++ c ∷ [])) (e.call t.place name xs)
    -- a group, which has no node of its own
    group : {l : List Token} (o c : Token) {x : Exp} → o.kind ≡ k.LeftParen → Whole 1 l x → c.kind ≡ k.RightParen
        → Postfixed Other (o ∷ (l ++ c ∷ [])) x
    rect : {l : List Token} (o c : Token) {rs : List RangeTree} → o.kind ≡ k.LeftBracket → Ranges l rs → length rs ≤ 3 → c.kind
        ≡ k.RightBracket
        → Postfixed Other (o ∷ (l ++ c ∷ [])) (e.rect o.place rs)
    point : {l : List Token} (o c : Token) {xs : List Exp} → o.kind ≡ k.LeftBracket → Listed l xs → length xs ≤ 3 → c.kind ≡ k.RightBracket
        → Postfixed Other (o ∷ (l ++ c ∷ [])) (e.point o.place xs)
    this_proc : (t d n o c : Token) → t.kind ≡ k.KeywordTi → d.kind ≡ k.Dot → n.kind ≡ k.Name (codes "thisProc") → o.kind ≡ k.LeftParen
        → c.kind ≡ k.RightParen
        → Postfixed Other (t ∷ d ∷ n ∷ o ∷ c ∷ []) (e.ThisProc t.place)
    num_procs : (t d n o c : Token) → t.kind ≡ k.KeywordTi → d.kind ≡ k.Dot → n.kind ≡ k.Name (codes "numProcs") → o.kind ≡ k.LeftParen
        → c.kind ≡ k.RightParen
        → Postfixed Other (t ∷ d ∷ n ∷ o ∷ c ∷ []) (e.NumProcs t.place)
    select : {ending : Ending} {l : List Token} (d t : Token) {name : List ℕ} {x : Exp} → Postfixed ending l x → d.kind ≡ k.Dot → t.kind
        ≡ k.Name name
        → Postfixed Target (l ++ d ∷ t ∷ []) (e.Select t.place x name)
    member : {ending : Ending} {l m : List Token} (d t o c : Token) {name : List ℕ} {x : Exp} {xs : List Exp} → Postfixed ending l x
        → d.kind ≡ k.Dot → t.kind ≡ k.Name name
        → o.kind ≡ k.LeftParen → Args m xs → c.kind ≡ k.RightParen → Postfixed Call (l ++ d ∷ t ∷ o ∷ (m ++ c ∷ []))
        (e.member t.place x name xs)
    index : {ending : Ending} {l m : List Token} (o c : Token) {x : Exp} {xs : List Exp} → Postfixed ending l x → o.kind ≡ k.LeftBracket
        → Listed m xs → length xs ≤ 3
        → c.kind ≡ k.RightBracket → Postfixed Target (l ++ o ∷ (m ++ c ∷ [])) (e.index o.place x xs)

  -- a possibly empty argument list, without its parentheses
  pub data Args : List Token → List Exp → Type 0 where
    none : Args [] []
    some : {l : List Token} {xs : List Exp} → Listed l xs → Args l xs

  -- one or more expressions, separated by commas
  pub data Listed : List Token → List Exp → Type 0 where
    last : {l : List Token} {x : Exp} → Whole 1 l x → Listed l (x ∷ [])
    more : {l m : List Token} (t : Token) {x : Exp} {xs : List Exp} → Whole 1 l x → t.kind ≡ k.Comma → Listed m xs
        → Listed (l ++ t ∷ m) (x ∷ xs)

  -- one or more ranges, separated by commas
  pub data Ranges : List Token → List RangeTree → Type 0 where
    last_range : {l : List Token} {r : RangeTree} → Range l r → Ranges l (r ∷ [])
    more_ranges : {l m : List Token} (t : Token) {r : RangeTree} {rs : List RangeTree} → Range l r → t.kind ≡ k.Comma → Ranges m rs
        → Ranges (l ++ t ∷ m) (r ∷ rs)

  pub data Range : List Token → RangeTree → Type 0 where
    plain : {l m : List Token} (s : Token) {low high : Exp} → Whole 1 l low → s.kind ≡ k.Colon → Whole 1 m high
        → Range (l ++ s ∷ m) (e.Plain low high)
    stepped : {l m v : List Token} (s t : Token) {low high step : Exp} → Whole 1 l low → s.kind ≡ k.Colon → Whole 1 m high → t.kind
        ≡ k.Colon → Whole 1 v step
        → Range (l ++ s ∷ (m ++ t ∷ v)) (e.Stepped low high step)
