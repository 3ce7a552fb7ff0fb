-- No token of an expression is proved to be one of the tokens that end expressions.
use Rattle.std.proofs.Common.{◌≡◌, ℕ, ◌+◌, List, [], ◌∷◌, ◌++◌, Some, refl, ap, arith, if◌then◌else◌}
use Rattle.ti_syntax.specs.declared.token.Token.{Token}
use Rattle.ti_syntax.specs.declared.token.TokenKind.{TokenKind}
use Rattle.ti_syntax.specs.declared.token.TokenKind.TheVariants as k
use Rattle.ti_syntax.specs.declared.tree.types.Base.{Base}
use Rattle.ti_syntax.specs.declared.tree.types.Qualifier.{Qualifier}
use Rattle.ti_syntax.specs.declared.tree.types.QualifierWord.{QualifierWord}
use Rattle.ti_syntax.specs.declared.tree.exprs.UnaryOperator.{UnaryOperator}
use Rattle.ti_syntax.specs.declared.tree.exprs.BinaryOperator.{BinaryOperator}
use Rattle.ti_syntax.specs.Trees.Types.{GridTree, TypeTree}
use Rattle.ti_syntax.specs.Trees.Expressions.{Exp, RangeTree}
use Rattle.ti_syntax.specs.Spelling.Operators.{prefix_of, infix_of, qualifier_of}
use Rattle.ti_syntax.specs.Spelling.Types.{Arity, Based, Qualified, Gridded, FieldType, CastType}
use Rattle.ti_syntax.specs.Spelling.Types as types
use Rattle.ti_syntax.specs.Spelling.Expressions.{Ending, Whole, Prefixed, Postfixed, Args, Listed, Ranges, Range}
use Rattle.ti_syntax.specs.Spelling.Expressions as grammar
use Rattle.ti_parse_expr.specs.Answers.{Phrase}
use Rattle.ti_parse_expr.specs.declared.parse.Form.{Form}
use Rattle.ti_parse_expr.specs.declared.parse.Form.TheVariants as form
use Rattle.ti_parse_expr.specs.Mirrors.Reach.{ends_expression}

-- how many tokens end an expression
abbrev pub end_of : TokenKind → ℕ
end_of q = if ends_expression q then 1 else 0

abbrev pub ends : List Token → ℕ
ends [] = 0
ends (t ∷ l) = end_of t.kind + ends l

pub ends-append : (a b : List Token) → ends (a ++ b) ≡ ends a + ends b
ends-append [] b = omega arith
ends-append (t ∷ a) b = omega (arith, ends-append a b)

infix_goes_on : (q : TokenKind) (op : BinaryOperator) → infix_of q ≡ Some op → end_of q ≡ 0
infix_goes_on k.Semicolon op h = cc
infix_goes_on k.LeftBrace op h = cc
infix_goes_on k.RightBrace op h = cc
infix_goes_on k.End op h = cc
infix_goes_on _ op h = refl

prefix_goes_on : (q : TokenKind) (op : UnaryOperator) → prefix_of q ≡ Some op → end_of q ≡ 0
prefix_goes_on k.Semicolon op h = cc
prefix_goes_on k.LeftBrace op h = cc
prefix_goes_on k.RightBrace op h = cc
prefix_goes_on k.End op h = cc
prefix_goes_on _ op h = refl

qualifier_goes_on : (q : TokenKind) (word : QualifierWord) → qualifier_of q ≡ Some word → end_of q ≡ 0
qualifier_goes_on k.KeywordSingle word h = refl
qualifier_goes_on k.KeywordLocal word h = refl
qualifier_goes_on _ word h = cc

-- ---- types

pub arity_ends : {l : List Token} {n : ℕ} → Arity l n → ends l ≡ 0
arity_ends (types.arity o t c h h2 low high h3) = omega (arith, ap end_of h, ap end_of h2, ap end_of h3)

pub based_ends : {l : List Token} {x : Base} → Based l x → ends l ≡ 0
based_ends (types.int t h) = omega (arith, ap end_of h)
based_ends (types.long t h) = omega (arith, ap end_of h)
based_ends (types.boolean t h) = omega (arith, ap end_of h)
based_ends (types.point t h s) = omega (arith, ap end_of h, arity_ends s)
based_ends (types.rect_domain t h s) = omega (arith, ap end_of h, arity_ends s)
based_ends (types.named t h) = omega (arith, ap end_of h)

pub qualified_ends : {l : List Token} {qs : List Qualifier} → Qualified l qs → ends l ≡ 0
qualified_ends types.none = refl
qualified_ends (types.more t {word = word} h s) = omega (arith, qualifier_goes_on t.kind word h, qualified_ends s)

pub gridded_ends : {l : List Token} {gs : List GridTree} → Gridded l gs → ends l ≡ 0
gridded_ends types.none = refl
gridded_ends (types.more {l = l} {m = m} o t c h h2 low high h3 s g) = omega (arith, ends-append l m, ap end_of h, ap end_of h2, ap end_of h3, qualified_ends s, gridded_ends g)

cast_ends : {l : List Token} {ty : TypeTree} → CastType l ty → ends l ≡ 0
cast_ends (types.cast_type (types.field_type {a = a} {l = l} {m = m} s q g few) proper) = omega (arith, ends-append a (l ++ m), ends-append l m, based_ends s, qualified_ends q, gridded_ends g)

-- ---- expressions

mutual
  pub whole_ends : {n : ℕ} {l : List Token} {x : Exp} → Whole n l x → ends l ≡ 0
  whole_ends (grammar.operand p) = prefixed_ends p
  whole_ends (grammar.operation {a = a} {b = b} t {op = op} is up s q) = omega (arith, ends-append a (t ∷ b), infix_goes_on t.kind op is, whole_ends s, whole_ends q)

  prefixed_ends : {l : List Token} {x : Exp} → Prefixed l x → ends l ≡ 0
  prefixed_ends (grammar.unary t {op = op} h s) = omega (arith, prefix_goes_on t.kind op h, prefixed_ends s)
  prefixed_ends (grammar.cast {l = l} {m = m} o c h s h2 q) = omega (arith, ends-append l (c ∷ m), ap end_of h, ap end_of h2, cast_ends s, prefixed_ends q)
  prefixed_ends (grammar.postfixed s) = postfixed_ends s

  pub postfixed_ends : {ending : Ending} {l : List Token} {x : Exp} → Postfixed ending l x → ends l ≡ 0
  postfixed_ends (grammar.int t h) = omega (arith, ap end_of h)
  postfixed_ends (grammar.long t h) = omega (arith, ap end_of h)
  postfixed_ends (grammar.truth t h) = omega (arith, ap end_of h)
  postfixed_ends (grammar.falsehood t h) = omega (arith, ap end_of h)
  postfixed_ends (grammar.null t h) = omega (arith, ap end_of h)
  postfixed_ends (grammar.this t h) = omega (arith, ap end_of h)
  postfixed_ends (grammar.name t h) = omega (arith, ap end_of h)
  postfixed_ends (grammar.call {l = l} t o c h h2 s h3) = omega (arith, ends-append l (c ∷ []), ap end_of h, ap end_of h2, ap end_of h3, args_ends s)
  postfixed_ends (grammar.group {l = l} o c h s h2) = omega (arith, ends-append l (c ∷ []), ap end_of h, ap end_of h2, whole_ends s)
  postfixed_ends (grammar.rect {l = l} o c h s few h2) = omega (arith, ends-append l (c ∷ []), ap end_of h, ap end_of h2, ranges_ends s)
  postfixed_ends (grammar.point {l = l} o c h s few h2) = omega (arith, ends-append l (c ∷ []), ap end_of h, ap end_of h2, listed_ends s)
  postfixed_ends (grammar.this_proc t d n o c h h2 h3 h4 h5) = omega (arith, ap end_of h, ap end_of h2, ap end_of h3, ap end_of h4, ap end_of h5)
  postfixed_ends (grammar.num_procs t d n o c h h2 h3 h4 h5) = omega (arith, ap end_of h, ap end_of h2, ap end_of h3, ap end_of h4, ap end_of h5)
  postfixed_ends (grammar.select {l = l} d t s h h2) = omega (arith, ends-append l (d ∷ t ∷ []), ap end_of h, ap end_of h2, postfixed_ends s)
  postfixed_ends (grammar.member {l = l} {m = m} d t o c s h h2 h3 q h4) =
      omega (arith, ends-append l (d ∷ t ∷ o ∷ (m ++ c ∷ [])), ends-append m (c ∷ []), ap end_of h, ap end_of h2, ap end_of h3, ap end_of h4, postfixed_ends s, args_ends q)
  postfixed_ends (grammar.index {l = l} {m = m} o c s h q few h2) = omega (arith, ends-append l (o ∷ (m ++ c ∷ [])), ends-append m (c ∷ []), ap end_of h, ap end_of h2, postfixed_ends s, listed_ends q)

  args_ends : {l : List Token} {xs : List Exp} → Args l xs → ends l ≡ 0
  args_ends grammar.none = refl
  args_ends (grammar.some s) = listed_ends s

  listed_ends : {l : List Token} {xs : List Exp} → Listed l xs → ends l ≡ 0
  listed_ends (grammar.last s) = whole_ends s
  listed_ends (grammar.more {l = l} {m = m} t s h q) = omega (arith, ends-append l (t ∷ m), ap end_of h, whole_ends s, listed_ends q)

  pub ranges_ends : {l : List Token} {rs : List RangeTree} → Ranges l rs → ends l ≡ 0
  ranges_ends (grammar.last_range s) = range_ends s
  ranges_ends (grammar.more_ranges {l = l} {m = m} t s h q) = omega (arith, ends-append l (t ∷ m), ap end_of h, range_ends s, ranges_ends q)

  range_ends : {l : List Token} {r : RangeTree} → Range l r → ends l ≡ 0
  range_ends (grammar.plain {l = l} {m = m} s a h c) = omega (arith, ends-append l (s ∷ m), ap end_of h, whole_ends a, whole_ends c)
  range_ends (grammar.stepped {l = l} {m = m} {v = v} s t a h c h2 d) =
      omega (
        arith,
        ends-append l (s ∷ (m ++ t ∷ v)),
        ends-append m (t ∷ v),
        ap end_of h,
        ap end_of h2,
        whole_ends a,
        whole_ends c,
        whole_ends d,
      )

pub phrase_ends : (f : Form) (l : List Token) (x : Exp) → Phrase f l x → ends l ≡ 0
phrase_ends form.Whole l x s = whole_ends s
phrase_ends form.Mul l x s = whole_ends s
phrase_ends form.Postfix l x (ending, s) = postfixed_ends s
