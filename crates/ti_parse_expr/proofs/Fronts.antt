-- Lemmas on the tokens that can begin an expression.
use Rattle.std.proofs.Common.{◌≡◌, ℕ, List, [], ◌∷◌, ◌++◌, Some, refl, ap, ◌∙◌, append_assoc, true, false, Bool}
use Rattle.ti_syntax.specs.declared.token.Token.{Token}
use Rattle.ti_syntax.specs.declared.token.TokenKind.{TokenKind}
use Rattle.ti_syntax.specs.declared.token.TokenKind.TheVariants as k
use Rattle.ti_syntax.specs.declared.tree.exprs.UnaryOperator.{UnaryOperator}
use Rattle.ti_syntax.specs.Trees.Expressions.{Exp}
use Rattle.ti_syntax.specs.Tokens.{same_kind}
use Rattle.ti_syntax.specs.Spelling.Operators.{prefix_of}
use Rattle.ti_syntax.specs.Spelling.Expressions.{Ending, Whole, Prefixed, Postfixed, Args, Listed, Ranges, Range}
use Rattle.ti_syntax.specs.Spelling.Expressions as grammar
use Rattle.ti_parse_expr.specs.Mirrors.Input.{kind, next_is}
use Rattle.ti_parse_expr.specs.Mirrors.Exprs.{begins_type, is_dim_token}

abbrev pub begins : TokenKind → Bool
begins k.Minus = true
begins k.Plus = true
begins k.Exclamation = true
begins k.Tilde = true
begins k.LeftParen = true
begins k.LeftBracket = true
begins (k.Int n) = true
begins (k.LongInt n) = true
begins k.KeywordTrue = true
begins k.KeywordFalse = true
begins k.KeywordNull = true
begins k.KeywordThis = true
begins (k.Name name) = true
begins k.KeywordTi = true
begins _ = false

prefix_begins : (q : TokenKind) (op : UnaryOperator) → prefix_of q ≡ Some op → begins q ≡ true
prefix_begins k.Minus op h = refl
prefix_begins k.Plus op h = refl
prefix_begins k.Exclamation op h = refl
prefix_begins k.Tilde op h = refl
prefix_begins _ op h = cc

pub front_postfixed : {ending : Ending} {l : List Token} {x : Exp} → Postfixed ending l x → (r : List Token) → begins (kind (l ++ r)) ≡ true
front_postfixed (grammar.int t h) r = ap begins h
front_postfixed (grammar.long t h) r = ap begins h
front_postfixed (grammar.truth t h) r = ap begins h
front_postfixed (grammar.falsehood t h) r = ap begins h
front_postfixed (grammar.null t h) r = ap begins h
front_postfixed (grammar.this t h) r = ap begins h
front_postfixed (grammar.name t h) r = ap begins h
front_postfixed (grammar.call t o c h h2 s h3) r = ap begins h
front_postfixed (grammar.group o c h s h2) r = ap begins h
front_postfixed (grammar.rect o c h s few h2) r = ap begins h
front_postfixed (grammar.point o c h s few h2) r = ap begins h
front_postfixed (grammar.this_proc t d n o c h h2 h3 h4 h5) r = ap begins h
front_postfixed (grammar.num_procs t d n o c h h2 h3 h4 h5) r = ap begins h
front_postfixed (grammar.select {l = l} d t s h h2) r = ap (λ z. begins (kind z)) (append_assoc l (d ∷ t ∷ []) r) ∙ front_postfixed s (d ∷ t ∷ r)
front_postfixed (grammar.member {l = l} {m = m} d t o c s h h2 h3 q h4) r =
    ap (λ z. begins (kind z)) (append_assoc l (d ∷ t ∷ o ∷ (m ++ c ∷ [])) r) ∙ front_postfixed s (d ∷ t ∷ o ∷ ((m ++ c ∷ []) ++ r))
front_postfixed (grammar.index {l = l} {m = m} o c s h q few h2) r = ap (λ z. begins (kind z)) (append_assoc l (o ∷ (m ++ c ∷ [])) r) ∙ front_postfixed s (o ∷ ((m ++ c ∷ []) ++ r))

pub front_prefixed : {l : List Token} {x : Exp} → Prefixed l x → (r : List Token) → begins (kind (l ++ r)) ≡ true
front_prefixed (grammar.unary t {op = op} h s) r = prefix_begins t.kind op h
front_prefixed (grammar.cast o c h s h2 q) r = ap begins h
front_prefixed (grammar.postfixed s) r = front_postfixed s r

pub front_whole : {n : ℕ} {l : List Token} {x : Exp} → Whole n l x → (r : List Token) → begins (kind (l ++ r)) ≡ true
front_whole (grammar.operand p) r = front_prefixed p r
front_whole (grammar.operation {a = a} {b = b} t is above s q) r = ap (λ z. begins (kind z)) (append_assoc a (t ∷ b) r) ∙ front_whole s (t ∷ (b ++ r))

pub not_close : (q : TokenKind) → begins q ≡ true → same_kind q k.RightParen ≡ false
not_close k.RightParen h = cc
not_close _ h = refl

pub not_type : (q : TokenKind) → begins q ≡ true → begins_type q ≡ false
not_type k.KeywordInt h = cc
not_type k.KeywordLong h = cc
not_type k.KeywordBoolean h = cc
not_type k.KeywordPoint h = cc
not_type k.KeywordRectDomain h = cc
not_type _ h = refl

pub not_dim : (q : TokenKind) → begins q ≡ true → is_dim_token q ≡ false
not_dim (k.Dim n) h = cc
not_dim _ h = refl

pub listed_opens : {l : List Token} {xs : List Exp} → Listed l xs → (r : List Token) → next_is k.RightParen (l ++ r) ≡ false
listed_opens (grammar.last {l = l} s) r = not_close (kind (l ++ r)) (front_whole s r)
listed_opens (grammar.more {l = l} {m = m} t s h q) r = not_close (kind ((l ++ t ∷ m) ++ r)) (ap (λ z. begins (kind z)) (append_assoc l (t ∷ m) r) ∙ front_whole s (t ∷ (m ++ r)))
