-- After a phrase, the next token is proved either to continue the phrase or to leave it complete.
use Rattle.std.proofs.Common.{◌≡◌, ◌⊎◌, inl, inr, ℕ, ◌+◌, ◌<◌, ◌≤◌, List, [], ◌∷◌, ◌++◌, length, Option, Some, None, pos, refl, sym, ap, ◌∙◌, subst, append_assoc, arith, true, false, Bool, nat_lt}
use borrow.Author.Tests.{ltb-true, ltb-false}
use Rattle.ti_syntax.specs.declared.token.Token.{Token}
use Rattle.ti_syntax.specs.declared.token.TokenKind.{TokenKind}
use Rattle.ti_syntax.specs.declared.token.TokenKind.TheVariants as k
use Rattle.ti_syntax.specs.declared.tree.exprs.BinaryOperator.{BinaryOperator}
use Rattle.ti_syntax.specs.Trees.Expressions.{Exp}
use Rattle.ti_syntax.specs.Trees.Expressions as e
use Rattle.ti_syntax.specs.Tokens.{same_kind}
use Rattle.ti_syntax.specs.Spelling.Operators.{infix_of, strength}
use Rattle.ti_syntax.specs.Spelling.Expressions.{Ending, Target, Call, Other, Whole, Prefixed, Postfixed}
use Rattle.ti_syntax.specs.Spelling.Expressions as grammar
use Rattle.ti_parse_expr.proofs.TokenKinds.{paren_is}
use Rattle.ti_parse_expr.proofs.Law.{BeginsIn, token}
use Rattle.ti_parse_expr.proofs.Sound.{whole_int}
use Rattle.ti_parse_expr.proofs.Phrases.{bound, binds, prefixed_some, whole_some}
use Rattle.ti_parse_expr.proofs.Follows.{goes, is_name, last_kind, last_append, Stops}

-- some Postfix
abbrev pub AnyPostfix : List Token → Exp → Type 0
AnyPostfix l x = (ending : Ending) × Postfixed ending l x

last_cons : (t : Token) (l : List Token) → 0 < length l → last_kind (t ∷ l) ≡ last_kind l
last_cons t [] some = absurd (omega (arith, some))
last_cons t (u ∷ l) some = refl

-- ---- a token that goes on with an operand, where its last tokens are so

module _ (t : Token) (C : List Token → Type 0) (suffix : (a : List Token) (u : Token) (l : List Token) → 0 < length l → C (a ++ u ∷ l) → C l)
    (post : (ending : Ending) (l : List Token) (x : Exp) → Postfixed ending l x → C l → BeginsIn AnyPostfix (l ++ t ∷ [])) where
  prefixed_goes : {l : List Token} {x : Exp} → Prefixed l x → C l → BeginsIn Prefixed (l ++ t ∷ [])
  prefixed_goes (grammar.unary {l = l} u {op = op} h s) c =
      let (w, y, p) = prefixed_goes s (suffix [] u l (prefixed_some s) c) in (w, e.Unary u.place op y, grammar.unary u h p)
  prefixed_goes (grammar.cast {l = l} {m = m} {ty = ty} o u h s h2 q) c =
      let (w, y, p) = prefixed_goes q (suffix (o ∷ l) u m (prefixed_some q) c) in (
        w,
        e.Cast o.place ty y,
        subst (λ z. Prefixed (o ∷ z) (e.Cast o.place ty y))
            (sym (ap (λ z. z ++ w) (append_assoc l (u ∷ m) (t ∷ [])) ∙ append_assoc l (u ∷ (m ++ t ∷ [])) w)) (grammar.cast o u h s h2 p),
      )
  prefixed_goes (grammar.postfixed {ending = ending} {l = l} {x = x} s) c = let (w, y, (other, p)) = post ending l x s c in (w, y, grammar.postfixed p)

  whole_goes : {n : ℕ} {l : List Token} {x : Exp} → Whole n l x → C l → BeginsIn (Whole n) (l ++ t ∷ [])
  whole_goes (grammar.operand p) c = let (w, y, q) = prefixed_goes p c in (w, y, grammar.operand q)
  whole_goes {n = n} (grammar.operation {a = a} {b = b} u {op = op} {x = x} is up s q) c =
      let (w, y, p) = whole_goes q (suffix a u b (whole_some q) c) in (
        w,
        e.Binary u.place op x y,
        subst (λ z. Whole n z (e.Binary u.place op x y))
            (sym (ap (λ z. z ++ w) (append_assoc a (u ∷ b) (t ∷ [])) ∙ append_assoc a (u ∷ (b ++ t ∷ [])) w))
            (grammar.operation u is up s p),
      )

-- ---- a dot and a bracket go on with any operand

abbrev Any : List Token → Type 0
Any l = Unit {0}

dot_post : (t : Token) → t.kind ≡ k.Dot → (ending : Ending) (l : List Token) (x : Exp) → Postfixed ending l x → BeginsIn AnyPostfix (l ++ t ∷ [])
dot_post t h ending l x s =
    let n = token (k.Name []) in
    (n ∷ [], e.Select n.place x [], (Target, subst (λ z. Postfixed Target z (e.Select n.place x [])) (sym (append_assoc l (t ∷ []) (n ∷ []))) (grammar.select t n s h refl)))

bracket_post : (t : Token) → t.kind ≡ k.LeftBracket → (ending : Ending) (l : List Token) (x : Exp) → Postfixed ending l x → BeginsIn AnyPostfix (l ++ t ∷ [])
bracket_post t h ending l x s =
    let i = token (k.Int (pos 0)) in
    let c = token k.RightBracket in
    let xs : List Exp = e.Int i.place (pos 0) ∷ [] in (
      i ∷ c ∷ [],
      e.index t.place x xs,
      (
        Target,
        subst (λ z. Postfixed Target z (e.index t.place x xs))
            (sym (append_assoc l (t ∷ []) (i ∷ c ∷ []))) (grammar.index t c s h (grammar.last (whole_int 1)) (omega arith) refl),
      ),
    )

goes_post : (t : Token) (q : TokenKind) → t.kind ≡ q → goes q ≡ true → (ending : Ending) (l : List Token) (x : Exp) → Postfixed ending l x → BeginsIn AnyPostfix (l ++ t ∷ [])
goes_post t k.Dot h g ending l x s = dot_post t h ending l x s
goes_post t k.LeftBracket h g ending l x s = bracket_post t h ending l x s
goes_post t _ h g ending l x s = cc

-- ---- a parenthesis goes on with a name

abbrev Named : List Token → Type 0
Named l = is_name (last_kind l) ≡ true

named_suffix : (a : List Token) (u : Token) (l : List Token) → 0 < length l → Named (a ++ u ∷ l) → Named l
named_suffix a u l some h = ap is_name (sym (last_append a u l ∙ last_cons u l some)) ∙ h

-- what ends with another token than a name
unnamed : (a : List Token) (c : Token) (q : TokenKind) → c.kind ≡ q → is_name q ≡ false → Named (a ++ c ∷ []) → ⊥
unnamed a c q h other named = let wrong : true ≡ false = sym named ∙ ap is_name (last_append a c [] ∙ h) ∙ other in cc

single_unnamed : (c : Token) (q : TokenKind) → c.kind ≡ q → is_name q ≡ false → is_name c.kind ≡ true → ⊥
single_unnamed c q h other named = let wrong : true ≡ false = sym named ∙ ap is_name h ∙ other in cc

call_post : (t : Token) → t.kind ≡ k.LeftParen → (ending : Ending) (l : List Token) (x : Exp) → Postfixed ending l x → Named l → BeginsIn AnyPostfix (l ++ t ∷ [])
call_post t h _ _ _ (grammar.int u {n = n} h2) named = absurd (single_unnamed u (k.Int n) h2 refl named)
call_post t h _ _ _ (grammar.long u {n = n} h2) named = absurd (single_unnamed u (k.LongInt n) h2 refl named)
call_post t h _ _ _ (grammar.truth u h2) named = absurd (single_unnamed u k.KeywordTrue h2 refl named)
call_post t h _ _ _ (grammar.falsehood u h2) named = absurd (single_unnamed u k.KeywordFalse h2 refl named)
call_post t h _ _ _ (grammar.null u h2) named = absurd (single_unnamed u k.KeywordNull h2 refl named)
call_post t h _ _ _ (grammar.this u h2) named = absurd (single_unnamed u k.KeywordThis h2 refl named)
call_post t h _ _ _ (grammar.name u {name = name} h2) named = let c = token k.RightParen in (c ∷ [], e.call u.place name [], (Call, grammar.call u t c h2 h grammar.none refl))
call_post t h _ _ _ (grammar.call {l = l} u o c h2 h3 s h4) named = absurd (unnamed (u ∷ o ∷ l) c k.RightParen h4 refl named)
call_post t h _ _ _ (grammar.group {l = l} o c h2 s h3) named = absurd (unnamed (o ∷ l) c k.RightParen h3 refl named)
call_post t h _ _ _ (grammar.rect {l = l} o c h2 s few h3) named = absurd (unnamed (o ∷ l) c k.RightBracket h3 refl named)
call_post t h _ _ _ (grammar.point {l = l} o c h2 s few h3) named = absurd (unnamed (o ∷ l) c k.RightBracket h3 refl named)
call_post t h _ _ _ (grammar.this_proc u d n o c h2 h3 h4 h5 h6) named = absurd (unnamed (u ∷ d ∷ n ∷ o ∷ []) c k.RightParen h6 refl named)
call_post t h _ _ _ (grammar.num_procs u d n o c h2 h3 h4 h5 h6) named = absurd (unnamed (u ∷ d ∷ n ∷ o ∷ []) c k.RightParen h6 refl named)
call_post t h _ _ _ (grammar.select {l = l} d u {name = name} {x = x} s h2 h3) named =
    let c = token k.RightParen in (
      c ∷ [],
      e.member u.place x name [],
      (
        Call,
        subst (λ z. Postfixed Call z (e.member u.place x name []))
            (sym (ap (λ z. z ++ c ∷ []) (append_assoc l (d ∷ u ∷ []) (t ∷ [])) ∙ append_assoc l (d ∷ u ∷ t ∷ []) (c ∷ [])))
            (grammar.member d u t c s h2 h3 h grammar.none refl),
      ),
    )
call_post t h _ _ _ (grammar.member {l = l} {m = m} d u o c s h2 h3 h4 q h5) named =
    absurd (unnamed (l ++ d ∷ u ∷ o ∷ m) c k.RightParen h5 refl (subst Named (sym (append_assoc l (d ∷ u ∷ o ∷ m) (c ∷ []))) named))
call_post t h _ _ _ (grammar.index {l = l} {m = m} o c s h2 q few h3) named = absurd (unnamed (l ++ o ∷ m) c k.RightBracket h3 refl (subst Named (sym (append_assoc l (o ∷ m) (c ∷ []))) named))

-- ---- an operator goes on with an expression of its level or a looser one

operator_behind : (n : ℕ) (l : List Token) (x : Exp) (t : Token) (op : BinaryOperator) → infix_of t.kind ≡ Some op → n ≤ strength op → Whole (strength op) l x → BeginsIn (Whole n) (l ++ t ∷ [])
operator_behind n l x t op is le s =
    let i = token (k.Int (pos 0)) in
    let y : Exp = e.Int i.place (pos 0) in
    (i ∷ [], e.Binary t.place op x y, subst (λ z. Whole n z (e.Binary t.place op x y)) (sym (append_assoc l (t ∷ []) (i ∷ []))) (grammar.operation t is le s (whole_int (strength op + 1))))

operator_by : (n : ℕ) (a b : List Token) (x y : Exp) (u t : Token) (op2 op : BinaryOperator) → infix_of u.kind ≡ Some op2 → n ≤ strength op2
    → Whole (strength op2) a x → Whole (strength op2 + 1) b y → infix_of t.kind ≡ Some op → n ≤ strength op
    → (strength op2 + 1 ≤ strength op → BeginsIn (Whole (strength op2 + 1)) (b ++ t ∷ [])) → (test : Bool) → nat_lt (strength op2) (strength op) ≡ test → BeginsIn (Whole n) ((a ++ u ∷ b) ++ t ∷ [])
operator_by n a b x y u t op2 op is2 up s q is le rec true h =
    let tighter : strength op2 < strength op = ltb-true (strength op2) (strength op) h in
    let (w, z, p) = rec (omega arith) in (
      w,
      e.Binary u.place op2 x z,
      subst (λ v. Whole n v (e.Binary u.place op2 x z))
          (sym (ap (λ v. v ++ w) (append_assoc a (u ∷ b) (t ∷ [])) ∙ append_assoc a (u ∷ (b ++ t ∷ [])) w))
          (grammar.operation u is2 up s p),
    )
operator_by n a b x y u t op2 op is2 up s q is le rec false h =
    let looser : strength op ≤ strength op2 = ltb-false (strength op2) (strength op) h in
    operator_behind n (a ++ u ∷ b) (e.Binary u.place op2 x y) t op is le (grammar.operation u is2 looser s q)

operator_goes : {n : ℕ} {l : List Token} {x : Exp} → Whole n l x → (t : Token) (op : BinaryOperator) → infix_of t.kind ≡ Some op → n ≤ strength op → BeginsIn (Whole n) (l ++ t ∷ [])
operator_goes {n = n} (grammar.operand {l = l} {x = x} p) t op is le = operator_behind n l x t op is le (grammar.operand p)
operator_goes {n = n} (grammar.operation {a = a} {b = b} u {op = op2} {x = x} {y = y} is2 up s q) t op is le =
    operator_by n a b x y u t op2 op is2 up s q is le (λ more. operator_goes q t op is more) (nat_lt (strength op2) (strength op)) refl

-- ---- one of the two

-- what stands behind an operand doesn't go on with it
pub record Halts (l : List Token) (t : Token) : Type 0 where
  pub operand : goes t.kind ≡ false
  pub call : is_name (last_kind l) ≡ true → same_kind t.kind k.LeftParen ≡ false

halts_if : {A : Type 0} (l : List Token) (t : Token) → (goes t.kind ≡ true → A) → (t.kind ≡ k.LeftParen → Named l → A) → (g c n : Bool)
    → goes t.kind ≡ g → same_kind t.kind k.LeftParen ≡ c → is_name (last_kind l) ≡ n → Halts l t ⊎ A
halts_if l t on_goes on_call true c n h h2 h3 = inr (on_goes h)
halts_if l t on_goes on_call false true true h h2 h3 = inr (on_call (paren_is t.kind h2) h3)
halts_if l t on_goes on_call false true false h h2 h3 = inl (record { operand = h; call = λ named. let wrong : true ≡ false = sym named ∙ h3 in cc })
halts_if l t on_goes on_call false false n h h2 h3 = inl (record { operand = h; call = λ _. h2 })

pub postfix_goes : (ending : Ending) (l : List Token) (x : Exp) → Postfixed ending l x → (t : Token) → Halts l t ⊎ BeginsIn AnyPostfix (l ++ t ∷ [])
postfix_goes ending l x s t =
    halts_if l t (λ g. goes_post t t.kind refl g ending l x s) (λ h named. call_post t h ending l x s named) (goes t.kind) (same_kind t.kind k.LeftParen) (is_name (last_kind l)) refl refl refl

whole_halts : {n : ℕ} {l : List Token} {x : Exp} → Whole n l x → (t : Token) → Halts l t ⊎ BeginsIn (Whole n) (l ++ t ∷ [])
whole_halts {l = l} s t =
    halts_if l t (λ g. whole_goes t Any (λ a u l some _. tt) (λ ending l x p _. goes_post t t.kind refl g ending l x p) s tt)
    (λ h named. whole_goes t Named named_suffix (λ ending l x p named. call_post t h ending l x p named) s named) (goes t.kind) (same_kind t.kind k.LeftParen) (is_name (last_kind l)) refl refl refl

stops_if : {n : ℕ} {l : List Token} {x : Exp} → Whole n l x → (t : Token) (r : List Token) → Halts l t → (op : BinaryOperator)
    → infix_of t.kind ≡ Some op → (test : Bool) → nat_lt (strength op) n ≡ test → Stops n l (t ∷ r) ⊎ BeginsIn (Whole n) (l ++ t ∷ [])
stops_if {n = n} s t r halts op is true h =
    let looser : strength op < n = ltb-true (strength op) n h in
    let same : binds t.kind ≡ strength op = ap bound is in
    inl (record { operand = halts.operand; call = halts.call; operators = omega arith })
stops_if {n = n} s t r halts op is false h = inr (operator_goes s t op is (ltb-false (strength op) n h))

stops_by : {n : ℕ} {l : List Token} {x : Exp} → 1 ≤ n → Whole n l x → (t : Token) (r : List Token) → Halts l t → (q : Option BinaryOperator)
    → infix_of t.kind ≡ q → Stops n l (t ∷ r) ⊎ BeginsIn (Whole n) (l ++ t ∷ [])
stops_by one s t r halts None is = let none : binds t.kind ≡ 0 = ap bound is in inl (record { operand = halts.operand; call = halts.call; operators = omega arith })
stops_by {n = n} one s t r halts (Some op) is = stops_if s t r halts op is (nat_lt (strength op) n) refl

stops_of : {n : ℕ} {l : List Token} {x : Exp} → 1 ≤ n → Whole n l x → (t : Token) (r : List Token) → Halts l t ⊎ BeginsIn (Whole n) (l ++ t ∷ []) → Stops n l (t ∷ r) ⊎ BeginsIn (Whole n) (l ++ t ∷ [])
stops_of one s t r (inl halts) = stops_by one s t r halts (infix_of t.kind) refl
stops_of one s t r (inr b) = inr b

-- an expression of a level can end before a token, or it goes on with it
pub whole_stops : {n : ℕ} {l : List Token} {x : Exp} → 1 ≤ n → Whole n l x → (t : Token) (r : List Token) → Stops n l (t ∷ r) ⊎ BeginsIn (Whole n) (l ++ t ∷ [])
whole_stops one s t r = stops_of one s t r (whole_halts s t)
