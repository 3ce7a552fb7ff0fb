-- The expression parser is proved sound; at errors the tokens before are proved a viable prefix, and the fuel is proved sufficient.
use Rattle.std.proofs.Common.{◌≡◌, ℕ, zero, suc, pos, ◌+◌, ◌<◌, ◌≤◌, List, [], ◌∷◌, ◌++◌, length, Option, Some, None, is_some, Ok, Err, refl, sym, ap, ◌∙◌, subst, append_assoc, arith, length-append, true, false, Bool, nat_lt, if◌then◌else◌, codes}
use borrow.Author.Tests.{ltb-true, ltb-false}
use Rattle.ti_base.specs.declared.place.Place.{Place}
use Rattle.ti_syntax.specs.declared.token.Token.{Token}
use Rattle.ti_syntax.specs.declared.token.TokenKind.{TokenKind}
use Rattle.ti_syntax.specs.declared.token.TokenKind.TheVariants as k
use Rattle.ti_syntax.specs.declared.tree.types.Base.{Base}
use Rattle.ti_syntax.specs.declared.tree.types.Base.TheVariants as b
use Rattle.ti_syntax.specs.declared.tree.exprs.UnaryOperator.{UnaryOperator}
use Rattle.ti_syntax.specs.declared.tree.exprs.BinaryOperator.{BinaryOperator}
use Rattle.ti_syntax.specs.declared.tree.types.QualifierWord.{QualifierWord}
use Rattle.ti_syntax.specs.Trees.Types.{GridTree, TypeTree}
use Rattle.ti_syntax.specs.Trees.Expressions.{Exp, RangeTree}
use Rattle.ti_syntax.specs.Trees.Expressions as e
use Rattle.ti_syntax.specs.Tokens.{same_kind}
use Rattle.ti_syntax.specs.Spelling.Operators.{prefix_of, infix_of, strength, qualifier_of}
use Rattle.ti_syntax.specs.Spelling.Types.{Based, FieldType, CastType, Gridded, is_name_alone}
use Rattle.ti_syntax.specs.Spelling.Types as types
use Rattle.ti_syntax.specs.Spelling.Expressions.{Ending, Target, Call, Other, Whole, Prefixed, Postfixed, Args, Listed, Ranges, Range}
use Rattle.ti_syntax.specs.Spelling.Expressions as grammar
use Rattle.ti_parse_expr.specs.Mirrors.Input.{At, ParseOutcome, Parser, and_then, kind, after_next, next_is, spells, expect, take_token, name_of_kind}
use Rattle.ti_parse_expr.specs.Mirrors.Types.{base as type_base, grid, grids, field_type}
use Rattle.ti_parse_expr.specs.Mirrors.Exprs as spec
use Rattle.ti_parse_expr.specs.Mirrors.Exprs.{Operand, begins_type, is_dim_token, more_args, args, more_parts, parts_from, parts, range_from}
use Rattle.ti_parse_expr.specs.Mirrors.Exprs.{more_ranges, ranges_from, bracket, process_name, process, name_or_call, member, index, postfix}
use Rattle.ti_parse_expr.specs.Mirrors.Exprs.{group, operand, operation, climb, cast, cast_from, cast_from_grid, group_from}
use Rattle.ti_parse_expr.specs.Mirrors.Exprs.{paren_name_bracket, paren_name, paren, unary, prefix, level, expr}
use Rattle.ti_parse_expr.proofs.TokenKinds.{comma_is, paren_is, close_is, shut_is, dot_is, colon_is}
use Rattle.ti_parse_expr.proofs.Law.{BeginsIn, Said, Any, then_said, after_said, as_said, done_said, want_said, last_said, refused_said, spent_said, if_said, append_nil, ended, token}
use Rattle.ti_parse_expr.proofs.SoundTypes.{grid_says, grids_say, field_type_says, any_qualifiers, qualified_says, reserved_says, is_named, reserved_not_alone, qualified_not_alone, gridded_not_alone, gridded_append, MoreGrids, GridRest}
use Rattle.ti_parse_expr.proofs.Phrases.{bound, binds, binds_small, strength_small, strength_some, spells_is, Post, ArgsClosed, args_closed}
use Rattle.ti_parse_expr.proofs.Phrases.{PartsClosed, parts_closed, RangesClosed, ranges_closed, call_made, member_made, index_made}
use Rattle.ti_parse_expr.proofs.Phrases.{point_made, rect_made, listed_snoc, ranges_snoc, weaken, whole_prefixed, prefixed_some}

-- ---- each list that is left can be gone on with

abbrev int_zero : Token
int_zero = token (k.Int (pos 0))

postfixed_int : Postfixed Other (int_zero ∷ []) (e.Int int_zero.place (pos 0))
postfixed_int = grammar.int int_zero refl

pub whole_int : (n : ℕ) → Whole n (int_zero ∷ []) (e.Int int_zero.place (pos 0))
whole_int n = grammar.operand (grammar.postfixed postfixed_int)

-- ---- the rules, where expressions are read so

abbrev pub Below : ℕ → List Token → Type 0
Below least r = binds (kind r) < least

-- the arguments found, and more
abbrev More : List Exp → List Token → List Exp → Type 0
More found f r = (ys : List Exp) × (r ≡ found ++ ys) × Listed f ys

last_arg : (found : List Exp) (x : Exp) (a : List Token) → Whole 1 a x → More found (a ++ []) (found ++ x ∷ [])
last_arg found x a s = (x ∷ [], refl, subst (λ z. Listed z (x ∷ [])) (sym (append_nil a)) (grammar.last s))

-- some list of expressions so far, and the most that there may be
abbrev Few : ℕ → List Token → List Exp → Type 0
Few n f xs = Listed f xs × (length xs ≤ n)

abbrev FewRanges : ℕ → List Token → List RangeTree → Type 0
FewRanges n f rs = Ranges f rs × (length rs ≤ n)

snoc_length : {A : Type 0} (xs : List A) (x : A) (n m : ℕ) → length xs + suc n ≤ m → length (xs ++ x ∷ []) + n ≤ m
snoc_length xs x n m h = omega (arith, length-append xs (x ∷ []), h)

fits : {A : Type 0} (xs : List A) (n m : ℕ) → length xs + n ≤ m → length xs ≤ m
fits xs n m h = omega (arith, h)

-- ---- `Ti.thisProc()` and `Ti.numProcs()`

abbrev process_tree : Place → Bool → Exp
process_tree at is_this = if is_this then e.ThisProc at else e.NumProcs at

abbrev process_word : Bool → List ℕ
process_word is_this = if is_this then codes "thisProc" else codes "numProcs"

process_made : (t d n o c : Token) (is_this : Bool) → t.kind ≡ k.KeywordTi → d.kind ≡ k.Dot → n.kind ≡ k.Name (process_word is_this) → o.kind ≡ k.LeftParen → c.kind ≡ k.RightParen
    → Postfixed Other (t ∷ d ∷ n ∷ o ∷ c ∷ []) (process_tree t.place is_this)
process_made t d n o c true ht hd hn ho hc = grammar.this_proc t d n o c ht hd hn ho hc
process_made t d n o c false ht hd hn ho hc = grammar.num_procs t d n o c ht hd hn ho hc

process_begins : (t d : Token) → t.kind ≡ k.KeywordTi → d.kind ≡ k.Dot → BeginsIn (λ f x. Postfixed Other (t ∷ d ∷ f) x) []
process_begins t d ht hd = (
  token (k.Name (codes "thisProc")) ∷ token k.LeftParen ∷ token k.RightParen ∷ [],
  e.ThisProc t.place,
  process_made t d (token (k.Name (codes "thisProc"))) (token k.LeftParen) (token k.RightParen) true ht hd refl refl refl,
)

process_behind : (t d n : Token) (is_this : Bool) → t.kind ≡ k.KeywordTi → d.kind ≡ k.Dot → n.kind ≡ k.Name (process_word is_this) → BeginsIn (λ f x. Postfixed Other (t ∷ d ∷ n ∷ f) x) []
process_behind t d n is_this ht hd hn = (
  token k.LeftParen ∷ token k.RightParen ∷ [],
  process_tree t.place is_this,
  process_made t d n (token k.LeftParen) (token k.RightParen) is_this ht hd hn refl refl,
)

abbrev rest_of_process : Place → Bool → Parser Exp
rest_of_process at is_this i = and_then (expect k.LeftParen i) (λ _ i. and_then (expect k.RightParen i) (λ _ j. Ok (process_tree at is_this, j)))

process_ends : {m : ℕ} (t d n : Token) (is_this : Bool) → t.kind ≡ k.KeywordTi → d.kind ≡ k.Dot → n.kind ≡ k.Name (process_word is_this) → (l : List Token)
    → Said m (λ f x. Postfixed Other (t ∷ d ∷ n ∷ f) x) Any l (rest_of_process t.place is_this l)
process_ends {m = m} t d n is_this ht hd hn l =
    want_said {m = m} k.LeftParen paren_is refl (omega arith) (
      token k.RightParen ∷ [],
      process_tree t.place is_this,
      process_made t d n (token k.LeftParen) (token k.RightParen) is_this ht hd hn refl refl,
    ) _
    (λ o ts ho. last_said k.RightParen close_is refl (process_tree t.place is_this) (λ c hc. process_made t d n o c is_this ht hd hn ho hc))

process_named_by : {m : ℕ} (t d n : Token) (ts : List Token) → t.kind ≡ k.KeywordTi → d.kind ≡ k.Dot → (is_this is_num : Bool)
    → spells (codes "thisProc") n.kind ≡ is_this → spells (codes "numProcs") n.kind ≡ is_num
    → Said m (λ f x. Postfixed Other (t ∷ d ∷ f) x) Any (n ∷ ts)
    (and_then (if◌then◌else◌ {A = Parser Bool} is_this (λ i. and_then (take_token i) (λ _ j. Ok (true, j)))
    (if◌then◌else◌ {A = Parser Bool} is_num (λ i. and_then (take_token i) (λ _ j. Ok (false, j))) (λ i. Err (At i))) (n ∷ ts))
    (rest_of_process t.place))
process_named_by {m = m} t d n ts ht hd true is_num h h2 = after_said {m = m} (omega arith) (process_ends t d n true ht hd (spells_is (codes "thisProc") n.kind h) ts)
process_named_by {m = m} t d n ts ht hd false true h h2 = after_said {m = m} (omega arith) (process_ends t d n false ht hd (spells_is (codes "numProcs") n.kind h2) ts)
process_named_by t d n ts ht hd false false h h2 = refused_said (process_begins t d ht hd)

process_named : {m : ℕ} (t d : Token) → t.kind ≡ k.KeywordTi → d.kind ≡ k.Dot → (l : List Token)
    → Said m (λ f x. Postfixed Other (t ∷ d ∷ f) x) Any l (and_then (process_name l) (rest_of_process t.place))
unfolding process_name
process_named t d ht hd [] = refused_said (process_begins t d ht hd)
process_named t d ht hd (n ∷ ts) = process_named_by t d n ts ht hd (spells (codes "thisProc") n.kind) (spells (codes "numProcs") n.kind) refl refl

process_says : {m : ℕ} (t : Token) → t.kind ≡ k.KeywordTi → (l : List Token) → Said m (λ f x. Postfixed Other (t ∷ f) x) Any l (process t.place l)
unfolding process
process_says {m = m} t ht l =
    let (w, x, s) = process_begins t (token k.Dot) ht refl in
    want_said {m = m} k.Dot dot_is refl (omega arith) (w, x, s) _ (λ d ts hd. process_named t d ht hd ts)

module _ (fuel : ℕ) (expr : ℕ → Parser Exp)
    (expr_says : (least : ℕ) → 1 ≤ least → least ≤ 11 → (l : List Token) → Said fuel (Whole least) (Below least) l (expr least l)) where
  -- a whole expression, whatever follows it
  inner_says : (m : ℕ) → m ≤ fuel → (l : List Token) → Said m (Whole 1) Any l (expr 1 l)
  inner_says m le l = as_said le (λ g y s. s) (λ _ _. tt) (expr_says 1 (omega arith) (omega arith) l)

  -- ---- arguments

  after_arg : (m : ℕ) (found : List Exp) (rec : (x : Exp) (l : List Token) → Said m (More (found ++ x ∷ [])) Any l (more_args fuel expr m (found ++ x ∷ []) l))
      (a : List Token) (x : Exp) → Whole 1 a x → (r : List Token)
      → Said (suc m) (λ g y. More found (a ++ g) y) Any r (if◌then◌else◌ {A = Parser (List Exp)} (next_is k.Comma r)
      (λ i. more_args fuel expr m (found ++ x ∷ []) (after_next i)) (λ i. Ok (found ++ x ∷ [], i)) r)
  after_arg m found rec a x w [] = done_said (last_arg found x a w) tt
  after_arg m found rec a x w (t ∷ ts) =
      if_said (same_kind t.kind k.Comma) _ _
      (λ h. after_said {m = m} (omega arith) (as_said {m = m} (omega arith)
      (λ g y (ys, is, s). (x ∷ ys, is ∙ append_assoc found (x ∷ []) ys, grammar.more t w (comma_is t.kind h) s)) (λ _ _. tt)
      (rec x ts)))
      (λ _. done_said (last_arg found x a w) tt)

  more_args_says : (m : ℕ) → m ≤ fuel → (found : List Exp) (l : List Token) → Said m (More found) Any l (more_args fuel expr m found l)
  unfolding more_args
  more_args_says zero le found l = spent_said
  more_args_says (suc m) le found l =
      then_said {m = suc m} (λ f x s. omega arith) (λ f x s. ([], found ++ x ∷ [], last_arg found x f s)) _ (inner_says (suc m) le l)
      (λ f r x s _. after_arg m found (λ x. more_args_says m (omega arith) (found ++ x ∷ [])) f x s r)

  -- behind the opening parenthesis
  some_args : (l : List Token) → Said fuel ArgsClosed Any l (and_then (more_args fuel expr fuel [] l) (λ found i. and_then (expect k.RightParen i) (λ _ j. Ok (found, j))))
  some_args l =
      then_said {m = fuel} (λ f x s. omega arith)
      (λ f xs (ys, is, s). (token k.RightParen ∷ [], xs, args_closed (token k.RightParen) (grammar.some (subst (Listed f) (sym is) s)) refl)) _ (more_args_says fuel (omega arith) [] l)
      (λ f r xs (ys, is, s) _. last_said k.RightParen close_is refl xs (λ t h. args_closed t (grammar.some (subst (Listed f) (sym is) s)) h))

  args_says : (l : List Token) → Said fuel ArgsClosed Any l (args fuel expr l)
  unfolding args
  args_says [] = some_args []
  args_says (t ∷ ts) =
      if_said (same_kind t.kind k.RightParen) _ _
      (λ h. after_said {m = fuel} (omega arith) (done_said (args_closed t grammar.none (close_is t.kind h)) tt))
      (λ _. some_args (t ∷ ts))

  -- arguments behind a parenthesis, where each list of them makes a phrase
  call_says : {A : Type 0} (U : List Token → A → Type 0) (make : List Exp → A) (l : List Token) → ((f : List Token) (xs : List Exp) → ArgsClosed f xs → U f (make xs))
      → Said fuel U Any l (and_then (args fuel expr l) (λ xs i. Ok (make xs, i)))
  call_says U make l made =
      then_said {m = fuel} (λ f x s. omega arith) (λ f xs s. ([], make xs, ended U f (make xs) (made f xs s))) _ (args_says l)
      (λ f r xs s _. done_said (ended U f (make xs) (made f xs s)) tt)

  -- ---- parts of brackets

  more_parts_say : (n : ℕ) (a : List Token) (found : List Exp) → Listed a found → length found + n ≤ 3 → (l : List Token)
      → Said fuel (λ f xs. Few 3 (a ++ f) xs) Any l (more_parts fuel expr n found l)
  unfolding more_parts
  more_parts_say zero a found s few l = done_said (ended Listed a found s, fits found 0 3 few) tt
  more_parts_say (suc n) a found s few [] = done_said (ended Listed a found s, fits found (suc n) 3 few) tt
  more_parts_say (suc n) a found s few (t ∷ ts) =
      if_said (same_kind t.kind k.Comma) _ _
      (λ h. after_said {m = fuel} (omega arith)
      (then_said {m = fuel} {Q = Any} (λ f x q. omega arith) (λ f x q. (
        [],
        found ++ x ∷ [],
        (
          ended (λ z y. Listed (a ++ t ∷ z) y) f (found ++ x ∷ []) (listed_snoc t s (comma_is t.kind h) q),
          fits (found ++ x ∷ []) n 3 (snoc_length found x n 3 few),
        ),
      )) _ (inner_says fuel (omega arith) ts)
      (λ f r x q _. as_said {m = fuel} (omega arith) (λ g y (p, some). (subst (λ z. Listed z y) (append_assoc a (t ∷ f) g) p, some)) (λ _ _. tt)
      (more_parts_say n (a ++ t ∷ f) (found ++ x ∷ []) (listed_snoc t s (comma_is t.kind h) q) (snoc_length found x n 3 few) r))))
      (λ _. done_said (ended Listed a found s, fits found (suc n) 3 few) tt)

  -- behind a first one, which the tokens a spell
  parts_from_says : (a : List Token) (first : Exp) → Whole 1 a first → (l : List Token) → Said fuel (λ f xs. PartsClosed (a ++ f) xs) Any l (parts_from fuel expr first l)
  unfolding parts_from
  parts_from_says a first s l =
      then_said {m = fuel} {Q = Any} (λ f x q. omega arith)
      (λ f xs (q, few). (token k.RightBracket ∷ [], xs, subst (λ z. PartsClosed z xs) (append_assoc a f (token k.RightBracket ∷ [])) (parts_closed (token k.RightBracket) q few refl))) _
      (more_parts_say 2 a (first ∷ []) (grammar.last s) (omega arith) l)
      (λ f r xs (q, few) _. last_said k.RightBracket shut_is refl xs (λ c h. subst (λ z. PartsClosed z xs) (append_assoc a f (c ∷ [])) (parts_closed c q few h)))

  parts_begin : (f : List Token) (x : Exp) → Whole 1 f x → BeginsIn PartsClosed f
  parts_begin f x s = (token k.RightBracket ∷ [], x ∷ [], parts_closed (token k.RightBracket) (grammar.last s) (omega arith) refl)

  parts_say : (l : List Token) → Said fuel PartsClosed Any l (parts fuel expr l)
  unfolding parts
  parts_say l = then_said {m = fuel} {Q = Any} (λ f x q. omega arith) parts_begin _ (inner_says fuel (omega arith) l) (λ f r x s _. parts_from_says f x s r)

  -- ---- ranges

  after_high : (a f : List Token) (c : Token) (low high : Exp) → Whole 1 a low → c.kind ≡ k.Colon → Whole 1 f high → (l : List Token)
      → Said fuel (λ g r. Range (a ++ c ∷ (f ++ g)) r) Any l
      (if◌then◌else◌ {A = Parser RangeTree} (next_is k.Colon l) (λ i. and_then (take_token i) (λ _ i. and_then (expr 1 i) (λ step j. Ok (e.Stepped low high step, j)))) (λ i. Ok (e.Plain low high, i)) l)
  after_high a f c low high s hc q [] = done_said (grammar.plain c s hc (ended (Whole 1) f high q)) tt
  after_high a f c low high s hc q (t ∷ ts) =
      if_said (same_kind t.kind k.Colon) _ _
      (λ h. after_said {m = fuel} (omega arith) (then_said {m = fuel} {Q = Any} (λ g x p. omega arith)
      (λ g x p. ([], e.Stepped low high x, grammar.stepped c t s hc q (colon_is t.kind h) (ended (Whole 1) g x p))) _
      (inner_says fuel (omega arith) ts)
      (λ g r x p _. done_said (grammar.stepped c t s hc q (colon_is t.kind h) (ended (Whole 1) g x p)) tt)))
      (λ _. done_said (grammar.plain c s hc (ended (Whole 1) f high q)) tt)

  -- behind the lower bound
  range_from_says : (a : List Token) (low : Exp) → Whole 1 a low → (l : List Token) → Said fuel (λ f r. Range (a ++ f) r) Any l (range_from fuel expr low l)
  unfolding range_from
  range_from_says a low s l =
      want_said {m = fuel} k.Colon colon_is refl (omega arith) (int_zero ∷ [], e.Plain low (e.Int int_zero.place (pos 0)), grammar.plain (token k.Colon) s refl (whole_int 1)) _
      (λ c ts hc. then_said {m = fuel} {Q = Any} (λ f x q. omega arith) (λ f x q. ([], e.Plain low x, grammar.plain c s hc (ended (Whole 1) f x q))) _ (inner_says fuel (omega arith) ts)
      (λ f r high q _. after_high a f c low high s hc q r))

  range_begin : (f : List Token) (low : Exp) → Whole 1 f low → BeginsIn Range f
  range_begin f low s = (token k.Colon ∷ int_zero ∷ [], e.Plain low (e.Int int_zero.place (pos 0)), grammar.plain (token k.Colon) s refl (whole_int 1))

  more_ranges_say : (n : ℕ) (a : List Token) (found : List RangeTree) → Ranges a found → length found + n ≤ 3 → (l : List Token)
      → Said fuel (λ f rs. FewRanges 3 (a ++ f) rs) Any l (more_ranges fuel expr n found l)
  unfolding more_ranges
  more_ranges_say zero a found s few l = done_said (ended Ranges a found s, fits found 0 3 few) tt
  more_ranges_say (suc n) a found s few [] = done_said (ended Ranges a found s, fits found (suc n) 3 few) tt
  more_ranges_say (suc n) a found s few (t ∷ ts) =
      if_said (same_kind t.kind k.Comma) _ _
      (λ h. after_said {m = fuel} (omega arith)
      (then_said {m = fuel} {Q = Any} (λ f x q. omega arith)
      (λ f x q. let (w, r, p) = range_begin f x q in (
        w,
        found ++ r ∷ [],
        (ranges_snoc t s (comma_is t.kind h) p, fits (found ++ r ∷ []) n 3 (snoc_length found r n 3 few)),
      )) _
      (inner_says fuel (omega arith) ts)
      (λ f r low q _. then_said {m = fuel} {S = λ g x. Range (f ++ g) x} {Q = Any} (λ g x p. omega arith)
      (λ g x p. (
        [],
        found ++ x ∷ [],
        (
          ended (λ z y. Ranges (a ++ t ∷ (f ++ z)) y) g (found ++ x ∷ [])
              (ranges_snoc t s (comma_is t.kind h) p),
          fits (found ++ x ∷ []) n 3 (snoc_length found x n 3 few),
        ),
      )) _
      (range_from_says f low q r)
      (λ g r2 x p _. as_said {m = fuel} (omega arith) (λ v y (p2, some). (subst (λ z. Ranges z y) (append_assoc a (t ∷ (f ++ g)) v ∙ ap (λ z. a ++ t ∷ z) (append_assoc f g v)) p2, some)) (λ _ _. tt)
      (more_ranges_say n (a ++ t ∷ (f ++ g)) (found ++ x ∷ []) (ranges_snoc t s (comma_is t.kind h) p) (snoc_length found x n 3 few) r2)))))
      (λ _. done_said (ended Ranges a found s, fits found (suc n) 3 few) tt)

  -- behind the lower bound of the first one
  ranges_from_say : (a : List Token) (low : Exp) → Whole 1 a low → (l : List Token) → Said fuel (λ f rs. RangesClosed (a ++ f) rs) Any l (ranges_from fuel expr low l)
  unfolding ranges_from
  ranges_from_say a low s l =
      then_said {m = fuel} {S = λ f r. Range (a ++ f) r} {Q = Any} (λ f x q. omega arith)
      (λ f x q. (
        token k.RightBracket ∷ [],
        x ∷ [],
        subst (λ z. RangesClosed z (x ∷ [])) (append_assoc a f (token k.RightBracket ∷ []))
            (ranges_closed (token k.RightBracket) (grammar.last_range q) (omega arith) refl),
      )) _ (range_from_says a low s l)
      (λ f r2 x q _. then_said {m = fuel} {S = λ g rs. FewRanges 3 ((a ++ f) ++ g) rs} {Q = Any} (λ g rs p. omega arith)
      (λ g rs (p, few). (
        token k.RightBracket ∷ [],
        rs,
        subst (λ z. RangesClosed z rs) (append_assoc (a ++ f) g (token k.RightBracket ∷ [])
            ∙ append_assoc a f (g ++ token k.RightBracket ∷ [])) (ranges_closed (token k.RightBracket) p few refl),
      )) _
      (more_ranges_say 2 (a ++ f) (x ∷ []) (grammar.last_range q) (omega arith) r2)
      (λ g r3 rs (p, few) _. last_said k.RightBracket shut_is refl rs
      (λ c h. subst (λ z. RangesClosed z rs) (append_assoc (a ++ f) g (c ∷ []) ∙ append_assoc a f (g ++ c ∷ []))
      (ranges_closed c p few h))))

  -- ---- literals in brackets

  points_say : (o : Token) → o.kind ≡ k.LeftBracket → (a : List Token) (first : Exp) → Whole 1 a first → (l : List Token)
      → Said fuel (λ f x. Postfixed Other (o ∷ (a ++ f)) x) Any l (and_then (parts_from fuel expr first l) (λ xs j. Ok (e.point o.place xs, j)))
  points_say o ho a first s l =
      then_said {m = fuel} {S = λ f xs. PartsClosed (a ++ f) xs} {Q = Any} (λ f x q. omega arith)
      (λ f xs q. ([], e.point o.place xs, ended (λ z y. Postfixed Other (o ∷ (a ++ z)) y) f (e.point o.place xs) (point_made o ho q))) _
      (parts_from_says a first s l)
      (λ f r xs q _. done_said (ended (λ z y. Postfixed Other (o ∷ (a ++ z)) y) f (e.point o.place xs) (point_made o ho q)) tt)

  rects_say : (o : Token) → o.kind ≡ k.LeftBracket → (a : List Token) (first : Exp) → Whole 1 a first → (l : List Token)
      → Said fuel (λ f x. Postfixed Other (o ∷ (a ++ f)) x) Any l (and_then (ranges_from fuel expr first l) (λ rs j. Ok (e.rect o.place rs, j)))
  rects_say o ho a first s l =
      then_said {m = fuel} {S = λ f rs. RangesClosed (a ++ f) rs} {Q = Any} (λ f x q. omega arith)
      (λ f rs q. ([], e.rect o.place rs, ended (λ z y. Postfixed Other (o ∷ (a ++ z)) y) f (e.rect o.place rs) (rect_made o ho q))) _
      (ranges_from_say a first s l)
      (λ f r rs q _. done_said (ended (λ z y. Postfixed Other (o ∷ (a ++ z)) y) f (e.rect o.place rs) (rect_made o ho q)) tt)

  bracket_says : (o : Token) → o.kind ≡ k.LeftBracket → (l : List Token) → Said fuel (λ f x. Postfixed Other (o ∷ f) x) Any l (bracket fuel expr o.place l)
  unfolding bracket
  bracket_says o ho l =
      then_said {m = fuel} {Q = Any} (λ f x q. omega arith) (λ f x s. (
        token k.RightBracket ∷ [],
        e.point o.place (x ∷ []),
        point_made o ho (parts_closed (token k.RightBracket) (grammar.last s) (omega arith) refl),
      )) _
      (inner_says fuel (omega arith) l)
      (λ f r first s _. if_said (next_is k.Colon r) _ _ (λ _. rects_say o ho f first s r) (λ _. points_say o ho f first s r))

  -- ---- what begins with a name

  pub named_says : (t : Token) (name : List ℕ) → t.kind ≡ k.Name name → (l : List Token) → Said fuel (λ f x. Post (t ∷ f) x) Any l (name_or_call fuel expr t.place name l)
  unfolding name_or_call
  named_says t name ht [] = done_said (grammar.name t ht) tt
  named_says t name ht (o ∷ ts) =
      if_said (same_kind o.kind k.LeftParen) _ _
      (λ h. after_said {m = fuel} (omega arith) (call_says (λ f x. Post (t ∷ o ∷ f) x) (λ xs. (e.call t.place name xs, Call)) ts (λ f xs s. call_made t o ht (paren_is o.kind h) s)))
      (λ _. done_said (grammar.name t ht) tt)

  -- ---- what stands behind an operand, which the tokens a spell

  -- after the dot and the name
  member_by : (a : List Token) (left : Operand) → Post a left → (d t : Token) (name : List ℕ) → d.kind ≡ k.Dot → t.kind ≡ k.Name name → (l : List Token)
      → Said fuel (λ f x. Post (a ++ d ∷ t ∷ f) x) Any l
      (if◌then◌else◌ {A = Parser Operand} (next_is k.LeftParen l) (λ i. and_then (take_token i)
      (λ _ i. and_then (args fuel expr i) (λ xs j. Ok ((e.member t.place left.0 name xs, Call), j))))
      (λ i. Ok ((e.Select t.place left.0 name, Target), i)) l)
  member_by a left s d t name hd ht [] = done_said (grammar.select d t s hd ht) tt
  member_by a left s d t name hd ht (o ∷ ts) =
      if_said (same_kind o.kind k.LeftParen) _ _
      (λ h. after_said {m = fuel} (omega arith) (call_says (λ f x. Post (a ++ d ∷ t ∷ o ∷ f) x)
      (λ xs. (e.member t.place left.0 name xs, Call)) ts (λ f xs q. member_made d t o s hd ht (paren_is o.kind h) q)))
      (λ _. done_said (grammar.select d t s hd ht) tt)

  member_begins : (a : List Token) (left : Operand) → Post a left → (d : Token) → d.kind ≡ k.Dot → BeginsIn (λ f x. Post (a ++ d ∷ f) x) []
  member_begins a left s d hd = (token (k.Name []) ∷ [], (e.Select (token (k.Name [])).place left.0 [], Target), grammar.select d (token (k.Name [])) s hd refl)

  member_name : (a : List Token) (left : Operand) → Post a left → (d t : Token) → d.kind ≡ k.Dot → (ts : List Token) (q : TokenKind) → t.kind ≡ q
      → Said fuel (λ f x. Post (a ++ d ∷ f) x) Any (t ∷ ts)
      (and_then (name_of_kind q (t ∷ ts)) (λ name. λ l. if◌then◌else◌ {A = Parser Operand} (next_is k.LeftParen l)
      (λ i. and_then (take_token i) (λ _ i. and_then (args fuel expr i) (λ xs j. Ok ((e.member t.place left.0 name xs, Call), j))))
      (λ i. Ok ((e.Select t.place left.0 name, Target), i)) l))
  member_name a left s d t hd ts (k.Name name) h = after_said {m = fuel} (omega arith) (member_by a left s d t name hd h ts)
  member_name a left s d t hd ts _ h = refused_said (member_begins a left s d hd)

  member_says : (a : List Token) (left : Operand) → Post a left → (d : Token) → d.kind ≡ k.Dot → (l : List Token) → Said fuel (λ f x. Post (a ++ d ∷ f) x) Any l (member fuel expr left.0 l)
  unfolding member
  member_says a left s d hd [] = refused_said (member_begins a left s d hd)
  member_says a left s d hd (t ∷ ts) = member_name a left s d t hd ts t.kind refl

  pub index_says : (a : List Token) (left : Operand) → Post a left → (o : Token) → o.kind ≡ k.LeftBracket → (l : List Token)
      → Said fuel (λ f x. Post (a ++ o ∷ f) x) Any l (index fuel expr o.place left.0 l)
  unfolding index
  index_says a left s o ho l =
      then_said {m = fuel} {S = PartsClosed} {Q = Any} (λ f x q. omega arith)
      (λ f xs q. (
        [],
        (e.index o.place left.0 xs, Target),
        ended (λ z y. Post (a ++ o ∷ z) y) f (e.index o.place left.0 xs, Target)
            (index_made o s ho q),
      )) _ (parts_say l)
      (λ f r xs q _. done_said (ended (λ z y. Post (a ++ o ∷ z) y) f (e.index o.place left.0 xs, Target) (index_made o s ho q)) tt)

  postfix_by_says : (m : ℕ) → suc m ≤ fuel → (rec : (a : List Token) (left : Operand) → Post a left → (l : List Token) → Said m (λ f x. Post (a ++ f) x) Any l (postfix fuel expr m left l))
      → (a : List Token) (left : Operand) → Post a left → (t : Token) (ts : List Token) (q : TokenKind) → t.kind ≡ q
      → Said (suc m) (λ f x. Post (a ++ f) x) Any (t ∷ ts) (spec.postfix_by fuel expr (postfix fuel expr m) left q (t ∷ ts))
  postfix_by_says m le rec a left s t ts k.Dot h =
      after_said {m = m} (omega arith) (then_said {m = m} {S = λ f x. Post (a ++ t ∷ f) x} {Q = Any} (λ f x q. omega arith) (λ f x q. ([], x, ended (λ g y. Post (a ++ t ∷ g) y) f x q)) _
      (as_said (omega arith) (λ g y s. s) (λ _ _. tt) (member_says a left s t h ts))
      (λ f r x q _. as_said {m = m} (omega arith) (λ g y p. subst (λ z. Post z y) (append_assoc a (t ∷ f) g) p) (λ _ _. tt) (rec (a ++ t ∷ f) x q r)))
  postfix_by_says m le rec a left s t ts k.LeftBracket h =
      after_said {m = m} (omega arith) (then_said {m = m} {S = λ f x. Post (a ++ t ∷ f) x} {Q = Any} (λ f x q. omega arith) (λ f x q. ([], x, ended (λ g y. Post (a ++ t ∷ g) y) f x q)) _
      (as_said (omega arith) (λ g y s. s) (λ _ _. tt) (index_says a left s t h ts))
      (λ f r x q _. as_said {m = m} (omega arith) (λ g y p. subst (λ z. Post z y) (append_assoc a (t ∷ f) g) p) (λ _ _. tt) (rec (a ++ t ∷ f) x q r)))
  postfix_by_says m le rec a left s t ts _ h = done_said (ended Post a left s) tt

  pub postfix_says : (m : ℕ) → m ≤ fuel → (a : List Token) (left : Operand) → Post a left → (l : List Token) → Said m (λ f x. Post (a ++ f) x) Any l (postfix fuel expr m left l)
  unfolding postfix
  postfix_says zero le a left s l = spent_said
  postfix_says (suc m) le a left s [] = done_said (ended Post a left s) tt
  postfix_says (suc m) le a left s (t ∷ ts) = postfix_by_says m le (postfix_says m (omega arith)) a left s t ts t.kind refl

  -- ---- a Postfix

  closed : (o : Token) → o.kind ≡ k.LeftParen → (a : List Token) (x : Exp) → Whole 1 a x → BeginsIn (λ f y. Post (o ∷ f) y) a
  closed o ho a x s = (token k.RightParen ∷ [], (x, Other), grammar.group o (token k.RightParen) ho s refl)

  -- a closing parenthesis, and what stands behind the group
  close_says : (o : Token) → o.kind ≡ k.LeftParen → (a : List Token) (x : Exp) → Whole 1 a x → (l : List Token)
      → Said fuel (λ f y. Post (o ∷ (a ++ f)) y) Any l (and_then (expect k.RightParen l) (λ _. postfix fuel expr fuel (x, Other)))
  close_says o ho a x s l =
      want_said {m = fuel} k.RightParen close_is refl (omega arith) ([], (x, Other), grammar.group o (token k.RightParen) ho s refl) _
      (λ c ts hc. as_said {m = fuel} (omega arith) (λ g y p. subst (λ z. Post (o ∷ z) y) (append_assoc a (c ∷ []) g) p) (λ _ _. tt)
      (postfix_says fuel (omega arith) (o ∷ (a ++ c ∷ [])) (x, Other) (grammar.group o c ho s hc) ts))

  group_says : (o : Token) → o.kind ≡ k.LeftParen → (l : List Token) → Said fuel (λ f y. Post (o ∷ f) y) Any l (group fuel expr l)
  unfolding group
  group_says o ho l = then_said {m = fuel} {Q = Any} (λ f x q. omega arith) (λ f x q. closed o ho f x q) _ (inner_says fuel (omega arith) l) (λ f r x q _. close_says o ho f x q r)

  -- a Postfix that begins with one token
  literal_says : (t : Token) (x : Exp) → Postfixed Other (t ∷ []) x → (ts : List Token) → Said (suc fuel) Post Any (t ∷ ts) (postfix fuel expr fuel (x, Other) ts)
  literal_says t x s ts = after_said {m = fuel} (omega arith) (postfix_says fuel (omega arith) (t ∷ []) (x, Other) s ts)

  some_post : BeginsIn Post []
  some_post = (int_zero ∷ [], (e.Int int_zero.place (pos 0), Other), postfixed_int)

  -- what is read behind its first token, and what stands behind it
  first_says : (t : Token) (ts : List Token) (out : ParseOutcome Operand) → Said fuel (λ f x. Post (t ∷ f) x) Any ts out
      → Said (suc fuel) Post Any (t ∷ ts) (and_then out (postfix fuel expr fuel))
  first_says t ts out said =
      after_said {m = fuel} (omega arith) (then_said {m = fuel} {S = λ f x. Post (t ∷ f) x} {Q = Any} (λ f x s. omega arith) (λ f x s. ([], x, ended (λ g y. Post (t ∷ g) y) f x s)) _ said
      (λ f r x s _. postfix_says fuel (omega arith) (t ∷ f) x s r))

  other_says : (t : Token) (ts : List Token) (out : ParseOutcome Exp) → Said fuel (λ f x. Postfixed Other (t ∷ f) x) Any ts out
      → Said (suc fuel) Post Any (t ∷ ts) (and_then out (λ x. postfix fuel expr fuel (x, Other)))
  other_says t ts out said =
      after_said {m = fuel} (omega arith) (then_said {m = fuel} {S = λ f x. Postfixed Other (t ∷ f) x} {Q = Any} (λ f x s. omega arith)
      (λ f x s. ([], (x, Other), ended (λ g y. Post (t ∷ g) y) f (x, Other) s)) _ said
      (λ f r x s _. postfix_says fuel (omega arith) (t ∷ f) (x, Other) s r))

  operand_by_says : (t : Token) (ts : List Token) (q : TokenKind) → t.kind ≡ q → Said (suc fuel) Post Any (t ∷ ts) (spec.operand_by fuel expr q (t ∷ ts))
  operand_by_says t ts (k.Int n) h = literal_says t (e.Int t.place n) (grammar.int t h) ts
  operand_by_says t ts (k.LongInt n) h = literal_says t (e.Long t.place n) (grammar.long t h) ts
  operand_by_says t ts k.KeywordTrue h = literal_says t (e.Truth t.place true) (grammar.truth t h) ts
  operand_by_says t ts k.KeywordFalse h = literal_says t (e.Truth t.place false) (grammar.falsehood t h) ts
  operand_by_says t ts k.KeywordNull h = literal_says t (e.Null t.place) (grammar.null t h) ts
  operand_by_says t ts k.KeywordThis h = literal_says t (e.This t.place) (grammar.this t h) ts
  operand_by_says t ts (k.Name name) h = first_says t ts (name_or_call fuel expr t.place name ts) (named_says t name h ts)
  operand_by_says t ts k.LeftParen h = after_said {m = fuel} (omega arith) (group_says t h ts)
  operand_by_says t ts k.LeftBracket h = other_says t ts (bracket fuel expr t.place ts) (bracket_says t h ts)
  operand_by_says t ts k.KeywordTi h = other_says t ts (process t.place ts) (process_says t h ts)
  operand_by_says t ts _ h = refused_said some_post

  pub operand_says : (l : List Token) → Said (suc fuel) Post Any l (operand fuel expr l)
  unfolding operand
  operand_says [] = refused_said some_post
  operand_says (t ∷ ts) = operand_by_says t ts t.kind refl

  -- ---- operators of two operands

  operation_says : (L : ℕ) (a : List Token) (left : Exp) → Whole L a left → (t : Token) (ts : List Token) (op : BinaryOperator) → infix_of t.kind ≡ Some op → strength op ≤ L
      → Said fuel (λ f x. Whole (strength op) (a ++ t ∷ f) x) (λ r. binds (kind r) ≤ strength op) ts (operation fuel expr left op (t ∷ ts))
  unfolding operation
  operation_says L a left s t ts op is le =
      let small = strength_small op in
      let some = strength_some op in
      let wa : Whole (strength op) a left = weaken le s in
      let made : (f : List Token) (x : Exp) → Whole (strength op + 1) f x → Whole (strength op) (a ++ t ∷ f) (e.Binary t.place op left x) = λ f x q. grammar.operation t is (omega arith) wa q in
      then_said {m = fuel} {Q = Below (strength op + 1)} (λ f x q. omega arith)
      (λ f x q. (
        [],
        e.Binary t.place op left x,
        ended (λ g y. Whole (strength op) (a ++ t ∷ g) y) f (e.Binary t.place op left x)
            (made f x q),
      )) _
      (expr_says (strength op + 1) (omega arith) (omega arith) ts)
      (λ f r x q below. done_said (ended (λ g y. Whole (strength op) (a ++ t ∷ g) y) f (e.Binary t.place op left x) (made f x q)) (omega (arith, below)))

  abbrev Climbs : ℕ → ℕ → Type 0
  Climbs least m = (L : ℕ) → least ≤ L → (a : List Token) (left : Exp) → Whole L a left → (l : List Token) → binds (kind l) ≤ L
      → Said m (λ f x. Whole least (a ++ f) x) (Below least) l (climb fuel expr least m left l)

  climb_if_says : (least : ℕ) → 1 ≤ least → (m : ℕ) → suc m ≤ fuel → Climbs least m → (L : ℕ) → least ≤ L → (a : List Token) (left : Exp) → Whole L a left → (t : Token) (ts : List Token)
      → (op : BinaryOperator) → infix_of t.kind ≡ Some op → strength op ≤ L → (test : Bool) → nat_lt (strength op) least ≡ test
      → Said (suc m) (λ f x. Whole least (a ++ f) x) (Below least) (t ∷ ts)
      (if◌then◌else◌ {A = Parser Exp} test (λ i. Ok (left, i)) (λ i. and_then (operation fuel expr left op i)
      (climb fuel expr least m)) (t ∷ ts))
  climb_if_says least one m le rec L above a left s t ts op is bound_op true h =
      let low : strength op < least = ltb-true (strength op) least h in
      let same : binds t.kind ≡ strength op = ap bound is in
      let below : binds t.kind < least = omega arith in
      done_said (ended (Whole least) a left (weaken above s)) below
  climb_if_says least one m le rec L above a left s t ts op is bound_op false h =
      let some : least ≤ strength op = ltb-false (strength op) least h in
      after_said {m = m} (omega arith)
      (then_said {m = m} {Q = λ r. binds (kind r) ≤ strength op} (λ f x q. omega arith) (λ f x q. ([], x, ended (λ g y. Whole least (a ++ t ∷ g) y) f x (weaken some q))) _
      (as_said (omega arith) (λ g y q. q) (λ r q. q) (operation_says L a left s t ts op is bound_op))
      (λ f r x q below. as_said {m = m} (omega arith) (λ g y p. subst (λ z. Whole least z y) (append_assoc a (t ∷ f) g) p) (λ _ q. q) (rec (strength op) some (a ++ t ∷ f) x q r below)))

  climb_by_says : (least : ℕ) → 1 ≤ least → (m : ℕ) → suc m ≤ fuel → Climbs least m → (L : ℕ) → least ≤ L → (a : List Token) (left : Exp)
      → Whole L a left → (t : Token) (ts : List Token) → binds t.kind ≤ L
      → (q : Option BinaryOperator) → infix_of t.kind ≡ q
      → Said (suc m) (λ f x. Whole least (a ++ f) x) (Below least) (t ∷ ts) (spec.climb_by fuel expr (climb fuel expr least m) least left q (t ∷ ts))
  climb_by_says least one m le rec L above a left s t ts within None is =
      let none : binds t.kind ≡ 0 = ap bound is in
      let below : binds t.kind < least = omega arith in
      done_said (ended (Whole least) a left (weaken above s)) below
  climb_by_says least one m le rec L above a left s t ts within (Some op) is =
      let same : binds t.kind ≡ strength op = ap bound is in
      climb_if_says least one m le rec L above a left s t ts op is (omega arith) (nat_lt (strength op) least) refl

  climb_says : (least : ℕ) → 1 ≤ least → (m : ℕ) → m ≤ fuel → Climbs least m
  unfolding climb
  climb_says least one zero le L above a left s l within = spent_said
  climb_says least one (suc m) le L above a left s [] within = let below : 0 < least = omega arith in done_said (ended (Whole least) a left (weaken above s)) below
  climb_says least one (suc m) le L above a left s (t ∷ ts) within = climb_by_says least one m le (climb_says least one m (omega arith)) L above a left s t ts within (infix_of t.kind) refl

  -- ---- casts, behind an opening parenthesis o

  cast_says : (o : Token) (a : List Token) (ty : TypeTree) → o.kind ≡ k.LeftParen → CastType a ty → (l : List Token)
      → Said fuel (λ f x. Prefixed (o ∷ (a ++ f)) x) Any l (cast fuel expr o.place ty l)
  unfolding cast
  cast_says o a ty ho s l =
      want_said {m = fuel} k.RightParen close_is refl (omega arith) (
        int_zero ∷ [],
        e.Cast o.place ty (e.Int int_zero.place (pos 0)),
        grammar.cast o (token k.RightParen) ho s refl (grammar.postfixed postfixed_int),
      ) _
      (λ c ts hc. then_said {m = fuel} {S = Prefixed} {Q = Any} (λ f x q. omega arith)
      (λ f x q. (
        [],
        e.Cast o.place ty x,
        ended (λ g y. Prefixed (o ∷ (a ++ c ∷ g)) y) f (e.Cast o.place ty x)
            (grammar.cast o c ho s hc q),
      )) _
      (as_said (omega arith) (λ g y q. whole_prefixed q) (λ _ _. tt) (expr_says 11 (omega arith) (omega arith) ts))
      (λ f r x q _. done_said (ended (λ g y. Prefixed (o ∷ (a ++ c ∷ g)) y) f (e.Cast o.place ty x) (grammar.cast o c ho s hc q)) tt))

  cast_begins : (o : Token) (a : List Token) (ty : TypeTree) → o.kind ≡ k.LeftParen → CastType a ty → BeginsIn (λ f x. Prefixed (o ∷ f) x) a
  cast_begins o a ty ho s = (token k.RightParen ∷ int_zero ∷ [], e.Cast o.place ty (e.Int int_zero.place (pos 0)), grammar.cast o (token k.RightParen) ho s refl (grammar.postfixed postfixed_int))

  -- where what the type begins with, the tokens a, and its qualifiers are no name alone
  cast_from_by : (o : Token) → o.kind ≡ k.LeftParen → (a : List Token) (begin : Base) (P : List _ → Type 0) → Based a begin
      → ((qs : List _) (gs : List GridTree) → P qs → is_name_alone begin qs gs ≡ false) → (l : List Token)
      → Said fuel (λ f qs. types.Qualified f qs × P qs) Any l (Rattle.ti_parse_expr.specs.Mirrors.Types.qualifiers fuel [] l)
      → Said fuel (λ f x. Prefixed (o ∷ (a ++ f)) x) Any l (cast_from fuel expr o.place begin l)
  unfolding cast_from
  cast_from_by o ho a begin P s proper l said =
      then_said {m = fuel} {S = λ f ty. FieldType (a ++ f) ty × (ty.base ≡ begin) × P ty.qualifiers} {Q = Any} (λ f x q. omega arith)
      (λ f ty (q, is, holds). let (w, x, p) = cast_begins o (a ++ f) ty ho (types.cast_type q (ap (λ z. is_name_alone z ty.qualifiers ty.grids) is ∙ proper ty.qualifiers ty.grids holds)) in
      (w, x, subst (λ z. Prefixed (o ∷ z) x) (append_assoc a f w) p)) _ (field_type_says fuel a begin P s l said)
      (λ f r ty (q, is, holds) _. as_said {m = fuel} (omega arith) (λ g y p. subst (λ z. Prefixed (o ∷ z) y) (append_assoc a f g) p) (λ _ _. tt)
      (cast_says o (a ++ f) ty ho (types.cast_type q (ap (λ z. is_name_alone z ty.qualifiers ty.grids) is ∙ proper ty.qualifiers ty.grids holds)) r))

  reserved_cast : (o : Token) → o.kind ≡ k.LeftParen → (t : Token) (ts : List Token) → begins_type t.kind ≡ true
      → Said fuel (λ f x. Prefixed (o ∷ f) x) Any (t ∷ ts) (and_then (type_base (t ∷ ts)) (cast_from fuel expr o.place))
  reserved_cast o ho t ts reserved =
      then_said {m = fuel} {S = λ f x. Based f x × (is_named x ≡ false)} {Q = Any} (λ f x q. omega arith)
      (λ f x (q, plain). cast_begins o f (record { base = x; qualifiers = []; grids = [] }) ho
      (types.cast_type (subst (λ z. FieldType z (record { base = x; qualifiers = []; grids = [] })) (append_nil f)
      (types.field_type q types.none types.none (omega arith))) (reserved_not_alone x [] [] plain))) _
      (reserved_says t ts reserved)
      (λ f r x (q, plain) _. cast_from_by o ho f x (λ qs. Unit {0}) q (λ qs gs _. reserved_not_alone x qs gs plain) r (any_qualifiers fuel r))

  named_cast : (o : Token) → o.kind ≡ k.LeftParen → (t : Token) (name : List ℕ) → t.kind ≡ k.Name name → (q : Token) (ts : List Token) (word : QualifierWord) → qualifier_of q.kind ≡ Some word
      → Said fuel (λ f x. Prefixed (o ∷ t ∷ f) x) Any (q ∷ ts) (cast_from fuel expr o.place (b.Named t.place name) (q ∷ ts))
  named_cast o ho t name ht q ts word is =
      cast_from_by o ho (t ∷ []) (b.Named t.place name) (λ qs. 0 < length qs) (types.named t ht)
      (λ qs gs some. qualified_not_alone (b.Named t.place name) qs gs some) (q ∷ ts) (qualified_says fuel q ts word is)

  abbrev grid_type : Token → List ℕ → List GridTree → TypeTree
  grid_type t name gs = record { base = b.Named t.place name; qualifiers = []; grids = gs }

  grid_cast_type : (t c : Token) (name : List ℕ) (f : List Token) (g : GridTree) (ys gs : List GridTree) → t.kind ≡ k.Name name
      → Gridded (c ∷ f) (g ∷ ys) → gs ≡ g ∷ ys → length ys ≤ 2 → CastType (t ∷ c ∷ f) (grid_type t name gs)
  grid_cast_type t c name f g ys gs ht s is few =
      types.cast_type (types.field_type (types.named t ht) types.none (subst (Gridded (c ∷ f)) (sym is) s) (omega (arith, few, ap length is)))
      (ap (is_name_alone (b.Named t.place name) []) is ∙ gridded_not_alone (b.Named t.place name) [] g ys)

  grid_cast : (o t c : Token) (name : List ℕ) → o.kind ≡ k.LeftParen → t.kind ≡ k.Name name → c.kind ≡ k.LeftBracket → (l : List Token)
      → Said fuel (λ f x. Prefixed (o ∷ t ∷ c ∷ f) x) Any l (cast_from_grid fuel expr o.place (b.Named t.place name) l)
  unfolding cast_from_grid
  grid_cast o t c name ho ht hc l =
      then_said {m = fuel} {S = GridRest c} {Q = Any} (λ f x q. omega arith)
      (λ f g s. cast_begins o (t ∷ c ∷ f) (grid_type t name (g ∷ [])) ho (grid_cast_type t c name f g [] (g ∷ []) ht s refl (omega arith))) _ (grid_says fuel c hc l)
      (λ f r g s _. then_said {m = fuel} {S = MoreGrids 2 (g ∷ [])} {Q = Any} (λ h x q. omega arith)
      (λ h gs (ys, is, p, few). let (w, x, q) = cast_begins o (t ∷ c ∷ (f ++ h)) (grid_type t name gs) ho (grid_cast_type t c name (f ++ h) g ys gs ht (gridded_append s p) is few) in
      (w, x, subst (λ z. Prefixed (o ∷ t ∷ c ∷ z) x) (append_assoc f h w) q)) _ (grids_say fuel 2 (g ∷ []) r)
      (λ h r2 gs (ys, is, p, few) _. as_said {m = fuel} (omega arith) (λ v y q. subst (λ z. Prefixed (o ∷ t ∷ c ∷ z) y) (append_assoc f h v) q) (λ _ _. tt)
      (cast_says o (t ∷ c ∷ (f ++ h)) (grid_type t name gs) ho (grid_cast_type t c name (f ++ h) g ys gs ht (gridded_append s p) is few) r2)))

  -- ---- groups, behind an opening parenthesis o

  -- the tree of a Postfix alone
  drop_says : (m : ℕ) (a l : List Token) (out : ParseOutcome Operand) → Said m (λ f y. Post (a ++ f) y) Any l out → Said m (λ f x. Prefixed (a ++ f) x) Any l (and_then out (λ y j. Ok (y.0, j)))
  drop_says m a l out said =
      then_said {m = m} {S = λ f y. Post (a ++ f) y} {Q = Any} (λ f x s. omega arith) (λ f y s. ([], y.0, ended (λ z x. Prefixed (a ++ z) x) f y.0 (grammar.postfixed s))) _ said
      (λ f r y s _. done_said (ended (λ z x. Prefixed (a ++ z) x) f y.0 (grammar.postfixed s)) tt)

  close_drop : (o : Token) → o.kind ≡ k.LeftParen → (a : List Token) (x : Exp) → Whole 1 a x → (l : List Token)
      → Said fuel (λ f y. Prefixed (o ∷ (a ++ f)) y) Any l (and_then (expect k.RightParen l) (λ _ i. and_then (postfix fuel expr fuel (x, Other) i) (λ y j. Ok (y.0, j))))
  close_drop o ho a x s l =
      want_said {m = fuel} k.RightParen close_is refl (omega arith) ([], x, grammar.postfixed (grammar.group o (token k.RightParen) ho s refl)) _
      (λ c ts hc. as_said {m = fuel} (omega arith) (λ g y p. subst (λ z. Prefixed (o ∷ z) y) (append_assoc a (c ∷ []) g) p) (λ _ _. tt)
      (drop_says fuel (o ∷ (a ++ c ∷ [])) ts (postfix fuel expr fuel (x, Other) ts) (postfix_says fuel (omega arith) (o ∷ (a ++ c ∷ [])) (x, Other) (grammar.group o c ho s hc) ts)))

  closed_so : (o : Token) → o.kind ≡ k.LeftParen → (a : List Token) (x : Exp) → Whole 1 a x → BeginsIn (λ f y. Prefixed (o ∷ f) y) a
  closed_so o ho a x s = (token k.RightParen ∷ [], x, grammar.postfixed (grammar.group o (token k.RightParen) ho s refl))

  moved : (o : Token) (a f : List Token) → BeginsIn (λ g y. Prefixed (o ∷ g) y) (a ++ f) → BeginsIn (λ g y. Prefixed (o ∷ (a ++ g)) y) f
  moved o a f (w, y, p) = (w, y, subst (λ z. Prefixed (o ∷ z) y) (append_assoc a f w) p)

  -- behind its first operand, which the tokens a spell
  group_from_says : (o : Token) → o.kind ≡ k.LeftParen → (a : List Token) (first : Operand) → Post a first → (l : List Token)
      → Said fuel (λ f y. Prefixed (o ∷ (a ++ f)) y) Any l (group_from fuel expr first l)
  unfolding group_from
  group_from_says o ho a first s l =
      then_said {m = fuel} {S = λ f x. Post (a ++ f) x} {Q = Any} (λ f x q. omega arith)
      (λ f x q. moved o a f (closed_so o ho (a ++ f) x.0 (grammar.operand (grammar.postfixed q)))) _
      (postfix_says fuel (omega arith) a first s l)
      (λ f r left q _. let small = binds_small (kind r) in
      then_said {m = fuel} {S = λ g x. Whole 1 ((a ++ f) ++ g) x} {Q = Below 1} (λ g x p. omega arith)
      (λ g x p. let (w, y, v) = closed_so o ho ((a ++ f) ++ g) x p in (w, y, subst (λ z. Prefixed (o ∷ z) y) (append_assoc (a ++ f) g w ∙ append_assoc a f (g ++ w)) v)) _
      (climb_says 1 (omega arith) fuel (omega arith) 11 (omega arith) (a ++ f) left.0 (grammar.operand (grammar.postfixed q)) r (omega arith))
      (λ g r2 x p _. as_said {m = fuel} (omega arith) (λ h y v. subst (λ z. Prefixed (o ∷ z) y) (append_assoc (a ++ f) g h
      ∙ append_assoc a f (g ++ h)) v) (λ _ _. tt) (close_drop o ho ((a ++ f) ++ g) x p r2)))

  -- ---- behind o and the name t

  named_group : (o : Token) → o.kind ≡ k.LeftParen → (t : Token) (name : List ℕ) → t.kind ≡ k.Name name → (l : List Token)
      → Said fuel (λ f x. Prefixed (o ∷ t ∷ f) x) Any l (and_then (name_or_call fuel expr t.place name l) (group_from fuel expr))
  named_group o ho t name ht l =
      then_said {m = fuel} {S = λ f x. Post (t ∷ f) x} {Q = Any} (λ f x q. omega arith) (λ f x q. closed_so o ho (t ∷ f) x.0 (grammar.operand (grammar.postfixed q))) _ (named_says t name ht l)
      (λ f r x q _. group_from_says o ho (t ∷ f) x q r)

  indexed_group : (o t c : Token) (name : List ℕ) → o.kind ≡ k.LeftParen → t.kind ≡ k.Name name → c.kind ≡ k.LeftBracket → (l : List Token)
      → Said fuel (λ f x. Prefixed (o ∷ t ∷ c ∷ f) x) Any l (and_then (index fuel expr c.place (e.Name t.place name) l) (group_from fuel expr))
  indexed_group o t c name ho ht hc l =
      then_said {m = fuel} {S = λ f x. Post (t ∷ c ∷ f) x} {Q = Any} (λ f x q. omega arith)
      (λ f x q. closed_so o ho (t ∷ c ∷ f) x.0 (grammar.operand (grammar.postfixed q))) _
      (index_says (t ∷ []) (e.Name t.place name, Target) (grammar.name t ht) c hc l)
      (λ f r x q _. group_from_says o ho (t ∷ c ∷ f) x q r)

  paren_bracket_says : (o t c : Token) (name : List ℕ) → o.kind ≡ k.LeftParen → t.kind ≡ k.Name name → c.kind ≡ k.LeftBracket → (ts : List Token)
      → Said fuel (λ f x. Prefixed (o ∷ t ∷ f) x) Any (c ∷ ts) (paren_name_bracket fuel expr o.place t.place name (c ∷ ts))
  unfolding paren_name_bracket
  paren_bracket_says o t c name ho ht hc ts =
      after_said {m = fuel} (omega arith) (if_said (is_dim_token (kind ts)) _ _ (λ _. grid_cast o t c name ho ht hc ts) (λ _. indexed_group o t c name ho ht hc ts))

  is_some_word : (q : Option QualifierWord) → is_some q ≡ true → (word : QualifierWord) × (q ≡ Some word)
  is_some_word (Some word) h = (word, refl)
  is_some_word None h = cc

  cast_or_group : (o : Token) → o.kind ≡ k.LeftParen → (t : Token) (name : List ℕ) → t.kind ≡ k.Name name → (l : List Token) (q : TokenKind) → kind l ≡ q
      → Said fuel (λ f x. Prefixed (o ∷ t ∷ f) x) Any l
      (if◌then◌else◌ {A = Parser Exp} (is_some (qualifier_of q)) (cast_from fuel expr o.place (b.Named t.place name)) (λ i. and_then (name_or_call fuel expr t.place name i) (group_from fuel expr)) l)
  cast_or_group o ho t name ht [] q h =
      if_said (is_some (qualifier_of q)) _ _ (λ some. let wrong : is_some (qualifier_of k.End) ≡ true = ap (λ z. is_some (qualifier_of z)) h ∙ some in cc) (λ _. named_group o ho t name ht [])
  cast_or_group o ho t name ht (u ∷ ts) q h =
      if_said (is_some (qualifier_of q)) _ _
      (λ some. let (word, is) = is_some_word (qualifier_of q) some in named_cast o ho t name ht u ts word (ap qualifier_of h ∙ is)) (λ _. named_group o ho t name ht (u ∷ ts))

  paren_name_by_says : (o : Token) → o.kind ≡ k.LeftParen → (t : Token) (name : List ℕ) → t.kind ≡ k.Name name → (l : List Token) (q : TokenKind) → kind l ≡ q
      → Said fuel (λ f x. Prefixed (o ∷ t ∷ f) x) Any l (spec.paren_name_by fuel expr o.place t.place name q l)
  paren_name_by_says o ho t name ht [] k.LeftBracket h = cc
  paren_name_by_says o ho t name ht (c ∷ ts) k.LeftBracket h = paren_bracket_says o t c name ho ht h ts
  paren_name_by_says o ho t name ht l q h = cast_or_group o ho t name ht l q h

  paren_name_says : (o : Token) → o.kind ≡ k.LeftParen → (t : Token) (name : List ℕ) → t.kind ≡ k.Name name → (l : List Token)
      → Said fuel (λ f x. Prefixed (o ∷ t ∷ f) x) Any l (paren_name fuel expr o.place t.place name l)
  unfolding paren_name
  paren_name_says o ho t name ht l = paren_name_by_says o ho t name ht l (kind l) refl

  -- ---- behind o

  paren_plain : (o : Token) → o.kind ≡ k.LeftParen → (l : List Token) → Said fuel (λ f x. Prefixed (o ∷ f) x) Any l (and_then (group fuel expr l) (λ y j. Ok (y.0, j)))
  paren_plain o ho l = drop_says fuel (o ∷ []) l (group fuel expr l) (group_says o ho l)

  type_or_group : (o : Token) → o.kind ≡ k.LeftParen → (t : Token) (ts : List Token) (q : TokenKind) → t.kind ≡ q
      → Said fuel (λ f x. Prefixed (o ∷ f) x) Any (t ∷ ts)
      (if◌then◌else◌ {A = Parser Exp} (begins_type q) (λ i. and_then (type_base i) (cast_from fuel expr o.place)) (λ i. and_then (group fuel expr i) (λ y j. Ok (y.0, j))) (t ∷ ts))
  type_or_group o ho t ts q h = if_said (begins_type q) _ _ (λ some. reserved_cast o ho t ts (ap begins_type h ∙ some)) (λ _. paren_plain o ho (t ∷ ts))

  paren_by_says : (o : Token) → o.kind ≡ k.LeftParen → (t : Token) (ts : List Token) (q : TokenKind) → t.kind ≡ q
      → Said fuel (λ f x. Prefixed (o ∷ f) x) Any (t ∷ ts) (spec.paren_by fuel expr o.place q (t ∷ ts))
  paren_by_says o ho t ts (k.Name name) h = after_said {m = fuel} (omega arith) (paren_name_says o ho t name h ts)
  paren_by_says o ho t ts q h = type_or_group o ho t ts q h

  paren_says : (o : Token) → o.kind ≡ k.LeftParen → (l : List Token) → Said fuel (λ f x. Prefixed (o ∷ f) x) Any l (paren fuel expr o.place l)
  unfolding paren
  paren_says o ho [] = paren_plain o ho []
  paren_says o ho (t ∷ ts) = paren_by_says o ho t ts t.kind refl

  -- ---- the whole

  unary_says : (t : Token) (ts : List Token) (op : UnaryOperator) → prefix_of t.kind ≡ Some op → Said (suc fuel) Prefixed Any (t ∷ ts) (unary fuel expr op (t ∷ ts))
  unfolding unary
  unary_says t ts op is =
      after_said {m = fuel} (omega arith) (then_said {m = fuel} {S = Prefixed} {Q = Any} (λ f x s. omega arith)
      (λ f x s. ([], e.Unary t.place op x, ended (λ g y. Prefixed (t ∷ g) y) f (e.Unary t.place op x) (grammar.unary t is s))) _
      (as_said (omega arith) (λ g y s. whole_prefixed s) (λ _ _. tt) (expr_says 11 (omega arith) (omega arith) ts))
      (λ f r x s _. done_said (ended (λ g y. Prefixed (t ∷ g) y) f (e.Unary t.place op x) (grammar.unary t is s)) tt))

  unary_or_says : (t : Token) (ts : List Token) (q : Option UnaryOperator) → prefix_of t.kind ≡ q → Said (suc fuel) Prefixed Any (t ∷ ts) (spec.unary_or fuel expr q (t ∷ ts))
  unary_or_says t ts (Some op) is = unary_says t ts op is
  unary_or_says t ts None is = drop_says (suc fuel) [] (t ∷ ts) (operand fuel expr (t ∷ ts)) (operand_says (t ∷ ts))

  prefix_by_says : (t : Token) (ts : List Token) (q : TokenKind) → t.kind ≡ q → Said (suc fuel) Prefixed Any (t ∷ ts) (spec.prefix_by fuel expr q (t ∷ ts))
  prefix_by_says t ts k.LeftParen h = after_said {m = fuel} (omega arith) (paren_says t h ts)
  prefix_by_says t ts q h = unary_or_says t ts (prefix_of q) (ap prefix_of h)

  prefix_says : (l : List Token) → Said (suc fuel) Prefixed Any l (prefix fuel expr l)
  unfolding prefix
  prefix_says [] = drop_says (suc fuel) [] [] (operand fuel expr []) (operand_says [])
  prefix_says (t ∷ ts) = prefix_by_says t ts t.kind refl

  level_says : (least : ℕ) → 1 ≤ least → least ≤ 11 → (l : List Token) → Said (suc fuel) (Whole least) (Below least) l (level fuel expr least l)
  unfolding level
  level_says least one most l =
      then_said {m = fuel} {Q = Any} (λ f x s. let some = prefixed_some s in omega arith) (λ f x s. ([], x, ended (Whole least) f x (grammar.operand s))) _ (prefix_says l)
      (λ f r x s _. let small = binds_small (kind r) in climb_says least one fuel (omega arith) 11 most f x (grammar.operand s) r (omega arith))

pub expr_says : (fuel least : ℕ) → 1 ≤ least → least ≤ 11 → (l : List Token) → Said fuel (Whole least) (Below least) l (expr fuel least l)
unfolding expr
expr_says zero least one most l = spent_said
expr_says (suc n) least one most l = level_says n (expr n) (expr_says n) least one most l
