-- The parser is proved sound for statements.
use Rattle.std.proofs.Common.{◌≡◌, ℕ, zero, suc, ◌<◌, ◌≤◌, List, [], ◌∷◌, ◌++◌, length, Ok, refl, sym, ap, ◌∙◌, subst, append_assoc, arith, length-append, true, false, Bool, if◌then◌else◌, codes}
use Rattle.ti_syntax.specs.declared.token.Token.{Token}
use Rattle.ti_syntax.specs.declared.token.TokenKind.{TokenKind}
use Rattle.ti_syntax.specs.declared.token.TokenKind.TheVariants as k
use Rattle.ti_syntax.specs.Trees.Types.{TypeTree}
use Rattle.ti_syntax.specs.Trees.Statements.{Stm}
use Rattle.ti_syntax.specs.Trees.Statements as tree
use Rattle.ti_syntax.specs.Tokens.{same_kind}
use Rattle.ti_syntax.specs.Spelling.Types.{Typed}
use Rattle.ti_syntax.specs.Spelling.Statements.{starts, Declared, Stated, Items}
use Rattle.ti_syntax.specs.Spelling.Statements as grammar
use Rattle.ti_parse_expr.specs.declared.parse.Form.TheVariants as form
use Rattle.ti_parse_expr.specs.Mirrors.Input.{ParseOutcome, Parser, ◌>>=◌, ◌>>◌, pure, refuse, and_then, kind, next_is, expect, expect_word, take_token}
use Rattle.ti_parse_expr.specs.Mirrors.Full.{full, full_operand}
use Rattle.ti_parse_expr.proofs.Lemmas.{paren_is, close_is, BeginsIn, token, append_nil, ended}
use Rattle.ti_parse.specs.Mirrors.ParserParams.{language_params}
use Rattle.ti_parse.specs.Mirrors.Parts.{begins_declaration, NameStart, DeclaredType, PostfixStart, any_type, declared, expr_stmt}
use Rattle.ti_parse.specs.Mirrors.Statements as spec
use Rattle.ti_parse.specs.Mirrors.Statements.{is_compound, too_deep, item, items, block, conditional, while_loop, for_loop, foreach_loop, simple_stmt, stmt, body}
use Rattle.ti_parse.proofs.Laws.{Free, Tells, as_tells, so_tells, fewer_tells, done_tells, met_tells, refused_tells, over_tells, spent_tells, if_tells, if_head, after_tells, then_tells, then_met, then_turn, map_met, want_tells, last_tells, word_tells, name_here}
use Rattle.ti_parse.proofs.SoundKinds.{semicolon_is, brace_shut_is, else_is}
use Rattle.ti_parse.proofs.SoundParts.{ends_open, Shut, BegunIs, whole_tells, typed_tells, declared_tells, start_tells, simple_tells, begun_tells, print_tells, barrier_tells, break_tells, continue_tells, return_tells, condition_tells, first_tells, optional_tells, update_tells}
use Rattle.ti_syntax.specs.Spelling.{most_levels}

-- ---- languages

abbrev pub Statement : List Token → Stm → Type 0
Statement f x = Stated (ends_open x) f x

-- behind an `if` without `else` stands no `else`
abbrev pub NoElse : Stm → List Token → Type 0
NoElse x r = ends_open x ≡ true → next_is k.KeywordElse r ≡ false

shut_free : (x : Stm) (r : List Token) → ends_open x ≡ false → NoElse x r
shut_free x r h is_open = let wrong : false ≡ true = sym h ∙ is_open in cc

pub shut_tells : {n : ℕ} {l : List Token} {out : ParseOutcome Stm} → Tells n Shut Free l out → Tells n Statement NoElse l out
shut_tells tells = as_tells (λ f x (s, h). subst (λ z. Stated z f x) (sym h) s) (so_tells (λ f r x (s, h) _. shut_free x r h) tells)

-- an item with its semicolon
pub data ItemIs : List Token → Stm → Type 0 where
  declaration : {l : List Token} {x : Stm} (t : Token) → Declared l x → t.kind ≡ k.Semicolon → ItemIs (l ++ t ∷ []) x
  statement : {open_if : Bool} {l : List Token} {x : Stm} → Stated open_if l x → ItemIs l x

stated_some : {open_if : Bool} {l : List Token} {x : Stm} → Stated open_if l x → 0 < length l
stated_some (grammar.change {l = l} t s h) = omega (arith, length-append l (t ∷ []))
stated_some (grammar.call {l = l} t s h) = omega (arith, length-append l (t ∷ []))
stated_some (grammar.print {l = l} {m = m} p o c t s h q h2 h3) = omega (arith, length-append l (o ∷ (m ++ c ∷ t ∷ [])))
stated_some (grammar.block o c h s h2) = omega arith
stated_some (grammar.empty t h) = omega arith
stated_some (grammar.if_alone i h s q) = omega arith
stated_some (grammar.if_else i d h s q h2 p) = omega arith
stated_some (grammar.while w h s q) = omega arith
stated_some (grammar.for f o p q c h h2 s h3 s2 h4 s3 h5 s4) = omega arith
stated_some (grammar.foreach f o t i c h h2 h3 h4 s h5 s2) = omega arith
stated_some (grammar.barrier i d b o c t h h2 h3 h4 h5 h6) = omega arith
stated_some (grammar.break b t h h2) = omega arith
stated_some (grammar.continue c t h h2) = omega arith
stated_some (grammar.return w t h s h2) = omega arith

item_some : (l : List Token) (x : Stm) → ItemIs l x → 0 < length l
item_some _ _ (declaration {l = l} t s h) = omega (arith, length-append l (t ∷ []))
item_some _ _ (statement s) = stated_some s

more_items : (l m : List Token) (x : Stm) (xs : List Stm) → ItemIs l x → Items m xs → Items (l ++ m) (x ∷ xs)
more_items _ m x xs (declaration {l = l} t s h) q = subst (λ z. Items z (x ∷ xs)) (sym (append_assoc l (t ∷ []) m)) (grammar.declaration t s h q)
more_items _ m x xs (statement s) q = grammar.statement s q

-- the items found, and more
abbrev pub MoreItems : List Stm → List Token → List Stm → Type 0
MoreItems found f xs = (ys : List Stm) × (xs ≡ found ++ ys) × Items f ys

no_more : (found : List Stm) → MoreItems found [] found
no_more found = ([], sym (append_nil found), grammar.no_item)

must_be_shut : (x : Stm) (is_open : Bool) → ends_open x ≡ is_open → (is_open ≡ true → ⊥) → ends_open x ≡ false
must_be_shut x true is h = absurd (h refl)
must_be_shut x false is h = is

-- what an `else` follows is shut
shut_before_else : (f : List Token) (x : Stm) (r ts : List Token) (d : Token) → Statement f x → NoElse x r → r ≡ d ∷ ts → d.kind ≡ k.KeywordElse → Stated false f x
shut_before_else f x r ts d s free is h =
    let seen : next_is k.KeywordElse r ≡ true = ap (next_is k.KeywordElse) is ∙ ap (λ z. same_kind z k.KeywordElse) h in
    let not_open : ends_open x ≡ true → ⊥ = λ is_open. let wrong : true ≡ false = sym seen ∙ free is_open in cc in
    subst (λ z. Stated z f x) (must_be_shut x (ends_open x) refl not_open) s

-- ---- where statements are read so

module _ (fuel : ℕ) (stmt : Parser Stm) (stmt_tells : (l : List Token) → Tells fuel Statement NoElse l (stmt l)) where
  -- behind the type, the tokens a
  declared_closed : (a : List Token) (ty : TypeTree) → Typed a ty → (l : List Token)
      → Tells fuel (λ f x. ItemIs (a ++ f) x) Free l (and_then (declared language_params fuel ty l) (λ x i. and_then (expect k.Semicolon i) (λ _ j. Ok (x, j))))
  declared_closed a ty s l =
      then_tells _ (declared_tells fuel a ty s l) (λ f r x q. last_tells k.Semicolon semicolon_is refl x (λ t h. subst (λ z. ItemIs z x) (append_assoc a f (t ∷ [])) (declaration t q h)))

  named_item_tells : (a : List Token) (x : NameStart) → BegunIs a x → (l : List Token) → Tells fuel (λ f y. ItemIs (a ++ f) y) Free l (spec.named_item language_params fuel stmt x l)
  named_item_tells a (DeclaredType ty) s l = declared_closed a ty s l
  named_item_tells a (PostfixStart x) s l = as_tells (λ f y (q, h). statement q) (simple_tells fuel a x s l)

  item_unnamed : (l : List Token) (declares : Bool)
      → Tells fuel ItemIs Free l ((if◌then◌else◌ {A = Parser Stm} declares
      (λ i. and_then (any_type language_params fuel i) (λ ty i. and_then (declared language_params fuel ty i)
      (λ x i. and_then (expect k.Semicolon i) (λ _ j. Ok (x, j))))) stmt) l)
  item_unnamed l true = then_tells _ (typed_tells fuel l) (λ f r ty s. declared_closed f ty s r)
  item_unnamed l false = as_tells (λ f x s. statement s) (so_tells (λ f r x s _. tt) (stmt_tells l))

  item_by_tells : (t : Token) (ts : List Token) (q : TokenKind) → t.kind ≡ q → Tells fuel ItemIs Free (t ∷ ts) (spec.item_by language_params fuel stmt q (t ∷ ts))
  item_by_tells t ts (k.Name name) h = then_tells _ (begun_tells fuel t name h ts) (λ f r x s. named_item_tells f x s r)
  item_by_tells t ts q h = item_unnamed (t ∷ ts) (begins_declaration q)

  pub item_tells : (l : List Token) → Tells fuel ItemIs Free l (item language_params fuel stmt l)
  unfolding item
  item_tells [] = item_unnamed [] false
  item_tells (t ∷ ts) = item_by_tells t ts t.kind refl

  pub items_tell : (m : ℕ) → m ≤ fuel → (found : List Stm) (l : List Token) → Tells m (MoreItems found) Free l (items language_params fuel stmt m found l)
  unfolding items
  items_tell zero le found l = spent_tells ([], found, no_more found)
  items_tell (suc m) le found l =
      if_tells (next_is k.RightBrace l) _ _ (λ _. done_tells (no_more found))
      (λ _. then_turn _ item_some (fewer_tells le (item_tells l))
      (λ f r x s. as_tells (λ g y (ys, is, q). (x ∷ ys, is ∙ append_assoc found (x ∷ []) ys, more_items f g x ys s q)) (items_tell m (omega arith) (found ++ x ∷ []) r)))

  -- all of them
  pub all_items_tell : (l : List Token) → Tells fuel Items Free l (items language_params fuel stmt fuel [] l)
  all_items_tell l = as_tells (λ f xs (ys, is, s). subst (Items f) (sym is) s) (items_tell fuel (omega arith) [] l)

  -- ---- behind the first token of a compound statement

  pub block_tells : (o : Token) → o.kind ≡ k.LeftBrace → (l : List Token) → Tells fuel (λ f x. Statement (o ∷ f) x) NoElse l (block language_params fuel stmt l)
  unfolding block
  block_tells o ho l =
      then_tells _ (all_items_tell l) (λ f r xs s. want_tells k.RightBrace brace_shut_is refl _ (λ c ts hc. met_tells (grammar.block o c ho s hc) (shut_free (tree.block xs) ts refl)))

  pub conditional_tells : (i : Token) → i.kind ≡ k.KeywordIf → (l : List Token) → Tells fuel (λ f x. Statement (i ∷ f) x) NoElse l (conditional language_params fuel stmt i.place l)
  unfolding conditional
  conditional_tells i hi l =
      then_tells _ (condition_tells fuel l) (λ f r c s. then_met _ (λ x _. refl) (stmt_tells r) (λ g r2 x q free.
      if_head k.KeywordElse else_is refl _ _
      (λ d ts is hd. after_tells (map_met _ (λ y _. refl) (λ h y p. grammar.if_else i d hi s (shut_before_else g x r2 ts d q free is hd) hd p) (λ y v no_else. no_else) (stmt_tells ts)))
      (λ unseen. met_tells (grammar.if_alone i hi s (ended Statement g x q)) (λ _. unseen))))

  pub while_tells : (w : Token) → w.kind ≡ k.KeywordWhile → (l : List Token) → Tells fuel (λ f x. Statement (w ∷ f) x) NoElse l (while_loop language_params fuel stmt w.place l)
  unfolding while_loop
  while_tells w hw l =
      then_tells _ (condition_tells fuel l) (λ f r c s. map_met _ (λ x _. refl) (λ g x q. grammar.while w hw s q) (λ x v no_else. no_else) (stmt_tells r))

  pub for_tells : (w : Token) → w.kind ≡ k.KeywordFor → (l : List Token) → Tells fuel (λ f x. Statement (w ∷ f) x) NoElse l (for_loop language_params fuel stmt w.place l)
  unfolding for_loop
  for_tells w hw l =
      want_tells k.LeftParen paren_is refl _ (λ o l2 ho. then_tells _ (first_tells fuel l2) (λ f l3 begin s1.
      want_tells k.Semicolon semicolon_is refl _ (λ p l4 hp. then_tells _ (optional_tells fuel l4) (λ g l5 c s2.
      want_tells k.Semicolon semicolon_is refl _ (λ q l6 hq. then_tells _ (update_tells fuel l6) (λ h l7 change s3.
      want_tells k.RightParen close_is refl _ (λ d l8 hd.
      map_met _ (λ x _. refl) (λ v x s4. grammar.for w o p q d hw ho s1 hp s2 hq s3 hd s4) (λ x v no_else. no_else) (stmt_tells l8))))))))

  pub foreach_tells : (w : Token) → w.kind ≡ k.KeywordForeach → (l : List Token) → Tells fuel (λ f x. Statement (w ∷ f) x) NoElse l (foreach_loop language_params fuel stmt w.place l)
  unfolding foreach_loop
  foreach_tells w hw l =
      want_tells k.LeftParen paren_is refl _ (λ o l2 ho.
      name_here (λ at name. expect_word (codes "in") >> (full form.Whole >>= (λ domain. expect k.RightParen >> (stmt >>= (λ x. pure (tree.Foreach w.place at name domain x))))))
      (λ t name l3 ht. word_tells (codes "in") _ (λ i l4 hi. then_tells _ (whole_tells fuel l4) (λ f l5 domain s.
      want_tells k.RightParen close_is refl _ (λ c l6 hc.
      map_met _ (λ x _. refl) (λ g x q. grammar.foreach w o t i c hw ho ht hi s hc q) (λ x v no_else. no_else) (stmt_tells l6))))))

-- ---- statements

module _ (fuel : ℕ) where
  some_shut : BeginsIn Shut []
  some_shut = (token k.Semicolon ∷ [], tree.Empty, (grammar.empty (token k.Semicolon) refl, refl))

  operand_or_none : (l : List Token) (so : Bool) → starts (kind l) ≡ so
      → Tells fuel Shut Free l ((if◌then◌else◌ {A = Parser Stm} so (λ i. and_then (full_operand i) (expr_stmt language_params fuel)) refuse) l)
  operand_or_none l true h = then_tells _ (start_tells fuel l h) (λ f r x s. simple_tells fuel f x s r)
  operand_or_none l false h = refused_tells some_shut

  small_by_tells : (t : Token) (ts : List Token) (q : TokenKind) → t.kind ≡ q → Tells fuel Shut Free (t ∷ ts) (spec.small_by language_params fuel q (t ∷ ts))
  small_by_tells t ts k.Semicolon h = after_tells (done_tells (grammar.empty t h, refl))
  small_by_tells t ts k.KeywordPrintln h = print_tells fuel (t ∷ ts)
  small_by_tells t ts k.KeywordSystem h = print_tells fuel (t ∷ ts)
  small_by_tells t ts k.KeywordTi h = after_tells (barrier_tells fuel t h ts)
  small_by_tells t ts k.KeywordBreak h = break_tells fuel t h ts
  small_by_tells t ts k.KeywordContinue h = continue_tells fuel t h ts
  small_by_tells t ts k.KeywordReturn h = return_tells fuel t h ts
  small_by_tells t ts q h = operand_or_none (t ∷ ts) (starts q) (ap starts h)

  pub small_tells : (l : List Token) → Tells fuel Shut Free l (simple_stmt language_params fuel l)
  unfolding simple_stmt
  small_tells [] = refused_tells some_shut
  small_tells (t ∷ ts) = small_by_tells t ts t.kind refl

  simple_statement : (l : List Token) → Tells fuel Statement NoElse l (simple_stmt language_params fuel l)
  simple_statement l = shut_tells (small_tells l)

  -- where no compound statement may begin
  deep_tells : (t : Token) (ts : List Token) (q : TokenKind) → t.kind ≡ q
      → Tells fuel Statement NoElse (t ∷ ts) ((if◌then◌else◌ {A = Parser Stm} (is_compound q) too_deep (simple_stmt language_params fuel)) (t ∷ ts))
  deep_tells t ts k.LeftBrace h = over_tells (block_tells fuel (simple_stmt language_params fuel) simple_statement t h []).some
  deep_tells t ts k.KeywordIf h = over_tells (conditional_tells fuel (simple_stmt language_params fuel) simple_statement t h []).some
  deep_tells t ts k.KeywordWhile h = over_tells (while_tells fuel (simple_stmt language_params fuel) simple_statement t h []).some
  deep_tells t ts k.KeywordFor h = over_tells (for_tells fuel (simple_stmt language_params fuel) simple_statement t h []).some
  deep_tells t ts k.KeywordForeach h = over_tells (foreach_tells fuel (simple_stmt language_params fuel) simple_statement t h []).some
  deep_tells t ts _ h = simple_statement (t ∷ ts)

  compound_tells : (stmt : Parser Stm) → ((l : List Token) → Tells fuel Statement NoElse l (stmt l)) → (t : Token) (ts : List Token) (q : TokenKind) → t.kind ≡ q
      → Tells fuel Statement NoElse (t ∷ ts) ((if◌then◌else◌ {A = Parser Stm} (is_compound q)
      (λ i. and_then (take_token i) (λ _. spec.compound language_params fuel stmt t.place q)) (simple_stmt language_params fuel)) (t ∷ ts))
  compound_tells stmt inner t ts k.LeftBrace h = after_tells (block_tells fuel stmt inner t h ts)
  compound_tells stmt inner t ts k.KeywordIf h = after_tells (conditional_tells fuel stmt inner t h ts)
  compound_tells stmt inner t ts k.KeywordWhile h = after_tells (while_tells fuel stmt inner t h ts)
  compound_tells stmt inner t ts k.KeywordFor h = after_tells (for_tells fuel stmt inner t h ts)
  compound_tells stmt inner t ts k.KeywordForeach h = after_tells (foreach_tells fuel stmt inner t h ts)
  compound_tells stmt inner t ts _ h = simple_statement (t ∷ ts)

  pub stmt_tells : (levels : ℕ) (l : List Token) → Tells fuel Statement NoElse l (stmt language_params fuel levels l)
  unfolding stmt
  stmt_tells zero [] = simple_statement []
  stmt_tells zero (t ∷ ts) = deep_tells t ts t.kind refl
  stmt_tells (suc n) [] = simple_statement []
  stmt_tells (suc n) (t ∷ ts) = compound_tells (stmt language_params fuel n) (stmt_tells n) t ts t.kind refl

  -- the items of a method
  pub body_tells : (l : List Token) → Tells fuel Items Free l (body language_params fuel l)
  body_tells l = all_items_tell fuel (stmt language_params fuel most_levels) (stmt_tells most_levels) l
