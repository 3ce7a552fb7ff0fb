-- The parser is proved complete for statements, up to the first token above a limit.
use Rattle.std.proofs.Common.{◌≡◌, ℕ, zero, suc, ◌+◌, ◌<◌, List, [], ◌∷◌, ◌++◌, length, Option, Ok, refl, sym, ap, ◌∙◌, append_assoc, arith, length-append, true, false, Bool, ◌&&◌, codes}
use Rattle.std.proofs.lemmas.Bool.{le-ltb, lt-ltb, false≢true}
use Rattle.ti_base.specs.declared.place.Place.{Place}
use Rattle.ti_syntax.specs.declared.token.Token.{Token}
use Rattle.ti_syntax.specs.declared.token.TokenKind.{TokenKind}
use Rattle.ti_syntax.specs.declared.token.TokenKind.TheVariants as k
use Rattle.ti_syntax.specs.Tokens.{same_kind}
use Rattle.ti_syntax.specs.Trees.Types.{TypeTree}
use Rattle.ti_syntax.specs.Trees.Expressions.{Exp}
use Rattle.ti_syntax.specs.Trees.Statements.{PrintTree, Stm, MaybeStm}
use Rattle.ti_syntax.specs.Trees.Statements as tree
use Rattle.ti_syntax.specs.Spelling.Types.{Typed}
use Rattle.ti_syntax.specs.Spelling.Types as types
use Rattle.ti_syntax.specs.Spelling.Expressions.{Whole, Call}
use Rattle.ti_syntax.specs.Spelling.Statements.{Start, Declared, Changed, Printer, Printed, Condition, First, Optional, Update, Stated, Items, starts}
use Rattle.ti_syntax.specs.Spelling.Statements as grammar
use Rattle.ti_syntax.specs.Spelling.Loads.{Load, Free, Level, free, weights, changed_loads, printed_loads, condition_loads, first_loads, optional_loads, update_loads, declared_loads, stated_loads, items_loads}
use Rattle.ti_parse_expr.specs.Mirrors.Input.{Parser, and_then, kind, next_is, expect}
use Rattle.ti_parse_expr.specs.Mirrors.Full.{Limits, operand_to}
use Rattle.ti_parse_expr.proofs.Lemmas.{test_reads as same_test, then_ok, is_name, paren_closes, append_nil}
use Rattle.ti_parse.specs.Mirrors.ParserParams.{up_to}
use Rattle.ti_parse.specs.Mirrors.Parts as parts
use Rattle.ti_parse.specs.Mirrors.Parts.{begins_declaration, any_type, declared, expr_stmt, print, barrier, break_out, continue_on, return_from}
use Rattle.ti_parse.specs.Mirrors.Statements as spec
use Rattle.ti_parse.specs.Mirrors.Statements.{is_compound, item, items, block, conditional, while_loop, for_loop, foreach_loop, compound, simple_stmt, stmt}
use Rattle.ti_parse.proofs.Lengths.{Loaded, stated_loaded, items_loaded}
use Rattle.ti_parse.proofs.Limits.{IsRead, bounded_reads, same_reads, result_reads, then_reads, done_reads, last_reads, made_reads, ungroup_reads, load_took, took, over_reads, want, want_word, name_took, test_reads, sees_reads, ends, whole}
use Rattle.ti_parse.proofs.ReadsParts.{semicolon_ends, paren_ends, printer_reads, printed_reads, condition_reads, optional_part}
use Rattle.ti_parse.proofs.ReadsStarts.{StartsWith, DeclaresWith, call_ends, start_reads, changed_reads, declared_reads, declares_with, starts_with, named_starts, first_reads, update_reads, front_starts, starts_change}

-- ---- what items begin with

abbrev pub begins_item : TokenKind → Bool
begins_item k.LeftBrace = true
begins_item k.Semicolon = true
begins_item k.KeywordIf = true
begins_item k.KeywordWhile = true
begins_item k.KeywordFor = true
begins_item k.KeywordForeach = true
begins_item (k.Name name) = true
begins_item k.KeywordThis = true
begins_item k.LeftParen = true
begins_item k.KeywordPrintln = true
begins_item k.KeywordSystem = true
begins_item k.KeywordTi = true
begins_item k.KeywordBreak = true
begins_item k.KeywordContinue = true
begins_item k.KeywordReturn = true
begins_item k.KeywordInt = true
begins_item k.KeywordLong = true
begins_item k.KeywordBoolean = true
begins_item k.KeywordPoint = true
begins_item k.KeywordRectDomain = true
begins_item k.KeywordDomain = true
begins_item k.KeywordSharedRegion = true
begins_item _ = false

starts_item : (q : TokenKind) → starts q ≡ true → begins_item q ≡ true
starts_item (k.Name name) h = refl
starts_item k.KeywordThis h = refl
starts_item k.LeftParen h = refl
starts_item _ h = absurd (false≢true h)

not_end : (q : TokenKind) → begins_item q ≡ true → same_kind q k.RightBrace ≡ false
not_end k.RightBrace h = cc
not_end _ h = refl

not_else : (q : TokenKind) → begins_item q ≡ true → same_kind q k.KeywordElse ≡ false
not_else k.KeywordElse h = cc
not_else _ h = refl

pub typed_front : {l : List Token} {ty : TypeTree} → Typed l ty → (r : List Token) → begins_item (kind (l ++ r)) ≡ true
typed_front (types.field (types.field_type (types.int t h) q g few)) r = ap begins_item h
typed_front (types.field (types.field_type (types.long t h) q g few)) r = ap begins_item h
typed_front (types.field (types.field_type (types.boolean t h) q g few)) r = ap begins_item h
typed_front (types.field (types.field_type (types.point t h n) q g few)) r = ap begins_item h
typed_front (types.field (types.field_type (types.rect_domain t h n) q g few)) r = ap begins_item h
typed_front (types.field (types.field_type (types.named t h) q g few)) r = ap begins_item h
typed_front (types.wide (types.domain t h n q)) r = ap begins_item h
typed_front (types.wide (types.shared_region t h q)) r = ap begins_item h

declared_front : {l : List Token} {x : Stm} → Declared l x → (r : List Token) → begins_item (kind (l ++ r)) ≡ true
declared_front (grammar.declared {l = l} {m = m} t a ty h h2 right) r = ap (λ z. begins_item (kind z)) (append_assoc l (t ∷ a ∷ m) r) ∙ typed_front ty (t ∷ a ∷ (m ++ r))

stated_front : {b : Bool} {l : List Token} {x : Stm} → Stated b l x → (r : List Token) → begins_item (kind (l ++ r)) ≡ true
stated_front (grammar.block o c h xs h2) r = ap begins_item h
stated_front (grammar.empty t h) r = ap begins_item h
stated_front (grammar.if_alone i h c x) r = ap begins_item h
stated_front (grammar.if_else i d h c x h2 y) r = ap begins_item h
stated_front (grammar.while w h c x) r = ap begins_item h
stated_front (grammar.for f o p q c h h2 first h3 test h4 update h5 x) r = ap begins_item h
stated_front (grammar.foreach f o t i c h h2 h3 h4 d h5 x) r = ap begins_item h
stated_front (grammar.change {l = l} t d h) r = ap (λ z. begins_item (kind z)) (append_assoc l (t ∷ []) r) ∙ starts_item (kind (l ++ t ∷ r)) (starts_change d (t ∷ r))
stated_front (grammar.call t (grammar.start {l = l} s is) h) r = ap (λ z. begins_item (kind z)) (append_assoc l (t ∷ []) r) ∙ starts_item (kind (l ++ t ∷ r)) (front_starts l (t ∷ r) is)
stated_front (grammar.print p o c t (grammar.short u h4) h what h2 h3) r = ap begins_item h4
stated_front (grammar.print p o c t (grammar.long s d u v w h4 h5 h6 h7 h8) h what h2 h3) r = ap begins_item h4
stated_front (grammar.barrier i d b o c t h h2 h3 h4 h5 h6) r = ap begins_item h
stated_front (grammar.break b t h h2) r = ap begins_item h
stated_front (grammar.continue c t h h2) r = ap begins_item h
stated_front (grammar.return w t h value h2) r = ap begins_item h

-- no `else` stands behind a statement before more items
items_front : {l : List Token} {xs : List Stm} → Items l xs → (r : List Token) → kind r ≡ k.RightBrace → next_is k.KeywordElse (l ++ r) ≡ false
items_front grammar.no_item r h = ap (λ q. same_kind q k.KeywordElse) h
items_front (grammar.declaration {l = l} {m = m} t d h2 xs) r h = not_else (kind ((l ++ t ∷ m) ++ r)) (ap (λ z. begins_item (kind z)) (append_assoc l (t ∷ m) r) ∙ declared_front d (t ∷ (m ++ r)))
items_front (grammar.statement {l = l} {m = m} x xs) r h = not_else (kind ((l ++ m) ++ r)) (ap (λ z. begins_item (kind z)) (append_assoc l m r) ∙ stated_front x (m ++ r))

some_token : (l : List Token) → begins_item (kind (l ++ [])) ≡ true → 0 < length l
some_token [] h = cc
some_token (t ∷ l) h = omega arith

module _ (limits : Limits) (allows : 0 < limits.weight) (fuel : ℕ) where
  -- ---- statements that aren't compound

  call_part : (x : Exp) (t : Token) (r : List Token) → t.kind ≡ k.Semicolon → IsRead limits fuel (expr_stmt (up_to limits) fuel (x, Call)) (Free ∷ []) (t ∷ []) r (tree.Call x)
  unfolding expr_stmt
  call_part x t r h = same_reads (parts.expr_stmt_if (up_to limits) fuel (x, Call) true)
      (ap (λ q. parts.expr_stmt_if (up_to limits) fuel (x, Call) (true && same_kind q k.Semicolon) (t ∷ r)) h) (took done_reads)

  change_reads : {p : Parser Stm} {l : List Token} {x : Stm} → StartsWith limits p (expr_stmt (up_to limits) fuel)
      → (d : Changed l x) (t : Token) → t.kind ≡ k.Semicolon → (r : List Token)
      → IsRead limits fuel p (changed_loads d ++ Free ∷ []) (l ++ t ∷ []) r x
  unfolding expr_stmt
  change_reads begin d t h r = changed_reads limits allows fuel begin (λ x i. and_then (expect k.Semicolon i) (λ _ i. Ok (x, i)))
      (λ target i. refl) d (semicolon_ends h) (want k.Semicolon _ h done_reads)

  call_reads : {p : Parser Stm} {l : List Token} {x : Exp} → StartsWith limits p (expr_stmt (up_to limits) fuel) → Start Call l x
      → (t : Token) → t.kind ≡ k.Semicolon → (r : List Token) → IsRead limits fuel p (weights l ++ Free ∷ []) (l ++ t ∷ []) r (tree.Call x)
  call_reads begin s t h r = start_reads limits allows fuel begin s (call_ends h) (call_part _ t r h)

  print_reads : {l m : List Token} {what : PrintTree} (p o c t : Token) → Printer l p → o.kind ≡ k.LeftParen → (s : Printed m what) → c.kind ≡ k.RightParen → t.kind ≡ k.Semicolon → (r : List Token)
      → IsRead limits fuel (print (up_to limits) fuel) (free l ++ Free ∷ (printed_loads s ++ Free ∷ Free ∷ [])) (l ++ o ∷ (m ++ c ∷ t ∷ [])) r (tree.Print p.place what)
  unfolding print
  print_reads p o c t printer ho s hc ht r = then_reads _ (printer_reads limits fuel printer _)
      (want k.LeftParen _ ho (then_reads _ (printed_reads limits fuel s _ hc) (want k.RightParen _ hc (want k.Semicolon _ ht done_reads))))

  barrier_reads : (d b o c t : Token) → d.kind ≡ k.Dot → b.kind ≡ k.Name (codes "barrier") → o.kind ≡ k.LeftParen → c.kind ≡ k.RightParen → t.kind ≡ k.Semicolon → (r : List Token)
      → IsRead limits fuel (barrier (up_to limits) fuel) (free (d ∷ b ∷ o ∷ c ∷ t ∷ [])) (d ∷ b ∷ o ∷ c ∷ t ∷ []) r (tree.Barrier b.place)
  unfolding barrier
  barrier_reads d b o c t hd hb ho hc ht r = want k.Dot _ hd (want_word (codes "barrier") _ refl hb (want k.LeftParen _ ho (want k.RightParen _ hc (want k.Semicolon _ ht done_reads))))

  break_reads : (b t : Token) → t.kind ≡ k.Semicolon → (r : List Token) → IsRead limits fuel (break_out (up_to limits) fuel) (free (b ∷ t ∷ [])) (b ∷ t ∷ []) r (tree.Break b.place)
  unfolding break_out
  break_reads b t ht r = took (want k.Semicolon _ ht done_reads)

  continue_reads : (c t : Token) → t.kind ≡ k.Semicolon → (r : List Token) → IsRead limits fuel (continue_on (up_to limits) fuel) (free (c ∷ t ∷ [])) (c ∷ t ∷ []) r (tree.Continue c.place)
  unfolding continue_on
  continue_reads c t ht r = took (want k.Semicolon _ ht done_reads)

  return_reads : {l : List Token} {value : Option Exp} (w t : Token) (s : Optional l value) → t.kind ≡ k.Semicolon → (r : List Token)
      → IsRead limits fuel (return_from (up_to limits) fuel) (Free ∷ (optional_loads s ++ Free ∷ [])) (w ∷ (l ++ t ∷ [])) r (tree.Return w.place value)
  unfolding return_from
  return_reads w t s ht r = took (then_reads _ (optional_part limits fuel s _ ht) (want k.Semicolon _ ht done_reads))

  small_is : (levels : ℕ) (i : List Token) (q : TokenKind) → kind i ≡ q → is_compound q ≡ false → stmt (up_to limits) fuel levels i ≡ spec.small_by (up_to limits) fuel q i
  unfolding stmt simple_stmt
  small_is zero i q h simple_stmt = same_test (is_compound (kind i)) false _ _ i (ap is_compound h ∙ simple_stmt) ∙ ap (λ z. spec.small_by (up_to limits) fuel z i) h
  small_is (suc n) i q h simple_stmt = same_test (is_compound (kind i)) false _ _ i (ap is_compound h ∙ simple_stmt) ∙ ap (λ z. spec.small_by (up_to limits) fuel z i) h

  small_starts : (levels : ℕ) (i : List Token) (q : TokenKind) → kind i ≡ q → starts q ≡ true → stmt (up_to limits) fuel levels i ≡ and_then (operand_to limits i) (expr_stmt (up_to limits) fuel)
  small_starts levels i (k.Name name) h begin = small_is levels i (k.Name name) h refl
  small_starts levels i k.KeywordThis h begin = small_is levels i k.KeywordThis h refl
  small_starts levels i k.LeftParen h begin = small_is levels i k.LeftParen h refl
  small_starts levels i _ h begin = absurd (false≢true begin)

  stmt_starts : (levels : ℕ) → StartsWith limits (stmt (up_to limits) fuel levels) (expr_stmt (up_to limits) fuel)
  stmt_starts levels = record { goes_on = λ i h _. small_starts levels i (kind i) refl h }

  -- ---- compound statements, with a reader of the statements in them

  module _ (inner : Parser Stm) where
    block_reads : {l r : List Token} {loads : List Load} {xs : List Stm} (c : Token) → c.kind ≡ k.RightBrace
        → IsRead limits fuel (items (up_to limits) fuel inner fuel []) loads l (c ∷ r) xs
        → IsRead limits fuel (block (up_to limits) fuel inner) (loads ++ Free ∷ []) (l ++ c ∷ []) r (tree.block xs)
    unfolding block
    block_reads c h part = then_reads _ part (want k.RightBrace _ h done_reads)

    if_reads : {l m r : List Token} {loads : List Load} {c : Exp} {x : Stm} (at : Place) (s : Condition l c) → next_is k.KeywordElse r ≡ false → IsRead limits fuel inner loads m r x
        → IsRead limits fuel (conditional (up_to limits) fuel inner at) (condition_loads s ++ loads) (l ++ m) r (tree.If at c x)
    unfolding conditional
    if_reads at s free part = then_reads _ (condition_reads limits fuel s _) (last_reads (then_reads _ part (test_reads (next_is k.KeywordElse) _ _ false free done_reads)))

    else_reads : {l m v r : List Token} {la lb : List Load} {c : Exp} {x y : Stm} (at : Place) (s : Condition l c) (d : Token) → d.kind
        ≡ k.KeywordElse → IsRead limits fuel inner la m (d ∷ (v ++ r)) x → IsRead limits fuel inner lb v r y
        → IsRead limits fuel (conditional (up_to limits) fuel inner at) (condition_loads s ++ (la ++ Free ∷ lb)) (l ++ (m ++ d ∷ v)) r (tree.IfElse at c x y)
    unfolding conditional
    else_reads at s d h first second = then_reads _ (condition_reads limits fuel s _) (then_reads _ first (sees_reads k.KeywordElse _ _ h (took (made_reads _ second refl))))

    while_reads : {l m r : List Token} {loads : List Load} {c : Exp} {x : Stm} (at : Place) (s : Condition l c) → IsRead limits fuel inner loads m r x
        → IsRead limits fuel (while_loop (up_to limits) fuel inner at) (condition_loads s ++ loads) (l ++ m) r (tree.While at c x)
    unfolding while_loop
    while_reads at s part = then_reads _ (condition_reads limits fuel s _) (made_reads _ part refl)

    for_reads : {l m u v r : List Token} {loads : List Load} {begin change : MaybeStm} {test : Option Exp} {x : Stm} (at : Place)
        (o p q c : Token) → o.kind ≡ k.LeftParen → (f : First l begin) → p.kind ≡ k.Semicolon → (t : Optional m test)
        → q.kind ≡ k.Semicolon → (g : Update u change) → c.kind ≡ k.RightParen → IsRead limits fuel inner loads v r x
        → IsRead limits fuel (for_loop (up_to limits) fuel inner at)
        (Free ∷ (first_loads f ++ Free ∷ (optional_loads t ++ Free ∷ (update_loads g ++ Free ∷ loads))))
        (o ∷ (l ++ p ∷ (m ++ q ∷ (u ++ c ∷ v)))) r (tree.For at begin test change x)
    unfolding for_loop
    for_reads at o p q c ho f hp t hq g hc part =
        want k.LeftParen _ ho (then_reads _ (first_reads limits allows fuel f _ hp (semicolon_ends hp)) (want k.Semicolon _ hp (then_reads _ (optional_part limits fuel t _ hq) (want k.Semicolon _ hq
        (then_reads _ (update_reads limits allows fuel g _ hc (paren_ends hc)) (want k.RightParen _ hc (made_reads _ part refl)))))))

    foreach_reads : {l m r : List Token} {loads : List Load} {name : List ℕ} {domain : Exp} {x : Stm} (at : Place) (o t i c : Token)
        → o.kind ≡ k.LeftParen → t.kind ≡ k.Name name → i.kind ≡ k.Name (codes "in") → Whole 1 l domain
        → c.kind ≡ k.RightParen → IsRead limits fuel inner loads m r x
        → IsRead limits fuel (foreach_loop (up_to limits) fuel inner at) (Free ∷ Free ∷ Free ∷ (weights l ++ Free ∷ loads)) (o ∷ t ∷ i ∷ (l ++ c ∷ m)) r (tree.Foreach at t.place name domain x)
    unfolding foreach_loop
    foreach_reads at o t i c ho ht hi domain hc part =
        want k.LeftParen _ ho (name_took _ ht (want_word (codes "in") _ refl hi (then_reads _ (whole (ends paren_closes hc) domain) (want k.RightParen _ hc (made_reads _ part refl)))))

  compound_reads : {ts r : List Token} {loads : List Load} {x : Stm} (levels level : ℕ) → levels + level ≡ suc limits.level
      → (t : Token) (q : TokenKind) → t.kind ≡ q → is_compound q ≡ true → Loaded (Level level ∷ loads) (t ∷ ts)
      → ((n : ℕ) → n + suc level ≡ suc limits.level → IsRead limits fuel
      (compound (up_to limits) fuel (stmt (up_to limits) fuel n) t.place q) loads ts r x)
      → IsRead limits fuel (stmt (up_to limits) fuel levels) (Level level ∷ loads) (t ∷ ts) r x
  unfolding stmt
  compound_reads {ts = ts} {r = r} zero level all t q h begin loaded part =
      over_reads (lt-ltb limits.level level (omega (arith, all))) loaded (same_test (is_compound t.kind) true _ _ (t ∷ (ts ++ r)) (ap is_compound h ∙ begin))
  compound_reads {ts = ts} {r = r} (suc n) level all t q h begin loaded part =
      load_took (le-ltb limits.level level (omega (arith, all))) (same_reads (compound (up_to limits) fuel (stmt (up_to limits) fuel n) t.place q)
      (same_test (is_compound t.kind) true _ _ (t ∷ (ts ++ r)) (ap is_compound h ∙ begin)
      ∙ ap (λ z. compound (up_to limits) fuel (stmt (up_to limits) fuel n) t.place z (ts ++ r)) h) (part n (omega (arith, all))))

  -- ---- items

  item_type : (inner : Parser Stm) (q : TokenKind) (i : List Token) → begins_declaration q ≡ true
      → spec.item_by (up_to limits) fuel inner q i ≡ and_then (any_type (up_to limits) fuel i)
      (λ ty i. and_then (declared (up_to limits) fuel ty i) (λ x i. and_then (expect k.Semicolon i) (λ _ i. Ok (x, i))))
  item_type inner k.KeywordInt i h = refl
  item_type inner k.KeywordLong i h = refl
  item_type inner k.KeywordBoolean i h = refl
  item_type inner k.KeywordPoint i h = refl
  item_type inner k.KeywordRectDomain i h = refl
  item_type inner k.KeywordDomain i h = refl
  item_type inner k.KeywordSharedRegion i h = refl
  item_type inner _ i h = absurd (false≢true h)

  item_declares : (inner : Parser Stm) → DeclaresWith fuel (item (up_to limits) fuel inner)
      (λ ty i. and_then (declared (up_to limits) fuel ty i) (λ x i. and_then (expect k.Semicolon i) (λ _ i. Ok (x, i))))
  unfolding item
  item_declares inner = declares_with limits allows fuel _ (λ t ts r name ty h is. ap (λ q. spec.item_by (up_to limits) fuel inner q (t ∷ ts)) h ∙ then_ok _ is) (λ i h. item_type inner (kind i) i h)

  item_operand : (levels : ℕ) (q : TokenKind) (i : List Token) → kind i ≡ q → is_name q ≡ false → starts q ≡ true
      → spec.item_by (up_to limits) fuel (stmt (up_to limits) fuel levels) q i
      ≡ and_then (operand_to limits i) (expr_stmt (up_to limits) fuel)
  item_operand levels (k.Name name) i is h h2 = absurd (false≢true (sym h))
  item_operand levels k.KeywordThis i is h h2 = small_starts levels i k.KeywordThis is h2
  item_operand levels k.LeftParen i is h h2 = small_starts levels i k.LeftParen is h2
  item_operand levels _ i is h h2 = absurd (false≢true h2)

  item_starts : (levels : ℕ) → StartsWith limits (item (up_to limits) fuel (stmt (up_to limits) fuel levels)) (expr_stmt (up_to limits) fuel)
  unfolding item
  item_starts levels =
      starts_with limits allows fuel _ (λ t ts name h behind. ap (λ q. spec.item_by (up_to limits) fuel
      (stmt (up_to limits) fuel levels) q (t ∷ ts)) h ∙ named_starts limits allows fuel t ts name
      (spec.named_item (up_to limits) fuel (stmt (up_to limits) fuel levels)) h behind)
      (λ i h h2. item_operand levels (kind i) i refl h h2)

  -- the first tokens of statements that begin with no operand
  abbrev leads : TokenKind → Bool
  leads k.LeftBrace = true
  leads k.Semicolon = true
  leads k.KeywordIf = true
  leads k.KeywordWhile = true
  leads k.KeywordFor = true
  leads k.KeywordForeach = true
  leads k.KeywordPrintln = true
  leads k.KeywordSystem = true
  leads k.KeywordTi = true
  leads k.KeywordBreak = true
  leads k.KeywordContinue = true
  leads k.KeywordReturn = true
  leads _ = false

  item_leads : (inner : Parser Stm) (q : TokenKind) (i : List Token) → leads q ≡ true → spec.item_by (up_to limits) fuel inner q i ≡ inner i
  item_leads inner k.LeftBrace i h = refl
  item_leads inner k.Semicolon i h = refl
  item_leads inner k.KeywordIf i h = refl
  item_leads inner k.KeywordWhile i h = refl
  item_leads inner k.KeywordFor i h = refl
  item_leads inner k.KeywordForeach i h = refl
  item_leads inner k.KeywordPrintln i h = refl
  item_leads inner k.KeywordSystem i h = refl
  item_leads inner k.KeywordTi i h = refl
  item_leads inner k.KeywordBreak i h = refl
  item_leads inner k.KeywordContinue i h = refl
  item_leads inner k.KeywordReturn i h = refl
  item_leads inner _ i h = absurd (false≢true h)

  led_item : {loads : List Load} {l r : List Token} {x : Stm} (inner : Parser Stm) → leads (kind (l ++ r)) ≡ true
      → IsRead limits fuel inner loads l r x → IsRead limits fuel (item (up_to limits) fuel inner) loads l r x
  unfolding item
  led_item {l = l} {r = r} inner h part = same_reads inner (item_leads inner (kind (l ++ r)) (l ++ r) h) part

  item_reads : {b : Bool} {l : List Token} {x : Stm} (s : Stated b l x) (levels n : ℕ) (r : List Token)
      → IsRead limits fuel (stmt (up_to limits) fuel levels) (stated_loads n s) l r x
      → IsRead limits fuel (item (up_to limits) fuel (stmt (up_to limits) fuel levels)) (stated_loads n s) l r x
  item_reads (grammar.block o c h xs h2) levels n r part = led_item (stmt (up_to limits) fuel levels) (ap leads h) part
  item_reads (grammar.empty t h) levels n r part = led_item (stmt (up_to limits) fuel levels) (ap leads h) part
  item_reads (grammar.if_alone i h c x) levels n r part = led_item (stmt (up_to limits) fuel levels) (ap leads h) part
  item_reads (grammar.if_else i d h c x h2 y) levels n r part = led_item (stmt (up_to limits) fuel levels) (ap leads h) part
  item_reads (grammar.while w h c x) levels n r part = led_item (stmt (up_to limits) fuel levels) (ap leads h) part
  item_reads (grammar.for f o p q c h h2 first h3 test h4 update h5 x) levels n r part = led_item (stmt (up_to limits) fuel levels) (ap leads h) part
  item_reads (grammar.foreach f o t i c h h2 h3 h4 d h5 x) levels n r part = led_item (stmt (up_to limits) fuel levels) (ap leads h) part
  item_reads (grammar.change t d h) levels n r part = change_reads (item_starts levels) d t h r
  item_reads (grammar.call t e h) levels n r part = call_reads (item_starts levels) e t h r
  item_reads (grammar.print p o c t (grammar.short u h4) h what h2 h3) levels n r part = led_item (stmt (up_to limits) fuel levels) (ap leads h4) part
  item_reads (grammar.print p o c t (grammar.long s d u v w h4 h5 h6 h7 h8) h what h2 h3) levels n r part = led_item (stmt (up_to limits) fuel levels) (ap leads h4) part
  item_reads (grammar.barrier i d b o c t h h2 h3 h4 h5 h6) levels n r part = led_item (stmt (up_to limits) fuel levels) (ap leads h) part
  item_reads (grammar.break b t h h2) levels n r part = led_item (stmt (up_to limits) fuel levels) (ap leads h) part
  item_reads (grammar.continue c t h h2) levels n r part = led_item (stmt (up_to limits) fuel levels) (ap leads h) part
  item_reads (grammar.return w t h value h2) levels n r part = led_item (stmt (up_to limits) fuel levels) (ap leads h) part

  items_stop : (inner : Parser Stm) (n : ℕ) (found : List Stm) (r : List Token) → 0 < n → kind r ≡ k.RightBrace → IsRead limits fuel (items (up_to limits) fuel inner n found) [] [] r found
  unfolding items
  items_stop inner zero found r some h = absurd (omega arith)
  items_stop inner (suc n) found r some h = sees_reads k.RightBrace _ _ h done_reads

  items_turn : {la lb : List Load} {a b r : List Token} {x : Stm} (inner : Parser Stm) (n : ℕ) (found xs : List Stm) → next_is k.RightBrace ((a ++ b) ++ r) ≡ false
      → IsRead limits fuel (item (up_to limits) fuel inner) la a (b ++ r) x → IsRead limits fuel (items (up_to limits) fuel inner n (found ++ x ∷ [])) lb b r ((found ++ x ∷ []) ++ xs)
      → IsRead limits fuel (items (up_to limits) fuel inner (suc n) found) (la ++ lb) (a ++ b) r (found ++ x ∷ xs)
  unfolding items
  items_turn {x = x} inner n found xs h one rest = test_reads (next_is k.RightBrace) _ _ false h (then_reads _ one (result_reads (append_assoc found (x ∷ []) xs) rest))

  -- ---- statements and items

  mutual
    pub stmt_reads : {b : Bool} {l : List Token} {x : Stm} (s : Stated b l x) (levels level : ℕ) → levels + level ≡ suc limits.level
        → (r : List Token) → (b ≡ true → next_is k.KeywordElse r ≡ false)
        → IsRead limits fuel (stmt (up_to limits) fuel levels) (stated_loads level s) l r x
    stmt_reads (grammar.block o c h xs h2) levels level all r free =
        compound_reads levels level all o k.LeftBrace h refl (stated_loaded level (grammar.block o c h xs h2))
        (λ n less. block_reads (stmt (up_to limits) fuel n) c h2 (bounded_reads (items_loaded (suc level) xs) (λ lt. items_reads xs n (suc level) less fuel [] lt (c ∷ r) h2)))
    stmt_reads (grammar.empty t h) levels level all r free = same_reads (spec.small_by (up_to limits) fuel k.Semicolon) (small_is levels (t ∷ r) k.Semicolon h refl) (took done_reads)
    stmt_reads (grammar.if_alone i h c x) levels level all r free =
        compound_reads levels level all i k.KeywordIf h refl (stated_loaded level (grammar.if_alone i h c x))
        (λ n less. if_reads (stmt (up_to limits) fuel n) i.place c (free refl) (stmt_reads x n (suc level) less r (λ _. free refl)))
    stmt_reads (grammar.if_else {v = v} i d h c x h2 y) levels level all r free =
        compound_reads levels level all i k.KeywordIf h refl (stated_loaded level (grammar.if_else i d h c x h2 y))
        (λ n less. else_reads (stmt (up_to limits) fuel n) i.place c d h2 (stmt_reads x n (suc level) less (d ∷ (v ++ r)) (λ wrong. cc)) (stmt_reads y n (suc level) less r free))
    stmt_reads (grammar.while w h c x) levels level all r free =
        compound_reads levels level all w k.KeywordWhile h refl (stated_loaded level (grammar.while w h c x))
        (λ n less. while_reads (stmt (up_to limits) fuel n) w.place c (stmt_reads x n (suc level) less r free))
    stmt_reads (grammar.for f o p q c h h2 first h3 test h4 update h5 x) levels level all r free =
        compound_reads levels level all f k.KeywordFor h refl (stated_loaded level (grammar.for f o p q c h h2 first h3 test h4 update h5 x))
        (λ n less. for_reads (stmt (up_to limits) fuel n) f.place o p q c h2 first h3 test h4 update h5 (stmt_reads x n (suc level) less r free))
    stmt_reads (grammar.foreach f o t i c h h2 h3 h4 d h5 x) levels level all r free =
        compound_reads levels level all f k.KeywordForeach h refl (stated_loaded level (grammar.foreach f o t i c h h2 h3 h4 d h5 x))
        (λ n less. foreach_reads (stmt (up_to limits) fuel n) f.place o t i c h2 h3 h4 d h5 (stmt_reads x n (suc level) less r free))
    stmt_reads (grammar.change t d h) levels level all r free = change_reads (stmt_starts levels) d t h r
    stmt_reads (grammar.call t e h) levels level all r free = call_reads (stmt_starts levels) e t h r
    stmt_reads (grammar.print {m = m} p o c t (grammar.short u h4) h what h2 h3) levels level all r free =
        same_reads _ (small_is levels (u ∷ o ∷ ((m ++ c ∷ t ∷ []) ++ r)) k.KeywordPrintln h4 refl) (print_reads p o c t (grammar.short u h4) h what h2 h3 r)
    stmt_reads (grammar.print {m = m} p o c t (grammar.long s d u v w h4 h5 h6 h7 h8) h what h2 h3) levels level all r free =
        same_reads _ (small_is levels (s ∷ d ∷ u ∷ v ∷ w ∷ o ∷ ((m ++ c ∷ t ∷ []) ++ r)) k.KeywordSystem h4 refl) (print_reads p o c t (grammar.long s d u v w h4 h5 h6 h7 h8) h what h2 h3 r)
    stmt_reads (grammar.barrier i d b o c t h h2 h3 h4 h5 h6) levels level all r free =
        same_reads (spec.small_by (up_to limits) fuel k.KeywordTi) (small_is levels (i ∷ d ∷ b ∷ o ∷ c ∷ t ∷ r) k.KeywordTi h refl) (took (barrier_reads d b o c t h2 h3 h4 h5 h6 r))
    stmt_reads (grammar.break b t h h2) levels level all r free = same_reads _ (small_is levels (b ∷ t ∷ r) k.KeywordBreak h refl) (break_reads b t h2 r)
    stmt_reads (grammar.continue c t h h2) levels level all r free = same_reads _ (small_is levels (c ∷ t ∷ r) k.KeywordContinue h refl) (continue_reads c t h2 r)
    stmt_reads (grammar.return {l = l} w t h value h2) levels level all r free = same_reads _ (small_is levels (w ∷ ((l ++ t ∷ []) ++ r)) k.KeywordReturn h refl) (return_reads w t value h2 r)

    pub items_reads : {l : List Token} {xs : List Stm} (s : Items l xs) (levels level : ℕ) → levels + level ≡ suc limits.level
        → (n : ℕ) (found : List Stm) → length l < n → (r : List Token) → kind r ≡ k.RightBrace
        → IsRead limits fuel (items (up_to limits) fuel (stmt (up_to limits) fuel levels) n found) (items_loads level s) l r (found ++ xs)
    items_reads grammar.no_item levels level all n found lt r h = result_reads (sym (append_nil found)) (items_stop (stmt (up_to limits) fuel levels) n found r (omega arith) h)
    items_reads (grammar.declaration t d h2 xs) levels level all zero found lt r h = absurd (omega arith)
    items_reads (grammar.declaration {l = l} {m = m} t {x = x} {xs = rest} d h2 xs) levels level all (suc n) found lt r h =
        let same = append_assoc l (t ∷ []) m in
        ungroup_reads (declared_loads d) (Free ∷ []) (items_loads level xs) l (t ∷ []) m
        (items_turn (stmt (up_to limits) fuel levels) n found rest (ap (λ z. next_is k.RightBrace (z ++ r)) same
        ∙ not_end (kind ((l ++ t ∷ m) ++ r)) (ap (λ z. begins_item (kind z)) (append_assoc l (t ∷ m) r)
        ∙ declared_front d (t ∷ (m ++ r))))
        (declared_reads limits allows fuel (item_declares (stmt (up_to limits) fuel levels))
        (λ x i. and_then (expect k.Semicolon i) (λ _ i. Ok (x, i))) (λ ty i. refl) d (semicolon_ends h2)
        (want k.Semicolon _ h2 done_reads))
        (items_reads xs levels level all n (found ++ x ∷ []) (omega (arith, length-append l (t ∷ m))) r h))
    items_reads (grammar.statement x xs) levels level all zero found lt r h = absurd (omega arith)
    items_reads (grammar.statement {l = l} {m = m} {x = y} {xs = rest} x xs) levels level all (suc n) found lt r h =
        items_turn (stmt (up_to limits) fuel levels) n found rest (not_end (kind ((l ++ m) ++ r)) (ap (λ z. begins_item (kind z)) (append_assoc l m r) ∙ stated_front x (m ++ r)))
        (item_reads x levels level (m ++ r) (stmt_reads x levels level all (m ++ r) (λ _. items_front xs r h)))
        (items_reads xs levels level all n (found ++ y ∷ []) (omega (arith, length-append l m, some_token l (stated_front x []))) r h)
