-- The parser is proved complete for expressions: it parses each derivation of the grammar, if the token after it can't continue it.
use Rattle.std.proofs.Common.{◌≡◌, ℕ, zero, suc, ◌+◌, ◌<◌, ◌≤◌, List, [], ◌∷◌, ◌++◌, length, Option, Some, None, is_some, Ok, Err, refl, sym, ap, ◌∙◌, subst, append_assoc, arith, length-append, true, false, Bool, nat_lt, if◌then◌else◌, codes}
use Rattle.std.proofs.lemmas.Bool.{le-ltb, lt-ltb}
use Rattle.ti_base.specs.declared.place.Place.{Place}
use Rattle.ti_syntax.specs.declared.token.Token.{Token}
use Rattle.ti_syntax.specs.declared.token.TokenKind.{TokenKind}
use Rattle.ti_syntax.specs.declared.token.TokenKind.TheVariants as k
use Rattle.ti_syntax.specs.declared.tree.types.Base.{Base}
use Rattle.ti_syntax.specs.declared.tree.types.Base.TheVariants as b
use Rattle.ti_syntax.specs.declared.tree.types.Qualifier.{Qualifier}
use Rattle.ti_syntax.specs.declared.tree.types.QualifierWord.{QualifierWord}
use Rattle.ti_syntax.specs.declared.tree.exprs.UnaryOperator.{UnaryOperator}
use Rattle.ti_syntax.specs.declared.tree.exprs.BinaryOperator.{BinaryOperator}
use Rattle.ti_syntax.specs.Trees.Types.{GridTree, TypeTree}
use Rattle.ti_syntax.specs.Trees.Expressions.{Exp, RangeTree}
use Rattle.ti_syntax.specs.Trees.Expressions as e
use Rattle.ti_syntax.specs.Tokens.{same_kind}
use Rattle.ti_syntax.specs.Spelling.Operators.{prefix_of, infix_of, strength, qualifier_of}
use Rattle.ti_syntax.specs.Spelling.Types.{Based, Qualified, Gridded, FieldType, CastType, is_name_alone}
use Rattle.ti_syntax.specs.Spelling.Types as types
use Rattle.ti_syntax.specs.Spelling.Expressions.{Ending, Target, Call, Other, Whole, Prefixed, Postfixed, Args, Listed, Ranges, Range}
use Rattle.ti_syntax.specs.Spelling.Expressions as grammar
use Rattle.ti_parse_expr.specs.Mirrors.Input.{At, ParseOutcome, place, Parser, and_then, kind, after_next, next_is, spells, expect, take_token, any_name, name_of_kind}
use Rattle.ti_parse_expr.specs.Mirrors.Types.{base as type_base, grid, grids}
use Rattle.ti_parse_expr.specs.Mirrors.Exprs as spec
use Rattle.ti_parse_expr.specs.Mirrors.Exprs.{Operand, begins_type, is_dim_token, more_args, args, more_parts, parts_from, parts, range_from}
use Rattle.ti_parse_expr.specs.Mirrors.Exprs.{more_ranges, ranges_from, bracket, process_name, process, name_or_call, member, index, postfix}
use Rattle.ti_parse_expr.specs.Mirrors.Exprs.{group, operand, operation, climb, cast, cast_from, cast_from_grid, group_from}
use Rattle.ti_parse_expr.specs.Mirrors.Exprs.{paren_name_bracket, paren_name, paren, unary, prefix, level, expr}
use Rattle.ti_parse_expr.proofs.Law.{Says}
use Rattle.ti_parse_expr.proofs.Phrases.{bound, binds, binds_small, strength_small, prefixed_some, whole_some}
use Rattle.ti_parse_expr.proofs.Sound.{Below, expr_says}
use Rattle.ti_parse_expr.proofs.Follows.{then_ok, and_then_assoc, first_of_two, test_reads, expect_reads, goes, is_name, last_kind, last_append, NoCall, Stops, IsCloser, closer_stops, paren_closes, bracket_closes, comma_closes, colon_closes, operator_ends}
use Rattle.ti_parse_expr.proofs.CompleteTypes.{base_reads, EndsType, field_type_reads, grid_reads, grids_read, gridded_front}
use Rattle.ti_parse_expr.proofs.Fronts.{begins, front_whole, not_type, not_dim, listed_opens}

module _ (fuel : ℕ) (expr : ℕ → Parser Exp)
    (expr_reads : (n : ℕ) (l r : List Token) (x : Exp) → 1 ≤ n → n ≤ 11 → Whole n l x → Stops n l r → length (l ++ r) < fuel → expr n (l ++ r) ≡ Ok (x, r)) where
  -- an expression before a token that can't go on with it
  inner_reads : {l : List Token} {x : Exp} → Whole 1 l x → (q : TokenKind) → IsCloser q → (c : Token) → c.kind ≡ q → (r : List Token)
      → length (l ++ c ∷ r) < fuel → expr 1 (l ++ c ∷ r) ≡ Ok (x, c ∷ r)
  inner_reads {l = l} {x = x} s q closes c h r lt = expr_reads 1 l (c ∷ r) x (omega arith) (omega arith) s (closer_stops q c r 1 l closes (omega arith) h) lt

  -- ---- arguments

  more_args_read : {l : List Token} {xs : List Exp} → Listed l xs → (m : ℕ) (found : List Exp) (c : Token) (r : List Token) → c.kind
      ≡ k.RightParen → length (l ++ c ∷ r) ≤ m → length (l ++ c ∷ r) < fuel
      → more_args fuel expr m found (l ++ c ∷ r) ≡ Ok (found ++ xs, c ∷ r)
  unfolding more_args
  more_args_read (grammar.last {l = l} s) zero found c r h le lt = absurd (omega (arith, length-append l (c ∷ r)))
  more_args_read (grammar.last {l = l} {x = x} s) (suc m) found c r h le lt =
      then_ok _ (inner_reads s k.RightParen paren_closes c h r lt) ∙ test_reads (same_kind c.kind k.Comma) false _ _ (c ∷ r) (ap (λ q. same_kind q k.Comma) h)
  more_args_read (grammar.more {l = l} {m = l2} t s h2 q) zero found c r h le lt = absurd (omega (arith, length-append (l ++ t ∷ l2) (c ∷ r)))
  more_args_read (grammar.more {l = l} {m = l2} t {x = x} {xs = xs} s h2 q) (suc m) found c r h le lt =
      let same = append_assoc l (t ∷ l2) (c ∷ r) in
      let n = ap length same in
      let n2 = length-append l (t ∷ (l2 ++ c ∷ r)) in
      ap (more_args fuel expr (suc m) found) same
      ∙ then_ok _ (inner_reads s k.Comma comma_closes t h2 (l2 ++ c ∷ r) (omega (arith, n)))
      ∙ test_reads (same_kind t.kind k.Comma) true _ _ (t ∷ (l2 ++ c ∷ r)) (ap (λ q. same_kind q k.Comma) h2)
      ∙ more_args_read q m (found ++ x ∷ []) c r h (omega (arith, n, n2)) (omega (arith, n, n2))
      ∙ ap (λ z. Ok (z, c ∷ r)) (append_assoc found (x ∷ []) xs)

  args_read : {l : List Token} {xs : List Exp} → Args l xs → (c : Token) → c.kind ≡ k.RightParen → (r : List Token) → length (l ++ c ∷ r) < fuel → args fuel expr (l ++ c ∷ r) ≡ Ok (xs, r)
  unfolding args
  args_read grammar.none c h r lt = test_reads (same_kind c.kind k.RightParen) true _ _ (c ∷ r) (ap (λ q. same_kind q k.RightParen) h)
  args_read (grammar.some {l = l} {xs = xs} s) c h r lt =
      test_reads (next_is k.RightParen (l ++ c ∷ r)) false _ _ (l ++ c ∷ r) (listed_opens s (c ∷ r))
      ∙ then_ok _ (more_args_read s fuel [] c r h (omega arith) lt)
      ∙ then_ok (λ _ j. Ok (xs, j)) (expect_reads k.RightParen c r refl h)

  call_reads : {l : List Token} {xs : List Exp} → Args l xs → (o c : Token) → o.kind ≡ k.LeftParen → c.kind ≡ k.RightParen
      → (make : List Exp → Operand) (other : Parser Operand) (r : List Token) → length (l ++ c ∷ r) < fuel
      → if◌then◌else◌ {A = Parser Operand} (next_is k.LeftParen (o ∷ (l ++ c ∷ r)))
      (λ i. and_then (take_token i) (λ _ i. and_then (args fuel expr i) (λ xs j. Ok (make xs, j)))) other (o ∷ (l ++ c ∷ r))
      ≡ Ok (make xs, r)
  call_reads s o c h h2 make other r lt =
      test_reads (same_kind o.kind k.LeftParen) true _ _ (o ∷ (_ ++ c ∷ r)) (ap (λ q. same_kind q k.LeftParen) h) ∙ then_ok (λ xs j. Ok (make xs, j)) (args_read s c h2 r lt)

  -- ---- parts of brackets

  more_parts_stop : (n : ℕ) (found : List Exp) (c : Token) (r : List Token) → c.kind ≡ k.RightBracket → more_parts fuel expr n found (c ∷ r) ≡ Ok (found, c ∷ r)
  unfolding more_parts
  more_parts_stop zero found c r h = refl
  more_parts_stop (suc n) found c r h = test_reads (same_kind c.kind k.Comma) false _ _ (c ∷ r) (ap (λ q. same_kind q k.Comma) h)

  more_parts_turn : (n : ℕ) (found : List Exp) (t : Token) (ts : List Token) → t.kind ≡ k.Comma
      → more_parts fuel expr (suc n) found (t ∷ ts) ≡ and_then (expr 1 ts) (λ x. more_parts fuel expr n (found ++ x ∷ []))
  unfolding more_parts
  more_parts_turn n found t ts h = test_reads (same_kind t.kind k.Comma) true _ _ (t ∷ ts) (ap (λ q. same_kind q k.Comma) h)

  more_parts_read : {l : List Token} {xs : List Exp} → Listed l xs → (n : ℕ) (found : List Exp) (t c : Token) (r : List Token) → t.kind
      ≡ k.Comma → c.kind ≡ k.RightBracket → length xs ≤ n → length (l ++ c ∷ r) < fuel
      → more_parts fuel expr n found (t ∷ (l ++ c ∷ r)) ≡ Ok (found ++ xs, c ∷ r)
  more_parts_read (grammar.last s) zero found t c r ht h few lt = absurd (omega (arith, few))
  more_parts_read (grammar.last {l = l} {x = x} s) (suc n) found t c r ht h few lt =
      more_parts_turn n found t (l ++ c ∷ r) ht ∙ then_ok (λ x. more_parts fuel expr n (found ++ x ∷ []))
      (inner_reads s k.RightBracket bracket_closes c h r lt) ∙ more_parts_stop n (found ++ x ∷ []) c r h
  more_parts_read (grammar.more u s h2 q) zero found t c r ht h few lt = absurd (omega (arith, few))
  more_parts_read (grammar.more {l = l} {m = m} u {x = x} {xs = xs} s h2 q) (suc n) found t c r ht h few lt =
      let same = append_assoc l (u ∷ m) (c ∷ r) in
      let len = ap length same in
      let n2 = length-append l (u ∷ (m ++ c ∷ r)) in
      ap (λ z. more_parts fuel expr (suc n) found (t ∷ z)) same
      ∙ more_parts_turn n found t (l ++ u ∷ (m ++ c ∷ r)) ht
      ∙ then_ok (λ x. more_parts fuel expr n (found ++ x ∷ [])) (inner_reads s k.Comma comma_closes u h2 (m ++ c ∷ r) (omega (arith, len)))
      ∙ more_parts_read q n (found ++ x ∷ []) u c r h2 h (omega (arith, few)) (omega (arith, len, n2))
      ∙ ap (λ z. Ok (z, c ∷ r)) (append_assoc found (x ∷ []) xs)

  parts_from_turn : (first : Exp) (i : List Token) (xs : List Exp) (c : Token) (r : List Token) → c.kind ≡ k.RightBracket
      → more_parts fuel expr 2 (first ∷ []) i ≡ Ok (xs, c ∷ r) → parts_from fuel expr first i ≡ Ok (xs, r)
  unfolding parts_from
  parts_from_turn first i xs c r h is = then_ok _ is ∙ then_ok (λ _ j. Ok (xs, j)) (expect_reads k.RightBracket c r refl h)

  -- the first part, and what is left behind it
  listed_split : {l : List Token} {xs : List Exp} → Listed l xs → length xs ≤ 3 → (c : Token) (r : List Token) → c.kind ≡ k.RightBracket → length (l ++ c ∷ r) < fuel
      → (first : Exp) × (s : List Token) × (expr 1 (l ++ c ∷ r) ≡ Ok (first, s)) × (next_is k.Colon s ≡ false) × (parts_from fuel expr first s ≡ Ok (xs, r))
  listed_split (grammar.last {l = l} {x = x} s) few c r h lt =
      (x, c ∷ r, inner_reads s k.RightBracket bracket_closes c h r lt, ap (λ q. same_kind q k.Colon) h, parts_from_turn x (c ∷ r) (x ∷ []) c r h (more_parts_stop 2 (x ∷ []) c r h))
  listed_split (grammar.more {l = l} {m = m} t {x = x} {xs = xs} s h2 q) few c r h lt =
      let same = append_assoc l (t ∷ m) (c ∷ r) in
      let len = ap length same in
      let n2 = length-append l (t ∷ (m ++ c ∷ r)) in (
        x,
        t ∷ (m ++ c ∷ r),
        ap (expr 1) same ∙ inner_reads s k.Comma comma_closes t h2 (m ++ c ∷ r) (omega (arith, len)),
        ap (λ q. same_kind q k.Colon) h2,
        parts_from_turn x (t ∷ (m ++ c ∷ r)) (x ∷ xs) c r h (more_parts_read q 2 (x ∷ []) t c r h2 h (omega (arith, few)) (omega (arith, len, n2))),
      )

  parts_read : {l : List Token} {xs : List Exp} → Listed l xs → length xs ≤ 3 → (c : Token) (r : List Token) → c.kind ≡ k.RightBracket
      → length (l ++ c ∷ r) < fuel → parts fuel expr (l ++ c ∷ r) ≡ Ok (xs, r)
  unfolding parts
  parts_read s few c r h lt = let (first, rest, is, no_colon, goes_on) = listed_split s few c r h lt in then_ok (parts_from fuel expr) is ∙ goes_on

  -- ---- ranges

  after_high_reads : (low high : Exp) (d : Token) (r : List Token) → same_kind d.kind k.Colon ≡ false
      → if◌then◌else◌ {A = Parser RangeTree} (next_is k.Colon (d ∷ r))
      (λ i. and_then (take_token i) (λ _ i. and_then (expr 1 i) (λ step j. Ok (e.Stepped low high step, j))))
      (λ i. Ok (e.Plain low high, i)) (d ∷ r) ≡ Ok (e.Plain low high, d ∷ r)
  after_high_reads low high d r h = test_reads (same_kind d.kind k.Colon) false _ _ (d ∷ r) h

  -- the lower bound, and what is left behind it
  range_split : {l : List Token} {x : RangeTree} → Range l x → (q : TokenKind) → IsCloser q → same_kind q k.Colon ≡ false → (d : Token) → d.kind ≡ q → (r : List Token) → length (l ++ d ∷ r) < fuel
      → (low : Exp) × (s : List Token) × (expr 1 (l ++ d ∷ r) ≡ Ok (low, s)) × (next_is k.Colon s ≡ true) × (range_from fuel expr low s ≡ Ok (x, d ∷ r))
  unfolding range_from
  range_split (grammar.plain {l = l} {m = m} s {low = low} {high = high} a hs b2) q closes no_colon d hd r lt =
      let same = append_assoc l (s ∷ m) (d ∷ r) in
      let len = ap length same in
      let n2 = length-append l (s ∷ (m ++ d ∷ r)) in (
        low,
        s ∷ (m ++ d ∷ r),
        ap (expr 1) same ∙ inner_reads a k.Colon colon_closes s hs (m ++ d ∷ r) (omega (arith, len)),
        ap (λ q. same_kind q k.Colon) hs,
        then_ok _ (expect_reads k.Colon s (m ++ d ∷ r) refl hs)
            ∙ then_ok _ (inner_reads b2 q closes d hd r (omega (arith, len, n2)))
            ∙ after_high_reads low high d r (ap (λ z. same_kind z k.Colon) hd ∙ no_colon),
      )
  range_split (grammar.stepped {l = l} {m = m} {v = v} s t {low = low} {high = high} {step = step} a hs b2 ht c2) q closes no_colon d hd r lt =
      let same = append_assoc l (s ∷ (m ++ t ∷ v)) (d ∷ r) in
      let e2 = append_assoc m (t ∷ v) (d ∷ r) in
      let len = ap length same in
      let len2 = ap length e2 in
      let n2 = length-append l (s ∷ ((m ++ t ∷ v) ++ d ∷ r)) in
      let n3 = length-append m (t ∷ (v ++ d ∷ r)) in (
        low,
        s ∷ ((m ++ t ∷ v) ++ d ∷ r),
        ap (expr 1) same ∙ inner_reads a k.Colon colon_closes s hs ((m ++ t ∷ v) ++ d ∷ r) (omega (arith, len)),
        ap (λ q. same_kind q k.Colon) hs,
        then_ok _ (expect_reads k.Colon s ((m ++ t ∷ v) ++ d ∷ r) refl hs)
            ∙ then_ok (λ high i. if◌then◌else◌ {A = Parser RangeTree} (next_is k.Colon i)
            (λ i. and_then (take_token i) (λ _ i. and_then (expr 1 i) (λ step j. Ok (e.Stepped low high step, j))))
            (λ i. Ok (e.Plain low high, i)) i)
            (ap (expr 1) e2 ∙ inner_reads b2 k.Colon colon_closes t ht (v ++ d ∷ r) (omega (arith, len, len2, n2)))
            ∙ test_reads (same_kind t.kind k.Colon) true _ _ (t ∷ (v ++ d ∷ r)) (ap (λ q. same_kind q k.Colon) ht)
            ∙ then_ok (λ step j. Ok (e.Stepped low high step, j)) (inner_reads c2 q closes d hd r (omega (arith, len, len2, n2, n3))),
      )

  more_ranges_stop : (n : ℕ) (found : List RangeTree) (c : Token) (r : List Token) → c.kind ≡ k.RightBracket → more_ranges fuel expr n found (c ∷ r) ≡ Ok (found, c ∷ r)
  unfolding more_ranges
  more_ranges_stop zero found c r h = refl
  more_ranges_stop (suc n) found c r h = test_reads (same_kind c.kind k.Comma) false _ _ (c ∷ r) (ap (λ q. same_kind q k.Comma) h)

  more_ranges_turn : (n : ℕ) (found : List RangeTree) (t : Token) (ts s r : List Token) (low : Exp) (x : RangeTree) → t.kind ≡ k.Comma
      → expr 1 ts ≡ Ok (low, s) → range_from fuel expr low s ≡ Ok (x, r)
      → more_ranges fuel expr (suc n) found (t ∷ ts) ≡ more_ranges fuel expr n (found ++ x ∷ []) r
  unfolding more_ranges
  more_ranges_turn n found t ts s r low x h is goes_on =
      test_reads (same_kind t.kind k.Comma) true _ _ (t ∷ ts) (ap (λ q. same_kind q k.Comma) h)
      ∙ then_ok (λ low i. and_then (range_from fuel expr low i) (λ x. more_ranges fuel expr n (found ++ x ∷ []))) is
      ∙ then_ok (λ x. more_ranges fuel expr n (found ++ x ∷ [])) goes_on

  more_ranges_read : {l : List Token} {rs : List RangeTree} → Ranges l rs → (n : ℕ) (found : List RangeTree) (t c : Token) (r : List Token)
      → t.kind ≡ k.Comma → c.kind ≡ k.RightBracket → length rs ≤ n → length (l ++ c ∷ r) < fuel
      → more_ranges fuel expr n found (t ∷ (l ++ c ∷ r)) ≡ Ok (found ++ rs, c ∷ r)
  more_ranges_read (grammar.last_range s) zero found t c r ht h few lt = absurd (omega (arith, few))
  more_ranges_read (grammar.last_range {l = l} {r = x} s) (suc n) found t c r ht h few lt =
      let (low, rest, is, colon, goes_on) = range_split s k.RightBracket bracket_closes refl c h r lt in
      more_ranges_turn n found t (l ++ c ∷ r) rest (c ∷ r) low x ht is goes_on ∙ more_ranges_stop n (found ++ x ∷ []) c r h
  more_ranges_read (grammar.more_ranges u s h2 q) zero found t c r ht h few lt = absurd (omega (arith, few))
  more_ranges_read (grammar.more_ranges {l = l} {m = m} u {r = x} {rs = xs} s h2 q) (suc n) found t c r ht h few lt =
      let same = append_assoc l (u ∷ m) (c ∷ r) in
      let len = ap length same in
      let n2 = length-append l (u ∷ (m ++ c ∷ r)) in
      let (low, rest, is, colon, goes_on) = range_split s k.Comma comma_closes refl u h2 (m ++ c ∷ r) (omega (arith, len)) in
      ap (λ z. more_ranges fuel expr (suc n) found (t ∷ z)) same
      ∙ more_ranges_turn n found t (l ++ u ∷ (m ++ c ∷ r)) rest (u ∷ (m ++ c ∷ r)) low x ht is goes_on
      ∙ more_ranges_read q n (found ++ x ∷ []) u c r h2 h (omega (arith, few)) (omega (arith, len, n2))
      ∙ ap (λ z. Ok (z, c ∷ r)) (append_assoc found (x ∷ []) xs)

  ranges_from_turn : (low : Exp) (i s : List Token) (x : RangeTree) (rs : List RangeTree) (c : Token) (r : List Token) → c.kind ≡ k.RightBracket → range_from fuel expr low i ≡ Ok (x, s)
      → more_ranges fuel expr 2 (x ∷ []) s ≡ Ok (rs, c ∷ r) → ranges_from fuel expr low i ≡ Ok (rs, r)
  unfolding ranges_from
  ranges_from_turn low i s x rs c r h is goes_on = then_ok _ is ∙ then_ok _ goes_on ∙ then_ok (λ _ j. Ok (rs, j)) (expect_reads k.RightBracket c r refl h)

  ranges_split : {l : List Token} {rs : List RangeTree} → Ranges l rs → length rs ≤ 3 → (c : Token) (r : List Token) → c.kind ≡ k.RightBracket → length (l ++ c ∷ r) < fuel
      → (low : Exp) × (s : List Token) × (expr 1 (l ++ c ∷ r) ≡ Ok (low, s)) × (next_is k.Colon s ≡ true) × (ranges_from fuel expr low s ≡ Ok (rs, r))
  ranges_split (grammar.last_range {l = l} {r = x} s) few c r h lt =
      let (low, rest, is, colon, goes_on) = range_split s k.RightBracket bracket_closes refl c h r lt in
      (low, rest, is, colon, ranges_from_turn low rest (c ∷ r) x (x ∷ []) c r h goes_on (more_ranges_stop 2 (x ∷ []) c r h))
  ranges_split (grammar.more_ranges {l = l} {m = m} t {r = x} {rs = xs} s h2 q) few c r h lt =
      let same = append_assoc l (t ∷ m) (c ∷ r) in
      let len = ap length same in
      let n2 = length-append l (t ∷ (m ++ c ∷ r)) in
      let (low, rest, is, colon, goes_on) = range_split s k.Comma comma_closes refl t h2 (m ++ c ∷ r) (omega (arith, len)) in (
        low,
        rest,
        subst (λ l. expr 1 l ≡ Ok (low, rest)) (sym same) is,
        colon,
        ranges_from_turn low rest (t ∷ (m ++ c ∷ r)) x (x ∷ xs) c r h goes_on (more_ranges_read q 2 (x ∷ []) t c r h2 h (omega (arith, few)) (omega (arith, len, n2))),
      )

  -- ---- literals in brackets

  point_reads : {l : List Token} {xs : List Exp} → Listed l xs → length xs ≤ 3 → (at : Place) (c : Token) (r : List Token) → c.kind
      ≡ k.RightBracket → length (l ++ c ∷ r) < fuel → bracket fuel expr at (l ++ c ∷ r) ≡ Ok (e.point at xs, r)
  unfolding bracket
  point_reads {xs = xs} s few at c r h lt =
      let (first, rest, is, no_colon, goes_on) = listed_split s few c r h lt in
      then_ok _ is ∙ test_reads (next_is k.Colon rest) false _ _ rest no_colon ∙ then_ok (λ xs j. Ok (e.point at xs, j)) goes_on

  rect_reads : {l : List Token} {rs : List RangeTree} → Ranges l rs → length rs ≤ 3 → (at : Place) (c : Token) (r : List Token) → c.kind
      ≡ k.RightBracket → length (l ++ c ∷ r) < fuel → bracket fuel expr at (l ++ c ∷ r) ≡ Ok (e.rect at rs, r)
  unfolding bracket
  rect_reads {rs = rs} s few at c r h lt =
      let (low, rest, is, colon, goes_on) = ranges_split s few c r h lt in
      then_ok _ is ∙ test_reads (next_is k.Colon rest) true _ _ rest colon ∙ then_ok (λ rs j. Ok (e.rect at rs, j)) goes_on

  -- ---- what begins with a name

  pub named_alone : (at : Place) (name : List ℕ) (r : List Token) → next_is k.LeftParen r ≡ false → name_or_call fuel expr at name r ≡ Ok ((e.Name at name, Target), r)
  unfolding name_or_call
  named_alone at name r h = test_reads (next_is k.LeftParen r) false _ _ r h

  named_call : {l : List Token} {xs : List Exp} → Args l xs → (at : Place) (name : List ℕ) (o c : Token) → o.kind ≡ k.LeftParen → c.kind ≡ k.RightParen → (r : List Token) → length (l ++ c ∷ r) < fuel
      → name_or_call fuel expr at name (o ∷ (l ++ c ∷ r)) ≡ Ok ((e.call at name xs, Call), r)
  unfolding name_or_call
  named_call s at name o c h h2 r lt = call_reads s o c h h2 (λ xs. (e.call at name xs, Call)) _ r lt

  name_reads : (t : Token) (name : List ℕ) (r : List Token) → t.kind ≡ k.Name name → any_name (t ∷ r) ≡ Ok (name, r)
  name_reads t name r h = ap (λ q. name_of_kind q (t ∷ r)) h

  member_select : (left : Exp) (t : Token) (name : List ℕ) (r : List Token) → t.kind ≡ k.Name name → next_is k.LeftParen r ≡ false
      → member fuel expr left (t ∷ r) ≡ Ok ((e.Select t.place left name, Target), r)
  unfolding member
  member_select left t name r h free = then_ok _ (name_reads t name r h) ∙ test_reads (next_is k.LeftParen r) false _ _ r free

  member_call : {l : List Token} {xs : List Exp} → Args l xs → (left : Exp) (t o c : Token) (name : List ℕ) (r : List Token) → t.kind
      ≡ k.Name name → o.kind ≡ k.LeftParen → c.kind ≡ k.RightParen → length (l ++ c ∷ r) < fuel
      → member fuel expr left (t ∷ o ∷ (l ++ c ∷ r)) ≡ Ok ((e.member t.place left name xs, Call), r)
  unfolding member
  member_call s left t o c name r h h2 h3 lt = then_ok _ (name_reads t name _ h) ∙ call_reads s o c h2 h3 (λ xs. (e.member t.place left name xs, Call)) _ r lt

  index_reads : {l : List Token} {xs : List Exp} → Listed l xs → length xs ≤ 3 → (at : Place) (left : Exp) (c : Token) (r : List Token) → c.kind ≡ k.RightBracket → length (l ++ c ∷ r) < fuel
      → index fuel expr at left (l ++ c ∷ r) ≡ Ok ((e.index at left xs, Target), r)
  unfolding index
  index_reads s few at left c r h lt = then_ok (λ xs j. Ok ((e.index at left xs, Target), j)) (parts_read s few c r h lt)

  -- ---- what stands behind an operand

  postfix_turn : (m : ℕ) (left : Operand) (t : Token) (ts : List Token) (q : TokenKind) → t.kind ≡ q
      → postfix fuel expr (suc m) left (t ∷ ts) ≡ spec.postfix_by fuel expr (postfix fuel expr m) left q (t ∷ ts)
  unfolding postfix
  postfix_turn m left t ts q h = ap (λ z. spec.postfix_by fuel expr (postfix fuel expr m) left z (t ∷ ts)) h

  postfix_stops_by : (more : Operand → Parser Operand) (left : Operand) (i : List Token) (q : TokenKind) → goes q ≡ false → spec.postfix_by fuel expr more left q i ≡ Ok (left, i)
  postfix_stops_by more left i k.Dot h = cc
  postfix_stops_by more left i k.LeftBracket h = cc
  postfix_stops_by more left i _ h = refl

  pub postfix_stops : (m : ℕ) (left : Operand) (r : List Token) → goes (kind r) ≡ false → 0 < m → postfix fuel expr m left r ≡ Ok (left, r)
  unfolding postfix
  postfix_stops zero left r h some = absurd (omega arith)
  postfix_stops (suc m) left r h some = postfix_stops_by (postfix fuel expr m) left r (kind r) h

  postfix_dot : (m : ℕ) (left x : Operand) (d : Token) (ts r : List Token) → d.kind ≡ k.Dot → member fuel expr left.0 ts ≡ Ok (x, r)
      → postfix fuel expr (suc m) left (d ∷ ts) ≡ postfix fuel expr m x r
  postfix_dot m left x d ts r h is = postfix_turn m left d ts k.Dot h ∙ then_ok (postfix fuel expr m) is

  postfix_bracket : (m : ℕ) (left x : Operand) (d : Token) (ts r : List Token) → d.kind ≡ k.LeftBracket → index fuel expr d.place left.0 ts ≡ Ok (x, r)
      → postfix fuel expr (suc m) left (d ∷ ts) ≡ postfix fuel expr m x r
  postfix_bracket m left x d ts r h is = postfix_turn m left d ts k.LeftBracket h ∙ then_ok (postfix fuel expr m) is

  -- more turns change nothing
  postfix_more_by : (m m2 : ℕ) (rec : (left x : Operand) (i r : List Token) → postfix fuel expr m left i ≡ Ok (x, r) → postfix fuel expr m2 left i ≡ Ok (x, r))
      → (left x : Operand) (i r : List Token) (q : TokenKind) → spec.postfix_by fuel expr (postfix fuel expr m) left q i ≡ Ok (x, r)
      → spec.postfix_by fuel expr (postfix fuel expr m2) left q i ≡ Ok (x, r)
  postfix_more_by m m2 rec left x i r k.Dot h =
      let (y, s, is, goes_on) = first_of_two (member fuel expr left.0 (after_next i)) (postfix fuel expr m) x r h in
      then_ok (postfix fuel expr m2) is ∙ rec y x s r goes_on
  postfix_more_by m m2 rec left x i r k.LeftBracket h =
      let (y, s, is, goes_on) = first_of_two (index fuel expr (place i) left.0 (after_next i)) (postfix fuel expr m) x r h in
      then_ok (postfix fuel expr m2) is ∙ rec y x s r goes_on
  postfix_more_by m m2 rec left x i r _ h = h

  postfix_more : (m m2 : ℕ) → m ≤ m2 → (left x : Operand) (i r : List Token) → postfix fuel expr m left i ≡ Ok (x, r) → postfix fuel expr m2 left i ≡ Ok (x, r)
  unfolding postfix
  postfix_more zero m2 le left x i r h = cc
  postfix_more (suc m) zero le left x i r h = absurd (omega arith)
  postfix_more (suc m) (suc m2) le left x i r h = postfix_more_by m m2 (postfix_more m m2 (omega arith)) left x i r (kind i) h

  -- ---- operands and prefixes

  operand_turn : (t : Token) (ts : List Token) (q : TokenKind) → t.kind ≡ q → operand fuel expr (t ∷ ts) ≡ spec.operand_by fuel expr q (t ∷ ts)
  unfolding operand
  operand_turn t ts q h = ap (λ z. spec.operand_by fuel expr z (t ∷ ts)) h

  prefix_turn : (t : Token) (ts : List Token) (q : TokenKind) → t.kind ≡ q → prefix fuel expr (t ∷ ts) ≡ spec.prefix_by fuel expr q (t ∷ ts)
  unfolding prefix
  prefix_turn t ts q h = ap (λ z. spec.prefix_by fuel expr z (t ∷ ts)) h

  -- the tree of an operand alone
  abbrev dropped : ParseOutcome Operand → ParseOutcome Exp
  dropped o = and_then o (λ y j. Ok (y.0, j))

  -- a token that begins an operand and is no parenthesis
  abbrev leads : TokenKind → Bool
  leads (k.Int n) = true
  leads (k.LongInt n) = true
  leads k.KeywordTrue = true
  leads k.KeywordFalse = true
  leads k.KeywordNull = true
  leads k.KeywordThis = true
  leads (k.Name name) = true
  leads k.LeftBracket = true
  leads k.KeywordTi = true
  leads _ = false

  prefix_leads : (q : TokenKind) (i : List Token) → leads q ≡ true → spec.prefix_by fuel expr q i ≡ dropped (operand fuel expr i)
  prefix_leads (k.Int n) i h = refl
  prefix_leads (k.LongInt n) i h = refl
  prefix_leads k.KeywordTrue i h = refl
  prefix_leads k.KeywordFalse i h = refl
  prefix_leads k.KeywordNull i h = refl
  prefix_leads k.KeywordThis i h = refl
  prefix_leads (k.Name name) i h = refl
  prefix_leads k.LeftBracket i h = refl
  prefix_leads k.KeywordTi i h = refl
  prefix_leads _ i h = cc

  -- what is left of the loop over what stands behind an operand, and of that over operators
  pub record PostfixLeft (l : List Token) (x : Operand) (r : List Token) : Type 0 where
    pub left : ℕ
    pub enough : length r < left
    pub operand : operand fuel expr (l ++ r) ≡ postfix fuel expr left x r
    pub prefix : prefix fuel expr (l ++ r) ≡ dropped (postfix fuel expr left x r)

  led : (t : Token) (ts : List Token) (l : List Token) (x : Operand) (r : List Token) (q : TokenKind) → t ∷ ts ≡ l ++ r → t.kind ≡ q → leads q ≡ true → length r < fuel
      → spec.operand_by fuel expr q (t ∷ ts) ≡ postfix fuel expr fuel x r → PostfixLeft l x r
  led t ts l x r q list h lead lt is =
      let reads : operand fuel expr (t ∷ ts) ≡ postfix fuel expr fuel x r = operand_turn t ts q h ∙ is in record {
        left = fuel;
        enough = lt;
        operand = ap (operand fuel expr) (sym list) ∙ reads;
        prefix = ap (prefix fuel expr) (sym list) ∙ prefix_turn t ts q h ∙ prefix_leads q (t ∷ ts) lead ∙ ap dropped reads;
      }

  after_dot : (a : List Token) (left x : Operand) (d : Token) (ts r : List Token) → d.kind ≡ k.Dot → member fuel expr left.0 (ts ++ r)
      ≡ Ok (x, r) → PostfixLeft a left (d ∷ (ts ++ r)) → PostfixLeft (a ++ d ∷ ts) x r
  after_dot a left x d ts r h is s = go s.left s.enough s.operand s.prefix
    where
      go : (m : ℕ) → length (d ∷ (ts ++ r)) < m → operand fuel expr (a ++ d ∷ (ts ++ r)) ≡ postfix fuel expr m left (d ∷ (ts ++ r))
          → prefix fuel expr (a ++ d ∷ (ts ++ r)) ≡ dropped (postfix fuel expr m left (d ∷ (ts ++ r))) → PostfixLeft (a ++ d ∷ ts) x r
      go zero lt o p = absurd (omega arith)
      go (suc m) lt o p = record {
        left = m;
        enough = omega (arith, length-append ts r);
        operand = ap (operand fuel expr) (append_assoc a (d ∷ ts) r) ∙ o ∙ postfix_dot m left x d (ts ++ r) r h is;
        prefix = ap (prefix fuel expr) (append_assoc a (d ∷ ts) r) ∙ p ∙ ap dropped (postfix_dot m left x d (ts ++ r) r h is);
      }

  after_bracket : (a : List Token) (left x : Operand) (d : Token) (ts r : List Token) → d.kind ≡ k.LeftBracket
      → index fuel expr d.place left.0 (ts ++ r) ≡ Ok (x, r) → PostfixLeft a left (d ∷ (ts ++ r)) → PostfixLeft (a ++ d ∷ ts) x r
  after_bracket a left x d ts r h is s = go s.left s.enough s.operand s.prefix
    where
      go : (m : ℕ) → length (d ∷ (ts ++ r)) < m → operand fuel expr (a ++ d ∷ (ts ++ r)) ≡ postfix fuel expr m left (d ∷ (ts ++ r))
          → prefix fuel expr (a ++ d ∷ (ts ++ r)) ≡ dropped (postfix fuel expr m left (d ∷ (ts ++ r))) → PostfixLeft (a ++ d ∷ ts) x r
      go zero lt o p = absurd (omega arith)
      go (suc m) lt o p = record {
        left = m;
        enough = omega (arith, length-append ts r);
        operand = ap (operand fuel expr) (append_assoc a (d ∷ ts) r) ∙ o ∙ postfix_bracket m left x d (ts ++ r) r h is;
        prefix = ap (prefix fuel expr) (append_assoc a (d ∷ ts) r) ∙ p ∙ ap dropped (postfix_bracket m left x d (ts ++ r) r h is);
      }

  -- ---- `Ti.thisProc()` and `Ti.numProcs()`

  process_reads : (at : Place) (d n o c : Token) (r : List Token) (is_this : Bool) → d.kind ≡ k.Dot → n.kind
      ≡ (if is_this then k.Name (codes "thisProc") else k.Name (codes "numProcs")) → o.kind ≡ k.LeftParen → c.kind ≡ k.RightParen
      → process at (d ∷ n ∷ o ∷ c ∷ r) ≡ Ok (if is_this then e.ThisProc at else e.NumProcs at, r)
  unfolding process process_name
  process_reads at d n o c r true hd hn ho hc =
      then_ok _ (expect_reads k.Dot d (n ∷ o ∷ c ∷ r) refl hd)
      ∙ ap (λ q. and_then (if◌then◌else◌ {A = Parser Bool} (spells (codes "thisProc") q) (λ i. Ok (true, after_next i))
      (if◌then◌else◌ {A = Parser Bool} (spells (codes "numProcs") q) (λ i. Ok (false, after_next i)) (λ i. Err (At i))) (n ∷ o ∷ c ∷ r))
      (λ is_this i. and_then (expect k.LeftParen i) (λ _ i. and_then (expect k.RightParen i)
      (λ _ j. Ok (if is_this then e.ThisProc at else e.NumProcs at, j))))) hn
      ∙ then_ok _ (expect_reads k.LeftParen o (c ∷ r) refl ho)
      ∙ then_ok _ (expect_reads k.RightParen c r refl hc)
  process_reads at d n o c r false hd hn ho hc =
      then_ok _ (expect_reads k.Dot d (n ∷ o ∷ c ∷ r) refl hd)
      ∙ ap (λ q. and_then (if◌then◌else◌ {A = Parser Bool} (spells (codes "thisProc") q) (λ i. Ok (true, after_next i))
      (if◌then◌else◌ {A = Parser Bool} (spells (codes "numProcs") q) (λ i. Ok (false, after_next i)) (λ i. Err (At i))) (n ∷ o ∷ c ∷ r))
      (λ is_this i. and_then (expect k.LeftParen i) (λ _ i. and_then (expect k.RightParen i)
      (λ _ j. Ok (if is_this then e.ThisProc at else e.NumProcs at, j))))) hn
      ∙ then_ok _ (expect_reads k.LeftParen o (c ∷ r) refl ho)
      ∙ then_ok _ (expect_reads k.RightParen c r refl hc)

  -- ---- operators

  climb_stops_by : (more : Exp → Parser Exp) (least : ℕ) (left : Exp) (i : List Token) (q : Option BinaryOperator) → bound q < least → spec.climb_by fuel expr more least left q i ≡ Ok (left, i)
  climb_stops_by more least left i None h = refl
  climb_stops_by more least left i (Some op) h = test_reads (nat_lt (strength op) least) true _ _ i (lt-ltb _ _ h)

  pub climb_stops : (least m : ℕ) (left : Exp) (r : List Token) → binds (kind r) < least → 0 < m → climb fuel expr least m left r ≡ Ok (left, r)
  unfolding climb
  climb_stops least zero left r h some = absurd (omega arith)
  climb_stops least (suc m) left r h some = climb_stops_by (climb fuel expr least m) least left r (infix_of (kind r)) h

  operation_reads : {b : List Token} {y : Exp} (t : Token) (op : BinaryOperator) (left : Exp) (r : List Token) → Whole (strength op + 1) b y → Stops (strength op + 1) b r → length (b ++ r) < fuel
      → operation fuel expr left op (t ∷ (b ++ r)) ≡ Ok (e.Binary t.place op left y, r)
  unfolding operation
  operation_reads {b = b} {y = y} t op left r s stops lt =
      then_ok (λ right j. Ok (e.Binary t.place op left right, j)) (expr_reads (strength op + 1) b r y (omega arith) (omega (arith, strength_small op)) s stops lt)

  climb_turn : {b : List Token} {y : Exp} (least m : ℕ) (t : Token) (op : BinaryOperator) (left : Exp) (r : List Token) → infix_of t.kind
      ≡ Some op → least ≤ strength op → Whole (strength op + 1) b y → Stops (strength op + 1) b r → length (b ++ r) < fuel
      → climb fuel expr least (suc m) left (t ∷ (b ++ r)) ≡ climb fuel expr least m (e.Binary t.place op left y) r
  unfolding climb
  climb_turn {b = b} least m t op left r is above s stops lt =
      ap (λ q. spec.climb_by fuel expr (climb fuel expr least m) least left q (t ∷ (b ++ r))) is
      ∙ test_reads (nat_lt (strength op) least) false _ _ (t ∷ (b ++ r)) (le-ltb _ _ above)
      ∙ then_ok (climb fuel expr least m) (operation_reads t op left r s stops lt)

  level_turn : (least : ℕ) (i : List Token) → level fuel expr least i ≡ and_then (prefix fuel expr i) (climb fuel expr least fuel)
  unfolding level
  level_turn least i = refl

  -- ---- prefixes

  small_stops : (l r : List Token) → goes (kind r) ≡ false → NoCall l r → Stops 11 l r
  small_stops l r free call = let small = binds_small (kind r) in record { operand = free; call = call; operators = omega arith }

  prefix_unary : (q : TokenKind) (op : UnaryOperator) (i : List Token) → prefix_of q ≡ Some op → spec.prefix_by fuel expr q i ≡ unary fuel expr op i
  prefix_unary k.LeftParen op i h = cc
  prefix_unary q op i h = other (prefix_of q) h
    where
      other : (z : Option UnaryOperator) → z ≡ Some op → spec.unary_or fuel expr z i ≡ unary fuel expr op i
      other z h = ap (λ z. spec.unary_or fuel expr z i) h

  unary_reads : (op : UnaryOperator) (t : Token) (l r : List Token) (x : Exp) → Prefixed l x → goes (kind r) ≡ false → NoCall l r
      → length (l ++ r) < fuel → unary fuel expr op (t ∷ (l ++ r)) ≡ Ok (e.Unary t.place op x, r)
  unfolding unary
  unary_reads op t l r x s free call lt = then_ok (λ x j. Ok (e.Unary t.place op x, j)) (expr_reads 11 l r x (omega arith) (omega arith) (grammar.operand s) (small_stops l r free call) lt)

  -- ---- casts

  cast_reads : (at : Place) (ty : TypeTree) (c : Token) (l r : List Token) (x : Exp) → c.kind ≡ k.RightParen → Prefixed l x → goes (kind r) ≡ false → NoCall l r → length (l ++ r) < fuel
      → cast fuel expr at ty (c ∷ (l ++ r)) ≡ Ok (e.Cast at ty x, r)
  unfolding cast
  cast_reads at ty c l r x hc s free call lt =
      then_ok _ (expect_reads k.RightParen c (l ++ r) refl hc) ∙ then_ok (λ x j. Ok (e.Cast at ty x, j))
      (expr_reads 11 l r x (omega arith) (omega arith) (grammar.operand s) (small_stops l r free call) lt)

  paren_turn : (at : Place) (i : List Token) (q : TokenKind) → kind i ≡ q → paren fuel expr at i ≡ spec.paren_by fuel expr at q i
  unfolding paren
  paren_turn at i q h = ap (λ z. spec.paren_by fuel expr at z i) h

  paren_type : (at : Place) (i : List Token) (q : TokenKind) → kind i ≡ q → begins_type q ≡ true → paren fuel expr at i ≡ and_then (type_base i) (cast_from fuel expr at)
  paren_type at i k.KeywordInt h is = paren_turn at i k.KeywordInt h
  paren_type at i k.KeywordLong h is = paren_turn at i k.KeywordLong h
  paren_type at i k.KeywordBoolean h is = paren_turn at i k.KeywordBoolean h
  paren_type at i k.KeywordPoint h is = paren_turn at i k.KeywordPoint h
  paren_type at i k.KeywordRectDomain h is = paren_turn at i k.KeywordRectDomain h
  paren_type at i _ h is = cc

  cast_from_reads : {l m : List Token} {qs : List Qualifier} {gs : List GridTree} → Qualified l qs → Gridded m gs → length gs ≤ 3
      → (at : Place) (begin : Base) (i : List Token) → EndsType i → length (l ++ m) < fuel
      → cast_from fuel expr at begin ((l ++ m) ++ i) ≡ cast fuel expr at (record { base = begin; qualifiers = qs; grids = gs }) i
  unfolding cast_from
  cast_from_reads s g few at begin i ends lt = then_ok (cast fuel expr at) (field_type_reads s g few fuel begin i ends lt)

  paren_name_turn : (at name_at : Place) (name : List ℕ) (i : List Token) (q : TokenKind) → kind i ≡ q → paren_name fuel expr at name_at name i ≡ spec.paren_name_by fuel expr at name_at name q i
  unfolding paren_name
  paren_name_turn at name_at name i q h = ap (λ z. spec.paren_name_by fuel expr at name_at name z i) h

  paren_name_qualified : (at name_at : Place) (name : List ℕ) (i : List Token) (q : TokenKind) (word : QualifierWord) → qualifier_of q ≡ Some word
      → spec.paren_name_by fuel expr at name_at name q i ≡ cast_from fuel expr at (b.Named name_at name) i
  paren_name_qualified at name_at name i k.KeywordSingle word h = refl
  paren_name_qualified at name_at name i k.KeywordLocal word h = refl
  paren_name_qualified at name_at name i _ word h = cc

  -- a cast whose type is a name and grids
  grid_cast_reads : {l m : List Token} {qs : List Qualifier} {gs : List GridTree} → Qualified l qs → Gridded m gs → length gs ≤ 2
      → (at name_at : Place) (name : List ℕ) (o t c : Token) (n : ℕ) (i : List Token) → o.kind ≡ k.LeftBracket → t.kind ≡ k.Dim n
      → 1 ≤ n → n ≤ 3 → c.kind ≡ k.RightBracket → EndsType i → length (l ++ m) < fuel
      → paren_name_bracket fuel expr at name_at name (o ∷ t ∷ c ∷ ((l ++ m) ++ i))
      ≡ cast fuel expr at (record { base = b.Named name_at name; qualifiers = []; grids = record { dim = n; qualifiers = qs } ∷ gs }) i
  unfolding paren_name_bracket cast_from_grid
  grid_cast_reads {l = l} {m = m} {qs = qs} {gs = gs} s g few at name_at name o t c n i ho ht low high hc ends lt =
      let one : GridTree = record { dim = n; qualifiers = qs } in
      let long = length-append l m in
      test_reads (is_dim_token t.kind) true _ _ (t ∷ c ∷ ((l ++ m) ++ i)) (ap is_dim_token ht)
      ∙ ap (λ z. and_then (grid fuel (t ∷ c ∷ z)) (λ g i. and_then (grids fuel 2 (g ∷ []) i)
      (λ gs. cast fuel expr at (record { base = b.Named name_at name; qualifiers = []; grids = gs })))) (append_assoc l m i)
      ∙ then_ok (λ g i. and_then (grids fuel 2 (g ∷ []) i) (λ gs. cast fuel expr at
      (record { base = b.Named name_at name; qualifiers = []; grids = gs })))
      (grid_reads s fuel t c n (m ++ i) ht low high hc (gridded_front g i ends.qualifier) (omega arith))
      ∙ then_ok (λ gs. cast fuel expr at (record { base = b.Named name_at name; qualifiers = []; grids = gs })) (grids_read g fuel 2 (one ∷ []) i ends few (omega arith))

  paren_name_reads_cast : {l m : List Token} {qs : List Qualifier} {gs : List GridTree} → Qualified l qs → Gridded m gs → length gs ≤ 3
      → (at name_at : Place) (name : List ℕ) → is_name_alone (b.Named name_at name) qs gs ≡ false → (i : List Token) → EndsType i
      → length (l ++ m) < fuel → paren_name fuel expr at name_at name ((l ++ m) ++ i) ≡ cast fuel expr at (record { base = b.Named name_at name; qualifiers = qs; grids = gs }) i
  paren_name_reads_cast types.none types.none few at name_at name proper i ends lt = cc
  paren_name_reads_cast types.none (types.more {l = l} {m = m} {qs = qs} {gs = gs} o t c {n = n} ho ht low high hc s g) few at name_at name proper i ends lt =
      paren_name_turn at name_at name (o ∷ t ∷ c ∷ ((l ++ m) ++ i)) k.LeftBracket ho ∙ grid_cast_reads s g (omega (arith, few)) at name_at name o t c n i ho ht low high hc ends (omega arith)
  paren_name_reads_cast {m = m} (types.more {l = l} t {word = word} is s) g few at name_at name proper i ends lt =
      paren_name_turn at name_at name (t ∷ ((l ++ m) ++ i)) t.kind refl
      ∙ paren_name_qualified at name_at name (t ∷ ((l ++ m) ++ i)) t.kind word is
      ∙ cast_from_reads (types.more t is s) g few at (b.Named name_at name) i ends lt

  paren_reserved : {a l m : List Token} {begin : Base} {qs : List Qualifier} {gs : List GridTree} → Based a begin → Qualified l qs
      → Gridded m gs → length gs ≤ 3 → (at : Place) (i : List Token) → EndsType i → length (l ++ m) < fuel
      → begins_type (kind (a ++ ((l ++ m) ++ i))) ≡ true → paren fuel expr at (a ++ ((l ++ m) ++ i)) ≡ cast fuel expr at (record { base = begin; qualifiers = qs; grids = gs }) i
  paren_reserved {a = a} {l = l} {m = m} {begin = begin} s q g few at i ends lt reserved =
      paren_type at (a ++ ((l ++ m) ++ i)) (kind (a ++ ((l ++ m) ++ i))) refl reserved
      ∙ then_ok (cast_from fuel expr at) (base_reads s ((l ++ m) ++ i))
      ∙ cast_from_reads q g few at begin i ends lt

  paren_based : {a l m : List Token} {begin : Base} {qs : List Qualifier} {gs : List GridTree} → Based a begin → Qualified l qs
      → Gridded m gs → length gs ≤ 3 → is_name_alone begin qs gs ≡ false → (at : Place) (i : List Token) → EndsType i
      → length (l ++ m) < fuel
      → paren fuel expr at (a ++ ((l ++ m) ++ i)) ≡ cast fuel expr at (record { base = begin; qualifiers = qs; grids = gs }) i
  paren_based (types.int t h) q g few proper at i ends lt = paren_reserved (types.int t h) q g few at i ends lt (ap begins_type h)
  paren_based (types.long t h) q g few proper at i ends lt = paren_reserved (types.long t h) q g few at i ends lt (ap begins_type h)
  paren_based (types.boolean t h) q g few proper at i ends lt = paren_reserved (types.boolean t h) q g few at i ends lt (ap begins_type h)
  paren_based (types.point t h s) q g few proper at i ends lt = paren_reserved (types.point t h s) q g few at i ends lt (ap begins_type h)
  paren_based (types.rect_domain t h s) q g few proper at i ends lt = paren_reserved (types.rect_domain t h s) q g few at i ends lt (ap begins_type h)
  paren_based {l = l} {m = m} (types.named t {name = name} h) q g few proper at i ends lt =
      paren_turn at (t ∷ ((l ++ m) ++ i)) (k.Name name) h ∙ paren_name_reads_cast q g few at t.place name proper i ends lt

  paren_cast : {l : List Token} {ty : TypeTree} → CastType l ty → (at : Place) (i : List Token) → EndsType i → length l < fuel → paren fuel expr at (l ++ i) ≡ cast fuel expr at ty i
  paren_cast (types.cast_type (types.field_type {a = a} {l = l} {m = m} s q g few) proper) at i ends lt =
      ap (paren fuel expr at) (append_assoc a (l ++ m) i) ∙ paren_based s q g few proper at i ends (omega (arith, length-append a (l ++ m)))

  -- ---- groups

  abbrev rest_of : {A : Type 0} → ParseOutcome A → List Token
  rest_of (Ok p) = p.1
  rest_of (Err e) = []

  group_reads : (i r : List Token) (c : Token) (x : Exp) → c.kind ≡ k.RightParen → expr 1 i ≡ Ok (x, c ∷ r) → group fuel expr i ≡ postfix fuel expr fuel (x, Other) r
  unfolding group
  group_reads i r c x h is = then_ok _ is ∙ then_ok (λ _. postfix fuel expr fuel (x, Other)) (expect_reads k.RightParen c r refl h)

  group_from_reads : (first left : Operand) (i s r : List Token) (c : Token) (x : Exp) → c.kind ≡ k.RightParen
      → postfix fuel expr fuel first i ≡ Ok (left, s) → climb fuel expr 1 fuel left.0 s ≡ Ok (x, c ∷ r)
      → group_from fuel expr first i ≡ dropped (postfix fuel expr fuel (x, Other) r)
  unfolding group_from
  group_from_reads first left i s r c x h is goes_on =
      then_ok _ is ∙ then_ok _ goes_on ∙ then_ok (λ _ i. dropped (postfix fuel expr fuel (x, Other) i)) (expect_reads k.RightParen c r refl h)

  -- what an expression that begins with a name is read as, behind the name
  abbrev named_level : Place → List ℕ → List Token → ParseOutcome Exp
  named_level at name ts = and_then (name_or_call fuel expr at name ts) (λ first i. and_then (postfix fuel expr fuel first i) (λ left i. climb fuel expr 1 fuel left.0 i))

  level_name : (t : Token) (name : List ℕ) (ts : List Token) → t.kind ≡ k.Name name → level fuel expr 1 (t ∷ ts) ≡ named_level t.place name ts
  level_name t name ts h =
      level_turn 1 (t ∷ ts)
      ∙ ap (λ o. and_then o (climb fuel expr 1 fuel)) (prefix_turn t ts (k.Name name) h ∙ ap dropped (operand_turn t ts (k.Name name) h))
      ∙ and_then_assoc (and_then (name_or_call fuel expr t.place name ts) (postfix fuel expr fuel)) (λ y j. Ok (y.0, j)) (climb fuel expr 1 fuel)
      ∙ and_then_assoc (name_or_call fuel expr t.place name ts) (postfix fuel expr fuel) (λ left i. climb fuel expr 1 fuel left.0 i)

  -- a name before a qualifier would be an expression by itself
  qualifier_alone : (q : TokenKind) (word : QualifierWord) → qualifier_of q ≡ Some word → (goes q ≡ false) × (same_kind q k.LeftParen ≡ false) × (binds q ≡ 0)
  qualifier_alone k.KeywordSingle word h = (refl, refl, refl)
  qualifier_alone k.KeywordLocal word h = (refl, refl, refl)
  qualifier_alone _ word h = cc

  name_alone : (at : Place) (name : List ℕ) (ts : List Token) (word : QualifierWord) → qualifier_of (kind ts) ≡ Some word → 0 < fuel → named_level at name ts ≡ Ok (e.Name at name, ts)
  name_alone at name ts word h some =
      let (free, call, none) = qualifier_alone (kind ts) word h in
      let below : binds (kind ts) < 1 = omega arith in
      then_ok _ (named_alone at name ts call) ∙ then_ok _ (postfix_stops fuel (e.Name at name, Target) ts free some) ∙ climb_stops 1 fuel (e.Name at name) ts below some

  no_qualifier : (at : Place) (name : List ℕ) (ts r : List Token) (c : Token) (x : Exp) → c.kind ≡ k.RightParen → 0 < fuel
      → named_level at name ts ≡ Ok (x, c ∷ r) → (word : QualifierWord) → qualifier_of (kind ts) ≡ Some word → ⊥
  no_qualifier at name ts r c x h some is word q =
      let rest : ts ≡ c ∷ r = ap rest_of (sym (name_alone at name ts word q some) ∙ is) in
      let none : None ≡ qualifier_of (kind ts) = sym (ap (λ z. qualifier_of (kind z)) rest ∙ ap qualifier_of h) in
      let wrong : ◌≡◌ {A = Option QualifierWord} None (Some word) = none ∙ q in cc

  no_turns : (left z : Operand) (i s : List Token) → postfix fuel expr 0 left i ≡ Ok (z, s) → ⊥
  unfolding postfix
  no_turns left z i s is = cc

  -- an index behind a name, as the loop reads it
  index_first : (m : ℕ) (left z : Operand) (d : Token) (us s : List Token) → d.kind ≡ k.LeftBracket → postfix fuel expr m left (d ∷ us) ≡ Ok (z, s)
      → (y : Operand) × (v : List Token) × (n : ℕ) × (n ≤ m) × (index fuel expr d.place left.0 us ≡ Ok (y, v)) × (postfix fuel expr n y v ≡ Ok (z, s))
  index_first zero left z d us s h is = absurd (no_turns left z (d ∷ us) s is)
  index_first (suc m) left z d us s h is =
      let (y, v, first, goes_on) = first_of_two (index fuel expr d.place left.0 us) (postfix fuel expr m) z s (sym (postfix_turn m left d us k.LeftBracket h) ∙ is) in
      (y, v, m, omega arith, first, goes_on)

  -- no expression begins with a number of dimensions
  module _ (dim_refused : (l r : List Token) (x : Exp) → is_dim_token (kind l) ≡ true → expr 1 l ≡ Ok (x, r) → ⊥) where
    no_dim : (at : Place) (left : Exp) (us v : List Token) (y : Operand) → index fuel expr at left us ≡ Ok (y, v) → is_dim_token (kind us) ≡ true → ⊥
    unfolding index parts
    no_dim at left us v y is dim =
        let (xs, s, inner, done) = first_of_two (and_then (expr 1 us) (parts_from fuel expr)) (λ xs j. Ok ((e.index at left xs, Target), j)) y v is in
        let (x, s2, first, goes_on) = first_of_two (expr 1 us) (parts_from fuel expr) xs s inner in
        dim_refused us s2 x dim first

    bracket_group_by : (at name_at : Place) (name : List ℕ) (d : Token) (us v : List Token) (y : Operand) (dim : Bool) → is_dim_token (kind us)
        ≡ dim → index fuel expr d.place (e.Name name_at name) us ≡ Ok (y, v)
        → paren_name_bracket fuel expr at name_at name (d ∷ us) ≡ group_from fuel expr y v
    unfolding paren_name_bracket
    bracket_group_by at name_at name d us v y true h is = absurd (no_dim d.place (e.Name name_at name) us v y is h)
    bracket_group_by at name_at name d us v y false h is = test_reads (is_dim_token (kind us)) false _ _ us h ∙ then_ok (group_from fuel expr) is

    bracket_group_then : (at name_at : Place) (name : List ℕ) (d : Token) (us v s r : List Token) (c : Token) (x : Exp) (y left : Operand) (n : ℕ) → n ≤ fuel → c.kind ≡ k.RightParen
        → index fuel expr d.place (e.Name name_at name) us ≡ Ok (y, v) → postfix fuel expr n y v ≡ Ok (left, s) → climb fuel expr 1 fuel left.0 s ≡ Ok (x, c ∷ r)
        → paren_name_bracket fuel expr at name_at name (d ∷ us) ≡ dropped (postfix fuel expr fuel (x, Other) r)
    bracket_group_then at name_at name d us v s r c x y left n le hc first goes_on climbs =
        bracket_group_by at name_at name d us v y (is_dim_token (kind us)) refl first ∙ group_from_reads y left v s r c x hc (postfix_more n fuel le y left v s goes_on) climbs

    bracket_group : (at name_at : Place) (name : List ℕ) (d : Token) (us r : List Token) (c : Token) (x : Exp) → c.kind ≡ k.RightParen
        → d.kind ≡ k.LeftBracket → named_level name_at name (d ∷ us) ≡ Ok (x, c ∷ r)
        → paren_name_bracket fuel expr at name_at name (d ∷ us) ≡ dropped (postfix fuel expr fuel (x, Other) r)
    bracket_group at name_at name d us r c x hc hd is =
        let alone = named_alone name_at name (d ∷ us) (ap (λ z. same_kind z k.LeftParen) hd) in
        let (left, s, loop, climbs) = first_of_two (postfix fuel expr fuel (e.Name name_at name, Target) (d ∷ us))
        (λ left i. climb fuel expr 1 fuel left.0 i) x (c ∷ r) (sym (then_ok _ alone) ∙ is) in
        let (y, v, n, le, first, goes_on) = index_first fuel (e.Name name_at name, Target) left d us s hd loop in
        bracket_group_then at name_at name d us v s r c x y left n le hc first goes_on climbs

    name_group_by : (name_at : Place) (name : List ℕ) (ts s s2 r : List Token) (c : Token) (x : Exp) (first left : Operand) → c.kind ≡ k.RightParen → name_or_call fuel expr name_at name ts ≡ Ok (first, s)
        → postfix fuel expr fuel first s ≡ Ok (left, s2) → climb fuel expr 1 fuel left.0 s2 ≡ Ok (x, c ∷ r)
        → and_then (name_or_call fuel expr name_at name ts) (group_from fuel expr) ≡ dropped (postfix fuel expr fuel (x, Other) r)
    name_group_by name_at name ts s s2 r c x first left hc begun loop climbs = then_ok (group_from fuel expr) begun ∙ group_from_reads first left s s2 r c x hc loop climbs

    name_group : (at name_at : Place) (name : List ℕ) (ts r : List Token) (c : Token) (x : Exp) → c.kind ≡ k.RightParen → named_level name_at name ts ≡ Ok (x, c ∷ r)
        → and_then (name_or_call fuel expr name_at name ts) (group_from fuel expr) ≡ dropped (postfix fuel expr fuel (x, Other) r)
    name_group at name_at name ts r c x hc is =
        let (first, s, begun, goes_on) = first_of_two (name_or_call fuel expr name_at name ts)
        (λ first i. and_then (postfix fuel expr fuel first i) (λ left i. climb fuel expr 1 fuel left.0 i)) x (c ∷ r) is in
        let (left, s2, loop, climbs) = first_of_two (postfix fuel expr fuel first s) (λ left i. climb fuel expr 1 fuel left.0 i) x (c ∷ r) goes_on in
        name_group_by name_at name ts s s2 r c x first left hc begun loop climbs

    paren_name_if : (at name_at : Place) (name : List ℕ) (ts r : List Token) (c : Token) (x : Exp) → c.kind ≡ k.RightParen → 0 < fuel
        → named_level name_at name ts ≡ Ok (x, c ∷ r) → (q : Option QualifierWord) → qualifier_of (kind ts) ≡ q
        → if◌then◌else◌ {A = Parser Exp} (is_some q) (cast_from fuel expr at (b.Named name_at name)) (λ i. and_then (name_or_call fuel expr name_at name i) (group_from fuel expr)) ts
        ≡ dropped (postfix fuel expr fuel (x, Other) r)
    paren_name_if at name_at name ts r c x hc some is (Some word) h = absurd (no_qualifier name_at name ts r c x hc some is word h)
    paren_name_if at name_at name ts r c x hc some is None h = name_group at name_at name ts r c x hc is

    paren_name_by_reads : (at name_at : Place) (name : List ℕ) (ts r : List Token) (c : Token) (x : Exp) → c.kind ≡ k.RightParen → 0 < fuel
        → named_level name_at name ts ≡ Ok (x, c ∷ r) → (q : TokenKind) → kind ts ≡ q
        → spec.paren_name_by fuel expr at name_at name q ts ≡ dropped (postfix fuel expr fuel (x, Other) r)
    paren_name_by_reads at name_at name [] r c x hc some is k.LeftBracket h = cc
    paren_name_by_reads at name_at name (d ∷ us) r c x hc some is k.LeftBracket h = bracket_group at name_at name d us r c x hc h is
    paren_name_by_reads at name_at name ts r c x hc some is q h = paren_name_if at name_at name ts r c x hc some is (qualifier_of q) (ap qualifier_of h)

    paren_by_reads : (at : Place) (t : Token) (ts r : List Token) (c : Token) (x : Exp) → c.kind ≡ k.RightParen → 0 < fuel
        → expr 1 (t ∷ ts) ≡ Ok (x, c ∷ r) → level fuel expr 1 (t ∷ ts) ≡ Ok (x, c ∷ r)
        → (q : TokenKind) → t.kind ≡ q → begins q ≡ true → spec.paren_by fuel expr at q (t ∷ ts) ≡ dropped (postfix fuel expr fuel (x, Other) r)
    paren_by_reads at t ts r c x hc some is a (k.Name name) h begin =
        paren_name_turn at t.place name ts (kind ts) refl ∙ paren_name_by_reads at t.place name ts r c x hc some (sym (level_name t name ts h) ∙ a) (kind ts) refl
    paren_by_reads at t ts r c x hc some is a q h begin =
        test_reads (begins_type q) false (λ i. and_then (type_base i) (cast_from fuel expr at)) (λ i. dropped (group fuel expr i))
        (t ∷ ts) (not_type q begin) ∙ ap dropped (group_reads (t ∷ ts) r c x hc is)

    paren_reads : (at : Place) (i r : List Token) (c : Token) (x : Exp) → c.kind ≡ k.RightParen → 0 < fuel → expr 1 i ≡ Ok (x, c ∷ r) → level fuel expr 1 i ≡ Ok (x, c ∷ r) → begins (kind i) ≡ true
        → paren fuel expr at i ≡ dropped (postfix fuel expr fuel (x, Other) r)
    paren_reads at [] r c x hc some is a begin = cc
    paren_reads at (t ∷ ts) r c x hc some is a begin = paren_turn at (t ∷ ts) t.kind refl ∙ paren_by_reads at t ts r c x hc some is a t.kind refl begin

    -- ---- the whole, by the structure of a phrase

    abbrev ClimbLeft : ℕ → List Token → Exp → List Token → Type 0
    ClimbLeft least l x r = (m : ℕ) × (length r < m) × (level fuel expr least (l ++ r) ≡ climb fuel expr least m x r)

    operation_law : (a b : List Token) (left y : Exp) (t : Token) (op : BinaryOperator) → infix_of t.kind ≡ Some op
        → Whole (strength op + 1) b y → (least : ℕ) → least ≤ strength op → (r : List Token) → Stops (strength op + 1) b r
        → length (b ++ r) < fuel
        → ClimbLeft least a left (t ∷ (b ++ r)) → ClimbLeft least (a ++ t ∷ b) (e.Binary t.place op left y) r
    operation_law a b left y t op is s least above r stops lt (zero, more, reads) = absurd (omega arith)
    operation_law a b left y t op is s least above r stops lt (suc m, more, reads) =
        (m, omega (arith, length-append b r), ap (level fuel expr least) (append_assoc a (t ∷ b) r) ∙ reads ∙ climb_turn least m t op left r is above s stops lt)

    operator_call : (t : Token) (op : BinaryOperator) (a r : List Token) → infix_of t.kind ≡ Some op → NoCall a (t ∷ r)
    operator_call t op a r is _ = (operator_ends t.kind op is).1

    -- nothing is called before a token of another kind
    uncalled : (t : Token) (q : TokenKind) (l r : List Token) → t.kind ≡ q → same_kind q k.LeftParen ≡ false → NoCall l (t ∷ r)
    uncalled t q l r h other _ = ap (λ z. same_kind z k.LeftParen) h ∙ other

    last_cons : (t : Token) (l : List Token) → 0 < length l → last_kind (t ∷ l) ≡ last_kind l
    last_cons t [] some = absurd (omega (arith, some))
    last_cons t (u ∷ l) some = refl

    inner_call : (a : List Token) (t : Token) (l r : List Token) → 0 < length l → NoCall (a ++ t ∷ l) r → NoCall l r
    inner_call a t l r some call h = call (ap is_name (last_append a t l ∙ last_cons t l some) ∙ h)

    mutual
      pub postfixed_law : {ending : Ending} {l : List Token} {x : Exp} → Postfixed ending l x → (r : List Token) → NoCall l r → length (l ++ r) ≤ fuel → PostfixLeft l (x, ending) r
      postfixed_law (grammar.int t {n = n} h) r call le = led t r (t ∷ []) (e.Int t.place n, Other) r (k.Int n) refl h refl (omega arith) refl
      postfixed_law (grammar.long t {n = n} h) r call le = led t r (t ∷ []) (e.Long t.place n, Other) r (k.LongInt n) refl h refl (omega arith) refl
      postfixed_law (grammar.truth t h) r call le = led t r (t ∷ []) (e.Truth t.place true, Other) r k.KeywordTrue refl h refl (omega arith) refl
      postfixed_law (grammar.falsehood t h) r call le = led t r (t ∷ []) (e.Truth t.place false, Other) r k.KeywordFalse refl h refl (omega arith) refl
      postfixed_law (grammar.null t h) r call le = led t r (t ∷ []) (e.Null t.place, Other) r k.KeywordNull refl h refl (omega arith) refl
      postfixed_law (grammar.this t h) r call le = led t r (t ∷ []) (e.This t.place, Other) r k.KeywordThis refl h refl (omega arith) refl
      postfixed_law (grammar.name t {name = name} h) r call le =
          led t r (t ∷ []) (e.Name t.place name, Target) r (k.Name name) refl h refl (omega arith) (then_ok (postfix fuel expr fuel) (named_alone t.place name r (call (ap is_name h))))
      postfixed_law (grammar.call {l = l} t o c {name = name} {xs = xs} h h2 s h3) r call le =
          let same = append_assoc l (c ∷ []) r in
          let len = ap length same in
          let n2 = length-append l (c ∷ r) in
          led t (o ∷ (l ++ c ∷ r)) (t ∷ o ∷ (l ++ c ∷ [])) (e.call t.place name xs, Call) r (k.Name name) (ap (λ z. t ∷ o ∷ z) (sym same)) h refl (omega (arith, len, n2))
          (then_ok (postfix fuel expr fuel) (named_call s t.place name o c h2 h3 r (omega (arith, len))))
      postfixed_law (grammar.group {l = l} o c {x = x} h s h2) r call le =
          let same = append_assoc l (c ∷ []) r in
          let len = ap length same in
          let n2 = length-append l (c ∷ r) in
          let reads = inner_reads s k.RightParen paren_closes c h2 r (omega (arith, len)) in
          let stop = closer_stops k.RightParen c r 1 l paren_closes (omega arith) h2 in
          let (m, lt, is) = whole_law s 1 (omega arith) (omega arith) (c ∷ r) stop.operand stop.call (omega (arith, stop.operators)) (omega (arith, len)) in
          let levels : level fuel expr 1 (l ++ c ∷ r) ≡ Ok (x, c ∷ r) = is ∙ climb_stops 1 m x (c ∷ r) stop.operators (omega arith) in record {
            left = fuel;
            enough = omega (arith, len, n2);
            operand = ap (λ z. operand fuel expr (o ∷ z)) same ∙ operand_turn o (l ++ c ∷ r) k.LeftParen h ∙ group_reads (l ++ c ∷ r) r c x h2 reads;
            prefix = ap (λ z. prefix fuel expr (o ∷ z)) same ∙ prefix_turn o (l ++ c ∷ r) k.LeftParen h ∙ paren_reads o.place (l ++ c ∷ r) r c x h2 (omega arith) reads levels (front_whole s (c ∷ r));
          }
      postfixed_law (grammar.rect {l = l} o c {rs = rs} h s few h2) r call le =
          let same = append_assoc l (c ∷ []) r in
          let len = ap length same in
          let n2 = length-append l (c ∷ r) in
          led o (l ++ c ∷ r) (o ∷ (l ++ c ∷ [])) (e.rect o.place rs, Other) r k.LeftBracket (ap (λ z. o ∷ z) (sym same)) h refl (omega (arith, len, n2))
          (then_ok (λ x. postfix fuel expr fuel (x, Other)) (rect_reads s few o.place c r h2 (omega (arith, len))))
      postfixed_law (grammar.point {l = l} o c {xs = xs} h s few h2) r call le =
          let same = append_assoc l (c ∷ []) r in
          let len = ap length same in
          let n2 = length-append l (c ∷ r) in
          led o (l ++ c ∷ r) (o ∷ (l ++ c ∷ [])) (e.point o.place xs, Other) r k.LeftBracket (ap (λ z. o ∷ z) (sym same)) h refl (omega (arith, len, n2))
          (then_ok (λ x. postfix fuel expr fuel (x, Other)) (point_reads s few o.place c r h2 (omega (arith, len))))
      postfixed_law (grammar.this_proc t d n o c h h2 h3 h4 h5) r call le =
          led t (d ∷ n ∷ o ∷ c ∷ r) (t ∷ d ∷ n ∷ o ∷ c ∷ []) (e.ThisProc t.place, Other) r k.KeywordTi refl h refl (omega arith)
          (then_ok (λ x. postfix fuel expr fuel (x, Other)) (process_reads t.place d n o c r true h2 h3 h4 h5))
      postfixed_law (grammar.num_procs t d n o c h h2 h3 h4 h5) r call le =
          led t (d ∷ n ∷ o ∷ c ∷ r) (t ∷ d ∷ n ∷ o ∷ c ∷ []) (e.NumProcs t.place, Other) r k.KeywordTi refl h refl (omega arith)
          (then_ok (λ x. postfix fuel expr fuel (x, Other)) (process_reads t.place d n o c r false h2 h3 h4 h5))
      postfixed_law (grammar.select {ending = ending} {l = l} d t {name = name} {x = x} s h h2) r call le =
          let len = ap length (append_assoc l (d ∷ t ∷ []) r) in
          after_dot l (x, ending) (e.Select t.place x name, Target) d (t ∷ []) r h
          (member_select x t name r h2 (call (ap is_name (last_append l d (t ∷ []) ∙ h2))))
          (postfixed_law s (d ∷ t ∷ r) (uncalled d k.Dot l (t ∷ r) h refl) (omega (arith, len)))
      postfixed_law (grammar.member {ending = ending} {l = l} {m = m} d t o c {name = name} {x = x} {xs = xs} s h h2 h3 q h4) r call le =
          let same = append_assoc m (c ∷ []) r in
          let len = ap length (append_assoc l (d ∷ t ∷ o ∷ (m ++ c ∷ [])) r) in
          let len2 = ap length same in
          let n2 = length-append l (d ∷ t ∷ o ∷ ((m ++ c ∷ []) ++ r)) in
          after_dot l (x, ending) (e.member t.place x name xs, Call) d (t ∷ o ∷ (m ++ c ∷ [])) r h
          (ap (λ z. member fuel expr x (t ∷ o ∷ z)) same ∙ member_call q x t o c name r h2 h3 h4 (omega (arith, len, len2, n2)))
          (postfixed_law s (d ∷ t ∷ o ∷ ((m ++ c ∷ []) ++ r)) (uncalled d k.Dot l (t ∷ o ∷ ((m ++ c ∷ []) ++ r)) h refl) (omega (arith, len)))
      postfixed_law (grammar.index {ending = ending} {l = l} {m = m} o c {x = x} {xs = xs} s h q few h2) r call le =
          let same = append_assoc m (c ∷ []) r in
          let len = ap length (append_assoc l (o ∷ (m ++ c ∷ [])) r) in
          let len2 = ap length same in
          let n2 = length-append l (o ∷ ((m ++ c ∷ []) ++ r)) in
          after_bracket l (x, ending) (e.index o.place x xs, Target) o (m ++ c ∷ []) r h (ap (index fuel expr o.place x) same ∙ index_reads q few o.place x c r h2 (omega (arith, len, len2, n2)))
          (postfixed_law s (o ∷ ((m ++ c ∷ []) ++ r)) (uncalled o k.LeftBracket l ((m ++ c ∷ []) ++ r) h refl) (omega (arith, len)))

      pub prefixed_law : {l : List Token} {x : Exp} → Prefixed l x → (r : List Token) → goes (kind r) ≡ false → NoCall l r → length (l ++ r) ≤ fuel → prefix fuel expr (l ++ r) ≡ Ok (x, r)
      prefixed_law (grammar.unary {l = l} t {op = op} {x = x} h s) r free call le =
          prefix_turn t (l ++ r) t.kind refl ∙ prefix_unary t.kind op (t ∷ (l ++ r)) h ∙ unary_reads op t l r x s free (inner_call [] t l r (prefixed_some s) call) (omega arith)
      prefixed_law (grammar.cast {l = l} {m = m} {ty = ty} o c {x = x} h s h2 q) r free call le =
          let same = append_assoc l (c ∷ m) r in
          let len = ap length same in
          let n2 = length-append l (c ∷ (m ++ r)) in
          let ends : EndsType (c ∷ (m ++ r)) = record { qualifier = ap qualifier_of h2; bracket = ap (λ z. same_kind z k.LeftBracket) h2 } in
          ap (λ z. prefix fuel expr (o ∷ z)) same
          ∙ prefix_turn o (l ++ c ∷ (m ++ r)) k.LeftParen h
          ∙ paren_cast s o.place (c ∷ (m ++ r)) ends (omega (arith, len, n2))
          ∙ cast_reads o.place ty c m r x h2 q free (inner_call (o ∷ l) c m r (prefixed_some q) call) (omega (arith, len, n2))
      prefixed_law (grammar.postfixed {ending = ending} {x = x} s) r free call le =
          let loop = postfixed_law s r call le in
          loop.prefix ∙ ap dropped (postfix_stops loop.left (x, ending) r free (omega (arith, loop.enough)))

      whole_law : {n : ℕ} {l : List Token} {x : Exp} → Whole n l x → (least : ℕ) → 1 ≤ least → least ≤ n → (r : List Token) → goes (kind r)
          ≡ false → NoCall l r → binds (kind r) ≤ n → length (l ++ r) ≤ fuel → ClimbLeft least l x r
      whole_law (grammar.operand {l = l} {x = x} p) least one above r free call bound le =
          (fuel, omega (arith, length-append l r, prefixed_some p), level_turn least (l ++ r) ∙ then_ok (climb fuel expr least fuel) (prefixed_law p r free call le))
      whole_law (grammar.operation {a = a} {b = b} t {op = op} {x = x} {y = y} is up s q) least one above r free call within le =
          let same = append_assoc a (t ∷ b) r in
          let n1 = ap length same in
          let n2 = length-append a (t ∷ (b ++ r)) in
          let same_binds : binds t.kind ≡ strength op = ap bound is in
          operation_law a b x y t op is q least (omega arith) r (record { operand = free; call = inner_call a t b r (whole_some q) call; operators = omega arith }) (omega (arith, n1, n2))
          (whole_law s least one (omega arith) (t ∷ (b ++ r)) (operator_ends t.kind op is).0 (operator_call t op a (b ++ r) is) (omega arith) (omega (arith, n1)))

-- no expression begins with a number of dimensions
pub no_dimension : (fuel : ℕ) (l r : List Token) (x : Exp) → is_dim_token (kind l) ≡ true → expr fuel 1 l ≡ Ok (x, r) → ⊥
no_dimension fuel l r x dim is =
    let (f, list, s, q) : Says fuel (Whole 1) (Below 1) l (Ok (x, r)) = subst (Says fuel (Whole 1) (Below 1) l) is (expr_says fuel 1 (omega arith) (omega arith) l).says in
    let begin : begins (kind l) ≡ true = ap (λ z. begins (kind z)) list ∙ front_whole s r in
    let wrong : true ≡ false = sym dim ∙ not_dim (kind l) begin in cc

pub expr_reads : (fuel n : ℕ) (l r : List Token) (x : Exp) → 1 ≤ n → n ≤ 11 → Whole n l x → Stops n l r → length (l ++ r) < fuel → expr fuel n (l ++ r) ≡ Ok (x, r)
unfolding expr
expr_reads zero n l r x one most s stops lt = absurd (omega arith)
expr_reads (suc fuel) n l r x one most s stops lt =
    let below = stops.operators in
    let (m, some, is) = whole_law fuel (expr fuel) (expr_reads fuel) (no_dimension fuel) s n one (omega arith) r stops.operand stops.call (omega arith) (omega arith) in
    is ∙ climb_stops fuel (expr fuel) (expr_reads fuel) n m x r below (omega arith)
