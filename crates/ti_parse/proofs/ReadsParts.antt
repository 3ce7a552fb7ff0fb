-- The parser is proved complete for initializers, heads and prints, up to the first token above a limit.
use Rattle.std.proofs.Common.{◌≡◌, ℕ, zero, suc, ◌≤◌, List, [], ◌∷◌, ◌++◌, length, Option, Some, None, Ok, refl, ap, append_assoc, arith, true, false, Bool, codes}
use Rattle.std.proofs.lemmas.Option.{none-some}
use Rattle.ti_base.specs.declared.place.Place.{Place}
use Rattle.ti_syntax.specs.declared.token.Token.{Token}
use Rattle.ti_syntax.specs.declared.token.TokenKind.{TokenKind}
use Rattle.ti_syntax.specs.declared.token.TokenKind.TheVariants as k
use Rattle.ti_syntax.specs.declared.tree.types.Base.{Base}
use Rattle.ti_syntax.specs.declared.tree.types.Qualifier.{Qualifier}
use Rattle.ti_syntax.specs.declared.tree.types.QualifierWord.{QualifierWord}
use Rattle.ti_syntax.specs.Tokens.{same_kind}
use Rattle.ti_syntax.specs.Trees.Types.{GridTree, TypeTree}
use Rattle.ti_syntax.specs.Trees.Expressions.{Exp, RangeTree}
use Rattle.ti_syntax.specs.Trees.Expressions as e
use Rattle.ti_syntax.specs.Trees.Statements.{DimsTree, InitTree, PrintTree}
use Rattle.ti_syntax.specs.Trees.Statements as tree
use Rattle.ti_syntax.specs.Spelling.Operators.{qualifier_of}
use Rattle.ti_syntax.specs.Spelling.Types.{Based, Qualified, Gridded}
use Rattle.ti_syntax.specs.Spelling.Types as types
use Rattle.ti_syntax.specs.Spelling.Expressions.{Whole, Range, Ranges}
use Rattle.ti_syntax.specs.Spelling.Expressions as expressions
use Rattle.ti_syntax.specs.Spelling.Statements.{Region, Dims, Initial, Printer, Printed, Condition, Optional}
use Rattle.ti_syntax.specs.Spelling.Statements as grammar
use Rattle.ti_syntax.specs.Spelling.Loads.{Load, Free, free, weights, region_loads, range_loads, ranges_loads, dims_loads, initial_loads, printed_loads, condition_loads, optional_loads}
use Rattle.ti_parse_expr.specs.declared.parse.Form.TheVariants as form
use Rattle.ti_parse_expr.specs.Mirrors.Input.{Parser, and_then, kind, next_is}
use Rattle.ti_parse_expr.specs.Mirrors.Types.{base, qualifiers, grids}
use Rattle.ti_parse_expr.specs.Mirrors.Full.{Limits, full_to}
use Rattle.ti_parse_expr.proofs.Lemmas.{test_reads as same_test, IsCloser, paren_closes, colon_closes, comma_closes, bracket_closes, begins}
use Rattle.ti_parse_expr.proofs.Lemmas.{front_whole, base_reads, grids_read, qualifiers_read}
use Rattle.ti_parse.specs.Mirrors.ParserParams.{up_to}
use Rattle.ti_parse.specs.Mirrors.Parts as spec
use Rattle.ti_parse.specs.Mirrors.Parts.{region, range_from, more_ranges, dims, new_grid, new_named, new_object_or_grid, new_thing, broadcast, initial, declared, printer, print_text_argument, print_argument, condition, optional_expr}
use Rattle.ti_parse.proofs.Limits.{IsRead, same_reads, result_reads, then_reads, done_reads, last_reads, made_reads, regroup_reads, took, want, want_word, name_took, by_kind, test_reads, sees_reads, free_reads, ends, whole, mul}

-- ---- what can follow

pub semicolon_closes : IsCloser k.Semicolon
semicolon_closes = record { operand = refl; call = refl; operators = refl }

name_closes : (name : List ℕ) → IsCloser (k.Name name)
name_closes name = record { operand = refl; call = refl; operators = refl }

-- a token that can follow the right side of a declaration or a change
pub record EndsRight (q : TokenKind) : Type 0 where
  pub closer : IsCloser q
  pub qualifier : qualifier_of q ≡ None
  pub bracket : same_kind q k.LeftBracket ≡ false

pub semicolon_ends : {q : TokenKind} → q ≡ k.Semicolon → EndsRight q
semicolon_ends h = record { closer = ends semicolon_closes h; qualifier = ap qualifier_of h; bracket = ap (λ z. same_kind z k.LeftBracket) h }

pub paren_ends : {q : TokenKind} → q ≡ k.RightParen → EndsRight q
paren_ends h = record { closer = ends paren_closes h; qualifier = ap qualifier_of h; bracket = ap (λ z. same_kind z k.LeftBracket) h }

-- ---- what parts begin with

qualifier_not_paren : (q : TokenKind) (word : QualifierWord) → qualifier_of q ≡ Some word → same_kind q k.LeftParen ≡ false
qualifier_not_paren k.KeywordSingle word h = refl
qualifier_not_paren k.KeywordLocal word h = refl
qualifier_not_paren _ word h = absurd (none-some word h)

qualified_not_paren : {l : List Token} {qs : List Qualifier} → Qualified l qs → (o : Token) (r s : List Token) → o.kind ≡ k.LeftBracket → next_is k.LeftParen ((l ++ o ∷ r) ++ s) ≡ false
qualified_not_paren types.none o r s h = ap (λ q. same_kind q k.LeftParen) h
qualified_not_paren (types.more t {word = word} is q) o r s h = qualifier_not_paren t.kind word is

-- what is read behind `new`, `SharedRegion` aside
abbrev begins_new : TokenKind → Bool
begins_new k.LeftParen = true
begins_new k.KeywordInt = true
begins_new k.KeywordLong = true
begins_new k.KeywordBoolean = true
begins_new k.KeywordPoint = true
begins_new k.KeywordRectDomain = true
begins_new (k.Name name) = true
begins_new _ = false

front_region : {l : List Token} {x : Option Exp} → Region l x → (r s : List Token) → begins_new (kind (r ++ s)) ≡ true → begins_new (kind ((l ++ r) ++ s)) ≡ true
front_region grammar.none r s h = h
front_region (grammar.some o c ho e hc) r s h = ap begins_new ho

based_new : {l : List Token} {x : Base} → Based l x → (r s : List Token) → begins_new (kind ((l ++ r) ++ s)) ≡ true
based_new (types.int t h) r s = ap begins_new h
based_new (types.long t h) r s = ap begins_new h
based_new (types.boolean t h) r s = ap begins_new h
based_new (types.point t h q) r s = ap begins_new h
based_new (types.rect_domain t h q) r s = ap begins_new h
based_new (types.named t h) r s = ap begins_new h

based_not_paren : {l : List Token} {x : Base} → Based l x → (r s : List Token) → next_is k.LeftParen ((l ++ r) ++ s) ≡ false
based_not_paren (types.int t h) r s = ap (λ q. same_kind q k.LeftParen) h
based_not_paren (types.long t h) r s = ap (λ q. same_kind q k.LeftParen) h
based_not_paren (types.boolean t h) r s = ap (λ q. same_kind q k.LeftParen) h
based_not_paren (types.point t h q) r s = ap (λ q. same_kind q k.LeftParen) h
based_not_paren (types.rect_domain t h q) r s = ap (λ q. same_kind q k.LeftParen) h
based_not_paren (types.named t h) r s = ap (λ q. same_kind q k.LeftParen) h

not_semicolon : (q : TokenKind) → begins q ≡ true → same_kind q k.Semicolon ≡ false
not_semicolon k.Semicolon h = cc
not_semicolon _ h = refl

module _ (limits : Limits) (fuel : ℕ) where
  -- ---- ranges

  -- after the lower bound
  plain_reads : {m r : List Token} (low : Exp) {high : Exp} (s : Token) → s.kind ≡ k.Colon → Whole 1 m high → IsCloser (kind r) → next_is k.Colon r ≡ false
      → IsRead limits fuel (range_from (up_to limits) fuel low) (Free ∷ weights m) (s ∷ m) r (e.Plain low high)
  unfolding range_from
  plain_reads low s hs high closes no_colon = want k.Colon _ hs (last_reads (then_reads _ (whole closes high) (test_reads (next_is k.Colon) _ _ false no_colon done_reads)))

  stepped_reads : {m v r : List Token} (low : Exp) {high step : Exp} (s t : Token) → s.kind ≡ k.Colon → Whole 1 m high → t.kind ≡ k.Colon → Whole 1 v step → IsCloser (kind r)
      → IsRead limits fuel (range_from (up_to limits) fuel low) (Free ∷ (weights m ++ Free ∷ weights v)) (s ∷ (m ++ t ∷ v)) r (e.Stepped low high step)
  unfolding range_from
  stepped_reads low s t hs high ht step closes = want k.Colon _ hs (then_reads _ (whole (ends colon_closes ht) high) (sees_reads k.Colon _ _ ht (took (made_reads _ (whole closes step) refl))))

  -- a range and what follows it, where behind a lower bound before a colon a range is read on
  range_reads : {B : Type 0} {l b r : List Token} {lb : List Load} {x : RangeTree} {y : B} (s : Range l x) (more : Exp → Parser B) (rest : RangeTree → Parser B)
      → ((low : Exp) (i : List Token) → next_is k.Colon i ≡ true → more low i ≡ and_then (range_from (up_to limits) fuel low i) rest)
      → IsCloser (kind (b ++ r)) → next_is k.Colon (b ++ r) ≡ false → IsRead limits fuel (rest x) lb b r y
      → IsRead limits fuel (λ i. and_then (full_to limits form.Whole i) more) (range_loads s ++ lb) (l ++ b) r y
  range_reads {b = b} {lb = lb} (expressions.plain {l = l} {m = m} s {low = low} start hs high) more rest goes_on closes no_colon part =
      regroup_reads (weights l) (Free ∷ weights m) lb l (s ∷ m) b
      (then_reads more (whole (ends colon_closes hs) start) (same_reads _ (goes_on low _ (ap (λ q. same_kind q k.Colon) hs)) (then_reads rest (plain_reads low s hs high closes no_colon) part)))
  range_reads {b = b} {lb = lb} (expressions.stepped {l = l} {m = m} {v = v} s t {low = low} start hs high ht step) more rest goes_on closes no_colon part =
      regroup_reads (weights l) (Free ∷ (weights m ++ Free ∷ weights v)) lb l (s ∷ (m ++ t ∷ v)) b
      (then_reads more (whole (ends colon_closes hs) start) (same_reads _ (goes_on low _ (ap (λ q. same_kind q k.Colon) hs)) (then_reads rest (stepped_reads low s t hs high ht step closes) part)))

  more_ranges_stop : (n : ℕ) (found : List RangeTree) (r : List Token) → kind r ≡ k.RightBracket → IsRead limits fuel (more_ranges (up_to limits) fuel n found) [] [] r found
  unfolding more_ranges
  more_ranges_stop zero found r h = done_reads
  more_ranges_stop (suc n) found r h = sees_reads k.Comma _ _ h done_reads

  more_ranges_read : {l : List Token} {rs : List RangeTree} (s : Ranges l rs) (n : ℕ) (found : List RangeTree) (t : Token) (r : List Token) → t.kind ≡ k.Comma → kind r ≡ k.RightBracket → length rs ≤ n
      → IsRead limits fuel (more_ranges (up_to limits) fuel n found) (Free ∷ ranges_loads s) (t ∷ l) r (found ++ rs)
  unfolding more_ranges
  more_ranges_read (expressions.last_range s) zero found t r ht h few = absurd (omega (arith, few))
  more_ranges_read (expressions.last_range {r = x} s) (suc n) found t r ht h few =
      sees_reads k.Comma _ _ ht (took (last_reads (range_reads s _ _ (λ low i _. refl) (ends bracket_closes h) (ap (λ q. same_kind q k.Colon) h) (more_ranges_stop n (found ++ x ∷ []) r h))))
  more_ranges_read (expressions.more_ranges u s h2 q) zero found t r ht h few = absurd (omega (arith, few))
  more_ranges_read (expressions.more_ranges u {r = x} {rs = xs} s h2 q) (suc n) found t r ht h few =
      sees_reads k.Comma _ _ ht (took (range_reads s _ _ (λ low i _. refl) (ends comma_closes h2) (ap (λ q. same_kind q k.Colon) h2)
      (result_reads (append_assoc found (x ∷ []) xs) (more_ranges_read q n (found ++ x ∷ []) u r h2 h (omega (arith, few))))))

  dims_reads : {l : List Token} {x : DimsTree} (s : Dims l x) (r : List Token) → kind r ≡ k.RightBracket → IsRead limits fuel (dims (up_to limits) fuel) (dims_loads s) l r x
  unfolding dims
  dims_reads (grammar.domain e) r h = last_reads (then_reads _ (whole (ends bracket_closes h) e) (sees_reads k.Colon _ _ h done_reads))
  dims_reads (grammar.ranges (expressions.last_range {r = x} s) few) r h =
      last_reads (range_reads s _ _ (λ low i is. same_test (next_is k.Colon i) true _ _ i is) (ends bracket_closes h)
      (ap (λ q. same_kind q k.Colon) h) (made_reads _ (more_ranges_stop 2 (x ∷ []) r h) refl))
  dims_reads (grammar.ranges (expressions.more_ranges t {r = x} s ht q) few) r h =
      range_reads s _ _ (λ low i is. same_test (next_is k.Colon i) true _ _ i is) (ends comma_closes ht) (ap (λ q. same_kind q k.Colon) ht)
      (made_reads _ (more_ranges_read q 2 (x ∷ []) t r ht h (omega (arith, few))) refl)

  -- ---- new things

  region_reads : {l : List Token} {x : Option Exp} (s : Region l x) (r : List Token) → next_is k.LeftParen r ≡ false → IsRead limits fuel (region (up_to limits) fuel) (region_loads s) l r x
  unfolding region
  region_reads grammar.none r free = test_reads (next_is k.LeftParen) _ _ false free done_reads
  region_reads (grammar.some o c ho e hc) r free = sees_reads k.LeftParen _ _ ho (took (then_reads _ (whole (ends paren_closes hc) e) (want k.RightParen _ hc done_reads)))

  -- a grid, after the base of its elements
  new_grid_reads : {q d g : List Token} {qs : List Qualifier} {gs : List GridTree} {x : DimsTree} (at : Place) (owner : Option Exp) (begin : Base) (o c : Token) (r : List Token)
      → Qualified q qs → o.kind ≡ k.LeftBracket → (s : Dims d x) → c.kind ≡ k.RightBracket → Gridded g gs → length gs ≤ 2 → EndsRight (kind r)
      → IsRead limits fuel (new_grid (up_to limits) fuel at owner begin) (free q ++ Free ∷ (dims_loads s ++ Free ∷ free g)) (q
      ++ o ∷ (d ++ c ∷ g)) r (tree.NewGrid at owner (record { base = begin; qualifiers = qs; grids = gs }) o.place x)
  unfolding new_grid
  new_grid_reads at owner begin o c r qs ho s hc gs few stop =
      then_reads _ (free_reads (qualifiers fuel []) (λ lt. qualifiers_read qs fuel [] _ (ap qualifier_of ho) lt))
      (want k.LeftBracket _ ho (then_reads _ (dims_reads s _ hc) (want k.RightBracket _ hc
      (made_reads _ (free_reads (grids fuel 2 []) (λ lt. grids_read gs fuel 2 [] r (record { qualifier = stop.qualifier; bracket = stop.bracket }) few lt)) refl))))

  object_reads : {name : List ℕ} (at : Place) (owner : Option Exp) (t o c : Token) (r : List Token) → t.kind ≡ k.Name name → o.kind ≡ k.LeftParen → c.kind ≡ k.RightParen
      → IsRead limits fuel (new_object_or_grid (up_to limits) fuel at owner) (free (t ∷ o ∷ c ∷ [])) (t ∷ o ∷ c ∷ []) r (tree.NewObject at owner t.place name)
  unfolding new_object_or_grid new_named
  object_reads at owner t o c r ht ho hc = by_kind (spec.new_object_or_grid_by (up_to limits) fuel at owner) ht (took (sees_reads k.LeftParen _ _ ho (took (want k.RightParen _ hc done_reads))))

  base_part : {l : List Token} {x : Base} → Based l x → (r : List Token) → IsRead limits fuel (base) (free l) l r x
  base_part s r = free_reads (base) (λ _. base_reads s r)

  grid_reads : {a q d g : List Token} {begin : Base} {qs : List Qualifier} {gs : List GridTree} {x : DimsTree} (at : Place) (owner : Option Exp) (o c : Token) (r : List Token)
      → Based a begin → Qualified q qs → o.kind ≡ k.LeftBracket → (s : Dims d x) → c.kind ≡ k.RightBracket → Gridded g gs → length gs ≤ 2 → EndsRight (kind r)
      → IsRead limits fuel (new_object_or_grid (up_to limits) fuel at owner) (free a ++ (free q ++ Free ∷ (dims_loads s ++ Free ∷ free g))) (a
      ++ (q ++ o ∷ (d ++ c ∷ g))) r (tree.NewGrid at owner (record { base = begin; qualifiers = qs; grids = gs }) o.place x)
  unfolding new_object_or_grid new_named
  grid_reads at owner o c r (types.int t h) qs ho s hc gs few stop =
      by_kind (spec.new_object_or_grid_by (up_to limits) fuel at owner) h (then_reads _ (base_part (types.int t h) _) (new_grid_reads at owner _ o c r qs ho s hc gs few stop))
  grid_reads at owner o c r (types.long t h) qs ho s hc gs few stop =
      by_kind (spec.new_object_or_grid_by (up_to limits) fuel at owner) h (then_reads _ (base_part (types.long t h) _) (new_grid_reads at owner _ o c r qs ho s hc gs few stop))
  grid_reads at owner o c r (types.boolean t h) qs ho s hc gs few stop =
      by_kind (spec.new_object_or_grid_by (up_to limits) fuel at owner) h (then_reads _ (base_part (types.boolean t h) _) (new_grid_reads at owner _ o c r qs ho s hc gs few stop))
  grid_reads at owner o c r (types.point t h n) qs ho s hc gs few stop =
      by_kind (spec.new_object_or_grid_by (up_to limits) fuel at owner) h (then_reads _ (base_part (types.point t h n) _) (new_grid_reads at owner _ o c r qs ho s hc gs few stop))
  grid_reads at owner o c r (types.rect_domain t h n) qs ho s hc gs few stop =
      by_kind (spec.new_object_or_grid_by (up_to limits) fuel at owner) h (then_reads _ (base_part (types.rect_domain t h n) _) (new_grid_reads at owner _ o c r qs ho s hc gs few stop))
  grid_reads at owner o c r (types.named t h) qs ho s hc gs few stop =
      by_kind (spec.new_object_or_grid_by (up_to limits) fuel at owner) h (took (test_reads (next_is k.LeftParen) _ _ false (qualified_not_paren qs o _ r ho) (new_grid_reads at owner _ o c r qs ho s hc gs few stop)))

  new_other : (at : Place) (q : TokenKind) (i : List Token) → begins_new q ≡ true → spec.new_by (up_to limits) fuel at q i ≡ and_then (region (up_to limits) fuel i) (new_object_or_grid (up_to limits) fuel at)
  new_other at k.KeywordSharedRegion i h = cc
  new_other at _ i h = refl

  -- after `new` and what isn't `SharedRegion`
  thing_reads : {l b r : List Token} {lb : List Load} {owner : Option Exp} {x : InitTree} (at : Place) (s : Region l owner) → begins_new (kind (b ++ r)) ≡ true → next_is k.LeftParen (b ++ r) ≡ false
      → IsRead limits fuel (new_object_or_grid (up_to limits) fuel at owner) lb b r x → IsRead limits fuel (new_thing (up_to limits) fuel at) (region_loads s ++ lb) (l ++ b) r x
  unfolding new_thing
  thing_reads {l = l} {b = b} {r = r} at s begin free part = same_reads _
      (new_other at (kind ((l ++ b) ++ r)) ((l ++ b) ++ r) (front_region s b r begin)) (then_reads _ (region_reads s (b ++ r) free) part)

  -- ---- right sides

  initial_value : (q : TokenKind) (i : List Token) → begins q ≡ true → spec.initial_by (up_to limits) fuel q i ≡ and_then (full_to limits form.Whole i) (λ x i. Ok (tree.Value x, i))
  initial_value k.KeywordNew i h = cc
  initial_value k.KeywordBroadcast i h = cc
  initial_value _ i h = refl

  pub initial_reads : {l : List Token} {x : InitTree} (s : Initial l x) (r : List Token) → EndsRight (kind r) → IsRead limits fuel (initial (up_to limits) fuel) (initial_loads s) l r x
  unfolding initial new_thing broadcast
  initial_reads (grammar.value {l = l} e) r stop = same_reads _ (initial_value (kind (l ++ r)) (l ++ r) (front_whole e r)) (made_reads _ (whole stop.closer e) refl)
  initial_reads (grammar.new_region n t o c hn ht ho hc) r stop =
      by_kind (spec.initial_by (up_to limits) fuel) hn (took (by_kind (spec.new_by (up_to limits) fuel n.place) ht (took (want k.LeftParen _ ho (want k.RightParen _ hc done_reads)))))
  initial_reads (grammar.new_object n t o c hn s ht ho hc) r stop =
      by_kind (spec.initial_by (up_to limits) fuel) hn (took (thing_reads n.place s (ap begins_new ht) (ap (λ q. same_kind q k.LeftParen) ht) (object_reads n.place _ t o c r ht ho hc)))
  initial_reads (grammar.new_grid n o c hn s begin qs ho d hc gs few) r stop =
      by_kind (spec.initial_by (up_to limits) fuel) hn (took (thing_reads n.place s (based_new begin _ r) (based_not_paren begin _ r) (grid_reads n.place _ o c r begin qs ho d hc gs few stop)))
  initial_reads (grammar.broadcast b f hb e hf root) r stop =
      by_kind (spec.initial_by (up_to limits) fuel) hb (took (then_reads _ (whole (ends (name_closes (codes "from")) hf) e)
      (want_word (codes "from") _ refl hf (made_reads _ (whole stop.closer root) refl))))

  -- a declaration, after its type
  pub declared_part : {m : List Token} {name : List ℕ} {value : InitTree} (ty : TypeTree) (t a : Token) (r : List Token) → t.kind
      ≡ k.Name name → a.kind ≡ k.Assign → (s : Initial m value) → EndsRight (kind r)
      → IsRead limits fuel (declared (up_to limits) fuel ty) (Free ∷ Free ∷ initial_loads s) (t ∷ a ∷ m) r (tree.Declare t.place ty name value)
  unfolding declared
  declared_part ty t a r ht ha s stop = name_took _ ht (want k.Assign _ ha (made_reads _ (initial_reads s r stop) refl))

  -- ---- prints

  pub printer_reads : {l : List Token} {p : Token} → Printer l p → (r : List Token) → IsRead limits fuel (printer (up_to limits) fuel) (free l) l r p.place
  unfolding printer
  printer_reads (grammar.short t h) r = by_kind (spec.printer_by (up_to limits) fuel) h (want k.KeywordPrintln _ h done_reads)
  printer_reads (grammar.long s d o p t hs hd ho hp ht) r =
      by_kind (spec.printer_by (up_to limits) fuel) hs (took (want k.Dot _ hd (want_word (codes "out") _ refl ho (want k.Dot _ hp (want k.KeywordPrintln _ ht done_reads)))))

  printed_value : (q : TokenKind) (i : List Token) → begins q ≡ true → spec.print_argument_by (up_to limits) fuel q i ≡ and_then (full_to limits form.Whole i) (λ x i. Ok (tree.Expression x, i))
  printed_value k.RightParen i h = cc
  printed_value (k.Str text) i h = cc
  printed_value _ i h = refl

  pub printed_reads : {l : List Token} {x : PrintTree} (s : Printed l x) (r : List Token) → kind r ≡ k.RightParen → IsRead limits fuel (print_argument (up_to limits) fuel) (printed_loads s) l r x
  unfolding print_argument print_text_argument
  printed_reads grammar.nothing r h = by_kind (spec.print_argument_by (up_to limits) fuel) h done_reads
  printed_reads (grammar.text t ht) r h = by_kind (spec.print_argument_by (up_to limits) fuel) ht (took (sees_reads k.Plus _ _ h done_reads))
  printed_reads (grammar.text_and_value t p ht hp e) r h = by_kind (spec.print_argument_by (up_to limits) fuel) ht (took (sees_reads k.Plus _ _ hp (took (made_reads _ (mul (ends paren_closes h) e) refl))))
  printed_reads (grammar.value {l = l} e) r h = same_reads _ (printed_value (kind (l ++ r)) (l ++ r) (front_whole e r)) (made_reads _ (whole (ends paren_closes h) e) refl)

  -- ---- heads

  pub condition_reads : {l : List Token} {x : Exp} (s : Condition l x) (r : List Token) → IsRead limits fuel (condition (up_to limits) fuel) (condition_loads s) l r x
  unfolding condition
  condition_reads (grammar.condition o c ho e hc) r = want k.LeftParen _ ho (then_reads _ (whole (ends paren_closes hc) e) (want k.RightParen _ hc done_reads))

  pub optional_part : {l : List Token} {x : Option Exp} (s : Optional l x) (r : List Token) → kind r ≡ k.Semicolon → IsRead limits fuel (optional_expr (up_to limits) fuel) (optional_loads s) l r x
  unfolding optional_expr
  optional_part grammar.none r h = sees_reads k.Semicolon _ _ h done_reads
  optional_part (grammar.some {l = l} e) r h = test_reads (next_is k.Semicolon) _ _ false (not_semicolon (kind (l ++ r)) (front_whole e r)) (made_reads _ (whole (ends semicolon_closes h) e) refl)
