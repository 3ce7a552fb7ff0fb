-- The parser is proved complete for types: it parses each derivation of the grammar, if the token after it can't continue it.
use Rattle.std.proofs.Common.{◌≡◌, ℕ, zero, suc, pos, ◌<◌, ◌≤◌, List, [], ◌∷◌, ◌++◌, length, Some, None, Ok, refl, sym, ap, ◌∙◌, append_assoc, arith, length-append, true, false}
use Rattle.std.proofs.lemmas.Bool.{le-leb}
use Rattle.ti_syntax.specs.declared.token.Token.{Token}
use Rattle.ti_syntax.specs.declared.token.TokenKind.{TokenKind}
use Rattle.ti_syntax.specs.declared.token.TokenKind.TheVariants as k
use Rattle.ti_syntax.specs.declared.tree.types.Base.{Base}
use Rattle.ti_syntax.specs.declared.tree.types.Base.TheVariants as b
use Rattle.ti_syntax.specs.declared.tree.types.Qualifier.{Qualifier}
use Rattle.ti_syntax.specs.Trees.Types.{GridTree}
use Rattle.ti_syntax.specs.Tokens.{same_kind}
use Rattle.ti_syntax.specs.Spelling.Operators.{qualifier_of}
use Rattle.ti_syntax.specs.Spelling.Types.{Arity, Based, Qualified, Gridded, FieldType}
use Rattle.ti_syntax.specs.Spelling.Types as grammar
use Rattle.ti_parse_expr.specs.Mirrors.Input.{and_then, kind, next_is, expect, take_token}
use Rattle.ti_parse_expr.specs.Mirrors.Types as spec
use Rattle.ti_parse_expr.specs.Mirrors.Types.{dim_from_int, arity_number, arity, base, qualifiers, grid_dimension, grid, grids, field_type}
use Rattle.ti_parse_expr.proofs.Law.{append_nil}
use Rattle.ti_parse_expr.proofs.Follows.{then_ok, test_reads, expect_reads}

dim_of_small : (n : ℕ) → 1 ≤ n → n ≤ 3 → dim_from_int (pos n) ≡ Some n
dim_of_small n low high = rw (le-leb 1 n low, le-leb n 3 high) refl

dimension_reads : (t : Token) (n : ℕ) (r : List Token) → t.kind ≡ k.Int (pos n) → 1 ≤ n → n ≤ 3 → arity_number (t ∷ r) ≡ Ok (n, r)
dimension_reads t n r h low high = ap (λ q. spec.dimension_by q (t ∷ r)) h ∙ ap (λ d. spec.dimension_if d (t ∷ r)) (dim_of_small n low high)

pub arity_reads : {l : List Token} {n : ℕ} → Arity l n → (r : List Token) → arity (l ++ r) ≡ Ok (n, r)
unfolding arity
arity_reads (grammar.arity o t c {n = n} ho ht low high hc) r =
    then_ok _ (expect_reads k.Less o (t ∷ c ∷ r) refl ho) ∙ then_ok _ (dimension_reads t n (c ∷ r) ht low high) ∙ then_ok (λ _ j. Ok (n, j)) (expect_reads k.Greater c r refl hc)

base_turn : (t : Token) (ts : List Token) (q : TokenKind) → t.kind ≡ q → base (t ∷ ts) ≡ spec.base_by q (t ∷ ts)
unfolding base
base_turn t ts q h = ap (λ z. spec.base_by z (t ∷ ts)) h

pub base_reads : {l : List Token} {x : Base} → Based l x → (r : List Token) → base (l ++ r) ≡ Ok (x, r)
base_reads (grammar.int t h) r = base_turn t r k.KeywordInt h
base_reads (grammar.long t h) r = base_turn t r k.KeywordLong h
base_reads (grammar.boolean t h) r = base_turn t r k.KeywordBoolean h
base_reads (grammar.point {l = l} t h s) r = base_turn t (l ++ r) k.KeywordPoint h ∙ then_ok (λ n i. Ok (b.Point t.place n, i)) (arity_reads s r)
base_reads (grammar.rect_domain {l = l} t h s) r = base_turn t (l ++ r) k.KeywordRectDomain h ∙ then_ok (λ n i. Ok (b.RectDomain t.place n, i)) (arity_reads s r)
base_reads (grammar.named t {name = name} h) r = base_turn t r (k.Name name) h

-- ---- qualifiers

pub qualifiers_read : {l : List Token} {qs : List Qualifier} → Qualified l qs → (m : ℕ) (found : List Qualifier) (r : List Token)
    → qualifier_of (kind r) ≡ None → length l < m → qualifiers m found (l ++ r) ≡ Ok (found ++ qs, r)
unfolding qualifiers
qualifiers_read grammar.none zero found r free lt = absurd (omega arith)
qualifiers_read grammar.none (suc m) found r free lt = ap (λ q. spec.qualifiers_if (qualifiers m) found q r) free ∙ ap (λ z. Ok (z, r)) (sym (append_nil found))
qualifiers_read (grammar.more t is s) zero found r free lt = absurd (omega arith)
qualifiers_read (grammar.more {l = l} {qs = qs} t {word = word} is s) (suc m) found r free lt =
    let one : Qualifier = record { word = word; place = t.place } in
    ap (λ q. spec.qualifiers_if (qualifiers m) found q (t ∷ (l ++ r))) is
    ∙ qualifiers_read s m (found ++ one ∷ []) r free (omega arith)
    ∙ ap (λ z. Ok (z, r)) (append_assoc found (one ∷ []) qs)

-- ---- grids

grid_dimension_reads : (t : Token) (n : ℕ) (r : List Token) → t.kind ≡ k.Dim n → 1 ≤ n → n ≤ 3 → grid_dimension (t ∷ r) ≡ Ok (n, r)
grid_dimension_reads t n r h low high = ap (λ q. spec.grid_dimension_by q (t ∷ r)) h ∙ ap (λ d. spec.dimension_if d (t ∷ r)) (dim_of_small n low high)

pub grid_reads : {l : List Token} {qs : List Qualifier} → Qualified l qs → (fuel : ℕ) (t c : Token) (n : ℕ) (r : List Token) → t.kind
    ≡ k.Dim n → 1 ≤ n → n ≤ 3 → c.kind ≡ k.RightBracket → qualifier_of (kind r) ≡ None → length l < fuel
    → grid fuel (t ∷ c ∷ (l ++ r)) ≡ Ok (record { dim = n; qualifiers = qs }, r)
unfolding grid
grid_reads {l = l} {qs = qs} s fuel t c n r ht low high hc free lt =
    then_ok _ (grid_dimension_reads t n (c ∷ (l ++ r)) ht low high)
    ∙ then_ok _ (expect_reads k.RightBracket c (l ++ r) refl hc)
    ∙ then_ok (λ qs j. Ok (record { dim = n; qualifiers = qs }, j)) (qualifiers_read s fuel [] r free lt)

-- what can follow the brackets of grids
pub record EndsType (r : List Token) : Type 0 where
  pub qualifier : qualifier_of (kind r) ≡ None
  pub bracket : next_is k.LeftBracket r ≡ false

pub gridded_front : {l : List Token} {gs : List GridTree} → Gridded l gs → (r : List Token) → qualifier_of (kind r) ≡ None → qualifier_of (kind (l ++ r)) ≡ None
gridded_front grammar.none r h = h
gridded_front (grammar.more o t c ho ht low high hc qs s) r h = ap qualifier_of ho

pub grids_read : {l : List Token} {gs : List GridTree} → Gridded l gs → (fuel n : ℕ) (found : List GridTree) (r : List Token) → EndsType r → length gs ≤ n → length l < fuel
    → grids fuel n found (l ++ r) ≡ Ok (found ++ gs, r)
unfolding grids
grids_read grammar.none fuel zero found r free few lt = ap (λ z. Ok (z, r)) (sym (append_nil found))
grids_read grammar.none fuel (suc n) found r free few lt = test_reads (next_is k.LeftBracket r) false _ _ r free.bracket ∙ ap (λ z. Ok (z, r)) (sym (append_nil found))
grids_read (grammar.more o t c ho ht low high hc qs s) fuel zero found r free few lt = absurd (omega (arith, few))
grids_read (grammar.more {l = l} {m = m} {qs = words} {gs = gs} o t c {n = d} ho ht low high hc qs s) fuel (suc n) found r free few lt =
    let g : GridTree = record { dim = d; qualifiers = words } in
    let long = length-append l m in
    test_reads (same_kind o.kind k.LeftBracket) true _ _ (o ∷ t ∷ c ∷ ((l ++ m) ++ r)) (ap (λ q. same_kind q k.LeftBracket) ho)
    ∙ ap (λ z. and_then (grid fuel (t ∷ c ∷ z)) (λ g. grids fuel n (found ++ g ∷ []))) (append_assoc l m r)
    ∙ then_ok (λ g. grids fuel n (found ++ g ∷ [])) (grid_reads qs fuel t c d (m ++ r) ht low high hc (gridded_front s r free.qualifier) (omega arith))
    ∙ grids_read s fuel n (found ++ g ∷ []) r free (omega (arith, few)) (omega arith)
    ∙ ap (λ z. Ok (z, r)) (append_assoc found (g ∷ []) gs)

-- the type of a field behind its base
pub field_type_reads : {l m : List Token} {qs : List Qualifier} {gs : List GridTree} → Qualified l qs → Gridded m gs → length gs ≤ 3
    → (fuel : ℕ) (begin : Base) (r : List Token) → EndsType r → length (l ++ m) < fuel
    → field_type fuel begin ((l ++ m) ++ r) ≡ Ok (record { base = begin; qualifiers = qs; grids = gs }, r)
unfolding field_type
field_type_reads {l = l} {m = m} {qs = qs} {gs = gs} s p few fuel begin r free lt =
    let long = length-append l m in
    ap (λ z. and_then (qualifiers fuel [] z) (λ qs i. and_then (grids fuel 3 [] i) (λ gs j. Ok (record { base = begin; qualifiers = qs; grids = gs }, j)))) (append_assoc l m r)
    ∙ then_ok _ (qualifiers_read s fuel [] (m ++ r) (gridded_front p r free.qualifier) (omega arith))
    ∙ then_ok (λ gs j. Ok (record { base = begin; qualifiers = qs; grids = gs }, j)) (grids_read p fuel 3 [] r free few (omega arith))
