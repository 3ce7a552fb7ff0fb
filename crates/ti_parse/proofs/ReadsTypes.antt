-- The parser is proved complete for types.
use Rattle.std.proofs.Common.{◌≡◌, ℕ, ◌<◌, ◌≤◌, List, [], ◌∷◌, ◌++◌, length, Some, None, Ok, refl, ap, ◌∙◌, append_assoc, arith, length-append, true, false, Bool}
use Rattle.std.proofs.lemmas.Option.{none-some}
use Rattle.ti_base.specs.declared.place.Place.{Place}
use Rattle.ti_syntax.specs.declared.token.Token.{Token}
use Rattle.ti_syntax.specs.declared.token.TokenKind.{TokenKind}
use Rattle.ti_syntax.specs.declared.token.TokenKind.TheVariants as k
use Rattle.ti_syntax.specs.declared.tree.types.Base.{Base}
use Rattle.ti_syntax.specs.declared.tree.types.Base.TheVariants as b
use Rattle.ti_syntax.specs.declared.tree.types.Qualifier.{Qualifier}
use Rattle.ti_syntax.specs.declared.tree.types.QualifierWord.{QualifierWord}
use Rattle.ti_syntax.specs.Tokens.{same_kind}
use Rattle.ti_syntax.specs.Trees.Types.{GridTree, TypeTree}
use Rattle.ti_syntax.specs.Spelling.Operators.{qualifier_of}
use Rattle.ti_syntax.specs.Spelling.Types.{Based, Qualified, Gridded, FieldType, WideType, Typed}
use Rattle.ti_syntax.specs.Spelling.Types as types
use Rattle.ti_parse_expr.specs.Mirrors.Input.{and_then, kind}
use Rattle.ti_parse_expr.specs.Mirrors.Full.{Limits}
use Rattle.ti_parse_expr.specs.Mirrors.Types.{arity, base, qualifiers, grid, grids, field_type}
use Rattle.ti_parse_expr.specs.Mirrors.Exprs.{is_dim_token}
use Rattle.ti_parse_expr.proofs.Lemmas.{then_ok, test_reads, arity_reads, base_reads, EndsType, field_type_reads, grid_reads, grids_read}
use Rattle.ti_parse_expr.proofs.Lemmas.{qualifiers_read, gridded_front}
use Rattle.ti_parse.specs.Mirrors.ParserParams.{up_to}
use Rattle.ti_parse.specs.Mirrors.Parts.{DeclaredType, is_wide, wide, wide_by, field, any_type, name_start, name_start_by, bracket_start}

-- ---- what types begin with

abbrev pub begins_base : TokenKind → Bool
begins_base k.KeywordInt = true
begins_base k.KeywordLong = true
begins_base k.KeywordBoolean = true
begins_base k.KeywordPoint = true
begins_base k.KeywordRectDomain = true
begins_base (k.Name name) = true
begins_base _ = false

pub front_based : {l : List Token} {x : Base} → Based l x → (r : List Token) → begins_base (kind (l ++ r)) ≡ true
front_based (types.int t h) r = ap begins_base h
front_based (types.long t h) r = ap begins_base h
front_based (types.boolean t h) r = ap begins_base h
front_based (types.point t h s) r = ap begins_base h
front_based (types.rect_domain t h s) r = ap begins_base h
front_based (types.named t h) r = ap begins_base h

pub front_field : {l : List Token} {ty : TypeTree} → FieldType l ty → (r : List Token) → begins_base (kind (l ++ r)) ≡ true
front_field (types.field_type {a = a} {l = l} {m = m} s q g few) r = ap (λ z. begins_base (kind z)) (append_assoc a (l ++ m) r) ∙ front_based s ((l ++ m) ++ r)

base_not_wide : (q : TokenKind) → begins_base q ≡ true → is_wide q ≡ false
base_not_wide k.KeywordDomain h = cc
base_not_wide k.KeywordSharedRegion h = cc
base_not_wide _ h = refl

-- a name ends a type
pub name_ends : {r : List Token} {name : List ℕ} → kind r ≡ k.Name name → EndsType r
name_ends h = record { qualifier = ap qualifier_of h; bracket = ap (λ q. same_kind q k.LeftBracket) h }

pub wide_is_wide : {l : List Token} {ty : TypeTree} → WideType l ty → (r : List Token) → is_wide (kind (l ++ r)) ≡ true
wide_is_wide (types.domain t h s q) r = ap is_wide h
wide_is_wide (types.shared_region t h q) r = ap is_wide h

module _ (limits : Limits) (fuel : ℕ) where
  pub field_reads : {l : List Token} {ty : TypeTree} → FieldType l ty → (r : List Token) → EndsType r → length l < fuel → field (up_to limits) fuel (l ++ r) ≡ Ok (ty, r)
  unfolding field
  field_reads (types.field_type {a = a} {l = l} {m = m} {b = begin} s q g few) r ends lt =
      ap (λ z. and_then (base z) (field_type fuel)) (append_assoc a (l ++ m) r)
      ∙ then_ok (field_type fuel) (base_reads s ((l ++ m) ++ r))
      ∙ field_type_reads q g few fuel begin r ends (omega (arith, length-append a (l ++ m)))

  pub wide_reads : {l : List Token} {ty : TypeTree} → WideType l ty → (r : List Token) → qualifier_of (kind r) ≡ None → length l < fuel → wide (up_to limits) fuel (l ++ r) ≡ Ok (ty, r)
  unfolding wide
  wide_reads (types.domain {l = l} {m = m} t h s q) r free lt =
      ap (λ z. wide_by (up_to limits) fuel z (t ∷ ((l ++ m) ++ r))) h
      ∙ ap (λ z. and_then (arity z) (λ n i. and_then (qualifiers fuel [] i) (λ qs i. Ok (record { base = b.Domain t.place n; qualifiers = qs; grids = [] }, i)))) (append_assoc l m r)
      ∙ then_ok _ (arity_reads s (m ++ r))
      ∙ then_ok (λ qs i. Ok (record { base = b.Domain t.place _; qualifiers = qs; grids = [] }, i)) (qualifiers_read q fuel [] r free (omega (arith, length-append l m)))
  wide_reads (types.shared_region {l = l} t h q) r free lt =
      ap (λ z. wide_by (up_to limits) fuel z (t ∷ (l ++ r))) h ∙ then_ok
      (λ qs i. Ok (record { base = b.SharedRegion t.place; qualifiers = qs; grids = [] }, i))
      (qualifiers_read q fuel [] r free (omega arith))

  pub typed_reads : {l : List Token} {ty : TypeTree} → Typed l ty → (r : List Token) → EndsType r → length l < fuel → any_type (up_to limits) fuel (l ++ r) ≡ Ok (ty, r)
  unfolding any_type
  typed_reads (types.field {l = l} s) r ends lt = test_reads (is_wide (kind (l ++ r))) false _ _ (l ++ r) (base_not_wide (kind (l ++ r)) (front_field s r)) ∙ field_reads s r ends lt
  typed_reads (types.wide {l = l} s) r ends lt = test_reads (is_wide (kind (l ++ r))) true _ _ (l ++ r) (wide_is_wide s r) ∙ wide_reads s r ends.qualifier lt

  -- ---- a type behind the name that it begins with

  begun_qualified : (at : Place) (name : List ℕ) (i : List Token) (q : TokenKind) (word : QualifierWord) → qualifier_of q ≡ Some word
      → name_start_by (up_to limits) fuel at name q i ≡ and_then (field_type fuel (b.Named at name) i) (λ ty i. Ok (DeclaredType ty, i))
  begun_qualified at name i k.KeywordSingle word h = refl
  begun_qualified at name i k.KeywordLocal word h = refl
  begun_qualified at name i _ word h = absurd (none-some word h)

  begun_grids : {l m : List Token} {qs : List Qualifier} {gs : List GridTree} → Qualified l qs → Gridded m gs → length gs ≤ 2
      → (at : Place) (name : List ℕ) (o t c : Token) (n : ℕ) (r : List Token) → t.kind ≡ k.Dim n → 1 ≤ n → n ≤ 3 → c.kind ≡ k.RightBracket
      → EndsType r
      → length (l ++ m) < fuel
      → bracket_start (up_to limits) fuel at name o.place (t ∷ c ∷ ((l ++ m) ++ r))
      ≡ Ok (DeclaredType (record { base = b.Named at name; qualifiers = []; grids = record { dim = n; qualifiers = qs } ∷ gs }), r)
  unfolding bracket_start
  begun_grids {l = l} {m = m} {qs = qs} {gs = gs} s g few at name o t c n r ht low high hc ends lt =
      let one : GridTree = record { dim = n; qualifiers = qs } in
      let long = length-append l m in
      test_reads (is_dim_token t.kind) true _ _ (t ∷ c ∷ ((l ++ m) ++ r)) (ap is_dim_token ht)
      ∙ ap (λ z. and_then (grid fuel (t ∷ c ∷ z)) (λ g i. and_then (grids fuel 2 (g ∷ []) i)
      (λ gs i. Ok (DeclaredType (record { base = b.Named at name; qualifiers = []; grids = gs }), i)))) (append_assoc l m r)
      ∙ then_ok (λ g i. and_then (grids fuel 2 (g ∷ []) i) (λ gs i. Ok
      (DeclaredType (record { base = b.Named at name; qualifiers = []; grids = gs }), i)))
      (grid_reads s fuel t c n (m ++ r) ht low high hc (gridded_front g r ends.qualifier) (omega arith))
      ∙ then_ok (λ gs i. Ok (DeclaredType (record { base = b.Named at name; qualifiers = []; grids = gs }), i)) (grids_read g fuel 2 (one ∷ []) r ends few (omega arith))

  pub begun_declares : {l m : List Token} {qs : List Qualifier} {gs : List GridTree} {next : List ℕ} → Qualified l qs → Gridded m gs
      → length gs ≤ 3 → (at : Place) (name : List ℕ) (r : List Token) → kind r ≡ k.Name next → length (l ++ m) < fuel
      → name_start (up_to limits) fuel at name ((l ++ m) ++ r) ≡ Ok (DeclaredType (record { base = b.Named at name; qualifiers = qs; grids = gs }), r)
  unfolding name_start
  begun_declares types.none types.none few at name r is lt = ap (λ q. name_start_by (up_to limits) fuel at name q r) is
  begun_declares types.none (types.more {l = l} {m = m} o t c {n = n} ho ht low high hc s g) few at name r is lt =
      ap (λ q. name_start_by (up_to limits) fuel at name q (o ∷ t ∷ c ∷ ((l ++ m) ++ r))) ho ∙ begun_grids s g (omega (arith, few)) at name o t c n r ht low high hc (name_ends is) (omega arith)
  begun_declares {m = m} (types.more {l = l} t {word = word} h s) g few at name r is lt =
      begun_qualified at name (t ∷ ((l ++ m) ++ r)) t.kind word h ∙ then_ok (λ ty i. Ok (DeclaredType ty, i)) (field_type_reads (types.more t h s) g few fuel (b.Named at name) r (name_ends is) lt)
