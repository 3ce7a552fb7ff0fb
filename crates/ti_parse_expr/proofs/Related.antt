-- A relation between parsers that each parsing step preserves is proved to hold between two expression parsers.
use Rattle.std.proofs.Common.{◌≡◌, ℕ, zero, suc, pos, ◌+◌, List, [], ◌∷◌, ◌++◌, Option, Some, None, is_some, Ok, Err, refl, true, false, Bool, nat_lt, if◌then◌else◌, codes}
use Rattle.ti_base.specs.declared.place.Place.{Place}
use Rattle.ti_syntax.specs.declared.token.TokenKind.{TokenKind}
use Rattle.ti_syntax.specs.declared.token.TokenKind.TheVariants as k
use Rattle.ti_syntax.specs.declared.tree.types.Base.{Base}
use Rattle.ti_syntax.specs.declared.tree.types.Base.TheVariants as b
use Rattle.ti_syntax.specs.declared.tree.types.Qualifier.{Qualifier}
use Rattle.ti_syntax.specs.declared.tree.types.QualifierWord.{QualifierWord}
use Rattle.ti_syntax.specs.declared.tree.exprs.UnaryOperator.{UnaryOperator}
use Rattle.ti_syntax.specs.declared.tree.exprs.BinaryOperator.{BinaryOperator}
use Rattle.ti_syntax.specs.Trees.Types.{GridTree, TypeTree}
use Rattle.ti_syntax.specs.Trees.Expressions.{Exp, RangeTree}
use Rattle.ti_syntax.specs.Trees.Expressions as e
use Rattle.ti_syntax.specs.Tokens.{same_kind}
use Rattle.ti_syntax.specs.Spelling.Operators.{prefix_of, infix_of, strength, qualifier_of}
use Rattle.ti_syntax.specs.Spelling.Expressions.{Target, Call, Other}
use Rattle.ti_parse_expr.specs.Mirrors.Input.{At, OutOfFuel, Parser, and_then, kind, place, next_is, spells, expect, take_token, any_name, name_of_kind}
use Rattle.ti_parse_expr.specs.Mirrors.Types as types
use Rattle.ti_parse_expr.specs.Mirrors.Types.{dim_from_int, arity_number, arity, base as type_base, qualifiers, grid, grids, field_type}
use Rattle.ti_parse_expr.specs.Mirrors.Exprs as spec
use Rattle.ti_parse_expr.specs.Mirrors.Exprs.{Operand, begins_type, is_dim_token, more_args, args, more_parts, parts_from, parts, range_from}
use Rattle.ti_parse_expr.specs.Mirrors.Exprs.{more_ranges, ranges_from, bracket, process_name, process, name_or_call, member, index, postfix}
use Rattle.ti_parse_expr.specs.Mirrors.Exprs.{group, operand, operation, climb, cast, cast_from, cast_from_grid, group_from}
use Rattle.ti_parse_expr.specs.Mirrors.Exprs.{paren_name_bracket, paren_name, paren, unary, prefix, level, expr, behind_name}
use Rattle.ti_parse_expr.specs.Mirrors.Exprs.{behind_bracket}

-- the readers with so many turns each
pub record Readers (Q : (A : Type 0) → Parser A → Parser A → Type 0) (fuel more : ℕ) : Type 0 where
  pub expr : (least : ℕ) → Q Exp (spec.expr fuel least) (spec.expr more least)
  pub operand : Q Operand (spec.operand fuel (spec.expr fuel)) (spec.operand more (spec.expr more))
  pub behind_name : (at : Place) (name : List ℕ) → Q Operand (spec.behind_name fuel at name) (spec.behind_name more at name)
  pub behind_bracket : (bracket_at at : Place) (name : List ℕ) → Q Operand (spec.behind_bracket fuel bracket_at at name) (spec.behind_bracket more bracket_at at name)

-- Q is the relation, and T relates the turns that are left
module _ (Q : (A : Type 0) → Parser A → Parser A → Type 0) (T : ℕ → ℕ → Type 0) (q_pure : (A : Type 0) (x : A) → Q A (λ i. Ok (x, i)) (λ i. Ok (x, i)))
    (q_refuse : (A : Type 0) → Q A (λ i. Err (At i)) (λ i. Err (At i))) (q_take : Q (Unit {0}) take_token take_token)
    (q_then : (A B : Type 0) (p q : Parser A) (f g : A → Parser B) → Q A p q → ((x : A) → Q B (f x) (g x)) → Q B (λ i. and_then (p i) f) (λ i. and_then (q i) g))
    (q_kind : (A : Type 0) (f g : TokenKind → Parser A) → ((x : TokenKind) → Q A (f x) (g x)) → Q A (λ i. f (kind i) i) (λ i. g (kind i) i))
    (q_place : (A : Type 0) (f g : Place → Parser A) → ((x : Place) → Q A (f x) (g x)) → Q A (λ i. f (place i) i) (λ i. g (place i) i))
    (q_spent : (A : Type 0) (q : ℕ → Parser A) (m : ℕ) → T zero m → q zero ≡ (λ i. Err OutOfFuel) → Q A (λ i. Err OutOfFuel) (q m)) (t_none : (m : ℕ) → T (suc m) zero → ⊥)
    (t_less : (m m2 : ℕ) → T (suc m) (suc m2) → T m m2) where
  abbrev R : {A : Type 0} → Parser A → Parser A → Type 0
  R {A = A} p q = Q A p q

  r_pure : {A : Type 0} (x : A) → R (λ i. Ok (x, i)) (λ i. Ok (x, i))
  r_pure {A = A} x = q_pure A x

  r_refuse : {A : Type 0} → R {A = A} (λ i. Err (At i)) (λ i. Err (At i))
  r_refuse {A = A} = q_refuse A

  r_take : R take_token take_token
  r_take = q_take

  r_then : {A B : Type 0} {p q : Parser A} {f g : A → Parser B} → R p q → ((x : A) → R (f x) (g x)) → R (λ i. and_then (p i) f) (λ i. and_then (q i) g)
  r_then {A = A} {B = B} {p = p} {q = q} {f = f} {g = g} first next = q_then A B p q f g first next

  r_kind : {A : Type 0} (f g : TokenKind → Parser A) → ((x : TokenKind) → R (f x) (g x)) → R (λ i. f (kind i) i) (λ i. g (kind i) i)
  r_kind {A = A} f g each = q_kind A f g each

  r_place : {A : Type 0} (f g : Place → Parser A) → ((x : Place) → R (f x) (g x)) → R (λ i. f (place i) i) (λ i. g (place i) i)
  r_place {A = A} f g each = q_place A f g each

  r_spent : {A : Type 0} (q : ℕ → Parser A) (m : ℕ) → T zero m → q zero ≡ (λ i. Err OutOfFuel) → R (λ i. Err OutOfFuel) (q m)
  r_spent {A = A} q m h is = q_spent A q m h is

  -- ---- steps

  r_if : {A : Type 0} (c : Bool) {p q p2 q2 : Parser A} → R p q → R p2 q2 → R (if◌then◌else◌ {A = Parser A} c p p2) (if◌then◌else◌ {A = Parser A} c q q2)
  r_if true yes_case no_case = yes_case
  r_if false yes_case no_case = no_case

  abbrev expect_if : Bool → Parser (Unit {0})
  expect_if c i = if c then take_token i else Err (At i)

  r_expect_if : (c : Bool) → R (expect_if c) (expect_if c)
  r_expect_if true = r_take
  r_expect_if false = r_refuse

  r_expect : (q : TokenKind) → R (expect q) (expect q)
  r_expect q = r_kind (λ a. expect_if (same_kind a q)) (λ a. expect_if (same_kind a q)) (λ a. r_expect_if (same_kind a q))

  -- a choice by the next token
  r_test : {A : Type 0} (test : TokenKind → Bool) {p1 q1 p2 q2 : Parser A} → R p1 q1 → R p2 q2
      → R (λ i. if◌then◌else◌ {A = Parser A} (test (kind i)) p1 p2 i) (λ i. if◌then◌else◌ {A = Parser A} (test (kind i)) q1 q2 i)
  r_test {A = A} test {p1 = p1} {q1 = q1} {p2 = p2} {q2 = q2} n1 n2 =
      r_kind (λ a. if◌then◌else◌ {A = Parser A} (test a) p1 p2) (λ a. if◌then◌else◌ {A = Parser A} (test a) q1 q2)
      (λ a. r_if (test a) n1 n2)

  r_sees : {A : Type 0} (q : TokenKind) {p1 q1 p2 q2 : Parser A} → R p1 q1 → R p2 q2
      → R (λ i. if◌then◌else◌ {A = Parser A} (next_is q i) p1 p2 i) (λ i. if◌then◌else◌ {A = Parser A} (next_is q i) q1 q2 i)
  r_sees q n1 n2 = r_test (λ a. same_kind a q) n1 n2

  r_name_by : (q : TokenKind) → R (name_of_kind q) (name_of_kind q)
  r_name_by (k.Name name) = r_then r_take (λ _. r_pure name)
  r_name_by _ = r_refuse

  r_name : R (any_name) (any_name)
  r_name = r_kind (name_of_kind) (name_of_kind) r_name_by

  -- ---- types

  r_dimension_if : (d : Option ℕ) → R (types.dimension_if d) (types.dimension_if d)
  r_dimension_if None = r_refuse
  r_dimension_if (Some n) = r_then r_take (λ _. r_pure n)

  r_dimension_by : (q : TokenKind) → R (types.dimension_by q) (types.dimension_by q)
  r_dimension_by (k.Int n) = r_dimension_if (dim_from_int n)
  r_dimension_by _ = r_refuse

  pub r_arity : R (arity) (arity)
  unfolding arity
  r_arity = r_then (r_expect k.Less) (λ _. r_then (r_kind (types.dimension_by) (types.dimension_by) r_dimension_by) (λ n. r_then (r_expect k.Greater) (λ _. r_pure n)))

  r_base_by : (q : TokenKind) → R (types.base_by q) (types.base_by q)
  r_base_by k.KeywordInt = r_place (λ at i. and_then (take_token i) (λ _ j. Ok (b.Int at, j)))
      (λ at i. and_then (take_token i) (λ _ j. Ok (b.Int at, j))) (λ at. r_then r_take (λ _. r_pure (b.Int at)))
  r_base_by k.KeywordLong = r_place (λ at i. and_then (take_token i) (λ _ j. Ok (b.Long at, j)))
      (λ at i. and_then (take_token i) (λ _ j. Ok (b.Long at, j))) (λ at. r_then r_take (λ _. r_pure (b.Long at)))
  r_base_by k.KeywordBoolean = r_place (λ at i. and_then (take_token i) (λ _ j. Ok (b.Boolean at, j)))
      (λ at i. and_then (take_token i) (λ _ j. Ok (b.Boolean at, j))) (λ at. r_then r_take (λ _. r_pure (b.Boolean at)))
  r_base_by k.KeywordPoint =
      r_place (λ at i. and_then (take_token i) (λ _ i. and_then (arity i) (λ n j. Ok (b.Point at n, j)))) (λ at i. and_then (take_token i) (λ _ i. and_then (arity i) (λ n j. Ok (b.Point at n, j))))
      (λ at. r_then r_take (λ _. r_then r_arity (λ n. r_pure (b.Point at n))))
  r_base_by k.KeywordRectDomain =
      r_place (λ at i. and_then (take_token i) (λ _ i. and_then (arity i) (λ n j. Ok (b.RectDomain at n, j))))
      (λ at i. and_then (take_token i) (λ _ i. and_then (arity i) (λ n j. Ok (b.RectDomain at n, j))))
      (λ at. r_then r_take (λ _. r_then r_arity (λ n. r_pure (b.RectDomain at n))))
  r_base_by (k.Name name) = r_place (λ at i. and_then (take_token i) (λ _ j. Ok (b.Named at name, j)))
      (λ at i. and_then (take_token i) (λ _ j. Ok (b.Named at name, j))) (λ at. r_then r_take (λ _. r_pure (b.Named at name)))
  r_base_by _ = r_refuse

  pub r_base : R (type_base) (type_base)
  unfolding type_base
  r_base = r_kind (types.base_by) (types.base_by) r_base_by

  r_qualifiers_if : (f g : List Qualifier → Parser (List Qualifier)) → ((found : List Qualifier) → R (f found) (g found))
      → (found : List Qualifier) (q : Option QualifierWord) → R (types.qualifiers_if f found q) (types.qualifiers_if g found q)
  r_qualifiers_if f g more found None = r_pure found
  r_qualifiers_if f g more found (Some word) =
      r_place (λ at i. and_then (take_token i) (λ _. f (found ++ record { word = word; place = at } ∷ [])))
      (λ at i. and_then (take_token i) (λ _. g (found ++ record { word = word; place = at } ∷ [])))
      (λ at. r_then r_take (λ _. more (found ++ record { word = word; place = at } ∷ [])))

  pub r_qualifiers : (m m2 : ℕ) → T m m2 → (found : List Qualifier) → R (qualifiers m found) (qualifiers m2 found)
  unfolding qualifiers
  r_qualifiers zero m2 h found = r_spent (λ z. qualifiers z found) m2 h refl
  r_qualifiers (suc m) zero h found = absurd (t_none m h)
  r_qualifiers (suc m) (suc m2) h found =
      r_kind (λ q. types.qualifiers_if (qualifiers m) found (qualifier_of q)) (λ q. types.qualifiers_if (qualifiers m2) found (qualifier_of q))
      (λ q. r_qualifiers_if (qualifiers m) (qualifiers m2) (r_qualifiers m m2 (t_less m m2 h)) found (qualifier_of q))

  r_grid_dimension_by : (q : TokenKind) → R (types.grid_dimension_by q) (types.grid_dimension_by q)
  r_grid_dimension_by (k.Dim n) = r_dimension_if (dim_from_int (pos n))
  r_grid_dimension_by _ = r_refuse

  module _ (fuel more : ℕ) (most : T fuel more) where
    pub r_grid : R (grid fuel) (grid more)
    unfolding grid
    r_grid = r_then (r_kind (types.grid_dimension_by) (types.grid_dimension_by) r_grid_dimension_by)
        (λ n. r_then (r_expect k.RightBracket) (λ _. r_then (r_qualifiers fuel more most [])
        (λ qs. r_pure (record { dim = n; qualifiers = qs }))))

    pub r_grids : (n : ℕ) (found : List GridTree) → R (grids fuel n found) (grids more n found)
    unfolding grids
    r_grids zero found = r_pure found
    r_grids (suc n) found = r_sees k.LeftBracket (r_then r_take (λ _. r_then r_grid (λ g. r_grids n (found ++ g ∷ [])))) (r_pure found)

    pub r_field_type : (begin : Base) → R (field_type fuel begin) (field_type more begin)
    unfolding field_type
    r_field_type begin = r_then (r_qualifiers fuel more most []) (λ qs. r_then (r_grids 3 []) (λ gs. r_pure (record { base = begin; qualifiers = qs; grids = gs })))

    -- ---- expressions

    module _ (expr1 expr2 : ℕ → Parser Exp) (r_expr : (n : ℕ) → R (expr1 n) (expr2 n)) where
      r_more_args : (m m2 : ℕ) → T m m2 → (found : List Exp) → R (more_args fuel expr1 m found) (more_args more expr2 m2 found)
      unfolding more_args
      r_more_args zero m2 h found = r_spent (λ z. more_args more expr2 z found) m2 h refl
      r_more_args (suc m) zero h found = absurd (t_none m h)
      r_more_args (suc m) (suc m2) h found =
          r_then (r_expr 1) (λ x. r_sees k.Comma (r_then r_take (λ _. r_more_args m m2 (t_less m m2 h) (found ++ x ∷ []))) (r_pure (found ++ x ∷ [])))

      r_args : R (args fuel expr1) (args more expr2)
      unfolding args
      r_args = r_sees k.RightParen (r_then r_take (λ _. r_pure [])) (r_then (r_more_args fuel more most []) (λ found. r_then (r_expect k.RightParen) (λ _. r_pure found)))

      r_more_parts : (n : ℕ) (found : List Exp) → R (more_parts fuel expr1 n found) (more_parts more expr2 n found)
      unfolding more_parts
      r_more_parts zero found = r_pure found
      r_more_parts (suc n) found = r_sees k.Comma (r_then r_take (λ _. r_then (r_expr 1) (λ x. r_more_parts n (found ++ x ∷ [])))) (r_pure found)

      r_parts_from : (first : Exp) → R (parts_from fuel expr1 first) (parts_from more expr2 first)
      unfolding parts_from
      r_parts_from first = r_then (r_more_parts 2 (first ∷ [])) (λ found. r_then (r_expect k.RightBracket) (λ _. r_pure found))

      r_parts : R (parts fuel expr1) (parts more expr2)
      unfolding parts
      r_parts = r_then (r_expr 1) r_parts_from

      r_range_from : (low : Exp) → R (range_from fuel expr1 low) (range_from more expr2 low)
      unfolding range_from
      r_range_from low =
          r_then (r_expect k.Colon) (λ _. r_then (r_expr 1) (λ high. r_sees k.Colon (r_then r_take (λ _. r_then (r_expr 1) (λ step. r_pure (e.Stepped low high step)))) (r_pure (e.Plain low high))))

      r_more_ranges : (n : ℕ) (found : List RangeTree) → R (more_ranges fuel expr1 n found) (more_ranges more expr2 n found)
      unfolding more_ranges
      r_more_ranges zero found = r_pure found
      r_more_ranges (suc n) found = r_sees k.Comma (r_then r_take (λ _. r_then (r_expr 1) (λ low. r_then (r_range_from low) (λ r. r_more_ranges n (found ++ r ∷ []))))) (r_pure found)

      r_ranges_from : (low : Exp) → R (ranges_from fuel expr1 low) (ranges_from more expr2 low)
      unfolding ranges_from
      r_ranges_from low = r_then (r_range_from low) (λ r. r_then (r_more_ranges 2 (r ∷ [])) (λ found. r_then (r_expect k.RightBracket) (λ _. r_pure found)))

      r_bracket : (at : Place) → R (bracket fuel expr1 at) (bracket more expr2 at)
      unfolding bracket
      r_bracket at = r_then (r_expr 1) (λ first. r_sees k.Colon (r_then (r_ranges_from first) (λ rs. r_pure (e.rect at rs))) (r_then (r_parts_from first) (λ xs. r_pure (e.point at xs))))

      abbrev process_name_by : TokenKind → Parser Bool
      process_name_by q =
          if◌then◌else◌ {A = Parser Bool} (spells (codes "thisProc") q) (λ i. and_then (take_token i) (λ _ j. Ok (true, j)))
          (if◌then◌else◌ {A = Parser Bool} (spells (codes "numProcs") q) (λ i. and_then (take_token i) (λ _ j. Ok (false, j))) (λ i. Err (At i)))

      r_process_name : R (process_name) (process_name)
      unfolding process_name
      r_process_name =
          r_kind process_name_by process_name_by (λ q. r_if (spells (codes "thisProc") q) (r_then r_take (λ _. r_pure true))
          (r_if (spells (codes "numProcs") q) (r_then r_take (λ _. r_pure false)) r_refuse))

      r_process : (at : Place) → R (process at) (process at)
      unfolding process
      r_process at = r_then (r_expect k.Dot) (λ _. r_then r_process_name
          (λ is_this. r_then (r_expect k.LeftParen) (λ _. r_then (r_expect k.RightParen)
          (λ _. r_pure (if is_this then e.ThisProc at else e.NumProcs at)))))

      r_named : (at : Place) (name : List ℕ) → R (name_or_call fuel expr1 at name) (name_or_call more expr2 at name)
      unfolding name_or_call
      r_named at name = r_sees k.LeftParen (r_then r_take (λ _. r_then r_args (λ xs. r_pure (e.call at name xs, Call)))) (r_pure (e.Name at name, Target))

      abbrev member_at : ℕ → (ℕ → Parser Exp) → Exp → Place → Parser Operand
      member_at n expr_one left at i =
          and_then (any_name i) (λ name i. if◌then◌else◌ {A = Parser Operand} (next_is k.LeftParen i)
          (λ i. and_then (take_token i) (λ _ i. and_then (args n expr_one i) (λ xs j. Ok ((e.member at left name xs, Call), j))))
          (λ i. Ok ((e.Select at left name, Target), i)) i)

      r_member : (left : Exp) → R (member fuel expr1 left) (member more expr2 left)
      unfolding member
      r_member left =
          r_place (member_at fuel expr1 left) (member_at more expr2 left)
          (λ at. r_then r_name (λ name. r_sees k.LeftParen (r_then r_take (λ _. r_then r_args (λ xs. r_pure (e.member at left name xs, Call)))) (r_pure (e.Select at left name, Target))))

      r_index : (at : Place) (left : Exp) → R (index fuel expr1 at left) (index more expr2 at left)
      unfolding index
      r_index at left = r_then r_parts (λ xs. r_pure (e.index at left xs, Target))

      r_postfix_by : (f g : Operand → Parser Operand) → ((x : Operand) → R (f x) (g x)) → (left : Operand) (q : TokenKind)
          → R (spec.postfix_by fuel expr1 f left q) (spec.postfix_by more expr2 g left q)
      r_postfix_by f g h left k.Dot = r_then (r_then r_take (λ _. r_member left.0)) h
      r_postfix_by f g h left k.LeftBracket =
          r_place (λ at i. and_then (take_token i) (λ _ i. and_then (index fuel expr1 at left.0 i) f))
          (λ at i. and_then (take_token i) (λ _ i. and_then (index more expr2 at left.0 i) g))
          (λ at. r_then r_take (λ _. r_then (r_index at left.0) h))
      r_postfix_by f g h left _ = r_pure left

      r_postfix : (m m2 : ℕ) → T m m2 → (left : Operand) → R (postfix fuel expr1 m left) (postfix more expr2 m2 left)
      unfolding postfix
      r_postfix zero m2 h left = r_spent (λ z. postfix more expr2 z left) m2 h refl
      r_postfix (suc m) zero h left = absurd (t_none m h)
      r_postfix (suc m) (suc m2) h left =
          r_kind (spec.postfix_by fuel expr1 (postfix fuel expr1 m) left) (spec.postfix_by more expr2 (postfix more expr2 m2) left)
          (r_postfix_by (postfix fuel expr1 m) (postfix more expr2 m2) (r_postfix m m2 (t_less m m2 h)) left)

      r_group : R (group fuel expr1) (group more expr2)
      unfolding group
      r_group = r_then (r_expr 1) (λ x. r_then (r_expect k.RightParen) (λ _. r_postfix fuel more most (x, Other)))

      r_literal : (make : Place → Exp)
          → R (λ i. and_then (take_token i) (λ _. postfix fuel expr1 fuel (make (place i), Other))) (λ i. and_then (take_token i) (λ _. postfix more expr2 more (make (place i), Other)))
      r_literal make =
          r_place (λ at i. and_then (take_token i) (λ _. postfix fuel expr1 fuel (make at, Other))) (λ at i. and_then (take_token i) (λ _. postfix more expr2 more (make at, Other)))
          (λ at. r_then r_take (λ _. r_postfix fuel more most (make at, Other)))

      r_operand_by : (q : TokenKind) → R (spec.operand_by fuel expr1 q) (spec.operand_by more expr2 q)
      r_operand_by (k.Int n) = r_literal (λ at. e.Int at n)
      r_operand_by (k.LongInt n) = r_literal (λ at. e.Long at n)
      r_operand_by k.KeywordTrue = r_literal (λ at. e.Truth at true)
      r_operand_by k.KeywordFalse = r_literal (λ at. e.Truth at false)
      r_operand_by k.KeywordNull = r_literal (λ at. e.Null at)
      r_operand_by k.KeywordThis = r_literal (λ at. e.This at)
      r_operand_by (k.Name name) =
          r_place (λ at i. and_then (take_token i) (λ _ i. and_then (name_or_call fuel expr1 at name i) (postfix fuel expr1 fuel)))
          (λ at i. and_then (take_token i) (λ _ i. and_then (name_or_call more expr2 at name i) (postfix more expr2 more)))
          (λ at. r_then r_take (λ _. r_then (r_named at name) (r_postfix fuel more most)))
      r_operand_by k.LeftParen = r_then r_take (λ _. r_group)
      r_operand_by k.LeftBracket =
          r_place (λ at i. and_then (take_token i) (λ _ i. and_then (bracket fuel expr1 at i) (λ x. postfix fuel expr1 fuel (x, Other))))
          (λ at i. and_then (take_token i) (λ _ i. and_then (bracket more expr2 at i) (λ x. postfix more expr2 more (x, Other))))
          (λ at. r_then r_take (λ _. r_then (r_bracket at) (λ x. r_postfix fuel more most (x, Other))))
      r_operand_by k.KeywordTi =
          r_place (λ at i. and_then (take_token i) (λ _ i. and_then (process at i) (λ x. postfix fuel expr1 fuel (x, Other))))
          (λ at i. and_then (take_token i) (λ _ i. and_then (process at i) (λ x. postfix more expr2 more (x, Other))))
          (λ at. r_then r_take (λ _. r_then (r_process at) (λ x. r_postfix fuel more most (x, Other))))
      r_operand_by _ = r_refuse

      r_operand : R (operand fuel expr1) (operand more expr2)
      unfolding operand
      r_operand = r_kind (spec.operand_by fuel expr1) (spec.operand_by more expr2) r_operand_by

      r_operation : (left : Exp) (op : BinaryOperator) → R (operation fuel expr1 left op) (operation more expr2 left op)
      unfolding operation
      r_operation left op =
          r_place (λ at i. and_then (take_token i) (λ _ i. and_then (expr1 (strength op + 1) i)
          (λ right j. Ok (e.Binary at op left right, j)))) (λ at i. and_then (take_token i)
          (λ _ i. and_then (expr2 (strength op + 1) i) (λ right j. Ok (e.Binary at op left right, j))))
          (λ at. r_then r_take (λ _. r_then (r_expr (strength op + 1)) (λ right. r_pure (e.Binary at op left right))))

      r_climb_by : (f g : Exp → Parser Exp) → ((x : Exp) → R (f x) (g x)) → (least : ℕ) (left : Exp) (q : Option BinaryOperator)
          → R (spec.climb_by fuel expr1 f least left q) (spec.climb_by more expr2 g least left q)
      r_climb_by f g h least left None = r_pure left
      r_climb_by f g h least left (Some op) = r_if (nat_lt (strength op) least) (r_pure left) (r_then (r_operation left op) h)

      r_climb : (least m m2 : ℕ) → T m m2 → (left : Exp) → R (climb fuel expr1 least m left) (climb more expr2 least m2 left)
      unfolding climb
      r_climb least zero m2 h left = r_spent (λ z. climb more expr2 least z left) m2 h refl
      r_climb least (suc m) zero h left = absurd (t_none m h)
      r_climb least (suc m) (suc m2) h left =
          r_kind (λ q. spec.climb_by fuel expr1 (climb fuel expr1 least m) least left (infix_of q)) (λ q. spec.climb_by more expr2 (climb more expr2 least m2) least left (infix_of q))
          (λ q. r_climb_by (climb fuel expr1 least m) (climb more expr2 least m2) (r_climb least m m2 (t_less m m2 h)) least left (infix_of q))

      r_cast : (at : Place) (ty : TypeTree) → R (cast fuel expr1 at ty) (cast more expr2 at ty)
      unfolding cast
      r_cast at ty = r_then (r_expect k.RightParen) (λ _. r_then (r_expr 11) (λ x. r_pure (e.Cast at ty x)))

      r_cast_from : (at : Place) (begin : Base) → R (cast_from fuel expr1 at begin) (cast_from more expr2 at begin)
      unfolding cast_from
      r_cast_from at begin = r_then (r_field_type begin) (r_cast at)

      r_cast_from_grid : (at : Place) (begin : Base) → R (cast_from_grid fuel expr1 at begin) (cast_from_grid more expr2 at begin)
      unfolding cast_from_grid
      r_cast_from_grid at begin = r_then r_grid (λ g. r_then (r_grids 2 (g ∷ [])) (λ gs. r_cast at (record { base = begin; qualifiers = []; grids = gs })))

      r_group_from : (first : Operand) → R (group_from fuel expr1 first) (group_from more expr2 first)
      unfolding group_from
      r_group_from first = r_then (r_postfix fuel more most first)
          (λ left. r_then (r_climb 1 fuel more most left.0) (λ x. r_then (r_expect k.RightParen)
          (λ _. r_then (r_postfix fuel more most (x, Other)) (λ y. r_pure y.0))))

      abbrev bracket_at : ℕ → (ℕ → Parser Exp) → Place → Place → List ℕ → Place → Parser Exp
      bracket_at n expr_one at name_at name at_bracket i =
          and_then (take_token i) (λ _ i. if◌then◌else◌ {A = Parser Exp} (is_dim_token (kind i))
          (cast_from_grid n expr_one at (b.Named name_at name)) (λ i. and_then (index n expr_one at_bracket (e.Name name_at name) i)
          (group_from n expr_one)) i)

      r_paren_name_bracket : (at name_at : Place) (name : List ℕ) → R (paren_name_bracket fuel expr1 at name_at name) (paren_name_bracket more expr2 at name_at name)
      unfolding paren_name_bracket
      r_paren_name_bracket at name_at name =
          r_place (bracket_at fuel expr1 at name_at name) (bracket_at more expr2 at name_at name)
          (λ z. r_then r_take (λ _. r_test is_dim_token (r_cast_from_grid at (b.Named name_at name)) (r_then (r_index z (e.Name name_at name)) r_group_from)))

      r_paren_name_other : (at name_at : Place) (name : List ℕ) (q : TokenKind)
          → R (if◌then◌else◌ {A = Parser Exp} (is_some (qualifier_of q)) (cast_from fuel expr1 at (b.Named name_at name)) (λ i. and_then (name_or_call fuel expr1 name_at name i) (group_from fuel expr1)))
          (if◌then◌else◌ {A = Parser Exp} (is_some (qualifier_of q)) (cast_from more expr2 at (b.Named name_at name)) (λ i. and_then (name_or_call more expr2 name_at name i) (group_from more expr2)))
      r_paren_name_other at name_at name q = r_if (is_some (qualifier_of q)) (r_cast_from at (b.Named name_at name)) (r_then (r_named name_at name) r_group_from)

      r_paren_name_by : (at name_at : Place) (name : List ℕ) (q : TokenKind) → R (spec.paren_name_by fuel expr1 at name_at name q) (spec.paren_name_by more expr2 at name_at name q)
      r_paren_name_by at name_at name k.LeftBracket = r_paren_name_bracket at name_at name
      r_paren_name_by at name_at name q = r_paren_name_other at name_at name q

      r_paren_name : (at name_at : Place) (name : List ℕ) → R (paren_name fuel expr1 at name_at name) (paren_name more expr2 at name_at name)
      unfolding paren_name
      r_paren_name at name_at name = r_kind (spec.paren_name_by fuel expr1 at name_at name) (spec.paren_name_by more expr2 at name_at name) (r_paren_name_by at name_at name)

      r_dropped : R (λ i. and_then (group fuel expr1 i) (λ y j. Ok (y.0, j))) (λ i. and_then (group more expr2 i) (λ y j. Ok (y.0, j)))
      r_dropped = r_then r_group (λ y. r_pure y.0)

      r_paren_other : (at : Place) (q : TokenKind)
          → R (if◌then◌else◌ {A = Parser Exp} (begins_type q) (λ i. and_then (type_base i) (cast_from fuel expr1 at)) (λ i. and_then (group fuel expr1 i) (λ y j. Ok (y.0, j))))
          (if◌then◌else◌ {A = Parser Exp} (begins_type q) (λ i. and_then (type_base i) (cast_from more expr2 at)) (λ i. and_then (group more expr2 i) (λ y j. Ok (y.0, j))))
      r_paren_other at q = r_if (begins_type q) (r_then r_base (r_cast_from at)) r_dropped

      r_paren_by : (at : Place) (q : TokenKind) → R (spec.paren_by fuel expr1 at q) (spec.paren_by more expr2 at q)
      r_paren_by at (k.Name name) =
          r_place (λ z i. and_then (take_token i) (λ _. paren_name fuel expr1 at z name))
          (λ z i. and_then (take_token i) (λ _. paren_name more expr2 at z name)) (λ z. r_then r_take (λ _. r_paren_name at z name))
      r_paren_by at q = r_paren_other at q

      r_paren : (at : Place) → R (paren fuel expr1 at) (paren more expr2 at)
      unfolding paren
      r_paren at = r_kind (spec.paren_by fuel expr1 at) (spec.paren_by more expr2 at) (r_paren_by at)

      r_unary : (op : UnaryOperator) → R (unary fuel expr1 op) (unary more expr2 op)
      unfolding unary
      r_unary op =
          r_place (λ at i. and_then (take_token i) (λ _ i. and_then (expr1 11 i) (λ x j. Ok (e.Unary at op x, j))))
          (λ at i. and_then (take_token i) (λ _ i. and_then (expr2 11 i) (λ x j. Ok (e.Unary at op x, j))))
          (λ at. r_then r_take (λ _. r_then (r_expr 11) (λ x. r_pure (e.Unary at op x))))

      r_unary_or : (q : Option UnaryOperator) → R (spec.unary_or fuel expr1 q) (spec.unary_or more expr2 q)
      r_unary_or (Some op) = r_unary op
      r_unary_or None = r_then r_operand (λ y. r_pure y.0)

      r_prefix_by : (q : TokenKind) → R (spec.prefix_by fuel expr1 q) (spec.prefix_by more expr2 q)
      r_prefix_by k.LeftParen = r_place (λ at i. and_then (take_token i) (λ _. paren fuel expr1 at))
          (λ at i. and_then (take_token i) (λ _. paren more expr2 at)) (λ at. r_then r_take (λ _. r_paren at))
      r_prefix_by q = r_unary_or (prefix_of q)

      r_level : (least : ℕ) → R (level fuel expr1 least) (level more expr2 least)
      unfolding level prefix
      r_level least = r_then (r_kind (spec.prefix_by fuel expr1) (spec.prefix_by more expr2) r_prefix_by) (r_climb least fuel more most)

  expr_related : (fuel more : ℕ) → T fuel more → (least : ℕ) → R (expr fuel least) (expr more least)
  unfolding expr
  expr_related zero more h least = r_spent (λ z. expr z least) more h refl
  expr_related (suc n) zero h least = absurd (t_none n h)
  expr_related (suc n) (suc m) h least = r_level n m (t_less n m h) (expr n) (expr m) (expr_related n m (t_less n m h)) least

  r_behind_name : (fuel more : ℕ) → T fuel more → (at : Place) (name : List ℕ) → R (behind_name fuel at name) (behind_name more at name)
  unfolding behind_name
  r_behind_name fuel more h at name =
      let inner = expr_related fuel more h in
      r_then (r_named fuel more h (expr fuel) (expr more) inner at name) (r_postfix fuel more h (expr fuel) (expr more) inner fuel more h)

  r_behind_bracket : (fuel more : ℕ) → T fuel more → T (suc fuel) (suc more) → (bracket_at at : Place) (name : List ℕ)
      → R (behind_bracket fuel bracket_at at name) (behind_bracket more bracket_at at name)
  unfolding behind_bracket
  r_behind_bracket fuel more h above bracket_at at name =
      let inner = expr_related (suc fuel) (suc more) above in
      r_then (r_index (suc fuel) (suc more) above (expr (suc fuel)) (expr (suc more)) inner bracket_at (e.Name at name))
      (r_postfix (suc fuel) (suc more) above (expr (suc fuel)) (expr (suc more)) inner fuel more h)

  pub readers_related : (fuel more : ℕ) → T fuel more → T (suc fuel) (suc more) → Readers Q fuel more
  readers_related fuel more h above = record {
    expr = expr_related fuel more h;
    operand = r_operand fuel more h (expr fuel) (expr more) (expr_related fuel more h);
    behind_name = r_behind_name fuel more h;
    behind_bracket = r_behind_bracket fuel more h above;
  }
