-- A relation between parsers that each step preserves is proved to hold between the parser and one with other full-expression parsers.
use Rattle.std.proofs.Common.{◌≡◌, ℕ, zero, suc, List, [], ◌∷◌, ◌++◌, Option, Some, None, Ok, Err, refl, sym, subst, true, false, Bool, ◌&&◌, if◌then◌else◌, codes}
use Rattle.ti_base.specs.declared.place.Place.{Place}
use Rattle.ti_syntax.specs.declared.token.TokenKind.{TokenKind}
use Rattle.ti_syntax.specs.declared.token.TokenKind.TheVariants as k
use Rattle.ti_syntax.specs.declared.tree.types.Base.{Base}
use Rattle.ti_syntax.specs.declared.tree.types.Base.TheVariants as b
use Rattle.ti_syntax.specs.declared.tree.types.Qualifier.{Qualifier}
use Rattle.ti_syntax.specs.declared.tree.types.QualifierWord.{QualifierWord}
use Rattle.ti_syntax.specs.declared.tree.exprs.BinaryOperator.{BinaryOperator}
use Rattle.ti_syntax.specs.declared.tree.stmts.StepOperator.{StepOperator}
use Rattle.ti_syntax.specs.declared.tree.classes.Modifier.{Modifier}
use Rattle.ti_syntax.specs.declared.tree.classes.ModifierWord.{ModifierWord}
use Rattle.ti_syntax.specs.Trees.Types.{GridTree, TypeTree}
use Rattle.ti_syntax.specs.Trees.Expressions.{Exp, RangeTree}
use Rattle.ti_syntax.specs.Trees.Expressions as e
use Rattle.ti_syntax.specs.Trees.Statements.{DimsTree, InitTree, PrintTree, Stm, MaybeStm}
use Rattle.ti_syntax.specs.Trees.Statements as s
use Rattle.ti_syntax.specs.Trees.Classes.{ParamTree, ParamsTree, ResultTree, MemberTree, ClassTree, TextTree}
use Rattle.ti_syntax.specs.Trees.Classes as c
use Rattle.ti_syntax.specs.Tokens.{same_kind}
use Rattle.ti_syntax.specs.Spelling.Operators.{update_of, step_of, qualifier_of, modifier_of, class_modifier_of}
use Rattle.ti_syntax.specs.Spelling.Expressions.{Ending, Target}
use Rattle.ti_syntax.specs.Spelling.Statements.{starts}
use Rattle.ti_parse_expr.specs.declared.parse.Form.{Form}
use Rattle.ti_parse_expr.specs.declared.parse.Form.TheVariants as form
use Rattle.ti_parse_expr.specs.Mirrors.Input.{At, Over, OutOfFuel, Parser, ◌>>=◌, ◌>>◌, pure, refuse, and_then, kind, place, place_of_next, next_is, spells, expect, expect_word, take_token, any_name, name_of_kind}
use Rattle.ti_parse_expr.specs.Mirrors.Types.{arity, base as type_base, qualifiers, grid, grids, field_type}
use Rattle.ti_parse_expr.specs.Mirrors.Exprs.{Operand, is_dim_token}
use Rattle.ti_parse_expr.specs.Mirrors.Full.{full, full_operand, full_behind_name, full_behind_bracket}
use Rattle.ti_parse_expr.proofs.Lemmas as expr
use Rattle.ti_parse.specs.Mirrors.ParserParams.{ParserParams, language_params}
use Rattle.ti_parse.specs.Mirrors.Parts as parts
use Rattle.ti_parse.specs.Mirrors.Parts.{is_wide, begins_declaration, is_call, NameStart, DeclaredType, PostfixStart, class_name_type, wide, field, any_type}
use Rattle.ti_parse.specs.Mirrors.Parts.{range_from, more_ranges, dims, region, new_grid, new_named, new_object_or_grid, new_thing, broadcast, initial}
use Rattle.ti_parse.specs.Mirrors.Parts.{declared, change_of, expr_stmt, change, bracket_start, name_start, printer, print_text_argument, print_argument, print}
use Rattle.ti_parse.specs.Mirrors.Parts.{barrier, break_out, continue_on, return_from, condition, first, optional_expr, update}
use Rattle.ti_parse.specs.Mirrors.Statements as statements
use Rattle.ti_parse.specs.Mirrors.Statements.{is_compound, item, items, block, conditional, while_loop, for_loop, foreach_loop, compound, simple_stmt, stmt, body}
use Rattle.ti_parse.specs.Mirrors.Classes as texts
use Rattle.ti_parse.specs.Mirrors.Classes.{more_params, words, params, method, method_named, field_or_method, member_from, modifiers, member, members, class_from, class, classes}
use Rattle.ti_syntax.specs.Spelling.{most_levels}

-- ---- what is read behind a place

abbrev domain_at : ParserParams → ℕ → Place → Parser TypeTree
domain_at w fuel at = (do take_token; n ← arity; qs ← qualifiers fuel []; pure (record { base = b.Domain at n; qualifiers = qs; grids = [] }))

abbrev shared_region_at : ParserParams → ℕ → Place → Parser TypeTree
shared_region_at w fuel at = (do take_token; qs ← qualifiers fuel []; pure (record { base = b.SharedRegion at; qualifiers = qs; grids = [] }))

abbrev new_grid_at : ParserParams → ℕ → Place → Option Exp → Base → List Qualifier → Place → Parser InitTree
new_grid_at w fuel at owner begin qs dims_at = do
  expect k.LeftBracket
  d ← dims w fuel
  expect k.RightBracket
  gs ← grids fuel 2 []
  pure (s.NewGrid at owner (record { base = begin; qualifiers = qs; grids = gs }) dims_at d)

abbrev made_at : ParserParams → ℕ → Place → Option Exp → List ℕ → Place → Parser InitTree
made_at w fuel at owner name name_at = (do take_token; new_named w fuel at owner name_at name)

abbrev new_at : ParserParams → ℕ → Place → Parser InitTree
new_at w fuel at = (do take_token; new_thing w fuel at)

abbrev broadcast_at : ParserParams → ℕ → Place → Parser InitTree
broadcast_at w fuel at = (do take_token; broadcast w fuel at)

abbrev declared_at : ParserParams → ℕ → TypeTree → Place → Parser Stm
declared_at w fuel ty at = do
  name ← any_name
  expect k.Assign
  value ← initial w fuel
  pure (s.Declare at ty name value)

abbrev update_at : ParserParams → Exp → BinaryOperator → Place → Parser Stm
update_at w target op at = (do take_token; x ← w.full form.Whole; pure (s.Update at op target x))

abbrev step_at : ParserParams → Exp → StepOperator → Place → Parser Stm
step_at w target op at = (do take_token; pure (s.Step at op target))

abbrev assign_at : ParserParams → ℕ → Exp → Place → Parser Stm
assign_at w fuel target at = (do take_token; value ← initial w fuel; pure (s.Assign at target value))

abbrev bracket_at : ParserParams → ℕ → Place → List ℕ → Place → Parser NameStart
bracket_at w fuel at name z = (do take_token; bracket_start w fuel at name z)

abbrev println_at : ParserParams → Place → Parser Place
println_at w at = (do expect k.KeywordPrintln; pure at)

abbrev barrier_at : ParserParams → Place → Parser Stm
barrier_at w at = do
  expect_word (codes "barrier")
  expect k.LeftParen
  expect k.RightParen
  expect k.Semicolon
  pure (s.Barrier at)

abbrev break_at : ParserParams → Place → Parser Stm
break_at w at = (do take_token; expect k.Semicolon; pure (s.Break at))

abbrev continue_at : ParserParams → Place → Parser Stm
continue_at w at = (do take_token; expect k.Semicolon; pure (s.Continue at))

abbrev return_at : ParserParams → ℕ → Place → Parser Stm
return_at w fuel at = (do take_token; value ← optional_expr w fuel; expect k.Semicolon; pure (s.Return at value))

abbrev first_at : ParserParams → ℕ → List ℕ → Place → Parser MaybeStm
first_at w fuel name at = (do take_token; x ← name_start w fuel at name; first ← parts.first_of w fuel x; pure (s.SomeStm first))

abbrev first_other : ParserParams → ℕ → TokenKind → Parser MaybeStm
first_other w fuel q = (do first ← (if begins_declaration q then any_type w fuel >>= declared w fuel else change w fuel); pure (s.SomeStm first))

abbrev item_at : ParserParams → ℕ → Parser Stm → List ℕ → Place → Parser Stm
item_at w fuel one name at = (do take_token; x ← name_start w fuel at name; statements.named_item w fuel one x)

abbrev item_other : ParserParams → ℕ → Parser Stm → TokenKind → Parser Stm
item_other w fuel one q = if begins_declaration q then (do ty ← any_type w fuel; x ← declared w fuel ty; expect k.Semicolon; pure x) else one

abbrev foreach_at : ParserParams → Parser Stm → Place → Place → Parser Stm
foreach_at w one at name_at = do
  name ← any_name
  expect_word (codes "in")
  domain ← w.full form.Whole
  expect k.RightParen
  x ← one
  pure (s.Foreach at name_at name domain x)

abbrev small_other : ParserParams → ℕ → TokenKind → Parser Stm
small_other w fuel q = if starts q then w.operand >>= expr_stmt w fuel else refuse

abbrev stmt_at : ParserParams → ℕ → Parser Stm → TokenKind → Place → Parser Stm
stmt_at w fuel one q at = if is_compound q then take_token >> compound w fuel one at q else simple_stmt w fuel

abbrev param_at : ParserParams → (List ParamTree → Parser (List ParamTree)) → List ParamTree → TypeTree → Place → Parser (List ParamTree)
param_at w next found ty at = do
  name ← any_name
  is_more ← (λ i. Ok (next_is k.Comma i, i))
  if is_more then take_token >> next (found ++ record { ty = ty; place = at; name = name } ∷ []) else pure (found ++ record { ty = ty; place = at; name = name } ∷ [])

abbrev words_at : ParserParams → Place → Parser ParamsTree
words_at w at = (do name ← any_name; pure (c.MainArgs at name))

abbrev method_at : ParserParams → List Modifier → ResultTree → Place → List ℕ → ParamsTree → List Stm → Place → Parser MemberTree
method_at w ms result at name ps xs end_at = do
  expect k.RightBrace
  pure (c.MethodMember (record { modifiers = ms; result = result; place = at; name = name; params = ps; body = xs; end = end_at }))

abbrev method_named_at : ParserParams → ℕ → List Modifier → ResultTree → Place → Parser MemberTree
method_named_at w fuel ms result at = (do name ← any_name; method w fuel ms result at name)

abbrev field_or_method_at : ParserParams → ℕ → List Modifier → TypeTree → Place → Parser MemberTree
field_or_method_at w fuel ms ty at = do
  name ← any_name
  is_field ← (λ i. Ok (next_is k.Semicolon i, i))
  if is_field then take_token >> pure (c.FieldMember (record { modifiers = ms; ty = ty; place = at; name = name })) else method w fuel ms (c.Typed ty) at name

abbrev void_at : ParserParams → ℕ → List Modifier → Place → Parser MemberTree
void_at w fuel ms at = (do take_token; method_named w fuel ms (c.Void at))

abbrev modifier_at : ParserParams → (List Modifier → Parser (List Modifier)) → List Modifier → ModifierWord → Place → Parser (List Modifier)
modifier_at w next found word at = (do take_token; next (found ++ record { word = word; place = at } ∷ []))

abbrev class_named_at : ParserParams → ℕ → List Modifier → Place → Place → Parser ClassTree
class_named_at w fuel ms word at = do
  name ← any_name
  expect k.LeftBrace
  xs ← members w fuel fuel []
  expect k.RightBrace
  pure (record { modifiers = ms; word = word; place = at; name = name; members = xs })

abbrev class_at : ParserParams → ℕ → List Modifier → Place → Parser ClassTree
class_at w fuel ms word = (do expect k.KeywordClass; at ← place_of_next; class_named_at w fuel ms word at)

-- Q is the relation, T relates the turns that are left, and v is the second way
module _ (Q : (A : Type 0) → Parser A → Parser A → Type 0) (T : ℕ → ℕ → Type 0) (v : ParserParams) (same_levels : v.levels ≡ most_levels) (q_pure : (A : Type 0) (x : A) → Q A (λ i. Ok (x, i)) (λ i. Ok (x, i)))
    (q_refuse : (A : Type 0) → Q A (λ i. Err (At i)) (λ i. Err (At i))) (q_over : (A : Type 0) → Q A (λ i. Err (Over i)) (λ i. Err (Over i))) (q_take : Q (Unit {0}) take_token take_token)
    (q_full : (form : Form) → Q Exp (full form) (v.full form)) (q_operand : Q Operand full_operand v.operand)
    (q_behind_name : (at : Place) (name : List ℕ) → Q Operand (full_behind_name at name) (v.behind_name at name))
    (q_behind_bracket : (bracket at : Place) (name : List ℕ) → Q Operand (full_behind_bracket bracket at name) (v.behind_bracket bracket at name))
    (q_then : (A B : Type 0) (p q : Parser A) (f g : A → Parser B) → Q A p q → ((x : A) → Q B (f x) (g x)) → Q B (λ i. and_then (p i) f) (λ i. and_then (q i) g))
    (q_kind : (A : Type 0) (f g : TokenKind → Parser A) → ((x : TokenKind) → Q A (f x) (g x)) → Q A (λ i. f (kind i) i) (λ i. g (kind i) i))
    (q_place : (A : Type 0) (f g : Place → Parser A) → ((x : Place) → Q A (f x) (g x)) → Q A (λ i. f (place i) i) (λ i. g (place i) i))
    (q_spent : (A : Type 0) (q : ℕ → Parser A) (m : ℕ) → T zero m → q zero ≡ (λ i. Err OutOfFuel) → Q A (λ i. Err OutOfFuel) (q m)) (t_none : (m : ℕ) → T (suc m) zero → ⊥)
    (t_less : (m m2 : ℕ) → T (suc m) (suc m2) → T m m2) where
  abbrev R : {A : Type 0} → Parser A → Parser A → Type 0
  R {A = A} p q = Q A p q

  r_pure : {A : Type 0} (x : A) → R (λ i. Ok (x, i)) (λ i. Ok (x, i))
  r_pure {A = A} x = q_pure A x

  r_refuse : {A : Type 0} → R {A = A} (λ i. Err (At i)) (λ i. Err (At i))
  r_refuse {A = A} = q_refuse A

  r_over : {A : Type 0} → R {A = A} (λ i. Err (Over i)) (λ i. Err (Over i))
  r_over {A = A} = q_over A

  r_take : R take_token take_token
  r_take = q_take

  r_whole : R (full form.Whole) (v.full form.Whole)
  r_whole = q_full form.Whole

  r_then : {A B : Type 0} {p q : Parser A} {f g : A → Parser B} → R p q → ((x : A) → R (f x) (g x)) → R (λ i. and_then (p i) f) (λ i. and_then (q i) g)
  r_then {A = A} {B = B} {p = p} {q = q} {f = f} {g = g} begin next = q_then A B p q f g begin next

  r_kind : {A : Type 0} (f g : TokenKind → Parser A) → ((x : TokenKind) → R (f x) (g x)) → R (λ i. f (kind i) i) (λ i. g (kind i) i)
  r_kind {A = A} f g each = q_kind A f g each

  r_place : {A : Type 0} (f g : Place → Parser A) → ((x : Place) → R (f x) (g x)) → R (λ i. f (place i) i) (λ i. g (place i) i)
  r_place {A = A} f g each = q_place A f g each

  r_spent : {A : Type 0} (q : ℕ → Parser A) (m : ℕ) → T zero m → q zero ≡ (λ i. Err OutOfFuel) → R (λ i. Err OutOfFuel) (q m)
  r_spent {A = A} q m h is = q_spent A q m h is

  -- ---- steps

  r_if : {A : Type 0} (c : Bool) {p q p2 q2 : Parser A} → R p q → R p2 q2 → R (if◌then◌else◌ {A = Parser A} c p p2) (if◌then◌else◌ {A = Parser A} c q q2)
  r_if true yes_case no_case = yes_case
  r_if false yes_case no_case = no_case

  -- a choice by the next token
  r_test : {A : Type 0} (test : TokenKind → Bool) {p1 q1 p2 q2 : Parser A} → R p1 q1 → R p2 q2
      → R (λ i. if◌then◌else◌ {A = Parser A} (test (kind i)) p1 p2 i) (λ i. if◌then◌else◌ {A = Parser A} (test (kind i)) q1 q2 i)
  r_test {A = A} test {p1 = p1} {q1 = q1} {p2 = p2} {q2 = q2} n1 n2 =
      r_kind (λ a. if◌then◌else◌ {A = Parser A} (test a) p1 p2) (λ a. if◌then◌else◌ {A = Parser A} (test a) q1 q2)
      (λ a. r_if (test a) n1 n2)

  r_sees : {A : Type 0} (q : TokenKind) {p1 q1 p2 q2 : Parser A} → R p1 q1 → R p2 q2
      → R (λ i. if◌then◌else◌ {A = Parser A} (next_is q i) p1 p2 i) (λ i. if◌then◌else◌ {A = Parser A} (next_is q i) q1 q2 i)
  r_sees q n1 n2 = r_test (λ a. same_kind a q) n1 n2

  abbrev take_if : Bool → Parser (Unit {0})
  take_if c i = if c then take_token i else Err (At i)

  r_take_if : (c : Bool) → R (take_if c) (take_if c)
  r_take_if true = r_take
  r_take_if false = r_refuse

  r_expect : (q : TokenKind) → R (expect q) (expect q)
  r_expect q = r_kind (λ a. take_if (same_kind a q)) (λ a. take_if (same_kind a q)) (λ a. r_take_if (same_kind a q))

  r_expect_word : (word : List ℕ) → R (expect_word word) (expect_word word)
  r_expect_word word = r_kind (λ a. take_if (spells word a)) (λ a. take_if (spells word a)) (λ a. r_take_if (spells word a))

  r_name_by : (q : TokenKind) → R (name_of_kind q) (name_of_kind q)
  r_name_by (k.Name name) = r_then r_take (λ _. r_pure name)
  r_name_by _ = r_refuse

  r_name : R (any_name) (any_name)
  r_name = r_kind (name_of_kind) (name_of_kind) r_name_by

  -- ---- types

  r_arity : R (arity) (arity)
  r_arity = expr.r_arity Q T q_pure q_refuse q_take q_then q_kind q_place q_spent t_none t_less

  r_base : R (type_base) (type_base)
  r_base = expr.r_base Q T q_pure q_refuse q_take q_then q_kind q_place q_spent t_none t_less

  module _ (fuel more : ℕ) (most : T fuel more) where
    r_qualifiers : (found : List Qualifier) → R (qualifiers fuel found) (qualifiers more found)
    r_qualifiers found = expr.r_qualifiers Q T q_pure q_refuse q_take q_then q_kind q_place q_spent t_none t_less fuel more most found

    r_grid : R (grid fuel) (grid more)
    r_grid = expr.r_grid Q T q_pure q_refuse q_take q_then q_kind q_place q_spent t_none t_less fuel more most

    r_grids : (n : ℕ) (found : List GridTree) → R (grids fuel n found) (grids more n found)
    r_grids n found = expr.r_grids Q T q_pure q_refuse q_take q_then q_kind q_place q_spent t_none t_less fuel more most n found

    r_field_type : (begin : Base) → R (field_type fuel begin) (field_type more begin)
    r_field_type begin = expr.r_field_type Q T q_pure q_refuse q_take q_then q_kind q_place q_spent t_none t_less fuel more most begin

    r_wide_by : (q : TokenKind) → R (parts.wide_by language_params fuel q) (parts.wide_by v more q)
    r_wide_by k.KeywordDomain = r_place (domain_at language_params fuel) (domain_at v more)
        (λ at. r_then r_take (λ _. r_then r_arity (λ n. r_then (r_qualifiers [])
        (λ qs. r_pure (record { base = b.Domain at n; qualifiers = qs; grids = [] })))))
    r_wide_by k.KeywordSharedRegion = r_place (shared_region_at language_params fuel) (shared_region_at v more)
        (λ at. r_then r_take (λ _. r_then (r_qualifiers []) (λ qs. r_pure
        (record { base = b.SharedRegion at; qualifiers = qs; grids = [] }))))
    r_wide_by _ = r_refuse

    r_wide : R (wide language_params fuel) (wide v more)
    unfolding wide
    r_wide = r_kind (parts.wide_by language_params fuel) (parts.wide_by v more) r_wide_by

    r_field : R (field language_params fuel) (field v more)
    unfolding field
    r_field = r_then r_base r_field_type

    r_typed : R (any_type language_params fuel) (any_type v more)
    unfolding any_type
    r_typed = r_test is_wide r_wide r_field

    -- ---- right sides

    r_range_from : (low : Exp) → R (range_from language_params fuel low) (range_from v more low)
    unfolding range_from
    r_range_from low = r_then (r_expect k.Colon) (λ _. r_then r_whole
        (λ high. r_sees k.Colon (r_then r_take (λ _. r_then r_whole (λ step. r_pure (e.Stepped low high step))))
        (r_pure (e.Plain low high))))

    r_more_ranges : (n : ℕ) (found : List RangeTree) → R (more_ranges language_params fuel n found) (more_ranges v more n found)
    unfolding more_ranges
    r_more_ranges zero found = r_pure found
    r_more_ranges (suc n) found = r_sees k.Comma (r_then r_take (λ _. r_then r_whole (λ low. r_then (r_range_from low) (λ r. r_more_ranges n (found ++ r ∷ []))))) (r_pure found)

    r_dims : R (dims language_params fuel) (dims v more)
    unfolding dims
    r_dims = r_then r_whole (λ low. r_sees k.Colon (r_then (r_range_from low) (λ r. r_then (r_more_ranges 2 (r ∷ [])) (λ rs. r_pure (s.Ranges rs)))) (r_pure (s.Domain low)))

    r_region : R (region language_params fuel) (region v more)
    unfolding region
    r_region = r_sees k.LeftParen (r_then r_take (λ _. r_then r_whole (λ x. r_then (r_expect k.RightParen) (λ _. r_pure (Some x))))) (r_pure None)

    r_new_grid : (at : Place) (owner : Option Exp) (begin : Base) → R (new_grid language_params fuel at owner begin) (new_grid v more at owner begin)
    unfolding new_grid
    r_new_grid at owner begin =
        r_then (r_qualifiers []) (λ qs. r_place (new_grid_at language_params fuel at owner begin qs) (new_grid_at v more at owner begin qs)
        (λ dims_at. r_then (r_expect k.LeftBracket) (λ _. r_then r_dims
        (λ d. r_then (r_expect k.RightBracket) (λ _. r_then (r_grids 2 [])
        (λ gs. r_pure (s.NewGrid at owner (record { base = begin; qualifiers = qs; grids = gs }) dims_at d)))))))

    r_new_named : (at : Place) (owner : Option Exp) (name_at : Place) (name : List ℕ) → R (new_named language_params fuel at owner name_at name) (new_named v more at owner name_at name)
    unfolding new_named
    r_new_named at owner name_at name = r_sees k.LeftParen (r_then r_take
        (λ _. r_then (r_expect k.RightParen) (λ _. r_pure (s.NewObject at owner name_at name))))
        (r_new_grid at owner (b.Named name_at name))

    r_made_other : (at : Place) (owner : Option Exp) → R (λ i. and_then (type_base i) (new_grid language_params fuel at owner)) (λ i. and_then (type_base i) (new_grid v more at owner))
    r_made_other at owner = r_then r_base (r_new_grid at owner)

    r_made_by : (at : Place) (owner : Option Exp) (q : TokenKind) → R (parts.new_object_or_grid_by language_params fuel at owner q) (parts.new_object_or_grid_by v more at owner q)
    r_made_by at owner (k.Name name) = r_place (made_at language_params fuel at owner name) (made_at v more at owner name) (λ name_at. r_then r_take (λ _. r_new_named at owner name_at name))
    r_made_by at owner _ = r_made_other at owner

    r_made : (at : Place) (owner : Option Exp) → R (new_object_or_grid language_params fuel at owner) (new_object_or_grid v more at owner)
    unfolding new_object_or_grid
    r_made at owner = r_kind (parts.new_object_or_grid_by language_params fuel at owner) (parts.new_object_or_grid_by v more at owner) (r_made_by at owner)

    r_new_other : (at : Place) → R (λ i. and_then (region language_params fuel i) (new_object_or_grid language_params fuel at)) (λ i. and_then (region v more i) (new_object_or_grid v more at))
    r_new_other at = r_then r_region (r_made at)

    r_new_by : (at : Place) (q : TokenKind) → R (parts.new_by language_params fuel at q) (parts.new_by v more at q)
    r_new_by at k.KeywordSharedRegion = r_then r_take (λ _. r_then (r_expect k.LeftParen) (λ _. r_then (r_expect k.RightParen) (λ _. r_pure (s.NewRegion at))))
    r_new_by at _ = r_new_other at

    r_new_thing : (at : Place) → R (new_thing language_params fuel at) (new_thing v more at)
    unfolding new_thing
    r_new_thing at = r_kind (parts.new_by language_params fuel at) (parts.new_by v more at) (r_new_by at)

    r_broadcast : (at : Place) → R (broadcast language_params fuel at) (broadcast v more at)
    unfolding broadcast
    r_broadcast at = r_then r_whole (λ x. r_then (r_expect_word (codes "from")) (λ _. r_then r_whole (λ root. r_pure (s.Broadcast at x root))))

    r_value : R (λ i. and_then (full form.Whole i) (λ x j. Ok (s.Value x, j))) (λ i. and_then (v.full form.Whole i) (λ x j. Ok (s.Value x, j)))
    r_value = r_then r_whole (λ x. r_pure (s.Value x))

    r_initial_by : (q : TokenKind) → R (parts.initial_by language_params fuel q) (parts.initial_by v more q)
    r_initial_by k.KeywordNew = r_place (new_at language_params fuel) (new_at v more) (λ at. r_then r_take (λ _. r_new_thing at))
    r_initial_by k.KeywordBroadcast = r_place (broadcast_at language_params fuel) (broadcast_at v more) (λ at. r_then r_take (λ _. r_broadcast at))
    r_initial_by _ = r_value

    r_initial : R (initial language_params fuel) (initial v more)
    unfolding initial
    r_initial = r_kind (parts.initial_by language_params fuel) (parts.initial_by v more) r_initial_by

    -- ---- declarations and changes

    r_declared : (ty : TypeTree) → R (declared language_params fuel ty) (declared v more ty)
    unfolding declared
    r_declared ty = r_place (declared_at language_params fuel ty) (declared_at v more ty)
        (λ at. r_then r_name (λ name. r_then (r_expect k.Assign) (λ _. r_then r_initial (λ value. r_pure (s.Declare at ty name value)))))

    r_update_if : (target : Exp) (op : Option BinaryOperator) (step : Option StepOperator) → R (parts.update_if language_params fuel target op step) (parts.update_if v more target op step)
    r_update_if target (Some op) step = r_place (update_at language_params target op) (update_at v target op) (λ at. r_then r_take (λ _. r_then r_whole (λ x. r_pure (s.Update at op target x))))
    r_update_if target None (Some op) = r_place (step_at language_params target op) (step_at v target op) (λ at. r_then r_take (λ _. r_pure (s.Step at op target)))
    r_update_if target None None = r_refuse

    r_updated : (target : Exp) (q : TokenKind) → R (parts.update_if language_params fuel target (update_of q) (step_of q)) (parts.update_if v more target (update_of q) (step_of q))
    r_updated target q = r_update_if target (update_of q) (step_of q)

    r_changed_by : (target : Exp) (q : TokenKind) → R (parts.change_of_by language_params fuel target q) (parts.change_of_by v more target q)
    r_changed_by target k.Assign = r_place (assign_at language_params fuel target) (assign_at v more target) (λ at. r_then r_take (λ _. r_then r_initial (λ value. r_pure (s.Assign at target value))))
    r_changed_by target q = r_updated target q

    r_changed_if : (x : Exp) (ending : Ending) → R (parts.change_of_if language_params fuel x ending) (parts.change_of_if v more x ending)
    r_changed_if x Target = r_kind (parts.change_of_by language_params fuel x) (parts.change_of_by v more x) (r_changed_by x)
    r_changed_if x _ = r_refuse

    r_changed : (o : Operand) → R (change_of language_params fuel o) (change_of v more o)
    unfolding change_of
    r_changed o = r_changed_if o.0 o.1

    r_simple_if : (o : Operand) (done : Bool) → R (parts.expr_stmt_if language_params fuel o done) (parts.expr_stmt_if v more o done)
    r_simple_if o true = r_then r_take (λ _. r_pure (s.Call o.0))
    r_simple_if o false = r_then (r_changed o) (λ x. r_then (r_expect k.Semicolon) (λ _. r_pure x))

    r_simple : (o : Operand) → R (expr_stmt language_params fuel o) (expr_stmt v more o)
    unfolding expr_stmt
    r_simple o =
        r_kind (λ q. parts.expr_stmt_if language_params fuel o (is_call o.1 && same_kind q k.Semicolon)) (λ q. parts.expr_stmt_if v more o (is_call o.1 && same_kind q k.Semicolon))
        (λ q. r_simple_if o (is_call o.1 && same_kind q k.Semicolon))

    r_change : R (change language_params fuel) (change v more)
    unfolding change
    r_change = r_test starts (r_then q_operand r_changed) r_refuse

    -- ---- what begins with a name

    r_begun_bracket : (at : Place) (name : List ℕ) (z : Place) → R (bracket_start language_params fuel at name z) (bracket_start v more at name z)
    unfolding bracket_start
    r_begun_bracket at name z =
        r_test is_dim_token (r_then r_grid (λ g. r_then (r_grids 2 (g ∷ []))
        (λ gs. r_pure (DeclaredType (record { base = b.Named at name; qualifiers = []; grids = gs })))))
        (r_then (q_behind_bracket z at name) (λ o. r_pure (PostfixStart o)))

    r_begun_if : (at : Place) (name : List ℕ) (word : Option QualifierWord) → R (parts.name_start_if language_params fuel at name word) (parts.name_start_if v more at name word)
    r_begun_if at name (Some word) = r_then (r_field_type (b.Named at name)) (λ ty. r_pure (DeclaredType ty))
    r_begun_if at name None = r_then (q_behind_name at name) (λ o. r_pure (PostfixStart o))

    r_begun_other : (at : Place) (name : List ℕ) (q : TokenKind) → R (parts.name_start_if language_params fuel at name (qualifier_of q)) (parts.name_start_if v more at name (qualifier_of q))
    r_begun_other at name q = r_begun_if at name (qualifier_of q)

    r_begun_by : (at : Place) (name : List ℕ) (q : TokenKind) → R (parts.name_start_by language_params fuel at name q) (parts.name_start_by v more at name q)
    r_begun_by at name (k.Name next) = r_pure (DeclaredType (class_name_type at name))
    r_begun_by at name k.LeftBracket = r_place (bracket_at language_params fuel at name) (bracket_at v more at name) (λ z. r_then r_take (λ _. r_begun_bracket at name z))
    r_begun_by at name q = r_begun_other at name q

    r_begun : (at : Place) (name : List ℕ) → R (name_start language_params fuel at name) (name_start v more at name)
    unfolding name_start
    r_begun at name = r_kind (parts.name_start_by language_params fuel at name) (parts.name_start_by v more at name) (r_begun_by at name)

    -- ---- prints and barriers

    r_println : R (λ i. println_at language_params (place i) i) (λ i. println_at v (place i) i)
    r_println = r_place (println_at language_params) (println_at v) (λ at. r_then (r_expect k.KeywordPrintln) (λ _. r_pure at))

    r_printer_by : (q : TokenKind) → R (parts.printer_by language_params fuel q) (parts.printer_by v more q)
    r_printer_by k.KeywordSystem = r_then r_take (λ _. r_then (r_expect k.Dot) (λ _. r_then (r_expect_word (codes "out")) (λ _. r_then (r_expect k.Dot) (λ _. r_println))))
    r_printer_by _ = r_println

    r_printer : R (printer language_params fuel) (printer v more)
    unfolding printer
    r_printer = r_kind (parts.printer_by language_params fuel) (parts.printer_by v more) r_printer_by

    r_printed_text : (text : List ℕ) → R (print_text_argument language_params fuel text) (print_text_argument v more text)
    unfolding print_text_argument
    r_printed_text text = r_sees k.Plus (r_then r_take (λ _. r_then (q_full form.Mul) (λ x. r_pure (s.TextAndExpression text x)))) (r_pure (s.Text text))

    r_printed_value : R (λ i. and_then (full form.Whole i) (λ x j. Ok (s.Expression x, j))) (λ i. and_then (v.full form.Whole i) (λ x j. Ok (s.Expression x, j)))
    r_printed_value = r_then r_whole (λ x. r_pure (s.Expression x))

    r_printed_by : (q : TokenKind) → R (parts.print_argument_by language_params fuel q) (parts.print_argument_by v more q)
    r_printed_by k.RightParen = r_pure s.Nothing
    r_printed_by (k.Str text) = r_then r_take (λ _. r_printed_text text)
    r_printed_by _ = r_printed_value

    r_printed : R (print_argument language_params fuel) (print_argument v more)
    unfolding print_argument
    r_printed = r_kind (parts.print_argument_by language_params fuel) (parts.print_argument_by v more) r_printed_by

    r_print : R (print language_params fuel) (print v more)
    unfolding print
    r_print = r_then r_printer (λ at. r_then (r_expect k.LeftParen)
        (λ _. r_then r_printed (λ what. r_then (r_expect k.RightParen)
        (λ _. r_then (r_expect k.Semicolon) (λ _. r_pure (s.Print at what))))))

    r_barrier : R (barrier language_params fuel) (barrier v more)
    unfolding barrier
    r_barrier =
        r_then (r_expect k.Dot) (λ _. r_place (barrier_at language_params) (barrier_at v)
        (λ at. r_then (r_expect_word (codes "barrier")) (λ _. r_then (r_expect k.LeftParen) (λ _. r_then (r_expect k.RightParen) (λ _. r_then (r_expect k.Semicolon) (λ _. r_pure (s.Barrier at)))))))

    -- ---- jumps

    r_optional : R (optional_expr language_params fuel) (optional_expr v more)
    unfolding optional_expr
    r_optional = r_sees k.Semicolon (r_pure None) (r_then r_whole (λ x. r_pure (Some x)))

    r_break_out : R (break_out language_params fuel) (break_out v more)
    unfolding break_out
    r_break_out = r_place (break_at language_params) (break_at v) (λ at. r_then r_take (λ _. r_then (r_expect k.Semicolon) (λ _. r_pure (s.Break at))))

    r_continue_on : R (continue_on language_params fuel) (continue_on v more)
    unfolding continue_on
    r_continue_on = r_place (continue_at language_params) (continue_at v) (λ at. r_then r_take (λ _. r_then (r_expect k.Semicolon) (λ _. r_pure (s.Continue at))))

    r_return_from : R (return_from language_params fuel) (return_from v more)
    unfolding return_from
    r_return_from = r_place (return_at language_params fuel) (return_at v more) (λ at. r_then r_take (λ _. r_then r_optional (λ value. r_then (r_expect k.Semicolon) (λ _. r_pure (s.Return at value)))))

    -- ---- the heads of compound statements

    r_condition : R (condition language_params fuel) (condition v more)
    unfolding condition
    r_condition = r_then (r_expect k.LeftParen) (λ _. r_then r_whole (λ x. r_then (r_expect k.RightParen) (λ _. r_pure x)))

    r_first_of : (x : NameStart) → R (parts.first_of language_params fuel x) (parts.first_of v more x)
    r_first_of (DeclaredType ty) = r_declared ty
    r_first_of (PostfixStart o) = r_changed o

    r_first_other : (q : TokenKind) → R (first_other language_params fuel q) (first_other v more q)
    r_first_other q = r_then (r_if (begins_declaration q) (r_then r_typed r_declared) r_change) (λ x. r_pure (s.SomeStm x))

    r_first_by : (q : TokenKind) → R (parts.first_by language_params fuel q) (parts.first_by v more q)
    r_first_by k.Semicolon = r_pure s.NoStm
    r_first_by (k.Name name) = r_place (first_at language_params fuel name) (first_at v more name) (λ at. r_then r_take (λ _. r_then (r_begun at name) (λ x. r_then (r_first_of x) (λ y. r_pure (s.SomeStm y)))))
    r_first_by q = r_first_other q

    r_first : R (first language_params fuel) (first v more)
    unfolding first
    r_first = r_kind (parts.first_by language_params fuel) (parts.first_by v more) r_first_by

    r_update : R (update language_params fuel) (update v more)
    unfolding update
    r_update = r_sees k.RightParen (r_pure s.NoStm) (r_then r_change (λ x. r_pure (s.SomeStm x)))

    -- ---- statements

    module _ (one1 one2 : Parser Stm) (r_one : R one1 one2) where
      r_named_item : (x : NameStart) → R (statements.named_item language_params fuel one1 x) (statements.named_item v more one2 x)
      r_named_item (DeclaredType ty) = r_then (r_declared ty) (λ x. r_then (r_expect k.Semicolon) (λ _. r_pure x))
      r_named_item (PostfixStart o) = r_simple o

      r_item_other : (q : TokenKind) → R (item_other language_params fuel one1 q) (item_other v more one2 q)
      r_item_other q = r_if (begins_declaration q) (r_then r_typed (λ ty. r_then (r_declared ty) (λ x. r_then (r_expect k.Semicolon) (λ _. r_pure x)))) r_one

      r_item_by : (q : TokenKind) → R (statements.item_by language_params fuel one1 q) (statements.item_by v more one2 q)
      r_item_by (k.Name name) = r_place (item_at language_params fuel one1 name) (item_at v more one2 name) (λ at. r_then r_take (λ _. r_then (r_begun at name) r_named_item))
      r_item_by q = r_item_other q

      r_item : R (item language_params fuel one1) (item v more one2)
      unfolding item
      r_item = r_kind (statements.item_by language_params fuel one1) (statements.item_by v more one2) r_item_by

      r_items : (m m2 : ℕ) → T m m2 → (found : List Stm) → R (items language_params fuel one1 m found) (items v more one2 m2 found)
      unfolding items
      r_items zero m2 h found = r_spent (λ z. items v more one2 z found) m2 h refl
      r_items (suc m) zero h found = absurd (t_none m h)
      r_items (suc m) (suc m2) h found = r_sees k.RightBrace (r_pure found) (r_then r_item (λ x. r_items m m2 (t_less m m2 h) (found ++ x ∷ [])))

      r_block : R (block language_params fuel one1) (block v more one2)
      unfolding block
      r_block = r_then (r_items fuel more most []) (λ xs. r_then (r_expect k.RightBrace) (λ _. r_pure (s.block xs)))

      r_conditional : (at : Place) → R (conditional language_params fuel one1 at) (conditional v more one2 at)
      unfolding conditional
      r_conditional at = r_then r_condition (λ z. r_then r_one (λ x. r_sees k.KeywordElse (r_then r_take (λ _. r_then r_one (λ y. r_pure (s.IfElse at z x y)))) (r_pure (s.If at z x))))

      r_while_loop : (at : Place) → R (while_loop language_params fuel one1 at) (while_loop v more one2 at)
      unfolding while_loop
      r_while_loop at = r_then r_condition (λ z. r_then r_one (λ x. r_pure (s.While at z x)))

      r_for_loop : (at : Place) → R (for_loop language_params fuel one1 at) (for_loop v more one2 at)
      unfolding for_loop
      r_for_loop at =
          r_then (r_expect k.LeftParen) (λ _. r_then r_first (λ begin. r_then (r_expect k.Semicolon)
          (λ _. r_then r_optional (λ z. r_then (r_expect k.Semicolon)
          (λ _. r_then r_update (λ change. r_then (r_expect k.RightParen)
          (λ _. r_then r_one (λ x. r_pure (s.For at begin z change x)))))))))

      r_foreach_loop : (at : Place) → R (foreach_loop language_params fuel one1 at) (foreach_loop v more one2 at)
      unfolding foreach_loop
      r_foreach_loop at =
          r_then (r_expect k.LeftParen) (λ _. r_place (foreach_at language_params one1 at) (foreach_at v one2 at)
          (λ name_at. r_then r_name (λ name. r_then (r_expect_word (codes "in"))
          (λ _. r_then r_whole (λ domain. r_then (r_expect k.RightParen)
          (λ _. r_then r_one (λ x. r_pure (s.Foreach at name_at name domain x))))))))

      r_compound : (at : Place) (q : TokenKind) → R (compound language_params fuel one1 at q) (compound v more one2 at q)
      r_compound at k.LeftBrace = r_block
      r_compound at k.KeywordIf = r_conditional at
      r_compound at k.KeywordWhile = r_while_loop at
      r_compound at k.KeywordFor = r_for_loop at
      r_compound at _ = r_foreach_loop at

    r_small_other : (q : TokenKind) → R (small_other language_params fuel q) (small_other v more q)
    r_small_other q = r_if (starts q) (r_then q_operand r_simple) r_refuse

    r_small_by : (q : TokenKind) → R (statements.small_by language_params fuel q) (statements.small_by v more q)
    r_small_by k.Semicolon = r_then r_take (λ _. r_pure s.Empty)
    r_small_by k.KeywordPrintln = r_print
    r_small_by k.KeywordSystem = r_print
    r_small_by k.KeywordTi = r_then r_take (λ _. r_barrier)
    r_small_by k.KeywordBreak = r_break_out
    r_small_by k.KeywordContinue = r_continue_on
    r_small_by k.KeywordReturn = r_return_from
    r_small_by q = r_small_other q

    r_small : R (simple_stmt language_params fuel) (simple_stmt v more)
    unfolding simple_stmt
    r_small = r_kind (statements.small_by language_params fuel) (statements.small_by v more) r_small_by

    r_stmt : (level : ℕ) → R (stmt language_params fuel level) (stmt v more level)
    unfolding stmt
    r_stmt zero = r_test is_compound r_over r_small
    r_stmt (suc n) =
        r_kind (λ q i. stmt_at language_params fuel (stmt language_params fuel n) q (place i) i) (λ q i. stmt_at v more (stmt v more n) q (place i) i)
        (λ q. r_place (stmt_at language_params fuel (stmt language_params fuel n) q) (stmt_at v more (stmt v more n) q)
        (λ at. r_if (is_compound q) (r_then r_take (λ _. r_compound (stmt language_params fuel n) (stmt v more n) (r_stmt n) at q)) r_small))

    r_body_of : (level : ℕ) → R (items language_params fuel (stmt language_params fuel level) fuel []) (items v more (stmt v more level) more [])
    r_body_of level = r_items (stmt language_params fuel level) (stmt v more level) (r_stmt level) fuel more most []

    r_body : R (body language_params fuel) (body v more)
    r_body = subst (λ n. R (body language_params fuel) (items v more (stmt v more n) more [])) (sym same_levels) (r_body_of most_levels)

    -- ---- methods

    r_more_params : (m m2 : ℕ) → T m m2 → (found : List ParamTree) → R (more_params language_params fuel m found) (more_params v more m2 found)
    unfolding more_params
    r_more_params zero m2 h found = r_spent (λ z. more_params v more z found) m2 h refl
    r_more_params (suc m) zero h found = absurd (t_none m h)
    r_more_params (suc m) (suc m2) h found =
        r_then r_typed (λ ty. r_place (param_at language_params (more_params language_params fuel m) found ty) (param_at v (more_params v more m2) found ty)
        (λ at. r_then r_name (λ name. r_sees k.Comma (r_then r_take (λ _. r_more_params m m2 (t_less m m2 h) (found
        ++ record { ty = ty; place = at; name = name } ∷ [])))
        (r_pure (found ++ record { ty = ty; place = at; name = name } ∷ [])))))

    r_words : R (words language_params fuel) (words v more)
    unfolding words
    r_words = r_then (r_expect k.LeftBracket) (λ _. r_then (r_expect k.RightBracket) (λ _. r_place (words_at language_params) (words_at v) (λ at. r_then r_name (λ name. r_pure (c.MainArgs at name)))))

    r_params_other : R (λ i. and_then (more_params language_params fuel fuel [] i) (λ ps j. Ok (c.Params ps, j))) (λ i. and_then (more_params v more more [] i) (λ ps j. Ok (c.Params ps, j)))
    r_params_other = r_then (r_more_params fuel more most []) (λ ps. r_pure (c.Params ps))

    r_params_by : (q : TokenKind) → R (texts.params_by language_params fuel q) (texts.params_by v more q)
    r_params_by k.RightParen = r_pure (c.Params [])
    r_params_by k.KeywordString = r_then r_take (λ _. r_words)
    r_params_by _ = r_params_other

    r_params : R (params language_params fuel) (params v more)
    unfolding params
    r_params = r_kind (texts.params_by language_params fuel) (texts.params_by v more) r_params_by

    r_method : (ms : List Modifier) (result : ResultTree) (at : Place) (name : List ℕ) → R (method language_params fuel ms result at name) (method v more ms result at name)
    unfolding method
    r_method ms result at name =
        r_then (r_expect k.LeftParen) (λ _. r_then r_params (λ ps. r_then (r_expect k.RightParen) (λ _. r_then (r_expect k.LeftBrace) (λ _. r_then r_body (λ xs.
        r_place (method_at language_params ms result at name ps xs) (method_at v ms result at name ps xs)
        (λ end_at. r_then (r_expect k.RightBrace) (λ _. r_pure (c.MethodMember (record { modifiers = ms; result = result; place = at; name = name; params = ps; body = xs; end = end_at })))))))))

    -- ---- members

    r_method_named : (ms : List Modifier) (result : ResultTree) → R (method_named language_params fuel ms result) (method_named v more ms result)
    unfolding method_named
    r_method_named ms result = r_place (method_named_at language_params fuel ms result) (method_named_at v more ms result) (λ at. r_then r_name (λ name. r_method ms result at name))

    r_field_or_method : (ms : List Modifier) (ty : TypeTree) → R (field_or_method language_params fuel ms ty) (field_or_method v more ms ty)
    unfolding field_or_method
    r_field_or_method ms ty =
        r_place (field_or_method_at language_params fuel ms ty) (field_or_method_at v more ms ty)
        (λ at. r_then r_name (λ name. r_sees k.Semicolon (r_then r_take
        (λ _. r_pure (c.FieldMember (record { modifiers = ms; ty = ty; place = at; name = name }))))
        (r_method ms (c.Typed ty) at name)))

    r_typed_member : (ms : List Modifier) (one : Bool) → R (texts.typed_member language_params fuel ms one) (texts.typed_member v more ms one)
    r_typed_member ms true = r_then r_wide (λ ty. r_method_named ms (c.Typed ty))
    r_typed_member ms false = r_then r_field (r_field_or_method ms)

    r_member_other : (ms : List Modifier) (q : TokenKind) → R (texts.typed_member language_params fuel ms (is_wide q)) (texts.typed_member v more ms (is_wide q))
    r_member_other ms q = r_typed_member ms (is_wide q)

    r_member_by : (ms : List Modifier) (q : TokenKind) → R (texts.member_by language_params fuel ms q) (texts.member_by v more ms q)
    r_member_by ms k.KeywordVoid = r_place (void_at language_params fuel ms) (void_at v more ms) (λ at. r_then r_take (λ _. r_method_named ms (c.Void at)))
    r_member_by ms q = r_member_other ms q

    r_member_from : (ms : List Modifier) → R (member_from language_params fuel ms) (member_from v more ms)
    unfolding member_from
    r_member_from ms = r_kind (texts.member_by language_params fuel ms) (texts.member_by v more ms) (r_member_by ms)

    r_modifiers_if : (f g : List Modifier → Parser (List Modifier)) → ((found : List Modifier) → R (f found) (g found)) → (found : List Modifier) (word : Option ModifierWord)
        → R (texts.modifiers_if language_params fuel f found word) (texts.modifiers_if v more g found word)
    r_modifiers_if f g next found None = r_pure found
    r_modifiers_if f g next found (Some word) = r_place (modifier_at language_params f found word) (modifier_at v g found word)
        (λ at. r_then r_take (λ _. next (found ++ record { word = word; place = at } ∷ [])))

    r_modifiers : (word_of : TokenKind → Option ModifierWord) (m m2 : ℕ) → T m m2 → (found : List Modifier) → R (modifiers language_params fuel word_of m found) (modifiers v more word_of m2 found)
    unfolding modifiers
    r_modifiers word_of zero m2 h found = r_spent (λ z. modifiers v more word_of z found) m2 h refl
    r_modifiers word_of (suc m) zero h found = absurd (t_none m h)
    r_modifiers word_of (suc m) (suc m2) h found =
        r_kind (λ q. texts.modifiers_if language_params fuel (modifiers language_params fuel word_of m) found (word_of q)) (λ q. texts.modifiers_if v more (modifiers v more word_of m2) found (word_of q))
        (λ q. r_modifiers_if (modifiers language_params fuel word_of m) (modifiers v more word_of m2) (r_modifiers word_of m m2 (t_less m m2 h)) found (word_of q))

    r_member : R (member language_params fuel) (member v more)
    unfolding member
    r_member = r_then (r_modifiers modifier_of fuel more most []) r_member_from

    r_members : (m m2 : ℕ) → T m m2 → (found : List MemberTree) → R (members language_params fuel m found) (members v more m2 found)
    unfolding members
    r_members zero m2 h found = r_spent (λ z. members v more z found) m2 h refl
    r_members (suc m) zero h found = absurd (t_none m h)
    r_members (suc m) (suc m2) h found = r_sees k.RightBrace (r_pure found) (r_then r_member (λ x. r_members m m2 (t_less m m2 h) (found ++ x ∷ [])))

    -- ---- classes

    r_class_from : (ms : List Modifier) → R (class_from language_params fuel ms) (class_from v more ms)
    unfolding class_from
    r_class_from ms =
        r_place (class_at language_params fuel ms) (class_at v more ms) (λ word. r_then (r_expect k.KeywordClass) (λ _. r_place (class_named_at language_params fuel ms word) (class_named_at v more ms word)
        (λ at. r_then r_name (λ name. r_then (r_expect k.LeftBrace) (λ _. r_then (r_members fuel more most [])
        (λ xs. r_then (r_expect k.RightBrace) (λ _. r_pure (record {
          modifiers = ms;
          word = word;
          place = at;
          name = name;
          members = xs;
        }))))))))

    r_class : R (class language_params fuel) (class v more)
    unfolding class
    r_class = r_then (r_modifiers class_modifier_of fuel more most []) r_class_from

    r_classes : (m m2 : ℕ) → T m m2 → (found : List ClassTree) → R (classes language_params fuel m found) (classes v more m2 found)
    unfolding classes
    r_classes zero m2 h found = r_spent (λ z. classes v more z found) m2 h refl
    r_classes (suc m) zero h found = absurd (t_none m h)
    r_classes (suc m) (suc m2) h found = r_sees k.End (r_pure found) (r_then r_class (λ x. r_classes m m2 (t_less m m2 h) (found ++ x ∷ [])))

  -- all classes before the end
  pub classes_related : (fuel more : ℕ) → T fuel more → R (classes language_params fuel fuel []) (classes v more more [])
  classes_related fuel more h = r_classes fuel more h fuel more h []
