-- For proofs only: the model of the expression parser, which has one token of lookahead. `fuel` is fuel; more than the number of
-- tokens suffices.
use Rattle.std.specs.Prelude.{ℕ, zero, suc, ◌+◌, if◌then◌else◌, nat_lt, Bool, true, false, is_some, List, [], ◌∷◌, ◌++◌, Option, Some, None, Ok, Err, codes}
use Rattle.ti_base.specs.declared.place.Place.{Place}
use Rattle.ti_syntax.specs.declared.token.TokenKind.{TokenKind}
use Rattle.ti_syntax.specs.declared.token.TokenKind.TheVariants as k
use Rattle.ti_syntax.specs.declared.tree.types.Base.{Base}
use Rattle.ti_syntax.specs.declared.tree.types.Base.TheVariants as b
use Rattle.ti_syntax.specs.declared.tree.exprs.UnaryOperator.{UnaryOperator}
use Rattle.ti_syntax.specs.declared.tree.exprs.BinaryOperator.{BinaryOperator}
use Rattle.ti_syntax.specs.Trees.Types.{TypeTree}
use Rattle.ti_syntax.specs.Trees.Expressions.{Exp, RangeTree}
use Rattle.ti_syntax.specs.Trees.Expressions as e
use Rattle.ti_syntax.specs.Spelling.Operators.{prefix_of, infix_of, strength, qualifier_of}
use Rattle.ti_syntax.specs.Spelling.Expressions.{Ending, Target, Call, Other}
use Rattle.ti_parse_expr.specs.Mirrors.Input.{Parser, OutOfFuel, ◌>>=◌, ◌>>◌, ◌<$>◌, pure, refuse, peek, place_of_next, next_is, next_is_name, expect, take_token, any_name}
use Rattle.ti_parse_expr.specs.declared.parse.Form.{Form}
use Rattle.ti_parse_expr.specs.declared.parse.Form.TheVariants as form
use Rattle.ti_parse_expr.specs.Mirrors.Types.{base as type_base, grid, grids, field_type}

-- a Postfix, with its ending
abbrev pub Operand : Type 0
Operand = Exp × Ending

-- the keywords that begin a type but no expression
abbrev pub begins_type : TokenKind → Bool
begins_type k.KeywordInt = true
begins_type k.KeywordLong = true
begins_type k.KeywordBoolean = true
begins_type k.KeywordPoint = true
begins_type k.KeywordRectDomain = true
begins_type _ = false

abbrev pub is_dim_token : TokenKind → Bool
is_dim_token (k.Dim n) = true
is_dim_token _ = false

-- `thisProc` or `numProcs`, after `Ti` and its dot
unfoldable pub process_name : Parser Bool
process_name = do
  is_this ← (λ i. Ok (next_is_name (codes "thisProc") i, i))
  is_num ← (λ i. Ok (next_is_name (codes "numProcs") i, i))
  if is_this then take_token >> pure true else (if is_num then take_token >> pure false else refuse)

-- the rest of `Ti.thisProc()` or `Ti.numProcs()`, after `Ti`
unfoldable pub process : Place → Parser Exp
process at = do
  expect k.Dot
  is_this ← process_name
  expect k.LeftParen
  expect k.RightParen
  pure (if is_this then e.ThisProc at else e.NumProcs at)

-- `expr` parses an expression whose operators have at least the given precedence level.
module _ (fuel : ℕ) (expr : ℕ → Parser Exp) where
  -- ---- lists

  -- the remaining arguments, after a comma or `(`
  unfoldable pub more_args : ℕ → List Exp → Parser (List Exp)
  more_args zero found = λ i. Err OutOfFuel
  more_args (suc n) found = do
    x ← expr 1
    is_more ← (λ i. Ok (next_is k.Comma i, i))
    if is_more then take_token >> more_args n (found ++ x ∷ []) else pure (found ++ x ∷ [])

  -- an argument list with its `)`, after `(`
  unfoldable pub args : Parser (List Exp)
  args = do
    is_empty ← (λ i. Ok (next_is k.RightParen i, i))
    if is_empty then take_token >> pure [] else (do found ← more_args fuel []; expect k.RightParen; pure found)

  -- at most n more coordinates or indices
  unfoldable pub more_parts : ℕ → List Exp → Parser (List Exp)
  more_parts zero found = pure found
  more_parts (suc n) found = do
    is_more ← (λ i. Ok (next_is k.Comma i, i))
    if is_more then (do take_token; x ← expr 1; more_parts n (found ++ x ∷ [])) else pure found

  -- the remaining coordinates or indices after the first one, with the `]`
  unfoldable pub parts_from : Exp → Parser (List Exp)
  parts_from first = do
    found ← more_parts 2 (first ∷ [])
    expect k.RightBracket
    pure found

  -- coordinates or indices with the `]`, after `[`
  unfoldable pub parts : Parser (List Exp)
  parts = expr 1 >>= parts_from

  -- the rest of a range, after its lower bound
  unfoldable pub range_from : Exp → Parser RangeTree
  range_from low = do
    expect k.Colon
    high ← expr 1
    is_stepped ← (λ i. Ok (next_is k.Colon i, i))
    if is_stepped then take_token >> (λ step. e.Stepped low high step) <$> expr 1 else pure (e.Plain low high)

  -- at most n more ranges
  unfoldable pub more_ranges : ℕ → List RangeTree → Parser (List RangeTree)
  more_ranges zero found = pure found
  more_ranges (suc n) found = do
    is_more ← (λ i. Ok (next_is k.Comma i, i))
    if is_more then (do take_token; low ← expr 1; r ← range_from low; more_ranges n (found ++ r ∷ [])) else pure found

  -- the rest of a list of ranges with the `]`, after the lower bound of the first one
  unfoldable pub ranges_from : Exp → Parser (List RangeTree)
  ranges_from low = do
    r ← range_from low
    found ← more_ranges 2 (r ∷ [])
    expect k.RightBracket
    pure found

  -- ---- a Postfix

  -- a point or domain literal, after its `[`
  unfoldable pub bracket : Place → Parser Exp
  bracket at = do
    first ← expr 1
    is_range ← (λ i. Ok (next_is k.Colon i, i))
    if is_range then e.rect at <$> ranges_from first else e.point at <$> parts_from first

  -- a name or a call, after the name
  unfoldable pub name_or_call : Place → List ℕ → Parser Operand
  name_or_call at name = do
    is_call ← (λ i. Ok (next_is k.LeftParen i, i))
    if is_call then take_token >> (λ xs. (e.call at name xs, Call)) <$> args else pure (e.Name at name, Target)

  -- a member selection or method call, after the dot
  unfoldable pub member : Exp → Parser Operand
  member left = do
    at ← place_of_next
    name ← any_name
    is_call ← (λ i. Ok (next_is k.LeftParen i, i))
    if is_call then take_token >> (λ xs. (e.member at left name xs, Call)) <$> args else pure (e.Select at left name, Target)

  -- an index, after its `[`
  unfoldable pub index : Place → Exp → Parser Operand
  index at left = (λ xs. (e.index at left xs, Target)) <$> parts

  abbrev pub postfix_by : (Operand → Parser Operand) → Operand → TokenKind → Parser Operand
  postfix_by more left k.Dot = take_token >> member left.0 >>= more
  postfix_by more left k.LeftBracket = (do at ← place_of_next; take_token; x ← index at left.0; more x)
  postfix_by more left _ = pure left

  -- the postfix parts that follow an operand
  unfoldable pub postfix : ℕ → Operand → Parser Operand
  postfix zero left = λ i. Err OutOfFuel
  postfix (suc n) left = peek >>= postfix_by (postfix n) left

  -- a group and its postfix parts, after `(`
  unfoldable pub group : Parser Operand
  group = do
    x ← expr 1
    expect k.RightParen
    postfix fuel (x, Other)

  abbrev pub operand_by : TokenKind → Parser Operand
  operand_by (k.Int n) = (do at ← place_of_next; take_token; postfix fuel (e.Int at n, Other))
  operand_by (k.LongInt n) = (do at ← place_of_next; take_token; postfix fuel (e.Long at n, Other))
  operand_by k.KeywordTrue = (do at ← place_of_next; take_token; postfix fuel (e.Truth at true, Other))
  operand_by k.KeywordFalse = (do at ← place_of_next; take_token; postfix fuel (e.Truth at false, Other))
  operand_by k.KeywordNull = (do at ← place_of_next; take_token; postfix fuel (e.Null at, Other))
  operand_by k.KeywordThis = (do at ← place_of_next; take_token; postfix fuel (e.This at, Other))
  operand_by (k.Name name) = (do at ← place_of_next; take_token; first ← name_or_call at name; postfix fuel first)
  operand_by k.LeftParen = take_token >> group
  operand_by k.LeftBracket = (do at ← place_of_next; take_token; x ← bracket at; postfix fuel (x, Other))
  operand_by k.KeywordTi = (do at ← place_of_next; take_token; x ← process at; postfix fuel (x, Other))
  operand_by _ = refuse

  unfoldable pub operand : Parser Operand
  operand = peek >>= operand_by

  -- ---- operators

  -- an operator and its right operand
  unfoldable pub operation : Exp → BinaryOperator → Parser Exp
  operation left op = do
    at ← place_of_next
    take_token
    right ← expr (strength op + 1)
    pure (e.Binary at op left right)

  abbrev pub climb_by : (Exp → Parser Exp) → ℕ → Exp → Option BinaryOperator → Parser Exp
  climb_by more least left None = pure left
  climb_by more least left (Some op) = if nat_lt (strength op) least then pure left else (operation left op >>= more)

  -- operators of at least this level, with their right operands
  unfoldable pub climb : ℕ → ℕ → Exp → Parser Exp
  climb least zero left = λ i. Err OutOfFuel
  climb least (suc n) left = (do kind ← peek; climb_by (climb least n) least left (infix_of kind))

  -- a cast from its `)` on, after its type
  unfoldable pub cast : Place → TypeTree → Parser Exp
  cast at ty = expect k.RightParen >> e.Cast at ty <$> expr 11

  -- a cast, after the base of its type
  unfoldable pub cast_from : Place → Base → Parser Exp
  cast_from at begin = field_type fuel begin >>= cast at

  -- a cast, after a class name and `[`
  unfoldable pub cast_from_grid : Place → Base → Parser Exp
  cast_from_grid at begin = do
    g ← grid fuel
    gs ← grids fuel 2 (g ∷ [])
    cast at (record { base = begin; qualifiers = []; grids = gs })

  -- a group and its postfix parts, after the first operand in it
  unfoldable pub group_from : Operand → Parser Exp
  group_from first = do
    left ← postfix fuel first
    x ← climb 1 fuel left.0
    expect k.RightParen
    (λ y. y.0) <$> postfix fuel (x, Other)

  -- a cast or a group, at `[` after `(` and a name
  unfoldable pub paren_name_bracket : Place → Place → List ℕ → Parser Exp
  paren_name_bracket at name_at name = do
    bracket_at ← place_of_next
    take_token
    kind ← peek
    if is_dim_token kind then cast_from_grid at (b.Named name_at name) else (index bracket_at (e.Name name_at name) >>= group_from)

  abbrev pub paren_name_by : Place → Place → List ℕ → TokenKind → Parser Exp
  paren_name_by at name_at name k.LeftBracket = paren_name_bracket at name_at name
  paren_name_by at name_at name kind =
      if is_some (qualifier_of kind) then cast_from at (b.Named name_at name) else (name_or_call name_at name >>= group_from)

  -- a cast or a group, after `(` and a name
  unfoldable pub paren_name : Place → Place → List ℕ → Parser Exp
  paren_name at name_at name = peek >>= paren_name_by at name_at name

  abbrev pub paren_by : Place → TokenKind → Parser Exp
  paren_by at (k.Name name) = (do name_at ← place_of_next; take_token; paren_name at name_at name)
  paren_by at kind = if begins_type kind then (type_base >>= cast_from at) else ((λ x. x.0) <$> group)

  -- a cast, or a group and its postfix parts, after `(`
  unfoldable pub paren : Place → Parser Exp
  paren at = peek >>= paren_by at

  unfoldable pub unary : UnaryOperator → Parser Exp
  unary op = do
    at ← place_of_next
    take_token
    e.Unary at op <$> expr 11

  abbrev pub unary_or : Option UnaryOperator → Parser Exp
  unary_or (Some op) = unary op
  unary_or None = (λ x. x.0) <$> operand

  abbrev pub prefix_by : TokenKind → Parser Exp
  prefix_by k.LeftParen = (do at ← place_of_next; take_token; paren at)
  prefix_by kind = unary_or (prefix_of kind)

  unfoldable pub prefix : Parser Exp
  prefix = peek >>= prefix_by

  unfoldable pub level : ℕ → Parser Exp
  level least = prefix >>= climb least fuel

unfoldable pub expr : ℕ → ℕ → Parser Exp
expr zero least = λ i. Err OutOfFuel
expr (suc n) least = level n (expr n) least

-- a phrase of each form
abbrev pub phrase : ℕ → Form → Parser Exp
phrase fuel form.Whole = expr fuel 1
phrase fuel form.Mul = expr fuel 10
phrase fuel form.Postfix = (λ x. x.0) <$> operand fuel (expr fuel)

-- a Postfix, after its first name
unfoldable pub behind_name : ℕ → Place → List ℕ → Parser Operand
behind_name fuel at name = name_or_call fuel (expr fuel) at name >>= postfix fuel (expr fuel) fuel

-- a Postfix, after its first name and `[`; `fuel` is the fuel for the postfix parts after the index
unfoldable pub behind_bracket : ℕ → Place → Place → List ℕ → Parser Operand
behind_bracket fuel bracket_at at name =
    index (suc fuel) (expr (suc fuel)) bracket_at (e.Name at name) >>= postfix (suc fuel) (expr (suc fuel)) fuel
