-- For proofs only: the model of parsing the parts of statements and members. Loops have fuel `fuel`.
use Rattle.std.specs.Prelude.{ℕ, zero, suc, Bool, true, false, ◌&&◌, if◌then◌else◌, List, [], ◌∷◌, ◌++◌, Option, Some, None, Ok, codes}
use Rattle.ti_base.specs.declared.place.Place.{Place}
use Rattle.ti_syntax.specs.declared.token.TokenKind.{TokenKind}
use Rattle.ti_syntax.specs.declared.token.TokenKind.TheVariants as k
use Rattle.ti_syntax.specs.declared.tree.types.Base.{Base}
use Rattle.ti_syntax.specs.declared.tree.types.Base.TheVariants as b
use Rattle.ti_syntax.specs.declared.tree.types.QualifierWord.{QualifierWord}
use Rattle.ti_syntax.specs.declared.tree.exprs.BinaryOperator.{BinaryOperator}
use Rattle.ti_syntax.specs.declared.tree.stmts.StepOperator.{StepOperator}
use Rattle.ti_syntax.specs.Trees.Types.{TypeTree}
use Rattle.ti_syntax.specs.Trees.Expressions.{Exp, RangeTree}
use Rattle.ti_syntax.specs.Trees.Expressions as e
use Rattle.ti_syntax.specs.Trees.Statements.{DimsTree, InitTree, PrintTree, Stm, MaybeStm}
use Rattle.ti_syntax.specs.Trees.Statements as s
use Rattle.ti_syntax.specs.Spelling.Operators.{update_of, step_of, qualifier_of}
use Rattle.ti_syntax.specs.Spelling.Expressions.{Ending, Target, Call}
use Rattle.ti_syntax.specs.Spelling.Statements.{starts}
use Rattle.ti_parse_expr.specs.declared.parse.Form.TheVariants as form
use Rattle.ti_parse_expr.specs.Mirrors.Input.{Parser, ◌>>=◌, ◌>>◌, ◌<$>◌, pure, refuse, peek, place_of_next, kind, next_is, expect, expect_word, any_name, take_token}
use Rattle.ti_parse_expr.specs.Mirrors.Types.{arity, base, qualifiers, grid, grids, field_type}
use Rattle.ti_parse_expr.specs.Mirrors.Exprs.{Operand, is_dim_token}
use Rattle.ti_parse.specs.Mirrors.ParserParams.{ParserParams}

-- the keywords of types that fields and elements can't have
abbrev pub is_wide : TokenKind → Bool
is_wide k.KeywordDomain = true
is_wide k.KeywordSharedRegion = true
is_wide _ = false

-- the keywords that can begin a declaration
abbrev pub begins_declaration : TokenKind → Bool
begins_declaration k.KeywordInt = true
begins_declaration k.KeywordLong = true
begins_declaration k.KeywordBoolean = true
begins_declaration k.KeywordPoint = true
begins_declaration k.KeywordRectDomain = true
begins_declaration k.KeywordDomain = true
begins_declaration k.KeywordSharedRegion = true
begins_declaration _ = false

abbrev pub is_call : Ending → Bool
is_call Call = true
is_call _ = false

-- the start of a statement that begins with a name: the type of a declaration, or an operand
pub data NameStart : Type 0 where
  DeclaredType : (ty : TypeTree) → NameStart
  PostfixStart : (x : Operand) → NameStart

-- the type that is just a class name
abbrev pub class_name_type : Place → List ℕ → TypeTree
class_name_type at name = record { base = b.Named at name; qualifiers = []; grids = [] }

module _ (w : ParserParams) (fuel : ℕ) where
  -- ---- types

  abbrev pub wide_by : TokenKind → Parser TypeTree
  wide_by k.KeywordDomain = (do at ← place_of_next; take_token; n ← arity; qs ← qualifiers fuel []; pure (record { base = b.Domain at n; qualifiers = qs; grids = [] }))
  wide_by k.KeywordSharedRegion = (do at ← place_of_next; take_token; qs ← qualifiers fuel []; pure (record { base = b.SharedRegion at; qualifiers = qs; grids = [] }))
  wide_by _ = refuse

  unfoldable pub wide : Parser TypeTree
  wide = peek >>= wide_by

  -- the type of a field
  unfoldable pub field : Parser TypeTree
  field = base >>= field_type fuel

  unfoldable pub any_type : Parser TypeTree
  any_type = do
    one ← (λ i. Ok (is_wide (kind i), i))
    if one then wide else field

  -- ---- initializers

  -- the rest of a range, after both bounds
  abbrev pub range_behind : Exp → Exp → Parser RangeTree
  range_behind low high = do
    is_stepped ← (λ i. Ok (next_is k.Colon i, i))
    if is_stepped then take_token >> (λ step. e.Stepped low high step) <$> w.full form.Whole else pure (e.Plain low high)

  -- the rest of a range, after its lower bound
  unfoldable pub range_from : Exp → Parser RangeTree
  range_from low = do
    expect k.Colon
    high ← w.full form.Whole
    range_behind low high

  -- at most n more ranges
  unfoldable pub more_ranges : ℕ → List RangeTree → Parser (List RangeTree)
  more_ranges zero found = pure found
  more_ranges (suc n) found = do
    is_more ← (λ i. Ok (next_is k.Comma i, i))
    if is_more then (do take_token; low ← w.full form.Whole; r ← range_from low; more_ranges n (found ++ r ∷ [])) else pure found

  -- a domain expression, or one to three ranges
  unfoldable pub dims : Parser DimsTree
  dims = do
    first ← w.full form.Whole
    is_range ← (λ i. Ok (next_is k.Colon i, i))
    if is_range then (do r ← range_from first; s.Ranges <$> more_ranges 2 (r ∷ [])) else pure (s.Domain first)

  -- the optional `(r)` after `new`
  unfoldable pub region : Parser (Option Exp)
  region = do
    is_placed ← (λ i. Ok (next_is k.LeftParen i, i))
    if is_placed then (do take_token; x ← w.full form.Whole; expect k.RightParen; pure (Some x)) else pure None

  -- a new grid, after the base of its element type
  unfoldable pub new_grid : Place → Option Exp → Base → Parser InitTree
  new_grid at owner begin = do
    qs ← qualifiers fuel []
    dims_at ← place_of_next
    expect k.LeftBracket
    d ← dims
    expect k.RightBracket
    gs ← grids fuel 2 []
    pure (s.NewGrid at owner (record { base = begin; qualifiers = qs; grids = gs }) dims_at d)

  -- a new object, or a new grid of a class, after the class name
  unfoldable pub new_named : Place → Option Exp → Place → List ℕ → Parser InitTree
  new_named at owner name_at name = do
    is_object ← (λ i. Ok (next_is k.LeftParen i, i))
    if is_object then (do take_token; expect k.RightParen; pure (s.NewObject at owner name_at name)) else new_grid at owner (b.Named name_at name)

  abbrev pub new_object_or_grid_by : Place → Option Exp → TokenKind → Parser InitTree
  new_object_or_grid_by at owner (k.Name name) = (do name_at ← place_of_next; take_token; new_named at owner name_at name)
  new_object_or_grid_by at owner _ = base >>= new_grid at owner

  -- a new object or grid, after `new` and the optional region
  unfoldable pub new_object_or_grid : Place → Option Exp → Parser InitTree
  new_object_or_grid at owner = peek >>= new_object_or_grid_by at owner

  abbrev pub new_by : Place → TokenKind → Parser InitTree
  new_by at k.KeywordSharedRegion = (do take_token; expect k.LeftParen; expect k.RightParen; pure (s.NewRegion at))
  new_by at _ = region >>= new_object_or_grid at

  -- a new region, object or grid, after `new`
  unfoldable pub new_thing : Place → Parser InitTree
  new_thing at = peek >>= new_by at

  -- a broadcast, after its keyword
  unfoldable pub broadcast : Place → Parser InitTree
  broadcast at = do
    x ← w.full form.Whole
    expect_word (codes "from")
    root ← w.full form.Whole
    pure (s.Broadcast at x root)

  abbrev pub initial_by : TokenKind → Parser InitTree
  initial_by k.KeywordNew = (do at ← place_of_next; take_token; new_thing at)
  initial_by k.KeywordBroadcast = (do at ← place_of_next; take_token; broadcast at)
  initial_by _ = s.Value <$> w.full form.Whole

  unfoldable pub initial : Parser InitTree
  initial = peek >>= initial_by

  -- ---- declarations and changes

  -- a declaration, after its type
  unfoldable pub declared : TypeTree → Parser Stm
  declared ty = do
    at ← place_of_next
    name ← any_name
    expect k.Assign
    value ← initial
    pure (s.Declare at ty name value)

  -- an assignment, after its `=`
  abbrev pub assignment : Place → Exp → Parser Stm
  assignment at target = (do value ← initial; pure (s.Assign at target value))

  -- a compound assignment, after its operator
  abbrev pub compound_assignment : Place → BinaryOperator → Exp → Parser Stm
  compound_assignment at op target = (do x ← w.full form.Whole; pure (s.Update at op target x))

  abbrev pub update_if : Exp → Option BinaryOperator → Option StepOperator → Parser Stm
  update_if target (Some op) step = (do at ← place_of_next; take_token; compound_assignment at op target)
  update_if target None (Some op) = (do at ← place_of_next; take_token; pure (s.Step at op target))
  update_if target None None = refuse

  abbrev pub change_of_by : Exp → TokenKind → Parser Stm
  change_of_by target k.Assign = (do at ← place_of_next; take_token; assignment at target)
  change_of_by target kind = update_if target (update_of kind) (step_of kind)

  abbrev pub change_of_if : Exp → Ending → Parser Stm
  change_of_if x Target = peek >>= change_of_by x
  change_of_if x _ = refuse

  -- a change (an assignment, a compound assignment or a step), after its Postfix
  unfoldable pub change_of : Operand → Parser Stm
  change_of o = change_of_if o.0 o.1

  abbrev pub expr_stmt_if : Operand → Bool → Parser Stm
  expr_stmt_if o true = take_token >> pure (s.Call o.0)
  expr_stmt_if o false = (do x ← change_of o; expect k.Semicolon; pure x)

  -- a call or a change with its semicolon, after its Postfix
  unfoldable pub expr_stmt : Operand → Parser Stm
  expr_stmt o = do
    is_done ← (λ i. Ok (next_is k.Semicolon i, i))
    expr_stmt_if o (is_call o.1 && is_done)

  -- a change
  unfoldable pub change : Parser Stm
  change = do
    begins ← (λ i. Ok (starts (kind i), i))
    if begins then w.operand >>= change_of else refuse

  -- ---- statements that begin with a name

  -- the start of a statement, after its name and `[`
  unfoldable pub bracket_start : Place → List ℕ → Place → Parser NameStart
  bracket_start at name bracket_at = do
    is_grid ← (λ i. Ok (is_dim_token (kind i), i))
    if is_grid then (do g ← grid fuel; gs ← grids fuel 2 (g ∷ []); pure (DeclaredType (record { base = b.Named at name; qualifiers = []; grids = gs }))) else PostfixStart <$> w.behind_bracket bracket_at at name

  abbrev pub name_start_if : Place → List ℕ → Option QualifierWord → Parser NameStart
  name_start_if at name (Some word) = DeclaredType <$> field_type fuel (b.Named at name)
  name_start_if at name None = PostfixStart <$> w.behind_name at name

  abbrev pub name_start_by : Place → List ℕ → TokenKind → Parser NameStart
  name_start_by at name (k.Name next) = pure (DeclaredType (class_name_type at name))
  name_start_by at name k.LeftBracket = (do bracket_at ← place_of_next; take_token; bracket_start at name bracket_at)
  name_start_by at name kind = name_start_if at name (qualifier_of kind)

  -- the start of a statement, after its name
  unfoldable pub name_start : Place → List ℕ → Parser NameStart
  name_start at name = peek >>= name_start_by at name

  -- ---- prints and barriers

  abbrev pub printer_by : TokenKind → Parser Place
  printer_by k.KeywordSystem = (do take_token; expect k.Dot; expect_word (codes "out"); expect k.Dot; at ← place_of_next; expect k.KeywordPrintln; pure at)
  printer_by _ = (do at ← place_of_next; expect k.KeywordPrintln; pure at)

  -- `println` or `System.out.println`; the value is the position of `println`
  unfoldable pub printer : Parser Place
  printer = peek >>= printer_by

  -- the argument of a print, after its string literal
  unfoldable pub print_text_argument : List ℕ → Parser PrintTree
  print_text_argument text = do
    is_more ← (λ i. Ok (next_is k.Plus i, i))
    if is_more then (do take_token; x ← w.full form.Mul; pure (s.TextAndExpression text x)) else pure (s.Text text)

  abbrev pub print_argument_by : TokenKind → Parser PrintTree
  print_argument_by k.RightParen = pure s.Nothing
  print_argument_by (k.Str text) = take_token >> print_text_argument text
  print_argument_by _ = s.Expression <$> w.full form.Whole

  -- the argument of a print, without its parentheses
  unfoldable pub print_argument : Parser PrintTree
  print_argument = peek >>= print_argument_by

  unfoldable pub print : Parser Stm
  print = do
    at ← printer
    expect k.LeftParen
    what ← print_argument
    expect k.RightParen
    expect k.Semicolon
    pure (s.Print at what)

  -- a barrier, after `Ti`
  unfoldable pub barrier : Parser Stm
  barrier = do
    expect k.Dot
    at ← place_of_next
    expect_word (codes "barrier")
    expect k.LeftParen
    expect k.RightParen
    expect k.Semicolon
    pure (s.Barrier at)

  -- ---- jumps, from their keywords on

  unfoldable pub break_out : Parser Stm
  break_out = do
    at ← place_of_next
    take_token
    expect k.Semicolon
    pure (s.Break at)

  unfoldable pub continue_on : Parser Stm
  continue_on = do
    at ← place_of_next
    take_token
    expect k.Semicolon
    pure (s.Continue at)

  -- an expression, or None if a semicolon is next
  unfoldable pub optional_expr : Parser (Option Exp)
  optional_expr = do
    is_none ← (λ i. Ok (next_is k.Semicolon i, i))
    if is_none then pure None else Some <$> w.full form.Whole

  unfoldable pub return_from : Parser Stm
  return_from = do
    at ← place_of_next
    take_token
    value ← optional_expr
    expect k.Semicolon
    pure (s.Return at value)

  -- ---- the heads of compound statements

  unfoldable pub condition : Parser Exp
  condition = do
    expect k.LeftParen
    c ← w.full form.Whole
    expect k.RightParen
    pure c

  abbrev pub first_of : NameStart → Parser Stm
  first_of (DeclaredType ty) = declared ty
  first_of (PostfixStart o) = change_of o

  abbrev pub first_by : TokenKind → Parser MaybeStm
  first_by k.Semicolon = pure s.NoStm
  first_by (k.Name name) = (do at ← place_of_next; take_token; x ← name_start at name; first ← first_of x; pure (s.SomeStm first))
  first_by kind = (do first ← (if begins_declaration kind then any_type >>= declared else change); pure (s.SomeStm first))

  -- the first part of a `for` head
  unfoldable pub first : Parser MaybeStm
  first = peek >>= first_by

  -- the update of a `for` head
  unfoldable pub update : Parser MaybeStm
  update = do
    is_none ← (λ i. Ok (next_is k.RightParen i, i))
    if is_none then pure s.NoStm else s.SomeStm <$> change
