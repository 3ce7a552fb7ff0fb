-- For proofs only: the model of parsing statements. Loops have fuel `fuel`.
use Rattle.std.specs.Prelude.{ℕ, zero, suc, Bool, true, false, if◌then◌else◌, List, [], ◌∷◌, ◌++◌, Ok, Err, codes}
use Rattle.ti_base.specs.declared.place.Place.{Place}
use Rattle.ti_syntax.specs.declared.token.TokenKind.{TokenKind}
use Rattle.ti_syntax.specs.declared.token.TokenKind.TheVariants as k
use Rattle.ti_syntax.specs.Trees.Expressions.{Exp}
use Rattle.ti_syntax.specs.Trees.Statements.{Stm}
use Rattle.ti_syntax.specs.Trees.Statements as s
use Rattle.ti_syntax.specs.Spelling.Statements.{starts}
use Rattle.ti_parse_expr.specs.declared.parse.Form.TheVariants as form
use Rattle.ti_parse_expr.specs.Mirrors.Input.{Parser, Over, OutOfFuel, ◌>>=◌, ◌>>◌, pure, refuse, peek, place_of_next, kind, next_is, expect, expect_word, any_name, take_token}
use Rattle.ti_parse.specs.Mirrors.ParserParams.{ParserParams}
use Rattle.ti_parse.specs.Mirrors.Parts.{NameStart, DeclaredType, PostfixStart, begins_declaration, any_type, declared, expr_stmt, name_start, print, barrier, break_out, continue_on, return_from, condition, first, optional_expr, update}

-- the tokens that begin compound statements
abbrev pub is_compound : TokenKind → Bool
is_compound k.LeftBrace = true
is_compound k.KeywordIf = true
is_compound k.KeywordWhile = true
is_compound k.KeywordFor = true
is_compound k.KeywordForeach = true
is_compound _ = false

-- the error at a token that is nested too deeply
abbrev pub too_deep : {A : Type 0} → Parser A
too_deep = λ i. Err (Over i)

module _ (w : ParserParams) (fuel : ℕ) where
  -- ---- the parts of compound statements, over a parser of nested statements

  module _ (stmt : Parser Stm) where
    -- an item that begins with a name, after its start
    abbrev pub named_item : NameStart → Parser Stm
    named_item (DeclaredType ty) = (do x ← declared w fuel ty; expect k.Semicolon; pure x)
    named_item (PostfixStart o) = expr_stmt w fuel o

    abbrev pub item_by : TokenKind → Parser Stm
    item_by (k.Name name) = (do at ← place_of_next; take_token; x ← name_start w fuel at name; named_item x)
    item_by kind = if begins_declaration kind then (do ty ← any_type w fuel; x ← declared w fuel ty; expect k.Semicolon; pure x) else stmt

    -- an item: a declaration or a statement
    unfoldable pub item : Parser Stm
    item = peek >>= item_by

    -- all items up to a `}`, with fuel
    unfoldable pub items : ℕ → List Stm → Parser (List Stm)
    items zero found = λ i. Err OutOfFuel
    items (suc n) found = do
      is_end ← (λ i. Ok (next_is k.RightBrace i, i))
      if is_end then pure found else (do x ← item; items n (found ++ x ∷ []))

    -- a block, after its `{`
    unfoldable pub block : Parser Stm
    block = do
      xs ← items fuel []
      expect k.RightBrace
      pure (s.block xs)

    -- an `if`, after its first branch
    abbrev pub conditional_behind : Place → Exp → Stm → Parser Stm
    conditional_behind at c x = do
      has_else ← (λ i. Ok (next_is k.KeywordElse i, i))
      if has_else then (do take_token; y ← stmt; pure (s.IfElse at c x y)) else pure (s.If at c x)

    -- an `if`, after its keyword
    unfoldable pub conditional : Place → Parser Stm
    conditional at = do
      c ← condition w fuel
      x ← stmt
      conditional_behind at c x

    -- a `while`, after its keyword
    unfoldable pub while_loop : Place → Parser Stm
    while_loop at = do
      c ← condition w fuel
      x ← stmt
      pure (s.While at c x)

    -- a `for`, after its keyword
    unfoldable pub for_loop : Place → Parser Stm
    for_loop at = do
      expect k.LeftParen
      begin ← first w fuel
      expect k.Semicolon
      c ← optional_expr w fuel
      expect k.Semicolon
      change ← update w fuel
      expect k.RightParen
      x ← stmt
      pure (s.For at begin c change x)

    -- a `foreach`, after its keyword
    unfoldable pub foreach_loop : Place → Parser Stm
    foreach_loop at = do
      expect k.LeftParen
      name_at ← place_of_next
      name ← any_name
      expect_word (codes "in")
      domain ← w.full form.Whole
      expect k.RightParen
      x ← stmt
      pure (s.Foreach at name_at name domain x)

    -- a compound statement, after its first token
    abbrev pub compound : Place → TokenKind → Parser Stm
    compound at k.LeftBrace = block
    compound at k.KeywordIf = conditional at
    compound at k.KeywordWhile = while_loop at
    compound at k.KeywordFor = for_loop at
    compound at _ = foreach_loop at

  -- ---- statements

  -- a statement that isn't compound, by its first token
  abbrev pub small_by : TokenKind → Parser Stm
  small_by k.Semicolon = take_token >> pure s.Empty
  small_by k.KeywordPrintln = print w fuel
  small_by k.KeywordSystem = print w fuel
  small_by k.KeywordTi = take_token >> barrier w fuel
  small_by k.KeywordBreak = break_out w fuel
  small_by k.KeywordContinue = continue_on w fuel
  small_by k.KeywordReturn = return_from w fuel
  small_by kind = if starts kind then w.operand >>= expr_stmt w fuel else refuse

  unfoldable pub simple_stmt : Parser Stm
  simple_stmt = peek >>= small_by

  -- a statement in which this many more levels of compound statements may be nested
  unfoldable pub stmt : ℕ → Parser Stm
  stmt zero = do
    is_deep ← (λ i. Ok (is_compound (kind i), i))
    if is_deep then too_deep else simple_stmt
  stmt (suc n) = do
    begin ← peek
    at ← place_of_next
    if is_compound begin then take_token >> compound (stmt n) at begin else simple_stmt

  -- the items of a method body, without its braces
  abbrev pub body : Parser (List Stm)
  body = items (stmt w.levels) fuel []
