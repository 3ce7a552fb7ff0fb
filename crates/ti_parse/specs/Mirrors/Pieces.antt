-- For proofs only: groups of parsing steps that are functions of their own in the code, and the models of their values.
use Rattle.std.specs.Prelude.{ℕ, List, [], Option}
use Rattle.std.specs.declared.boxed.Box.{Box}
use Rattle.std.specs.declared.alloc.Global.{Global}
use Rattle.ti_base.specs.declared.place.Place.{Place}
use Rattle.ti_syntax.specs.declared.token.TokenKind.TheVariants as k
use Rattle.ti_syntax.specs.declared.tree.stmts.Init.{Init}
use Rattle.ti_syntax.specs.Trees.Types.{GridTree}
use Rattle.ti_syntax.specs.Trees.Expressions.{Exp}
use Rattle.ti_syntax.specs.Trees.Statements.{DimsTree, InitTree, Stm, MaybeStm}
use Rattle.ti_syntax.specs.Trees.Classes.{ParamsTree}
use Rattle.ti_syntax.specs.Trees.Views.{maybe_of, exp_of, dims_of, init_of, stms_of}
use Rattle.ti_parse_expr.specs.Mirrors.Input.{Parser, ◌>>=◌, ◌>>◌, pure, place_of_next, expect}
use Rattle.ti_parse_expr.specs.Mirrors.Types.{grids}
use Rattle.ti_parse_expr.specs.Mirrors.Seen.{grids_of}
use Rattle.ti_parse.specs.declared.exprs.Sizes.{Sizes}
use Rattle.ti_parse.specs.declared.stmts.ForHead.{ForHead}
use Rattle.ti_parse.specs.declared.classes.MethodBody.{MethodBody}
use Rattle.ti_parse.specs.Mirrors.ParserParams.{ParserParams}
use Rattle.ti_parse.specs.Mirrors.Seen.{maybe_stm}
use Rattle.ti_parse.specs.Mirrors.Parts.{dims, first, optional_expr, update}
use Rattle.ti_parse.specs.Mirrors.Statements.{body}
use Rattle.ti_parse.specs.Mirrors.Classes.{params}

module _ (w : ParserParams) (fuel : ℕ) where
  -- of a new grid: the position of its bracket, its domain, and the grid brackets of its element type
  unfoldable pub sizes : Parser (Place × DimsTree × List GridTree)
  sizes = do
    at ← place_of_next
    expect k.LeftBracket
    d ← dims w fuel
    expect k.RightBracket
    gs ← grids fuel 2 []
    pure (at, d, gs)

  -- the head of a `for`, with its parentheses
  unfoldable pub for_head : Parser (MaybeStm × Option Exp × MaybeStm)
  for_head = do
    expect k.LeftParen
    begin ← first w fuel
    expect k.Semicolon
    c ← optional_expr w fuel
    expect k.Semicolon
    change ← update w fuel
    expect k.RightParen
    pure (begin, c, change)

  -- a method's parameter list, with its parentheses
  unfoldable pub signature : Parser ParamsTree
  signature = do
    expect k.LeftParen
    ps ← params w fuel
    expect k.RightParen
    pure ps

  -- a method body in its braces, with the position of the closing one
  unfoldable pub method_body : Parser (List Stm × Place)
  method_body = do
    expect k.LeftBrace
    xs ← body w fuel
    end_at ← place_of_next
    expect k.RightBrace
    pure (xs, end_at)

-- ---- models of values

abbrev pub sizes_of : Sizes → Place × DimsTree × List GridTree
sizes_of z = (z.bracket, dims_of z.dims, grids_of z.grids)

abbrev pub for_head_of : ForHead → MaybeStm × Option Exp × MaybeStm
for_head_of h = (maybe_stm h.first, maybe_of exp_of h.condition, maybe_stm h.update)

abbrev pub method_body_of : MethodBody → List Stm × Place
method_body_of b = (stms_of b.body, b.end)

abbrev pub boxed_init : Box Init Global → InitTree
boxed_init b = init_of b.value
