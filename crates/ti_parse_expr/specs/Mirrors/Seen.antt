-- For proofs only: the models of the values that the parser returns.
use Rattle.std.specs.Prelude.{List, map}
use Rattle.std.specs.declared.vec.Vec.{Vec}
use Rattle.std.specs.declared.alloc.Global.{Global}
use Rattle.ti_syntax.specs.declared.tree.types.Brackets.{Brackets}
use Rattle.ti_syntax.specs.declared.tree.types.Qualifier.{Qualifier}
use Rattle.ti_syntax.specs.Trees.Types.{GridTree}
use Rattle.ti_syntax.specs.Trees.Expressions.{Exp}
use Rattle.ti_syntax.specs.Trees.Views.{grid_of, exp_of}
use Rattle.ti_syntax.specs.Spelling.Expressions as e
use Rattle.ti_parse_expr.specs.declared.postfix_expr.PostfixKind.{PostfixKind}
use Rattle.ti_parse_expr.specs.declared.postfix_expr.PostfixKind.TheVariants as ending
use Rattle.ti_parse_expr.specs.declared.postfix_expr.PostfixExpr.{PostfixExpr}

abbrev pub grids_of : Vec Brackets Global → List GridTree
grids_of v = map grid_of v.items

abbrev pub qualifiers_of : Vec Qualifier Global → List Qualifier
qualifiers_of v = v.items

abbrev pub postfix_ending : PostfixKind → e.Ending
postfix_ending ending.Target = e.Target
postfix_ending ending.Call = e.Call
postfix_ending ending.Other = e.Other

-- the model of an operand: its tree and its ending
abbrev pub operand_of : PostfixExpr → Exp × e.Ending
operand_of o = (exp_of o.expr, postfix_ending o.kind)
