-- For proofs only: the parser's parameters, so that it can be compared with one that has other limits.
use Rattle.std.specs.Prelude.{ℕ, List}
use Rattle.ti_base.specs.declared.place.Place.{Place}
use Rattle.ti_syntax.specs.Trees.Expressions.{Exp}
use Rattle.ti_parse_expr.specs.declared.parse.Form.{Form}
use Rattle.ti_parse_expr.specs.Mirrors.Input.{Parser}
use Rattle.ti_parse_expr.specs.Mirrors.Exprs.{Operand}
use Rattle.ti_parse_expr.specs.Mirrors.Full.{Limits, language_limits, full_to, operand_to, behind_name_to, behind_bracket_to}

-- the limit on nesting, and the parsers of full expressions: of a phrase, of a Postfix, of a Postfix after its first name, and of one
-- after its first name and `[`
pub record ParserParams : Type 0 where
  pub levels : ℕ
  pub full : Form → Parser Exp
  pub operand : Parser Operand
  pub behind_name : Place → List ℕ → Parser Operand
  pub behind_bracket : Place → Place → List ℕ → Parser Operand

-- the parameters for these limits
abbrev pub up_to : Limits → ParserParams
up_to limits = record {
  levels = limits.level;
  full = full_to limits;
  operand = operand_to limits;
  behind_name = behind_name_to limits;
  behind_bracket = behind_bracket_to limits;
}

-- the parameters for the language's limits, as in the code
abbrev pub language_params : ParserParams
language_params = up_to language_limits
