use Rattle.std.proofs.Common.{rules}
use Rattle.ti_parse_expr.proofs.Alone.{nothing_behind}
use Rattle.ti_parse_expr.proofs.full.full_behind_name.Goals as goal

pub returns-then-ends_operand : goal.returns-then-ends_operand
returns-then-ends_operand c = nothing_behind c.args.place c.args.name c.args.tokens.now (search rules)
