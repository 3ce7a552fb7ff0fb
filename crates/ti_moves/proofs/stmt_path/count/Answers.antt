use Rattle.std.proofs.Common.{arith}
use Rattle.std.proofs.lemmas.Grind.{common_steps}
use Rattle.ti_moves.proofs.Entering.{body_counted}
use Rattle.ti_moves.proofs.stmt_path.count.Goals as goal

pub returns-then-is_empty : goal.returns-then-is_empty
returns-then-is_empty c = body_counted c.args.body.now c.args.levels.now (grind (arith, common_steps))
