use Rattle.std.proofs.Common.{arith}
use Rattle.ti_lang.specs.Program.Views.{statement_of}
use Rattle.ti_infer.specs.Stripped.{plain_stm}
use Rattle.ti_infer.proofs.Turning.{turned}
use Rattle.ti_infer.proofs.PlainBodies.{held_at, block_plain}
use Rattle.ti_infer.proofs.strip.stmts.+strip_statement.Goals as goal

pub strip_statement-returns-in-Block : goal.strip_statement-returns-in-Block
strip_statement-returns-in-Block t c =
    rw (held_at 11 (c.in-Block.body, tt) c.args.node.now c.in-Block.is)
    (block_plain c.args.node.now c.in-Block.body c.strip_statements.new.stmts c.in-Block.is
    (rw c.in-Block.body-is at c.strip_statements.ensures))

pub strip_statements-returns : goal.strip_statements-returns
strip_statements-returns t c =
    turned statement_of plain_stm _ _ c.loop-i.invariant.0.0
    (λ k d lt. c.loop-i.invariant.1 k d (omega (arith, c.len-i-end.ensures)))
