use Rattle.std.proofs.Common.{arith}
use Rattle.std.proofs.lemmas.Grind.{common_steps}
use Rattle.ti_io.proofs.HeldAt.{held_at-get}
use Rattle.ti_io.proofs.memory.source.left_of.Goals as goal

pub returns-then-offset-held-clause-value : goal.returns-then-offset-held-clause-value
returns-then-offset-held-clause-value c =
    let held = held_at-get c.args.files.now c.in-Some.index c.index-files-index.result (omega arith) in
    grind (arith, common_steps)

pub returns-clause-value : goal.returns-clause-value
returns-clause-value c =
    let held = held_at-get c.args.files.now c.in-Some.index c.index-files-index.result (omega arith) in
    grind (arith, common_steps)
