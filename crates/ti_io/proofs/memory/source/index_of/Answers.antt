use Rattle.std.proofs.Common.{arith}
use Rattle.std.proofs.lemmas.List.{at_drop_more}
use Rattle.ti_io.proofs.HeldAt.{held_at-get}
use Rattle.std.proofs.lemmas.Grind.{common_steps}
use Rattle.ti_io.specs.InMemory.{plain_files}
use Rattle.ti_io.specs.Source.{content_of}
use Rattle.ti_io.proofs.memory.source.index_of.Goals as goal

pub returns-then-eq-clause-found : goal.returns-then-eq-clause-found
returns-then-eq-clause-found c =
    let step = at_drop_more (λ fs. content_of (plain_files fs) c.args.name.now) c.args.files.now c.loop-index.index c.index-files-index.result (omega arith) in
    let held = held_at-get c.args.files.now c.loop-index.index c.index-files-index.result (omega arith) in
    grind (arith, common_steps)

pub loop-index-preserved : goal.loop-index-preserved
loop-index-preserved c =
    let step = at_drop_more (λ fs. content_of (plain_files fs) c.args.name.now) c.args.files.now c.loop-index.index c.index-files-index.result (omega arith) in
    grind (arith, common_steps)
