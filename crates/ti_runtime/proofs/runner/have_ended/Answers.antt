use Rattle.std.proofs.Common.{rules, tests}
use Rattle.std.proofs.lemmas.Iterator.{YieldsList-from_slice}
use Rattle.std.proofs.lemmas.Iterator.Search.{all_from_yields_List}
use Rattle.ti_pending.specs.declared.pending.PendingProc.{PendingProc}
use Rattle.ti_runtime.proofs.runner.have_ended.Goals as goal

pub returns : goal.returns
returns c = all_from_yields_List (λ (pending : PendingProc). pending.ended) _ _ c.all.result c.all.ensures.ran (YieldsList-from_slice c.args.processes.now cc) (λ x b q k. search (rules, tests))
