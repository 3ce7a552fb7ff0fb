use Rattle.std.proofs.Common.{◌<◌, sym, subst}
use Rattle.ti_lang.specs.Meaning.Histories.{entries_of}
use Rattle.ti_lang.specs.Meaning.Processes.{RunConfig}
use Rattle.ti_store.specs.Conditions.{HasNextAfter}
use Rattle.ti_store.specs.Stores.{next_of}
use Rattle.ti_pending.specs.Acting.{next_place, next_action}
use Rattle.ti_runtime.proofs.Tasks.{grown_acted}
use Rattle.ti_runtime.proofs.threads.task.act.Goals as goal

pub act-requires-clause-process : goal.act-requires-clause-process
act-requires-clause-process g c = subst (λ (s : RunConfig). c.args.number < s.procs) (sym c.has_its_config.ensures) c.requires.number

pub act-requires-clause-next : goal.act-requires-clause-next
act-requires-clause-next g c =
    let n = c.args.next in
    rw c.as_action-action.ensures (subst (λ (s : RunConfig). HasNextAfter s c.args.number (entries_of c.args.number c.args.store.now.entries)
    (next_of (next_place n) (next_action n))) (sym c.has_its_config.ensures) c.requires.next)

pub returns-clause-grown : goal.returns-clause-grown
returns-clause-grown g c =
    let n = c.args.next in
    grown_acted c.args.store.now c.act.new.self c.args.number (next_place n) (next_action n) c.act.result
    (rw c.as_action-action.ensures at c.act.ensures.ok) (rw c.as_action-action.ensures at c.act.ensures.err)
