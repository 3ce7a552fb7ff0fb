use Rattle.std.proofs.Common.{sym, subst, slice_set}
use Rattle.ti_align.specs.Stopping.{RoundsBalance}
use Rattle.ti_store.specs.Stores.{config_of}
use Rattle.ti_runtime.specs.Mirrors.Processes.{SoloProgresses}
use Rattle.ti_runtime.proofs.Turns.{law_of, turned, stopped}
use Rattle.ti_runtime.proofs.solo.scheduler.SoloScheduler.step.Goals as goal

pub returns-in-Ok-clause-leaves : goal.returns-in-Ok-clause-leaves
returns-in-Ok-clause-leaves g c =
    let code = c.args.code.now in
    let store = c.args.store.now in
    let scheduler = c.args.self.now in
    let balance = law_of RoundsBalance (config_of store) store.entries c.requires.open.may.balance c.requires.open.may.runs.within c.requires.stands.run in
    let on = turned code (config_of store) store.entries scheduler.processes.items scheduler.cursor c.requires.stands c.requires.some_left c.index_mut.result.now c.index_mut.ensures.value balance
    c.step_in.new.store.entries c.step_in.new.pending c.in-Ok.turn c.in-Ok.ensures.leaves in
    subst (SoloProgresses code (config_of store) store.entries scheduler.processes.items scheduler.cursor c.step_in.new.store.entries
    (slice_set scheduler.processes.items scheduler.cursor.next_proc c.step_in.new.pending)) (sym c.next_after-self.ensures) on

pub returns-in-Err-clause-leaves : goal.returns-in-Err-clause-leaves
returns-in-Err-clause-leaves g c =
    let store = c.args.store.now in
    let scheduler = c.args.self.now in
    stopped c.args.code.now (config_of store) store.entries scheduler.processes.items scheduler.cursor c.requires.stands c.requires.some_left c.index_mut.result.now c.index_mut.ensures.value
    c.step_in.new.store.entries c.step_in.new.pending c.in-Err.stop c.in-Err.ensures.leaves.0 c.in-Err.ensures.leaves.1
