use Rattle.ti_store.specs.Stores.{config_of}
use Rattle.ti_pending.proofs.Acted.{acting, went, refused}
use Rattle.ti_pending.proofs.pending.PendingProc.act_in.Goals as goal

pub act-requires-clause-next : goal.act-requires-clause-next
act-requires-clause-next g c =
    rw c.as_action-action.ensures
    (acting c.args.self.now.process.code (config_of c.args.store.now) c.args.store.now.entries c.args.number c.args.self.now c.requires.seated c.next_is_unique.ensures c.args.next
    c.requires.next c.requires.unended)

pub returns-in-Ok-clause-went : goal.returns-in-Ok-clause-went
returns-in-Ok-clause-went g c =
    went c.args.self.now.process.code c.args.store.now c.requires.runs c.requires.run c.args.number c.requires.number c.args.self.now c.requires.seated c.requires.unended
    c.next_is_unique.ensures c.args.next c.requires.next c.in-Ok.answer c.act.new.self (rw c.as_action-action.ensures at c.in-Ok.ensures.ok) c.resume_with.new.self c.resume_with.ensures

pub returns-in-Err-clause-refused : goal.returns-in-Err-clause-refused
returns-in-Err-clause-refused g c =
    refused c.args.self.now.process.code c.args.store.now c.requires.runs c.requires.run c.args.number c.requires.number c.args.self.now c.requires.seated c.requires.unended
    c.next_is_unique.ensures c.args.next c.requires.next c.in-Err.why c.act.new.self (rw c.as_action-action.ensures at c.in-Err.ensures.err)
