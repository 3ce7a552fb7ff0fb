use Rattle.std.proofs.Common.{◌∙◌, false, ap, refl}
use Rattle.ti_machine.specs.ProcView.{is_act}
use Rattle.ti_store.specs.Stores.{config_of}
use Rattle.ti_pending.specs.declared.pending.PendingProc.{PendingProc}
use Rattle.ti_pending.proofs.Lemmas.{code_of, runs_own, seated_own, next_own}
use Rattle.ti_runtime.proofs.Steps.{went, waited, faulted, stays}
use Rattle.ti_runtime.proofs.solo.step.step_in.Goals as goal

pub advance-requires-clause-code : goal.advance-requires-clause-code
advance-requires-clause-code g c = code_of c.args.code.now (config_of c.args.store.now) c.args.store.now.entries c.args.number c.args.pending.now c.requires.seated

pub advance-requires-clause-goes : goal.advance-requires-clause-goes
advance-requires-clause-goes g c = (c.requires.seated.next, c.requires.seated.has_next)

pub act_in-requires-clause-runs : goal.act_in-requires-clause-runs
act_in-requires-clause-runs g c =
    runs_own c.args.code.now (config_of c.args.store.now) c.args.store.now.entries c.args.number c.args.pending.now c.requires.seated (is_act c.in-Ok.next) c.advance.new.self c.in-Ok.ensures.asks c.requires.open.may.runs

pub act_in-requires-clause-seated : goal.act_in-requires-clause-seated
act_in-requires-clause-seated g c =
    seated_own c.args.code.now (config_of c.args.store.now) c.args.store.now.entries c.args.number c.args.pending.now c.requires.seated (is_act c.in-Ok.next) c.advance.new.self c.in-Ok.ensures.asks

pub act_in-requires-clause-unended : goal.act_in-requires-clause-unended
act_in-requires-clause-unended g c =
    ap (λ (x : PendingProc). x.ended) c.in-Ok.ensures.asks ∙ c.if-pending.false

pub act_in-requires-clause-next : goal.act_in-requires-clause-next
act_in-requires-clause-next g c =
    next_own c.args.code.now (config_of c.args.store.now) c.args.store.now.entries c.args.number c.args.pending.now c.requires.seated (is_act c.in-Ok.next) c.advance.new.self c.in-Ok.ensures.asks c.in-Ok.next c.in-Ok.ensures.next

pub act_in-requires-clause-asks : goal.act_in-requires-clause-asks
act_in-requires-clause-asks g c = λ e. ap (λ (x : PendingProc). x.process.asks) c.in-Ok.ensures.asks ∙ e

pub returns-in_default-clause-leaves : goal.returns-in_default-clause-leaves
returns-in_default-clause-leaves g c =
    stays c.args.code.now c.args.store.now c.args.number c.args.pending.now c.requires.seated c.if-pending.false false c.advance.new.self c.in_default.ensures.memory
    c.args.store.now.entries c.advance.new.self refl refl

pub returns-in-Ok-act_in-clause-leaves : goal.returns-in-Ok-act_in-clause-leaves
returns-in-Ok-act_in-clause-leaves g c =
    went c.args.code.now c.args.store.now c.args.number c.args.pending.now c.requires.seated c.if-pending.false (is_act c.in-Ok.next) c.advance.new.self c.in-Ok.ensures.asks
    c.in-Ok.next c.act_in.new.store.entries c.act_in.new.self c.in-Ok-act_in.ensures.went c.turn_of.result c.turn_of.ensures

pub returns-in-Err-NotYet-clause-leaves : goal.returns-in-Err-NotYet-clause-leaves
returns-in-Err-NotYet-clause-leaves g c =
    waited c.args.code.now c.args.store.now c.args.number c.args.pending.now c.requires.seated c.if-pending.false (is_act c.in-Ok.next) c.advance.new.self c.in-Ok.ensures.asks
    c.act_in.new.store.entries c.act_in.new.self c.in-Err-NotYet.ensures.same (rw c.in-Err-NotYet.field-0-is at c.in-Err-NotYet.ensures.refused)

pub returns-in-Err-Faulted-clause-leaves : goal.returns-in-Err-Faulted-clause-leaves
returns-in-Err-Faulted-clause-leaves g c =
    faulted c.args.code.now c.args.store.now c.args.number c.args.pending.now c.requires.seated c.if-pending.false (is_act c.in-Ok.next) c.advance.new.self c.in-Ok.ensures.asks
    c.act_in.new.store.entries c.act_in.new.self c.in-Err-Faulted.ensures.same c.in-Err-Faulted.field-0-0 (rw c.in-Err-Faulted.field-0-is at c.in-Err-Faulted.ensures.refused)

pub returns-in-Err-Halted-clause-leaves : goal.returns-in-Err-Halted-clause-leaves
returns-in-Err-Halted-clause-leaves g c =
    let r = rw c.in-Err-Halted.field-0-is at c.in-Err-Halted.ensures.refused in
    stays c.args.code.now c.args.store.now c.args.number c.args.pending.now c.requires.seated c.if-pending.false (is_act c.in-Ok.next) c.advance.new.self c.in-Ok.ensures.asks
    c.act_in.new.store.entries c.act_in.new.self c.in-Err-Halted.ensures.same r.0

pub returns-in-Err-Memory-clause-leaves : goal.returns-in-Err-Memory-clause-leaves
returns-in-Err-Memory-clause-leaves g c =
    stays c.args.code.now c.args.store.now c.args.number c.args.pending.now c.requires.seated c.if-pending.false (is_act c.in-Ok.next) c.advance.new.self c.in-Ok.ensures.asks
    c.act_in.new.store.entries c.act_in.new.self c.in-Err-Memory.ensures.same (rw c.in-Err-Memory.field-0-is at c.in-Err-Memory.ensures.refused)
