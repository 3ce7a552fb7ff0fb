use Rattle.std.proofs.Common.{◌∙◌, ap}
use Rattle.ti_machine.specs.ProcView.{is_act}
use Rattle.ti_store.specs.Stores.{config_of}
use Rattle.ti_store.specs.declared.act_err.ActErr.TheVariants as err
use Rattle.ti_pending.specs.declared.pending.PendingProc.{PendingProc}
use Rattle.ti_pending.proofs.Lemmas.{code_of, runs_own, seated_own, next_own, went_from, refused_from}
use Rattle.ti_trace_check.proofs.Steps.{went, faulted, waits, stopped}
use Rattle.ti_trace_check.proofs.replay.step_in.Goals as goal

pub advance-requires-clause-code : goal.advance-requires-clause-code
advance-requires-clause-code g c = code_of c.args.code.now (config_of c.args.store.now) c.args.store.now.entries c.args.number c.args.pending.now c.requires.seated

pub advance-requires-clause-goes : goal.advance-requires-clause-goes
advance-requires-clause-goes g c = (c.requires.seated.next, c.requires.seated.has_next)

pub act_in-requires-clause-runs : goal.act_in-requires-clause-runs
act_in-requires-clause-runs g c =
    runs_own c.args.code.now (config_of c.args.store.now) c.args.store.now.entries c.args.number c.args.pending.now c.requires.seated (is_act c.in_ok-next.next)
    c.advance.new.self c.in_ok-next.ensures.asks c.requires.open.runs

pub act_in-requires-clause-seated : goal.act_in-requires-clause-seated
act_in-requires-clause-seated g c =
    seated_own c.args.code.now (config_of c.args.store.now) c.args.store.now.entries c.args.number c.args.pending.now c.requires.seated (is_act c.in_ok-next.next)
    c.advance.new.self c.in_ok-next.ensures.asks

pub act_in-requires-clause-unended : goal.act_in-requires-clause-unended
act_in-requires-clause-unended g c = ap (λ (x : PendingProc). x.ended) c.in_ok-next.ensures.asks ∙ c.if-pending.false

pub act_in-requires-clause-next : goal.act_in-requires-clause-next
act_in-requires-clause-next g c =
    next_own c.args.code.now (config_of c.args.store.now) c.args.store.now.entries c.args.number c.args.pending.now c.requires.seated (is_act c.in_ok-next.next)
    c.advance.new.self c.in_ok-next.ensures.asks c.in_ok-next.next c.in_ok-next.ensures.next

pub act_in-requires-clause-asks : goal.act_in-requires-clause-asks
act_in-requires-clause-asks g c = λ e. ap (λ (x : PendingProc). x.process.asks) c.in_ok-next.ensures.asks ∙ e

pub returns-in-Ok-clause-leaves : goal.returns-in-Ok-clause-leaves
returns-in-Ok-clause-leaves g c =
    let s = config_of c.args.store.now in
    let es = c.args.store.now.entries in
    went c.args.code.now s es c.args.number c.args.pending.now c.act_in.new.store.entries c.act_in.new.self
    (went_from c.args.code.now s es c.args.number c.args.pending.now c.requires.seated (is_act c.in_ok-next.next) c.advance.new.self c.in_ok-next.ensures.asks
    c.act_in.new.store.entries c.act_in.new.self c.in-Ok.ensures.went.0)

pub returns-in-Err-Faulted-clause-leaves : goal.returns-in-Err-Faulted-clause-leaves
returns-in-Err-Faulted-clause-leaves g c =
    let s = config_of c.args.store.now in
    let all = c.act_in.new.store.entries in
    let kind = c.in-Err-Faulted.field-0-0 in
    faulted c.args.code.now c.args.store.now c.args.number c.args.pending.now c.advance.new.self c.act_in.new.self (is_act c.in_ok-next.next) c.in_ok-next.ensures.asks
    c.in-Err-Faulted.ensures.same all kind
    (refused_from c.args.code.now s c.args.store.now.entries c.args.number c.args.pending.now c.requires.seated (is_act c.in_ok-next.next) c.advance.new.self c.in_ok-next.ensures.asks
    c.args.store.now all (err.Faulted kind) (rw c.in-Err-Faulted.field-0-is at c.in-Err-Faulted.ensures.refused))

pub returns-in-Err-NotYet-clause-leaves : goal.returns-in-Err-NotYet-clause-leaves
returns-in-Err-NotYet-clause-leaves g c =
    waits c.args.code.now c.args.store.now c.args.number c.args.pending.now c.advance.new.self c.act_in.new.self (is_act c.in_ok-next.next) c.in_ok-next.ensures.asks
    c.in-Err-NotYet.ensures.same c.act_in.new.store.entries (rw c.in-Err-NotYet.field-0-is at c.in-Err-NotYet.ensures.refused)

pub returns-in-Err-Halted-clause-leaves : goal.returns-in-Err-Halted-clause-leaves
returns-in-Err-Halted-clause-leaves g c =
    stopped c.args.code.now c.args.store.now c.args.number c.args.pending.now c.advance.new.self c.act_in.new.self (is_act c.in_ok-next.next) c.in_ok-next.ensures.asks
    c.in-Err-Halted.ensures.same c.act_in.new.store.entries c.requires.open.unhalted (rw c.in-Err-Halted.field-0-is at c.in-Err-Halted.ensures.refused)
