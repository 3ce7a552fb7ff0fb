use Rattle.std.proofs.Common.{◌≡◌, ◌∙◌, sym, ap, subst, Result, Ok, Err}
use Rattle.std.proofs.lemmas.Result.{err_from_is_err_and}
use Rattle.ti_lang.specs.Meaning.Histories.{has_fault}
use Rattle.ti_lang.specs.Meaning.Processes.{RunConfig}
use Rattle.ti_lang.specs.Program.Views.{program_of}
use Rattle.ti_trace_check.specs.declared.error.TraceErr.{TraceErr}
use Rattle.ti_trace_check.specs.declared.error.TraceErr.TheVariants.{Read}
use Rattle.ti_trace_check.specs.declared.replay.ReplayEnd.{ReplayEnd}
use Rattle.ti_trace_check.specs.declared.verdict.Verdict.{Verdict}
use Rattle.ti_trace_check.specs.Mirrors.Replaying.{ReplayOutcome, LeavesText, Gives}
use Rattle.ti_trace_check.proofs.Completing.{opens, stands_first, all_have, complete, not_complete, keeps, judges}
use Rattle.ti_trace_check.proofs.checking.check_by.Goals as goal

pub start_processes-requires-clause-follows : goal.start_processes-requires-clause-follows
start_processes-requires-clause-follows g c = (program_of c.args.checked.now.program.parts, c.in_ok-code.ensures.follows)

pub replay_lines-requires-clause-open : goal.replay_lines-requires-clause-open
replay_lines-requires-clause-open g c =
    let s : RunConfig = record { program = program_of c.args.checked.now.program.parts; procs = c.args.procs; fuel = c.args.fuel } in
    opens c.in_ok-code.code c.in_ok-store.store s c.in_ok-store.ensures.setting c.in_ok-store.ensures.halted c.requires.within c.in_ok-code.ensures.follows c.answers_fit.ensures

pub replay_lines-requires-clause-stands : goal.replay_lines-requires-clause-stands
replay_lines-requires-clause-stands g c =
    let program = program_of c.args.checked.now.program.parts in
    let s : RunConfig = record { program = program; procs = c.args.procs; fuel = c.args.fuel } in
    stands_first c.in_ok-code.code s _ _ c.in_ok-processes.processes.items c.in_ok-store.ensures.setting c.in_ok-store.ensures.entries (c.in_ok-processes.ensures program c.in_ok-code.ensures.follows)

pub returns-in_err-end-clause-read : goal.returns-in_err-end-clause-read
returns-in_err-end-clause-read g c =
    let p = err_from_is_err_and c.from_residual-in_err-end.result c.from_residual-in_err-end.ensures.1 in
    rw p.1 (rw p.2 c.in_err-end.ensures.read)

pub returns-in_err-end-clause-failed : goal.returns-in_err-end-clause-failed
returns-in_err-end-clause-failed g c = λ more.
    let p = err_from_is_err_and c.from_residual-in_err-end.result c.from_residual-in_err-end.ensures.1 in
    rw p.1 (rw p.2 (same_err c.in_err-end.field-0.0 (c.in_err-end.ensures.failed more)))
  where
    same_err : (e : TraceErr) → ◌≡◌ {A = Result ReplayEnd TraceErr} (Err e) (Err Read) → ◌≡◌ {A = Result Verdict TraceErr} (Err e) (Err Read)
    same_err e h = let is : e ≡ Read = cc in ap (λ (x : TraceErr). Err x) is

pub returns-clause-keeps : goal.returns-clause-keeps
returns-clause-keeps g c =
    let s : RunConfig = record { program = program_of c.args.checked.now.program.parts; procs = c.args.procs; fuel = c.args.fuel } in
    let code = c.in_ok-code.code in
    let all = c.replay_lines.new.store.entries in
    let processes = c.replay_lines.new.processes.items in
    let end = c.in_ok-end.end in
    let came = subst (λ x. ReplayOutcome code x all processes end) c.in_ok-store.ensures.setting c.in_ok-end.ensures.came in
    let ended : c.have_ended.result ≡ all_have processes = c.have_ended.ensures ∙ ap all_have c.deref.ensures.value in
    let fault : c.has_fault.result ≡ has_fault all = c.has_fault.ensures ∙ ap has_fault c.history.ensures.entries in
    keeps code s all processes end came c.one_of_two-is_complete.result
    (λ e h. complete code s all processes (came.whole e).1 c.have_ended.result c.has_fault.result ended fault (sym c.one_of_two-is_complete.ensures ∙ h))
    (λ e h. not_complete code s all processes (came.whole e).1 c.have_ended.result c.has_fault.result ended fault (sym c.one_of_two-is_complete.ensures ∙ h))
    c.verdict_of.result (subst (λ xs. Gives end c.one_of_two-is_complete.result xs c.verdict_of.result) c.into_history.ensures.entries c.verdict_of.ensures)

pub returns-clause-judges : goal.returns-clause-judges
returns-clause-judges g c = λ tells.
    let s : RunConfig = record { program = program_of c.args.checked.now.program.parts; procs = c.args.procs; fuel = c.args.fuel } in
    let code = c.in_ok-code.code in
    let all = c.replay_lines.new.store.entries in
    let processes = c.replay_lines.new.processes.items in
    let end = c.in_ok-end.end in
    let came = subst (λ x. ReplayOutcome code x all processes end) c.in_ok-store.ensures.setting c.in_ok-end.ensures.came in
    let leaves = subst (λ x. LeavesText x (g.S.Source.state c.args.source.now).left all end) c.in_ok-store.ensures.setting (c.in_ok-end.ensures.leaves tells) in
    let ended : c.have_ended.result ≡ all_have processes = c.have_ended.ensures ∙ ap all_have c.deref.ensures.value in
    let fault : c.has_fault.result ≡ has_fault all = c.has_fault.ensures ∙ ap has_fault c.history.ensures.entries in
    judges code s all processes end came c.one_of_two-is_complete.result
    (λ e h. complete code s all processes (came.whole e).1 c.have_ended.result c.has_fault.result ended fault (sym c.one_of_two-is_complete.ensures ∙ h))
    (λ e h. not_complete code s all processes (came.whole e).1 c.have_ended.result c.has_fault.result ended fault (sym c.one_of_two-is_complete.ensures ∙ h))
    (g.S.Source.state c.args.source.now).left leaves c.verdict_of.result
    (subst (λ xs. Gives end c.one_of_two-is_complete.result xs c.verdict_of.result) c.into_history.ensures.entries c.verdict_of.ensures)
