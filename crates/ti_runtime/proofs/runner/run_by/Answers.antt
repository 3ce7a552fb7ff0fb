use Rattle.std.proofs.Common.{◌≡◌, [], IfOk, sym, subst}
use Rattle.ti_lang.specs.Program.Views.{program_of}
use Rattle.ti_lang.specs.Meaning.Processes.{RunConfig}
use Rattle.ti_runtime.specs.Ran.{Ran}
use Rattle.ti_runtime.specs.Mirrors.Processes.{RunPremises}
use Rattle.ti_runtime.proofs.runner.run_by.Goals as goal

pub begin-requires-clause-may : goal.begin-requires-clause-may
begin-requires-clause-may g c = λ _ _.
    let code = c.args.code.now in
    let s : RunConfig = record { program = program_of c.args.checked.now.program.parts; procs = c.args.procs; fuel = c.args.fuel } in
    let may : RunPremises code s = record {
      runs = record { within = c.requires.within; follows = c.requires.follows; fit = c.answers_fit.ensures };
      aligned = c.aligned.ensures.aligned;
      balance = c.rounds_balance.ensures;
    } in
    subst (λ code. RunPremises code g.J.RunConfigOf.config) c.requires.code (subst (RunPremises code) c.requires.terms may)

pub finish-requires-clause-may : goal.finish-requires-clause-may
finish-requires-clause-may g c =
    let code = c.args.code.now in
    let s : RunConfig = record { program = program_of c.args.checked.now.program.parts; procs = c.args.procs; fuel = c.args.fuel } in
    let may : RunPremises code s = record {
      runs = record { within = c.requires.within; follows = c.requires.follows; fit = c.answers_fit.ensures };
      aligned = c.aligned.ensures.aligned;
      balance = c.rounds_balance.ensures;
    } in
    subst (λ code. RunPremises code g.J.RunConfigOf.config) c.requires.code (subst (RunPremises code) c.requires.terms may)

pub returns-in-Ok-begin : goal.returns-in-Ok-begin
returns-in-Ok-begin g c =
    let s : RunConfig = record { program = program_of c.args.checked.now.program.parts; procs = c.args.procs; fuel = c.args.fuel } in
    let workers = c.args.workers in
    let end = c.finish.result in
    let first = λ (one : workers ≡ 1). subst (λ r. IfOk r (λ r. r.store.entries ≡ [])) c.in-Ok-begin.is (c.begin.ensures.alone one) in
    subst (λ code. Ran code s workers end) (sym c.requires.code) (subst (λ s. Ran g.J.CodeOf.code s workers end) (sym c.requires.terms) (c.finish.ensures workers first))
