use Rattle.std.proofs.Common.{◌^◌, ◌<◌, arith, sym}
use Rattle.ti_lang.specs.Meaning.Processes.{RunConfig}
use Rattle.ti_lang.specs.Program.Views.{program_of}
use Rattle.ti_top.specs.Run.{run_of}
use Rattle.ti_top.proofs.TraceJudged.{Laws, judged}
use Rattle.ti_top.proofs.verifying.verify_found.Goals as goal

pub returns : goal.returns
returns g c =
    let job = c.args.job.now in
    let s : RunConfig = run_of (program_of c.args.checked.now.program.parts) job in
    let within = c.requires.within in
    let few : s.procs < 2 ^ 64 = omega (arith, within.few) in
    let one = c.one_verdict.ensures in
    let laws : Laws s = record {
      listed = λ es run. sym (c.races_are_told.ensures s es run (λ ds other. c.actions_formed.ensures job.procs job.fuel ds within.some within.few within.fueled within.limited other));
      alone = record {
        one_run = λ text es ds a b. one.one_run s text es ds few a b;
        not_both = λ text line es ds a b. one.not_both s text line es ds few a b;
        one_line = λ text j k es ds a b. one.one_line s text j k es ds few a b;
      };
    } in
    judged s job.against _ _ c.in_ok-verdict.verdict (record { never_falls = c.in_ok-verdict.ensures.never_falls; same = c.in_ok-verdict.ensures.same }) c.requires.found laws
    c.in_ok-verdict.ensures.keeps c.in_ok-verdict.ensures.judges (λ rose. let e = c.in_ok-verdict.ensures.failed rose in cc)
