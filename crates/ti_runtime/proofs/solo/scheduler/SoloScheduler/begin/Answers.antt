use Rattle.std.proofs.Common.{◌∙◌, ◌+◌, [], ◌∷◌, length, sym, ap, subst, arith, length-append}
use Rattle.ti_lang.specs.Meaning.Processes.{RunConfig}
use Rattle.ti_pending.specs.UpToDate.{IsUpToDate, AllUpToDate}
use Rattle.ti_pending.proofs.Lemmas.{begins_on, begins_seated, seated_more}
use Rattle.ti_runtime.proofs.Endings.{begins}
use Rattle.ti_runtime.proofs.solo.scheduler.SoloScheduler.begin.Goals as goal

pub take-requires-clause-goes : goal.take-requires-clause-goes
take-requires-clause-goes c =
    begins_on c.args.code.now (record { program = c.requires.follows.0; procs = c.args.procs; fuel = c.args.fuel }) c.requires.follows.1 c.requires.within c.loop-number.number (omega arith)

pub loop-number-preserved : goal.loop-number-preserved
loop-number-preserved c =
    let code = c.args.code.now in
    let processes = c.loop-number.processes.items in
    let pending = c.in_ok-pending.pending in
    record {
      count = ap length c.in_ok-push.ensures.items ∙ length-append processes (pending ∷ []) ∙ ap (λ n. n + 1) c.loop-number.invariant.count;
      seated = λ program follows.
          let s : RunConfig = record { program = program; procs = c.args.procs; fuel = c.args.fuel } in
          let one = begins_seated code s follows c.requires.within c.loop-number.number (omega arith) pending c.in_ok-pending.ensures in
          subst (AllUpToDate code s []) (sym c.in_ok-push.ensures.items)
          (seated_more code s processes pending (subst (λ n. IsUpToDate code s [] n pending) (sym c.loop-number.invariant.count) one) (c.loop-number.invariant.seated program follows));
    }

pub returns : goal.returns
returns c = λ program follows.
    begins c.args.code.now (record { program = program; procs = c.args.procs; fuel = c.args.fuel }) c.loop-number.processes.items
    (omega (arith, c.loop-number.invariant.count)) (c.loop-number.invariant.seated program follows)
