use Rattle.ti_turnstile.specs.Turnstiles.{identity_of}
use Rattle.ti_runtime.proofs.Fit.{fit_turn}
use Rattle.ti_runtime.proofs.threads.worker.turn.Goals as goal

pub returns-clause-tasks : goal.returns-clause-tasks
returns-clause-tasks g c =
    fit_turn (identity_of c.args.turnstile.now) c.args.tasks.now.items c.remove-task.new.self.items c.insert.new.self.items c.args.index c.go_on-task.result.0
    c.requires.tasks c.remove-task.ensures.items c.go_on-task.ensures c.in-Ok.ensures.items
