use Rattle.ti_turnstile.specs.Turnstiles.{identity_of}
use Rattle.ti_runtime.specs.Mirrors.Tasks.{BelongsTo}
use Rattle.ti_runtime.proofs.threads.worker.go_on.Given as goal

abbrev pub invariant-loop : goal.invariant-loop
invariant-loop g l = (goal.iterator-loop g).can_next l.iterator' × (goal.iterator-loop g).is_finite l.iterator' × BelongsTo (identity_of l.turnstile) l.task
