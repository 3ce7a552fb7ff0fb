use Rattle.std.proofs.Common.{◌≡◌, ◌≤◌, length}
use Rattle.std.specs.List.{All}
use Rattle.std.specs.Prelude.{vec_capacity}
use Rattle.ti_turnstile.specs.Turnstiles.{identity_of}
use Rattle.ti_runtime.specs.Mirrors.Tasks.{BelongsTo}
use Rattle.ti_runtime.proofs.threads.worker.run_worker.Given as goal

abbrev pub invariant-loop : goal.invariant-loop
invariant-loop g l = record {
  again : (goal.iterator-loop g).can_next l.iterator';
  finite : (goal.iterator-loop g).is_finite l.iterator';
  tasks : All (BelongsTo (identity_of l.turnstile)) l.tasks.items;
  count : length l.tasks.items ≡ length l.initial.tasks.items;
  near : (l.ended ≤ l.index) × (l.index ≤ length l.tasks.items);
  room : vec_capacity l.initial.tasks ≤ vec_capacity l.tasks;
}
