use Rattle.std.proofs.Common.{◌≡◌, ◌+◌, length}
use Rattle.std.specs.List.{All, sum_by}
use Rattle.ti_turnstile.specs.Turnstiles.{identity_of, AreNew}
use Rattle.ti_runtime.specs.Mirrors.Tasks.{BelongsTo}
use Rattle.ti_runtime.proofs.threads.assigned.assign_to_workers.Given as goal

abbrev pub invariant-loop-w : goal.invariant-loop-w
invariant-loop-w g l = record {
  groups : All (λ v. All (BelongsTo (identity_of l.turnstile)) v.items) l.groups.items;
  length_is : length l.groups.items ≡ l._w;
  empty : sum_by (λ v. length v.items) l.groups.items ≡ 0;
}

abbrev pub invariant-loop-pass : goal.invariant-loop-pass
invariant-loop-pass g l = record {
  groups : All (λ v. All (BelongsTo (identity_of l.turnstile)) v.items) l.groups.items;
  length_is : length l.groups.items ≡ l.workers;
  passes : AreNew (identity_of l.turnstile) l.passes.items;
  count : sum_by (λ v. length v.items) l.groups.items + length l.passes.items ≡ l.procs;
}

abbrev pub decreases-loop-pass : goal.decreases-loop-pass
decreases-loop-pass g l = length l.passes.items
