use Rattle.std.proofs.Common.{◌≡◌, ◌+◌, ◌≤◌, length}
use Rattle.std.specs.List.{All, sum_by}
use Rattle.std.specs.Prelude.{vec_capacity}
use Rattle.ti_turnstile.specs.Turnstiles.{identity_of}
use Rattle.ti_runtime.specs.Mirrors.Tasks.{BelongsTo}
use Rattle.ti_runtime.proofs.threads.scope.in_scope.Given as goal

abbrev pub invariant-loop-group : goal.invariant-loop-group
invariant-loop-group g l = record {
  mine : All (BelongsTo (identity_of l.turnstile)) l.mine.items;
  groups : All (λ v. All (BelongsTo (identity_of l.turnstile)) v.items) l.groups.items;
  flags : length l.groups.items ≤ length l.flags;
  handles : All (λ h. identity_of h.promise.turnstile.now ≡ identity_of l.turnstile) l.handles.items;
  count : length l.mine.items + sum_by (λ h. h.promise.count) l.handles.items + sum_by (λ v. length v.items) l.groups.items ≡ l.procs;
  room : l.procs ≤ vec_capacity l.mine;
  place : length l.handles.items + length l.groups.items ≤ vec_capacity l.handles;
}

abbrev pub decreases-loop-group : goal.decreases-loop-group
decreases-loop-group g l = length l.groups.items
