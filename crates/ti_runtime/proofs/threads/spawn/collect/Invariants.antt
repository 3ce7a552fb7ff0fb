use Rattle.std.proofs.Common.{◌≡◌, ◌+◌, ◌≤◌, length}
use Rattle.std.specs.List.{All, sum_by}
use Rattle.std.specs.Prelude.{vec_len, vec_capacity}
use Rattle.ti_turnstile.specs.Turnstiles.{identity_of}
use Rattle.ti_runtime.specs.Mirrors.Tasks.{BelongsTo}
use Rattle.ti_runtime.proofs.threads.spawn.collect.Given as goal

abbrev pub invariant-loop-handle : goal.invariant-loop-handle
invariant-loop-handle g l = record {
  all : All (BelongsTo (identity_of l.turnstile)) l.all.items;
  handles : All (λ h. identity_of h.promise.turnstile.now ≡ identity_of l.turnstile) l.handles.items;
  count : length l.all.items + sum_by (λ h. h.promise.count) l.handles.items ≡ length l.fn.all.items + sum_by (λ h. h.promise.count) l.fn.handles.items;
  room : vec_len l.all + sum_by (λ h. h.promise.count) l.handles.items ≤ vec_capacity l.all;
}

abbrev pub decreases-loop-handle : goal.decreases-loop-handle
decreases-loop-handle g l = length l.handles.items
