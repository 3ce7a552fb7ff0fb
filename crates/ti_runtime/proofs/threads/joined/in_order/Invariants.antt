use Rattle.std.proofs.Common.{◌≡◌, ◌+◌, ◌-◌, ◌<◌, ◌≤◌, ℕ, length, get_or}
use Rattle.std.specs.Prelude.{Some, None, vec_len, vec_capacity}
use Rattle.ti_pending.specs.declared.pending.PendingProc.{PendingProc}
use Rattle.ti_runtime.proofs.threads.joined.in_order.Given as goal

abbrev pub invariant-loop-place : goal.invariant-loop-place
invariant-loop-place l = record {
  count : length l.places.items + length l.processes.items ≡ length l.fn.places.items;
  room : vec_len l.places + vec_len l.processes ≤ vec_capacity l.processes;
  same : (i : ℕ) → i < length l.places.items → get_or l.places.items i None ≡ get_or l.fn.places.items i None;
  each : (d : PendingProc) (k : ℕ) → k < length l.processes.items → get_or l.fn.places.items (length l.fn.places.items - 1 - k) None ≡ Some (get_or l.processes.items k d);
}

abbrev pub decreases-loop-place : goal.decreases-loop-place
decreases-loop-place l = length l.places.items
