use Rattle.std.proofs.Common.{◌≡◌, ◌+◌, ◌≤◌, length}
use Rattle.std.specs.List.{All}
use Rattle.std.specs.Prelude.{vec_len, vec_capacity}
use Rattle.ti_turnstile.specs.Turnstiles.{identity_of, AreOf}
use Rattle.ti_runtime.specs.Mirrors.Tasks.{BelongsTo}
use Rattle.ti_runtime.specs.Mirrors.Joined.{ArePlaced, IsBack}
use Rattle.ti_runtime.proofs.threads.joined.place_all.Given as goal

abbrev pub invariant-loop-task : goal.invariant-loop-task
invariant-loop-task g l = record {
  tasks : All (BelongsTo (identity_of l.turnstile)) l.tasks.items;
  count : length l.passes.items + length l.tasks.items ≡ length l.fn.tasks.items;
  room : vec_len l.passes + vec_len l.tasks ≤ vec_capacity l.passes;
  turnstile : AreOf (identity_of l.turnstile) l.passes.items;
  places : length l.places.items ≡ g.J.RunConfigOf.config.procs;
  placed : ArePlaced g.J.RunConfigOf.config.procs l.places.items l.passes.items;
  back : IsBack g.J.CodeOf.code g.J.RunConfigOf.config l.places.items l.passes.items;
}

abbrev pub decreases-loop-task : goal.decreases-loop-task
decreases-loop-task g l = length l.tasks.items
