use Rattle.std.proofs.Common.{◌≡◌, ◌++◌, [], false, List, map, length}
use Rattle.ti_turnstile.specs.Mirrors.Views.{view}
use Rattle.ti_turnstile.specs.Turnstiles.{identity_of, AreOf, pass_view_of}
use Rattle.ti_turnstile.proofs.turnstile.Turnstile.close.Given as goal

abbrev pub invariant-loop-pass : goal.invariant-loop-pass
invariant-loop-pass g l =
    (l.seat.table_id ≡ identity_of l.self) × AreOf (identity_of l.self) l.passes.items
    × ((done : List _) × (l.fn.passes.items ≡ l.passes.items ++ done) × (l.seat.me ≡ (view false (map pass_view_of done), [])))

abbrev pub decreases-loop-pass : goal.decreases-loop-pass
decreases-loop-pass g l = length l.passes.items
