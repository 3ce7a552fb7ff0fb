use Rattle.std.proofs.Common.{◌≡◌, ◌-◌, length, [], false}
use Rattle.ti_turnstile.specs.Mirrors.Views.{view, new_passes}
use Rattle.ti_turnstile.specs.Turnstiles.{identity_of, AreNew}
use Rattle.ti_turnstile.proofs.turnstile.Turnstile.split_passes.Given as goal

abbrev pub invariant-loop-i : goal.invariant-loop-i
invariant-loop-i g l =
    (l.dealer.table_id ≡ identity_of l.self) × (l.dealer.me ≡ (view false (new_passes l._i (l.count - l._i)), [])) × (length l.passes.items ≡ l._i) × AreNew (identity_of l.self) l.passes.items
