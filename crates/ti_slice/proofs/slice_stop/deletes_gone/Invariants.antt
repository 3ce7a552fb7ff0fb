use Rattle.std.proofs.Common.{◌≡◌, ℕ, false, take}
use Rattle.std.specs.List.{list_any}
use Rattle.ti_lang.specs.Meaning.RoundsOf.{deletes}
use Rattle.ti_slice.proofs.slice_stop.deletes_gone.Given as goal

abbrev pub invariant-loop-region : goal.invariant-loop-region
invariant-loop-region l = list_any (λ (r : ℕ). deletes r l.kind l.arg) (take l.region-index l.gone) ≡ false
