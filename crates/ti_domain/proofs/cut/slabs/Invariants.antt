use Rattle.std.proofs.Common.{◌≡◌, map, take}
use Rattle.ti_rect.specs.Axes.{range}
use Rattle.ti_domain.specs.Slabs.{with_range}
use Rattle.ti_domain.proofs.cut.slabs.Given as goal

abbrev pub invariant-loop-part : goal.invariant-loop-part
invariant-loop-part l = l.pieces.items ≡ map (λ g. with_range l.coordinate (range g) l.rect) (take l.part-index l.part-items)
