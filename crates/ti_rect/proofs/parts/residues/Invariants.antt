use Rattle.ti_rect.specs.Axes.{range}
use Rattle.ti_rect.specs.Parts.{IsOffResidues, AreParts}
use Rattle.ti_rect.proofs.parts.residues.Given as goal

abbrev pub invariant-loop-j : goal.invariant-loop-j
invariant-loop-j l = AreParts l.parts.items (IsOffResidues (range l.axis) (range l.cut) l.j)
