use Rattle.std.proofs.Common.{arith}
use Rattle.std.proofs.lemmas.Int.{ints}
use Rattle.std.proofs.lemmas.Nat.{mul-le}
use Rattle.ti_rect.specs.Axes.{range}
use Rattle.ti_rect.proofs.PartLaws.{ratio_is}
use Rattle.ti_rect.proofs.parts.complement.Goals as goal

pub residues-requires-clause-ratio : goal.residues-requires-clause-ratio
residues-requires-clause-ratio c =
    let m = mul-le 1 c.args.cut.step c.step_count-steps.result c.args.cut.step (omega arith) (omega arith) in
    let e = c.step_count-steps.ensures.number in
    ratio_is (range c.args.axis) (range c.args.cut) c.requires.first c.requires.second c.requires.inside (omega (arith, ints))

pub residues-requires-clause-room : goal.residues-requires-clause-room
residues-requires-clause-room c =
    let m = mul-le 1 c.args.cut.step c.step_count-steps.result c.args.cut.step (omega arith) (omega arith) in
    let e = c.step_count-steps.ensures.number in
    omega (arith, ints)
