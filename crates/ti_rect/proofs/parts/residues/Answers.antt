use Rattle.std.proofs.Common.{◌≡◌, ℕ, zero, suc, ◌*◌, ◌<◌, ap, subst, ◌∙◌, arith}
use Rattle.std.proofs.lemmas.Int.{ints}
use Rattle.std.proofs.lemmas.Nat.{mul-le}
use Rattle.ti_rect.specs.Axes.{range}
use Rattle.ti_rect.specs.Parts.{IsOffResidues, AreParts, with_part}
use Rattle.ti_rect.proofs.PartLaws.{sides, residues_more, residues_end}
use Rattle.ti_rect.proofs.parts.residues.Goals as goal

pub loop-j-init : goal.loop-j-init
loop-j-init c =
    sides (range c.args.axis) (range c.args.cut) c.requires.first c.requires.second c.requires.inside c.in_ok-below.below.items c.in_ok-parts.parts.items c.range_below.result c.range_above.result
    (c.in_ok-below.ensures ∙ ap (λ l. with_part l c.range_below.result) c.new.ensures.items) c.range_below.ensures.form c.range_below.ensures.same
    c.in_ok-parts.ensures c.range_above.ensures.form c.range_above.ensures.same

pub residue-requires-clause-room : goal.residue-requires-clause-room
residue-requires-clause-room c =
    let m = mul-le c.loop-j.j c.args.axis.step c.args.ratio c.args.axis.step (omega arith) (omega arith) in
    let e = c.requires.ratio in
    let r = c.requires.room in
    omega (arith, ints)

pub loop-j-preserved : goal.loop-j-preserved
loop-j-preserved c =
    residues_more (range c.args.axis) (range c.args.cut) c.requires.first c.requires.second c.requires.inside c.args.ratio c.requires.ratio c.loop-j.parts.items c.in_ok-parts-2.parts.items
    c.residue.result c.loop-j.j (omega arith) (omega arith) c.loop-j.invariant c.in_ok-parts-2.ensures c.residue.ensures.form c.residue.ensures.same

some_ratio : (step ratio other : ℕ) → 0 < step → step ≡ ratio * other → 0 < ratio
some_ratio step zero other h e = absurd (omega arith)
some_ratio step (suc n) other h e = omega arith

pub returns : goal.returns
returns c =
    let positive = some_ratio c.args.cut.step c.args.ratio c.args.axis.step c.requires.second.forward c.requires.ratio in
    let last : c.loop-j.j ≡ c.args.ratio = omega arith in
    residues_end (range c.args.axis) (range c.args.cut) c.requires.first c.requires.second c.requires.inside c.args.ratio c.requires.ratio c.loop-j.parts.items positive
    (subst (λ j. AreParts c.loop-j.parts.items (IsOffResidues (range c.args.axis) (range c.args.cut) j)) last c.loop-j.invariant)
