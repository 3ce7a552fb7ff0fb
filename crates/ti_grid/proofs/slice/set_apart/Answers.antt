use Rattle.std.proofs.Common.{◌≡◌, ◌≤◌, pos, sym, arith}
use Rattle.std.proofs.lemmas.Int.{ints}
use Rattle.ti_grid.proofs.SliceLaws.{no_test, in_dimension, split_along, split_first, split_second, split_third}
use Rattle.ti_grid.proofs.slice.set_apart.Goals as goal
use Rattle.ti_grid.proofs.slice.set_apart.Goals.{then-coordinate-lt1-via-then-coordinate-lt1, then-coordinate-lt1-via-else-coordinate-lt1+then-from-coordinate}

pub returns-then-coordinate-lt1 : goal.returns-then-coordinate-lt1
returns-then-coordinate-lt1 c = λ j. no_test c.args.layout.now.dom c.requires.laid.form c.args.coordinate j (λ h.
    let used = in_dimension c.args.layout.now.dom c.requires.two c.args.coordinate j h in
    elim c.then-coordinate-lt1.branch [
      | then-coordinate-lt1-via-then-coordinate-lt1 w ↦ absurd (omega (arith, ints, used.0, w.if-coordinate-lt1.true))
      | then-coordinate-lt1-via-else-coordinate-lt1+then-from-coordinate w ↦ absurd (omega (arith, ints, used.1, w.from.ensures, w.if-from-coordinate.true))
    ])

pub returns-in-1 : goal.returns-in-1
returns-in-1 c =
    split_along c.args.layout.now (pos 1) c.args.coordinate _ _ _ _ _ _ _ _ _ (omega (arith, ints)) (sym c.first.ensures) (sym c.second.ensures) (sym c.third.ensures)
    (split_first c.args.layout.now c.requires.laid)

pub returns-in-2 : goal.returns-in-2
returns-in-2 c =
    split_along c.args.layout.now (pos 2) c.args.coordinate _ _ _ _ _ _ _ _ _ (omega (arith, ints)) (sym c.second.ensures) (sym c.first.ensures) (sym c.third.ensures)
    (split_second c.args.layout.now c.requires.laid c.requires.two)

pub returns-in_default : goal.returns-in_default
returns-in_default c =
    let d = c.requires.laid.form.0 in
    let three : pos 3 ≡ c.args.coordinate = omega (arith, ints, c.from.ensures) in
    let used : 3 ≤ c.args.layout.now.dom.dim = omega (arith, ints, c.from.ensures) in
    split_along c.args.layout.now (pos 3) c.args.coordinate _ _ _ _ _ _ _ _ _ three (sym c.third.ensures) (sym c.first.ensures) (sym c.second.ensures)
    (split_third c.args.layout.now c.requires.laid used)
