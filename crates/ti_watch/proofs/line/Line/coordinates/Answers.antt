use Rattle.std.proofs.Common.{rules}
use Rattle.std.proofs.lemmas.Int.{to_z-of_z}
use Rattle.std.specs.Fmt.{signed_decimal}
use Rattle.std.specs.Int.{w32}
use Rattle.ti_watch.proofs.Listed.{one_listed, two_listed, three_listed}
use Rattle.ti_watch.proofs.line.Line.coordinates.Goals as goal

pub returns-then-point-eq1-clause-text : goal.returns-then-point-eq1-clause-text
returns-then-point-eq1-clause-text c =
    let p = c.args.point.now in
    rw c.number.ensures.text
    (rw (to_z-of_z w32 p.x1 (search rules))
    (one_listed c.args.self.now p.dim (signed_decimal p.x1) (signed_decimal p.x2) (signed_decimal p.x3) c.if-point-eq1.true))

pub returns-then-point-eq2-clause-text : goal.returns-then-point-eq2-clause-text
returns-then-point-eq2-clause-text c =
    let p = c.args.point.now in
    rw (c.labelled_number.ensures.text, c.number.ensures.text)
    (rw (to_z-of_z w32 p.x1 (search rules), to_z-of_z w32 p.x2 (search rules))
    (two_listed c.args.self.now p.dim (signed_decimal p.x1) (signed_decimal p.x2) (signed_decimal p.x3) c.if-point-eq2.true))

pub returns-clause-text : goal.returns-clause-text
returns-clause-text c =
    let p = c.args.point.now in
    rw (c.labelled_number-2.ensures.text, c.labelled_number.ensures.text, c.number.ensures.text)
    (rw (to_z-of_z w32 p.x1 (search rules), to_z-of_z w32 p.x2 (search rules), to_z-of_z w32 p.x3 (search rules))
    (three_listed c.args.self.now p.dim (signed_decimal p.x1) (signed_decimal p.x2) (signed_decimal p.x3) c.if-point-eq0.false c.if-point-eq1.false c.if-point-eq2.false))
