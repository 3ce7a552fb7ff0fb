use Rattle.std.proofs.Common.{rules}
use Rattle.std.proofs.lemmas.List.{append-nil}
use Rattle.std.proofs.lemmas.Int.{to_z-of_z}
use Rattle.std.specs.Int.{w32}
use Rattle.ti_base.specs.Rects.{first_range, second_range, third_range}
use Rattle.ti_watch.specs.Texts.{range_text}
use Rattle.ti_watch.proofs.Listed.{two_listed, three_listed}
use Rattle.ti_watch.proofs.line.Line.ranges.Goals as goal

pub returns-then-rect-eq2-clause-text : goal.returns-then-rect-eq2-clause-text
returns-then-rect-eq2-clause-text c =
    let r = c.args.rect.now in
    rw (c.range-2.ensures.text, c.range.ensures.text, append-nil)
    (rw (to_z-of_z w32 r.lo.x1 (search rules), to_z-of_z w32 r.hi.x1 (search rules), to_z-of_z w32 r.lo.x2 (search rules), to_z-of_z w32 r.hi.x2 (search rules))
    (two_listed c.args.self.now r.dim (range_text (first_range r)) (range_text (second_range r)) (range_text (third_range r)) c.if-rect-eq2.true))

pub returns-clause-text : goal.returns-clause-text
returns-clause-text c =
    let r = c.args.rect.now in
    rw (c.range-3.ensures.text, c.range-2.ensures.text, c.range.ensures.text, append-nil)
    (rw (
      to_z-of_z w32 r.lo.x1 (search rules),
      to_z-of_z w32 r.hi.x1 (search rules),
      to_z-of_z w32 r.lo.x2 (search rules),
      to_z-of_z w32 r.hi.x2 (search rules),
      to_z-of_z w32 r.lo.x3 (search rules),
      to_z-of_z w32 r.hi.x3 (search rules),
    )
    (three_listed c.args.self.now r.dim (range_text (first_range r)) (range_text (second_range r)) (range_text (third_range r)) c.if-rect-eq0.false c.if-rect-eq1.false c.if-rect-eq2.false))
