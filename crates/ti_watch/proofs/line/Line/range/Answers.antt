use Rattle.std.proofs.Common.{rules, append_assoc}
use Rattle.std.proofs.lemmas.Int.{to_z-of_z}
use Rattle.std.specs.Int.{w32}
use Rattle.ti_watch.proofs.line.Line.range.Goals as goal

pub returns-clause-text : goal.returns-clause-text
returns-clause-text c =
    rw (c.labelled_number-3.ensures.text, c.labelled_number-2.ensures.text, c.labelled_number.ensures.text)
    (rw (to_z-of_z w32 c.args.low (search rules), to_z-of_z w32 c.args.high (search rules)) (simp append_assoc))
