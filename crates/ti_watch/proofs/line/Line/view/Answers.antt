use Rattle.std.proofs.Common.{rules, append_assoc}
use Rattle.std.proofs.lemmas.Int.{to_z-of_z}
use Rattle.std.specs.Int.{w32}
use Rattle.ti_watch.proofs.line.Line.view.Goals as goal

pub returns-in-Slice-clause-text : goal.returns-in-Slice-clause-text
returns-in-Slice-clause-text c =
    rw (c.in-Slice.is, c.labelled_number-in-Slice.ensures.text, c.labelled_number.ensures.text)
    (rw (to_z-of_z w32 c.in-Slice.k (search rules), to_z-of_z w32 c.in-Slice.j (search rules)) (simp append_assoc))

pub returns-in-Restrict-clause-text : goal.returns-in-Restrict-clause-text
returns-in-Restrict-clause-text c = rw (c.in-Restrict.is, c.domain.ensures.text, c.text.ensures.text) (simp append_assoc)

pub returns-in-Translate-clause-text : goal.returns-in-Translate-clause-text
returns-in-Translate-clause-text c = rw (c.in-Translate.is, c.point.ensures.text, c.text-in-Translate.ensures.text) (simp append_assoc)
