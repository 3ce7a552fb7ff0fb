use Rattle.std.proofs.Common.{append_assoc}
use Rattle.ti_watch.proofs.line.Line.deposit.Goals as goal

pub returns-in-Count-clause-text : goal.returns-in-Count-clause-text
returns-in-Count-clause-text c = rw (c.in-Count.is, c.labelled_number.ensures.text) (simp append_assoc)
