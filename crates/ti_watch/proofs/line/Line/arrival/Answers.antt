use Rattle.std.proofs.Common.{append_assoc}
use Rattle.ti_watch.proofs.line.Line.arrival.Goals as goal

pub returns-clause-text : goal.returns-clause-text
returns-clause-text c =
    rw (c.deposit.ensures.text, c.optional.ensures.text, c.text-2.ensures.text, c.collective_name.ensures.value, c.text.ensures.text) (simp append_assoc)
