use Rattle.std.proofs.Common.{append_assoc}
use Rattle.ti_watch.specs.Reports.{entry_text}
use Rattle.ti_watch.proofs.line.Line.entry.Goals as goal

pub returns : goal.returns
unfolding entry_text
returns c =
    rw (
      c.text-3.ensures.text,
      c.answer.ensures.text,
      c.text-2.ensures.text,
      c.act.ensures.text,
      c.text.ensures.text,
      c.labelled_number-3.ensures.text,
      c.labelled_number-2.ensures.text,
      c.labelled_number.ensures.text,
      c.number.ensures.text,
    )
    (simp append_assoc)
