use Rattle.std.proofs.Common.{append_assoc}
use Rattle.ti_watch.specs.Reports.{entry_text}
use Rattle.ti_trace_check.proofs.line.entry_line.Goals as goal

pub returns-clause-text : goal.returns-clause-text
unfolding entry_text
returns-clause-text c =
    rw (
      c.text-3.ensures.text,
      c.answer.ensures.text,
      c.text-2.ensures.text,
      c.act.ensures.text,
      c.text.ensures.text,
      c.labelled_number-3.ensures.text,
      c.labelled_number-2.ensures.text,
      c.labelled_number.ensures.text,
      c.number.ensures.text,
      c.new-line.ensures,
    )
    (simp append_assoc)
