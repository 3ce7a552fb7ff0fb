use Rattle.ti_top.proofs.ShortNames.{short_text}
use Rattle.ti_top.proofs.exit.text_bytes.Goals as goal

pub returns-clause-short : goal.returns-clause-short
returns-clause-short c = rw (c.as_bytes.ensures.value, c.rule_text.ensures) (short_text c.args.rule)
