use Rattle.ti_top.proofs.ShortNames.{short_code}
use Rattle.ti_top.proofs.exit.code_bytes.Goals as goal

pub returns-clause-short : goal.returns-clause-short
returns-clause-short c = rw (c.as_bytes.ensures.value, c.code.ensures) (short_code c.args.rule)
