use Rattle.ti_top.proofs.ShortNames.{short_name}
use Rattle.ti_top.proofs.exit.name_bytes.Goals as goal

pub returns-clause-short : goal.returns-clause-short
returns-clause-short c = rw (c.as_bytes.ensures.value, c.fault_name.ensures) (short_name c.args.kind)
