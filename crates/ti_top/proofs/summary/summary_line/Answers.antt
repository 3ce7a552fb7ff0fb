use Rattle.std.proofs.Common.{rules}
use Rattle.ti_top.specs.Summary.{summary_line}
use Rattle.ti_top.proofs.summary.summary_line.Goals as goal

pub returns : goal.returns
unfolding summary_line
returns c = search rules
