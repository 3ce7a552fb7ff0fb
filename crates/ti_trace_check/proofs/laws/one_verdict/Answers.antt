use Rattle.ti_trace_check.proofs.Texts.{one_run, not_both, one_wrong}
use Rattle.ti_trace_check.proofs.laws.one_verdict.Goals as goal

pub returns-clause-one_run : goal.returns-clause-one_run
returns-clause-one_run c s text es ds few a b = one_run s text es ds few a b

pub returns-clause-not_both : goal.returns-clause-not_both
returns-clause-not_both c s text line es ds few a b = not_both s text line es ds few a b

pub returns-clause-one_line : goal.returns-clause-one_line
returns-clause-one_line c s text j k es ds few a b = one_wrong s text j k es ds few a b
