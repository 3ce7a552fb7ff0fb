use Rattle.ti_lang.proofs.MeaningLaws.Running.{solo_run, solo_only}
use Rattle.ti_lang.proofs.meaning.run_laws.one_solo_run.Goals as goal

pub returns-clause-is_run : goal.returns-clause-is_run
returns-clause-is_run c = solo_run

pub returns-clause-only : goal.returns-clause-only
returns-clause-only c = solo_only
