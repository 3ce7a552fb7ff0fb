use Rattle.ti_lang.proofs.MeaningLaws.Racing.{race_back, race_others, race_writes}
use Rattle.ti_lang.proofs.meaning.race_laws.races_are_mutual.Goals as goal

pub returns-clause-mutual : goal.returns-clause-mutual
returns-clause-mutual c = race_back

pub returns-clause-others : goal.returns-clause-others
returns-clause-others c = race_others

pub returns-clause-written : goal.returns-clause-written
returns-clause-written c = race_writes
