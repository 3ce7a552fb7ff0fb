use Rattle.ti_lang.specs.Meaning.Performing.{exec_item}
use Rattle.ti_lang.proofs.MeaningLaws.Computing.{extended, used_up}
use Rattle.ti_lang.proofs.MeaningLaws.Performed.{work_computes}
use Rattle.ti_lang.proofs.meaning.process_laws.answers_in_order.Goals as goal

pub returns-clause-no_further : goal.returns-clause-no_further
returns-clause-no_further c = λ env w rs more move e. extended (exec_item env w) (work_computes env w) rs move e more

pub returns-clause-used_up : goal.returns-clause-used_up
returns-clause-used_up c = λ env w rs rest q r move e z. used_up (exec_item env w) (work_computes env w) rs q e r move rest z
