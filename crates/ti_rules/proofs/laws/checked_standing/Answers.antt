use Rattle.ti_rules.proofs.Sound.Programs.{no_type_refusal, no_single_refusal}
use Rattle.ti_rules.proofs.laws.checked_standing.Goals as goal

pub returns : goal.returns
returns c = record { types = no_type_refusal; single = no_single_refusal }
