use Rattle.ti_align.proofs.RunTypes.Storing.{has_form}
use Rattle.ti_align.proofs.laws.values_have_forms.Goals as goal

pub returns : goal.returns
returns c w type value n k = has_form w type value n k
