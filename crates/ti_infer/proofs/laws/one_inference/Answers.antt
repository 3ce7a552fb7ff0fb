use Rattle.ti_infer.proofs.OneInference.{one_greatest, one_first, not_both}
use Rattle.ti_infer.proofs.laws.one_inference.Goals as goal

pub returns : goal.returns
returns c = record { one_marking = one_greatest; one_place = one_first; never_both = not_both }
