use Rattle.ti_exec.proofs.Formed.{fits_formed}
use Rattle.ti_exec.proofs.laws.fitting_is_formed.Goals as goal

pub returns : goal.returns
returns c = λ p r h. fits_formed h.request.wanted r h.fits
