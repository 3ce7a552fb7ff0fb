use Rattle.ti_rules.proofs.OneProgramRefusal.{found, nothing_found, one_first, not_both}
use Rattle.ti_rules.proofs.laws.one_program_refusal.Goals as goal

pub returns : goal.returns
returns c = record { found = found; none = nothing_found; only = one_first; not_both = not_both }
