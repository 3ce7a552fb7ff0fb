use Rattle.std.proofs.Common.{refl, arith}
use Rattle.ti_rows.proofs.refutations_of_values.forms.Goals as goal

pub returns-clause-a_range : goal.returns-clause-a_range
returns-clause-a_range c = record { steps = 2; reached = refl; forward = omega arith; single = λ e. omega (arith, e) }
