use Rattle.std.proofs.Common.{arith}
use Rattle.std.proofs.lemmas.Int.{ints}
use Rattle.ti_domain.proofs.rest.ends_before.Goals as goal

pub returns : goal.returns
returns c = λ t x o p. omega (arith, ints, o.within, p.reached)
