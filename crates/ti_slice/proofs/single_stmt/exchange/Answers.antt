use Rattle.std.proofs.Common.{refl}
use Rattle.ti_slice.proofs.single_stmt.exchange.Goals as goal

pub returns : goal.returns
returns c = λ env x. refl
