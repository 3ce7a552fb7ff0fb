use Rattle.std.proofs.Common.{arith}
use Rattle.std.proofs.lemmas.Int.{ints}
use Rattle.ti_rect.proofs.parts.range_below.Goals as goal

pub returns-clause-same : goal.returns-clause-same
returns-clause-same c = λ x.
    let h = c.range_between.ensures.same x in (
      λ o. let k = h.0 o in (k.0, let l = k.2 in omega (arith, ints)),
      λ k. h.1 (k.0, (let r = k.0.reached in omega (arith, ints)), let l = k.1 in omega (arith, ints)),
    )
