use Rattle.std.proofs.Common.{inl, inr, pos, refl, arith}
use Rattle.std.proofs.lemmas.Int.{ints}
use Rattle.ti_base.specs.Rects.{IsIn}
use Rattle.ti_rows.specs.Refuted.Sets.{on_line, evens}
use Rattle.ti_rows.proofs.refutations_of_values.rectangles.Goals as goal

-- an odd number isn't 0 and some twos
no_odd : IsIn evens (on_line (pos 1)) → ⊥
no_odd k = omega (arith, ints, k.first.reached)

pub returns-clause-points_of_another : goal.returns-clause-points_of_another
returns-clause-points_of_another c = λ f. no_odd ((f.has (on_line (pos 1))).0 (inr (inl refl)))
