use Rattle.std.proofs.Common.{◌≡◌, ℤ, pos, nat_abs, refl, ap, arith}
use Rattle.ti_base.specs.declared.point.Point.{Point}
use Rattle.ti_base.specs.Points.{IsPoint}
use Rattle.ti_lang.specs.Meaning.HeapAnswers.{none, more}
use Rattle.ti_rows.specs.Refuted.Sets.{on_line}
use Rattle.ti_rows.proofs.refutations_of_meaning.heaps.Goals as goal

pub returns-clause-a_grid_is_made : goal.returns-clause-a_grid_is_made
returns-clause-a_grid_is_made c = more none refl

a_point : (x : ℤ) → IsPoint (on_line x)
a_point x = record { dim = (omega arith, omega arith); second = λ l. refl; third = λ l. refl }

pub returns-clause-one_cell_for_all : goal.returns-clause-one_cell_for_all
returns-clause-one_cell_for_all c = λ f.
    let k : 0 ≡ 1 = ap (λ (p : Point). nat_abs p.x1) (f (on_line (pos 0)) (on_line (pos 1)) (a_point (pos 0)) (a_point (pos 1)) refl refl refl) in
    omega (arith, k)
