use Rattle.std.proofs.Common.{◌≡◌, refl, sym, subst, arith}
use Rattle.std.proofs.lemmas.Int.{ints}
use Rattle.ti_rect.specs.Axes.{range, IsOnBoth}
use Rattle.ti_rect.proofs.meet.meet_of_one.Goals as goal

pub returns-clause-form : goal.returns-clause-form
returns-clause-form c = record { steps = 0; reached = omega (arith, ints); forward = omega arith; single = λ _. refl }

pub returns-clause-same : goal.returns-clause-same
returns-clause-same c = λ x. (
  λ o. let e : x ≡ c.args.first = omega (arith, ints, o.reached, o.within) in subst (IsOnBoth (range c.args.left) (range c.args.right)) (sym e) c.requires.least.on,
  λ o. let a = c.requires.least.least x o in let b = c.requires.last x o in record { steps = 0; reached = omega (arith, ints); within = omega (arith, ints) },
)
