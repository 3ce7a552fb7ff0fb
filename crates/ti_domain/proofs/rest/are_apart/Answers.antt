use Rattle.ti_domain.proofs.rest.are_apart.Goals as goal

pub returns-then-ends_before : goal.returns-then-ends_before
returns-then-ends_before c = λ t x o p. c.ends_before.ensures c.if-ends_before.true x p o
