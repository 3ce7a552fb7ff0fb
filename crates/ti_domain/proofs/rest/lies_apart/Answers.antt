use Rattle.std.proofs.Common.{sym, subst}
use Rattle.ti_base.specs.Ranges.{IsOn}
use Rattle.ti_domain.proofs.rest.lies_apart.Goals as goal

pub returns-then-are_apart : goal.returns-then-are_apart
returns-then-are_apart c = λ t p v w.
    c.are_apart.ensures c.if-are_apart.true p.x1 (subst (λ q. IsOn q p.x1) (sym c.first.ensures) v.first) (subst (λ q. IsOn q p.x1) (sym c.first-2.ensures) w.first)

pub returns-then-are_apart-2 : goal.returns-then-are_apart-2
returns-then-are_apart-2 c = λ t p v w.
    c.are_apart-2.ensures c.if-are_apart-2.true p.x2 (subst (λ q. IsOn q p.x2) (sym c.second.ensures) v.second) (subst (λ q. IsOn q p.x2) (sym c.second-2.ensures) w.second)

pub returns : goal.returns
returns c = λ t p v w.
    c.are_apart-3.ensures t p.x3 (subst (λ q. IsOn q p.x3) (sym c.third.ensures) v.third) (subst (λ q. IsOn q p.x3) (sym c.third-2.ensures) w.third)
