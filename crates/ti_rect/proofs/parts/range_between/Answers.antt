use Rattle.std.proofs.Common.{FitsSigned, ◌≡◌, ◌↔◌, ◌≤ℤ◌, ◌<ℤ◌, to_z, of_z, subst, rules}
use Rattle.std.proofs.lemmas.Int.{to_z-of_z}
use Rattle.std.specs.Int.{w32, w64}
use Rattle.ti_base.specs.Ranges.{IsOn, IsNextOn}
use Rattle.ti_rect.specs.Axes.{range}
use Rattle.ti_rect.proofs.PartLaws.{from_next}
use Rattle.ti_rect.proofs.ReadBack.{passed}
use Rattle.ti_rect.proofs.RectLaws.{none_here}
use Rattle.ti_rect.proofs.parts.range_between.Goals as goal

pub returns-in-Some-clause-same : goal.returns-in-Some-clause-same
returns-in-Some-clause-same c = λ x.
    let a = range c.args.axis in
    let low = c.in-Some.low in
    let fits : FitsSigned w32 low = search rules in
    let at : to_z w64 (of_z w64 c.args.from) ≡ c.args.from = to_z-of_z w64 c.args.from c.ranges.from in
    let n : IsNextOn a c.args.from low = subst (λ z. IsNextOn a z low) at c.in-Some.ensures in
    let s : IsOn (range c.stretch.result) x ↔ (IsOn a x × (low ≤ℤ x) × (x <ℤ c.args.to)) =
    subst (λ l. IsOn (range c.stretch.result) x ↔ (IsOn a x × (l ≤ℤ x) × (x <ℤ c.args.to))) (to_z-of_z w32 low fits)
    (subst (λ t. IsOn (range c.stretch.result) x ↔ (IsOn a x × (to_z w32 (of_z w32 low) ≤ℤ x) × (x <ℤ t))) (to_z-of_z w64 c.args.to c.ranges.to) (c.stretch.ensures.same x)) in
    let f = from_next a c.args.from low x n in (
      λ o. let h = s.0 o in (h.0, (f.0 (h.0, h.1)).1, h.2),
      λ h. s.1 (h.0, (f.1 (h.0, h.1)).1, h.2),
    )

pub returns-in-None-clause-same : goal.returns-in-None-clause-same
returns-in-None-clause-same c = λ x. (
  λ o. absurd (none_here x o),
  λ h. absurd (passed x c.args.from (subst (λ y. x ≤ℤ y) (to_z-of_z w64 c.args.from c.ranges.from) (c.in-None.ensures x h.0)) h.1),
)
