use Rattle.std.proofs.Common.{rules, ◌≡◌, ◌∙◌, sym, ap, ◌%◌, ℕ, pos, ◌+ℤ◌, w32, w64, eq-eqb, eqb-true}
use Rattle.std.proofs.lemmas.Int.{to_z-of_z}
use Rattle.ti_rect.specs.Axes.{range}
use Rattle.ti_race.proofs.RangeForms.{range_from, range_divides}
use Rattle.ti_race.proofs.forms.is_range.Goals as goal

pub returns : goal.returns
returns c =
    let high = to_z-of_z w32 c.args.axis.high (search rules) in
    let low = to_z-of_z w32 c.args.axis.low (search rules) in
    let wide = to_z-of_z w64 c.from.result (search rules) in
    let reached : c.args.axis.high ≡ c.args.axis.low +ℤ pos c.distance-span.result =
    sym (wide ∙ c.from.ensures ∙ high) ∙ c.distance-span.ensures.value ∙ ap (λ x. x +ℤ pos c.distance-span.result) low in
    let step = c.from-2.ensures in (
      λ e. range_from (range c.args.axis) c.distance-span.result (search rules) c.if-span-eq0.false reached (ap (λ (n : ℕ). c.distance-span.result % n) (sym step) ∙ eqb-true _ _ e),
      λ f. eq-eqb _ _ (ap (λ (n : ℕ). c.distance-span.result % n) step ∙ range_divides (range c.args.axis) c.distance-span.result reached f),
    )
