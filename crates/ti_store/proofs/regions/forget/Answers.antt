use Rattle.std.proofs.Common.{◌≡◌, ◌∷◌, sym, ap, subst, ◌∙◌}
use Rattle.ti_store.specs.Mirrors.Refs.{after_clearing, CanForget}
use Rattle.ti_store.proofs.Forgetting.{forget_rest}
use Rattle.ti_store.proofs.regions.forget.Goals as goal

pub loop-value-preserved : goal.loop-value-preserved
loop-value-preserved c =
    let old = c.loop-value in
    let rest = c.next.new.self in
    let e : old.value-iterator ≡ c.in-Some.value ∷ rest = c.in-Some.ensures.steps in
    let can = subst (λ values. CanForget c.args.region values old.regions) e old.invariant.0 in (
      subst (CanForget c.args.region rest) (sym c.note_put.ensures) (forget_rest c.args.region c.in-Some.value rest old.regions can),
      ap (after_clearing c.args.region rest) c.note_put.ensures ∙ ap (λ values. after_clearing c.args.region values old.regions) (sym e) ∙ old.invariant.1,
    )
