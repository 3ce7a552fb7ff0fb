use Rattle.std.proofs.Common.{◌≡◌, ◌∷◌, [], ◌∙◌, sym, ap, subst, true}
use Rattle.ti_lower_expr.specs.declared.slots.SlotName.{SlotName}
use Rattle.ti_lower_expr.specs.Slots.{has_this}
use Rattle.ti_lower_expr.specs.Views.{slot_name_of, slot_names_of}
use Rattle.ti_lower_expr.proofs.Naming.{this_here}
use Rattle.ti_lower_expr.proofs.slots.Slots.has_this.Goals as goal

pub returns-then-is_this : goal.returns-then-is_this
returns-then-is_this c =
    sym (ap (λ xs. has_this (slot_names_of xs)) (sym c.deref-name-items.ensures.value)
    ∙ this_here c.deref-name-items.result.now c.loop-name.name-index c.name-item.result c.loop-name-test.true
    (subst (λ (z : SlotName). has_this (slot_name_of z ∷ []) ≡ true) c.name-item.is (sym c.is_this.ensures ∙ c.if-is_this.true)))
