use Rattle.std.proofs.Common.{◌≡◌, ◌∙◌, sym, subst, true, arith, ℕ, ◌<◌, ◌-◌, length, get_or, ap, suc}
use Rattle.ti_lang.specs.Program.Views.{variable_of}
use Rattle.ti_lang.specs.Meaning.Scoping.{same_variable, with_changed}
use Rattle.ti_eval.specs.Frames.{slot_of, slots_of}
use Rattle.ti_eval.specs.declared.frame.Slot.{Slot}
use Rattle.ti_eval.proofs.Slots.{changed_at, same_default}
use Rattle.ti_eval.proofs.variables.change.Goals as goal

pub returns-then-is_same_variable : goal.returns-then-is_same_variable
returns-then-is_same_variable c =
    let xs = c.loop-n.slots.items in
    let m : ℕ = c.loop-n.n - 1 in
    let d : Slot = c.index.result.now in
    let i : Slot = c.index_mut.result.now in
    let s : Slot = record { variable = i.variable; held = c.args.held } in
    let x = variable_of c.args.variable.now in
    let e : c.loop-n.n ≡ suc m = omega (arith, c.loop-n-test.true) in
    let l : m < length xs = omega (arith, c.loop-n-test.true, c.loop-n.invariant.within) in
    let same : same_variable x (slot_of (get_or xs m d)).named ≡ true =
    subst (λ (y : Slot). same_variable x (slot_of y).named ≡ true) c.index.ensures (sym c.is_same_variable.ensures ∙ c.if-is_same_variable.true) in
    let k : i ≡ get_or xs m d = c.index_mut.ensures.value ∙ same_default xs m i d l in
    let is = ap (λ (y : Slot). slot_of (record y { held = c.args.held })) k in
    changed_at xs m c.loop-n.n d s x c.args.held e l same is c.loop-n.invariant.same
    ∙ ap (λ v. with_changed x c.args.held (slots_of v.items)) c.loop-n.invariant.stays
