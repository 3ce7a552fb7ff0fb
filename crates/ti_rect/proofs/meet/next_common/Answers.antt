use Rattle.std.proofs.Common.{◌≡◌, ◌+◌, ◌≤ℤ◌, to_z, of_z, FitsSigned, sym, ◌∙◌, subst, arith, rules}
use Rattle.std.proofs.lemmas.Int.{to_z-of_z}
use Rattle.std.specs.Int.{w32, w64}
use Rattle.ti_base.specs.Ranges.{IsOn, IsNextOn}
use Rattle.ti_rect.specs.Axes.{range}
use Rattle.ti_rect.proofs.MeetLaws.{Walked, walk_begins, walk_finds, walk_goes_on, walk_ends, walk_is_round}
use Rattle.ti_rect.proofs.ReadBack.{clash}
use Rattle.ti_rect.proofs.meet.next_common.Goals as goal

pub loop-steps-init : goal.loop-steps-init
loop-steps-init c = walk_begins (range c.args.left) (range c.args.right) _ (subst (IsOn (range c.args.left)) (sym (to_z-of_z w32 c.args.from c.ranges.from)) c.requires.on)

pub returns-then-contains : goal.returns-then-contains
returns-then-contains c =
    let x = to_z w32 c.loop-steps.x-bits in
    let w = subst (λ f. Walked (range c.args.left) (range c.args.right) f x c.loop-steps._steps) (to_z-of_z w32 c.args.from c.ranges.from) c.loop-steps.invariant in
    walk_finds (range c.args.left) (range c.args.right) c.args.from x c.loop-steps._steps c.requires.first.forward c.requires.on w (c.contains.ensures.0 c.if-contains.true)

pub returns-in-None : goal.returns-in-None
returns-in-None c =
    let x = to_z w32 c.loop-steps.x-bits in
    let w = subst (λ f. Walked (range c.args.left) (range c.args.right) f x c.loop-steps._steps) (to_z-of_z w32 c.args.from c.ranges.from) c.loop-steps.invariant in
    walk_ends (range c.args.left) (range c.args.right) c.args.from x c.loop-steps._steps c.requires.first.forward c.requires.on w
    (λ o. clash c.contains.result (c.contains.ensures.1 o) c.if-contains.false)
    (λ y o. subst (λ z. y ≤ℤ z) (to_z-of_z w64 c.from.result (record { sfits = c.from.type_inv }) ∙ c.from.ensures) (c.in-None.ensures y o))

pub loop-steps-preserved : goal.loop-steps-preserved
loop-steps-preserved c =
    let x = to_z w32 c.loop-steps.x-bits in
    let w = subst (λ f. Walked (range c.args.left) (range c.args.right) f x c.loop-steps._steps) (to_z-of_z w32 c.args.from c.ranges.from) c.loop-steps.invariant in
    let f : FitsSigned w32 c.in-Some.next = search rules in
    let at : to_z w64 (of_z w64 c.from.result) ≡ x = to_z-of_z w64 c.from.result (record { sfits = c.from.type_inv }) ∙ c.from.ensures in
    let n : IsNextOn (range c.args.left) x c.in-Some.next = subst (λ z. IsNextOn (range c.args.left) z c.in-Some.next) at c.in-Some.ensures in
    let next = walk_goes_on (range c.args.left) (range c.args.right) c.args.from x c.loop-steps._steps c.requires.first.forward c.requires.on w
    c.in-Some.next (λ o. clash c.contains.result (c.contains.ensures.1 o) c.if-contains.false) n in
    subst (λ f. Walked (range c.args.left) (range c.args.right) f (to_z w32 (of_z w32 c.in-Some.next)) (c.loop-steps._steps + 1)) (sym (to_z-of_z w32 c.args.from c.ranges.from))
    (subst (λ y. Walked (range c.args.left) (range c.args.right) c.args.from y (c.loop-steps._steps + 1)) (sym (to_z-of_z w32 c.in-Some.next f)) next)

pub returns : goal.returns
returns c =
    let x = to_z w32 c.loop-steps.x-bits in
    let w = subst (λ f. Walked (range c.args.left) (range c.args.right) f x c.loop-steps._steps) (to_z-of_z w32 c.args.from c.ranges.from) c.loop-steps.invariant in
    walk_is_round (range c.args.left) (range c.args.right) c.args.from x c.loop-steps._steps c.requires.first.forward c.requires.on w
    c.requires.second.forward (omega arith) c.requires.begun
