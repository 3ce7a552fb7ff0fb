use Rattle.std.proofs.Common.{◌≡◌, ◌+◌, ◌*◌, pos, ◌+ℤ◌, ap, ◌∙◌, arith}
use Rattle.std.proofs.lemmas.Int.{ints}
use Rattle.std.proofs.lemmas.Nat.{mul-le}
use Rattle.std.proofs.lemmas.Result.{IfOk-weaker}
use Rattle.ti_rect.specs.Axes.{range}
use Rattle.ti_rect.specs.Parts.{IsOff, AreParts, with_part}
use Rattle.ti_rect.proofs.PartLaws.{gaps_begin, gaps_more, gaps_end}
use Rattle.ti_rect.proofs.parts.gaps.Goals as goal

pub loop-t-init : goal.loop-t-init
loop-t-init c =
    gaps_begin (range c.args.axis) (range c.args.cut) c.requires.first c.requires.second c.requires.inside c.in_ok-parts.parts.items c.range_below.result
    (c.in_ok-parts.ensures ∙ ap (λ l. with_part l c.range_below.result) c.new.ensures.items) c.range_below.ensures.form c.range_below.ensures.same

pub gap-requires-clause-room : goal.gap-requires-clause-room
gap-requires-clause-room c =
    let m = mul-le (c.loop-t.t + 1) c.args.cut.step c.args.steps c.args.cut.step (omega arith) (omega arith) in
    let e = c.requires.number in
    omega (arith, ints)

pub loop-t-preserved : goal.loop-t-preserved
loop-t-preserved c =
    let m = mul-le (c.loop-t.t + 1) c.args.cut.step c.args.steps c.args.cut.step (omega arith) (omega arith) in
    gaps_more (range c.args.axis) (range c.args.cut) c.requires.first c.requires.second c.requires.inside c.loop-t.parts.items c.in_ok-parts-2.parts.items c.gap.result c.loop-t.t
    (let e = c.requires.number in omega (arith, ints)) c.loop-t.invariant c.in_ok-parts-2.ensures c.gap.ensures.form c.gap.ensures.same

pub returns : goal.returns
returns c =
    let last : c.args.steps ≡ c.loop-t.t = omega arith in
    IfOk-weaker c.push_part-2.result (λ v. v.items ≡ with_part c.loop-t.parts.items c.range_above.result) (λ v. AreParts v.items (IsOff (range c.args.axis) (range c.args.cut)))
    (λ v e. gaps_end (range c.args.axis) (range c.args.cut) c.requires.first c.requires.second c.requires.inside c.loop-t.parts.items v.items c.range_above.result c.loop-t.t
    (c.requires.number ∙ ap (λ n. c.args.cut.low +ℤ pos (n * c.args.cut.step)) last) c.loop-t.invariant e c.range_above.ensures.form c.range_above.ensures.same)
    c.push_part-2.ensures
