use Rattle.std.proofs.Common.{◌≡◌, length, drop, ap, sym, ◌∙◌, arith}
use Rattle.ti_explain.specs.NearSpelling.{letter_pair}
use Rattle.ti_explain.proofs.SpellingLaws.{one_further, differ_here, other_ended, one_ended}
use Rattle.ti_explain.proofs.near_spelling.differing.Goals as goal

pub returns-then-i-other : goal.returns-then-i-other
returns-then-i-other c =
    c.rests.ensures ∙ sym (other_ended c.args.one.now c.args.other.now c.loop-i.i (omega arith)) ∙ sym c.loop-i.invariant.1

pub returns-then-one-i : goal.returns-then-one-i
returns-then-one-i c =
    c.rests-then-one-i.ensures ∙ sym (differ_here c.args.one.now c.args.other.now c.loop-i.i (omega arith) (omega arith) c.if-one-i.true) ∙ sym c.loop-i.invariant.1

pub loop-i-preserved : goal.loop-i-preserved
loop-i-preserved c =
    (omega arith, c.loop-i.invariant.1 ∙ one_further c.args.one.now c.args.other.now c.loop-i.i (omega arith) (omega arith) c.if-one-i.false)

pub returns : goal.returns
returns c =
    let one = c.args.one.now in
    let other = c.args.other.now in
    let end : c.loop-i.i ≡ length one = omega arith in
    c.rests-2.ensures ∙ ap (λ i. letter_pair (drop i one) (drop i other)) (sym end) ∙ sym (one_ended one other c.loop-i.i (omega arith)) ∙ sym c.loop-i.invariant.1
