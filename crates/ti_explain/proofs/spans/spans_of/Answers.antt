use Rattle.std.proofs.Common.{◌≡◌, ◌∷◌, [], All, map, length, refl, sym, ap, subst, ◌∙◌, append_assoc, arith}
use Rattle.std.specs.Vec.Iter.{into_iter_items}
use Rattle.ti_explain.specs.declared.reason.ReasonSpan.{ReasonSpan}
use Rattle.ti_explain.specs.ReasonSpans.{IsLengthAt, without_len}
use Rattle.ti_explain.proofs.SpanLaws.{one_span, one_length}
use Rattle.ti_explain.proofs.spans.spans_of.Goals as goal

pub loop-reason-preserved : goal.loop-reason-preserved
loop-reason-preserved c =
    let at = c.loop-reason in
    let x = c.in-Some.reason in
    let span : ReasonSpan = record { place = x.place; len = c.in_ok-len.len; kind = x.kind } in
    let steps : into_iter_items at.reason-iterator ≡ x ∷ into_iter_items c.next.new.self = c.in-Some.ensures.steps.0 in (
      append_assoc at.yielded (x ∷ []) _ ∙ rw (← steps) at.invariant.0,
      ap (map without_len) c.in_ok-push.ensures.items ∙ one_span at.spans.items span at.yielded x at.invariant.1 refl,
      subst (All (λ (s : ReasonSpan). IsLengthAt c.args.text.now s.place s.len)) (sym c.in_ok-push.ensures.items)
          (one_length c.args.text.now at.spans.items span at.invariant.2 c.in_ok-len.ensures),
      let was = at.invariant.3 in
          let gone = c.in-Some.ensures.steps.1 in
          let short = ap length steps in
          omega arith,
    )
