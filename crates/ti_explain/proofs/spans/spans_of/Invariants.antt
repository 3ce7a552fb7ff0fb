use Rattle.std.proofs.Common.{◌≡◌, ◌++◌, All, length, map}
use Rattle.std.specs.Vec.Iter.{into_iter_items, into_iter_len}
use Rattle.ti_explain.specs.declared.reason.ReasonSpan.{ReasonSpan}
use Rattle.ti_explain.specs.ReasonSpans.{IsLengthAt, without_len}
use Rattle.ti_explain.proofs.spans.spans_of.Given as goal

abbrev pub invariant-loop-reason : goal.invariant-loop-reason
invariant-loop-reason l = (l.yielded ++ into_iter_items l.reason-iterator ≡ into_iter_items l.initial.reason-iterator)
    × (map without_len l.spans.items ≡ l.yielded)
    × All (λ (s : ReasonSpan). IsLengthAt l.text s.place s.len) l.spans.items
    × (into_iter_len l.reason-iterator ≡ length (into_iter_items l.reason-iterator))
