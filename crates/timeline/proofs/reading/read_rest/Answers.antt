use Rattle.std.proofs.Common.{Some, append_assoc, arith}
use Rattle.std.proofs.lemmas.Str.Pattern.{split_parts, split_text_parts}
use Rattle.timeline.proofs.reading.read_rest.Goals as goal

pub returns : goal.returns
returns c =
    let first = split_parts 32 _ (Some (c.in_ok-process.process, c.in_ok-process.rest)) c.in_ok-process.ensures.cases (omega arith) in
    let second = split_parts 32 _ (Some (c.in_ok-place.place, c.in_ok-place.rest)) c.in_ok-place.ensures.cases (omega arith) in
    let third = split_text_parts _ _ (Some (c.in_ok-done.done, c.in_ok-done.answer)) c.in_ok-done.ensures.cases in
    rw first.0 (rw c.in_ok-process-2.ensures.1 (rw second.0 (rw third (rw c.in_ok-place-2.ensures (simp append_assoc)))))
