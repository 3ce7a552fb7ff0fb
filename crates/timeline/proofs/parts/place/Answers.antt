use Rattle.std.proofs.Common.{refl, Some, arith}
use Rattle.std.proofs.lemmas.Str.Pattern.{split_parts}
use Rattle.timeline.proofs.parts.place.Goals as goal

pub returns : goal.returns
returns c =
    let split = split_parts 58 _ (Some (c.in_ok-line.line, c.in_ok-line.column)) c.in_ok-line.ensures.cases (omega arith) in
    rw split.0 (rw c.in_ok-number.ensures (rw c.in_ok-number-2.ensures refl))
