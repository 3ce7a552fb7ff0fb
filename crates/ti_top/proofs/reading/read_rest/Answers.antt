use Rattle.std.proofs.Common.{arith}
use Rattle.std.proofs.lemmas.List.{length-take}
use Rattle.ti_top.proofs.ReadSoFar.{read_end, read_most}
use Rattle.ti_top.proofs.reading.read_rest.Goals as goal

pub returns-in-Ok-eq0 : goal.returns-in-Ok-eq0
returns-in-Ok-eq0 g c =
    let call = c.in-Ok-eq0.ensures in
    read_end _ _ _ _ _ _ c.pieces.invariant.so_far call.still call.same (rw c.in-Ok-eq0.field-0-test at call.answer)
    (omega (arith, length-take c.min-room.result c.pieces.buf, c.pieces.invariant.room))

pub returns : goal.returns
returns g c = read_most _ _ _ _ c.pieces.invariant.so_far (omega (arith, c.pieces.text.ok.0))
