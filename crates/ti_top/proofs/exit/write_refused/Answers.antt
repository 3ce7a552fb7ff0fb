use Rattle.std.proofs.lemmas.Result.{err_from_is_err_and}
use Rattle.ti_io.proofs.Lemmas.{writes_then, writes_stop}
use Rattle.ti_top.proofs.exit.write_refused.Goals as goal

pub returns-in_err-write_piece : goal.returns-in_err-write_piece
returns-in_err-write_piece g c =
    let p = err_from_is_err_and c.from_residual.result c.from_residual.ensures.1 in
    rw p.1 (writes_stop _ _ _ _ _ _ (rw c.as_bytes.ensures.value at c.in_err-write_piece.ensures))

pub returns : goal.returns
returns g c =
    rw (c.as_bytes.ensures.value, c.as_slice.ensures, c.refused_line.ensures) at (writes_then _ _ _ _ _ _ _ c.in_ok-write_piece.ensures c.write_piece-2.ensures)
