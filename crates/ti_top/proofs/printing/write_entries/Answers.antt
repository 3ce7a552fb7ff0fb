use Rattle.std.proofs.Common.{◌∙◌}
use Rattle.std.proofs.lemmas.Result.{err_from_is_err_and}
use Rattle.ti_lang.specs.Program.Views.{program_of}
use Rattle.ti_top.proofs.HistoryTurns.{entry_turn}
use Rattle.ti_top.proofs.LinesWritten.{lines_step, lines_stop, lines_all}
use Rattle.ti_top.proofs.printing.write_entries.Goals as goal

pub returns-in_err-write_piece : goal.returns-in_err-write_piece
returns-in_err-write_piece g c =
    let p = err_from_is_err_and c.from_residual.result c.from_residual.ensures.1 in
    rw p.1 (lines_stop (program_of c.args.program.now.parts) _ _ _ _ _ _ _ _ _ _ _ c.entries.invariant.left c.in-Some.ensures.steps (c.as_slice.ensures
    ∙ (rw c.deref.ensures.value at c.form_line.ensures.bytes)) c.entries.invariant.written c.in_err-write_piece.ensures)

pub entries-preserved : goal.entries-preserved
entries-preserved g c = record {
  left = entry_turn _ _ _ _ _ c.entries.invariant.left c.in-Some.ensures.steps;
  written = lines_step (program_of c.args.program.now.parts) c.entries.yielded c.in-Some.entry _ _ _ _ (c.as_slice.ensures
      ∙ (rw c.deref.ensures.value at c.form_line.ensures.bytes)) c.entries.invariant.written c.in_ok-write_piece.ensures;
  room = rw c.deref.ensures.value at c.form_line.ensures.room;
}

pub returns : goal.returns
returns g c = lines_all (program_of c.args.program.now.parts) _ _ _ _ _ c.entries.invariant.left c.in-None.ensures.steps.0 c.entries.invariant.written
