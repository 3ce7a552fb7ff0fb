use Rattle.std.proofs.Common.{[], None, refl}
use Rattle.std.proofs.lemmas.Result.{err_from_is_err_and}
use Rattle.ti_top.proofs.TextsDone.{inferred_text}
use Rattle.ti_top.proofs.run_job.infer_text.Goals as goal

pub returns-in_err-write_marks-clause-says : goal.returns-in_err-write_marks-clause-says
returns-in_err-write_marks-clause-says g c =
    let p = err_from_is_err_and c.from_residual-in_err-write_marks.result c.from_residual-in_err-write_marks.ensures.1 in
    rw p.1 (rw p.2 (inferred_text c.in_err-write_marks.field-0.0 c.in_ok-marking.marking c.args.text.now (g.K.Sink.state c.args.out.now)
    (g.K.Sink.state c.write_marks.new.out) (record { code = None; history = []; done = [] }) c.in_ok-marking.ensures refl refl refl c.in_err-write_marks.ensures.says))
