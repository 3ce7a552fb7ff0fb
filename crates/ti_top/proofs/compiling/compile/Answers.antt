use Rattle.std.proofs.lemmas.Result.{err_from_is_err_and}
use Rattle.ti_top.proofs.Compiled.{OneAnswer, not_read, not_checked, has_program, compiled}
use Rattle.ti_top.proofs.compiling.compile.Goals as goal

pub returns-in_err-program : goal.returns-in_err-program
returns-in_err-program c =
    let known : OneAnswer = record { one_program = c.one_answer.ensures.one_program; never_both = c.one_answer.ensures.never_both } in
    let p = err_from_is_err_and c.from_residual.result c.from_residual.ensures.1 in
    rw p.1 (rw p.2 (not_read known c.args.text.now c.in_err-program.field-0.0 c.in_err-program.ensures))

pub returns-in_err-checked : goal.returns-in_err-checked
returns-in_err-checked c =
    let known : OneAnswer = record { one_program = c.one_answer.ensures.one_program; never_both = c.one_answer.ensures.never_both } in
    let p = err_from_is_err_and c.from_residual-in_err-checked.result c.from_residual-in_err-checked.ensures.1 in
    rw p.1 (rw p.2 (not_checked known c.args.text.now c.in_ok-program.program c.in_err-checked.field-0.0 c.in_ok-program.ensures c.in_err-checked.ensures))

pub returns : goal.returns
returns c =
    let known : OneAnswer = record { one_program = c.one_answer.ensures.one_program; never_both = c.one_answer.ensures.never_both } in
    compiled known c.args.text.now c.in_ok-checked.checked
    (has_program c.args.text.now c.in_ok-program.program c.in_ok-checked.checked c.in_ok-program.ensures c.in_ok-checked.ensures) c.aligned.ensures.aligned
