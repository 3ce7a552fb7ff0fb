use Rattle.std.proofs.Common.{sym, ◌∙◌, ap}
use Rattle.std.proofs.lemmas.Result.{err_from_is_err_and}
use Rattle.ti_lang.specs.Program.Views.{program_of}
use Rattle.ti_infer.specs.Stripped.{stripped}
use Rattle.ti_top.proofs.Inferred.{OneAnswer, not_read, not_typed, not_inferred, inferred}
use Rattle.ti_top.proofs.inferring.infer_marks.Goals as goal

pub infer-requires-clause-stripped : goal.infer-requires-clause-stripped
infer-requires-clause-stripped c = ap stripped c.stripped-program.ensures ∙ c.stripped_once.ensures (program_of c.in_ok-read.read.parts) ∙ sym c.stripped-program.ensures

pub returns-in_err-read : goal.returns-in_err-read
returns-in_err-read c =
    let known : OneAnswer = record { one_marking = c.one_marking.ensures.one_marking; never_both = c.one_marking.ensures.never_both } in
    let p = err_from_is_err_and c.from_residual.result c.from_residual.ensures.1 in
    rw p.1 (rw p.2 (not_read known c.args.text.now c.in_err-read.field-0.0 c.in_err-read.ensures))

pub returns-in_err-check_types : goal.returns-in_err-check_types
returns-in_err-check_types c =
    let known : OneAnswer = record { one_marking = c.one_marking.ensures.one_marking; never_both = c.one_marking.ensures.never_both } in
    let p = err_from_is_err_and c.from_residual-in_err-check_types.result c.from_residual-in_err-check_types.ensures.1 in
    rw p.1 (rw p.2 (not_typed (Unit {0}) known c.args.text.now (program_of c.in_ok-read.read.parts) (program_of c.stripped-program.result.parts) c.in_err-check_types.field-0.0
    c.in_ok-read.ensures c.stripped-program.ensures c.in_err-check_types.ensures))

pub returns-in_err-marking : goal.returns-in_err-marking
returns-in_err-marking c =
    let known : OneAnswer = record { one_marking = c.one_marking.ensures.one_marking; never_both = c.one_marking.ensures.never_both } in
    let p = err_from_is_err_and c.from_residual-in_err-marking.result c.from_residual-in_err-marking.ensures.1 in
    rw p.1 (rw p.2 (not_inferred known c.args.text.now (program_of c.in_ok-read.read.parts) (program_of c.stripped-program.result.parts) c.in_err-marking.field-0.0
    c.in_ok-read.ensures c.stripped-program.ensures c.in_ok-check_types.ensures c.in_err-marking.ensures))

pub returns : goal.returns
returns c =
    let known : OneAnswer = record { one_marking = c.one_marking.ensures.one_marking; never_both = c.one_marking.ensures.never_both } in
    inferred known c.args.text.now (program_of c.in_ok-read.read.parts) (program_of c.stripped-program.result.parts) c.in_ok-marking.marking
    c.in_ok-read.ensures c.stripped-program.ensures c.in_ok-check_types.ensures c.in_ok-marking.ensures
