use Rattle.std.proofs.Common.{false, get_or, map}
use Rattle.ti_lang.specs.Program.Views.{numbered_params_of, numbered_result_of, numbered_method_of, statement_of}
use Rattle.ti_blame.specs.Marks.{marks_of}
use Rattle.ti_infer.proofs.MarkedVariables.{method_told}
use Rattle.ti_infer.proofs.annotate.methods.mark_method.Goals as goal

pub returns : goal.returns
returns c =
    method_told (marks_of c.args.marks.now) (numbered_method_of c.args.method.now) c.is_marked-is_single.result c.is_marked-is_result_single.result _ c.mark_words.new.words.items
    (numbered_result_of c.mark_result.new.ty) (numbered_params_of c.mark_params.new.params) (map statement_of c.mark_statements.new.stmts.items)
    (λ number. get_or c.in_ok-variables.variables.singles.items number false) c.is_marked-is_single.ensures c.is_marked-is_result_single.ensures c.in_ok-mark_words.ensures c.logical_or-method.ensures
    c.in_ok-mark_result.ensures c.in_ok-mark_params.ensures c.in_ok-variables.ensures c.in_ok-mark_statements.ensures
