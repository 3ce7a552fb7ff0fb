use Rattle.std.proofs.Common.{Err, sym, subst}
use Rattle.ti_syntax.specs.Trees.Text.{tree_of}
use Rattle.ti_lang.specs.Program.Views.{program_of}
use Rattle.ti_names.specs.Answer.{Resolves}
use Rattle.ti_names.specs.declared.error.NameErr.{NameErr}
use Rattle.ti_explain.specs.Explanations.{AreTreeReasons, of_names}
use Rattle.ti_explain.proofs.Explained.{program_then}
use Rattle.ti_explain.proofs.phases.explain_tree.Goals as goal

pub returns-in-Ok : goal.returns-in-Ok
returns-in-Ok c =
    let tree = tree_of c.args.tree.now in
    let p = program_of c.in-Ok.program.parts in
    program_then tree p c.explain_program.result (c.one_program.ensures.unbroken tree p c.in-Ok.ensures.resolves) c.in-Ok.ensures.resolves c.explain_program.ensures

pub returns-in_ok-reasons-in-Err-Refused : goal.returns-in_ok-reasons-in-Err-Refused
returns-in_ok-reasons-in-Err-Refused c =
    let tree = tree_of c.args.tree.now in
    subst (AreTreeReasons tree c.in-Err-Refused.refusal) (sym c.in_ok-reasons-in-Err-Refused.ensures)
    (of_names (subst (λ (e : NameErr). Resolves tree (Err e)) c.in-Err-Refused.field-0-is c.in-Err-Refused.ensures.resolves))
