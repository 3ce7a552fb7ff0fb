use Rattle.std.proofs.Common.{Err, subst}
use Rattle.ti_lang.specs.Program.Views.{program_of}
use Rattle.ti_check.specs.Answer.{GivesTyped}
use Rattle.ti_check.specs.declared.error.CheckErr.{CheckErr}
use Rattle.ti_explain.specs.Explanations.{of_types}
use Rattle.ti_explain.proofs.phases.explain_program.Goals as goal

pub type_reasons-requires : goal.type_reasons-requires
type_reasons-requires c =
    subst (λ (e : CheckErr). GivesTyped {T = Unit {0}} (program_of c.args.program.parts) (Err e)) c.in-Err-Refused.field-0-is c.in-Err-Refused.ensures

pub returns-in-Err-Refused : goal.returns-in-Err-Refused
returns-in-Err-Refused c =
    of_types (subst (λ (e : CheckErr). GivesTyped {T = Unit {0}} (program_of c.args.program.parts) (Err e)) c.in-Err-Refused.field-0-is c.in-Err-Refused.ensures)
    c.in_ok-reasons-in-Err-Refused.ensures
