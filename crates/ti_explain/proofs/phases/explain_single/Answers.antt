use Rattle.std.proofs.Common.{Err, subst}
use Rattle.ti_lang.specs.Program.Views.{program_of}
use Rattle.ti_check.specs.Answer.{GivesChecked}
use Rattle.ti_check.specs.declared.error.CheckErr.{CheckErr}
use Rattle.ti_explain.specs.Explanations.{of_single}
use Rattle.ti_explain.proofs.Explained.{by_single}
use Rattle.ti_explain.proofs.phases.explain_single.Goals as goal

pub single_reasons-requires : goal.single_reasons-requires
single_reasons-requires c =
    by_single (program_of c.args.program.parts) (program_of c.in_ok-copy.field-0.parts) c.in-Err-Refused.refusal c.in_ok-copy.ensures c.requires
    (subst (λ (e : CheckErr). GivesChecked c.in_ok-copy.field-0 (Err e)) c.in-Err-Refused.field-0-is c.in-Err-Refused.ensures)

pub returns-in-Err-Refused : goal.returns-in-Err-Refused
returns-in-Err-Refused c =
    of_single c.requires
    (by_single (program_of c.args.program.parts) (program_of c.in_ok-copy.field-0.parts) c.in-Err-Refused.refusal c.in_ok-copy.ensures c.requires
    (subst (λ (e : CheckErr). GivesChecked c.in_ok-copy.field-0 (Err e)) c.in-Err-Refused.field-0-is c.in-Err-Refused.ensures))
    c.in_ok-reasons-in-Err-Refused.ensures
