use Rattle.std.proofs.Common.{Err, sym, ap, ◌∙◌, subst}
use Rattle.ti_lang.specs.Program.Views.{program_of}
use Rattle.ti_check.specs.Answer.{GivesTyped}
use Rattle.ti_check.specs.declared.error.CheckErr.{CheckErr}
use Rattle.ti_infer.specs.Stripped.{stripped}
use Rattle.ti_explain_infer.proofs.Inferring.{type_refusal, untyped, typed}
use Rattle.ti_explain_infer.proofs.inference.explain_program.Goals as goal

pub explain_chain-requires-clause-stripped : goal.explain_chain-requires-clause-stripped
explain_chain-requires-clause-stripped c =
    ap stripped c.stripped-program.ensures ∙ c.stripped_once.ensures (program_of c.args.program.parts) ∙ sym c.stripped-program.ensures

pub returns-in-Ok : goal.returns-in-Ok
returns-in-Ok c =
    typed c.args.text.now (program_of c.args.program.parts) (program_of c.stripped-program.result.parts) c.explain_chain.result
    c.requires c.stripped-program.ensures c.in-Ok.ensures c.explain_chain.ensures

pub returns-in-Err-Refused : goal.returns-in-Err-Refused
returns-in-Err-Refused c =
    let plain = program_of c.stripped-program.result.parts in
    untyped c.args.text.now c.in-Err-Refused.refusal c.in_ok-explain_types-in-Err-Refused.field-0
    (type_refusal c.args.text.now (program_of c.args.program.parts) plain c.in-Err-Refused.refusal c.requires c.stripped-program.ensures
    (subst (λ (e : CheckErr). GivesTyped {T = Unit {0}} plain (Err e)) c.in-Err-Refused.field-0-is c.in-Err-Refused.ensures))
    c.in_ok-explain_types-in-Err-Refused.ensures
