use Rattle.std.proofs.Common.{sym, ap, ◌∙◌, arith}
use Rattle.ti_rules.specs.Mirrors.First.{earlier_of, earliest}
use Rattle.ti_lang.specs.Program.Classes.{NumberedParam}
use Rattle.ti_rules.specs.Broken.Words.{type_word_refusals}
use Rattle.ti_lang.specs.Program.Views.{numbered_param_of}
use Rattle.ti_types.proofs.Lemmas.{none_sooner, seen_step, seen_end}
use Rattle.ti_check.proofs.declarations.all_param_words.Goals as goal

pub loop-param-init : goal.loop-param-init
loop-param-init c = none_sooner _

pub loop-param-preserved : goal.loop-param-preserved
loop-param-preserved c = c.loop-param.invariant ∙ seen_step numbered_param_of
    (λ (x : NumberedParam). type_word_refusals c.args.may_be_single x.ty) c.args.params.now c.loop-param.param-index c.param-item.result
    c.loop-param.found c.earlier_of-found.result (omega arith) (c.earlier_of-found.ensures
    ∙ ap (earlier_of c.loop-param.found) (c.param_words.ensures ∙ ap (λ z. earliest
    ((λ (x : NumberedParam). type_word_refusals c.args.may_be_single x.ty) (numbered_param_of z))) c.param-item.is))

pub returns : goal.returns
returns c = sym (c.loop-param.invariant ∙ seen_end numbered_param_of
    (λ (x : NumberedParam). type_word_refusals c.args.may_be_single x.ty) c.args.params.now c.loop-param.param-index c.loop-param.found
    (omega arith))
