use Rattle.std.proofs.Common.{Bool, Result, Err, IfOk, sym, subst}
use Rattle.ti_base.specs.declared.memory.Memory.{Memory}
use Rattle.ti_syntax.specs.Trees.Text.{tree_of}
use Rattle.ti_parse.specs.Answer.{Parsed}
use Rattle.ti_parse_expr.specs.declared.error.ParseErr.{ParseErr}
use Rattle.ti_explain.specs.Mirrors.Trials.{BeginsIf}
use Rattle.ti_explain.proofs.TrialLaws.{tree_begins, refusal_begins}
use Rattle.ti_explain.proofs.expected.begins_text.Goals.{in-Ok, in-Err-Refused, in-Err-Memory}
use Rattle.ti_explain.proofs.expected.begins_text.Goals as goal

pub returns : goal.returns
returns c =
    elim c.match-parse.branch [
      | in-Ok w ↦
          subst (λ (r : Result Bool Memory). IfOk r (BeginsIf c.args.tokens.now)) (sym w.result-is)
          (tree_begins c.args.tokens.now (tree_of w.in-Ok.field-0) w.in-Ok.ensures.answer.0)
      | in-Err-Refused w ↦
          subst (λ (r : Result Bool Memory). IfOk r (BeginsIf c.args.tokens.now)) (sym w.result-is)
          (subst (BeginsIf c.args.tokens.now) (sym w.moves_on.ensures)
          (refusal_begins c.args.tokens.now w.in-Err-Refused.refusal
          (subst (λ (e : ParseErr). Parsed c.args.tokens.now (Err e)) w.in-Err-Refused.field-0-is w.in-Err-Refused.ensures.answer)))
      | in-Err-Memory w ↦ subst (λ (r : Result Bool Memory). IfOk r (BeginsIf c.args.tokens.now)) (sym w.result-is) tt
    ]
