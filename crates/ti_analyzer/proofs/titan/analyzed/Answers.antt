use Rattle.std.proofs.Common.{Option, Ok, subst}
use Rattle.ti_explain.specs.declared.reason.Explanation.{Explanation}
use Rattle.ti_explain.specs.Explanations.{Explains}
use Rattle.ti_analyzer.proofs.titan.analyzed.Goals as goal

pub returns-in_ok-diagnostic_of-in-Some : goal.returns-in_ok-diagnostic_of-in-Some
returns-in_ok-diagnostic_of-in-Some c = record {
  explanation = c.in-Some.explanation;
  explains = subst (λ (o : Option Explanation). Explains c.args.text.now (Ok o)) c.in-Some.is c.in_ok-explanation.ensures;
  is_diagnostic = c.in_ok-diagnostic_of-in-Some.ensures;
}
