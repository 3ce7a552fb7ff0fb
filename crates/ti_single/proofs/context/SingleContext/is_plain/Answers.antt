use Rattle.std.proofs.Common.{not, ap, ◌∙◌}
use Rattle.ti_lang.specs.Program.Scope.{ScopeContents}
use Rattle.ti_lang.specs.Program.Views.{expression_of}
use Rattle.ti_lang.specs.Typing.Singleness.{is_single}
use Rattle.ti_rules.specs.StmtInContext.{singles_in}
use Rattle.ti_single.specs.Contexts.{program_at}
use Rattle.ti_single.proofs.Contexts.{scope_is}
use Rattle.ti_single.proofs.context.SingleContext.is_plain.Goals as goal

pub returns : goal.returns
returns c = ap not (c.is_single.ensures ∙ ap (λ (z : ScopeContents). is_single (program_at c.args.self) z.this_class (singles_in z) (expression_of c.args.expr.now)) (scope_is c.args.self))
