use Rattle.std.proofs.Common.{sym, ◌∙◌}
use Rattle.ti_lang.specs.Program.Views.{statement_of}
use Rattle.ti_rules.specs.StmtInContext.{stands}
use Rattle.ti_single.specs.Contexts.{program_at, around_of}
use Rattle.ti_explain.proofs.FoundLaws.{found_it}
use Rattle.ti_explain.proofs.search.found_here.Goals as goal

pub returns-in_ok-reasons_here : goal.returns-in_ok-reasons_here
returns-in_ok-reasons_here c =
    found_it (program_at c.args.site) c.args.sought (stands (around_of c.args.site) (statement_of c.args.stmt.now)) c.in_ok-reasons_here.field-0
    (sym c.own_refusal.ensures ∙ c.is_refused_as.ensures.0 c.if-is_refused_as.true) c.in_ok-reasons_here.ensures
