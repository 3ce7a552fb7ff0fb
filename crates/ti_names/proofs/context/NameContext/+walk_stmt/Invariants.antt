use Rattle.std.proofs.Common.{◌≡◌, ◌++◌, map, drop}
use Rattle.ti_syntax.specs.Trees.Statements.{stms}
use Rattle.ti_syntax.specs.Trees.Views.{stm_of}
use Rattle.ti_lang.specs.Program.Views.{statement_of}
use Rattle.ti_lang.specs.Scopes.{behind_all}
use Rattle.ti_lang.specs.Nodes.{stms_nodes}
use Rattle.ti_rules.specs.Mirrors.First.{earlier_of}
use Rattle.ti_names.specs.Found.{first_in}
use Rattle.ti_names.specs.Mirrors.Numbered.{number_list}
use Rattle.ti_names.specs.Seen.{site_of}
use Rattle.ti_names.proofs.context.NameContext.+walk_stmt.Given as goal

abbrev pub invariant-stms-loop-stmt : goal.invariant-stms-loop-stmt
invariant-stms-loop-stmt l = record {
  part : map statement_of l.ys.items ++ number_list (site_of l.self) (map stm_of (drop l.stmt-index l.stmts)) ≡ number_list (site_of l.initial.self) (map stm_of l.stmts);
  refusal : earlier_of l.refusal (first_in (stms_nodes (site_of l.self) (stms (map stm_of (drop l.stmt-index l.stmts))))) ≡ first_in (stms_nodes (site_of l.initial.self) (stms (map stm_of l.stmts)));
  site : behind_all (site_of l.self) (stms (map stm_of (drop l.stmt-index l.stmts))) ≡ behind_all (site_of l.initial.self) (stms (map stm_of l.stmts));
}
