use Rattle.std.proofs.Common.{ap, ◌∙◌, rules}
use Rattle.std.proofs.lemmas.Int.{wraps}
use Rattle.std.proofs.lemmas.List.Sums.{fold_push}
use Rattle.ti_top.specs.Summary.{print_count}
use Rattle.ti_top.proofs.HistoryTurns.{entry_turn, entries_end}
use Rattle.ti_top.proofs.summary.prints_in.Goals as goal

pub entries-preserved : goal.entries-preserved
entries-preserved c = record {
  left = entry_turn _ _ _ _ _ c.entries.invariant.left c.in-Some.ensures.steps;
  count = search (rules, fold_push);
  sum = search (rules, wraps, fold_push);
}

pub returns-clause-count : goal.returns-clause-count
returns-clause-count c = c.entries.invariant.count ∙ ap print_count (entries_end _ _ _ c.entries.invariant.left c.in-None.ensures.steps.0)
