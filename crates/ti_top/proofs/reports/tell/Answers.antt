use Rattle.std.proofs.Common.{◌++◌, [], ◌∷◌, ap, ◌∙◌, append_assoc}
use Rattle.ti_top.proofs.HistoryTurns.{entry_turn, told_all}
use Rattle.ti_top.proofs.reports.tell.Goals as goal

pub entries-preserved : goal.entries-preserved
entries-preserved g c = record {
  left = entry_turn _ _ _ _ _ c.entries.invariant.left c.in-Some.ensures.steps;
  kind = c.see_one.ensures.kind ∙ c.entries.invariant.kind;
  told = c.in_ok-see_one.ensures.told ∙ ap (λ t. t ++ c.in-Some.entry ∷ []) c.entries.invariant.told ∙ append_assoc _ c.entries.yielded (c.in-Some.entry ∷ []);
}

pub returns-clause-told : goal.returns-clause-told
returns-clause-told g c = told_all _ _ _ _ _ c.entries.invariant.left c.in-None.ensures.steps.0 c.entries.invariant.told
