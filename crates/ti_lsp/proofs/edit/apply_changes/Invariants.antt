use Rattle.std.proofs.Common.{◌≡◌, drop, map}
use Rattle.ti_lsp.specs.Edits.{all_changed}
use Rattle.ti_lsp.specs.Views.{change_view}
use Rattle.ti_lsp.proofs.edit.apply_changes.Given as goal

abbrev pub invariant-loop-change : goal.invariant-loop-change
invariant-loop-change l = all_changed l.encoding l.new.items (map change_view (drop l.change-index l.changes)) ≡ all_changed l.encoding l.text (map change_view l.changes)
