use Rattle.std.proofs.Common.{◌≤◌, drop, length}
use Rattle.ti_lsp.proofs.Edited.{Edits}
use Rattle.ti_lsp.proofs.edit.apply_edits.Given as goal

abbrev pub invariant-loop-edit : goal.invariant-loop-edit
invariant-loop-edit l = record {
  within : l.from ≤ length l.text;
  edits : Edits l.text l.edits (drop l.edit-index l.edits) l.new.items l.from;
}
