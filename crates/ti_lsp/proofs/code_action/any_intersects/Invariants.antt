use Rattle.std.proofs.Common.{◌≡◌, drop}
use Rattle.ti_lsp.specs.Actions.{any_intersects}
use Rattle.ti_lsp.proofs.code_action.any_intersects.Given as goal

abbrev pub invariant-loop-edit : goal.invariant-loop-edit
invariant-loop-edit l = any_intersects l.encoding l.text l.edits l.range ≡ any_intersects l.encoding l.text (drop l.edit-index l.edits) l.range
