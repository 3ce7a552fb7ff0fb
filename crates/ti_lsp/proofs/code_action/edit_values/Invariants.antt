use Rattle.std.proofs.Common.{◌≡◌, map, take}
use Rattle.serde_json.specs.View.{view}
use Rattle.ti_lsp.specs.Actions.{edit_data}
use Rattle.ti_lsp.proofs.code_action.edit_values.Given as goal

abbrev pub invariant-loop-edit : goal.invariant-loop-edit
invariant-loop-edit l = map view l.values.items ≡ map (edit_data l.encoding l.text) (take l.edit-index l.edits)
