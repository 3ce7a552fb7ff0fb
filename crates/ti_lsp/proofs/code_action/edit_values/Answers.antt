use Rattle.std.proofs.Common.{arith}
use Rattle.ti_lsp.specs.Actions.{edit_data}
use Rattle.ti_lsp.proofs.Items.{one_value}
use Rattle.ti_lsp.proofs.code_action.edit_values.Goals as goal

pub loop-edit-preserved : goal.loop-edit-preserved
loop-edit-preserved c = one_value (edit_data c.args.encoding c.args.text.now) c.args.edits.now c.loop-edit.edit-index
    c.edit-item.result c.loop-edit.values.items c.in_ok-edit_value.field-0 c.push.new.self.items (omega arith) c.edit-item.is
    c.loop-edit.invariant c.in_ok-edit_value.ensures c.in_ok-push.ensures.items
