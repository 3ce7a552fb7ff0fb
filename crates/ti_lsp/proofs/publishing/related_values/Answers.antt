use Rattle.std.proofs.Common.{arith}
use Rattle.ti_lsp.specs.Diagnostics.{related_data}
use Rattle.ti_lsp.proofs.Items.{one_value}
use Rattle.ti_lsp.proofs.publishing.related_values.Goals as goal

pub loop-related-preserved : goal.loop-related-preserved
loop-related-preserved c = one_value (related_data c.args.encoding c.args.uri.now c.args.text.now) c.args.places.now c.loop-related.related-index
    c.related-item.result c.loop-related.values.items c.in_ok-related_value.field-0 c.push.new.self.items (omega arith) c.related-item.is
    c.loop-related.invariant c.in_ok-related_value.ensures c.in_ok-push.ensures.items
