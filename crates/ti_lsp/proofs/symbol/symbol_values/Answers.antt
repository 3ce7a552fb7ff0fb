use Rattle.std.proofs.Common.{arith}
use Rattle.ti_lsp.specs.Symbols.{symbol_data}
use Rattle.ti_lsp.proofs.Items.{one_value}
use Rattle.ti_lsp.proofs.symbol.symbol_values.Goals as goal

pub loop-symbol-preserved : goal.loop-symbol-preserved
loop-symbol-preserved c = one_value (symbol_data c.args.encoding c.args.uri.now c.args.text.now) c.args.symbols.now c.loop-symbol.symbol-index
    c.symbol-item.result c.loop-symbol.values.items c.in_ok-symbol_value.field-0 c.push.new.self.items (omega arith) c.symbol-item.is
    c.loop-symbol.invariant c.in_ok-symbol_value.ensures c.in_ok-push.ensures.items
