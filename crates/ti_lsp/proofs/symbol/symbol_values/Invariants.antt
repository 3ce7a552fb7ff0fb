use Rattle.std.proofs.Common.{◌≡◌, map, take}
use Rattle.serde_json.specs.View.{view}
use Rattle.ti_lsp.specs.Symbols.{symbol_data}
use Rattle.ti_lsp.proofs.symbol.symbol_values.Given as goal

abbrev pub invariant-loop-symbol : goal.invariant-loop-symbol
invariant-loop-symbol l = map view l.values.items ≡ map (symbol_data l.encoding l.uri l.text) (take l.symbol-index l.symbols)
