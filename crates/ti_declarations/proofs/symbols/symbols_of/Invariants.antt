use Rattle.std.proofs.Common.{All}
use Rattle.ti_lsp.specs.Symbols.{IsSymbolOf}
use Rattle.ti_declarations.proofs.symbols.symbols_of.Given as goal

abbrev pub invariant-loop-index : goal.invariant-loop-index
invariant-loop-index l = All (IsSymbolOf l.text) l.symbols.items
