use Rattle.std.proofs.Common.{◌≡◌, ◌+◌, drop}
use Rattle.ti_lsp.specs.Positions.{units_len}
use Rattle.ti_lsp.proofs.position.units_len.Given as goal

abbrev pub invariant-loop-byte : goal.invariant-loop-byte
invariant-loop-byte l = record {
  index : l.len ≡ l.byte-index;
  length : l.len + units_len l.encoding l.left (drop l.byte-index l.line) ≡ units_len l.encoding l.units l.line;
}
