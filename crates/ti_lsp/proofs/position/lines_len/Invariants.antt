use Rattle.std.proofs.Common.{◌≡◌, ◌+◌, drop}
use Rattle.ti_lsp.specs.Positions.{lines_len}
use Rattle.ti_lsp.proofs.position.lines_len.Given as goal

abbrev pub invariant-loop-byte : goal.invariant-loop-byte
invariant-loop-byte l = record {
  index : l.len ≡ l.byte-index;
  length : l.len + lines_len l.left (drop l.byte-index l.text) ≡ lines_len l.lines l.text;
}
