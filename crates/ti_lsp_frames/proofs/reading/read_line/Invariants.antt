use Rattle.std.proofs.Common.{◌≡◌, ◌≤◌, ◌-◌, length, true}
use Rattle.std.specs.Io.KnownBytes.{Consumes}
use Rattle.ti_lsp_frames.specs.Messages.{has_no_feed}
use Rattle.ti_lsp_frames.proofs.reading.read_line.Given as goal

abbrev pub invariant-bytes : goal.invariant-bytes
invariant-bytes g l = record {
  taken : Consumes (g.R.Read.remaining l.fn.reader) (g.R.Read.remaining l.reader) l.line.items;
  one_line : has_no_feed l.line.items ≡ true;
  short : length l.line.items ≤ 1002;
}

abbrev pub decreases-bytes : goal.decreases-bytes
decreases-bytes g l = 1002 - length l.line.items
