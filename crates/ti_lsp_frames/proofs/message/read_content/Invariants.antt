use Rattle.std.proofs.Common.{◌≤◌, ◌-◌, length}
use Rattle.std.specs.Io.KnownBytes.{Consumes}
use Rattle.ti_lsp_frames.proofs.message.read_content.Given as goal

abbrev pub invariant-bytes : goal.invariant-bytes
invariant-bytes g l = record {
  taken : Consumes (g.R.Read.remaining l.fn.reader) (g.R.Read.remaining l.reader) l.content.items;
  short : length l.content.items ≤ l.length;
}

abbrev pub decreases-bytes : goal.decreases-bytes
decreases-bytes g l = l.length - length l.content.items
