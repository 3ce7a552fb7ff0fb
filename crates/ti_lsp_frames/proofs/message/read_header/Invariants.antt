use Rattle.ti_lsp_frames.proofs.Headers.{HasRead}
use Rattle.ti_lsp_frames.proofs.message.read_header.Given as goal

abbrev pub invariant-loop-count : goal.invariant-loop-count
invariant-loop-count g l = HasRead (g.R.Read.remaining l.fn.reader) (g.R.Read.remaining l.reader) l.length l.count
