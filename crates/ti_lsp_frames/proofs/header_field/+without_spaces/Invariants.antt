use Rattle.std.proofs.Common.{length}
use Rattle.ti_lsp_frames.proofs.header_field.+without_spaces.Given as goal

abbrev pub decreases-without_spaces : goal.decreases-without_spaces
decreases-without_spaces l = length l.value.now
