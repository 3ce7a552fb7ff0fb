use Rattle.ti_lsp_frames.proofs.Whole.{reads_whole}
use Rattle.ti_lsp_frames.proofs.message.read_message.Goals as goal

pub returns-clause-whole : goal.returns-clause-whole
returns-clause-whole g c = reads_whole (λ v. v.items) _ _ c.read_next.result c.read_next.ensures.message c.read_next.ensures.end c.read_next.ensures.error
