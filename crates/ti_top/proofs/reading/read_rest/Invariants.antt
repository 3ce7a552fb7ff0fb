use Rattle.std.proofs.Common.{◌≡◌, ◌-◌, length, vec_len}
use Rattle.ti_top.specs.CommandCall.{most_read}
use Rattle.ti_top.proofs.ReadSoFar.{ReadSoFar}
use Rattle.ti_top.proofs.reading.read_rest.Given as goal

abbrev pub invariant-pieces : goal.invariant-pieces
invariant-pieces g l = record { so_far : ReadSoFar l.name (g.S.Source.state l.initial.source) (g.S.Source.state l.source) l.text.items; room : length l.buf ≡ 4096 }

abbrev pub decreases-pieces : goal.decreases-pieces
decreases-pieces g l = most_read - vec_len l.text
