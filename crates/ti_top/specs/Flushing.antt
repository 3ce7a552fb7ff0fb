-- Failed writes to standard output and standard error, and whether what was written is flushed.
use Rattle.std.specs.Prelude.{◌≡◌, ◌⊎◌, ◌<◌}
use Rattle.ti_io.specs.Sink.{SinkState, IsFlushed}
use Rattle.ti_top.specs.CommandCall.{CommandCall, OutRose, ErrRose}

-- a call of a sink failed: its count of faults rose
abbrev pub HasFailed : SinkState → SinkState → Type 0
HasFailed before after = before.faults < after.faults

-- the sink is unchanged, or all that was written to it is flushed
abbrev pub IsHandedOn : SinkState → SinkState → Type 0
IsHandedOn before after = (after ≡ before) ⊎ IsFlushed after

-- Standard output: a write or a flush that failed makes the status 5; if none failed, all that was written is flushed.
pub record FlushesOut (c : CommandCall) : Type 0 where
  pub five : HasFailed c.out c.out_after → c.status ≡ 5
  pub flushed : ((c.status ≡ 5) × OutRose c → ⊥) → IsHandedOn c.out c.out_after

-- Standard error: a write or a flush that failed makes the status 5; if none failed, all that was written is flushed.
pub record FlushesErr (c : CommandCall) : Type 0 where
  pub five : HasFailed c.err c.err_after → c.status ≡ 5
  pub flushed : ((c.status ≡ 5) × ErrRose c → ⊥) → IsHandedOn c.err c.err_after
