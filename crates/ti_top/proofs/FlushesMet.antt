-- From how sinks were left to the clauses on calls that fail and on flushes.
use Rattle.std.proofs.Common.{◌≡◌, inl, inr, arith, ◌∙◌, ap}
use Rattle.ti_io.specs.Sink.{SinkState}
use Rattle.ti_top.specs.declared.exit.Exit.{Exit}
use Rattle.ti_top.specs.declared.exit.Exit.TheVariants.{CantWrite}
use Rattle.ti_top.specs.CommandCall.{CommandCall, named_file}
use Rattle.ti_top.specs.Exit.{status_of}
use Rattle.ti_top.specs.Flushing.{HasFailed, IsHandedOn, FlushesOut, FlushesErr}
use Rattle.ti_top.specs.Mirrors.EndsWithLine.{EndsWithLine}
use Rattle.ti_top.specs.Mirrors.Leaving.{HasNoFailure, LeavesOut}
use Rattle.ti_top.proofs.StatusFrom.{StatusFrom}

-- where no call failed all is flushed
handed_on : (s0 s1 : SinkState) → HasNoFailure s0 s1 → IsHandedOn s0 s1
handed_on s0 s1 (inl same) = inl same
handed_on s0 s1 (inr left) = inr left.1

-- and the count is as it was
unrisen : (s0 s1 : SinkState) → HasNoFailure s0 s1 → HasFailed s0 s1 → ⊥
unrisen s0 s1 (inl same) failed = let still = ap (λ (s : SinkState). s.faults) same in omega (arith, still, failed)
unrisen s0 s1 (inr left) failed = omega (arith, left.0, failed)

-- where out can't be written the status is 5, whatever becomes of err
five_at : (c : CommandCall) (before : Exit) → StatusFrom before c → before ≡ CantWrite → c.status ≡ 5
five_at c before (inl same) is = same ∙ ap status_of is
five_at c before (inr cut) is = cut.0

pub flushes_out : (c : CommandCall) (before : Exit) → StatusFrom before c → LeavesOut before c.out c.out_after → FlushesOut c
flushes_out c before from (inl cut) = record {
  five = λ _. five_at c before from cut.0;
  flushed = λ whole. absurd (whole (five_at c before from cut.0, cut.1));
}
flushes_out c before from (inr unfailed) = record {
  five = λ failed. absurd (unrisen c.out c.out_after unfailed failed);
  flushed = λ _. handed_on c.out c.out_after unfailed;
}

pub flushes_err : (c : CommandCall) (before : Exit) → EndsWithLine before (named_file c) c.err c.err_after c.status → FlushesErr c
flushes_err c before ended = record {
  five = λ failed. elim ended.written [ inl whole ↦ absurd (unrisen c.err c.err_after whole.unfailed failed) | inr cut ↦ cut.five ];
  flushed = λ calm. elim ended.written [
    | inl whole ↦ handed_on c.err c.err_after whole.unfailed
    | inr cut ↦ absurd (calm (cut.five, cut.rose))
  ];
}
