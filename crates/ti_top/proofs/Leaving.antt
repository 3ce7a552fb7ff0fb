-- Sinks of which no call failed, one moment after the other.
use Rattle.std.proofs.Common.{inl, inr, ℕ, sym, ◌∙◌, ap, subst}
use Rattle.ti_io.specs.Faults.{Rose}
use Rattle.ti_io.specs.Sink.{SinkState, IsFlushed}
use Rattle.ti_top.specs.declared.exit.Exit.{Exit}
use Rattle.ti_top.specs.declared.reports.ReportEnd.{ReportEnd}
use Rattle.ti_top.specs.Mirrors.Leaving.{HasNoFailure, LeavesOut, ReportsLeave}

-- nothing failed, and then nothing did again
pub unfailed_then : (s0 s1 s2 : SinkState) → HasNoFailure s0 s1 → HasNoFailure s1 s2 → HasNoFailure s0 s2
unfailed_then s0 s1 s2 (inl same) next = subst (λ (s : SinkState). HasNoFailure s s2) same next
unfailed_then s0 s1 s2 (inr first) (inl same) =
    inr (ap (λ (s : SinkState). s.faults) same ∙ first.0, subst (λ (s : SinkState). IsFlushed s) (sym same) first.1)
unfailed_then s0 s1 s2 (inr first) (inr next) = inr (next.0 ∙ first.0, next.1)

-- what rose behind calls that didn't fail rose from the beginning
rose_behind : (s0 s1 s2 : SinkState) → HasNoFailure s0 s1 → Rose s1.faults s2.faults → Rose s0.faults s2.faults
rose_behind s0 s1 s2 (inl same) rose = subst (λ (s : SinkState). Rose s.faults s2.faults) same rose
rose_behind s0 s1 s2 (inr first) rose = subst (λ (n : ℕ). Rose n s2.faults) first.0 rose

-- nothing failed, and then the work ends so
pub leaves_then : (ending : Exit) (s0 s1 s2 : SinkState) → HasNoFailure s0 s1 → LeavesOut ending s1 s2 → LeavesOut ending s0 s2
leaves_then ending s0 s1 s2 first (inl cut) = inl (cut.0, rose_behind s0 s1 s2 first cut.1)
leaves_then ending s0 s1 s2 first (inr next) = inr (unfailed_then s0 s1 s2 first next)

-- nothing failed, and then the reports end so
pub reports_leave_then : (end : ReportEnd) (s0 s1 s2 : SinkState) → HasNoFailure s0 s1 → ReportsLeave end s1 s2 → ReportsLeave end s0 s2
reports_leave_then end s0 s1 s2 first (inl cut) = inl (cut.0, rose_behind s0 s1 s2 first cut.1)
reports_leave_then end s0 s1 s2 first (inr next) = inr (unfailed_then s0 s1 s2 first next)
