-- Nobody has to believe this: it mirrors code, and only contracts of private functions speak of it.
-- How sinks are left.
use Rattle.std.specs.Prelude.{◌≡◌, ◌⊎◌}
use Rattle.ti_io.specs.Faults.{Rose}
use Rattle.ti_io.specs.Sink.{SinkState, IsFlushed}
use Rattle.ti_top.specs.declared.exit.Exit.{Exit}
use Rattle.ti_top.specs.declared.exit.Exit.TheVariants.{CantWrite}
use Rattle.ti_top.specs.declared.reports.ReportEnd.{ReportEnd}
use Rattle.ti_top.specs.declared.reports.ReportEnd.TheVariants as Report

-- no call of the sink failed, and all that it took is flushed
abbrev pub HasNoFailure : SinkState → SinkState → Type 0
HasNoFailure old new = (new ≡ old) ⊎ ((new.faults ≡ old.faults) × IsFlushed new)

-- so it is of out, unless the work ends so that out can't be written
abbrev pub LeavesOut : Exit → SinkState → SinkState → Type 0
LeavesOut ending old new = ((ending ≡ CantWrite) × Rose old.faults new.faults) ⊎ HasNoFailure old new

-- the same of the reports
abbrev pub ReportsLeave : ReportEnd → SinkState → SinkState → Type 0
ReportsLeave end old new = ((end ≡ Report.CantWrite) × Rose old.faults new.faults) ⊎ HasNoFailure old new
