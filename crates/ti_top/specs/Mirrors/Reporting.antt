-- Nobody has to believe this: it mirrors code, and only contracts of private functions speak of it.
-- What writing the reports leaves.
use Rattle.std.specs.Prelude.{◌≡◌, ◌≤◌, true, List, [], ◌++◌}
use Rattle.ti_base.specs.declared.entry.Entry.{Entry}
use Rattle.ti_io.specs.Faults.{Rose}
use Rattle.ti_io.specs.Sink.{SinkState, GrewBy, GrewByFront}
use Rattle.ti_top.specs.Reports.{Watcher, reports}
use Rattle.ti_top.specs.declared.reports.ReportEnd.{ReportEnd}
use Rattle.ti_top.specs.declared.reports.ReportEnd.TheVariants.{Written, CantWrite, NoMemory}

-- the reports of the first few of these watchers were written, and not those of all
pub record ReportedFew (watchers : List Watcher) (history : List Entry) (out out_after : SinkState) : Type 0 where
  pub few : List Watcher
  pub others : List Watcher
  pub first : few ++ others ≡ watchers
  pub missing : others ≡ [] → ⊥
  pub grew : GrewBy out out_after (reports few history)

-- the watchers were told the history and their reports written, up to the first call that failed
pub record WritesReports (watchers : List Watcher) (history : List Entry) (out out_after : SinkState) (end : ReportEnd) : Type 0 where
  pub never_falls : out.faults ≤ out_after.faults
  pub tells : out_after.tells ≡ out.tells
  pub rose : end ≡ CantWrite → Rose out.faults out_after.faults
  pub all : end ≡ Written → out.tells ≡ true → GrewBy out out_after (reports watchers history)
  pub part : out.tells ≡ true → GrewByFront out out_after (reports watchers history)
  -- watchers alone take memory
  pub needed : end ≡ NoMemory → watchers ≡ [] → ⊥
  pub few : end ≡ NoMemory → out.tells ≡ true → ReportedFew watchers history out out_after
