-- One call of the command: its arguments and its results.
use Rattle.std.specs.Prelude.{◌≡◌, ◌⊎◌, ℕ, ◌<◌, ◌+◌, List, [], None, Some}
use Rattle.std.specs.declared.option.Option.{Option}
use Rattle.ti_base.specs.declared.entry.Entry.{Entry}
use Rattle.ti_io.specs.Faults.{Rose}
use Rattle.ti_io.specs.Source.{SourceState}
use Rattle.ti_io.specs.Sink.{SinkState}
use Rattle.ti_rules.specs.LexicalRefusals.{most_bytes}
use Rattle.ti_code.specs.Programs.{Code}
use Rattle.ti_words.specs.declared.job.Job.{Job}
use Rattle.ti_words.specs.Job.{job_of}
use Rattle.ti_top.specs.Reports.{Watcher, wanted_watchers}

-- the most bytes of a file that are read: one more than a program may have
abbrev pub most_read : ℕ
most_read = most_bytes + 1

-- the arguments and the watchers; the source and the sinks before and after the call; and the outcome
pub record CommandCall : Type 0 where
  pub words : List (List ℕ)
  pub watchers : List Watcher
  pub source : SourceState
  pub source_after : SourceState
  pub out : SinkState
  pub out_after : SinkState
  pub err : SinkState
  pub err_after : SinkState
  pub status : ℕ
  -- what was read, or generated
  pub text : List ℕ
  -- the code of the program
  pub code : Option Code
  -- the entries of the run
  pub history : List Entry
  -- for each process, how many instructions it has finished
  pub done : List ℕ

-- the arguments are the command for this job
abbrev pub IsCommand : CommandCall → Job → Type 0
IsCommand c job = job_of c.words ≡ Some job

-- the arguments are no command
abbrev pub IsNoCommand : CommandCall → Type 0
IsNoCommand c = job_of c.words ≡ None

abbrev pub file_in : Option Job → List ℕ
file_in None = []
file_in (Some job) = job.file

-- the file that the arguments name, or the empty name if they are no command
abbrev pub named_file : CommandCall → List ℕ
named_file c = file_in (job_of c.words)

-- a count of faults rose in the call
abbrev pub SourceRose : CommandCall → Type 0
SourceRose c = Rose c.source.faults c.source_after.faults

-- a read of the source failed in the call: its count of faults is greater after it
abbrev pub SourceFailed : CommandCall → Type 0
SourceFailed c = c.source.faults < c.source_after.faults

abbrev pub OutRose : CommandCall → Type 0
OutRose c = Rose c.out.faults c.out_after.faults

abbrev pub ErrRose : CommandCall → Type 0
ErrRose c = Rose c.err.faults c.err_after.faults

abbrev pub SinkRose : CommandCall → Type 0
SinkRose c = OutRose c ⊎ ErrRose c

-- a failure that takes precedence over the status that the arguments and the text call for: memory ran out, or a write failed
abbrev pub IsPreempted : CommandCall → Type 0
IsPreempted c = (c.status ≡ 6) ⊎ ((c.status ≡ 5) × SinkRose c)

-- one of the watchers is wanted
abbrev pub WantsReport : Job → CommandCall → Type 0
WantsReport job c = wanted_watchers job c.watchers ≡ [] → ⊥
