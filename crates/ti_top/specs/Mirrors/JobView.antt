-- Nobody has to believe this: it mirrors code, and only contracts of private functions speak of it.
-- What was done before the line on err, for each way in which it may end.
use Rattle.std.specs.Prelude.{◌≡◌, ◌⊎◌, ℕ, ◌≤◌, true, false, List, [], ◌++◌, Option, None, Some, Result, Ok, Err}
use Rattle.ti_gen.specs.Source.{source_text}
use Rattle.ti_base.specs.declared.entry.Entry.{Entry}
use Rattle.ti_io.specs.Faults.{Rose}
use Rattle.ti_io.specs.Source.{SourceState}
use Rattle.ti_io.specs.Sink.{SinkState, GrewBy, GrewByFront}
use Rattle.ti_lang.specs.Program.Classes.{ProgramView}
use Rattle.ti_lang.specs.Meaning.Histories.{has_fault}
use Rattle.ti_lang.specs.Meaning.Determinacy.{Determines}
use Rattle.ti_lang.specs.Meaning.Lines.{lines_of}
use Rattle.ti_lang.specs.Meaning.Races.{races}
use Rattle.ti_lang.specs.Meaning.Spots.{races_told}
use Rattle.ti_lang.specs.Meaning.Runs.{AllEnded, IsComplete, IsRun, IsSolo}
use Rattle.ti_top.specs.declared.fault.Fault.{Fault}
use Rattle.ti_top.specs.declared.job_result.JobResult.{JobResult}
use Rattle.ti_top.specs.declared.reading.ReadEnd.{ReadEnd}
use Rattle.ti_top.specs.declared.reading.ReadEnd.TheVariants as Read
use Rattle.ti_top.specs.declared.reports.ReportEnd.{ReportEnd}
use Rattle.ti_top.specs.declared.reports.ReportEnd.TheVariants as Report
use Rattle.ti_top.specs.declared.exit.Exit.{Exit}
use Rattle.ti_top.specs.declared.exit.Exit.TheVariants.{Done, Refused, Faulted, NoCommand, CantRead, CantWrite, NoMemory, NoRun}
use Rattle.ti_code.specs.Follows.{Follows}
use Rattle.ti_code.specs.Programs as coded
use Rattle.ti_lower.specs.Programs.{program_code}
use Rattle.ti_runtime.specs.Ran.{AreFinishedCounts}
use Rattle.ti_store.specs.Conditions.{IsWithinRunLimits}
use Rattle.ti_rules.specs.declared.refusal.Refusal.{Refusal}
use Rattle.ti_rules.specs.RefusalOf.{IsRefusal}
use Rattle.ti_blame.specs.declared.mark.Mark.{Mark}
use Rattle.ti_words.specs.declared.job.Job.{Job}
use Rattle.ti_words.specs.declared.job.Mode.{Mode}
use Rattle.ti_words.specs.declared.job.Mode.TheVariants.{Run, Check, Code, Gen, Verify, Infer}
use Rattle.ti_top.specs.Mirrors.Coding.{WroteCode}
use Rattle.ti_top.specs.Mirrors.Compiling.{IsCompiled, HasNoProgram}
use Rattle.ti_top.specs.CommandCall.{CommandCall}
use Rattle.ti_top.specs.Reports.{Watcher, wanted_watchers, reports, output, WroteFew}
use Rattle.ti_top.specs.Summary.{summary_line}
use Rattle.ti_top.specs.Inference.{IsUnmarkedRefusal}
use Rattle.ti_top.specs.Mirrors.Inferring.{IsOnlyMarking, WroteMarks}
use Rattle.ti_top.specs.Mirrors.Reading.{ReadsWhole}
use Rattle.ti_top.specs.Mirrors.Reporting.{WritesReports}
use Rattle.ti_top.specs.Mirrors.Verifying.{VerifyResult}
use Rattle.ti_top.specs.Run.{run_of, EndsWithFault}

-- a run may have so many processes, workers and ticks
pub record IsInRanges (job : Job) : Type 0 where
  pub within : IsWithinRunLimits job.procs job.fuel
  pub workers : 1 ≤ job.workers

-- what is kept of the work: the code, the entries of the run, and how many instructions each process has finished
pub record Artifacts : Type 0 where
  pub code : Option coded.Code
  pub history : List Entry
  pub done : List ℕ

-- what a job leaves: nothing, unless it has a result
abbrev pub artifacts_of : Result JobResult Exit → Artifacts
artifacts_of (Ok r) = record { code = r.code; history = r.history.items; done = r.done.items }
artifacts_of (Err ending) = record { code = None; history = []; done = [] }

-- how it ends
abbrev pub ending_of : Result JobResult Exit → Exit
ending_of (Ok r) = r.ending
ending_of (Err ending) = ending

-- the watchers that are wanted, the source and out before and after, what was read or made, and what is kept
pub record JobView : Type 0 where
  pub watchers : List Watcher
  pub source : SourceState
  pub source_after : SourceState
  pub out : SinkState
  pub out_after : SinkState
  pub text : List ℕ
  pub artifacts : Artifacts

-- how the work ends after reports that ended so
abbrev pub ending_after : ReportEnd → Exit → Exit
ending_after Report.Written ending = ending
ending_after Report.CantWrite ending = CantWrite
ending_after Report.NoMemory ending = NoMemory

-- the summary of a run that ended so
abbrev pub summary_after : Exit → List Entry → List ℕ
summary_after Done history = summary_line history
summary_after ended history = []

-- what is written before the reports on a run that ended so
abbrev pub head_after : Mode → Exit → ProgramView → List Entry → List ℕ
head_after Run ended program history = lines_of program history
head_after Gen ended program history = summary_after ended history
head_after _ ended program history = []

-- these watchers reported on a run that ended so, and the work then ends so; where memory was wanting in the run, none did
pub record ReportedAfter (ended : Exit) (watchers : List Watcher) (history : List Entry) (out out_after : SinkState)
    (ending : Exit) : Type 0 where
  pub end : ReportEnd
  pub ending_is : ending ≡ ending_after end ended
  pub reported : WritesReports watchers history out out_after end

abbrev pub ReportsAfter : Exit → List Watcher → List Entry → SinkState → SinkState → Exit → Type 0
ReportsAfter ended watchers history out out_after ending =
    ((ended ≡ NoMemory) × (ending ≡ ended) × (out_after ≡ out)) ⊎ ((ended ≡ NoMemory → ⊥)
    × ReportedAfter ended watchers history out out_after ending)

-- the head of a run that ended so was written, and the reports of the first few of these watchers: where memory was wanting in the run, of
-- none
pub record WroteFewOf (ended : Exit) (head : List ℕ) (watchers : List Watcher) (history : List Entry)
    (out out_after : SinkState) : Type 0 where
  pub few : List Watcher
  pub others : List Watcher
  pub first : few ++ others ≡ watchers
  pub grew : GrewBy out out_after (head ++ reports few history)
  pub none_of_cut : ended ≡ NoMemory → few ≡ []
  pub not_all : (ended ≡ NoMemory → ⊥) → others ≡ [] → ⊥

-- the head of a run that ended so was written, and then the reports of these watchers, up to the first call that failed
pub record WroteRun (ended : Exit) (head : List ℕ) (watchers : List Watcher) (history : List Entry) (out out_after : SinkState)
    (ending : Exit) : Type 0 where
  pub never_falls : out.faults ≤ out_after.faults
  pub tells : out_after.tells ≡ out.tells
  pub known : (ending ≡ ended) ⊎ (ending ≡ NoMemory) ⊎ (ending ≡ CantWrite)
  pub rose : ending ≡ CantWrite → (ended ≡ CantWrite → ⊥) → Rose out.faults out_after.faults
  pub all : (ending ≡ CantWrite → ⊥) → (ending ≡ NoMemory → ⊥) → out.tells ≡ true → GrewBy out out_after (head ++ reports watchers history)
  pub part : out.tells ≡ true → GrewByFront out out_after (head ++ reports watchers history)
  pub needed : ending ≡ NoMemory → (ended ≡ NoMemory → ⊥) → watchers ≡ [] → ⊥
  pub few : ending ≡ NoMemory → out.tells ≡ true → WroteFewOf ended head watchers history out out_after

-- nothing was run and nothing written, and there is no code
pub record RanNothing (out out_after : SinkState) (artifacts : Artifacts) : Type 0 where
  pub unwritten : out_after ≡ out
  pub no_entry : artifacts.history ≡ []
  pub no_code : artifacts.code ≡ None
  pub no_count : artifacts.done ≡ []

-- the program was run by its code, and what is written of it in the job's mode was written up to the first call that failed
pub record RunSays (program : ProgramView) (job : Job) (watchers : List Watcher) (out out_after : SinkState) (artifacts : Artifacts)
    (ending : Exit) : Type 0 where
  pub run : IsRun (run_of program job) artifacts.history
  pub solo : job.workers ≡ 1 → IsSolo (run_of program job) artifacts.history
  pub determines : Determines (run_of program job) artifacts.history
  pub told : races_told artifacts.history ≡ races artifacts.history
  pub ended : ending ≡ Done → AllEnded (run_of program job) artifacts.history
  pub no_fault : ending ≡ Done → has_fault artifacts.history ≡ false
  pub faulted : (fault : Fault) → ending ≡ Faulted fault → EndsWithFault artifacts.history fault
  pub unfinished : ending ≡ NoMemory → IsComplete (run_of program job) artifacts.history → watchers ≡ [] → ⊥
  pub known : (ending ≡ Done) ⊎ ((fault : Fault) × (ending ≡ Faulted fault)) ⊎ (ending ≡ NoMemory) ⊎ (ending ≡ CantWrite)
  pub never_falls : out.faults ≤ out_after.faults
  pub tells : out_after.tells ≡ out.tells
  pub rose : ending ≡ CantWrite → Rose out.faults out_after.faults
  pub all : (ending ≡ CantWrite → ⊥) → (ending ≡ NoMemory → ⊥) → out.tells ≡ true
      → GrewBy out out_after (output job program artifacts.history watchers)
  pub part : out.tells ≡ true → GrewByFront out out_after (output job program artifacts.history watchers)
  pub few : ending ≡ NoMemory → out.tells ≡ true → WroteFew job.mode (run_of program job) watchers artifacts.history out out_after
  pub code : artifacts.code ≡ Some (program_code program)
  pub follows : Follows (program_code program) program
  pub counted : IsComplete (run_of program job) artifacts.history → AreFinishedCounts (program_code program) (run_of program job) artifacts.history artifacts.done

-- so was the program of the text
pub record WasRun (job : Job) (watchers : List Watcher) (text : List ℕ) (out out_after : SinkState) (artifacts : Artifacts)
    (ending : Exit) : Type 0 where
  pub program : ProgramView
  pub compiled : IsCompiled text program
  pub says : RunSays program job watchers out out_after artifacts ending

-- the text is refused, and nothing was run
pub record WasRefused (text : List ℕ) (out out_after : SinkState) (artifacts : Artifacts) (refusal : Refusal) : Type 0 where
  pub is : IsRefusal text refusal
  pub no_program : HasNoProgram text
  pub nothing : RanNothing out out_after artifacts

-- the text has a program, and nothing was run
pub record WasChecked (text : List ℕ) (out out_after : SinkState) (artifacts : Artifacts) : Type 0 where
  pub program : ProgramView
  pub compiled : IsCompiled text program
  pub nothing : RanNothing out out_after artifacts

-- so it became of the program of the text
pub record WasCoded (text : List ℕ) (out out_after : SinkState) (artifacts : Artifacts) (ending : Exit) : Type 0 where
  pub program : ProgramView
  pub compiled : IsCompiled text program
  pub wrote : WroteCode program out out_after artifacts.code ending
  pub no_entry : artifacts.history ≡ []
  pub no_count : artifacts.done ≡ []

-- the text is refused, whatever marks it has, and nothing was written
pub record WasRefusedUnmarked (text : List ℕ) (out out_after : SinkState) (artifacts : Artifacts) (refusal : Refusal) : Type 0 where
  pub is : IsUnmarkedRefusal text refusal
  pub nothing : RanNothing out out_after artifacts

-- the marks of the text were inferred, and so they were written
pub record WasInferred (text : List ℕ) (out out_after : SinkState) (artifacts : Artifacts) (ending : Exit) : Type 0 where
  pub marks : List Mark
  pub inferred : IsOnlyMarking text marks
  pub wrote : WroteMarks marks out out_after ending
  pub no_entry : artifacts.history ≡ []
  pub no_code : artifacts.code ≡ None
  pub no_count : artifacts.done ≡ []

-- what became of a whole text that is to be run
abbrev pub RunTextSays : Exit → Job → List Watcher → List ℕ → SinkState → SinkState → Artifacts → Type 0
RunTextSays Done job watchers text out out_after artifacts = WasRun job watchers text out out_after artifacts Done
RunTextSays (Refused refusal) job watchers text out out_after artifacts = WasRefused text out out_after artifacts refusal
RunTextSays (Faulted fault) job watchers text out out_after artifacts = WasRun job watchers text out out_after artifacts (Faulted fault)
RunTextSays CantWrite job watchers text out out_after artifacts = WasRun job watchers text out out_after artifacts CantWrite
RunTextSays NoMemory job watchers text out out_after artifacts =
    RanNothing out out_after artifacts ⊎ WasRun job watchers text out out_after artifacts NoMemory
RunTextSays NoCommand job watchers text out out_after artifacts = ⊥
RunTextSays CantRead job watchers text out out_after artifacts = ⊥
RunTextSays (NoRun line) job watchers text out out_after artifacts = ⊥

-- what became of one that is to be checked
abbrev pub CheckTextSays : Exit → List ℕ → SinkState → SinkState → Artifacts → Type 0
CheckTextSays Done text out out_after artifacts = WasChecked text out out_after artifacts
CheckTextSays (Refused refusal) text out out_after artifacts = WasRefused text out out_after artifacts refusal
CheckTextSays NoMemory text out out_after artifacts = RanNothing out out_after artifacts
CheckTextSays ending text out out_after artifacts = ⊥

-- what became of one whose code is to be written
abbrev pub CodeTextSays : Exit → List ℕ → SinkState → SinkState → Artifacts → Type 0
CodeTextSays Done text out out_after artifacts = WasCoded text out out_after artifacts Done
CodeTextSays (Refused refusal) text out out_after artifacts = WasRefused text out out_after artifacts refusal
CodeTextSays CantWrite text out out_after artifacts = WasCoded text out out_after artifacts CantWrite
CodeTextSays NoMemory text out out_after artifacts = RanNothing out out_after artifacts
CodeTextSays ending text out out_after artifacts = ⊥

-- what became of one whose marks are to be inferred
abbrev pub InferTextSays : Exit → List ℕ → SinkState → SinkState → Artifacts → Type 0
InferTextSays Done text out out_after artifacts = WasInferred text out out_after artifacts Done
InferTextSays (Refused refusal) text out out_after artifacts = WasRefusedUnmarked text out out_after artifacts refusal
InferTextSays CantWrite text out out_after artifacts = WasInferred text out out_after artifacts CantWrite
InferTextSays NoMemory text out out_after artifacts = RanNothing out out_after artifacts
InferTextSays ending text out out_after artifacts = ⊥

-- what became of a whole text, in a mode
abbrev pub TextSays : Mode → Exit → Job → List Watcher → List ℕ → SinkState → SinkState → Artifacts → Type 0
TextSays Run ending job watchers text out out_after artifacts = RunTextSays ending job watchers text out out_after artifacts
TextSays Check ending job watchers text out out_after artifacts = CheckTextSays ending text out out_after artifacts
TextSays Code ending job watchers text out out_after artifacts = CodeTextSays ending text out out_after artifacts
TextSays Gen ending job watchers text out out_after artifacts = RunTextSays ending job watchers text out out_after artifacts
TextSays Verify ending job watchers text out out_after artifacts = CheckTextSays ending text out out_after artifacts
TextSays Infer ending job watchers text out out_after artifacts = InferTextSays ending text out out_after artifacts

-- what a reading that ended so leads to
abbrev pub FileSays : ReadEnd → Exit → Job → JobView → Type 0
FileSays Read.Whole ending job w = TextSays job.mode ending job w.watchers w.text w.out w.out_after w.artifacts
FileSays Read.CantRead ending job w = (ending ≡ CantRead) × RanNothing w.out w.out_after w.artifacts
FileSays Read.NoMemory ending job w = (ending ≡ NoMemory) × RanNothing w.out w.out_after w.artifacts

-- what was done where a file is named
pub record FileDone (job : Job) (ending : Exit) (w : JobView) : Type 0 where
  pub end : ReadEnd
  pub read : ReadsWhole job.file w.source w.source_after w.text end
  pub says : FileSays end ending job w

-- the text of the seed was made, or it ran out of memory before
abbrev pub SeedSays : Exit → Job → List Watcher → List ℕ → SinkState → SinkState → Artifacts → Type 0
SeedSays ending job watchers text out out_after artifacts =
    ((text ≡ source_text job.seed) × TextSays job.mode ending job watchers text out out_after artifacts)
    ⊎ ((text ≡ []) × (ending ≡ NoMemory) × RanNothing out out_after artifacts)

-- what was done where none is
pub record SeedDone (job : Job) (ending : Exit) (w : JobView) : Type 0 where
  pub unread : w.source_after ≡ w.source
  pub says : SeedSays ending job w.watchers w.text w.out w.out_after w.artifacts

-- what was done where a trace is named as well
pub record TraceDone (job : Job) (ending : Exit) (w : JobView) : Type 0 where
  pub verified : VerifyResult job ending w.source w.source_after w.text w.artifacts.history
  pub unwritten : w.out_after ≡ w.out
  pub no_code : w.artifacts.code ≡ None
  pub no_count : w.artifacts.done ≡ []

-- what was done for a command, in a mode
abbrev pub JobSays : Mode → Job → Exit → JobView → Type 0
JobSays Gen job ending w = SeedDone job ending w
JobSays Verify job ending w = TraceDone job ending w
JobSays _ job ending w = FileDone job ending w

-- what is kept of a call
abbrev pub artifacts_in : CommandCall → Artifacts
artifacts_in c = record { code = c.code; history = c.history; done = c.done }

-- what was done in a call for a job before the line on err
abbrev pub job_view_of : Job → CommandCall → JobView
job_view_of job c = record {
  watchers = wanted_watchers job c.watchers;
  source = c.source;
  source_after = c.source_after;
  out = c.out;
  out_after = c.out_after;
  text = c.text;
  artifacts = artifacts_in c;
}

-- nothing was done where the words are no command
pub record DidNothing (c : CommandCall) : Type 0 where
  pub source : c.source_after ≡ c.source
  pub text : c.text ≡ []
  pub nothing : RanNothing c.out c.out_after (artifacts_in c)
