-- Nobody has to believe this: it mirrors code, and only contracts of private functions speak of it.
-- What holding a trace against the program of a text leaves.
use Rattle.std.specs.Prelude.{◌≡◌, ◌⊎◌, ℕ, ◌+◌, ◌<◌, ◌≤◌, List, [], length, Result, Ok, Err}
use Rattle.ti_base.specs.declared.entry.Entry.{Entry}
use Rattle.ti_io.specs.Faults.{Rose}
use Rattle.ti_io.specs.Source.{SourceState, SameFiles, IsMissing, Holds}
use Rattle.ti_lang.specs.Program.Classes.{ProgramView}
use Rattle.ti_lang.specs.Meaning.Processes.{RunConfig}
use Rattle.ti_lang.specs.Meaning.Races.{races}
use Rattle.ti_lang.specs.Meaning.Spots.{races_told}
use Rattle.ti_lang.specs.Meaning.Runs.{IsComplete, IsRun}
use Rattle.ti_rules.specs.RefusalOf.{IsRefusal}
use Rattle.ti_trace_check.specs.declared.error.TraceErr.{TraceErr}
use Rattle.ti_trace_check.specs.declared.error.TraceErr.TheVariants as trace
use Rattle.ti_trace_check.specs.declared.verdict.Verdict.{Verdict}
use Rattle.ti_trace_check.specs.declared.verdict.Verdict.TheVariants as verdict
use Rattle.ti_trace_check.specs.Verdicts.{IsTraceOf, IsWrongAt}
use Rattle.ti_words.specs.declared.job.Job.{Job}
use Rattle.ti_top.specs.declared.exit.Exit.{Exit}
use Rattle.ti_top.specs.declared.exit.Exit.TheVariants.{Done, Refused, Faulted, NoCommand, CantRead, CantWrite, NoMemory, NoRun}
use Rattle.ti_top.specs.declared.reading.ReadEnd.{ReadEnd}
use Rattle.ti_top.specs.declared.reading.ReadEnd.TheVariants as Read
use Rattle.ti_top.specs.Run.{run_of}
use Rattle.ti_top.specs.Mirrors.Compiling.{IsCompiled, HasNoProgram}
use Rattle.ti_top.specs.Mirrors.Reading.{ReadsWhole}

-- how the work ends: with a verdict, or without
abbrev pub ending_by : Result Verdict Exit → Exit
ending_by (Ok (verdict.Run es)) = Done
ending_by (Ok (verdict.NoRun line es)) = NoRun line
ending_by (Err ending) = ending

-- the run that a verdict gives
abbrev pub run_by : Result Verdict Exit → List Entry
run_by (Ok (verdict.Run es)) = es.items
run_by (Ok (verdict.NoRun line es)) = es.items
run_by (Err ending) = []

-- how it ends with an error of the trace
abbrev pub of_trace : TraceErr → Exit
of_trace trace.Read = CantRead
of_trace trace.Memory = NoMemory

-- a text has one verdict
pub record HasOneVerdict (s : RunConfig) : Type 0 where
  pub one_run : (text : List ℕ) (es ds : List Entry) → IsTraceOf s text es → IsTraceOf s text ds → es ≡ ds
  pub not_both : (text : List ℕ) (line : ℕ) (es ds : List Entry) → IsTraceOf s text es → IsWrongAt s text line ds → ⊥
  pub one_line : (text : List ℕ) (j k : ℕ) (es ds : List Entry) → IsWrongAt s text j es → IsWrongAt s text k ds → es ≡ ds

-- a verdict was found, with this run
pub record HasVerdict (s : RunConfig) (name : List ℕ) (source : SourceState) (es : List Entry) : Type 0 where
  pub there : IsMissing source name → ⊥
  pub run : IsRun s es
  pub listed : races_told es ≡ races es
  pub alone : HasOneVerdict s

-- the trace is that of this complete run
pub record FoundRun (s : RunConfig) (name : List ℕ) (source : SourceState) (es : List Entry) : Type 0 where
  pub found : HasVerdict s name source es
  pub complete : IsComplete s es
  pub told : (bytes : List ℕ) → Holds source name bytes → IsTraceOf s bytes es

-- the trace is wrong at this line
pub record FoundWrong (s : RunConfig) (name : List ℕ) (source : SourceState) (line : ℕ) (es : List Entry) : Type 0 where
  pub found : HasVerdict s name source es
  pub number : line ≡ length es + 1
  pub told : (bytes : List ℕ) → Holds source name bytes → IsWrongAt s bytes line es

-- what became of a trace
abbrev pub TraceSays : Exit → RunConfig → List ℕ → SourceState → SourceState → List Entry → Type 0
TraceSays Done s name old new es = FoundRun s name old es
TraceSays (NoRun line) s name old new es = FoundWrong s name old line es
TraceSays CantRead s name old new es = (IsMissing old name ⊎ Rose old.faults new.faults) × (es ≡ [])
TraceSays NoMemory s name old new es = es ≡ []
TraceSays (Refused refusal) s name old new es = ⊥
TraceSays (Faulted fault) s name old new es = ⊥
TraceSays NoCommand s name old new es = ⊥
TraceSays CantWrite s name old new es = ⊥

-- the source was read
pub record WasRead (old new : SourceState) : Type 0 where
  pub never_falls : old.faults ≤ new.faults
  pub same : SameFiles old new

-- a trace was held against a run's setting
pub record HeldTrace (ending : Exit) (s : RunConfig) (name : List ℕ) (old new : SourceState) (es : List Entry) : Type 0 where
  pub read : WasRead old new
  pub failed : old.faults < new.faults → ending ≡ CantRead
  pub says : TraceSays ending s name old new es

-- it was held against the program of the text
pub record HeldText (ending : Exit) (job : Job) (text : List ℕ) (old new : SourceState) (es : List Entry) : Type 0 where
  pub program : ProgramView
  pub compiled : IsCompiled text program
  pub says : TraceSays ending (run_of program job) job.against old new es

-- what became of a whole text
abbrev pub HeldSays : Exit → Job → List ℕ → SourceState → SourceState → List Entry → Type 0
HeldSays Done job text old new es = HeldText Done job text old new es
HeldSays (NoRun line) job text old new es = HeldText (NoRun line) job text old new es
HeldSays CantRead job text old new es = HeldText CantRead job text old new es
HeldSays NoMemory job text old new es = es ≡ []
HeldSays (Refused refusal) job text old new es = IsRefusal text refusal × HasNoProgram text × (es ≡ [])
HeldSays (Faulted fault) job text old new es = ⊥
HeldSays NoCommand job text old new es = ⊥
HeldSays CantWrite job text old new es = ⊥

-- what a reading that ended so leads to
abbrev pub ReadSays : ReadEnd → Exit → Job → List ℕ → SourceState → SourceState → List Entry → Type 0
ReadSays Read.Whole ending job text old new es = HeldSays ending job text old new es
ReadSays Read.CantRead ending job text old new es = (ending ≡ CantRead) × (new ≡ old) × (es ≡ [])
ReadSays Read.NoMemory ending job text old new es = (ending ≡ NoMemory) × (es ≡ [])

-- the file was read, and then its trace
pub record VerifyResult (job : Job) (ending : Exit) (old new : SourceState) (text : List ℕ) (es : List Entry) : Type 0 where
  pub end : ReadEnd
  pub middle : SourceState
  pub read : ReadsWhole job.file old middle text end
  pub later : WasRead middle new
  pub failed : middle.faults < new.faults → ending ≡ CantRead
  pub says : ReadSays end ending job text middle new es
