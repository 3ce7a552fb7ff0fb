-- The contract of the command, one record for each clause. `c` is the call: its arguments, and the state of source and sinks before and after.
-- `job` is the command that its arguments give.
use Rattle.std.specs.Prelude.{◌≡◌, ◌⊎◌, ℕ, ◌≤◌, true, false, List, [], length, take, None, Some}
use Rattle.ti_gen.specs.Source.{source_text}
use Rattle.ti_io.specs.Source.{SameFiles, IsMissing, Holds}
use Rattle.ti_io.specs.Sink.{IsFront, GrewBy, GrewByFront}
use Rattle.ti_lang.specs.Program.Classes.{ProgramView}
use Rattle.ti_lang.specs.Meaning.Determinacy.{Determines}
use Rattle.ti_lang.specs.Meaning.Races.{races}
use Rattle.ti_lang.specs.Meaning.Spots.{races_told}
use Rattle.ti_lang.specs.Meaning.Runs.{AllEnded, IsRun, IsSolo, IsComplete as IsCompleteRun}
use Rattle.ti_align.specs.Alignment.{IsAligned}
use Rattle.ti_code.specs.Follows.{Follows}
use Rattle.ti_code.specs.Programs as coded
use Rattle.ti_lower.specs.Programs.{program_code}
use Rattle.ti_runtime.specs.Ran.{AreFinishedCounts}
use Rattle.ti_rules.specs.declared.refusal.Refusal.{Refusal}
use Rattle.ti_blame.specs.declared.mark.Mark.{Mark}
use Rattle.ti_rules.specs.RefusalOf.{HasNone, HasProgram, IsRefusal}
use Rattle.ti_words.specs.declared.job.Job.{Job}
use Rattle.ti_words.specs.declared.job.Mode.{Mode}
use Rattle.ti_words.specs.declared.job.Mode.TheVariants.{Check, Code, Gen, Infer}
use Rattle.ti_top.specs.declared.fault.Fault.{Fault}
use Rattle.ti_top.specs.declared.exit.Exit.{Exit}
use Rattle.ti_top.specs.declared.exit.Exit.TheVariants.{Done, Refused, Faulted, NoCommand, CantRead, CantWrite, NoMemory, NoRun}
use Rattle.ti_top.specs.Run.{HasFile, RunsProgram, HasCode, Verifies, Infers, HasHistory, run_of, EndsWithFault}
use Rattle.ti_top.specs.Exit.{status_of, err_line}
use Rattle.ti_top.specs.Flushing.{FlushesOut, FlushesErr}
use Rattle.ti_top.specs.Reports.{wanted_watchers, output, WroteFew}
use Rattle.ti_top.specs.CommandCall.{most_read, CommandCall, IsCommand, IsNoCommand, named_file, SourceRose, SourceFailed, OutRose, ErrRose, SinkRose, IsPreempted, WantsReport}
use Rattle.ti_top.specs.Inference.{HasMarking, HasSomeMarking, IsUnmarkedRefusal, marks_text}
use Rattle.ti_top.specs.Traces.{LacksTrace, IsUnreadable, IsWrongTrace, VerifiesTrace, TraceDecides}

-- Arguments: with status 3 the arguments are no command, and nothing was read.
pub record AnswersWords (c : CommandCall) : Type 0 where
  -- the status is one of those that have a meaning
  pub known : (ending : Exit) × (c.status ≡ status_of ending)
  pub only_where : c.status ≡ 3 → IsNoCommand c
  pub everywhere : IsNoCommand c → (c.status ≡ 3) ⊎ IsPreempted c
  pub source_as_before : IsNoCommand c → c.source_after ≡ c.source
  pub no_text : IsNoCommand c → c.text ≡ []
  pub no_code : IsNoCommand c → c.code ≡ None
  pub no_history : IsNoCommand c → c.history ≡ []
  pub no_count : IsNoCommand c → c.done ≡ []

-- The file was read whole: it isn't missing, and the text is its contents, or the first `most_read` bytes of them. With a source that doesn't
-- state its bytes, a file counts as read whole with every status but 3 and 4.
pub record IsReadWhole (job : Job) (c : CommandCall) : Type 0 where
  pub there : IsMissing c.source job.file → ⊥
  pub told : (bytes : List ℕ) → Holds c.source job.file bytes → c.text ≡ take most_read bytes
  pub untold_at_three : c.source.tells ≡ false → c.status ≡ 3 → ⊥
  pub untold_at_four : c.source.tells ≡ false → c.status ≡ 4 → ⊥

-- The text was generated: it is that of the seed.
abbrev pub IsGenerated : Job → CommandCall → Type 0
IsGenerated job c = c.text ≡ source_text job.seed

-- the whole text is there: the file was read whole, or in mode gen the text was generated
abbrev pub IsWholeIn : Mode → Job → CommandCall → Type 0
IsWholeIn Gen job c = IsGenerated job c
IsWholeIn _ job c = IsReadWhole job c

abbrev pub HasText : Job → CommandCall → Type 0
HasText job c = IsWholeIn job.mode job c

-- Reading, in the modes that name a file: the text is a prefix of the file, and with status 0, 1, 2 or 7 the whole file. With status 4 the
-- file, or in mode verify the trace, can't be read. Conversely, if the file is missing, or the trace of a text without a refusal, or a read
-- failed, the status is 4, unless memory ran out or a write failed.
pub record ReadsText (job : Job) (c : CommandCall) : Type 0 where
  pub front : (bytes : List ℕ) → Holds c.source job.file bytes → IsFront c.text bytes
  pub bound : length c.text ≤ most_read
  pub whole_at_zero : c.status ≡ 0 → IsReadWhole job c
  pub whole_at_one : c.status ≡ 1 → IsReadWhole job c
  pub whole_at_two : c.status ≡ 2 → IsReadWhole job c
  pub whole_at_seven : c.status ≡ 7 → IsReadWhole job c
  pub nothing_of_missing : IsMissing c.source job.file → c.text ≡ []
  pub four_only_where : c.status ≡ 4 → IsUnreadable job c
  pub failed : SourceFailed c → (c.status ≡ 4) ⊎ IsPreempted c
  pub missing : IsMissing c.source job.file → (c.status ≡ 4) ⊎ IsPreempted c
  pub lacking : LacksTrace job c → (c.status ≡ 4) ⊎ IsPreempted c
  pub same_files : SameFiles c.source c.source_after

-- Generating, in mode gen, which reads nothing: the text is that of the seed, unless memory ran out first.
pub record MakesText (job : Job) (c : CommandCall) : Type 0 where
  pub made : IsGenerated job c ⊎ ((c.text ≡ []) × IsPreempted c)
  pub source_as_before : c.source_after ≡ c.source
  pub never_four : c.status ≡ 4 → ⊥

-- how the text comes about, by mode
abbrev pub GetsText : Mode → Job → CommandCall → Type 0
GetsText Gen job c = MakesText job c
GetsText _ job c = ReadsText job c

-- the text has a program
abbrev pub HasSomeProgram : List ℕ → Type 0
HasSomeProgram text = (program : ProgramView) × HasProgram text program

-- the text is accepted in a mode: it has a program; or in mode infer, which ignores the marks in it, a greatest marking
abbrev pub IsAcceptedIn : Mode → List ℕ → Type 0
IsAcceptedIn Infer text = HasSomeMarking text
IsAcceptedIn _ text = HasSomeProgram text

-- its refusal in a mode
abbrev pub IsRefusalIn : Mode → List ℕ → Refusal → Type 0
IsRefusalIn Infer text refusal = IsUnmarkedRefusal text refusal
IsRefusalIn _ text refusal = IsRefusal text refusal

-- The whole text is there, and this is its refusal.
pub record IsRefusedWith (job : Job) (c : CommandCall) (refusal : Refusal) : Type 0 where
  pub whole : HasText job c
  pub refused : IsRefusalIn job.mode c.text refusal

-- Refusal: with status 1 the text is refused, and conversely; a refused text has no code, isn't run, and writes nothing to standard output.
-- With status 0, 2 or 7 it is accepted. Mode infer ignores the marks in the text.
pub record RefusesExactly (job : Job) (c : CommandCall) : Type 0 where
  pub only_where : c.status ≡ 1 → (refusal : Refusal) × IsRefusedWith job c refusal
  -- unless memory runs out, or a write or a read fails
  pub everywhere : (refusal : Refusal) → IsRefusedWith job c refusal → (c.status ≡ 1) ⊎ (IsPreempted c ⊎ ((c.status ≡ 4) × SourceRose c))
  pub no_code : (refusal : Refusal) → IsRefusalIn job.mode c.text refusal → c.code ≡ None
  pub no_history : (refusal : Refusal) → IsRefusalIn job.mode c.text refusal → c.history ≡ []
  pub no_count : (refusal : Refusal) → IsRefusalIn job.mode c.text refusal → c.done ≡ []
  pub no_output : (refusal : Refusal) → IsRefusalIn job.mode c.text refusal → c.out_after.taken ≡ c.out.taken
  pub accepted_at_zero : c.status ≡ 0 → IsAcceptedIn job.mode c.text
  pub accepted_at_two : c.status ≡ 2 → IsAcceptedIn job.mode c.text
  pub accepted_at_seven : c.status ≡ 7 → IsAcceptedIn job.mode c.text

-- Run: whatever the status and the number of workers, the history is a run of the text's program. With one worker it is, as far as it goes,
-- the run in which each entry is that of the lowest-numbered process that can take one. If the text has no program, or the mode neither runs it
-- nor reads its trace, the history is empty.
pub record KeepsRun (job : Job) (c : CommandCall) : Type 0 where
  pub run : (program : ProgramView) → HasProgram c.text program → IsRun (run_of program job) c.history
  pub solo : RunsProgram job.mode → job.workers ≡ 1 → (program : ProgramView) → HasProgram c.text program
      → IsSolo (run_of program job) c.history
  pub none : ((program : ProgramView) → HasProgram c.text program → ⊥) → c.history ≡ []
  pub unrun : (HasHistory job.mode → ⊥) → c.history ≡ []

-- Code: in the modes run, code and gen there is code with status 0 and 2. Code that is there is that of the text's program, and follows it: for
-- any number of processes, any fuel, each process and all answers that fit, its next action, fault or end is the program's, at the same source
-- position. There is none in any other mode, and none with another status, unless a write failed or the run was out of memory.
pub record RunsCode (job : Job) (c : CommandCall) : Type 0 where
  pub there : c.status ≡ 0 → HasCode job.mode → (program : ProgramView) → HasProgram c.text program → c.code
      ≡ Some (program_code program)
  pub there_at_two : c.status ≡ 2 → (program : ProgramView) → HasProgram c.text program → c.code ≡ Some (program_code program)
  pub is : (code : coded.Code) → c.code ≡ Some code → (program : ProgramView) → HasProgram c.text program → code ≡ program_code program
  pub follows : (code : coded.Code) → c.code ≡ Some code → (program : ProgramView) → HasProgram c.text program → Follows code program
  pub only_where : (code : coded.Code) → c.code ≡ Some code → (c.status ≡ 0)
      ⊎ ((c.status ≡ 2) ⊎ (((c.status ≡ 5) × SinkRose c) ⊎ ((c.status ≡ 6) × RunsProgram job.mode)))
  pub none : ((program : ProgramView) → HasProgram c.text program → ⊥) → c.code ≡ None
  pub unlowered : (HasCode job.mode → ⊥) → c.code ≡ None

-- Counts of instructions: if the program was run and the history is complete, whatever the status, there is for each process the number of
-- instructions of the code that it has finished, given the answers to its entries. Without code, or in a mode that doesn't run it, there are
-- no counts.
pub record CountsInstructions (job : Job) (c : CommandCall) : Type 0 where
  pub complete : RunsProgram job.mode → (program : ProgramView) → HasProgram c.text program
      → IsCompleteRun (run_of program job) c.history → AreFinishedCounts (program_code program) (run_of program job) c.history c.done
  pub uncoded : c.code ≡ None → c.done ≡ []
  pub unrun : (RunsProgram job.mode → ⊥) → c.done ≡ []

-- this holds of the job and the text's program, if the text has one, in every mode but infer
abbrev pub WhereAccepted : CommandCall → (Job → ProgramView → Type 0) → Type 0
WhereAccepted c P =
    (job : Job) → IsCommand c job → (Infers job.mode → ⊥) → (program : ProgramView) → HasProgram c.text program → P job program

-- if the text has a program, and the mode runs it
abbrev pub WhereRun : CommandCall → (Job → ProgramView → Type 0) → Type 0
WhereRun c P = (job : Job) → IsCommand c job → RunsProgram job.mode → (program : ProgramView) → HasProgram c.text program → P job program

-- standard output grew by all that the mode writes: the lines of the history or the summary of the run, then the reports of all watchers that
-- are wanted; or the listing of the code
abbrev pub WritesAll : CommandCall → Type 0
WritesAll c = WhereAccepted c (λ job program. GrewBy c.out c.out_after (output job program c.history (wanted_watchers job c.watchers)))

-- Output: what was written to standard output in the call.
pub record WritesOutput (c : CommandCall) : Type 0 where
  pub done : c.status ≡ 0 → c.out.tells ≡ true → WritesAll c
  pub faulted : c.status ≡ 2 → c.out.tells ≡ true → WritesAll c
  pub nothing_at_one : c.status ≡ 1 → c.out_after.taken ≡ c.out.taken
  pub nothing_at_three : c.status ≡ 3 → c.out_after.taken ≡ c.out.taken
  pub nothing_at_four : c.status ≡ 4 → c.out_after.taken ≡ c.out.taken
  pub no_command : IsNoCommand c → c.out_after.taken ≡ c.out.taken
  pub not_whole : (job : Job) → IsCommand c job → (HasText job c → ⊥) → c.out_after.taken ≡ c.out.taken
  pub not_accepted : (job : Job) → IsCommand c job → (IsAcceptedIn job.mode c.text → ⊥) → c.out_after.taken ≡ c.out.taken
  pub checked : (job : Job) → IsCommand c job → job.mode ≡ Check → c.out_after.taken ≡ c.out.taken
  -- if the mode wants code and there is none
  pub uncoded : (job : Job) → IsCommand c job → job.mode ≡ Code → c.code ≡ None → c.out_after.taken ≡ c.out.taken
  -- a write to standard output or standard error failed
  pub failed : c.status ≡ 5 → c.out.tells ≡ true → WhereAccepted c
      (λ job program. GrewByFront c.out c.out_after (output job program c.history (wanted_watchers job c.watchers)))
  -- the lines of the history or its summary are written, and then whole reports
  pub no_memory : c.status ≡ 6 → c.out.tells ≡ true → WhereRun c (λ job program. WroteFew job.mode (run_of program job)
      (wanted_watchers job c.watchers) c.history c.out c.out_after)

-- Inference, in mode infer: with status 0 the text has a greatest marking, and standard output grew by a line for each of its marks. If a write
-- failed, it grew by a prefix of these lines; with any other status it didn't grow.
pub record InfersMarks (job : Job) (c : CommandCall) : Type 0 where
  pub done : c.status ≡ 0 → Infers job.mode → (marks : List Mark) × HasMarking c.text marks
      × (c.out.tells ≡ true → GrewBy c.out c.out_after (marks_text marks))
  pub failed : c.status ≡ 5 → Infers job.mode → c.out.tells ≡ true → (marks : List Mark) → HasMarking c.text marks
      → GrewByFront c.out c.out_after (marks_text marks)
  pub unwritten : Infers job.mode → (c.status ≡ 0 → ⊥) → (c.status ≡ 5 → ⊥) → c.out_after.taken ≡ c.out.taken

-- Alignment: with status 0, 2 or 7 the text's program is aligned.
pub record HasAlignedRun (c : CommandCall) : Type 0 where
  pub done : c.status ≡ 0 → (program : ProgramView) → HasProgram c.text program → IsAligned program
  pub faulted : c.status ≡ 2 → (program : ProgramView) → HasProgram c.text program → IsAligned program
  pub wrong : c.status ≡ 7 → (program : ProgramView) → HasProgram c.text program → IsAligned program

-- Determinacy: if the program is run, all processes end, and no entry of the history is part of a race, then what each process does in any run
-- of the program, with as many processes and as much fuel, is a prefix of what it does in the history. The entries that are part of a race are
-- those that the report lists, which depends on the history only.
pub record IsDeterminate (job : Job) (c : CommandCall) : Type 0 where
  pub followed : RunsProgram job.mode → (program : ProgramView) → HasProgram c.text program → Determines (run_of program job) c.history
  pub told : races_told c.history ≡ races c.history

-- End, if the text is run: with status 0 all processes have ended; with status 2 the last entry is a fault, and the line on standard error
-- names it with its process and source position; status 6 never comes with a complete history, unless a watcher is wanted.
pub record EndsRun (job : Job) (c : CommandCall) : Type 0 where
  pub ended : c.status ≡ 0 → RunsProgram job.mode → (program : ProgramView) → HasProgram c.text program
      → AllEnded (run_of program job) c.history
  pub fault_only_where : c.status ≡ 2 → RunsProgram job.mode × ((fault : Fault) × EndsWithFault c.history fault)
  -- a write may fail, and memory may run out for a report that is wanted
  pub fault_everywhere : RunsProgram job.mode → (fault : Fault) → EndsWithFault c.history fault → (c.status ≡ 2)
      ⊎ (((c.status ≡ 5) × SinkRose c) ⊎ ((c.status ≡ 6) × WantsReport job c))
  pub unfinished : c.status ≡ 6 → (program : ProgramView) → HasProgram c.text program → IsCompleteRun (run_of program job) c.history
      → WantsReport job c

-- All that the command promises, but for its line on standard error.
pub record KeepsContractBesideErr (c : CommandCall) : Type 0 where
  pub words : AnswersWords c
  pub text : (job : Job) → IsCommand c job → GetsText job.mode job c
  pub refusal : (job : Job) → IsCommand c job → RefusesExactly job c
  pub run : (job : Job) → IsCommand c job → KeepsRun job c
  pub code : (job : Job) → IsCommand c job → RunsCode job c
  pub count : (job : Job) → IsCommand c job → CountsInstructions job c
  pub output : WritesOutput c
  pub flushes : FlushesOut c
  pub alignment : (job : Job) → IsCommand c job → (Infers job.mode → ⊥) → HasAlignedRun c
  pub determinacy : (job : Job) → IsCommand c job → IsDeterminate job c
  pub end : (job : Job) → IsCommand c job → EndsRun job c
  pub trace : (job : Job) → IsCommand c job → VerifiesTrace job c
  pub inference : (job : Job) → IsCommand c job → InfersMarks job c

-- What an ending states about the call.
abbrev pub Says : CommandCall → Exit → Type 0
Says c Done = (job : Job) × IsCommand c job × IsAcceptedIn job.mode c.text
Says c (Refused refusal) = (job : Job) × IsCommand c job × IsRefusedWith job c refusal
Says c (Faulted fault) = (job : Job) × IsCommand c job × EndsWithFault c.history fault
Says c NoCommand = IsNoCommand c
Says c CantRead = (job : Job) × IsCommand c job × IsUnreadable job c
Says c CantWrite = (job : Job) × IsCommand c job × OutRose c
Says c NoMemory = Unit {0}
Says c (NoRun line) = (job : Job) × IsCommand c job × IsWrongTrace job c line

-- the line on standard error for an ending of the call
abbrev pub line : CommandCall → Exit → List ℕ
line c ending = err_line ending (named_file c)

-- standard error grew by the line of an ending that has the call's status and is true of the call
abbrev pub TellsEnding : CommandCall → Type 0
TellsEnding c = (ending : Exit) × (c.status ≡ status_of ending) × Says c ending × GrewBy c.err c.err_after (line c ending)

-- the call as if it had this ending's status, before the line was written to standard error
abbrev pub before_err : CommandCall → Exit → CommandCall
before_err c ending = record c { status = status_of ending; err_after = c.err }

-- the call had this ending before standard error failed: it is true of the call, and with its status the call keeps all its other promises
abbrev pub HadEnding : CommandCall → Exit → Type 0
HadEnding c before = Says c before × KeepsContractBesideErr (before_err c before)

-- standard error grew by a prefix of the line of the ending that the call had before standard error failed
abbrev pub TellsFront : CommandCall → Type 0
TellsFront c = (before : Exit) × HadEnding c before × GrewByFront c.err c.err_after (line c before)

-- The line on standard error is that of the status. With status 5 a write failed. If it was one to standard error, that grew by a prefix of a
-- line; and if none to standard output failed, the call keeps all its other promises, those on the output among them, with the status that it
-- had before standard error failed.
pub record WritesErr (c : CommandCall) : Type 0 where
  pub nothing : c.status ≡ 0 → c.err_after.taken ≡ c.err.taken
  pub whole : (c.status ≡ 5 → ⊥) → c.err.tells ≡ true → TellsEnding c
  pub five_only_where : c.status ≡ 5 → SinkRose c
  pub five : c.status ≡ 5 → (ErrRose c → ⊥) → c.err.tells ≡ true → GrewBy c.err c.err_after (line c CantWrite)
  pub cut : c.status ≡ 5 → ErrRose c → c.err.tells ≡ true → GrewByFront c.err c.err_after (line c CantWrite) ⊎ TellsFront c
  pub err_alone : c.status ≡ 5 → (OutRose c → ⊥) → (before : Exit) × HadEnding c before

-- nothing failed: no count of faults rose, the file exists if one is named, and memory didn't run out
pub record NothingFailed (job : Job) (c : CommandCall) : Type 0 where
  pub source : SourceRose c → ⊥
  pub out : OutRose c → ⊥
  pub err : ErrRose c → ⊥
  pub there : HasFile job.mode → IsMissing c.source job.file → ⊥
  pub memory : c.status ≡ 6 → ⊥

-- Completeness: if nothing failed, the whole text is there and decides: a text without a refusal has a program; if the mode runs it, it is run
-- until all processes have ended or one has a fault; and if a trace is checked against it, the trace decides, unless it is missing.
pub record AnswersCompletely (job : Job) (c : CommandCall) : Type 0 where
  pub whole : HasText job c
  pub refused : (refusal : Refusal) → IsRefusalIn job.mode c.text refusal → c.status ≡ 1
  pub accepted : HasNone (IsRefusalIn job.mode c.text) → (c.status ≡ 0) ⊎ (c.status ≡ 2) ⊎ (c.status ≡ 7)
      ⊎ ((c.status ≡ 4) × LacksTrace job c)
  pub program : HasNone (IsRefusalIn job.mode c.text) → IsAcceptedIn job.mode c.text
  pub ended : RunsProgram job.mode → (program : ProgramView) → HasProgram c.text program → IsCompleteRun (run_of program job) c.history
  pub verified : Verifies job.mode → (program : ProgramView) → HasProgram c.text program → (bytes : List ℕ)
      → Holds c.source job.against bytes → TraceDecides (run_of program job) bytes c

-- The contract of the command.
pub record KeepsContract (c : CommandCall) : Type 0 where
  pub beside_err : KeepsContractBesideErr c
  pub err : WritesErr c
  pub flushes : FlushesErr c
  pub completeness : (job : Job) → IsCommand c job → NothingFailed job c → AnswersCompletely job c
