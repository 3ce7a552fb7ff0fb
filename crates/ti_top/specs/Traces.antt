-- Mode verify: the verdict on a trace.
use Rattle.std.specs.Prelude.{◌≡◌, ◌⊎◌, ℕ, ◌+◌, List, [], length}
use Rattle.ti_base.specs.declared.entry.Entry.{Entry}
use Rattle.ti_io.specs.Source.{IsMissing, Holds}
use Rattle.ti_lang.specs.Program.Classes.{ProgramView}
use Rattle.ti_lang.specs.Meaning.Processes.{RunConfig}
use Rattle.ti_lang.specs.Meaning.Runs.{IsComplete}
use Rattle.ti_rules.specs.RefusalOf.{HasNone, HasProgram, IsRefusal}
use Rattle.ti_trace_check.specs.Verdicts.{IsTraceOf, IsWrongAt}
use Rattle.ti_words.specs.declared.job.Job.{Job}
use Rattle.ti_top.specs.Run.{Verifies, run_of}
use Rattle.ti_top.specs.CommandCall.{CommandCall, SourceRose, ErrRose}

-- In mode verify the trace is missing, and the text has no refusal.
pub record LacksTrace (job : Job) (c : CommandCall) : Type 0 where
  pub mode : Verifies job.mode
  pub missing : IsMissing c.source job.against
  pub unrefused : HasNone (IsRefusal c.text)

-- why something can't be read: the file or the trace is missing, or a read failed
abbrev pub IsUnreadable : Job → CommandCall → Type 0
IsUnreadable job c = IsMissing c.source job.file ⊎ LacksTrace job c ⊎ SourceRose c

-- The history is a complete run of the text's program, and the trace is that of this run, if the source states its bytes.
pub record IsTraced (job : Job) (c : CommandCall) : Type 0 where
  pub there : IsMissing c.source job.against → ⊥
  pub complete : (program : ProgramView) → HasProgram c.text program → IsComplete (run_of program job) c.history
  pub told : (program : ProgramView) → HasProgram c.text program → (bytes : List ℕ) → Holds c.source job.against bytes
      → IsTraceOf (run_of program job) bytes c.history

-- The history has an entry for each line before the one with this number, and the trace is wrong at that line, if the source states its bytes:
-- the lines before are the trace of the history; with this line they are that of no run, or the trace ends there and the run isn't complete.
pub record IsWrongTrace (job : Job) (c : CommandCall) (line : ℕ) : Type 0 where
  pub there : IsMissing c.source job.against → ⊥
  pub number : line ≡ length c.history + 1
  pub told : (program : ProgramView) → HasProgram c.text program → (bytes : List ℕ) → Holds c.source job.against bytes
      → IsWrongAt (run_of program job) bytes line c.history

-- The trace, in mode verify: with status 0 it is the trace of a complete run, which is the history. With status 7, which comes in this mode
-- only, it is wrong at a line, and the history is the run of the lines before. With any other status there is no history, unless the line of a
-- wrong trace couldn't be written to standard error. Nothing is written to standard output.
pub record VerifiesTrace (job : Job) (c : CommandCall) : Type 0 where
  pub traced : c.status ≡ 0 → Verifies job.mode → IsTraced job c
  pub wrong : c.status ≡ 7 → (line : ℕ) × IsWrongTrace job c line
  pub seven_only_where : c.status ≡ 7 → Verifies job.mode
  pub unjudged : Verifies job.mode → (c.status ≡ 0 → ⊥) → (c.status ≡ 7 → ⊥) → (c.history ≡ [])
      ⊎ ((c.status ≡ 5) × ErrRose c × ((line : ℕ) × IsWrongTrace job c line))
  pub unwritten : Verifies job.mode → c.out_after.taken ≡ c.out.taken

-- These bytes decide the status: it is 0 if they are the trace of a complete run, which is then the history; otherwise it is 7, and if the bytes
-- are wrong at a line, the history is the run of the lines before.
pub record TraceDecides (s : RunConfig) (bytes : List ℕ) (c : CommandCall) : Type 0 where
  pub run : (es : List Entry) → IsTraceOf s bytes es → (c.status ≡ 0) × (c.history ≡ es)
  pub no_run : ((es : List Entry) → IsTraceOf s bytes es → ⊥) → c.status ≡ 7
  pub wrong : (line : ℕ) (es : List Entry) → IsWrongAt s bytes line es → (c.status ≡ 7) × (c.history ≡ es)
