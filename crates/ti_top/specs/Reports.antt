-- The watchers of a call, and what they report.
use Rattle.std.specs.Prelude.{◌≡◌, ℕ, ◌==◌, Bool, false, if◌then◌else◌, List, [], ◌++◌, filter, flat_map}
use Rattle.ti_base.specs.declared.entry.Entry.{Entry}
use Rattle.ti_io.specs.Sink.{SinkState, GrewBy}
use Rattle.ti_lang.specs.Program.Classes.{ProgramView}
use Rattle.ti_lang.specs.Meaning.Lines.{lines_of}
use Rattle.ti_lang.specs.Meaning.Processes.{RunConfig}
use Rattle.ti_lang.specs.Meaning.Runs.{IsComplete}
use Rattle.ti_watch.specs.Reports.{watch_text}
use Rattle.ti_code.specs.CodeText.{code_text}
use Rattle.ti_lower.specs.Programs.{program_code}
use Rattle.ti_words.specs.declared.job.Job.{Job}
use Rattle.ti_words.specs.declared.job.Mode.{Mode}
use Rattle.ti_words.specs.declared.job.Mode.TheVariants.{Run, Code, Gen}
use Rattle.ti_top.specs.Run.{run_of}
use Rattle.ti_top.specs.Summary.{summary_text}

-- a watcher: its kind, and the entries that it has seen before the call
pub record Watcher : Type 0 where
  pub kind : ℕ
  pub told : List Entry

-- `--trace` wants kind 0, `--stats` kind 1, `--races` kind 2; no other kind is ever wanted
abbrev pub is_kind_wanted : Bool → Bool → Bool → ℕ → Bool
is_kind_wanted trace stats races kind = if kind == 0 then trace else if kind == 1 then stats else if kind == 2 then races else false

-- whether a job wants a watcher
abbrev pub is_wanted : Job → Watcher → Bool
is_wanted job watcher = is_kind_wanted job.trace job.stats job.races watcher.kind

-- the watchers that a job wants, in their order
abbrev pub wanted_watchers : Job → List Watcher → List Watcher
wanted_watchers job watchers = filter (is_wanted job) watchers

-- the report of a watcher that sees a history after what it has seen before
abbrev pub watcher_report : List Entry → Watcher → List ℕ
watcher_report history watcher = watch_text watcher.kind (watcher.told ++ history)

-- the reports of watchers, one after the other
abbrev pub reports : List Watcher → List Entry → List ℕ
reports watchers history = flat_map (watcher_report history) watchers

-- what a mode writes for a program: the lines of the history or the summary of the run, and then the reports of watchers; or the listing of
-- the program's code. What mode infer writes depends on the text, not on its program: see `Inference`.
abbrev pub output_in : Mode → RunConfig → List Entry → List Watcher → List ℕ
output_in Run run history watchers = lines_of run.program history ++ reports watchers history
output_in Code run history watchers = code_text (program_code run.program)
output_in Gen run history watchers = summary_text run history ++ reports watchers history
output_in _ run history watchers = []

-- what is written for a job and a program
abbrev pub output : Job → ProgramView → List Entry → List Watcher → List ℕ
output job program history watchers = output_in job.mode (run_of program job) history watchers

-- the lines of a history or the summary of its run were written, and the reports of some first of these watchers
pub record WroteFew (mode : Mode) (run : RunConfig) (watchers : List Watcher) (history : List Entry)
    (out out_after : SinkState) : Type 0 where
  pub few : List Watcher
  pub others : List Watcher
  pub first : few ++ others ≡ watchers
  pub grew : GrewBy out out_after (output_in mode run history few)
  -- no watcher reports on a run that was cut short
  pub none_of_cut : (IsComplete run history → ⊥) → few ≡ []
  -- on a complete run, not all report
  pub not_all : IsComplete run history → others ≡ [] → ⊥
