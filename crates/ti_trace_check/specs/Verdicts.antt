-- What it is for a text to be the trace of a complete run, and where it is wrong if it isn't.
use Rattle.std.specs.Prelude.{◌≡◌, ◌⊎◌, ℕ, ◌+◌, List, [], ◌++◌, length}
use Rattle.ti_base.specs.declared.entry.Entry.{Entry}
use Rattle.ti_lang.specs.Meaning.Processes.{RunConfig}
use Rattle.ti_lang.specs.Meaning.Runs.{IsRun, IsComplete}
use Rattle.ti_watch.specs.Reports.{trace_text}
use Rattle.ti_trace_check.specs.declared.verdict.Verdict.{Verdict}
use Rattle.ti_trace_check.specs.declared.verdict.Verdict.TheVariants.{Run, NoRun}
use Rattle.ti_trace_check.specs.Lines.{first_line}

-- the text is the trace of some run
abbrev pub IsTrace : RunConfig → List ℕ → Type 0
IsTrace s text = (es : List Entry) × IsRun s es × (text ≡ trace_text es)

-- the text is the trace of this complete run
pub record IsTraceOf (s : RunConfig) (text : List ℕ) (es : List Entry) : Type 0 where
  pub run : IsRun s es
  pub complete : IsComplete s es
  pub is : text ≡ trace_text es

-- What is wrong with a text that begins with the trace of a run, where this is left of it: with its next line it is the trace of no run; or
-- it ends there, and the run isn't complete.
abbrev pub IsWrong : RunConfig → List Entry → List ℕ → Type 0
IsWrong s es left = (IsTrace s (trace_text es ++ first_line left) → ⊥) ⊎ ((left ≡ []) × (IsComplete s es → ⊥))

-- the lines of the text before the one of this number, from 1, are the trace of this run, and that line is wrong
pub record IsWrongAt (s : RunConfig) (text : List ℕ) (line : ℕ) (es : List Entry) : Type 0 where
  pub run : IsRun s es
  pub number : line ≡ length es + 1
  pub left : List ℕ
  pub begins : text ≡ trace_text es ++ left
  pub wrong : IsWrong s es left

-- a verdict on a text
abbrev pub Judges : RunConfig → List ℕ → Verdict → Type 0
Judges s text (Run es) = IsTraceOf s text es.items
Judges s text (NoRun line es) = IsWrongAt s text line es.items

-- a verdict has a run, whatever was read: a complete one, or that of the lines before the one that it names
abbrev pub HasRun : RunConfig → Verdict → Type 0
HasRun s (Run es) = IsRun s es.items × IsComplete s es.items
HasRun s (NoRun line es) = IsRun s es.items × (line ≡ length es.items + 1)
