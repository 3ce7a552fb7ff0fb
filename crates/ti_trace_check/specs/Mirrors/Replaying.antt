-- Mirrors the code; only contracts of private functions cite it, so nobody has to believe it.
-- The state of each process after the entries of a run so far, and what one line does to it.
use Rattle.std.specs.Prelude.{◌≡◌, ◌⊎◌, ℕ, ◌+◌, ◌<◌, ◌≤◌, Bool, true, false, if◌then◌else◌, List, [], ◌∷◌, ◌++◌, length, take}
use Rattle.ti_base.specs.declared.entry.Entry.{Entry}
use Rattle.ti_lang.specs.Meaning.Processes.{RunConfig}
use Rattle.ti_lang.specs.Meaning.Histories.{has_fault}
use Rattle.ti_lang.specs.Meaning.Runs.{CanTake, IsRun}
use Rattle.ti_code.specs.Programs.{Code}
use Rattle.ti_store.specs.Stores.{StoreState, config_of}
use Rattle.ti_watch.specs.Lines.{line_room}
use Rattle.ti_watch.specs.Reports.{entry_text, trace_text}
use Rattle.ti_pending.specs.declared.pending.PendingProc.{PendingProc}
use Rattle.ti_pending.specs.UpToDate.{IsUpToDate, AllUpToDate}
use Rattle.ti_pending.specs.Acting.{CodePremises, TakesEntry, steps_left, all_steps_left}
use Rattle.ti_trace_check.specs.declared.replay.ReplayEnd.{ReplayEnd}
use Rattle.ti_trace_check.specs.declared.verdict.Verdict.{Verdict}
use Rattle.ti_trace_check.specs.declared.verdict.Verdict.TheVariants.{Run, NoRun}
use Rattle.ti_trace_check.specs.Lines.{first_line}
use Rattle.ti_trace_check.specs.Verdicts.{IsTrace}

-- ---- steps

-- how many faults may still come
abbrev pub faults_left : List Entry → ℕ
faults_left es = if has_fault es then 0 else 1

-- process i took an entry, maybe that of a fault, and fewer may still come
pub record StepsOn (code : Code) (s : RunConfig) (es : List Entry) (i : ℕ) (old : PendingProc) (all : List Entry) (new : PendingProc) : Type 0 where
  pub takes : TakesEntry s es i all
  pub seated : IsUpToDate code s all i new
  pub lighter : steps_left s new + faults_left all < steps_left s old + faults_left es

-- process i took an entry, or there is none that it can take, and the entries are the same
abbrev pub TurnLeaves : Code → RunConfig → List Entry → ℕ → PendingProc → List Entry → PendingProc → Bool → Type 0
TurnLeaves code s es i old all new true = StepsOn code s es i old all new
TurnLeaves code s es i old all new false = (all ≡ es) × ((e : Entry) → CanTake s es i e → ⊥)

-- ---- lines

-- the entries are a run, and all processes are up to date with them
pub record IsReplayState (code : Code) (s : RunConfig) (es : List Entry) (processes : List PendingProc) : Type 0 where
  pub run : IsRun s es
  pub count : length processes ≡ s.procs
  pub seated : AllUpToDate code s es processes

-- how many entries may still come
abbrev pub turns_left : RunConfig → List Entry → List PendingProc → ℕ
turns_left s es processes = all_steps_left s processes + faults_left es

-- a store that accepts actions, of a program that the code follows
pub record AcceptsActions (code : Code) (store : StoreState) : Type 0 where
  pub unhalted : store.halted ≡ false
  pub runs : CodePremises code (config_of store)

-- the run continued by the entry of the line
pub record ReplaysEntry (code : Code) (s : RunConfig) (es : List Entry) (old : List PendingProc) (all : List Entry) (new : List PendingProc)
    (line : List ℕ) : Type 0 where
  pub entry : Entry
  pub after : all ≡ es ++ entry ∷ []
  pub text : line ≡ entry_text (length es) entry
  pub stands : IsReplayState code s all new
  pub lighter : turns_left s all new < turns_left s es old

-- the line is that of no entry that can be taken, not even as far as it is held; an entry that was taken all the same is the last one
pub record IsWrongLine (s : RunConfig) (es all : List Entry) (line : List ℕ) : Type 0 where
  pub kept : take (length es) all ≡ es
  pub within : length es ≤ length all
  pub none : (e : Entry) → CanTake s es e.proc e → (more : List ℕ) → entry_text (length es) e ≡ line ++ more → (more ≡ [])
      ⊎ (line_room ≤ length line) → ⊥

-- what a line does to the entries and the processes
abbrev pub ReplaysLine : Code → RunConfig → List Entry → List PendingProc → List Entry → List PendingProc → List ℕ → Bool → Type 0
ReplaysLine code s es old all new line true = ReplaysEntry code s es old all new line
ReplaysLine code s es old all new line false = IsWrongLine s es all line

-- ---- whole traces

-- the first `taken` entries are those of the right lines; if the trace ended, they are all, and all processes are up to date
pub record ReplayOutcome (code : Code) (s : RunConfig) (all : List Entry) (processes : List PendingProc) (end : ReplayEnd) : Type 0 where
  pub within : end.taken ≤ length all
  pub run : IsRun s (take end.taken all)
  pub whole : end.is_end ≡ true → (end.taken ≡ length all) × IsReplayState code s all processes

-- the text begins with the trace of those entries; after that it ends, or has a wrong line
pub record LeavesText (s : RunConfig) (text : List ℕ) (all : List Entry) (end : ReplayEnd) : Type 0 where
  pub left : List ℕ
  pub begins : text ≡ trace_text (take end.taken all) ++ left
  pub nothing : end.is_end ≡ true → left ≡ []
  pub wrong : end.is_end ≡ false → IsTrace s (trace_text (take end.taken all) ++ first_line left) → ⊥

-- the verdict after lines that took the first `taken` of these entries
abbrev pub Gives : ReplayEnd → Bool → List Entry → Verdict → Type 0
Gives end is_complete all (Run es) = (end.is_end ≡ true) × (is_complete ≡ true) × (es.items ≡ take end.taken all)
Gives end is_complete all (NoRun line es) =
    (end.is_end ≡ true → is_complete ≡ false) × (line ≡ end.taken + 1) × (es.items ≡ take end.taken all)
