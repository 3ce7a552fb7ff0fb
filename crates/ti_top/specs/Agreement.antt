-- The arguments and the files decide what a call does.
use Rattle.std.specs.Prelude.{◌≡◌, ℕ, true, List, []}
use Rattle.ti_io.specs.Source.{SameFiles}
use Rattle.ti_io.specs.Sink.{GrewBy}
use Rattle.ti_lang.specs.Meaning.Histories.{entries_of}
use Rattle.ti_lang.specs.Meaning.Races.{races}
use Rattle.ti_words.specs.declared.job.Job.{Job}
use Rattle.ti_top.specs.Run.{RunsProgram}
use Rattle.ti_top.specs.CommandCall.{CommandCall, IsCommand, SourceRose, OutRose, ErrRose}
use Rattle.ti_top.specs.Clauses.{KeepsContract}

-- no read or write of the call failed, and memory didn't run out
pub record IsUndisturbed (c : CommandCall) : Type 0 where
  pub source : SourceRose c → ⊥
  pub out : OutRose c → ⊥
  pub err : ErrRose c → ⊥
  pub memory : c.status ≡ 6 → ⊥

-- two calls with the same arguments, whose sources state the same files with the same bytes
pub record AskAlike (c d : CommandCall) : Type 0 where
  pub words : c.words ≡ d.words
  pub told : c.source.tells ≡ true
  pub files : SameFiles c.source d.source

-- the arguments give a run on several workers
pub record IsBySeveral (c : CommandCall) : Type 0 where
  pub job : Job
  pub command : IsCommand c job
  pub runs : RunsProgram job.mode
  pub several : job.workers ≡ 1 → ⊥

-- both standard outputs grew by this
abbrev pub BothGrew : CommandCall → CommandCall → List ℕ → Type 0
BothGrew c d text = GrewBy c.out c.out_after text × GrewBy d.out d.out_after text

-- Two calls have the same outcome: the same status, the same history and the same counts of instructions; and if the same watchers were handed
-- in and both standard outputs state what they take, the same output.
pub record EndSame (c d : CommandCall) : Type 0 where
  pub status : c.status ≡ d.status
  pub history : c.history ≡ d.history
  pub done : c.done ≡ d.done
  pub output : c.watchers ≡ d.watchers → c.out.tells ≡ true → d.out.tells ≡ true → (text : List ℕ) × BothGrew c d text

-- Each process did the same in two calls with the same status: it has the same entries in both histories, and finished as many
-- instructions.
pub record EachSame (c d : CommandCall) : Type 0 where
  pub status : c.status ≡ d.status
  pub entries : (i : ℕ) → entries_of i c.history ≡ entries_of i d.history
  pub done : c.done ≡ d.done

-- Two calls agree: they have the same text and the same code, and unless several workers run the program, the same outcome. Even with several
-- workers each process did the same in both, if in the first all processes ended and no entry of its history is part of a race.
pub record EndAlike (c d : CommandCall) : Type 0 where
  pub text : c.text ≡ d.text
  pub code : c.code ≡ d.code
  pub same : (IsBySeveral c → ⊥) → EndSame c d
  pub each : c.status ≡ 0 → races c.history ≡ [] → EachSame c d

-- two calls that keep the contract, with the same arguments and files, of which nothing failed, agree
abbrev pub OneEnding : Type 0
OneEnding = (c d : CommandCall) → KeepsContract c → KeepsContract d → AskAlike c d → IsUndisturbed c → IsUndisturbed d → EndAlike c d
