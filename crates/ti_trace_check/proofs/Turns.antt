-- What the turn of a process makes of all processes.
use Rattle.std.proofs.Common.{◌≡◌, ℕ, ◌+◌, ◌<◌, List, length, get_or, slice_set, ◌∙◌, arith, length-set}
use Rattle.ti_base.specs.declared.entry.Entry.{Entry}
use Rattle.ti_lang.specs.Meaning.Processes.{RunConfig}
use Rattle.ti_lang.specs.Meaning.Runs.{more}
use Rattle.ti_code.specs.Programs.{Code}
use Rattle.ti_watch.specs.Reports.{entry_text}
use Rattle.ti_pending.specs.declared.pending.PendingProc.{PendingProc}
use Rattle.ti_pending.specs.Acting.{steps_left, all_steps_left}
use Rattle.ti_pending.proofs.Lemmas.{seated_on, steps_set}
use Rattle.ti_trace_check.specs.Mirrors.Replaying.{faults_left, StepsOn, IsReplayState, turns_left, ReplaysEntry}

module _ (code : Code) (s : RunConfig) (es all : List Entry) (processes : List PendingProc) (i : ℕ) (old new : PendingProc) (g : StepsOn code s es i old all new) (x : IsReplayState code s es processes) (inside : i < length processes) (is : old ≡ get_or processes i old) where
  lighter_on : turns_left s all (slice_set processes i new) < turns_left s es processes
  lighter_on =
      fewer (all_steps_left s (slice_set processes i new)) (steps_left s old) (all_steps_left s processes) (steps_left s new) (faults_left all) (faults_left es)
      (steps_set s processes i old new inside is) g.lighter
    where
      fewer : (a b c d f h : ℕ) → a + b ≡ c + d → d + f < b + h → a + f < c + h
      fewer a b c d f h k m = omega arith

  -- the run goes on by the entry of the line
  pub goes_on : (line : List ℕ) → line ≡ entry_text (length es) g.takes.entry → ReplaysEntry code s es processes all (slice_set processes i new) line
  goes_on line text = record {
    entry = g.takes.entry;
    after = g.takes.after;
    text = text;
    stands = record {
      run = more x.run g.takes.can g.takes.after;
      count = length-set processes i new ∙ x.count;
      seated = seated_on code s es all processes i new g.seated inside g.takes x.seated;
    };
    lighter = lighter_on;
  }
