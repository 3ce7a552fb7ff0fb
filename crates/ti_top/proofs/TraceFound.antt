-- From the verdict on a trace to what a call says of it.
use Rattle.std.proofs.Common.{◌≡◌, ◌⊎◌, inl, inr, ℕ, List, refl, sym, ◌∙◌, ap, subst}
use Rattle.ti_io.specs.Source.{SourceState, Holds}
use Rattle.ti_lang.specs.Program.Classes.{ProgramView}
use Rattle.ti_lang.specs.Meaning.Processes.{RunConfig}
use Rattle.ti_lang.specs.Meaning.Races.{races}
use Rattle.ti_lang.specs.Meaning.Spots.{races_told}
use Rattle.ti_lang.specs.Meaning.Runs.{IsRun, IsComplete}
use Rattle.ti_trace_check.specs.Verdicts.{IsTraceOf, IsWrongAt}
use Rattle.ti_words.specs.declared.job.Job.{Job}
use Rattle.ti_top.specs.declared.exit.Exit.{Exit}
use Rattle.ti_top.specs.declared.exit.Exit.TheVariants.{Done, NoRun}
use Rattle.ti_top.specs.Exit.{status_of}
use Rattle.ti_top.specs.Run.{run_of}
use Rattle.ti_top.specs.CommandCall.{CommandCall}
use Rattle.ti_top.specs.Traces.{IsTraced, IsWrongTrace, TraceDecides}
use Rattle.ti_top.specs.Mirrors.Compiling.{IsCompiled}
use Rattle.ti_top.specs.Mirrors.Verifying.{HasOneVerdict, FoundRun, FoundWrong, HeldText, WasRead}
use Rattle.ti_top.proofs.TraceRead.{says_before}

-- a verdict was found on the trace of a call that ends so
pub record Verdict (before : Exit) (job : Job) (c : CommandCall) : Type 0 where
  pub program : ProgramView
  pub compiled : IsCompiled c.text program
  pub known : (before ≡ Done) ⊎ ((line : ℕ) × (before ≡ NoRun line))
  pub run : IsRun (run_of program job) c.history
  pub listed : races_told c.history ≡ races c.history
  pub alone : HasOneVerdict (run_of program job)
  pub traced : before ≡ Done → IsTraced job c
  pub told : before ≡ Done → (bytes : List ℕ) → Holds c.source job.against bytes → IsTraceOf (run_of program job) bytes c.history
  pub wrong : (line : ℕ) → before ≡ NoRun line → IsWrongTrace job c line
  pub told_wrong : (line : ℕ) → before ≡ NoRun line → (bytes : List ℕ) → Holds c.source job.against bytes → IsWrongAt (run_of program job) bytes line c.history

-- the trace is that of a complete run
pub verdict_run : (job : Job) (c : CommandCall) (mid : SourceState) → WasRead c.source mid → HeldText Done job c.text mid c.source_after c.history → Verdict Done job c
verdict_run job c mid read held = record {
  program = held.program;
  compiled = held.compiled;
  known = inl refl;
  run = x.found.run;
  listed = x.found.listed;
  alone = x.found.alone;
  traced = λ _. record {
    there = x.found.there;
    complete = λ p has. subst (λ q. IsComplete (run_of q job) c.history) (sym (held.compiled.only p has)) x.complete;
    told = λ p has bytes holds. subst (λ q. IsTraceOf (run_of q job) bytes c.history) (sym (held.compiled.only p has)) (x.told bytes holds);
  };
  told = λ _. x.told;
  wrong = λ line e. absurd (let y = e in cc);
  told_wrong = λ line e. absurd (let y = e in cc);
}
  where
    x : FoundRun (run_of held.program job) job.against c.source c.history
    x = says_before Done (run_of held.program job) job.against c.source mid c.source_after c.history read held.says

same_line : (a b : ℕ) → NoRun a ≡ NoRun b → a ≡ b
same_line a b e = cc

-- the trace is wrong at a line
pub verdict_wrong : (line : ℕ) (job : Job) (c : CommandCall) (mid : SourceState) → WasRead c.source mid → HeldText (NoRun line) job c.text mid c.source_after c.history → Verdict (NoRun line) job c
verdict_wrong line job c mid read held = record {
  program = held.program;
  compiled = held.compiled;
  known = inr (line, refl);
  run = x.found.run;
  listed = x.found.listed;
  alone = x.found.alone;
  traced = λ e. absurd (let y = e in cc);
  told = λ e. absurd (let y = e in cc);
  wrong = λ other e. subst (IsWrongTrace job c) (same_line line other e) is_wrong;
  told_wrong = λ other e bytes holds. subst (λ l. IsWrongAt (run_of held.program job) bytes l c.history) (same_line line other e) (x.told bytes holds);
}
  where
    x : FoundWrong (run_of held.program job) job.against c.source line c.history
    x = says_before (NoRun line) (run_of held.program job) job.against c.source mid c.source_after c.history read held.says

    is_wrong : IsWrongTrace job c line
    is_wrong = record {
      there = x.found.there;
      number = x.number;
      told = λ p has bytes holds. subst (λ q. IsWrongAt (run_of q job) bytes line c.history) (sym (held.compiled.only p has)) (x.told bytes holds);
    }

-- the bytes of the trace decide the status
pub decides : (before : Exit) (job : Job) (c : CommandCall) (x : Verdict before job c) → c.status ≡ status_of before → (bytes : List ℕ)
    → Holds c.source job.against bytes → TraceDecides (run_of x.program job) bytes c
decides before job c x is bytes holds = by x.known
  where
    s : RunConfig
    s = run_of x.program job

    by : (before ≡ Done) ⊎ ((line : ℕ) × (before ≡ NoRun line)) → TraceDecides s bytes c
    by (inl e) =
        let told : IsTraceOf s bytes c.history = x.told e bytes holds in
        record {
          run = λ es trace. (is ∙ ap status_of e, x.alone.one_run bytes c.history es told trace);
          no_run = λ none. absurd (none c.history told);
          wrong = λ line es wrong. absurd (x.alone.not_both bytes line c.history es told wrong);
        }
    by (inr k) =
        let told : IsWrongAt s bytes k.0 c.history = x.told_wrong k.0 k.1 bytes holds in
        record {
          run = λ es trace. absurd (x.alone.not_both bytes k.0 es c.history trace told);
          no_run = λ _. is ∙ ap status_of k.1;
          wrong = λ line es wrong. (is ∙ ap status_of k.1, x.alone.one_line bytes k.0 line c.history es told wrong);
        }
