-- The instructions of a complete run are counted.
use Rattle.std.proofs.Common.{◌≡◌, inl, inr, ℕ, Some, sym, ◌∙◌, ap, subst}
use Rattle.ti_code.specs.Follows.{Follows}
use Rattle.ti_code.specs.Programs.{Code}
use Rattle.ti_lang.specs.Program.Classes.{ProgramView}
use Rattle.ti_lang.specs.Meaning.Processes.{RunConfig}
use Rattle.ti_lang.specs.Meaning.Runs.{IsComplete}
use Rattle.ti_lower.specs.Programs.{program_code}
use Rattle.ti_runtime.specs.declared.runner.How.{How}
use Rattle.ti_runtime.specs.declared.runner.How.TheVariants as how
use Rattle.ti_runtime.specs.declared.runner.RunEnd.{RunEnd}
use Rattle.ti_runtime.specs.Ran.{Ran, AreFinishedCounts}
use Rattle.ti_words.specs.declared.job.Job.{Job}
use Rattle.ti_top.specs.Run.{run_of}
use Rattle.ti_top.specs.Mirrors.JobView.{Artifacts}
use Rattle.ti_top.proofs.RunWritten.{IsByCode}

ended_not_memory : (h : How) → h ≡ how.Ended → h ≡ how.Memory → ⊥
ended_not_memory h x y = let e = sym x ∙ y in cc

faulted_not_memory : (h : How) → h ≡ how.Faulted → h ≡ how.Memory → ⊥
faulted_not_memory h x y = let e = sym x ∙ y in cc

-- a run that is complete didn't run out of memory
counted : (code : Code) (s : RunConfig) (workers : ℕ) (end : RunEnd) → Ran code s workers end → IsComplete s end.history.items
    → AreFinishedCounts code s end.history.items end.done.items
counted code s workers end ran (inl fault) = ran.done (faulted_not_memory end.how (ran.faulted.1 fault))
counted code s workers end ran (inr ended) = ran.done (ended_not_memory end.how (ran.ended.1 ended))

-- what is kept of a run by the code of a program
pub by_code : (p : ProgramView) (job : Job) (code : Code) (end : RunEnd) (k : Artifacts)
    → code ≡ program_code p → Follows code p → Ran code (run_of p job) job.workers end
    → k ≡ record { code = Some code; history = end.history.items; done = end.done.items } → IsByCode p job k
by_code p job code end k is follows ran same = subst (IsByCode p job) (sym same) (record {
  code = ap Some is;
  follows = subst (λ (c : Code). Follows c p) is follows;
  counted = λ complete. subst (λ (c : Code). AreFinishedCounts c (run_of p job) end.history.items end.done.items) is
      (counted code (run_of p job) job.workers end ran complete);
})
