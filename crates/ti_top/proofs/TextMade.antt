-- From what was made of a seed to the clause on the text.
use Rattle.std.proofs.Common.{◌≡◌, ◌⊎◌, inl, inr, [], ◌∙◌, ap, arith}
use Rattle.ti_top.specs.declared.exit.Exit.{Exit}
use Rattle.ti_top.specs.declared.exit.Exit.TheVariants.{CantRead, NoMemory}
use Rattle.ti_words.specs.declared.job.Job.{Job}
use Rattle.ti_top.specs.Exit.{status_of}
use Rattle.ti_top.specs.CommandCall.{CommandCall, IsPreempted}
use Rattle.ti_top.specs.Clauses.{IsGenerated, MakesText}
use Rattle.ti_top.proofs.StatusFrom.{StatusFrom, not_five, is_cant_read}

-- the text was made, or it ran out of memory before
pub makes_text : (before : Exit) (job : Job) (c : CommandCall) → c.source_after ≡ c.source → IsGenerated job c ⊎ ((c.text ≡ []) × (before ≡ NoMemory))
    → (before ≡ CantRead → ⊥) → StatusFrom before c → MakesText job c
makes_text before job c unread made other from = record {
  made = elim made [ inl is ↦ inl is | inr empty ↦ inr (empty.0, short empty.1) ];
  source_as_before = unread;
  never_four = λ is. other (is_cant_read before (not_five before 4 c from is (λ e. omega arith)));
}
  where
    short : before ≡ NoMemory → IsPreempted c
    short is = elim from [ inl same ↦ inl (same ∙ ap status_of is) | inr cut ↦ inr (cut.0, inr cut.1) ]
