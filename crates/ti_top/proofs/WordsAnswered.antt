-- From the ending of a call to the clause on its words.
use Rattle.std.proofs.Common.{◌≡◌, inl, inr, [], arith}
use Rattle.ti_top.specs.declared.exit.Exit.{Exit}
use Rattle.ti_top.specs.declared.exit.Exit.TheVariants.{NoCommand, CantWrite}
use Rattle.ti_words.specs.declared.job.Job.{Job}
use Rattle.ti_top.specs.Exit.{status_of}
use Rattle.ti_top.specs.CommandCall.{CommandCall, IsCommand, IsNoCommand}
use Rattle.ti_top.specs.Clauses.{AnswersWords}
use Rattle.ti_top.specs.Mirrors.JobView.{artifacts_in, RanNothing}
use Rattle.ti_top.proofs.StatusFrom.{StatusFrom, not_five, is_no_command}

pub known : (before : Exit) (c : CommandCall) → StatusFrom before c → (ending : Exit) × (c.status ≡ status_of ending)
known before c (inl same) = (before, same)
known before c (inr cut) = (CantWrite, cut.0)

-- words are a command or none
pub not_both : (c : CommandCall) (job : Job) → IsCommand c job → IsNoCommand c → ⊥
not_both c job some none = cc

-- the words are no command, and nothing was done
pub no_command_answers : (c : CommandCall) → IsNoCommand c → c.source_after ≡ c.source → c.text ≡ [] → RanNothing c.out c.out_after (artifacts_in c) → StatusFrom NoCommand c → AnswersWords c
no_command_answers c none source text nothing from = record {
  known = known NoCommand c from;
  only_where = λ _. none;
  everywhere = λ _. elim from [ inl same ↦ inl same | inr cut ↦ inr (inr (cut.0, inr cut.1)) ];
  source_as_before = λ _. source;
  no_text = λ _. text;
  no_code = λ _. nothing.no_code;
  no_history = λ _. nothing.no_entry;
  no_count = λ _. nothing.no_count;
}

-- the words are a command
pub command_answers : (before : Exit) (c : CommandCall) (job : Job) → IsCommand c job → (before ≡ NoCommand → ⊥) → StatusFrom before c → AnswersWords c
command_answers before c job some other from = record {
  known = known before c from;
  only_where = λ is. absurd (other (is_no_command before (not_five before 3 c from is (λ e. omega arith))));
  everywhere = λ none. absurd (not_both c job some none);
  source_as_before = λ none. absurd (not_both c job some none);
  no_text = λ none. absurd (not_both c job some none);
  no_code = λ none. absurd (not_both c job some none);
  no_history = λ none. absurd (not_both c job some none);
  no_count = λ none. absurd (not_both c job some none);
}
