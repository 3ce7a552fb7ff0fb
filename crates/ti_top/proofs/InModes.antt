-- What a text is refused for and accepted as in a mode; in every mode but infer its marks count.
use Rattle.std.proofs.Common.{◌≡◌, ℕ, List, [], refl, ap, sym, ◌∙◌, append-nil}
use Rattle.ti_rules.specs.declared.refusal.Refusal.{Refusal}
use Rattle.ti_rules.specs.RefusalOf.{IsRefusal}
use Rattle.ti_words.specs.declared.job.Job.{Job}
use Rattle.ti_words.specs.declared.job.Mode.{Mode}
use Rattle.ti_words.specs.declared.job.Mode.TheVariants.{Infer}
use Rattle.ti_top.specs.Run.{RunsProgram, Verifies, Infers}
use Rattle.ti_top.specs.CommandCall.{CommandCall}
use Rattle.ti_top.specs.Inference.{marks_text}
use Rattle.ti_top.specs.Clauses.{HasSomeProgram, IsAcceptedIn, IsRefusalIn, InfersMarks}
use Rattle.ti_top.specs.Mirrors.JobView.{RanNothing, artifacts_in}

-- no mode both runs a program and infers its marks
pub runs_marked : (mode : Mode) → RunsProgram mode → Infers mode → ⊥
runs_marked Infer runs infers = runs
runs_marked _ runs infers = infers

-- nor holds a trace against it
pub verifies_marked : (mode : Mode) → Verifies mode → Infers mode → ⊥
verifies_marked Infer verifies infers = verifies
verifies_marked _ verifies infers = infers

pub refusal_here : (mode : Mode) (text : List ℕ) (refusal : Refusal) → (Infers mode → ⊥) → IsRefusalIn mode text refusal → IsRefusal text refusal
refusal_here Infer text refusal marked is = absurd (marked tt)
refusal_here _ text refusal marked is = is

pub refusal_in : (mode : Mode) (text : List ℕ) (refusal : Refusal) → (Infers mode → ⊥) → IsRefusal text refusal → IsRefusalIn mode text refusal
refusal_in Infer text refusal marked is = absurd (marked tt)
refusal_in _ text refusal marked is = is

pub accepted_in : (mode : Mode) (text : List ℕ) → (Infers mode → ⊥) → HasSomeProgram text → IsAcceptedIn mode text
accepted_in Infer text marked has = absurd (marked tt)
accepted_in _ text marked has = has

-- marks aren't inferred
pub no_inference : (job : Job) (c : CommandCall) → (Infers job.mode → ⊥) → InfersMarks job c
no_inference job c marked = record {
  done = λ _ infers. absurd (marked infers);
  failed = λ _ infers. absurd (marked infers);
  unwritten = λ infers. absurd (marked infers);
}

-- there are none, and nothing was written
pub nothing_inferred : (job : Job) (c : CommandCall) → (c.status ≡ 0 → ⊥) → RanNothing c.out c.out_after (artifacts_in c) → InfersMarks job c
nothing_inferred job c not_done x = record {
  done = λ is. absurd (not_done is);
  failed = λ _ _ _ marks _. ([], (marks_text marks, refl), ap (λ s. s.taken) x.unwritten ∙ sym (append-nil c.out.taken));
  unwritten = λ _ _ _. ap (λ s. s.taken) x.unwritten;
}
