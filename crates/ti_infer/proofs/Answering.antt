-- The solution of the constraints of a program is what inference returns.
use Rattle.std.proofs.Common.{◌≡◌, List, [], ◌++◌, false, Option, Some, None, IfSome, refl, sym, ◌∙◌, subst}
use Rattle.std.proofs.lemmas.Bool.{true≢false}
use Rattle.ti_base.specs.declared.place.Place.{Place}
use Rattle.ti_lang.specs.Program.Classes.{ProgramView}
use Rattle.ti_lang.specs.Numbering.{IsNumbered}
use Rattle.ti_rules.specs.TypeRules.{type_refusals}
use Rattle.ti_blame.specs.declared.mark.Mark.{Mark}
use Rattle.ti_blame.specs.declared.reason.Reason.{Reason}
use Rattle.ti_blame.specs.declared.implication.Implication.{Implication}
use Rattle.ti_blame.specs.Marks.{Marks, marks_of}
use Rattle.ti_blame.specs.Solutions.{IsSolution}
use Rattle.ti_blame.specs.Chains.{IsChain, CanHold}
use Rattle.ti_infer.specs.declared.inference.Solved.{Solved}
use Rattle.ti_infer.specs.declared.inference.Unaligned.{Unaligned}
use Rattle.ti_infer.specs.Stripped.{stripped, HavePlainResults}
use Rattle.ti_infer.specs.Candidates.{candidate_marks}
use Rattle.ti_infer.specs.Accepted.{IsAccepted}
use Rattle.ti_infer.specs.Limited.{every_one, counts_to}
use Rattle.ti_infer.specs.Inferred.{IsAcceptedTo}
use Rattle.ti_infer.specs.Answer.{IsGreatestMarking, IsFirstUnaligned}
use Rattle.ti_infer.specs.Unaligned.{GivesUnaligned}
use Rattle.ti_infer.specs.Mirrors.Implications.{all_reasons, program_edges}
use Rattle.ti_infer.specs.Mirrors.Fits.{fit_edges}
use Rattle.ti_infer.specs.Mirrors.Solution.{AreInferred, IsSolved, GivesChainTo}
use Rattle.ti_infer.proofs.Descending.{by_rules, fewer_keep}
use Rattle.ti_infer.proofs.LimitedRules.{limited_by_reasons}
use Rattle.ti_infer.proofs.StrippedResults.{stripped_plain}
use Rattle.ti_infer.proofs.NoMainCalls.{none_always}
use Rattle.ti_infer.proofs.Inferring.{inferred}

plain_results : (p : ProgramView) → stripped p ≡ p → HavePlainResults p.methods
plain_results p plain = subst (λ (q : ProgramView). HavePlainResults q.methods) plain (stripped_plain p)

pub are_inferred : (p : ProgramView) (marks : List Mark) (first : Option Place) → ∥ IsNumbered p ∥₁ → type_refusals p ≡ [] → stripped p ≡ p
    → IsSolution (candidate_marks p) (all_reasons p) (program_edges p ++ fit_edges p) marks first → AreInferred p marks first
are_inferred p marks first numbered types plain settled =
    record { settled = settled; inferred = inferred p (candidate_marks p) marks first types (plain_results p plain) (none_always p numbered types plain) settled }

-- what is accepted is so up to each collective
accepted_to : (p : ProgramView) (a : Marks) (last : Option Place) → HavePlainResults p.methods → IsAccepted p a → IsAcceptedTo last p a
accepted_to p a last plain h = record {
  types = h.types;
  single = limited_by_reasons (counts_to last) p a plain (fewer_keep (counts_to last) every_one p a (λ at k. refl) (by_rules p a h.single));
}

pub is_greatest : (p : ProgramView) (marks : List Mark) → AreInferred p marks None → IsGreatestMarking p marks
is_greatest p marks h = record { names = h.settled.part; accepted = h.inferred.accepted refl; greatest = h.inferred.greatest; rises = h.settled.rises }

pub is_first : (p : ProgramView) (marks : List Mark) (at : Place) → stripped p ≡ p → AreInferred p marks (Some at) → IsFirstUnaligned p at
is_first p marks at plain h = record {
  never = λ a names accepted. h.inferred.none a names (accepted_to p a (Some at) (plain_results p plain) accepted);
  collective = h.inferred.collective;
  none = h.inferred.none;
  sooner = λ c before. (marks_of marks, h.settled.part, h.inferred.sooner c before);
}

-- ---- chains

-- what holds of these constraints holds of those of the program
of_program : (P : List Mark → List Reason → List Implication → Type 0) (p : ProgramView) (found : Solved) → IsSolved p found
    → P found.names.items found.items.items found.edges.items → P (candidate_marks p) (all_reasons p) (program_edges p ++ fit_edges p)
of_program P p found is h =
    subst (P (candidate_marks p) (all_reasons p)) is.all_edges
    (subst (λ (items : List Reason). P (candidate_marks p) items found.edges.items) is.all_items
    (subst (λ (names : List Mark). P names found.items.items found.edges.items) is.all_names h))

-- the collective that the solution rules out can't hold
cannot_hold : (p : ProgramView) (found : Solved) (at : Place) → IsSolved p found → found.solution.blamed ≡ Some at
    → CanHold (candidate_marks p) (all_reasons p) (program_edges p ++ fit_edges p) at → ⊥
cannot_hold p found at is blamed can =
    true≢false (sym can.4 ∙ subst (λ (o : Option Place). IfSome o (λ x. can.0 x ≡ false)) blamed (is.solved.settled.first can.0 can.1 can.2 can.3))

pub chained : (p : ProgramView) (found : Solved) (at : Place) (o : Option Unaligned) → stripped p ≡ p → IsSolved p found → found.solution.blamed ≡ Some at
    → GivesChainTo found at o → GivesUnaligned p o
chained p found at None plain is blamed can =
    absurd (cannot_hold p found at is blamed (of_program (λ names items edges. CanHold names items edges at) p found is can))
chained p found at (Some u) plain is blamed (here, chain) = record {
  first = subst (IsFirstUnaligned p) (sym here) (is_first p found.solution.marks.items at plain (subst (AreInferred p found.solution.marks.items) blamed is.solved));
  chain = subst (λ (x : Place). IsChain (candidate_marks p) (all_reasons p) (program_edges p ++ fit_edges p) x u.steps.items) (sym here)
      (of_program (λ names items edges. IsChain names items edges at u.steps.items) p found is chain);
}

pub unchained : (p : ProgramView) (found : Solved) → IsSolved p found → found.solution.blamed ≡ None → GivesUnaligned p None
unchained p found is none = (found.solution.marks.items, is_greatest p found.solution.marks.items (subst (AreInferred p found.solution.marks.items) none is.solved))
