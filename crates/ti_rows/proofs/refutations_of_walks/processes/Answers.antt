use Rattle.std.proofs.Common.{◌≡◌, pos, true, false, Option, None, Some, refl, sym, ◌∙◌, ap, subst}
use Rattle.ti_base.specs.declared.action.Action.{Action}
use Rattle.ti_base.specs.declared.action.Action.TheVariants as act
use Rattle.ti_base.specs.declared.entry.Answer.TheVariants.{Done, Val}
use Rattle.ti_base.specs.declared.entry.Next.{Next}
use Rattle.ti_base.specs.declared.entry.Next.TheVariants as next
use Rattle.ti_base.specs.declared.place.Place.{Place}
use Rattle.ti_base.specs.declared.value.Value.{Value}
use Rattle.ti_base.specs.declared.value.Value.TheVariants as v
use Rattle.ti_lang.specs.Meaning.Comp.{Request}
use Rattle.ti_lang.specs.Meaning.Answers.{FitsWanted}
use Rattle.ti_lang.specs.Meaning.Histories.{is_end}
use Rattle.ti_lang.specs.Meaning.NextStep.{After, none, here, step_label}
use Rattle.ti_lang.specs.Meaning.Processes.{Process}
use Rattle.ti_lang.specs.Meaning.Steps.{Step, To, At, Ends, Faults, step}
use Rattle.ti_lang.proofs.Lemmas.{no_end_asked, next_some}
use Rattle.ti_exec.specs.Standing.{initial_process_of}
use Rattle.ti_rows.specs.Refuted.Things.{fresh}
use Rattle.ti_rows.proofs.Reached.{asks_once}
use Rattle.ti_rows.proofs.refutations_of_walks.processes.Goals as goal

pub returns-clause-something_is_next : goal.returns-clause-something_is_next
returns-clause-something_is_next c = λ s e.
    let w = next_some (initial_process_of s) in
    (w.0, (initial_process_of s, subst (λ rs. After (initial_process_of s) rs (initial_process_of s)) (sym e) none, w.1))

-- ---- no process asks for its end

true_false : true ≡ false → ⊥
true_false e = cc

none_some : (n : Next) → ◌≡◌ {A = Option Next} None (Some n) → ⊥
none_some n e = cc

same_action : (p q : Place) (a b : Action) → Some (next.Act p a) ≡ Some (next.Act q b) → a ≡ b
same_action p q a b e = cc

end_act : (p q : Place) (b : Action) → Some (next.End p) ≡ Some (next.Act q b) → ⊥
end_act p q b e = cc

no_end : (q : Process) (at : Place) (t : Step) → step q ≡ t → step_label t ≡ Some (next.Act at act.End) → ⊥
no_end q at (To p) e k = none_some _ k
no_end q at (At request go) e k =
    true_false (ap is_end (sym (same_action _ _ _ _ k)) ∙ (no_end_asked q request go e).0)
no_end q at (Ends place) e k = end_act _ _ _ k
no_end q at (Faults kind place) e k = by k
  where
    by : Some (next.Fault kind place) ≡ Some (next.Act at act.End) → ⊥
    by k = cc

pub returns-clause-an_end_as_an_action : goal.returns-clause-an_end_as_an_action
returns-clause-an_end_as_an_action c = λ s at x. no_end x.2.0 at (step x.2.0) refl x.2.1.stands

-- ---- answers

pub returns-clause-an_answer : goal.returns-clause-an_answer
returns-clause-an_answer c = record { settled = fresh 0; reaches = here; request = _; go = _; stands = refl; fits = refl }

value_done : (x : Value) → Val x ≡ Done → ⊥
value_done x e = cc

pub returns-clause-a_number_for_an_arrival : goal.returns-clause-a_number_for_an_arrival
returns-clause-a_number_for_an_arrival c = λ f.
    let same = asks_once (fresh 0) f.settled (fresh 0) f.request _ f.go _ f.reaches f.stands here refl in
    value_done _ (subst (λ (q : Request). FitsWanted q.wanted (Val (v.Int (pos 1)))) same f.fits)
