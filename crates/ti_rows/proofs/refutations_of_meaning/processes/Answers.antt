use Rattle.std.proofs.Common.{◌≡◌, ℕ, ◌≤◌, true, false, List, [], ◌∷◌, refl, arith}
use Rattle.ti_base.specs.declared.place.Place.{Place}
use Rattle.ti_base.specs.declared.action.Action.{Action}
use Rattle.ti_base.specs.declared.entry.Next.TheVariants as next
use Rattle.ti_base.specs.declared.entry.Answer.{Answer}
use Rattle.ti_base.specs.declared.entry.Answer.TheVariants.{Done}
use Rattle.ti_lang.specs.Meaning.Comp.{CompResult, Gives}
use Rattle.ti_lang.specs.Meaning.NextStep.{none, here}
use Rattle.ti_lang.proofs.Lemmas.{after_pays, only_acts}
use Rattle.ti_rows.specs.Texts.{pl}
use Rattle.ti_rows.specs.Refuted.Things.{fresh, ended_process, a_departure}
use Rattle.ti_rows.proofs.Reached.{rest_of, settles}
use Rattle.ti_rows.proofs.refutations_of_meaning.processes.Goals as goal

pub returns-clause-itself : goal.returns-clause-itself
returns-clause-itself c = none

pub returns-clause-an_answer_for_nothing : goal.returns-clause-an_answer_for_nothing
returns-clause-an_answer_for_nothing c = λ w.
    let k : 1 ≤ 0 = after_pays (fresh 0) (fresh 0) (Done ∷ []) w in
    omega (arith, k)

pub returns-clause-the_arrival : goal.returns-clause-the_arrival
returns-clause-the_arrival c = (rest_of (fresh 0), settles (fresh 0) _ refl)

end_act : (p q : Place) (a : Action) → next.End p ≡ next.Act q a → ⊥
end_act p q a e = cc

pub returns-clause-an_answer_behind_the_end : goal.returns-clause-an_answer_behind_the_end
returns-clause-an_answer_behind_the_end c = λ q w.
    let k = only_acts ended_process q (next.End (pl 1 76)) Done (ended_process, record { reaches = here; stands = refl }) w in
    end_act _ _ _ k.2

pub returns-clause-it_asks : goal.returns-clause-it_asks
returns-clause-it_asks c = (_, _, refl)

true_false : true ≡ false → ⊥
true_false e = cc

pub returns-clause-an_end_is_asked : goal.returns-clause-an_end_is_asked
returns-clause-an_end_is_asked c = λ f. true_false (f _ _ refl).0

one_left : ◌≡◌ {A = CompResult ℕ} (Gives 1 []) (Gives 0 (Done ∷ [])) → ⊥
one_left e = cc

pub returns-clause-all_answers_are_counted : goal.returns-clause-all_answers_are_counted
returns-clause-all_answers_are_counted c = λ f. one_left (f [] (Done ∷ []) 0 refl)

some_none : ◌≡◌ {A = List Answer} (Done ∷ []) [] → ⊥
some_none e = cc

pub returns-clause-an_answer_is_left : goal.returns-clause-an_answer_is_left
returns-clause-an_answer_is_left c = λ f. some_none (f [] (Done ∷ []) a_departure Done 0 refl refl)
