use Rattle.std.proofs.Common.{◌≡◌, [], refl}
use Rattle.ti_base.specs.declared.action.Action.{Action}
use Rattle.ti_base.specs.declared.entry.Next.TheVariants as next
use Rattle.ti_base.specs.declared.place.Place.{Place}
use Rattle.ti_code.specs.Follows as code
use Rattle.ti_code.specs.Machine.{first}
use Rattle.ti_rows.specs.Refuted.Codes.{prints_at, stops, the_end, the_print}
use Rattle.ti_rows.proofs.NextOfCode.{next_is, next_behind}
use Rattle.ti_rows.proofs.refutations_of_walks.machines.Goals as goal

act_end : (p q : Place) (a : Action) → next.Act p a ≡ next.End q → ⊥
act_end p q a e = cc

end_act : (p q : Place) (a : Action) → next.End p ≡ next.Act q a → ⊥
end_act p q a e = cc

pub returns-clause-the_print : goal.returns-clause-the_print
returns-clause-the_print c = (_, code.on refl code.here, refl)

pub returns-clause-an_end_beside_it : goal.returns-clause-an_end_beside_it
returns-clause-an_end_beside_it c = λ f.
    let code = prints_at 62 in
    end_act _ _ _ (next_is code _ [] the_end _ refl (next_behind code (first code 2 1000 0) _ [] [] the_end refl f))

pub returns-clause-an_end : goal.returns-clause-an_end
returns-clause-an_end c = (_, code.here, refl)

pub returns-clause-no_print : goal.returns-clause-no_print
returns-clause-no_print c = λ f. act_end _ _ _ (next_is stops (first stops 2 1000 0) [] the_print _ refl f)
